-- The coefficients of three variables, by number.
use Rattle.std.specs.Prelude.{ℕ, ◌+ℤ◌, ℤ}
use Rattle.row_model.specs.Envelopes.{Side}
use Rattle.row_model.specs.Catalogue.{when}
use Rattle.linear_program.specs.declared.terms.Term.{Term}

-- each of three terms' coefficients at its variable, and 0 elsewhere
abbrev pub three_coefs : Term → Term → Term → ℕ → ℤ
three_coefs x y z v = when v x.var x.coef +ℤ when v y.var y.coef +ℤ when v z.var z.coef

-- a side's coefficients at the numbers of a, b and w
abbrev pub side_coef : (a b w : ℕ) → Side → ℕ → ℤ
side_coef a b w s = three_coefs record { var = a; coef = s.of_a } record { var = b; coef = s.of_b } record { var = w; coef = s.of_w }
