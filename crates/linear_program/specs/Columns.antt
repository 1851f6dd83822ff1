-- Which numbers name columns of a program.
use Rattle.std.specs.Prelude.{◌+◌, ◌<◌, ℕ, List, All, filter, nat_lt, vec_len}
use Rattle.linear_program.specs.declared.lp.Lp.{Lp}

-- each number of the list is that of a variable of the program or, past the last variable, of a row
abbrev pub NamesColumns : Lp → List ℕ → Type 0
NamesColumns lp list = All (λ n. n < vec_len lp.low + vec_len lp.rows) list

-- the numbers of a list that are such, in order
abbrev pub columns_in : Lp → List ℕ → List ℕ
columns_in lp list = filter (λ n. nat_lt n (vec_len lp.low + vec_len lp.rows)) list
