-- The ends that are printed are those of the root box.
use Rattle.std.proofs.Common.{All, ◌≡◌, ℕ, ◌<◌, true, ℤ, pos, ◌*ℤ◌, ◌≤ℤ◌, unsigned_abs, arith, sym, ap, subst, ◌∙◌}
use Rattle.std.proofs.lemmas.Int.{ints}
use Rattle.integers.proofs.Ring.{linear}
use Rattle.pool_model.specs.Network.{Net}
use Rattle.row_model.specs.Boxes.{prop, qual, flow, root, root_low, root_high, prop_number, qual_number, flow_number}
use Rattle.row_model.specs.Variables.{variables, by_number, lows, highs}
use Rattle.row_model.proofs.Numbering.{coord_at-prop, coord_at-qual, coord_at-flow}
use Rattle.box_space.specs.declared.coordinates.Form.{Form}
use Rattle.program_text.specs.Names.{named, name_of, has_symbol}
use Rattle.program_text.specs.declared.names.Name.{Name}
use Rattle.printed_program.specs.ProgramLines.{ends}
use Rattle.printed_program.specs.Numbers.{Numbers, Keeps}
use Rattle.printed_program.specs.Printed.{variable_line, variable_lines}
use Rattle.printed_program.proofs.Lists.{All-lists_below, at-lists_below, All-optional, at-optional}

-- a number over a denominator lies between two ends
pub record IsWithin (base : ℕ) (least greatest value : ℤ) : Type 0 where
  pub low : (least *ℤ pos base) ≤ℤ value
  pub high : value ≤ℤ (greatest *ℤ pos base)

-- the variable lies between its ends, where the form has it
abbrev pub KeepsEnds : Net → Form → Numbers → ℕ → Type 0
KeepsEnds n form q v =
    has_symbol form (name_of n v).symbol ≡ true → IsWithin q.base (by_number n (lows n (root n)) v) (by_number n (highs n (root n)) v) (q.value (name_of n v))

-- of a variable whose name and ends are known
pub keeps-ends : (n : Net) (form : Form) (q : Numbers) (v : ℕ) (name : Name) (low high : ℤ) → name_of n v ≡ name
    → by_number n (lows n (root n)) v ≡ low → by_number n (highs n (root n)) v ≡ high
    → (has_symbol form name.symbol ≡ true → IsWithin q.base low high (q.value name)) → KeepsEnds n form q v
keeps-ends n form q v name low high named is_low is_high h has =
    subst (λ (x : Name). IsWithin q.base (by_number n (lows n (root n)) v) (by_number n (highs n (root n)) v) (q.value x)) (sym named)
    (subst (λ z. IsWithin q.base z (by_number n (highs n (root n)) v) (q.value name)) (sym is_low)
    (subst (λ z. IsWithin q.base low z (q.value name)) (sym is_high) (h (ap (λ (x : Name). has_symbol form x.symbol) (sym named) ∙ has))))

pub ends-kept : (n : Net) (form : Form) (q : Numbers) (v : ℕ) (name : Name) (low high : ℤ) → name_of n v ≡ name
    → by_number n (lows n (root n)) v ≡ low → by_number n (highs n (root n)) v ≡ high
    → has_symbol form name.symbol ≡ true → KeepsEnds n form q v → IsWithin q.base low high (q.value name)
ends-kept n form q v name low high named is_low is_high has h =
    subst (λ (x : Name). IsWithin q.base low high (q.value x)) named
    (subst (λ z. IsWithin q.base z high (q.value (name_of n v))) is_low
    (subst (λ z. IsWithin q.base (by_number n (lows n (root n)) v) z (q.value (name_of n v))) is_high (h (ap (λ (x : Name). has_symbol form x.symbol) named ∙ has))))

-- ---- all variables

pub variables-keep : (n : Net) (form : Form) (q : Numbers) → ((v : ℕ) → v < variables n → KeepsEnds n form q v) → All (Keeps q) (variable_lines n form)
variables-keep n form q h =
    All-lists_below (Keeps q) (variable_line n form) (variables n)
    (λ v lt. All-optional (Keeps q) (has_symbol form (name_of n v).symbol) (ends (name_of n v) (by_number n (lows n (root n)) v) (by_number n (highs n (root n)) v))
    (λ has. let within = h v lt has in (within.low, within.high)))

pub variables-kept : (n : Net) (form : Form) (q : Numbers) (v : ℕ) → All (Keeps q) (variable_lines n form) → v < variables n → KeepsEnds n form q v
variables-kept n form q v h lt has =
    let kept = at-optional (Keeps q) (has_symbol form (name_of n v).symbol) (ends (name_of n v) (by_number n (lows n (root n)) v) (by_number n (highs n (root n)) v)) has
    (at-lists_below (Keeps q) (variable_line n form) (variables n) v h lt) in
    record { low = kept.0; high = kept.1 }

-- ---- ends of the root box

pub proportion-low : (n : Net) (e : ℕ) → e < n.feeds → (root n).low (prop_number n e) ≡ root_low n (prop e)
proportion-low n e lt = ap (root_low n) (coord_at-prop n e lt)

pub proportion-high : (n : Net) (e : ℕ) → e < n.feeds → (root n).high (prop_number n e) ≡ root_high n (prop e)
proportion-high n e lt = ap (root_high n) (coord_at-prop n e lt)

pub quality-low : (n : Net) (l k : ℕ) → l < n.pools → k < n.qualities → (root n).low (qual_number n l k) ≡ root_low n (qual l k)
quality-low n l k lt lk = ap (root_low n) (coord_at-qual n l k lt lk)

pub quality-high : (n : Net) (l k : ℕ) → l < n.pools → k < n.qualities → (root n).high (qual_number n l k) ≡ root_high n (qual l k)
quality-high n l k lt lk = ap (root_high n) (coord_at-qual n l k lt lk)

pub flow-low : (n : Net) (o : ℕ) → o < n.outs → (root n).low (flow_number n o) ≡ root_low n (flow o)
flow-low n o lt = ap (root_low n) (coord_at-flow n o lt)

pub flow-high : (n : Net) (o : ℕ) → o < n.outs → (root n).high (flow_number n o) ≡ root_high n (flow o)
flow-high n o lt = ap (root_high n) (coord_at-flow n o lt)

-- ---- a number that is not below 0

pub unsigned : (z : ℤ) → pos 0 ≤ℤ z → pos (unsigned_abs z) ≡ z
unsigned z h = omega (arith, ints)

pub from_zero : (base : ℕ) (low high value : ℤ) → low ≡ pos 0 → IsWithin base low high value → pos 0 ≤ℤ value
from_zero base low high value e h = let under = h.low in omega (arith, linear, ap (λ z. z *ℤ pos base) e)
