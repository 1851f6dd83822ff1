-- The parts of a program's lines, what each says of flows, and the cost.
use Rattle.std.proofs.Common.{All, ◌≡◌, ℕ, ◌+◌, ◌*◌, ◌<◌, true, List, [], ◌∷◌, ◌++◌, pos, ◌≤ℤ◌, arith, refl}
use Rattle.std.proofs.lemmas.List.Elements.{All-nil, All-cons, All-tail, All-append}
use Rattle.integers.specs.Numbers.{tabulate}
use Rattle.integers.proofs.Ring.{additive}
use Rattle.integers.proofs.Tabulate.{All-tabulate}
use Rattle.pool_model.specs.Network.{Net}
use Rattle.row_model.specs.Boxes.{root}
use Rattle.row_model.specs.Variables.{PerVariable, path_count, variables, by_number, dot, costs, lows, highs}
use Rattle.row_model.specs.Catalogue.{Row, Family, HoldsOfEach}
use Rattle.row_model.specs.Lift.{MeetsRow}
use Rattle.row_book.specs.declared.catalogue.Group.{Group}
use Rattle.row_book.specs.declared.catalogue.Group.TheVariants as groups
use Rattle.row_book.specs.Exact.{first_of, exact_count}
use Rattle.box_space.specs.declared.coordinates.Form.{Form}
use Rattle.box_space.specs.declared.coordinates.Form.TheVariants.{P, Q, Pq}
use Rattle.program_text.specs.Names.{named, name_of, has_symbol}
use Rattle.program_text.specs.declared.names.Symbol.TheVariants as symbols
use Rattle.printed_program.specs.ProgramLines.{ProgramLine, of_form, least, ends, finish}
use Rattle.printed_program.specs.Numbers.{Numbers, Keeps, cost_in, cost_at}
use Rattle.printed_program.specs.Printed.{named_terms, variable_line, variable_lines, catalogue_row, group_rows, mixed_product, path_product, form_rows, program_lines}
use Rattle.printed_program.proofs.Lists.{All-front, All-behind, All-lists_below, All-optional, int_sum_by-nothing}
use Rattle.printed_program.proofs.VariableKinds.{out_number, direct_number, path_number, proportion_number}
use Rattle.printed_program.proofs.Terms.{AreNamed, terms-dot, name-feed, name-out, name-direct, name-path, name-proportion, number-feed, number-out, number-direct, number-path, number-proportion}
use Rattle.printed_program.proofs.Ends.{IsWithin, ends-kept, variables-kept, proportion-low, flow-low, from_zero}

-- ---- parts

pub record KeepsParts (n : Net) (form : Form) (q : Numbers) : Type 0 where
  pub variables : All (Keeps q) (variable_lines n form)
  pub network : All (Keeps q) (group_rows n groups.Network)
  pub own : All (Keeps q) (form_rows n form)

pub to_parts : (n : Net) (form : Form) (q : Numbers) → All (Keeps q) (program_lines n form) → KeepsParts n form q
to_parts n form q h =
    let last = finish ∷ [] in
    let own = form_rows n form ++ last in
    let rows = group_rows n groups.Network ++ own in
    let body = variable_lines n form ++ rows in
    let cost = least (named_terms n (by_number n (costs n))) in
    let of_body = All-tail (Keeps q) cost body (All-tail (Keeps q) (of_form form) (cost ∷ body) h) in
    let of_rows = All-behind (Keeps q) (variable_lines n form) rows of_body in
    record {
      variables = All-front (Keeps q) (variable_lines n form) rows of_body;
      network = All-front (Keeps q) (group_rows n groups.Network) own of_rows;
      own = All-front (Keeps q) (form_rows n form) last (All-behind (Keeps q) (group_rows n groups.Network) own of_rows);
    }

pub from_parts : (n : Net) (form : Form) (q : Numbers) → KeepsParts n form q → All (Keeps q) (program_lines n form)
from_parts n form q h =
    let last = finish ∷ [] in
    let own = form_rows n form ++ last in
    let rows = group_rows n groups.Network ++ own in
    let body = variable_lines n form ++ rows in
    let cost = least (named_terms n (by_number n (costs n))) in
    All-cons (Keeps q) (of_form form) (cost ∷ body) tt
    (All-cons (Keeps q) cost body tt
    (All-append (Keeps q) (variable_lines n form) rows h.variables
    (All-append (Keeps q) (group_rows n groups.Network) own h.network
    (All-append (Keeps q) (form_rows n form) last h.own
    (All-cons (Keeps q) finish [] tt (All-nil (Keeps q)))))))

-- ---- rows

pub each-both : (A B C : Row → Type 0) (fs : List Family) → ((r : Row) → A r → B r → C r) → HoldsOfEach A fs → HoldsOfEach B fs → HoldsOfEach C fs
each-both A B C [] both h k = tt
each-both A B C (f ∷ fs) both h k = (λ i lt. both (f.row i) (h.0 i lt) (k.0 i lt), each-both A B C fs both h.1 k.1)

-- ---- flows lie between their ends, and neither they nor proportions and flows along paths are below 0

module _ (n : Net) (form : Form) (q : Numbers) (h : All (Keeps q) (variable_lines n form)) where
  pub feed-within : (e : ℕ) → e < n.feeds → has_symbol form symbols.Feed ≡ true → IsWithin q.base (pos 0) ((highs n (root n)).x e) (q.value (named symbols.Feed e))
  feed-within e lt has =
      ends-kept n form q e (named symbols.Feed e) (pos 0) ((highs n (root n)).x e) (name-feed n e lt) (number-feed n (lows n (root n)) e lt) (number-feed n (highs n (root n)) e lt) has
      (variables-kept n form q e h (omega arith))

  pub out-within : (o : ℕ) → o < n.outs → has_symbol form symbols.Out ≡ true → IsWithin q.base ((lows n (root n)).y o) ((highs n (root n)).y o) (q.value (named symbols.Out o))
  out-within o lt has =
      ends-kept n form q (out_number n o) (named symbols.Out o) ((lows n (root n)).y o) ((highs n (root n)).y o)
      (name-out n o lt) (number-out n (lows n (root n)) o lt) (number-out n (highs n (root n)) o lt) has
      (variables-kept n form q (out_number n o) h (omega arith))

  pub direct-within : (e : ℕ) → e < n.directs → has_symbol form symbols.Direct ≡ true → IsWithin q.base (pos 0) ((highs n (root n)).z e) (q.value (named symbols.Direct e))
  direct-within e lt has =
      ends-kept n form q (direct_number n e) (named symbols.Direct e) (pos 0) ((highs n (root n)).z e)
      (name-direct n e lt) (number-direct n (lows n (root n)) e lt) (number-direct n (highs n (root n)) e lt) has
      (variables-kept n form q (direct_number n e) h (omega arith))

  pub feed-signed : (e : ℕ) → e < n.feeds → has_symbol form symbols.Feed ≡ true → pos 0 ≤ℤ q.value (named symbols.Feed e)
  feed-signed e lt has = from_zero q.base (pos 0) ((highs n (root n)).x e) (q.value (named symbols.Feed e)) refl (feed-within e lt has)

  pub out-signed : (o : ℕ) → o < n.outs → has_symbol form symbols.Out ≡ true → pos 0 ≤ℤ q.value (named symbols.Out o)
  out-signed o lt has = from_zero q.base ((lows n (root n)).y o) ((highs n (root n)).y o) (q.value (named symbols.Out o)) (flow-low n o lt) (out-within o lt has)

  pub direct-signed : (e : ℕ) → e < n.directs → has_symbol form symbols.Direct ≡ true → pos 0 ≤ℤ q.value (named symbols.Direct e)
  direct-signed e lt has = from_zero q.base (pos 0) ((highs n (root n)).z e) (q.value (named symbols.Direct e)) refl (direct-within e lt has)

  pub path-signed : (a : ℕ) → a < path_count n → has_symbol form symbols.Path ≡ true → pos 0 ≤ℤ q.value (named symbols.Path a)
  path-signed a lt has =
      from_zero q.base (pos 0) ((highs n (root n)).w a) (q.value (named symbols.Path a)) refl
      (ends-kept n form q (path_number n a) (named symbols.Path a) (pos 0) ((highs n (root n)).w a)
      (name-path n a lt) (number-path n (lows n (root n)) a lt) (number-path n (highs n (root n)) a lt) has
      (variables-kept n form q (path_number n a) h (omega arith)))

  pub proportion-signed : (e : ℕ) → e < n.feeds → has_symbol form symbols.Proportion ≡ true → pos 0 ≤ℤ q.value (named symbols.Proportion e)
  proportion-signed e lt has =
      from_zero q.base ((lows n (root n)).proportion e) ((highs n (root n)).proportion e) (q.value (named symbols.Proportion e)) (proportion-low n e lt)
      (ends-kept n form q (proportion_number n e) (named symbols.Proportion e) ((lows n (root n)).proportion e) ((highs n (root n)).proportion e)
      (name-proportion n e lt) (number-proportion n (lows n (root n)) e lt) (number-proportion n (highs n (root n)) e lt) has
      (variables-kept n form q (proportion_number n e) h (omega arith)))

-- every form has flows
pub has-feeds : (form : Form) → has_symbol form symbols.Feed ≡ true
has-feeds P = refl
has-feeds Q = refl
has-feeds Pq = refl

pub has-outs : (form : Form) → has_symbol form symbols.Out ≡ true
has-outs P = refl
has-outs Q = refl
has-outs Pq = refl

pub has-directs : (form : Form) → has_symbol form symbols.Direct ≡ true
has-directs P = refl
has-directs Q = refl
has-directs Pq = refl

-- ---- the cost

-- only one line adds to the cost
abbrev IsFree : Numbers → ProgramLine → Type 0
IsFree q line = cost_in q line ≡ pos 0

free-variables : (n : Net) (form : Form) (q : Numbers) → All (IsFree q) (variable_lines n form)
free-variables n form q =
    All-lists_below (IsFree q) (variable_line n form) (variables n)
    (λ v lt. All-optional (IsFree q) (has_symbol form (name_of n v).symbol) (ends (name_of n v) (by_number n (lows n (root n)) v) (by_number n (highs n (root n)) v)) (λ has. refl))

free-group : (n : Net) (group : Group) (q : Numbers) → All (IsFree q) (group_rows n group)
free-group n group q = All-tabulate (IsFree q) (λ i. catalogue_row n (first_of n group + i)) (exact_count n group) (λ i lt. refl)

free-paths : (n : Net) (q : Numbers) → All (IsFree q) (tabulate (path_product n) (path_count n))
free-paths n q = All-tabulate (IsFree q) (path_product n) (path_count n) (λ i lt. refl)

free-form : (n : Net) (form : Form) (q : Numbers) → All (IsFree q) (form_rows n form)
free-form n P q =
    All-append (IsFree q) (group_rows n groups.P) (tabulate (mixed_product n) (n.outs * n.qualities)) (free-group n groups.P q)
    (All-tabulate (IsFree q) (mixed_product n) (n.outs * n.qualities) (λ i lt. refl))
free-form n Q q = All-append (IsFree q) (group_rows n groups.Q) (tabulate (path_product n) (path_count n)) (free-group n groups.Q q) (free-paths n q)
free-form n Pq q =
    All-append (IsFree q) (group_rows n groups.Q ++ tabulate (path_product n) (path_count n)) (group_rows n groups.Further)
    (All-append (IsFree q) (group_rows n groups.Q) (tabulate (path_product n) (path_count n)) (free-group n groups.Q q) (free-paths n q))
    (free-group n groups.Further q)

pub cost-dot : (n : Net) (form : Form) (q : Numbers) (a : PerVariable) → AreNamed n q.value a → cost_at (program_lines n form) q ≡ dot n (costs n) a
cost-dot n form q a h =
    let body = variable_lines n form ++ (group_rows n groups.Network ++ (form_rows n form ++ finish ∷ [])) in
    let free = int_sum_by-nothing (cost_in q) body
    (All-append (IsFree q) (variable_lines n form) (group_rows n groups.Network ++ (form_rows n form ++ finish ∷ [])) (free-variables n form q)
    (All-append (IsFree q) (group_rows n groups.Network) (form_rows n form ++ finish ∷ []) (free-group n groups.Network q)
    (All-append (IsFree q) (form_rows n form) (finish ∷ []) (free-form n form q)
    (All-cons (IsFree q) finish [] refl (All-nil (IsFree q)))))) in
    omega (arith, additive, free, terms-dot n q (costs n) a h)
