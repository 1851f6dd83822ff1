-- On the program of a form the tried proofs name rows of the form alone.
use Rattle.std.proofs.Common.{◌≡◌, ℕ, ◌+◌, ◌^◌, ◌<◌, List, [], ◌∷◌, ◌++◌, map, All, IsTrue, arith, refl, sym, subst}
use Rattle.std.specs.List.{zip}
use Rattle.std.proofs.lemmas.List.Elements.{All-filter, All-map, All-cons, All-nil, All-head, All-tail, filter_passes}
use Rattle.integers.specs.Numbers.{tabulate}
use Rattle.integers.proofs.Tabulate.{All-tabulate}
use Rattle.pool_model.specs.Network.{Net}
use Rattle.row_model.specs.Boxes.{Box}
use Rattle.row_model.specs.Catalogue.{rows, row_count, network_families}
use Rattle.row_model.specs.Multipliers.{Part, Proof, Shown}
use Rattle.box_space.specs.declared.coordinates.Form.{Form}
use Rattle.box_space.specs.declared.coordinates.Form.TheVariants.{P, Q, Pq}
use Rattle.row_model.proofs.Families.{test_true}
use Rattle.linear_program.specs.declared.lp.Lp.{Lp}
use Rattle.linear_program.specs.declared.lp.LpRow.{LpRow}
use Rattle.linear_program.specs.declared.advice.Advice.{Advice}
use Rattle.dual_rounding.specs.Programs.{has_row, form_rows, numbers}
use Rattle.dual_rounding.specs.Price.{is_nonzero, price_part, price_proof}
use Rattle.dual_rounding.specs.Tried.{advised_part, advised_proof, tried}
use Rattle.dual_rounding.specs.Answers.{IsFirstGreatest}
use Rattle.dual_rounding.proofs.FormRows.{All-unmap}

-- a proof names rows of the form alone
abbrev pub IsNamed : Net → Form → Proof → Type 0
IsNamed n form p = All (λ q. IsTrue (has_row n form q.row)) p.parts

-- each form has the rows of the network
has-network : (n : Net) (form : Form) (id : ℕ) → id < row_count (network_families n) → IsTrue (has_row n form id)
unfolding has_row
has-network n P id lt = rw (test_true id (row_count (network_families n)) lt) refl
has-network n Q id lt = rw (test_true id (row_count (network_families n)) lt) refl
has-network n Pq id lt = rw (test_true id (row_count (network_families n)) lt) refl

price-named : (n : Net) (form : Form) → IsNamed n form (price_proof n)
price-named n form = All-filter is_nonzero (λ q. IsTrue (has_row n form q.row)) (tabulate (price_part n) n.pools)
    (All-tabulate (λ (q : Part). IsTrue (has_row n form q.row)) (price_part n) n.pools (λ l lt. has-network n form (n.sources + l) (omega arith)))

All-zip : {X Y : Type 0} (R : X → Type 0) (xs : List X) (ys : List Y) → All R xs → All (λ (p : X × Y). R p.0) (zip xs ys)
All-zip R [] ys h = All-nil _
All-zip R (x ∷ xs) [] h = All-nil _
All-zip R (x ∷ xs) (y ∷ ys) h = All-cons (λ (p : _ × _). R p.0) (x, y) (zip xs ys) (All-head R x xs h) (All-zip R xs ys (All-tail R x xs h))

rows-named : (n : Net) (form : Form) (lp : Lp) → numbers lp ≡ form_rows n form → All (λ r. IsTrue (has_row n form r.id)) lp.rows.items
rows-named n form lp e =
    All-unmap (λ id. IsTrue (has_row n form id)) (λ (r : LpRow). r.id) lp.rows.items
    (subst (λ (ids : List ℕ). All (λ id. IsTrue (has_row n form id)) ids) (sym e) (filter_passes (has_row n form) (tabulate (λ id. id) (rows n))))

advised-named : (n : Net) (form : Form) (lp : Lp) (advice : Advice) (scale : ℕ) → numbers lp ≡ form_rows n form → IsNamed n form (advised_proof lp advice scale)
advised-named n form lp advice scale e =
    let Named = λ (q : Part). IsTrue (has_row n form q.row) in
    All-filter is_nonzero Named (map (advised_part scale) (zip lp.rows.items advice.duals.items))
    (All-map Named (advised_part scale) (zip lp.rows.items advice.duals.items)
    (All-zip (λ (r : LpRow). IsTrue (has_row n form r.id)) lp.rows.items advice.duals.items (rows-named n form lp e)))

tried-named : (n : Net) (form : Form) (lp : Lp) (advice : Advice) → numbers lp ≡ form_rows n form → All (IsNamed n form) (tried n lp advice)
tried-named n form lp advice e =
    let at = advised_proof lp advice in
    let named = λ (scale : ℕ). advised-named n form lp advice scale e in
    let P = IsNamed n form in
    All-cons P (price_proof n) (at 1 ∷ at (2 ^ 10) ∷ at (2 ^ 20) ∷ at (2 ^ 30) ∷ []) (price-named n form)
    (All-cons P (at 1) (at (2 ^ 10) ∷ at (2 ^ 20) ∷ at (2 ^ 30) ∷ []) (named 1)
    (All-cons P (at (2 ^ 10)) (at (2 ^ 20) ∷ at (2 ^ 30) ∷ []) (named (2 ^ 10))
    (All-cons P (at (2 ^ 20)) (at (2 ^ 30) ∷ []) (named (2 ^ 20))
    (All-cons P (at (2 ^ 30)) [] (named (2 ^ 30)) (All-nil P)))))

All-middle : {X : Type 0} (R : X → Type 0) (before : List X) (x : X) (after : List X) → All R (before ++ x ∷ after) → R x
All-middle R [] x after h = All-head R x after h
All-middle R (y ∷ before) x after h = All-middle R before x after (All-tail R y (before ++ x ∷ after) h)

pub answer-named : (n : Net) (form : Form) (b : Box) (lp : Lp) (advice : Advice) (fallback : Shown) (p : Proof) → numbers lp ≡ form_rows n form
    → IsFirstGreatest n b (tried n lp advice) fallback p → IsNamed n form p
answer-named n form b lp advice fallback p e h =
    All-middle (IsNamed n form) h.before p h.after (subst (λ (ps : List Proof). All (IsNamed n form) ps) h.split (tried-named n form lp advice e))
