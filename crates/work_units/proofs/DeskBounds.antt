-- Two desks that began alike and took the same answers have the same bound.
use Rattle.std.proofs.Common.{◌≡◌, ℕ, inl, inr, ◌==◌, List, [], ◌∷◌, false, arith, sym, ap, subst, ◌∙◌}
use Rattle.std.specs.Prelude.{◌↔◌}
use Rattle.std.specs.List.{Contains}
use Rattle.pool_model.specs.Network.{Net}
use Rattle.row_model.specs.Trees.{IsLeaf, is_cut, tree_bound}
use Rattle.row_model.specs.Entries.{Entry, root_proof, split_of, improve, Searched, after, made_from, IsEntryInOrder, AreInOrderFrom}
use Rattle.row_model.proofs.TreeLaw.{cut_behind}
use Rattle.work_units.specs.Units.{Answer, node_of, Splits}
use Rattle.work_units.specs.Desks.{Desk, entries_of, IsFrom}
use Rattle.work_units.specs.Leaves.{AreLeafSplits, HaveSameEntries}
use Rattle.work_units.proofs.Lists.{cons-cases, cons-first, cons-later, or-parts}
use Rattle.work_units.proofs.Reordered.{same-leaves}
use Rattle.work_units.proofs.SameBounds.{same-bound}

-- ---- a node that is split was a leaf at the start

still-uncut : (s : Searched) (e : Entry) (node : ℕ) → is_cut (after s e).tree.splits node ≡ false → is_cut s.tree.splits node ≡ false
still-uncut s (split_of split left right) node h = (or-parts (is_cut s.tree.splits node) (split.leaf == node) (sym (cut_behind s.tree.splits split node) ∙ h)).0
still-uncut s (root_proof proof) node h = h
still-uncut s (improve plan) node h = h

uncut-now : (n : Net) (s : Searched) (e : Entry) (node : ℕ) → IsEntryInOrder n s e → Splits node e → is_cut s.tree.splits node ≡ false
uncut-now n s (split_of split left right) node order h = subst (λ (m : ℕ). is_cut s.tree.splits m ≡ false) h order.cuts.leaf.uncut
uncut-now n s (root_proof proof) node order h = absurd h
uncut-now n s (improve plan) node order h = absurd h

uncut-first : (n : Net) (s : Searched) (es : List Entry) (e : Entry) (node : ℕ) → AreInOrderFrom n s es → Contains es e → Splits node e → is_cut s.tree.splits node ≡ false
uncut-first n s [] e node order has h = absurd (omega (arith, has.1))
uncut-first n s (x ∷ es) e node order has h = elim (cons-cases x es e has) [
  | inl q ↦ uncut-now n s x node order.0 (subst (Splits node) (sym q) h)
  | inr later ↦ still-uncut s x node (uncut-first n (after s x) es e node order.1 later h)
]

-- ---- what answers bring

entry-of : (answers : List Answer) (e : Entry) → Contains (entries_of answers) e → (a : Answer) × Contains answers a × (a.entry ≡ e)
entry-of [] e has = absurd (omega (arith, has.1))
entry-of (a ∷ answers) e has = elim (cons-cases a.entry (entries_of answers) e has) [
  | inl q ↦ (a, cons-first a answers, q)
  | inr later ↦ let w = entry-of answers e later in (w.0, cons-later a answers w.0 w.1, w.2)
]

entry-among : (answers : List Answer) (a : Answer) → Contains answers a → Contains (entries_of answers) a.entry
entry-among [] a has = absurd (omega (arith, has.1))
entry-among (x ∷ answers) a has = elim (cons-cases x answers a has) [
  | inl q ↦ subst (λ (y : Answer). Contains (entries_of (x ∷ answers)) y.entry) q (cons-first x.entry (entries_of answers))
  | inr later ↦ cons-later x.entry (entries_of answers) a.entry (entry-among answers a later)
]

same-entries-of : (xs ys : List Answer) → ((a : Answer) → Contains xs a → Contains ys a) → (e : Entry) → Contains (entries_of xs) e → Contains (entries_of ys) e
same-entries-of xs ys h e has = let w = entry-of xs e has in subst (Contains (entries_of ys)) w.2 (entry-among ys w.0 (h w.0 w.1))

taken-splits : (n : Net) (s : Searched) (d : Desk) → IsFrom n s d → AreLeafSplits n s (entries_of d.taken)
taken-splits n s d is = record {
  splits = λ e has.
      let w = entry-of d.taken e has in
      let node = node_of d.jobs w.0.number in
      let splits : Splits node e = subst (Splits node) w.2 (is.splits w.0 w.1) in
      let leaf : IsLeaf s.tree.splits node = record { there = is.jobs.there w.0.number (is.known w.0 w.1); uncut = uncut-first n s (entries_of d.taken) e node is.in_order has splits } in
      (node, leaf, splits);
  in_order = is.in_order;
}

pub desks-bound : (n : Net) (s : Searched) (d e : Desk) → IsFrom n s d → IsFrom n s e → ((a : Answer) → Contains d.taken a ↔ Contains e.taken a)
    → tree_bound n d.searched.tree ≡ tree_bound n e.searched.tree
desks-bound n s d e one other same =
    let es = entries_of d.taken in
    let fs = entries_of e.taken in
    let same_entries : HaveSameEntries es fs = λ x.
    (same-entries-of d.taken e.taken (λ a. (same a).0) x, same-entries-of e.taken d.taken (λ a. (same a).1) x) in
    ap (λ (z : Searched). tree_bound n z.tree) one.made
    ∙ same-bound n (made_from s es).tree (made_from s fs).tree (same-leaves n s es fs one.began (taken-splits n s d one) (taken-splits n s e other) same_entries)
    ∙ sym (ap (λ (z : Searched). tree_bound n z.tree) other.made)
