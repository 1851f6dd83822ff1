-- Which cause comes first to refuse marks.
use Rattle.std.proofs.Common.{◌≡◌, ℕ, ◌<◌, ◌⊎◌, inl, inr, List, [], ◌∷◌, length, get_or, All, arith, refl, sym, ap, subst, ◌∙◌}
use Rattle.std.proofs.lemmas.List.{length-map, get_or-map}
use Rattle.std.proofs.lemmas.List.Elements.{All-contains}
use Rattle.faults.specs.First.{IsBelow}
use Rattle.faults.proofs.First.{first-of, lone-first}
use Rattle.pool_model.specs.Network.{Net}
use Rattle.row_model.specs.Trees.{Tree}
use Rattle.leaf_order.specs.Order.{leaf_at, no_leaf}
use Rattle.leaf_order.specs.declared.leaf.OpenLeaf.{OpenLeaf}
use Rattle.tight_texts.specs.declared.marks.LeafMark.{LeafMark}
use Rattle.tight_texts.specs.declared.marks.TightText.{TightText}
use Rattle.tight_checks.specs.declared.refusal.TightRefusal.{TightRefusal}
use Rattle.tight_checks.specs.declared.refusal.TightRefusal.TheVariants.{Text, Leaves, BadMark, WrongBound, Memory}
use Rattle.tight_checks.specs.Holding.{NamesLeaves, LineHolds, IsMarkedBound}
use Rattle.tight_checks.specs.Judging.{IsFirstBad}
use Rattle.tight_checks.specs.Refusals.{Refuses, IsBadMark, IsFirstRefusal, number, about}
use Rattle.tight_checks.proofs.Lists.{same-at}

module _ (n : Net) (tree : Tree) (text : TightText) where
  none_below_leaves : (r : TightRefusal) → number r < 2 → ¬ Refuses n tree text r
  none_below_leaves (Text line) lt h = h
  none_below_leaves Leaves lt h = absurd (omega (arith, lt))
  none_below_leaves (BadMark node) lt h = absurd (omega (arith, lt))
  none_below_leaves WrongBound lt h = absurd (omega (arith, lt))
  none_below_leaves Memory lt h = absurd (omega (arith, lt))

  pub leaves-first : ¬ NamesLeaves n tree text.marks.items → IsFirstRefusal n tree text Leaves
  leaves-first wrong = lone-first Leaves refl wrong record { none = none_below_leaves }

  module _ (names : NamesLeaves n tree text.marks.items) where
    none_below_marks : (r : TightRefusal) → number r < 3 → ¬ Refuses n tree text r
    none_below_marks (Text line) lt h = h
    none_below_marks Leaves lt h = h names
    none_below_marks (BadMark node) lt h = absurd (omega (arith, lt))
    none_below_marks WrongBound lt h = absurd (omega (arith, lt))
    none_below_marks Memory lt h = absurd (omega (arith, lt))

    same-length : length text.marks.items ≡ length names.leaves
    same-length = sym (length-map text.marks.items (λ line. line.node)) ∙ ap length names.named ∙ length-map names.leaves (λ leaf. leaf.node)

    at : (i : ℕ) (d : LeafMark) → i < length text.marks.items → (get_or text.marks.items i d).node ≡ (leaf_at names.leaves i).node
    at i d lt =
        let long = same-length in
        sym (get_or-map (λ (l : LeafMark). l.node) text.marks.items i d 0 lt) ∙ ap (λ (xs : List ℕ). get_or xs i 0) names.named
        ∙ get_or-map (λ (l : OpenLeaf). l.node) names.leaves i no_leaf 0 (omega (arith, long, lt))

    -- the nodes of the lines rise
    rising : (i j : ℕ) (d : LeafMark) → i < j → j < length text.marks.items → (get_or text.marks.items i d).node < (get_or text.marks.items j d).node
    rising i j d less lt =
        let long = same-length in
        let rise = names.are.rising i j less (omega (arith, long)) in
        let first = at i d (omega arith) in
        let second = at j d lt in
        omega (arith, rise, first, second)

    -- a bad mark of a node below that of the first one
    lower_bad : (r : TightRefusal) (bad : IsFirstBad n tree text r) (node : ℕ) → node < bad.line.node → ¬ IsBadMark n tree text node
    lower_bad r bad node less wrong =
        let k = wrong.here.0 in
        let there = wrong.here.1 in
        let at = wrong.here.2 in
        elim (order k bad.at) [
          | inl l ↦ wrong.wrong (subst (LineHolds n tree text.form text.pivots) at (bad.before k wrong.line l))
          | inr m ↦ elim m [
            | inl e ↦ let same : bad.line.node ≡ wrong.line.node =
                ap (λ (l : LeafMark). l.node) (sym bad.line_is) ∙ ap (λ (i : ℕ). (get_or text.marks.items i bad.line).node) (sym e)
                ∙ ap (λ (l : LeafMark). l.node) (same-at text.marks.items k bad.line wrong.line there ∙ at) in
                omega (arith, less, same, wrong.node_is)
            | inr l ↦ let above = rising bad.at k bad.line l there in
                let first : (get_or text.marks.items bad.at bad.line).node ≡ bad.line.node = ap (λ (x : LeafMark). x.node) bad.line_is in
                let later : (get_or text.marks.items k bad.line).node ≡ wrong.line.node = ap (λ (x : LeafMark). x.node) (same-at text.marks.items k bad.line wrong.line there ∙ at) in
                omega (arith, less, above, first, later, wrong.node_is)
          ]
        ]
      where
        order : (i k : ℕ) → (i < k) ⊎ ((i ≡ k) ⊎ (k < i))
        order i k = grind arith

    none_lower : (r : TightRefusal) (bad : IsFirstBad n tree text r) (g : TightRefusal) → number g ≡ 3 → IsBelow (about g) (bad.line.node ∷ []) → ¬ Refuses n tree text g
    none_lower r bad (Text line) e below h = h
    none_lower r bad Leaves e below h = absurd (omega (arith, e))
    none_lower r bad (BadMark node) (e) (inl less) h = lower_bad r bad node less h
    none_lower r bad (BadMark node) (e) (inr same) h = absurd same.1
    none_lower r bad WrongBound e below h = absurd (omega (arith, e))
    none_lower r bad Memory e below h = absurd (omega (arith, e))

    pub bad-first : (r : TightRefusal) → IsFirstBad n tree text r → IsFirstRefusal n tree text r
    bad-first r bad =
        subst (IsFirstRefusal n tree text) (sym bad.is)
        (first-of (BadMark bad.line.node) record { line = bad.line; here = (bad.at, bad.there, bad.line_is); node_is = refl; wrong = bad.wrong }
        record { none = none_below_marks } (none_lower r bad))

    module _ (marks : All (LineHolds n tree text.form text.pivots) text.marks.items) where
      none_below_bound : (r : TightRefusal) → number r < 4 → ¬ Refuses n tree text r
      none_below_bound (Text line) lt h = h
      none_below_bound Leaves lt h = h names
      none_below_bound (BadMark node) lt h = h.wrong (All-contains (LineHolds n tree text.form text.pivots) text.marks.items h.line marks h.here)
      none_below_bound WrongBound lt h = absurd (omega (arith, lt))
      none_below_bound Memory lt h = absurd (omega (arith, lt))

      pub bound-first : ¬ IsMarkedBound n tree text.marks.items text.bound → IsFirstRefusal n tree text WrongBound
      bound-first wrong = lone-first WrongBound refl wrong record { none = none_below_bound }
