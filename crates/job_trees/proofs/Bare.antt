-- Splits without proofs, taken one after another.
use Rattle.std.proofs.Common.{◌≡◌, ℕ, zero, suc, ◌+◌, ◌-◌, ◌*◌, ◌<◌, ◌≤◌, List, [], ◌∷◌, ◌++◌, length, take, get_or, map, ◌≢◌, arith, refl, sym, ap, subst, ◌∙◌, append_assoc}
use Rattle.std.proofs.lemmas.List.{append-nil, map_more, map_push, take_all, take-map, get_or-map, length-map}
use Rattle.std.proofs.lemmas.Option.{none-some}
use Rattle.std.proofs.Math.Seq.{take-suc}
use Rattle.pool_model.specs.Network.{Net}
use Rattle.row_model.specs.Boxes.{Box}
use Rattle.row_model.specs.Trees.{Split, no_split, split_at, CutsLeaf, box_after, box_of, IsSplitInOrder, IsTree}
use Rattle.row_model.specs.Entries.{Entry, Searched, start, after, made_from, made_by, IsEntryInOrder}
use Rattle.row_model.proofs.TreeLaw.{length_before, box_is}
use Rattle.row_model.proofs.EntryLaw.{box_before}
use Rattle.box_space.specs.Views.{shown_split}
use Rattle.box_space.specs.declared.coordinates.Split as held
use Rattle.split_tree.specs.Splits.{tree_of}
use Rattle.box_tree.specs.declared.entry.EntryFault.{EntryFault}
use Rattle.box_tree.specs.declared.entry.EntryFault.TheVariants as entry_faults
use Rattle.job_trees.specs.Faults.{of_entry}
use Rattle.job_trees.specs.Fitting.{bare}
use Rattle.job_trees.specs.declared.fault.JobsFault.TheVariants.{Misfit, Memory}

-- ---- what they make

splits-from : (s : Searched) (xs : List Split) → (made_from s (map bare xs)).tree.splits ≡ s.tree.splits ++ xs
splits-from s [] = sym (append-nil s.tree.splits)
splits-from s (x ∷ xs) = splits-from (after s (bare x)) xs ∙ append_assoc s.tree.splits (x ∷ []) xs

-- a tree that is made of them has them
splits-made : (s : Searched) (xs : List Split) → s ≡ made_by (map bare xs) → s.tree.splits ≡ xs
splits-made s xs e = ap (λ (z : Searched). z.tree.splits) e ∙ splits-from start xs

made-push : (s : Searched) (es : List Entry) (e : Entry) → made_from s (es ++ e ∷ []) ≡ after (made_from s es) e
made-push s [] e = refl
made-push s (x ∷ es) e = made-push (after s x) es e

-- one more of a list
made-more : (xs : List held.Split) (i : ℕ) (d : held.Split) → i < length xs
    → made_by (map bare (map shown_split (take (i + 1) xs))) ≡ after (made_by (map bare (map shown_split (take i xs)))) (bare (shown_split (get_or xs i d)))
made-more xs i d h =
    let front = map shown_split (take i xs) in
    let s = shown_split (get_or xs i d) in
    ap (λ (ys : List Split). made_by (map bare ys)) (map_more shown_split xs i d h)
    ∙ ap made_by (map_push bare front s)
    ∙ made-push start (map bare front) (bare s)

-- ---- when they are in order

-- the box of a node does not change with later splits
box-later : (n : Net) (splits : List Split) (i more node : ℕ) → i + more ≤ length splits → node < 2 * i + 1 → box_of n (take (i + more) splits) node ≡ box_of n (take i splits) node
box-later n splits i zero node h lt = ap (λ (m : ℕ). box_of n (take m splits) node) (omega arith)
box-later n splits i (suc more) node h lt =
    ap (λ (m : ℕ). box_of n (take m splits) node) (one_more i more)
    ∙ ap (λ (xs : List Split). box_of n xs node) (take-suc splits (i + more) no_split (omega arith))
    ∙ box_before n (take (i + more) splits) (split_at splits (i + more)) node (omega (arith, length_before splits (i + more) (omega arith)))
    ∙ box-later n splits i more node (omega arith) lt
  where
    one_more : (i more : ℕ) → i + suc more ≡ suc (i + more)
    one_more i more = omega arith

-- what is in order cuts a leaf of the tree of the splits before it
cuts-next : (n : Net) (splits : List Split) (i : ℕ) → i < length splits → IsSplitInOrder n splits i
    → CutsLeaf n (take i splits) (box_of n (take i splits) (split_at splits i).leaf) (split_at splits i)
cuts-next n splits i h order =
    let s = split_at splits i in
    let lt : s.leaf < 2 * i + 1 = omega (arith, order.leaf.there, length_before splits i (omega arith)) in
    let whole : i + (length splits - i) ≡ length splits = omega arith in
    let same : box_after n splits i s.leaf ≡ box_of n (take i splits) s.leaf =
    sym (box_is n splits i s.leaf (omega arith) lt)
    ∙ ap (λ (xs : List Split). box_of n xs s.leaf) (sym (take_all (length splits) splits (omega arith)))
    ∙ ap (λ (m : ℕ). box_of n (take m splits) s.leaf) (sym whole)
    ∙ box-later n splits i (length splits - i) s.leaf (omega arith) lt in
    subst (λ (b : Box). CutsLeaf n (take i splits) b s) same order

-- each is in order as an entry, on the tree of those before it
bare-next : (n : Net) (splits : List Split) (i : ℕ) (s : Searched) → i < length splits → s.tree.splits ≡ take i splits → IsTree n (tree_of splits) → IsEntryInOrder n s (bare (split_at splits i))
bare-next n splits i s h e is =
    let split = split_at splits i in
    record {
      cuts = subst (λ (xs : List Split). CutsLeaf n xs (box_of n xs split.leaf) split) (sym e) (cuts-next n splits i h (is.splits i h));
      few = omega (arith, is.few, ap length e, length_before splits i (omega arith));
      left_proof = λ p none. absurd (none-some p none);
      right_proof = λ p none. absurd (none-some p none);
    }

-- ---- one after another of a list that is held

-- one more is taken
pub made-next : (xs : List held.Split) (i : ℕ) (d : held.Split) (s t : Searched) → i < length xs → s ≡ made_by (map bare (map shown_split (take i xs)))
    → t ≡ after s (bare (shown_split (get_or xs i d))) → t ≡ made_by (map bare (map shown_split (take (i + 1) xs)))
made-next xs i d s t h made next = next ∙ ap (λ (z : Searched). after z (bare (shown_split (get_or xs i d)))) made ∙ sym (made-more xs i d h)

-- the tree of all of them has their splits
pub splits-all : (xs : List held.Split) (i : ℕ) (s : Searched) → length xs ≤ i → s ≡ made_by (map bare (map shown_split (take i xs))) → s.tree.splits ≡ map shown_split xs
splits-all xs i s le made = splits-made s (map shown_split (take i xs)) made ∙ ap (map shown_split) (take_all i xs le)

-- one that is not in order: they are not those of a tree
pub refused-next : (n : Net) (xs : List held.Split) (i : ℕ) (d : held.Split) (s : Searched) → i < length xs → s ≡ made_by (map bare (map shown_split (take i xs)))
    → ¬ IsEntryInOrder n s (bare (shown_split (get_or xs i d))) → ¬ IsTree n (tree_of (map shown_split xs))
refused-next n xs i d s h made other is =
    let splits = map shown_split xs in
    let at : split_at splits i ≡ shown_split (get_or xs i d) = get_or-map shown_split xs i d no_split h in
    let front : s.tree.splits ≡ take i splits = splits-made s (map shown_split (take i xs)) made ∙ sym (take-map shown_split i xs) in
    other (subst (λ (z : Split). IsEntryInOrder n s (bare z)) at (bare-next n splits i s (omega (arith, h, length-map xs shown_split)) front is))

-- what is refused for another cause than memory
pub misfit-refused : (e : EntryFault) (P : Type 0) → (e ≢ entry_faults.Memory → ¬ P) → of_entry e ≡ Misfit → ¬ P
misfit-refused e P refused is = refused (λ q. let k : Memory ≡ Misfit = sym (ap of_entry q) ∙ is in cc)
