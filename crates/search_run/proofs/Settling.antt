-- What is chosen is due, and leaves fewer steps; or it is the end of the run.
use Rattle.std.proofs.Common.{◌≡◌, ℕ, ◌<◌, inr, length, List, Option, None, Some, option_map, ℤ, sym, subst, ◌∙◌}
use Rattle.std.proofs.lemmas.Option.{none-some}
use Rattle.pool_model.specs.Network.{Net}
use Rattle.row_model.specs.Trees.{IsLeastLeaf}
use Rattle.row_model.specs.Entries.{IsEntryInOrder}
use Rattle.box_space.specs.Views.{shown_proof, shown_split}
use Rattle.box_tree.specs.Views.{shown_entry}
use Rattle.box_tree.specs.declared.entry.Entry.{Entry}
use Rattle.box_tree.specs.declared.entry.Entry.TheVariants.{Root, SplitOf, Improve}
use Rattle.search_core.specs.Next.{IsDo, IsEntry, IsNext, IsRooted}
use Rattle.search_core.specs.Searches.{Searching, searched, IsSearchOf}
use Rattle.search_core.specs.declared.next.Next.{Next}
use Rattle.search_core.specs.declared.next.Next.TheVariants as next
use Rattle.search_core.specs.declared.options.Options.{Options}
use Rattle.search_run.specs.Due.{split_leaf, cut_leaf, IsChosenNext, IsSqueezeEntry, LeavesLess}
use Rattle.search_run.specs.Orders.{options_of, picked}
use Rattle.search_run.specs.Steps.{OwesNone}
use Rattle.search_run.specs.declared.orders.Orders.{Orders}
use Rattle.search_run.proofs.Nearer.{nearer, split-nearer}
use Rattle.search_run.proofs.Stepping.{due-of, next-end}

-- a leaf that is cut: it is the least one, while there are fewer splits than were asked for, and the root has what proof it can have
pub record IsCutLeaf (n : Net) (o : Orders) (s : Searching) (leaf : ℕ) : Type 0 where
  pub rooted : IsRooted n (options_of o) (searched s)
  pub least : IsLeastLeaf n (searched s).tree leaf
  pub few : length (searched s).tree.splits < o.nodes

module _ (n : Net) (o : Orders) (s : Searching) (is : IsSearchOf n s) (asked : s.options ≡ options_of o) where
  by-options : (tried : Option (List ℤ)) (due : Next) → IsNext n s.options (searched s) s.repaired tried (picked o.rule) due
      → IsNext n (options_of o) (searched s) s.repaired tried (picked o.rule) due
  by-options tried due h = subst (λ (x : Options). IsNext n x (searched s) s.repaired tried (picked o.rule) due) asked h

  -- ---- a split that is due

  cut-leaf : (tried : Option (List ℤ)) (e : Entry) (leaf : ℕ) → IsEntry n (options_of o) (searched s) s.repaired tried (picked o.rule) e → split_leaf e ≡ Some leaf
      → IsCutLeaf n o s leaf
  cut-leaf tried (SplitOf split left right) leaf due e = record {
    rooted = due.0.rooted;
    least = subst (IsLeastLeaf n (searched s).tree) (same split.leaf leaf e) due.2.leaf;
    few = due.1;
  }
    where
      same : (a b : ℕ) → Some a ≡ Some b → a ≡ b
      same a b e = cc
  cut-leaf tried (Root proof) leaf due e = absurd (none-some leaf e)
  cut-leaf tried (Improve plan) leaf due e = absurd (none-some leaf e)

  pub cut-due : (tried : Option (List ℤ)) (due : Next) (leaf : ℕ) → IsNext n s.options (searched s) s.repaired tried (picked o.rule) due → cut_leaf due ≡ Some leaf
      → IsCutLeaf n o s leaf
  cut-due tried (next.Do entry) leaf h e = cut-leaf tried entry leaf (by-options tried (next.Do entry) h) e
  cut-due tried (next.End ended) leaf h e = absurd (none-some leaf e)

  -- ---- what comes next for the search

  leaves-less : (tried : Option (List ℤ)) (e : Entry) → IsEntry n s.options (searched s) s.repaired tried (picked o.rule) e → IsEntryInOrder n (searched s) (shown_entry e)
      → LeavesLess n s (shown_entry e)
  leaves-less tried e due order t now same made flag = nearer n s t is now same (picked o.rule) tried e made flag order due

  -- it is no split, or one of this leaf
  pub no-cut : (due : Next) (leaf : ℕ) → cut_leaf due ≡ None → cut_leaf due ≡ Some leaf → OwesNone n o (searched s) leaf
  no-cut due leaf none some = absurd (none-some leaf (sym none ∙ some))

  pub one-cut : (due : Next) (leaf own : ℕ) → cut_leaf due ≡ Some own → OwesNone n o (searched s) own → cut_leaf due ≡ Some leaf → OwesNone n o (searched s) leaf
  one-cut due leaf own e owes some = subst (OwesNone n o (searched s)) (same own leaf (sym e ∙ some)) owes
    where
      same : (a b : ℕ) → Some a ≡ Some b → a ≡ b
      same a b e = cc

  -- it stands where no squeeze is owed
  pub kept-due : (tried : Option (List ℤ)) (due : Next) → IsNext n s.options (searched s) s.repaired tried (picked o.rule) due
      → IsDo (λ e. IsEntryInOrder n (searched s) (shown_entry e)) due → ((leaf : ℕ) → cut_leaf due ≡ Some leaf → OwesNone n o (searched s) leaf) → IsChosenNext n o s due
  kept-due tried (next.Do entry) h order owes = (
    order,
    due-of n o (searched s) s.repaired tried entry owes (by-options tried (next.Do entry) h),
    leaves-less tried entry h order,
  )
  kept-due tried (next.End ended) h order owes = next-end n o (searched s) s.options asked s.repaired tried ended h

  -- ---- a squeeze in place of a cut

  pub squeeze-due : (leaf : ℕ) (e : Entry) → IsCutLeaf n o s leaf → IsSqueezeEntry n o (searched s) e → IsChosenNext n o s (next.Do e)
  squeeze-due leaf (SplitOf split left right) cut squeeze = (
    squeeze.0,
    (cut.rooted, inr squeeze.1),
    λ t now same made flag.
        split-nearer n s t is now same (shown_split split) (option_map shown_proof left) (option_map shown_proof right) made flag
        (subst (λ (x : Options). length s.tree.kept.splits.list < x.nodes) (sym asked) cut.few) cut.rooted.apart.start,
  )
  squeeze-due leaf (Root proof) cut squeeze = absurd squeeze
  squeeze-due leaf (Improve plan) cut squeeze = absurd squeeze
