-- Each step leaves fewer steps.
use Rattle.std.proofs.Common.{◌≡◌, ℕ, ◌<◌, ◌≤◌, ◌==◌, ◌||◌, inl, inr, List, length, Bool, true, false, Option, Some, None, ℤ, arith, rules, refl, sym, ap, subst, ◌∙◌}
use Rattle.std.specs.Option.{ForSome}
use Rattle.std.proofs.lemmas.Option.{none-some}
use denote.Ref.{Bor}
use Rattle.pool_model.specs.Network.{Net}
use Rattle.pool_model.specs.Plan.{Written}
use Rattle.plan_core.specs.Views.{shown_plan}
use Rattle.plan_core.specs.declared.plan.Cost.{Cost}
use Rattle.row_model.specs.Multipliers.{Proof}
use Rattle.row_model.specs.Trees.{Split, is_cut}
use Rattle.row_model.specs.Entries as entries
use Rattle.row_model.specs.Entries.{Searched, IsEntryInOrder, IsPlanInOrder, after}
use Rattle.row_model.proofs.EntryLaw.{length-more}
use Rattle.row_model.proofs.TreeLaw.{cut_behind}
use Rattle.box_space.specs.Views.{shown_proof, shown_split}
use Rattle.box_tree.specs.Views.{shown_entry}
use Rattle.box_tree.specs.declared.entry.Entry.{Entry}
use Rattle.box_tree.specs.declared.entry.Entry.TheVariants.{Root, SplitOf, Improve}
use Rattle.box_tree.proofs.Improving.{IsLess}
use Rattle.branching.specs.Rows.{View}
use Rattle.plan_repair.specs.Choices.{is_less}
use Rattle.search_core.specs.Searches.{Costed, Searching, searched, IsStartOf, IsSearchOf}
use Rattle.search_core.specs.Cases.{IsBetterStart, HasNoBetterStart, IsRepairedAfter, IsRootOpen}
use Rattle.search_core.specs.Next.{IsEntry}
use Rattle.search_core.proofs.Starting.{better, no-better, none-better}
use Rattle.search_run.specs.Left.{counted, start_left, unproved, root_left, repair_left, left}
use Rattle.search_run.proofs.Covering.{none-after-start, none-after-plan}
use Rattle.search_run.proofs.Proofs.{root-proof}

-- ---- the starting plan

less-is : (a b : Cost) → is_less a b ≡ true → IsLess a b
less-is a b e = search rules

less-not : (a b : Cost) → is_less a b ≡ false → ¬ IsLess a b
less-not a b e = search rules

some_at : {X : Type 0} (P : X → Type 0) (x : X) → P x → ForSome (Some x) P
some_at {X} P x h y e = subst P (same x y e) h
  where
    same : (x y : X) → Some x ≡ Some y → x ≡ y
    same x y e = cc

-- where no starting plan is better, none is left
pub no-start-left : (n : Net) (s : Searching) → IsSearchOf n s → HasNoBetterStart n (searched s) → start_left s.start s.tree.kept.cost ≡ 0
no-start-left n s is none = by s.start s.tree.kept.cost refl is.start
  where
    by : (start : Option Costed) (cost : Option Cost) → s.tree.kept.cost ≡ cost → IsStartOf n start → start_left start cost ≡ 0
    by None cost e of = refl
    by (Some c) None e of =
        absurd (none c.plan (better n s.tree.kept is.tree.kept.cost c of (subst (λ (o : Option Cost). ForSome o (IsLess c.cost)) (sym e) (λ x f. absurd (none-some x f)))))
    by (Some c) (Some d) e of = by_test (is_less c.cost d) refl
      where
        by_test : (b : Bool) → is_less c.cost d ≡ b → counted b ≡ 0
        by_test false t = refl
        by_test true t =
            absurd (none c.plan (better n s.tree.kept is.tree.kept.cost c of (subst (λ (o : Option Cost). ForSome o (IsLess c.cost)) (sym e) (some_at (IsLess c.cost) d (less-is c.cost d t)))))

-- where a starting plan is better, it is left
pub one-start-left : (n : Net) (s : Searching) (w : Written) → IsSearchOf n s → IsBetterStart n (searched s) w → start_left s.start s.tree.kept.cost ≡ 1
one-start-left n s w is start = by s.start s.tree.kept.cost refl is.start
  where
    by : (start : Option Costed) (cost : Option Cost) → s.tree.kept.cost ≡ cost → IsStartOf n start → start_left start cost ≡ 1
    by None cost e of = absurd (none-better n s.tree.kept of w start)
    by (Some c) None e of = refl
    by (Some c) (Some d) e of = by_test (is_less c.cost d) refl
      where
        by_test : (b : Bool) → is_less c.cost d ≡ b → counted b ≡ 1
        by_test true t = refl
        by_test false t = absurd (no-better n s.tree.kept is.tree.kept.cost c of (λ h. less-not c.cost d t (h d e)) w start)

-- ---- the root

open-left : (cut : Bool) (proof : Option Proof) → cut ≡ false → proof ≡ None → root_left cut proof ≡ 1
open-left cut proof e f = ap (λ (b : Bool). root_left b proof) e ∙ ap (λ (o : Option Proof). unproved o) f

proved-left : (cut : Bool) (proof : Proof) → root_left cut (Some proof) ≡ 0
proved-left true proof = refl
proved-left false proof = refl

cut-left : (cut more : Bool) (proof : Option Proof) → root_left (cut || more) proof ≤ root_left cut proof
cut-left true more proof = omega arith
cut-left false true None = omega arith
cut-left false true (Some p) = omega arith
cut-left false false proof = omega arith

-- ---- a step

module _ (n : Net) (s t : Searching) (is : IsSearchOf n s) (now : IsSearchOf n t) (same : t.options ≡ s.options) where
  splits-of : (x : Searched) → searched t ≡ x → t.tree.kept.splits.list ≡ x.tree.splits
  splits-of x e = ap (λ (z : Searched). z.tree.splits) e

  proof-of : (x : Searched) → searched t ≡ x → (searched t).tree.proof 0 ≡ x.tree.proof 0
  proof-of x e = ap (λ (z : Searched). z.tree.proof 0) e

  root-same : (x : Searched) → searched t ≡ x → root_left (is_cut t.tree.kept.splits.list 0) ((searched t).tree.proof 0) ≡ root_left (is_cut x.tree.splits 0) (x.tree.proof 0)
  root-same x e = ap (λ (z : Searched). root_left (is_cut z.tree.splits 0) (z.tree.proof 0)) e

  length-same : (x : Searched) → searched t ≡ x → length t.tree.kept.splits.list ≡ length x.tree.splits
  length-same x e = ap (λ (z : Searched). length z.tree.splits) e

  nodes-same : t.options.nodes ≡ s.options.nodes
  nodes-same = ap (λ z. z.nodes) same

  none-now : (x : Searched) → searched t ≡ x → HasNoBetterStart n x → start_left t.start t.tree.kept.cost ≡ 0
  none-now x e none = no-start-left n t now (subst (HasNoBetterStart n) (sym e) none)

  -- a proof or a split leaves the best plan
  none-kept : (e : entries.Entry) → ((w : Written) → IsBetterStart n (after (searched s) e) w → IsBetterStart n (searched s) w) →
      HasNoBetterStart n (searched s) → HasNoBetterStart n (after (searched s) e)
  none-kept e back none = λ w b. none w (back w b)

  flag-same : t.repaired ≡ s.repaired → repair_left t.repaired ≡ repair_left s.repaired
  flag-same e = ap repair_left e

  flag-at : (b : Bool) → t.repaired ≡ b → repair_left t.repaired ≡ repair_left b
  flag-at b e = ap repair_left e

  start-nearer : (w : Written) → searched t ≡ after (searched s) (entries.improve w) → t.repaired ≡ s.repaired → IsBetterStart n (searched s) w → left t < left s
  start-nearer w made flag start =
      let x = after (searched s) (entries.improve w) in
      omega (arith, nodes-same, length-same x made, root-same x made, flag-same flag, one-start-left n s w is start, none-now x made (none-after-start n (searched s) w start.cheapest))

  repair-nearer : (w : Written) → searched t ≡ after (searched s) (entries.improve w) → s.repaired ≡ false → t.repaired ≡ true →
      IsPlanInOrder n (searched s) w → HasNoBetterStart n (searched s) → left t < left s
  repair-nearer w made before flag order none =
      let x = after (searched s) (entries.improve w) in
      let clear : repair_left s.repaired ≡ 1 = ap repair_left before in
      omega (
        arith,
        nodes-same,
        length-same x made,
        root-same x made,
        flag-at true flag,
        clear,
        none-now x made (none-after-plan n (searched s) w is.tree.kept.searched.written order.written order.cheaper none),
      )

  root-nearer : (p : Proof) → searched t ≡ after (searched s) (entries.root_proof p) → t.repaired ≡ false → IsRootOpen (searched s) → HasNoBetterStart n (searched s) → left t < left s
  root-nearer p made flag opens none =
      let x = after (searched s) (entries.root_proof p) in
      omega (
        arith,
        nodes-same,
        length-same x made,
        root-same x made ∙ proved-left (is_cut s.tree.kept.splits.list 0) p,
        flag-at false flag,
        open-left (is_cut s.tree.kept.splits.list 0) ((searched s).tree.proof 0) opens.1 opens.0,
        none-now x made (none-kept (entries.root_proof p) (λ w b. record { cheapest = b.cheapest; cheaper = b.cheaper }) none),
      )

  pub split-nearer : (split : Split) (l r : Option Proof) → searched t ≡ after (searched s) (entries.split_of split l r) → t.repaired ≡ false → length s.tree.kept.splits.list < s.options.nodes
      → HasNoBetterStart n (searched s) → left t < left s
  split-nearer split l r made flag few none =
      let x = after (searched s) (entries.split_of split l r) in
      let splits = s.tree.kept.splits.list in
      let root : root_left (is_cut x.tree.splits 0) (x.tree.proof 0) ≡ root_left (is_cut splits 0 || (split.leaf == 0)) ((searched s).tree.proof 0) =
      ap (λ (b : Bool). root_left b (x.tree.proof 0)) (cut_behind splits split 0)
      ∙ ap (λ (o : Option Proof). root_left (is_cut splits 0 || (split.leaf == 0)) o) (root-proof l r (searched s).tree.proof (length splits)) in
      omega (
        arith,
        nodes-same,
        length-same x made,
        length-more splits split,
        few,
        root-same x made ∙ root,
        cut-left (is_cut splits 0) (split.leaf == 0) ((searched s).tree.proof 0),
        flag-at false flag,
        none-now x made (none-kept (entries.split_of split l r) (λ w b. record { cheapest = b.cheapest; cheaper = b.cheaper }) none),
      )

  pub nearer : (post : Bor View → ℕ → Type 0) (tried : Option (List ℤ)) (e : Entry) →
      searched t ≡ after (searched s) (shown_entry e) → IsRepairedAfter n (searched s) (shown_entry e) s.repaired t.repaired
      → IsEntryInOrder n (searched s) (shown_entry e) → IsEntry n s.options (searched s) s.repaired tried post e → left t < left s
  nearer post tried (Improve plan) made flag order (inl start) = start-nearer (shown_plan plan) made (flag.started (shown_plan plan) start) start
  nearer post tried (Improve plan) made flag order (inr repair) =
      repair-nearer (shown_plan plan) made repair.clear (flag.repaired repair.rooted.apart.start) order repair.rooted.apart.start
  nearer post tried (Root proof) made flag order due = root-nearer (shown_proof proof) made flag due.1.is_open due.0.start
  nearer post tried (SplitOf split l r) made flag order due = split-nearer (shown_split split) _ _ made flag due.1 due.0.rooted.apart.start
