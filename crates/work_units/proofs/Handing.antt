-- Open leaves that are handed out are jobs on different nodes of the tree.
use Rattle.std.proofs.Common.{◌≡◌, ◌≢◌, ℕ, ◌<◌, ◌≤◌, ◌⊎◌, inl, inr, List, length, get_or, Option, Some, None, ℤ, arith, refl, sym, ap, subst, ◌∙◌}
use Rattle.std.proofs.lemmas.List.{get_or-take, length-take}
use Rattle.std.proofs.lemmas.List.Elements.{Contains-get_or}
use Rattle.integers.proofs.Ring.{additive}
use Rattle.pool_model.specs.Network.{Net}
use Rattle.row_model.specs.Trees.{Tree, nodes, leaf_bound}
use Rattle.box_tree.specs.Open.{MayHold, IsBefore, AreFirstOpen}
use Rattle.work_units.specs.Units.{node_of, AreJobs}
use Rattle.work_units.specs.Handed.{AreFirstJobs}
use Rattle.work_units.specs.declared.job.Job.{Job}

less-same-more : (i j : ℕ) → (i < j) ⊎ ((i ≡ j) ⊎ (j < i))
less-same-more i j = grind arith

-- a leaf that may hold a plan is not before itself
not-before : (n : Net) (tree : Tree) (a : ℕ) → MayHold n tree a → ¬ IsBefore n tree a a
not-before n tree a may before = go (leaf_bound n tree a) refl
  where
    go : (o : Option ℤ) → leaf_bound n tree a ≡ o → ⊥
    go None e = may.bounded e
    go (Some x) e = elim (before x x e e) [ inl h ↦ omega (arith, additive, h) | inr h ↦ omega (arith, h.1) ]

-- there are no more than were asked for
pub few-leaves : (n : Net) (tree : Tree) (most : ℕ) (leaves : List ℕ) → AreFirstOpen n tree most leaves → length leaves ≤ most
few-leaves n tree most leaves is = omega (arith, ap (λ (xs : List ℕ). length xs) is.first, length-take most is.all)

module _ (n : Net) (tree : Tree) (most : ℕ) (jobs : List Job) (is : AreFirstJobs n tree most jobs) where
  -- the place of a job is that of a leaf, and its node is this leaf
  place : (k : ℕ) → k < length jobs → k < length is.first.all
  place k h = omega (arith, is.each.many, ap (λ (xs : List ℕ). length xs) is.first.first, length-take most is.first.all, h)

  node-is : (k : ℕ) → k < length jobs → node_of jobs k ≡ get_or is.first.all k 0
  node-is k h =
      let few = few-leaves n tree most is.leaves is.first in
      ap (λ (j : Job). j.node) (is.each.each k (omega (arith, is.each.many, h)))
      ∙ ap (λ (xs : List ℕ). get_or xs k 0) is.first.first
      ∙ get_or-take most is.first.all k 0 (omega (arith, few, is.each.many, h))

  holds : (k : ℕ) → k < length jobs → MayHold n tree (get_or is.first.all k 0)
  holds k h = (is.first.are.members (get_or is.first.all k 0)).0 (Contains-get_or is.first.all k 0 (place k h))

  not-later : (j k : ℕ) → j < k → k < length jobs → node_of jobs j ≢ node_of jobs k
  not-later j k h lt e =
      let same : get_or is.first.all k 0 ≡ get_or is.first.all j 0 = sym (sym (node-is j (omega arith)) ∙ e ∙ node-is k lt) in
      not-before n tree (get_or is.first.all j 0) (holds j (omega arith))
      (subst (IsBefore n tree (get_or is.first.all j 0)) same (is.first.are.ordered j k h (place k lt)))

  pub are-jobs : AreJobs tree.splits jobs
  are-jobs = record {
    numbered = λ k h. ap (λ (j : Job). j.number) (is.each.each k (omega (arith, is.each.many, h)));
    there = λ k h. subst (λ (m : ℕ). m < nodes tree.splits) (sym (node-is k h)) (holds k h).there;
    apart = λ j k h lt e. elim (less-same-more j k) [
      | inl less ↦ absurd (not-later j k less lt e)
      | inr o ↦ elim o [ inl same ↦ same | inr more ↦ absurd (not-later k j more h (sym e)) ]
    ];
  }
