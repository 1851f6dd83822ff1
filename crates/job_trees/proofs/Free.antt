-- Nodes that are neither cut nor given to one of the first so many jobs.
use Rattle.std.proofs.Common.{◌≡◌, ◌≢◌, ℕ, ◌+◌, ◌<◌, ◌≤◌, ◌⊎◌, inl, inr, List, length, get_or, set, Bool, true, false, arith, sym, ap, subst, ◌∙◌, get_or-set_same, get_or-set_other}
use Rattle.std.specs.Prelude.{◌↔◌}
use Rattle.std.proofs.lemmas.List.{length-set}
use Rattle.integers.proofs.AtKey.{same_or_other}
use Rattle.row_model.specs.Trees.{Split, nodes, is_cut, IsLeaf}
use Rattle.work_units.specs.Units.{no_job, node_of}
use Rattle.work_units.specs.declared.job.Job.{Job}
use Rattle.job_trees.specs.Fitting.{AreOnLeaves}

-- no split cuts the node, and none of the first so many jobs is on it
pub record IsFree (splits : List Split) (jobs : List Job) (count node : ℕ) : Type 0 where
  pub uncut : is_cut splits node ≡ false
  pub unasked : (k : ℕ) → k < count → node_of jobs k ≢ node

-- The first so many jobs are numbered in order, and on different leaves. For each node a mark says whether it is free.
pub record AreMarked (splits : List Split) (jobs : List Job) (count : ℕ) (marks : List Bool) : Type 0 where
  pub numbered : (k : ℕ) → k < count → (get_or jobs k no_job).number ≡ k
  pub leaves : (k : ℕ) → k < count → IsLeaf splits (node_of jobs k)
  pub apart : (i k : ℕ) → i < k → k < count → node_of jobs i ≢ node_of jobs k
  pub many : length marks ≡ nodes splits
  pub marked : (node : ℕ) → node < nodes splits → (get_or marks node false ≡ false) ↔ IsFree splits jobs count node

less_same_more : (i j : ℕ) → (i < j) ⊎ ((i ≡ j) ⊎ (j < i))
less_same_more i j = grind arith

before_or_last : (k count : ℕ) → k < count + 1 → (k < count) ⊎ (k ≡ count)
before_or_last k count h = grind arith

module _ (splits : List Split) (jobs : List Job) (count : ℕ) (marks : List Bool) (are : AreMarked splits jobs count marks) where
  -- one job more, on a node that is free
  pub marked-more : (get_or jobs count no_job).number ≡ count → node_of jobs count < length marks → get_or marks (node_of jobs count) false ≡ false
      → AreMarked splits jobs (count + 1) (set marks (node_of jobs count) true)
  marked-more numbered there unmarked =
      let at = node_of jobs count in
      let lt : at < nodes splits = omega (arith, there, are.many) in
      let free = (are.marked at lt).0 unmarked in
      record {
        numbered = λ k h. elim (before_or_last k count h) [
          | inl b ↦ are.numbered k b
          | inr e ↦ subst (λ (m : ℕ). (get_or jobs m no_job).number ≡ m) (sym e) numbered
        ];
        leaves = λ k h. elim (before_or_last k count h) [
          | inl b ↦ are.leaves k b
          | inr e ↦ subst (λ (m : ℕ). IsLeaf splits (node_of jobs m)) (sym e) record { there = lt; uncut = free.uncut }
        ];
        apart = λ i k l h. elim (before_or_last k count h) [
          | inl b ↦ are.apart i k l b
          | inr e ↦ λ same. free.unasked i (omega (arith, l, e)) (same ∙ ap (node_of jobs) e)
        ];
        many = length-set marks at true ∙ are.many;
        marked = λ node h. elim (same_or_other node at) [
          | inl e ↦ (
            λ f. absurd (let g : get_or (set marks at true) at false ≡ true = get_or-set_same marks at true false there in
                let k : get_or (set marks at true) at false ≡ false = sym (ap (λ (m : ℕ). get_or (set marks at true) m false) e) ∙ f in cc),
            λ is. absurd (is.unasked count (omega arith) (sym e)),
          )
          | inr other ↦ (
            λ f. let old = (are.marked node h).0 (sym (get_or-set_other marks at node true false other) ∙ f) in
                record { uncut = old.uncut; unasked = λ k l. unasked node other old k (before_or_last k count l) },
            λ is. get_or-set_other marks at node true false other ∙ (are.marked node h).1 record { uncut = is.uncut; unasked = λ k l. is.unasked k (omega arith) },
          )
        ];
      }
    where
      unasked : (node : ℕ) → node ≢ node_of jobs count → IsFree splits jobs count node → (k : ℕ) → (k < count) ⊎ (k ≡ count) → node_of jobs k ≢ node
      unasked node other old k (inl b) = old.unasked k b
      unasked node other old k (inr e) = λ same. other (sym same ∙ ap (node_of jobs) e)

  -- all of them
  pub marked-all : length jobs ≤ count → AreOnLeaves splits jobs
  marked-all le = record {
    are = record {
      numbered = λ k h. are.numbered k (omega arith);
      there = λ k h. (are.leaves k (omega arith)).there;
      apart = λ i k h l e. elim (less_same_more i k) [
        | inl less ↦ absurd (are.apart i k less (omega arith) e)
        | inr o ↦ elim o [ inl same ↦ same | inr more ↦ absurd (are.apart k i more (omega arith) (sym e)) ]
      ];
    };
    leaves = λ k h. are.leaves k (omega arith);
  }

  -- a job with another number, or on a node that is not free: they are not all numbered in order on different leaves
  pub not-next : count < length jobs
      → ¬ (((get_or jobs count no_job).number ≡ count) × (node_of jobs count < length marks) × (get_or marks (node_of jobs count) false ≡ false)) → ¬ AreOnLeaves splits jobs
  not-next h other on =
      let leaf = on.leaves count h in
      other (
        on.are.numbered count h,
        omega (arith, leaf.there, are.many),
        (are.marked (node_of jobs count) leaf.there).1 record {
          uncut = leaf.uncut;
          unasked = λ k lt e. let same : k ≡ count = on.are.apart k count (omega arith) h e in omega arith;
        },
      )
