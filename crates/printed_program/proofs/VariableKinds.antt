-- Variables by their kind: what stands at the number of each, and what holds of each holds of all.
use Rattle.std.proofs.Common.{◌≡◌, ℕ, ◌+◌, ◌-◌, ◌*◌, ◌<◌, ◌≤◌, ◌⊎◌, inl, inr, arith, subst, ◌∙◌}
use Rattle.integers.specs.Sums.{piece}
use Rattle.integers.proofs.ByIndex.{piece-first, piece-rest}
use Rattle.pool_model.specs.Network.{Net}
use Rattle.row_model.specs.Variables.{path_count, variables}

-- ---- numbers of variables

abbrev pub out_number : Net → ℕ → ℕ
out_number n o = n.feeds + o

abbrev pub direct_number : Net → ℕ → ℕ
direct_number n e = n.feeds + (n.outs + e)

abbrev pub path_number : Net → ℕ → ℕ
path_number n a = n.feeds + (n.outs + (n.directs + a))

abbrev pub proportion_number : Net → ℕ → ℕ
proportion_number n e = n.feeds + (n.outs + (n.directs + (path_count n + e)))

abbrev pub quality_number : Net → ℕ → ℕ
quality_number n i = n.feeds + (n.outs + (n.directs + (path_count n + (n.feeds + i))))

abbrev pub mixed_number : Net → ℕ → ℕ
mixed_number n i = n.feeds + (n.outs + (n.directs + (path_count n + (n.feeds + (n.pools * n.qualities + i)))))

-- ---- what stands there

-- functions of seven kinds, as one of the variable's number
abbrev pub by_kind : {X : Type 0} → Net → (x y z w proportion quality mixed : ℕ → X) → ℕ → X
by_kind n x y z w proportion quality mixed =
    piece n.feeds x (piece n.outs y (piece n.directs z (piece (path_count n) w (piece n.feeds proportion (piece (n.pools * n.qualities) quality mixed)))))

module _ {X : Type 0} (n : Net) (x y z w proportion quality mixed : ℕ → X) where
  abbrev cells : ℕ → X
  cells = piece (n.pools * n.qualities) quality mixed

  abbrev proportions : ℕ → X
  proportions = piece n.feeds proportion cells

  abbrev paths : ℕ → X
  paths = piece (path_count n) w proportions

  abbrev directs : ℕ → X
  directs = piece n.directs z paths

  abbrev outs : ℕ → X
  outs = piece n.outs y directs

  to_paths : (i : ℕ) → by_kind n x y z w proportion quality mixed (n.feeds + (n.outs + (n.directs + i))) ≡ paths i
  to_paths i = piece-rest n.feeds x outs (n.outs + (n.directs + i)) ∙ piece-rest n.outs y directs (n.directs + i) ∙ piece-rest n.directs z paths i

  to_cells : (i : ℕ) → by_kind n x y z w proportion quality mixed (n.feeds + (n.outs + (n.directs + (path_count n + (n.feeds + i))))) ≡ cells i
  to_cells i = to_paths (path_count n + (n.feeds + i)) ∙ piece-rest (path_count n) w proportions (n.feeds + i) ∙ piece-rest n.feeds proportion cells i

  pub at_feed : (e : ℕ) → e < n.feeds → by_kind n x y z w proportion quality mixed e ≡ x e
  at_feed e lt = piece-first n.feeds x outs e lt

  pub at_out : (o : ℕ) → o < n.outs → by_kind n x y z w proportion quality mixed (out_number n o) ≡ y o
  at_out o lt = piece-rest n.feeds x outs o ∙ piece-first n.outs y directs o lt

  pub at_direct : (e : ℕ) → e < n.directs → by_kind n x y z w proportion quality mixed (direct_number n e) ≡ z e
  at_direct e lt = piece-rest n.feeds x outs (n.outs + e) ∙ piece-rest n.outs y directs e ∙ piece-first n.directs z paths e lt

  pub at_path : (a : ℕ) → a < path_count n → by_kind n x y z w proportion quality mixed (path_number n a) ≡ w a
  at_path a lt = to_paths a ∙ piece-first (path_count n) w proportions a lt

  pub at_proportion : (e : ℕ) → e < n.feeds → by_kind n x y z w proportion quality mixed (proportion_number n e) ≡ proportion e
  at_proportion e lt = to_paths (path_count n + e) ∙ piece-rest (path_count n) w proportions e ∙ piece-first n.feeds proportion cells e lt

  pub at_quality : (i : ℕ) → i < n.pools * n.qualities → by_kind n x y z w proportion quality mixed (quality_number n i) ≡ quality i
  at_quality i lt = to_cells i ∙ piece-first (n.pools * n.qualities) quality mixed i lt

  pub at_mixed : (i : ℕ) → by_kind n x y z w proportion quality mixed (mixed_number n i) ≡ mixed i
  at_mixed i = to_cells (n.pools * n.qualities + i) ∙ piece-rest (n.pools * n.qualities) quality mixed i

-- ---- what holds of each variable

in_two : (m k : ℕ) (P : ℕ → Type 0) → ((i : ℕ) → i < m → P i) → ((i : ℕ) → i < k → P (m + i)) → (i : ℕ) → i < m + k → P i
in_two m k P first rest i h = elim (below_or_from i m) [
  | inl l ↦ first i l
  | inr g ↦ subst P (again i m g) (rest (i - m) (omega arith))
]
  where
    below_or_from : (i m : ℕ) → (i < m) ⊎ (m ≤ i)
    below_or_from i m = grind arith

    again : (i m : ℕ) → m ≤ i → m + (i - m) ≡ i
    again i m g = omega arith

-- kind by kind
pub record HoldsByNumber (n : Net) (P : ℕ → Type 0) : Type 0 where
  pub feed : (e : ℕ) → e < n.feeds → P e
  pub out : (o : ℕ) → o < n.outs → P (out_number n o)
  pub direct : (e : ℕ) → e < n.directs → P (direct_number n e)
  pub path : (a : ℕ) → a < path_count n → P (path_number n a)
  pub proportion : (e : ℕ) → e < n.feeds → P (proportion_number n e)
  pub quality : (i : ℕ) → i < n.pools * n.qualities → P (quality_number n i)
  pub mixed : (i : ℕ) → i < n.outs * n.qualities → P (mixed_number n i)

pub each_variable : (n : Net) (P : ℕ → Type 0) → HoldsByNumber n P → (v : ℕ) → v < variables n → P v
each_variable n P h =
    let pools = n.pools * n.qualities in
    let outs = n.outs * n.qualities in
    in_two n.feeds (n.outs + (n.directs + (path_count n + (n.feeds + (pools + outs))))) P h.feed
    (in_two n.outs (n.directs + (path_count n + (n.feeds + (pools + outs)))) (λ i. P (n.feeds + i)) h.out
    (in_two n.directs (path_count n + (n.feeds + (pools + outs))) (λ i. P (n.feeds + (n.outs + i))) h.direct
    (in_two (path_count n) (n.feeds + (pools + outs)) (λ i. P (n.feeds + (n.outs + (n.directs + i)))) h.path
    (in_two n.feeds (pools + outs) (λ i. P (n.feeds + (n.outs + (n.directs + (path_count n + i))))) h.proportion
    (in_two pools outs (λ i. P (n.feeds + (n.outs + (n.directs + (path_count n + (n.feeds + i)))))) h.quality h.mixed)))))
