-- When the run of a box gives a reason for which a leaf stays loose.
use Rattle.std.specs.Prelude.{◌⊎◌, ℕ, ◌≤◌, ℤ}
use Rattle.exact_num.specs.Fraction.{Fraction}
use Rattle.exact_num.specs.Views.{shown_frac}
use Rattle.exact_run.specs.Programs.{Program}
use Rattle.exact_run.specs.States.{State}
use Rattle.exact_run.specs.Runs.{Reaches, IsSolved, IsEmpty, IsWrittenWithin}
use Rattle.exact_run.specs.declared.ends.End.{End}
use Rattle.exact_pivots.specs.Runs.{GoesOn}
use Rattle.pool_model.specs.Network.{Net}
use Rattle.row_model.specs.Multipliers.{Proof}
use Rattle.box_space.specs.Views.{shown_proof}
use Rattle.box_space.specs.declared.coordinates.Form.{Form}
use Rattle.relaxation_points.specs.Views.{shown_point}
use Rattle.common_denominators.specs.Multiples.{IsCoarseIn}
use Rattle.tight_leaf.specs.Points.{IsCoarseValue, IsPointOf}
use Rattle.tight_leaf.specs.Proofs.{IsMultiplier, IsMultiplierPast, IsScaledProof, IsBareProof}
use Rattle.leaf_marks.specs.declared.mark.Reason.{Reason}
use Rattle.leaf_marks.specs.declared.mark.Reason.TheVariants.{Pivots, Wide, Coarse, HeavyProof, HeavyPoint}

-- the run ends within so many steps in this state
abbrev pub EndsAt : Program → ℕ → State → Type 0
EndsAt p pivots s = (steps : ℕ) × (steps ≤ pivots) × Reaches p steps s

-- within so many steps with a point
pub record EndsSolved (p : Program) (pivots : ℕ) (s : State) : Type 0 where
  pub comes : EndsAt p pivots s
  pub solved : IsSolved p s

-- within so many steps without one, as the column of the place is past this end
pub record EndsEmpty (p : Program) (pivots : ℕ) (s : State) (place : ℕ) (side : End) : Type 0 where
  pub comes : EndsAt p pivots s
  pub end : ℤ
  pub empty : IsEmpty p s place side end

-- the run ends, and its point or its multipliers have no common denominator that is short enough
abbrev pub HasCoarse : Program → ℕ → ℕ → Fraction → Type 0
HasCoarse p pivots times x =
    ((s : State) × EndsSolved p pivots s × (IsCoarseValue p s times x ⊎ IsCoarseIn (IsMultiplier p s) times x))
    ⊎ ((s : State) × (place : ℕ) × (side : End) × EndsEmpty p pivots s place side × IsCoarseIn (IsMultiplierPast p s place side) times x)

-- the proof is that of the run
abbrev pub IsRunProof : Net → Form → Program → ℕ → Proof → Type 0
IsRunProof n form p pivots proof =
    ((s : State) × EndsSolved p pivots s × IsScaledProof n form (IsMultiplier p s) proof)
    ⊎ ((s : State) × (place : ℕ) × (side : End) × EndsEmpty p pivots s place side × IsBareProof n form (IsMultiplierPast p s place side) proof)

-- the run of the program gives this reason
abbrev pub Gives : Net → Form → Program → ℕ → Reason → Type 0
Gives n form p pivots (Pivots count) = GoesOn p pivots
Gives n form p pivots (Wide w) = IsWrittenWithin p pivots w.operation (shown_frac w.left) (shown_frac w.right)
Gives n form p pivots (Coarse times f) = HasCoarse p pivots times (shown_frac f)
Gives n form p pivots (HeavyProof proof) = IsRunProof n form p pivots (shown_proof proof)
Gives n form p pivots (HeavyPoint q) = (s : State) × EndsSolved p pivots s × IsPointOf p s (shown_point q)
