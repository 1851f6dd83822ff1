-- The target of a plan: how great its cost is, and that no better start has a lesser one.
use Rattle.std.proofs.Common.{◌≡◌, ℕ, ◌*◌, ◌^◌, ◌<◌, ◌≤◌, Some, ℤ, pos, neg_ℤ, ◌-ℤ◌, ◌*ℤ◌, ◌≤ℤ◌, ◌<ℤ◌, unsigned_abs, arith, sym, subst, ◌∙◌}
use Rattle.std.proofs.lemmas.Int.{ints}
use Rattle.integers.proofs.Ring.{additive, linear, mul_comm_ℤ, neg-mul}
use Rattle.integers.proofs.Order.{le-cancel, lt-cancel}
use Rattle.pool_model.specs.Network.{Net, IsLimited}
use Rattle.pool_model.specs.Plan.{Plan, Written, IsWritten, Obeys, plan_of, cost_of}
use Rattle.pool_model.specs.Starting.{IsCheapestStart}
use Rattle.pool_model.proofs.Sizes.{written-most, cost-most}
use Rattle.row_model.specs.Boxes.{Box}
use Rattle.row_model.specs.Entries.{Searched, IsCheaper}
use Rattle.row_model.specs.Multipliers.{Shown, bound, no_plan, shown_by}
use Rattle.box_space.specs.declared.coordinates.Form.{Form}
use Rattle.text_pieces.specs.Rounding.{rounded_up}
use Rattle.text_pieces.proofs.Floors.{ceiling-ge, ceiling-gt}
use Rattle.dual_rounding.specs.Answers.{IsAtMost}
use Rattle.search_core.specs.Cases.{HasNoBetterStart}
use Rattle.box_squeeze.specs.Pieces.{piece_of}
use Rattle.box_squeeze.specs.Squeezes.{empty, HasNoEmpty}
use Rattle.search_run.specs.Steps.{target_of}
use Rattle.search_run.proofs.Covering.{cheapest-starts, start-over-one, written-base}

-- ---- how great a cost is

module _ (n : Net) (w : Written) (limited : IsLimited n) (written : IsWritten n w) (obeys : Obeys n (plan_of n w)) where
  abbrev p : Plan
  p = plan_of n w

  pub cost-fits : unsigned_abs (cost_of n p) ≤ 2 ^ 124
  cost-fits = omega (arith, written-most n w limited written obeys)

  -- a cost for each unit of the denominator
  cost-near : unsigned_abs (cost_of n p) ≤ 10 ^ 28 * p.base
  cost-near = omega (arith, cost-most n p limited obeys.carries)

  pub target-above : (gap : ℤ) → gap ≤ℤ pos (10 ^ 24) → neg_ℤ (pos (2 ^ 120)) <ℤ target_of n gap w
  target-above gap h = low (rounded_up (cost_of n p) p.base) gap h
      (le-cancel (pos p.base) (neg_ℤ (pos (10 ^ 28))) (rounded_up (cost_of n p) p.base) (some p.base obeys.denominator)
      (below (cost_of n p) (rounded_up (cost_of n p) p.base) p.base cost-near (ceiling-ge (cost_of n p) p.base obeys.denominator)))
    where
      some : (b : ℕ) → 0 < b → pos 0 <ℤ pos b
      some b h = omega (arith, ints)

      least : (c : ℤ) (b : ℕ) → unsigned_abs c ≤ 10 ^ 28 * b → neg_ℤ (pos (10 ^ 28 * b)) ≤ℤ c
      least c b h = omega (arith, ints)

      below : (c up : ℤ) (b : ℕ) → unsigned_abs c ≤ 10 ^ 28 * b → c ≤ℤ (up *ℤ pos b) → (pos b *ℤ neg_ℤ (pos (10 ^ 28))) ≤ℤ (pos b *ℤ up)
      below c up b h k = omega (arith, additive, least c b h, k, mul_comm_ℤ (pos b) up, mul_comm_ℤ (pos b) (neg_ℤ (pos (10 ^ 28))), neg-mul (pos (10 ^ 28)) (pos b))

      low : (up gap : ℤ) → gap ≤ℤ pos (10 ^ 24) → neg_ℤ (pos (10 ^ 28)) ≤ℤ up → neg_ℤ (pos (2 ^ 120)) <ℤ (up -ℤ gap)
      low up gap h k = omega (arith, ints)

-- ---- no better start has a lesser target

-- what is at most a whole number is at most that when it is rounded up
up-least : (c z : ℤ) (b : ℕ) → 0 < b → c ≤ℤ (pos b *ℤ z) → rounded_up c b ≤ℤ z
up-least c z b h k = next (rounded_up c b) z (lt-cancel (pos b) (rounded_up c b -ℤ pos 1) z (some b h)
    (omega (arith, additive, ceiling-gt c b h, k, mul_comm_ℤ (rounded_up c b -ℤ pos 1) (pos b))))
  where
    some : (b : ℕ) → 0 < b → pos 0 <ℤ pos b
    some b h = omega (arith, ints)

    next : (up z : ℤ) → (up -ℤ pos 1) <ℤ z → up ≤ℤ z
    next up z h = omega (arith, ints)

up-own : (c : ℤ) (b : ℕ) → b ≡ 1 → c ≤ℤ rounded_up c b
up-own c b is = omega (arith, linear, subst (λ (m : ℕ). c ≤ℤ (rounded_up c b *ℤ pos m)) is (ceiling-ge c b (omega (arith, is))))

not-cheaper : (n : Net) (s : Searched) (w plan : Written) → HasNoBetterStart n s → IsCheapestStart n w → s.best ≡ Some plan → ¬ IsCheaper n w plan
not-cheaper n s w plan none cheapest best cheaper = none w record {
  cheapest = cheapest;
  cheaper = λ x e. subst (IsCheaper n w) (same plan x (sym best ∙ e)) cheaper;
}
  where
    same : (x y : Written) → Some x ≡ Some y → x ≡ y
    same x y e = cc

pub target-least : (n : Net) (gap : ℤ) (s : Searched) (w plan : Written) → HasNoBetterStart n s → IsCheapestStart n w → s.best ≡ Some plan → IsWritten n plan
    → target_of n gap plan ≤ℤ target_of n gap w
target-least n gap s w plan none cheapest best written =
    let one = start-over-one n w (cheapest-starts n w cheapest) in
    let own = up-own (cost_of n (plan_of n w)) (w.flow_base * w.base) one in
    let no_less = cost-least (cost_of n (plan_of n plan)) (cost_of n (plan_of n w)) (plan.flow_base * plan.base) (w.flow_base * w.base) one (not-cheaper n s w plan none cheapest best) in
    let up = up-least (cost_of n (plan_of n plan)) (cost_of n (plan_of n w)) (plan.flow_base * plan.base) (positive (plan.flow_base * plan.base) (written-base n plan written)) no_less in
    less (rounded_up (cost_of n (plan_of n plan)) (plan.flow_base * plan.base)) (cost_of n (plan_of n w)) (rounded_up (cost_of n (plan_of n w)) (w.flow_base * w.base)) gap up own
  where
    positive : (b : ℕ) → pos 0 <ℤ pos b → 0 < b
    positive b h = omega (arith, ints)

    not-lt : (a b : ℤ) → ¬ (a <ℤ b) → b ≤ℤ a
    not-lt a b h = grind (arith, ints)

    cost-least : (c z : ℤ) (b d : ℕ) → d ≡ 1 → ¬ ((pos b *ℤ z) <ℤ (c *ℤ pos d)) → c ≤ℤ (pos b *ℤ z)
    cost-least c z b d is h =
        let at : (c *ℤ pos 1) ≤ℤ (pos b *ℤ z) = subst (λ (m : ℕ). (c *ℤ pos m) ≤ℤ (pos b *ℤ z)) is (not-lt (pos b *ℤ z) (c *ℤ pos d) h) in
        omega (arith, linear, at)

    less : (up z own gap : ℤ) → up ≤ℤ z → z ≤ℤ own → (up -ℤ gap) ≤ℤ (own -ℤ gap)
    less up z own gap h k = omega (arith, additive)

-- what shows a target shows a lesser one
reaches-less : (low high : ℤ) (s : Shown) → low ≤ℤ high → IsAtMost (bound high) s → IsAtMost (bound low) s
reaches-less low high (bound z) h k = then low high z h k
  where
    then : (a b c : ℤ) → a ≤ℤ b → b ≤ℤ c → a ≤ℤ c
    then a b c h k = omega (arith, additive)
reaches-less low high no_plan h k = tt

pub none-above : (n : Net) (form : Form) (b : Box) (low high : ℤ) → low ≤ℤ high → HasNoEmpty n form b low → HasNoEmpty n form b high
none-above n form b low high h none side c pieces reaches = none side c pieces (reaches-less low high (shown_by n (piece_of b side c) empty) h reaches)
