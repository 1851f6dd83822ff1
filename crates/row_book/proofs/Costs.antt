-- What variables cost: only the flows cost anything.
use Rattle.std.proofs.Common.{◌≡◌, ℕ, ◌+◌, ◌-◌, ◌*◌, ◌/◌, ◌%◌, ◌^◌, ◌<◌, ◌≤◌, nat_lt, List, get_or, Bool, true, false, if◌then◌else◌, ℤ, pos, ◌*ℤ◌, unsigned_abs, arith, refl, sym, ap, ◌∙◌}
use Rattle.std.proofs.Math.IntN.{*ℤ-zero}
use Rattle.std.proofs.lemmas.Bool.Decides.{nat_tests}
use Rattle.integers.specs.Sums.{piece}
use Rattle.integers.proofs.ByIndex.{piece-rest}
use Rattle.pool_model.specs.Network.{Net}
use Rattle.row_model.specs.Variables.{variables, by_number, costs, path_count}

-- zeros in pieces
zero_piece : (m : ℕ) (f g : ℕ → ℤ) (i : ℕ) → ((k : ℕ) → f k ≡ pos 0) → ((k : ℕ) → g k ≡ pos 0) → piece m f g i ≡ pos 0
zero_piece m f g i first rest = cases (nat_lt i m)
  where
    cases : (test : Bool) → (if test then f i else g (i - m)) ≡ pos 0
    cases true = first i
    cases false = rest (i - m)

-- what is no flow costs nothing
pub no_cost : (n : Net) (i : ℕ) → n.feeds + (n.outs + n.directs) ≤ i → by_number n (costs n) i ≡ pos 0
no_cost n i h =
    let c = costs n in
    let last : ℕ → ℤ = piece (n.pools * n.qualities) (λ i. c.quality (i / n.qualities) (i % n.qualities)) (λ i. c.mixed (i / n.qualities) (i % n.qualities)) in
    let shares : ℕ → ℤ = piece n.feeds c.proportion last in
    let along : ℕ → ℤ = piece (path_count n) c.w shares in
    let beside : ℕ → ℤ = piece n.directs c.z along in
    let out : ℕ → ℤ = piece n.outs c.y beside in
    let k = i - (n.feeds + (n.outs + n.directs)) in
    let at : i ≡ n.feeds + (n.outs + (n.directs + k)) = omega arith in
    ap (by_number n c) at
    ∙ piece-rest n.feeds c.x out (n.outs + (n.directs + k))
    ∙ piece-rest n.outs c.y beside (n.directs + k)
    ∙ piece-rest n.directs c.z along k
    ∙ zero_piece (path_count n) c.w shares k (λ k. refl)
    (λ k. zero_piece n.feeds c.proportion last k (λ k. refl)
    (λ k. zero_piece (n.pools * n.qualities) (λ i. c.quality (i / n.qualities) (i % n.qualities)) (λ i. c.mixed (i / n.qualities) (i % n.qualities)) k (λ k. refl) (λ k. refl)))

-- ---- the scaled costs of all variables: those of the flows, and zeros behind them
module _ (n : Net) (scale : ℕ) (rests : List ℤ) (k : ℕ) (past : n.feeds + (n.outs + n.directs) ≤ k)
    (zero : (i : ℕ) → k ≤ i → i < variables n → get_or rests i (pos 0) ≡ pos 0) where
  pub all_costs : ((i : ℕ) → i < k → get_or rests i (pos 0) ≡ pos scale *ℤ by_number n (costs n) i)
      → (i : ℕ) → i < variables n → get_or rests i (pos 0) ≡ pos scale *ℤ by_number n (costs n) i
  all_costs costly i inside = cases (nat_lt i k) refl
    where
      cases : (test : Bool) → nat_lt i k ≡ test → get_or rests i (pos 0) ≡ pos scale *ℤ by_number n (costs n) i
      cases true e = costly i (grind (arith, nat_tests))
      cases false e =
          let behind : k ≤ i = grind (arith, nat_tests) in
          zero i behind inside ∙ sym (ap (λ z. pos scale *ℤ z) (no_cost n i (omega (arith, past, behind))) ∙ *ℤ-zero (pos scale))

  pub all_small : ((i : ℕ) → i < k → unsigned_abs (get_or rests i (pos 0)) ≤ 2 ^ 112) → (i : ℕ) → i < variables n → unsigned_abs (get_or rests i (pos 0)) ≤ 2 ^ 112
  all_small small i inside = cases (nat_lt i k) refl
    where
      cases : (test : Bool) → nat_lt i k ≡ test → unsigned_abs (get_or rests i (pos 0)) ≤ 2 ^ 112
      cases true e = small i (grind (arith, nat_tests))
      cases false e = let behind : k ≤ i = grind (arith, nat_tests) in omega (arith, ap unsigned_abs (zero i behind inside))
