-- A count of faults that is as it was, unless a call failed.
use Rattle.std.proofs.Common.{◌≡◌, ◌⊎◌, ℕ, Result, Ok, Err, inl, inr, ◌∙◌}

-- behind a call that did not fail
pub quiet_behind : {X E Failed : Type 0} {x : X} {e : E} {before mid after : ℕ} → (◌≡◌ {A = Result X E} (Ok x) (Err e)) ⊎ (mid ≡ before) → Failed ⊎ (after ≡ mid)
    → Failed ⊎ (after ≡ before)
quiet_behind (inl e) later = absurd cc
quiet_behind (inr same) (inl failed) = inl failed
quiet_behind (inr same) (inr kept) = inr (kept ∙ same)

-- where a call failed, and its failure is told
pub failed_told : {X E Failed Same : Type 0} {fault failure : E} → (fault ≡ failure → Failed) → (◌≡◌ {A = Result X E} (Err fault) (Err failure)) ⊎ Same → Failed ⊎ Same
failed_told told (inl e) = inl (told cc)
failed_told told (inr same) = inr same
