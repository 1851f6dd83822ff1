-- No item begins with a line feed.
use Rattle.std.proofs.Common.{◌≡◌, ℕ, List, ◌∷◌, Result, Err, Ok, refl, sym, ◌∙◌}
use Rattle.cert_text.specs.Reading.{At}
use Rattle.cert_format.specs.Reading.{shape_at, split_line_at, part_at, bound_at}
use Rattle.cert_items.specs.declared.items.State.{State}
use Rattle.cert_items.specs.declared.items.State.TheVariants as states
use Rattle.cert_items.specs.Items.{Field, next_at, begin_at, shape_step_at, bases_step_at, weight_step_at, outflow_step_at, direct_step_at, head_step_at, claim_step_at}

refused : (s : State) (line : ℕ) (rest : List ℕ) → next_at s (record { line = line; rest = 10 ∷ rest }) ≡ Err line
unfolding next_at begin_at shape_step_at shape_at bases_step_at weight_step_at outflow_step_at direct_step_at split_line_at head_step_at part_at claim_step_at bound_at
refused states.Begin line rest = refl
refused (states.Shape k) line rest = refl
refused (states.Bases feeds outs directs) line rest = refl
refused (states.Weight behind outs directs) line rest = refl
refused (states.Outflow behind directs) line rest = refl
refused (states.Direct behind) line rest = refl
refused (states.Splits k) line rest = refl
refused (states.Cut k behind) line rest = refl
refused (states.Proofs k) line rest = refl
refused (states.Head k behind) line rest = refl
refused (states.Part k behind proofs) line rest = refl
refused states.Cost line rest = refl
refused (states.GapBound base) line rest = refl
refused (states.Gap base) line rest = refl
refused states.Bound line rest = refl
refused states.End line rest = refl
refused states.Ended line rest = refl

pub no-feed-first : (s : State) (line : ℕ) (rest : List ℕ) (x : Field × State) (b : At) → next_at s (record { line = line; rest = 10 ∷ rest }) ≡ Ok (x, b) → ⊥
no-feed-first s line rest x b e = clash line (x, b) (sym (refused s line rest) ∙ e)
  where
    clash : (n : ℕ) (p : (Field × State) × At) → ◌≡◌ {A = Result ((Field × State) × At) ℕ} (Err n) (Ok p) → ⊥
    clash n p f = cc
