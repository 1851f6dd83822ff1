-- A view of proper ends is proper.
use Rattle.std.proofs.Common.{◌≡◌, List, ℤ, length, get_or, pos, sym, subst}
use Rattle.pool_model.specs.Network.{Net}
use Rattle.row_model.specs.Boxes.{coords, IsProper}
use Rattle.box_space.specs.declared.boxes.BoxEnds.{BoxEnds}
use Rattle.box_space.specs.declared.boxes.BoxView.{BoxView}
use Rattle.box_space.specs.Views.{AreEnds, IsView}

-- two lists of ends that are proper
record AreProper (n : Net) (low high : List ℤ) : Type 0 where
  pub lows : length low ≡ coords n
  pub highs : length high ≡ coords n
  pub proper : IsProper n record { low = λ c. get_or low c (pos 0); high = λ c. get_or high c (pos 0) }

pub viewed : (n : Net) (b : BoxEnds) (v : BoxView) → v.low.now ≡ b.low.items → v.high.now ≡ b.high.items → AreEnds n b → IsView n v
viewed n b v low high h =
    let same = subst (λ (xs : List ℤ). AreProper n xs v.high.now) (sym low)
    (subst (λ (xs : List ℤ). AreProper n b.low.items xs) (sym high) record { lows = h.lows; highs = h.highs; proper = h.proper }) in
    record { lows = same.lows; highs = same.highs; proper = same.proper }
