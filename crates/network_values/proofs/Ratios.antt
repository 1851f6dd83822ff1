-- Ratios under the names of their qualities, from the last one on.
use Rattle.std.proofs.Common.{◌≡◌, ℕ, zero, suc, ◌<◌, List, [], ◌∷◌, length, map, drop, get_or, Some, refl, arith}
use Rattle.serde_json.specs.Data.{put}
use Rattle.network_values.specs.Values.{ratio_data, set_members}

-- one more, before those behind it
pub ratios-more : (names : List (List ℕ)) (rs : List ℕ) (k : ℕ) → k < length names → length rs ≡ length names
    → set_members ratio_data (drop k names) (map Some (drop k rs)) ≡ put (get_or names k []) (ratio_data (get_or rs k 1000)) (set_members ratio_data (drop (suc k) names) (map Some (drop (suc k) rs)))
ratios-more [] rs k lt len = absurd (omega arith)
ratios-more (n ∷ ns) [] k lt len = absurd (omega arith)
ratios-more (n ∷ ns) (r ∷ rs) zero lt len = refl
ratios-more (n ∷ ns) (r ∷ rs) (suc k) lt len = ratios-more ns rs k (omega arith) (omega arith)
