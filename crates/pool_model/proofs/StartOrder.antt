-- The starting plans by number: each is one, each has a number, when it obeys and what it costs.
use Rattle.std.proofs.Common.{◌≡◌, ℕ, zero, suc, ◌+◌, ◌-◌, ◌<◌, ◌≤◌, ◌⊎◌, inl, inr, true, false, length, if◌then◌else◌, nat_lt, arith, refl, sym, ap, subst, ◌∙◌}
use Rattle.std.proofs.lemmas.Bool.Decides.{nat_tests}
use Rattle.pool_model.specs.Network.{Net, IsLimited}
use Rattle.pool_model.specs.Paths.{Path, paths_of, path_at}
use Rattle.pool_model.specs.Plan.{Written, Obeys, IsWritten, plan_of, cost_of}
use Rattle.pool_model.specs.Starting.{MeetsMinima, Way, through, straight, IsWay, way_product, way_flow, way_cost, way_at, start_at, starts, IsStarting, simple_plan}
use Rattle.pool_model.proofs.Paths.{path_at-way, path_at-every}
use Rattle.pool_model.proofs.Starts.{zero-written, direct-obeys, direct-minima, direct-written, direct-cost}
use Rattle.pool_model.proofs.PathStarts.{path-obeys, path-minima, path-written, path-cost}

-- ---- ways

pub way-obeys : (n : Net) (way : Way) → IsLimited n → IsWay n way → MeetsMinima n (way_product n way) (way_flow n way) → Obeys n (plan_of n (simple_plan n way))
way-obeys n (through e o) limited way meets = path-obeys n e o meets way (limited.feed_pools e way.0)
way-obeys n (straight e) limited way meets = direct-obeys n e meets way

pub way-minima : (n : Net) (way : Way) → IsLimited n → IsWay n way → Obeys n (plan_of n (simple_plan n way)) → MeetsMinima n (way_product n way) (way_flow n way)
way-minima n (through e o) limited way obeys = path-minima n e o way (limited.feed_pools e way.0) obeys
way-minima n (straight e) limited way obeys = direct-minima n e way obeys

pub way-cost : (n : Net) (way : Way) → IsLimited n → IsWay n way → cost_of n (plan_of n (simple_plan n way)) ≡ way_cost n way
way-cost n (through e o) limited way = path-cost n e o limited way
way-cost n (straight e) limited way = direct-cost n e limited way

pub way-written : (n : Net) (way : Way) → IsLimited n → IsWay n way → IsWritten n (simple_plan n way)
way-written n (through e o) limited way = path-written n e o limited.fed way
way-written n (straight e) limited way = direct-written n e limited.fed way

-- ---- by number

pub way_at-path : (n : Net) (a : ℕ) → a < length (paths_of n) → way_at n a ≡ through (path_at n a).feed (path_at n a).out
way_at-path n a lt = ap (λ b. if b then through (path_at n a).feed (path_at n a).out else straight (a - length (paths_of n))) (below a (length (paths_of n)) lt)
  where
    below : (a b : ℕ) → a < b → nat_lt a b ≡ true
    below a b h = grind (arith, nat_tests)

pub way_at-direct : (n : Net) (e : ℕ) → way_at n (length (paths_of n) + e) ≡ straight e
way_at-direct n e =
    ap (λ b. if b then through (path_at n (length (paths_of n) + e)).feed (path_at n (length (paths_of n) + e)).out else straight (length (paths_of n) + e - length (paths_of n)))
    (above (length (paths_of n)) e) ∙ ap straight (let d : length (paths_of n) + e - length (paths_of n) ≡ e = omega arith in d)
  where
    above : (b e : ℕ) → nat_lt (b + e) b ≡ false
    above b e = grind (arith, nat_tests)

pub way_at-way : (n : Net) (a : ℕ) → a + 1 < starts n → IsWay n (way_at n a)
way_at-way n a lt = elim (path_or_direct a (length (paths_of n))) [
  | inl path ↦ subst (IsWay n) (sym (way_at-path n a path)) (path_at-way n a (path_at n a).feed (path_at n a).out path refl refl)
  | inr (e, is) ↦ subst (IsWay n) (sym (ap (way_at n) is ∙ way_at-direct n e)) (let there : e < n.directs = omega (arith, is) in there)
]
  where
    path_or_direct : (a b : ℕ) → (a < b) ⊎ ((e : ℕ) × (a ≡ b + e))
    path_or_direct a b = elim (less_or_not a b) [ inl h ↦ inl h | inr h ↦ inr (a - b, omega arith) ]
      where
        less_or_not : (a b : ℕ) → (a < b) ⊎ (b ≤ a)
        less_or_not a b = grind arith

pub start_at-starting : (n : Net) (k : ℕ) → k < starts n → IsStarting n (start_at n k)
start_at-starting n zero lt = inl refl
start_at-starting n (suc a) lt = inr (way_at n a, way_at-way n a (omega arith), refl)

way_at-every : (n : Net) (way : Way) → IsLimited n → IsWay n way → (a : ℕ) × (a + 1 < starts n) × (way_at n a ≡ way)
way_at-every n (through e o) limited way =
    let at = path_at-every n e o way (limited.feed_pools e way.0) in
    (at.0, omega (arith, at.1), way_at-path n at.0 at.1 ∙ ap (λ (p : Path). through p.feed p.out) at.2)
way_at-every n (straight e) limited way = (length (paths_of n) + e, omega (arith, way), way_at-direct n e)

pub start_at-every : (n : Net) (w : Written) → IsLimited n → IsStarting n w → (k : ℕ) × (k < starts n) × (start_at n k ≡ w)
start_at-every n w limited (inl is) = (0, omega arith, sym is)
start_at-every n w limited (inr (way, there, is)) =
    let at = way_at-every n way limited there in
    (suc at.0, omega (arith, at.1), ap (simple_plan n) at.2 ∙ sym is)

pub start_at-written : (n : Net) (k : ℕ) → IsLimited n → k < starts n → IsWritten n (start_at n k)
start_at-written n zero limited lt = zero-written n limited.fed
start_at-written n (suc a) limited lt = way-written n (way_at n a) limited (way_at-way n a (omega arith))
