-- Each feed's part of what its pool sends, as a weight.
use Rattle.std.specs.Prelude.{◌≡◌, ◌≢◌, ℕ, ◌*◌, ◌<◌, ◌↔◌, List, length, get_or}
use Rattle.std.specs.Int.{◌∣◌}
use Rattle.pool_model.specs.Network.{Net}
use Rattle.pool_model.specs.Plan.{Plan, outflow}
use Rattle.pool_model.specs.Starting.{first_weight}
use Rattle.program_model.specs.LeastBases.{AreWholeParts}

-- over this base the parts of one pool's feeds are whole numbers
abbrev pub AreWholeAt : Net → Plan → ℕ → ℕ → Type 0
AreWholeAt n p l base = (e : ℕ) → e < n.feeds → n.feed_pool e ≡ l → outflow n p l ∣ (base * p.feed e)

-- the least such base of one pool
pub record IsPoolBase (n : Net) (p : Plan) (l least : ℕ) : Type 0 where
  pub positive : 0 < least
  pub whole : (base : ℕ) → (least ∣ base) ↔ AreWholeAt n p l base

-- no base within the limit of written plans makes all parts whole
abbrev pub AreTooFineParts : Net → Plan → Type 0
AreTooFineParts n p = (base : ℕ) → 0 < base → AreWholeParts n p base → 1048576 < base

-- a feed's weight is its part; all weight of a pool that sends nothing stands on its first feed
pub record IsPart (n : Net) (p : Plan) (base e weight : ℕ) : Type 0 where
  pub part : outflow n p (n.feed_pool e) ≢ 0 → weight * outflow n p (n.feed_pool e) ≡ p.feed e * base
  pub empty : outflow n p (n.feed_pool e) ≡ 0 → weight ≡ base * first_weight n e

-- a weight for each feed
pub record AreParts (n : Net) (p : Plan) (base : ℕ) (weights : List ℕ) : Type 0 where
  pub long : length weights ≡ n.feeds
  pub each : (e : ℕ) → e < n.feeds → IsPart n p base e (get_or weights e 0)
