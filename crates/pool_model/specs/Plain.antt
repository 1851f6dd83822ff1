-- Plain networks: all that a file of version 1 can say.
use Rattle.std.specs.Prelude.{◌≡◌, ℕ, ◌==◌, ◌&&◌, Bool, None, is_none, pos, unsigned_abs}
use Rattle.std.specs.List.{list_all}
use Rattle.pool_model.specs.Network.{Arc, Network, Net, removes_nothing}

-- an arc that costs nothing and has no maximum
abbrev pub is_plain_arc : Arc → Bool
is_plain_arc a = (unsigned_abs a.cost == 0) && is_none a.max

-- no pool removes anything, and no arc costs anything or has a maximum
abbrev pub is_plain : Network → Bool
is_plain n = removes_nothing n.pools && (list_all is_plain_arc n.feeds && (list_all is_plain_arc n.outs && list_all is_plain_arc n.directs))

-- the same by number
pub record IsPlain (n : Net) : Type 0 where
  pub scale : n.scale ≡ 1
  pub retained : (l k : ℕ) → n.retained l k ≡ 1
  pub feed_cost : (e : ℕ) → n.feed_cost e ≡ pos 0
  pub out_cost : (o : ℕ) → n.out_cost o ≡ pos 0
  pub direct_cost : (e : ℕ) → n.direct_cost e ≡ pos 0
  pub feed_max : (e : ℕ) → n.feed_max e ≡ None
  pub out_max : (o : ℕ) → n.out_max o ≡ None
  pub direct_max : (e : ℕ) → n.direct_max e ≡ None
