-- What rows say of numbers over a base, and the point of a plan: what each variable is, over one denominator.
use Rattle.std.specs.Prelude.{◌≡◌, ℕ, ◌*◌, ℤ, pos, ◌+ℤ◌, ◌*ℤ◌, ◌≤ℤ◌}
use Rattle.integers.specs.Sums.{product_below, product_but}
use Rattle.pool_model.specs.Network.{Net}
use Rattle.pool_model.specs.Plan.{Plan, factor, mix}
use Rattle.row_model.specs.Boxes.{place, prop, qual}
use Rattle.row_model.specs.Variables.{PerVariable, none, dot, path_feed, path_out}
use Rattle.row_model.specs.Catalogue.{Kind, at_least, equal, Row}

-- ---- numbers over a base

-- flows times a second base, beside other numbers
abbrev pub with_flows : ℕ → Plan → PerVariable → PerVariable
with_flows second p beside = record beside {
  x = λ e. pos second *ℤ pos (p.feed e);
  y = λ o. pos second *ℤ pos (p.out o);
  z = λ e. pos second *ℤ pos (p.direct e);
}

-- a row's value there, times the base
abbrev pub value_over : Net → PerVariable → ℕ → Row → ℤ
value_over n v base r = dot n r.coefs v +ℤ r.constant *ℤ pos base

-- a number is at least 0, or equal to 0
abbrev pub IsMet : Kind → ℤ → Type 0
IsMet at_least z = pos 0 ≤ℤ z
IsMet equal z = z ≡ pos 0

-- the row holds there
abbrev pub MeetsRow : Net → PerVariable → ℕ → Row → Type 0
MeetsRow n v base r = IsMet r.kind (value_over n v base r)

-- ---- the point of a plan

-- the denominator of a plan's point: the plan's, times the factors of all pools
abbrev pub lift_base : Net → Plan → ℕ
lift_base n p = p.base * product_below (factor n p) n.pools

-- the factors of all pools but one
abbrev pub others : Net → Plan → ℕ → ℤ
others n p l = pos (product_but l (factor n p) n.pools)

-- Flows; along a path the feed's flow times the out's over what the pool sends; a pool's proportions and qualities, where a
-- pool that sends nothing stands at its first feed; a pool's quality times an out's flow.
abbrev pub lift : Net → Plan → PerVariable
lift n p = with_flows (product_below (factor n p) n.pools) p record none {
  w = λ q. others n p (n.out_pool (path_out n q)) *ℤ (pos (p.feed (path_feed n q)) *ℤ pos (p.out (path_out n q)));
  proportion = λ e. pos p.base *ℤ others n p (n.feed_pool e) *ℤ place n p (prop e);
  quality = λ l k. pos p.base *ℤ others n p l *ℤ place n p (qual l k);
  mixed = λ o k. others n p (n.out_pool o) *ℤ (mix n p (n.out_pool o) k *ℤ pos (p.out o));
}

-- the row holds there, over the point's denominator
abbrev pub HoldsAt : Net → Plan → Row → Type 0
HoldsAt n p = MeetsRow n (lift n p) (lift_base n p)
