-- The root box is proper, and every plan that obeys lies in it.
use Rattle.std.proofs.Common.{◌≡◌, ℕ, zero, suc, ◌*◌, ◌<◌, ◌≤◌, inl, inr, min, Option, Some, None, ℤ, pos, ◌*ℤ◌, ◌≤ℤ◌, arith, refl, sym, ap, subst, ◌∙◌}
use Rattle.std.specs.Prelude.{unwrap_or}
use Rattle.std.proofs.lemmas.Int.{clamps}
use Rattle.integers.proofs.Ring.{additive}
use Rattle.integers.proofs.Order.{le-mul}
use Rattle.integers.proofs.AtKey.{same_or_other, chosen, term-le-sum_at}
use Rattle.pool_model.specs.Network.{Net, IsLimited, capped}
use Rattle.pool_model.specs.Plan.{Plan, Carries, Obeys, factor}
use Rattle.pool_model.specs.Starting.{lesser, least_below}
use Rattle.row_model.specs.Boxes.{qual, coords, coord_at, grain, greater, greatest_below, fed_quality, root_low, root_high, root, IsProper, share, place, place_base, LiesIn}
use Rattle.integers.proofs.Order.{le-mul_min}
use Rattle.integers.proofs.Means.{mean-low, mean-high}
use Rattle.pool_model.proofs.Capped.{le-mul_capped}
use Rattle.row_model.proofs.Shares.{share-le, share-sum, out-le}
use Rattle.row_model.proofs.Numbering.{at_coord}

-- ---- the least and the greatest of those that are there
-- there is one, and it is no greater; there is one, and it is no less
abbrev IsUnder : Option ℤ → ℤ → Type 0
IsUnder None a = ⊥
IsUnder (Some c) a = c ≤ℤ a

abbrev IsOver : Option ℤ → ℤ → Type 0
IsOver None a = ⊥
IsOver (Some c) a = a ≤ℤ c

under-left : (x y : Option ℤ) (a : ℤ) → IsUnder x a → IsUnder (lesser x y) a
under-left None y a h = absurd h
under-left (Some c) None a h = h
under-left (Some c) (Some d) a h = omega (arith, additive, clamps)

under-right : (x y : Option ℤ) (a : ℤ) → IsUnder y a → IsUnder (lesser x y) a
under-right None y a h = h
under-right (Some c) None a h = absurd h
under-right (Some c) (Some d) a h = omega (arith, additive, clamps)

over-left : (x y : Option ℤ) (a : ℤ) → IsOver x a → IsOver (greater x y) a
over-left None y a h = absurd h
over-left (Some c) None a h = h
over-left (Some c) (Some d) a h = omega (arith, additive, clamps)

over-right : (x y : Option ℤ) (a : ℤ) → IsOver y a → IsOver (greater x y) a
over-right None y a h = h
over-right (Some c) None a h = absurd h
over-right (Some c) (Some d) a h = omega (arith, additive, clamps)

least-under : (f : ℕ → Option ℤ) (n i : ℕ) (a : ℤ) → i < n → f i ≡ Some a → IsUnder (least_below f n) a
least-under f zero i a h e = absurd (omega arith)
least-under f (suc n) i a h e = elim (same_or_other i n) [
  | inl same ↦ under-right (least_below f n) (f n) a (subst (λ (x : Option ℤ). IsUnder x a) (sym e ∙ ap f same) (omega (arith, additive)))
  | inr d ↦ under-left (least_below f n) (f n) a (least-under f n i a (omega arith) e)
]

greatest-over : (f : ℕ → Option ℤ) (n i : ℕ) (a : ℤ) → i < n → f i ≡ Some a → IsOver (greatest_below f n) a
greatest-over f zero i a h e = absurd (omega arith)
greatest-over f (suc n) i a h e = elim (same_or_other i n) [
  | inl same ↦ over-right (greatest_below f n) (f n) a (subst (λ (x : Option ℤ). IsOver x a) (sym e ∙ ap f same) (omega (arith, additive)))
  | inr d ↦ over-left (greatest_below f n) (f n) a (greatest-over f n i a (omega arith) e)
]

under-le : (x : Option ℤ) (a : ℤ) → IsUnder x a → unwrap_or x (pos 0) ≤ℤ a
under-le None a h = absurd h
under-le (Some c) a h = h

over-le : (x : Option ℤ) (a : ℤ) → IsOver x a → a ≤ℤ unwrap_or x (pos 0)
over-le None a h = absurd h
over-le (Some c) a h = h

-- ---- the ends of a pool's quality
-- the quality of each of its feeds lies between them
pub root_low-quality : (n : Net) (l k e : ℕ) → e < n.feeds → n.feed_pool e ≡ l → root_low n (qual l k) ≤ℤ n.source_quality (n.feed_source e) k
root_low-quality n l k e h same =
    let q = n.source_quality (n.feed_source e) k in
    under-le (least_below (fed_quality n l k) n.feeds) q (least-under (fed_quality n l k) n.feeds e q h (chosen (n.feed_pool e) l (Some q) None same))

pub root_high-quality : (n : Net) (l k e : ℕ) → e < n.feeds → n.feed_pool e ≡ l → n.source_quality (n.feed_source e) k ≤ℤ root_high n (qual l k)
root_high-quality n l k e h same =
    let q = n.source_quality (n.feed_source e) k in
    over-le (greatest_below (fed_quality n l k) n.feeds) q (greatest-over (fed_quality n l k) n.feeds e q h (chosen (n.feed_pool e) l (Some q) None same))

-- ---- the root box is proper
root-in_order : (n : Net) (c : ℕ) → IsLimited n → c < coords n → root_low n (coord_at n c) ≤ℤ root_high n (coord_at n c)
root-in_order n c lim h =
    at_coord n (λ c. root_low n c ≤ℤ root_high n c)
    (λ e he. omega (arith, additive))
    (λ l k hl hk. let f = lim.fed l hl in omega (arith, additive, root_low-quality n l k f.0 f.1 f.2, root_high-quality n l k f.0 f.1 f.2))
    (λ o ho. omega (arith, additive))
    c h

pub root-proper : (n : Net) → IsLimited n → IsProper n (root n)
root-proper n lim = record {
  in_order = λ c h. root-in_order n c lim h;
  low = λ c h. omega (arith, additive);
  high = λ c h. omega (arith, additive);
}

-- ---- every plan that obeys lies in it
pub quality-low : (n : Net) (p : Plan) (l k : ℕ) → IsLimited n → Carries n p → l < n.pools → (root_low n (qual l k) *ℤ pos (factor n p l)) ≤ℤ place n p (qual l k)
quality-low n p l k lim c hl =
    rw (← share-sum n p l lim c hl)
    (mean-low n.feed_pool l (root_low n (qual l k)) (λ e. n.source_quality (n.feed_source e) k) (share n p) n.feeds (λ e he same. root_low-quality n l k e he same))

pub quality-high : (n : Net) (p : Plan) (l k : ℕ) → IsLimited n → Carries n p → l < n.pools → place n p (qual l k) ≤ℤ (root_high n (qual l k) *ℤ pos (factor n p l))
quality-high n p l k lim c hl =
    rw (← share-sum n p l lim c hl)
    (mean-high n.feed_pool l (root_high n (qual l k)) (λ e. n.source_quality (n.feed_source e) k) (share n p) n.feeds (λ e he same. root_high-quality n l k e he same))

pub flow-high : (n : Net) (p : Plan) (o : ℕ) → IsLimited n → Carries n p → o < n.outs
    → p.out o ≤ p.base * capped (n.out_max o) (min (n.pool_max (n.out_pool o)) (n.product_max (n.out_product o)))
flow-high n p o lim c h =
    le-mul_capped (n.out_max o) (p.out o) p.base (min (n.pool_max (n.out_pool o)) (n.product_max (n.out_product o)))
    (le-mul_min (p.out o) p.base (n.pool_max (n.out_pool o)) (n.product_max (n.out_product o))
    (omega (arith, out-le n p o h, c.pools (n.out_pool o) (lim.out_pools o h)))
    (omega (arith, term-le-sum_at n.out_product (n.out_product o) p.out n.outs o h refl, c.at_most (n.out_product o) (lim.out_products o h))))
    (λ m is. c.arcs.outs o m h is)

place-low : (n : Net) (p : Plan) (c : ℕ) → IsLimited n → Carries n p → c < coords n → (root_low n (coord_at n c) *ℤ pos (place_base n p (coord_at n c))) ≤ℤ place n p (coord_at n c)
place-low n p c lim car h =
    at_coord n (λ c. (root_low n c *ℤ pos (place_base n p c)) ≤ℤ place n p c)
    (λ e he. omega (arith, additive))
    (λ l k hl hk. quality-low n p l k lim car hl)
    (λ o ho. omega (arith, additive))
    c h

place-high : (n : Net) (p : Plan) (c : ℕ) → IsLimited n → Carries n p → c < coords n → place n p (coord_at n c) ≤ℤ (root_high n (coord_at n c) *ℤ pos (place_base n p (coord_at n c)))
place-high n p c lim car h =
    at_coord n (λ c. place n p c ≤ℤ (root_high n c *ℤ pos (place_base n p c)))
    (λ e he. le-mul (pos grain) (pos (share n p e)) (pos (factor n p (n.feed_pool e))) (omega (arith, additive)) (omega (arith, additive, share-le n p e lim car he)))
    (λ l k hl hk. quality-high n p l k lim car hl)
    (λ o ho. omega (arith, additive, flow-high n p o lim car ho))
    c h

pub lies-root : (n : Net) (p : Plan) → IsLimited n → Obeys n p → LiesIn n p (root n)
lies-root n p lim ob = record {
  low = λ c h. place-low n p c lim ob.carries h;
  high = λ c h. place-high n p c lim ob.carries h;
}
