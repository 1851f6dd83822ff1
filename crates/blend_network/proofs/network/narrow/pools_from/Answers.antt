use Rattle.std.proofs.Common.{◌≡◌, pos, ◌∷◌, sym, refl, rules}
use Rattle.std.specs.Vec.Iter.{into_iter_items}
use Rattle.std.proofs.lemmas.List.Elements.{All-rest, All-head, All-same}
use Rattle.pool_model.specs.Naming.{pool_of}
use Rattle.network_parts.specs.Parts.{pool_row}
use Rattle.network_parts.specs.Faults.{IsPoolInRange}
use Rattle.blend_network.specs.Views.{shown_pool}
use Rattle.network_parts.proofs.Mapped.{made_more}
use Rattle.blend_network.proofs.network.narrow.pools_from.Goals as goal

pub loop-row-preserved : goal.loop-row-preserved
loop-row-preserved c = record {
  made = made_more shown_pool (pool_of (pos c.args.stand_in)) pool_row c.loop-row.pools.items
      c.push.new.self.items (into_iter_items c.loop-row.row-iterator) (into_iter_items c.next.new.self)
      c.in_ok-pool_from.field-0 c.in-Some.row
      _ c.loop-row.invariant.made c.in-Some.ensures.steps.0 c.in_ok-push.ensures.items c.in_ok-pool_from.ensures;
  ranges = All-rest (λ s. IsPoolInRange (pool_row s)) c.in-Some.row (into_iter_items c.next.new.self)
      (into_iter_items c.loop-row.row-iterator) c.in-Some.ensures.steps.0 c.loop-row.invariant.ranges;
}

pub pool_from-requires : goal.pool_from-requires
pool_from-requires c =
    All-head (λ p. IsPoolInRange (pool_row p)) c.in-Some.row (into_iter_items c.next.new.self)
    (All-same (λ p. IsPoolInRange (pool_row p)) (c.in-Some.row ∷ into_iter_items c.next.new.self) (into_iter_items c.loop-row.row-iterator) (sym c.in-Some.ensures.steps.0) c.loop-row.invariant.ranges)

pub loop-row-init : goal.loop-row-init
loop-row-init c =
    let whole : into_iter_items c.into_iter-row-iterator.result ≡ c.args.rows.items = search rules in
    record {
      made = rw (c.new-pools.ensures.items, whole) refl;
      ranges = All-same (λ p. IsPoolInRange (pool_row p)) (into_iter_items c.into_iter-row-iterator.result) c.args.rows.items whole c.requires;
    }
