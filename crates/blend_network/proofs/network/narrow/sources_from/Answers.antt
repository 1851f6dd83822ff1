use Rattle.std.proofs.Common.{pos}
use Rattle.std.specs.Vec.Iter.{into_iter_items}
use Rattle.std.proofs.lemmas.List.Elements.{All-rest}
use Rattle.pool_model.specs.Naming.{source_of}
use Rattle.network_parts.specs.Parts.{source_row}
use Rattle.network_parts.specs.Faults.{IsSourceInRange}
use Rattle.blend_network.specs.Views.{shown_source}
use Rattle.network_parts.proofs.Mapped.{made_more}
use Rattle.blend_network.proofs.network.narrow.sources_from.Goals as goal

pub loop-row-preserved : goal.loop-row-preserved
loop-row-preserved c = record {
  made = made_more shown_source (source_of (pos c.args.stand_in)) source_row c.loop-row.sources.items
      c.push.new.self.items (into_iter_items c.loop-row.row-iterator) (into_iter_items c.next.new.self)
      c.in_ok-source_from.field-0 c.in-Some.row
      _ c.loop-row.invariant.made c.in-Some.ensures.steps.0 c.in_ok-push.ensures.items c.in_ok-source_from.ensures;
  ranges = All-rest (λ s. IsSourceInRange (source_row s)) c.in-Some.row (into_iter_items c.next.new.self)
      (into_iter_items c.loop-row.row-iterator) c.in-Some.ensures.steps.0 c.loop-row.invariant.ranges;
}
