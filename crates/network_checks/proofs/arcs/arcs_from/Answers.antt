use Rattle.std.proofs.Common.{map, length, ap, ◌∙◌, arith}
use Rattle.std.proofs.lemmas.List.{length-map}
use Rattle.pool_model.specs.Naming.{network_of, pool_of, stand_in, source_names, pool_names, product_names}
use Rattle.network_parts.specs.Parts.{rows_of, pool_row, arc_row}
use Rattle.network_parts.specs.Views.{shown_arc}
use Rattle.network_parts.proofs.Joined.{feeds_are, outs_are, directs_are, length-arcs}
use Rattle.network_checks.proofs.PathLists.{same_paths}
use Rattle.network_checks.proofs.arcs.arcs_from.Goals as goal

pub paths_from-requires-clause-feeds : goal.paths_from-requires-clause-feeds
paths_from-requires-clause-feeds c =
    let r = rows_of c.args.parts.now in
    let are = ap (map shown_arc) c.in_ok-feeds.ensures ∙ feeds_are r c.deref.result.now c.args.ends.now (ap (map arc_row) c.deref.ensures.value) c.requires.distinct c.requires.found in
    omega (arith, ap length c.deref-4.ensures.value, length-map c.in_ok-feeds.feeds.items shown_arc, ap length are, length-arcs (source_names r) (pool_names r) r, c.requires.counted.arcs)

pub paths_from-requires-clause-outs : goal.paths_from-requires-clause-outs
paths_from-requires-clause-outs c =
    let r = rows_of c.args.parts.now in
    let are = ap (map shown_arc) c.in_ok-outs.ensures ∙ outs_are r c.deref-2.result.now c.args.ends.now (ap (map arc_row) c.deref-2.ensures.value) c.requires.distinct c.requires.found in
    omega (arith, ap length c.deref-5.ensures.value, length-map c.in_ok-outs.outs.items shown_arc, ap length are, length-arcs (pool_names r) (product_names r) r, c.requires.counted.arcs)

pub returns : goal.returns
returns c =
    let r = rows_of c.args.parts.now in
    let feeds = ap (map shown_arc) c.in_ok-feeds.ensures ∙ feeds_are r c.deref.result.now c.args.ends.now (ap (map arc_row) c.deref.ensures.value) c.requires.distinct c.requires.found in
    let outs = ap (map shown_arc) c.in_ok-outs.ensures ∙ outs_are r c.deref-2.result.now c.args.ends.now (ap (map arc_row) c.deref-2.ensures.value) c.requires.distinct c.requires.found in
    record {
      feeds = feeds;
      outs = outs;
      directs = ap (map shown_arc) c.in_ok-directs.ensures ∙ directs_are r c.deref-3.result.now c.args.ends.now (ap (map arc_row) c.deref-3.ensures.value) c.requires.distinct c.requires.found;
      paths = c.in_ok-paths.ensures
          ∙ same_paths (network_of r) c.len.result (map shown_arc c.deref-4.result.now) (map shown_arc c.deref-5.result.now)
          (omega (arith, c.len.ensures, length-map c.args.parts.now.pools.items pool_row, length-map r.pools (pool_of (stand_in r))))
          (ap (map shown_arc) c.deref-4.ensures.value ∙ feeds) (ap (map shown_arc) c.deref-5.ensures.value ∙ outs);
    }
