use Rattle.std.proofs.Common.{List, ℤ, FitsSigned, get_or, length, pos, ap, arith, rules, ◌∙◌, sym}
use Rattle.std.proofs.lemmas.Int.{ints, to_z-of_z}
use mir.Syntax.{w64}
use Rattle.pool_model.specs.Network as model
use Rattle.pool_model.specs.Network.{net_of, no_source}
use Rattle.blend_network.specs.Views.{shown_source}
use Rattle.network_parts.proofs.Mapped.{read-map}
use Rattle.blend_network.proofs.network.Network.source_quality.Goals as goal

pub bounds-as_slice-k : goal.bounds-as_slice-k
unfolding net_of
bounds-as_slice-k c =
    let e = read-map shown_source c.self.inside.sources.items c.args.i c.index.result.now no_source (search arith) c.index.ensures in
    omega (arith, c.self.invariant.quality c.args.i (search arith), ap (λ n. length n.qualities) c.self.view_is, ap length c.as_slice.ensures.value, ap (λ s. length s.quality) e)

pub returns-clause-size : goal.returns-clause-size
unfolding net_of
returns-clause-size c =
    let e = read-map shown_source c.self.inside.sources.items c.args.i c.index.result.now no_source (search arith) c.index.ensures in
    let within = c.self.invariant.limited.source_qualities c.args.i c.args.k (search arith) (search arith) in
    let read = ap (λ (l : List ℤ). get_or l c.args.k (pos 0)) c.as_slice.ensures.value ∙ sym (ap (λ (r : model.Source). get_or r.quality c.args.k (pos 0)) e) in
    let fits : FitsSigned w64 (get_or c.as_slice.result.now c.args.k (pos 0)) = search rules in
    simp to_z-of_z (omega (arith, ints, within.0, within.1, read))
