use Rattle.std.proofs.Common.{◌<◌, ◌≤◌, ℕ, List, length, get_or, All, sym, ap, subst, ◌∙◌, arith}
use Rattle.number_groups.proofs.Grouped.{group_there, group_at, numbers_at-below, numbers_at-few}
use Rattle.pool_model.specs.Network.{Network, net_of, IsLimited}
use Rattle.pool_model.specs.Paths.{paths_of}
use Rattle.blend_network.specs.Keys.{key_of, nodes_of, count_of, IsIndexOf}
use Rattle.blend_network.proofs.Indexed.{index_at, key_few}
use Rattle.blend_network.proofs.network.Network.numbers_at.Goals as goal

pub of-requires : goal.of-requires
of-requires c =
    let n = net_of c.args.self.now in
    let kept = subst (λ (m : Network). IsIndexOf (net_of m) c.self.inside.index.items) c.self.view_is c.self.invariant.grouped in
    let here = c.index.ensures ∙ ap (λ k. get_or c.self.inside.index.items k c.index.result.now) c.number.ensures ∙ index_at n c.self.inside.index.items c.args.key c.index.result.now kept in
    group_there c.index.result.now (key_of n c.args.key) (count_of n c.args.key) (nodes_of n c.args.key) c.args.node here c.requires

pub returns : goal.returns
returns c =
    let n = net_of c.args.self.now in
    let key = c.args.key in
    let kept = subst (λ (m : Network). IsIndexOf (net_of m) c.self.inside.index.items) c.self.view_is c.self.invariant.grouped in
    let here = c.index.ensures ∙ ap (λ k. get_or c.self.inside.index.items k c.index.result.now) c.number.ensures ∙ index_at n c.self.inside.index.items c.args.key c.index.result.now kept in
    let numbers = c.of.ensures ∙ group_at c.index.result.now (key_of n key) (count_of n key) (nodes_of n key) c.args.node here c.requires in
    let limited : IsLimited (net_of c.args.self.now) = subst (λ (m : Network). IsLimited (net_of m)) c.self.view_is c.self.invariant.limited in
    let few : length (paths_of (net_of c.args.self.now)) ≤ 512 = omega (
      arith,
      c.self.invariant.few,
      ap length c.self.invariant.paths,
      ap
          (λ (m : Network). length (paths_of (net_of m))) c.self.view_is,
    ) in
    record {
      numbers = numbers;
      known = subst (λ (ns : List ℕ). All (λ i. i < count_of (net_of c.args.self.now) c.args.key) ns) (sym numbers) (numbers_at-below (key_of n key) c.args.node (count_of n key));
      few = omega (arith, ap length numbers, numbers_at-few (key_of n key) c.args.node (count_of n key), key_few n limited few key);
    }
