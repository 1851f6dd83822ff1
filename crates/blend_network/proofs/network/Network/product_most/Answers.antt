use Rattle.std.proofs.Common.{List, Option, None, ℤ, ◌^◌, get_or, length, ap, arith, sym, ◌∙◌}
use Rattle.pool_model.specs.Network as model
use Rattle.pool_model.specs.Network.{net_of, no_product}
use Rattle.blend_network.specs.Views.{shown_product}
use Rattle.network_parts.proofs.Mapped.{read-map}
use Rattle.blend_network.proofs.Within.{within-some}
use Rattle.blend_network.proofs.network.Network.product_most.Goals as goal

pub bounds-as_slice-k : goal.bounds-as_slice-k
unfolding net_of
bounds-as_slice-k c =
    let e = read-map shown_product c.self.inside.products.items c.args.j c.index.result.now no_product (search arith) c.index.ensures in
    omega (arith, c.self.invariant.most c.args.j (search arith), ap (λ n. length n.qualities) c.self.view_is, ap length c.as_slice.ensures.value, ap (λ s. length s.most) e)

pub returns-clause-size : goal.returns-clause-size
unfolding net_of
returns-clause-size c =
    let e = read-map shown_product c.self.inside.products.items c.args.j c.index.result.now no_product (search arith) c.index.ensures in
    let read = ap (λ (l : List (Option ℤ)). get_or l c.args.k None) c.as_slice.ensures.value ∙ sym (ap (λ (r : model.Product). get_or r.most c.args.k None) e) in
    within-some (10 ^ 11) (get_or c.as_slice.result.now c.args.k None) (λ u is. c.self.invariant.limited.most_limits c.args.j c.args.k u (search arith) (search arith) (sym read ∙ is))
