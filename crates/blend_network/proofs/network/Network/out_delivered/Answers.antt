use Rattle.std.proofs.Common.{◌≡◌, ◌+ℤ◌, Some, option_map, FitsSigned, w64, sym, ap, ◌∙◌, arith}
use Rattle.std.proofs.lemmas.Int.{ints, to_z-of_z}
use Rattle.pool_model.specs.Network.{net_of}
use Rattle.pool_model.specs.Starting.{pool_cost}
use Rattle.blend_network.proofs.network.Network.out_delivered.Goals as goal

pub overflow_add-result : goal.overflow_add-result
overflow_add-result c =
    let within = c.pool_cost.ensures.size c.in-Some.cost c.in-Some.is in
    omega (arith, ints, within.0, within.1, c.out_cost.ensures.size)

pub returns-in-Some : goal.returns-in-Some
returns-in-Some c =
    let n = net_of c.args.self.now in
    let at : pool_cost (net_of c.args.self.now) ((net_of c.args.self.now).out_pool c.args.out) ≡ Some c.in-Some.cost
    = ap (pool_cost n) (sym c.out-pool.ensures.pool) ∙ sym c.pool_cost.ensures.value ∙ c.in-Some.is in
    let within = c.pool_cost.ensures.size c.in-Some.cost c.in-Some.is in
    let fits : FitsSigned w64 (c.in-Some.cost +ℤ c.out_cost.result) = omega (arith, ints, within.0, within.1, c.out_cost.ensures.size) in
    let carriage : FitsSigned w64 c.out_cost.result = omega (arith, ints, c.out_cost.ensures.size) in
    let own : FitsSigned w64 c.in-Some.cost = omega (arith, ints, within.0, within.1) in
    simp to_z-of_z (ap (λ z. Some (c.in-Some.cost +ℤ z)) c.out_cost.ensures.value ∙ sym (ap (option_map (λ z. z +ℤ n.out_cost c.args.out)) at))
