use Rattle.std.proofs.Common.{◌*◌, ◌/◌, sym, FitsSigned, rules}
use Rattle.std.proofs.lemmas.Int.{to_z-of_z}
use Rattle.exact_num.specs.Fraction.{IsSame, product_of}
use Rattle.exact_num.specs.Views.{shown_frac}
use Rattle.exact_num.specs.Signed.{signed_fraction}
use Rattle.exact_num.proofs.Cancelling.{crossed-positive, crossed-lowest, crossed-fraction, positive-product}
use Rattle.exact_num.proofs.Results.{given_as, refused_as}
use Rattle.exact_num.proofs.frac.Frac.mul.Goals as goal
use mir.Syntax.{w128}

pub pack_products-requires-clause-positive : goal.pack_products-requires-clause-positive
pack_products-requires-clause-positive c = crossed-positive _ _ _ _ _ _ c.args.self.positive c.args.other.positive c.gcd-left_common.ensures c.gcd-right_common.ensures

pub pack_products-requires-clause-lowest : goal.pack_products-requires-clause-lowest
pack_products-requires-clause-lowest c =
    let left_fits : FitsSigned w128 c.args.self.num = search rules in
    let right_fits : FitsSigned w128 c.args.other.num = search rules in
    let left = simp to_z-of_z at c.unsigned_abs-left.ensures.value in
    let right = simp to_z-of_z at c.unsigned_abs-right.ensures.value in
    crossed-lowest _ _ _ _ _ _ c.args.self.positive c.args.other.positive c.gcd-left_common.ensures c.gcd-right_common.ensures
    (rw left c.args.self.lowest) (rw right c.args.other.lowest)

-- the fraction of the cancelled numbers is the product
same : (c : goal.After-pack_products)
    → IsSame (signed_fraction c.is_product_negative-negative.result ((c.unsigned_abs-left.result / c.gcd-left_common.result) * (c.unsigned_abs-right.result / c.gcd-right_common.result))
    ((c.args.self.den / c.gcd-right_common.result) * (c.args.other.den / c.gcd-left_common.result))) (product_of (shown_frac c.args.self) (shown_frac c.args.other))
same c =
    let left_fits : FitsSigned w128 c.args.self.num = search rules in
    let right_fits : FitsSigned w128 c.args.other.num = search rules in
    let left = simp to_z-of_z at c.unsigned_abs-left.ensures.value in
    let right = simp to_z-of_z at c.unsigned_abs-right.ensures.value in
    let sign = simp to_z-of_z at c.is_product_negative-negative.ensures in
    crossed-fraction _ (shown_frac c.args.self) (shown_frac c.args.other) _ _ _ _ left right c.args.self.positive c.args.other.positive
    c.gcd-left_common.ensures c.gcd-right_common.ensures sign

pub returns-clause-product : goal.returns-clause-product
returns-clause-product c = given_as c.pack_products.result _ _ (same c) c.pack_products.ensures.same

pub returns-clause-wide : goal.returns-clause-wide
returns-clause-wide c =
    refused_as c.pack_products.result _ _ (positive-product _ _ c.args.self.positive c.args.other.positive) (sym (same c)) c.pack_products.ensures.wide
