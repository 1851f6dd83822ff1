use Rattle.std.proofs.Common.{◌≡◌, rules, string_bytes}
use Rattle.pool_model.specs.Quantity.{shortest}
use Rattle.quantity.proofs.Spelled.{shortest_stands}
use Rattle.quantity.proofs.write.text_of.Goals as goal

pub returns-clause-stands : goal.returns-clause-stands
returns-clause-stands c =
    let written : string_bytes c.push_decimals.new.text ≡ shortest c.args.quantity = search rules in
    rw written (shortest_stands c.args.quantity c.requires)
