use Rattle.std.proofs.Common.{refl}
use Rattle.dual_rounding.proofs.PriceInOrder.{price-in_order}
use Rattle.dual_rounding.proofs.Priced.{priced-raised}
use Rattle.dual_rounding.proofs.laws.price_law.Goals as goal

pub returns : goal.returns
returns c = record { shown = λ n b. refl; raised = priced-raised; in_order = price-in_order }
