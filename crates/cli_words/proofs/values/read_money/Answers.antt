use Rattle.std.proofs.Common.{rules, inl, inr}
use Rattle.cli_words.proofs.Money.{no_quantity, out_of_range}
use Rattle.cli_words.proofs.values.read_money.Goals as goal
use Rattle.cli_words.proofs.values.read_money.Goals.{then-millionths-lt0-via-then-millionths-lt0, then-millionths-lt0-via-else-millionths-lt0+then-millionths-gt-MOST_MONEY}

pub returns-in_default : goal.returns-in_default
returns-in_default c = λ b m. no_quantity c.args.text.now b c.quantity_of.result c.quantity_of.ensures.only (search rules) m

pub returns-then-millionths-lt0 : goal.returns-then-millionths-lt0
returns-then-millionths-lt0 c = λ b m. out_of_range c.args.text.now b c.in-Some.millionths c.in-Some.ensures.only (elim c.then-millionths-lt0.branch [
  | then-millionths-lt0-via-then-millionths-lt0 w ↦ inl (search rules)
  | then-millionths-lt0-via-else-millionths-lt0+then-millionths-gt-MOST_MONEY w ↦ inr (search rules)
]) m
