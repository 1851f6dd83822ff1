use Rattle.exact_run.proofs.Ranges.{narrow-product, narrow-quotient}
use Rattle.exact_run.proofs.operations.answer.Goals as goal

pub returns-in-Mul-clause-narrow : goal.returns-in-Mul-clause-narrow
returns-in-Mul-clause-narrow c = narrow-product c.mul.result c.args.operation c.args.left c.args.right c.in-Mul.is c.mul.ensures.product

pub returns-in-Div-clause-narrow : goal.returns-in-Div-clause-narrow
returns-in-Div-clause-narrow c = narrow-quotient c.div.result c.args.operation c.args.left c.args.right c.in-Div.is c.div.ensures.quotient
