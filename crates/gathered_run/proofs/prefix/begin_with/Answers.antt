-- Splits are compared field by field.
use Rattle.std.proofs.Common.{take, length, sym, ◌∙◌}
use lib.Pointwise.{pointwise_decides}
use Rattle.gathered_run.proofs.Prefixes.{same-split, front-begins, begins-front}
use Rattle.gathered_run.proofs.prefix.begin_with.Goals as goal

pub returns : goal.returns
returns c =
    let xs = c.args.splits.now in
    let front = c.args.front.now in
    let equal = pointwise_decides same-split front (take (length front) xs) in
    let value = c.starts_with.ensures.value in
    (λ is. front-begins xs front (equal.0 (sym value ∙ is)), λ begins. value ∙ equal.1 (begins-front xs front begins))
