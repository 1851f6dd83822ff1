use Rattle.std.proofs.Common.{◌∙◌}
use Rattle.file_numbers.proofs.mem_numbers.MemNumbersNumberCalls.open_null.Goals as goal

pub returns-in-Err-clause-unchanged : goal.returns-in-Err-clause-unchanged
returns-in-Err-clause-unchanged c = λ tells. c.fail-in-Err.ensures.same ∙ c.in-Err.ensures.unchanged
