use Rattle.std.proofs.Common.{[], refl}
use Rattle.solve_command.proofs.solving.solution_for.Goals as goal

pub returns-in_ok-solution_of-in-None-clause-solved : goal.returns-in_ok-solution_of-in-None-clause-solved
returns-in_ok-solution_of-in-None-clause-solved g c = record { first = []; in_order = tt; alone = λ e. refl; solution = c.in_ok-solution_of-in-None.ensures.solved }
