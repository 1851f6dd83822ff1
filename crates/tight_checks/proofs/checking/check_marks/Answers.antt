use Rattle.cert_format.specs.Valid.{tree_of}
use Rattle.cert_format.specs.Views.{shown_cert}
use Rattle.tight_checks.proofs.checking.check_marks.Goals as goal

pub returns-clause-refused : goal.returns-clause-refused
returns-clause-refused c = c.judge_text.ensures.refused (tree_of (shown_cert c.args.cert.now)) record { splits = c.in_ok-found.ensures.splits; leaves = c.in_ok-found.ensures.leaves }
