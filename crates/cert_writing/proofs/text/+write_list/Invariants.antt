use Rattle.std.proofs.Common.{length}
use Rattle.cert_writing.proofs.text.+write_list.Given as goal

abbrev pub decreases-write_list : goal.decreases-write_list
decreases-write_list g l = length l.items.now
