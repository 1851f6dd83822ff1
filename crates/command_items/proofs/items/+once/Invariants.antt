use Rattle.std.proofs.Common.{length}
use Rattle.command_items.proofs.items.+once.Given as goal

abbrev pub decreases-once : goal.decreases-once
decreases-once l = length l.items.now
