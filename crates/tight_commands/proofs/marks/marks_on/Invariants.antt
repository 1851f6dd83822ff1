use Rattle.std.proofs.Common.{take}
use Rattle.pool_model.specs.Network.{net_of}
use Rattle.cert_format.specs.Views.{shown_cert}
use Rattle.tight_commands.specs.Marked.{AreMarksUpTo, HasRoom}
use Rattle.tight_commands.proofs.marks.marks_on.Given as goal

abbrev pub invariant-loop-leaf : goal.invariant-loop-leaf
invariant-loop-leaf l = AreMarksUpTo (net_of l.net) l.fn.form l.fn.pivots (shown_cert l.cert) (take l.leaf-index l.leaf-items) l.text × HasRoom (net_of l.net) l.room
