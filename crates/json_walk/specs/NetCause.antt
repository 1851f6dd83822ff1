-- What a refusal of rows is as a refusal of their file.
use Rattle.std.specs.Prelude.{ℕ}
use Rattle.network_parts.specs.declared.fault.NetFault.{NetFault}
use Rattle.network_parts.specs.declared.fault.NetFault.TheVariants as net
use Rattle.json_walk.specs.declared.fault.ReadNet.{ReadNet}
use Rattle.json_walk.specs.declared.fault.ReadNet.TheVariants.{TooLong, NotJson, WrongKind, UnknownMember, Missing, WrongVersion, NotWhole, BadQuantity, Net, Memory}

-- want of memory stays so, and every other is a fault of the rows
abbrev pub cause_of : NetFault → ReadNet
cause_of net.Memory = Memory
cause_of fault = Net fault

-- the number of a cause
abbrev pub number : ReadNet → ℕ
number TooLong = 1
number NotJson = 2
number (WrongKind at) = 3
number (UnknownMember at) = 4
number (Missing at) = 5
number WrongVersion = 6
number (NotWhole at) = 7
number (BadQuantity at) = 8
number (Net fault) = 9
number Memory = 10
