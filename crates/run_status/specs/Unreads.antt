-- Why no network was read.
use Rattle.std.specs.Prelude.{◌≡◌, ◌≢◌, ℕ, List}
use Rattle.edge_io.specs.Counts.{Rose}
use Rattle.shelf_calls.specs.Told.{ShelfTold}
use Rattle.shelf_calls.specs.declared.fault.ShelfFault.{ShelfFault}
use Rattle.shelf_calls.specs.declared.fault.ShelfFault.TheVariants as shelf
use Rattle.network_parts.specs.declared.fault.NetFault.TheVariants as rows
use Rattle.json_walk.specs.declared.fault.ReadNet.{ReadNet}
use Rattle.json_walk.specs.declared.fault.ReadNet.TheVariants as causes
use Rattle.run_status.specs.Reads.{IsOwnCause, IsRefusedAs}
use Rattle.run_status.specs.declared.reading.Unread.{Unread}
use Rattle.run_status.specs.declared.reading.Unread.TheVariants.{Refused, Failed, Memory}

-- the file is refused for this reason, the shelf failed, or memory ran out
abbrev pub IsUnread : List ℕ → (before after : ShelfTold) → Unread → Type 0
IsUnread name before after (Refused cause) = IsRefusedAs before.files name before.taken after.taken cause
IsUnread name before after Failed = Rose before.faults after.faults
IsUnread name before after Memory = Unit {0}

-- why no network was read, where the shelf gave no bytes
abbrev pub unread_by : ShelfFault → Unread
unread_by shelf.Failed = Failed
unread_by shelf.TooLong = Refused causes.TooLong
unread_by shelf.Memory = Memory

-- want of memory, also inside another; or too many bytes, which the shelf never gives
abbrev pub IsWant : ReadNet → Type 0
IsWant causes.Memory = Unit {0}
IsWant (causes.Net fault) = fault ≡ rows.Memory
IsWant causes.TooLong = Unit {0}
IsWant cause = ⊥

-- why bytes of no more than may be are no network
abbrev pub IsCauseOf : ReadNet → Unread → Type 0
IsCauseOf cause (Refused told) = (told ≡ cause) × IsOwnCause cause × (cause ≢ causes.TooLong)
IsCauseOf cause Failed = ⊥
IsCauseOf cause Memory = IsWant cause
