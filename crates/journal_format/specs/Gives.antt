-- What a reader of the code returned, in the words of readers on lists.
use Rattle.std.specs.Prelude.{◌≡◌, Option, Some, None, Result, Ok, Err}
use Rattle.journal_format.specs.declared.fault.EntryUnread.{EntryUnread}
use Rattle.journal_format.specs.declared.fault.EntryUnread.TheVariants.{Malformed, Memory}

abbrev pub Fails : {Y : Type 0} → EntryUnread → Option Y → Type 0
Fails Memory read = Unit {0}
Fails Malformed read = read ≡ None

-- it is what is read, seen by view, unless memory ran out
abbrev pub Gives : {X Y : Type 0} → (X → Y) → Result X EntryUnread → Option Y → Type 0
Gives view (Ok x) read = read ≡ Some (view x)
Gives view (Err e) read = Fails e read
