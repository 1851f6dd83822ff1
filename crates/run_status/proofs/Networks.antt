-- What a file says of the network that is read from it, and of why none is.
use Rattle.std.proofs.Common.{◌≡◌, ◌≢◌, ℕ, ◌<◌, List, length, Bool, true, Option, Some, Result, Ok, Err, cond, nat_lt, refl, sym, ap, subst, ◌∙◌, arith}
use Rattle.std.proofs.lemmas.Bool.Decides.{nat_tests}
use Rattle.edge_io.specs.Counts.{Rose}
use Rattle.shelf_calls.specs.Files.{file_of, IsTooLong}
use Rattle.shelf_calls.specs.Told.{ShelfTold}
use Rattle.shelf_calls.specs.declared.fault.ShelfFault.{ShelfFault}
use Rattle.shelf_calls.specs.declared.fault.ShelfFault.TheVariants as shelf
use Rattle.pool_model.specs.Rows.{Rows}
use Rattle.pool_model.specs.Naming.{network_of}
use Rattle.pool_model.specs.Network.{Network}
use Rattle.network_parts.specs.Faults.{IsFaultless}
use Rattle.network_parts.specs.FirstFault.{Holds}
use Rattle.network_parts.specs.declared.fault.NetFault.{NetFault}
use Rattle.network_parts.specs.declared.fault.NetFault.TheVariants as faults
use Rattle.json_walk.specs.declared.fault.ReadNet.{ReadNet}
use Rattle.json_walk.specs.declared.fault.ReadNet.TheVariants as causes
use Rattle.network_json.specs.Reading.{IsRefusal}
use Rattle.network_json.specs.Format.{rows_in}
use Rattle.run_status.specs.Reads.{Files, IsOwnCause, IsRefusedAs, most_network, ReadsUnder, RefusesUnder}
use Rattle.run_status.specs.Unreads.{IsUnread, unread_by}
use Rattle.run_status.specs.declared.reading.Unread.{Unread}

pub some_same : {X : Type 0} (o : Option X) (a b : X) → o ≡ Some a → o ≡ Some b → a ≡ b
some_same o a b p q = cc

ok_same : {X E : Type 0} (r : Result X E) (a b : X) → r ≡ Ok a → r ≡ Ok b → a ≡ b
ok_same r a b p q = cc

-- a file is of one network at the most
pub one_network : (told : Files) (name : List ℕ) (a b : Network) → ReadsUnder (Some told) name a → ReadsUnder (Some told) name b → a ≡ b
one_network told name a b r s =
    let bytes : r.bytes ≡ s.bytes = some_same (file_of told name) r.bytes s.bytes r.file s.file in
    let rows : r.reads.rows ≡ s.reads.rows = same_rows r.bytes s.bytes r.reads.rows s.reads.rows bytes r.reads.read s.reads.read in
    r.reads.named ∙ ap network_of rows ∙ sym s.reads.named
  where
    same_rows : (x y : List ℕ) (p q : Rows) → x ≡ y → rows_in x ≡ Ok p → rows_in y ≡ Ok q → p ≡ q
    same_rows x y p q e f g = cc

-- rows that have a fault are not faultless
unsound : (r : Rows) (fault : NetFault) → fault ≢ faults.Memory → Holds r fault → IsFaultless r → ⊥
unsound r (faults.TooMany kind) own holds sound = sound.counts kind holds
unsound r (faults.BadName kind n) own holds sound = sound.names kind n holds
unsound r (faults.DuplicateName kind n) own holds sound = sound.distinct kind n holds
unsound r (faults.UnknownName n) own holds sound = sound.known n holds
unsound r (faults.ArcBackwards n) own holds sound = sound.forward n holds
unsound r (faults.PoolToPool n) own holds sound = sound.single n holds
unsound r (faults.DuplicateArc n) own holds sound = sound.once n holds
unsound r (faults.PoolWithoutInput n) own holds sound = sound.inputs n holds
unsound r (faults.PoolWithoutOutput n) own holds sound = sound.outputs n holds
unsound r faults.TooManyPaths own holds sound = sound.paths holds
unsound r (faults.OutOfRange kind n) own holds sound = sound.ranges kind n holds
unsound r (faults.LeastAboveMost n) own holds sound = sound.orderly n holds
unsound r faults.Memory own holds sound = own refl

-- bytes that are refused are of no network
refused_rows : (bytes : List ℕ) (cause : ReadNet) (rows : Rows) → IsRefusal bytes cause → IsOwnCause cause → rows_in bytes ≡ Ok rows → IsFaultless rows → ⊥
refused_rows bytes causes.TooLong rows h own read sound = cc
refused_rows bytes causes.NotJson rows h own read sound = cc
refused_rows bytes (causes.WrongKind at) rows h own read sound = cc
refused_rows bytes (causes.UnknownMember at) rows h own read sound = cc
refused_rows bytes (causes.Missing at) rows h own read sound = cc
refused_rows bytes causes.WrongVersion rows h own read sound = cc
refused_rows bytes (causes.NotWhole at) rows h own read sound = cc
refused_rows bytes (causes.BadQuantity at) rows h own read sound = cc
refused_rows bytes (causes.Net fault) rows h own read sound =
    unsound rows fault own (subst (λ (r : Rows). Holds r fault) (ok_same (rows_in bytes) h.rows rows h.read read) h.first.holds) sound
refused_rows bytes causes.Memory rows h own read sound = absurd own

pub refused_unread : (told : Files) (name : List ℕ) (cause : ReadNet) (network : Network) → IsOwnCause cause → RefusesUnder told name cause → ReadsUnder (Some told) name network → ⊥
refused_unread told name cause network own r s =
    refused_rows r.bytes cause s.reads.rows r.refused own
    (subst (λ (b : List ℕ). rows_in b ≡ Ok s.reads.rows) (some_same (file_of told name) s.bytes r.bytes s.file r.file) s.reads.read) s.reads.faultless

-- ---- a file past the limit

-- the first branch, where its test passes
taken : {X : Type 0} (b : Bool) (x y : X) → b ≡ true → cond b x y ≡ x
taken b x y h = rw h refl

-- a text past the limit is too long
long_text : (bytes : List ℕ) → 4194304 < length bytes → rows_in bytes ≡ Err causes.TooLong
unfolding rows_in
long_text bytes h = taken (nat_lt 4194304 (length bytes)) _ _ (let t : nat_lt 4194304 (length bytes) ≡ true = grind (arith, nat_tests) in t)

-- a file past the limit is refused as too long
pub long_file : (files : Option Files) (name : List ℕ) (before after : ℕ) → IsTooLong files name most_network before after → IsRefusedAs files name before after causes.TooLong
long_file files name before after long = record {
  own = tt;
  told = λ told is.
      let more = subst (λ (f : Option Files). IsTooLong f name most_network before after) is long in
      record { bytes = more.bytes; file = more.are; refused = long_text more.bytes more.more };
  long = λ e. long;
}

-- ---- a shelf that gives no bytes

-- what it says is why no network is read
pub unread_shelf : (name : List ℕ) (before after : ShelfTold) (fault : ShelfFault) (why : Unread) → why ≡ unread_by fault
    → (fault ≡ shelf.Failed → Rose before.faults after.faults)
    → (fault ≡ shelf.TooLong → IsTooLong before.files name most_network before.taken after.taken)
    → IsUnread name before after why
unread_shelf name before after fault why is failed long = subst (λ (w : Unread). IsUnread name before after w) (sym is) (by_fault fault failed long)
  where
    by_fault : (f : ShelfFault) → (f ≡ shelf.Failed → Rose before.faults after.faults)
        → (f ≡ shelf.TooLong → IsTooLong before.files name most_network before.taken after.taken) → IsUnread name before after (unread_by f)
    by_fault shelf.Failed rose more = rose refl
    by_fault shelf.TooLong rose more = long_file before.files name before.taken after.taken (more refl)
    by_fault shelf.Memory rose more = tt
