-- What an attach and the run behind it leave together.
use Rattle.std.proofs.Common.{◌⊎◌, inl, inr, ℕ, List, Option, sym, subst, arith}
use Rattle.disk_calls.specs.Disks.{DiskTold, Finds, LeavesOnly, IsWithin}
use Rattle.disk_calls.proofs.Moments.{goes_further, leaves-weaker, now-has}
use Rattle.pool_model.specs.Network.{Net}
use Rattle.row_model.specs.Entries.{Entry}
use Rattle.node_journal.specs.Settled.{IsQuiet}
use Rattle.recorded_run.specs.Recorded.{IsBetween}
use Rattle.recorded_run.specs.Sessions.{IsGrownFrom}
use Rattle.recorded_run.proofs.Acknowledging.{behind-keeps}

-- a read may begin at the front of the file that an attach reads
pub finds-reaches : (old new : DiskTold) → Finds old new → IsWithin new.reads 0
finds-reaches old new at = subst (λ (r : Option (List ℕ)). IsWithin r 0) (sym at.read) (omega arith)

-- what follows an attach leaves no more than was there before, beside its own
pub behind-attach : (old mid new : DiskTold) (Q : List ℕ → Type 0) → IsQuiet old mid → LeavesOnly mid new (λ c. mid.may_leave c ⊎ Q c) → LeavesOnly old new (λ c. old.may_leave c ⊎ Q c)
behind-attach old mid new Q attach run =
    let P : List ℕ → Type 0 = λ c. mid.may_leave c ⊎ Q c in
    let R : List ℕ → Type 0 = λ c. old.may_leave c ⊎ Q c in
    goes_further old mid new R (leaves-weaker old mid old.may_leave R (λ c h. inl h) attach)
    (leaves-weaker mid new P R (λ c h. elim h [ inl now ↦ inl (now-has old mid old.may_leave attach c now) | inr q ↦ inr q ]) run)

-- a list that grew behind an attach grew from before it
pub grown-behind : (n : Net) (text : List ℕ) (first : List Entry) (old mid new : DiskTold) (Known Told : List Entry → Type 0) → IsQuiet old mid → ((last : List Entry) → Known last → Told last)
    → IsGrownFrom n text first mid new Known → IsGrownFrom n text first old new Told
grown-behind n text first old mid new Known Told attach tell goes = record {
  last = goes.last;
  begins = goes.begins;
  any_moment = behind-attach old mid new (IsBetween n text first goes.last) attach goes.any_moment;
  acknowledged = behind-keeps n text first goes.last old mid new attach goes.begins goes.any_moment goes.acknowledged;
  known = tell goes.last goes.known;
}
