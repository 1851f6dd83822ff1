-- Runs of a reader over a shelf, put together.
use Rattle.std.proofs.Common.{◌≡◌, ◌⊎◌, ℕ, IsTrue, List, [], ◌++◌, inl, inr, refl, ◌∙◌, arith}
use Rattle.shelf_calls.specs.Opened.{IsUsedUp}
use Rattle.shelf_calls.specs.Told.{Keeps}
use Rattle.shelf_calls.proofs.Keeping.{keeps-same, keeps-then}
use Rattle.edge_io.proofs.Counting.{rose-behind}
use Rattle.cert_text.specs.declared.fault.TextFault.{TextFault}
use Rattle.cert_stream.specs.declared.fault.ItemFault.{ItemFault}
use Rattle.cert_stream.specs.declared.fault.ItemFault.TheVariants as faults
use Rattle.cert_stream.specs.Items.{Field}
use Rattle.cert_stream.specs.Streams.{GivesFault, FailsLater, IsMore, TookMore}
use Rattle.cert_stream.proofs.Calls.{rose-then, took-more-then, more-then, ran-none, ran-then}
use Rattle.proof_lines.specs.declared.refusal.Refusal.{Refusal}
use Rattle.proof_lines.specs.declared.refusal.Refusal.TheVariants.{Text, Memory as NoMemory}
use Rattle.proof_lines.specs.declared.stream_refusal.StreamRefusal.{StreamRefusal}
use Rattle.proof_lines.specs.declared.stream_refusal.StreamRefusal.TheVariants.{Read, TooLong, Refused, Memory}
use Rattle.proof_lines.specs.Runs.{Moment, Run, IsWhy, Failed, Found, IsCause, Halts, of_fault}

pub run-none : (m : Moment) → (IsTrue m.reader.ended → IsUsedUp m.shelf.rest) → Run m m []
run-none m used = record { kept = keeps-same m.shelf; ran = ran-none m.reader m.shelf.rest used; counted = inl (omega arith); quiet = refl }

pub run-then : (m k l : Moment) (is js : List Field) → Run m k is → Run k l js → Run m l (is ++ js)
run-then m k l is js a b = record {
  kept = keeps-then a.kept b.kept;
  ran = ran-then is js a.ran b.ran;
  counted = rose-then m.reader.left k.reader.left l.reader.left m.shelf.taken k.shelf.taken l.shelf.taken (omega (arith, a.ran.took.within)) (omega (arith, b.ran.took.within)) a.counted b.counted b.kept.taken_grows;
  quiet = b.quiet ∙ a.quiet;
}

-- ---- faults behind a run

-- a count that stays behind one that stayed, unless the shelf failed
quiet-then : {Failed : Type 0} {before mid after : ℕ} → mid ≡ before → Failed ⊎ (after ≡ mid) → Failed ⊎ (after ≡ before)
quiet-then same (inl failed) = inl failed
quiet-then same (inr quiet) = inr (quiet ∙ same)

-- the count of faults is as it was where the shelf did not fail
pub not-read : {Failed Same : Type 0} → ¬ Failed → Failed ⊎ Same → Same
not-read other (inl failed) = absurd (other failed)
not-read other (inr quiet) = quiet

later-then : (m k l : Moment) (is : List Field) (f : TextFault) → Run m k is → FailsLater k.reader k.shelf.rest l.reader l.shelf.rest f → FailsLater m.reader m.shelf.rest l.reader l.shelf.rest f
later-then m k l is f a b = record {
  items = is ++ b.items;
  before = b.before;
  rest_before = b.rest_before;
  ran = ran-then is b.items a.ran b.ran;
  fault_is = b.fault_is;
}

long-then : (m k l : Moment) (is : List Field) → Run m k is → Keeps k.shelf l.shelf → (IsMore k.reader.left k.shelf.rest × TookMore k.reader.left k.shelf.taken l.shelf.taken)
    → IsMore m.reader.left m.shelf.rest × TookMore m.reader.left m.shelf.taken l.shelf.taken
long-then m k l is a kept why =
    (more-then a.ran.took why.0, took-more-then m.reader.left k.reader.left m.shelf.taken k.shelf.taken l.shelf.taken (omega (arith, a.ran.took.within)) a.counted why.1 kept.taken_grows)

pub failed-then : (m k l : Moment) (is : List Field) (fault : ItemFault) → Run m k is → Failed k l fault → Failed m l fault
failed-then m k l is fault a b = record { kept = keeps-then a.kept b.kept; why = cases fault b.why; quiet = quiet-then a.quiet b.quiet }
  where
    cases : (fault : ItemFault) → IsWhy k l fault → IsWhy m l fault
    cases faults.Read why = rose-behind m.shelf.faults k.shelf.faults l.shelf.faults a.kept.faults_grow why
    cases faults.TooLong why = long-then m k l is a b.kept why
    cases (faults.Text f) why = later-then m k l is f a why

pub found-then : (P Q : List Field → Refusal → Type 0) (m k l : Moment) (is : List Field) (r : Refusal) → ((rest : List Field) → P rest r → Q (is ++ rest) r) → Run m k is
    → Found P k l r → Found Q m l r
found-then P Q m k l is r more a b = record {
  items = is ++ b.items;
  run = run-then m k l is b.items a b.run;
  going = b.going;
  used_up = b.used_up;
  found = more b.items b.found;
}

pub halts-then : (P Q : List Field → Refusal → Type 0) (m k l : Moment) (is : List Field) (r : StreamRefusal)
    → ((rest : List Field) (c : Refusal) → P rest c → Q (is ++ rest) c) → Run m k is → Halts P k l r → Halts Q m l r
halts-then P Q m k l is r more a b = record { kept = keeps-then a.kept b.kept; cause = cases r b.cause; quiet = quiet-then a.quiet b.quiet }
  where
    refused : (c : Refusal) → IsCause P k l (Refused c) → IsCause Q m l (Refused c)
    refused (Text f) why = later-then m k l is f a why
    refused NoMemory why = absurd why
    refused _ why = found-then P Q m k l is _ (λ rest. more rest _) a why

    cases : (r : StreamRefusal) → IsCause P k l r → IsCause Q m l r
    cases Read why = rose-behind m.shelf.faults k.shelf.faults l.shelf.faults a.kept.faults_grow why
    cases TooLong why = long-then m k l is a b.kept why
    cases (Refused c) why = refused c why
    cases Memory why = tt

-- a reading that failed, as a part that was not taken
pub failed-halts : (P : List Field → Refusal → Type 0) (m k : Moment) (fault : ItemFault) → Failed m k fault → Halts P m k (of_fault fault)
failed-halts P m k faults.Read b = record { kept = b.kept; cause = b.why; quiet = inl refl }
failed-halts P m k faults.TooLong b = record { kept = b.kept; cause = b.why; quiet = inr (not-read (λ e. cc) b.quiet) }
failed-halts P m k (faults.Text f) b = record { kept = b.kept; cause = b.why; quiet = inr (not-read (λ e. cc) b.quiet) }

-- want of memory behind a run
pub memory-halts : (P : List Field → Refusal → Type 0) (m k : Moment) (is : List Field) → Run m k is → Halts P m k Memory
memory-halts P m k is run = record { kept = run.kept; cause = tt; quiet = inr run.quiet }

-- ---- one call

pub fault-later : (m k : Moment) (f : TextFault) → (IsTrue m.reader.ended → IsUsedUp m.shelf.rest) → GivesFault m.reader m.shelf.rest k.reader k.shelf.rest f → FailsLater m.reader m.shelf.rest k.reader k.shelf.rest f
fault-later m k f used gives = record { items = []; before = m.reader; rest_before = m.shelf.rest; ran = ran-none m.reader m.shelf.rest used; fault_is = gives }
