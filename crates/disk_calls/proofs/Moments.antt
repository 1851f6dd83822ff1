-- How a run of calls of a disk goes on: what holds of each image since its start still holds after one call more.
use Rattle.std.proofs.Common.{◌≡◌, ◌⊎◌, inl, inr, ⊎_elim, ℕ, ◌≤◌, List, ◌++◌, length, refl, ◌∙◌, arith}
use Rattle.edge_io.proofs.Counting.{grows-same, grows-then}
use Rattle.disk_calls.specs.Disks.{DiskTold, Torn, Only, LeavesBy, LeavesNothingNew, Elapses, GoesOn, IsSameDevice, IsSameDisk, LeavesOnly}
use Rattle.disk_calls.proofs.Calling.{among-all, behind-all}

-- ---- one disk

pub same_device-then : (old mid new : DiskTold) → IsSameDevice old mid → IsSameDevice mid new → IsSameDevice old new
same_device-then old mid new first second = record {
  faults_grow = grows-then old.faults mid.faults new.faults first.faults_grow second.faults_grow;
  same_telling = second.same_telling ∙ first.same_telling;
  same_names = second.same_names ∙ first.same_names;
}

pub same_disk-same : (d : DiskTold) → IsSameDisk d d
same_disk-same d = record { device = record { faults_grow = grows-same d.faults; same_telling = refl; same_names = refl }; same_attached = refl }

pub same_disk-then : (old mid new : DiskTold) → IsSameDisk old mid → IsSameDisk mid new → IsSameDisk old new
same_disk-then old mid new first second = record {
  device = same_device-then old mid new first.device second.device;
  same_attached = second.same_attached ∙ first.same_attached;
}

-- ---- a call behind which a quiet one comes

pub elapses-then : (old mid new : DiskTold) → Elapses old mid → Elapses mid new → LeavesNothingNew mid new → Elapses old new
elapses-then old mid new first second quiet = record {
  later = omega (arith, first.later, second.later);
  nothing_else = λ t c le left. ⊎_elim (λ past. on_the_way t c le past)
      (λ now. on_the_way t c le (mid.counts_now t c (omega (arith, le, first.later)) (quiet c now)))
      (second.nothing_else t c (omega (arith, le, first.later)) left);
  keeps = λ t c le left. second.keeps t c (omega (arith, le, first.later)) (first.keeps t c le left);
  nothing_earlier = λ t c left. ⊎_elim (λ past. ⊎_elim (λ early. inl early) (λ since. inr (since.0, since_start c since.1)) (first.nothing_earlier t c past))
      (λ now. inr (omega (arith, first.later, now.0), since_start c (mid.counts_now old.moment c first.later (quiet c now.1))))
      (second.nothing_earlier t c left);
  keeps_past = λ t c left. second.keeps_past t c (first.keeps_past t c left);
}
  where
    since_start : (c : List ℕ) → mid.left_since old.moment c → new.left_since old.moment c
    since_start c since = second.keeps old.moment c first.later since

    on_the_way : (t : ℕ) (c : List ℕ) → t ≤ old.moment → mid.left_since t c → old.left_since t c ⊎ new.left_since old.moment c
    on_the_way t c le left = ⊎_elim (λ past. inl past) (λ since. inr (since_start c since)) (first.nothing_else t c le left)

-- what every call but an attach keeps
pub goes_on-then : (old mid new : DiskTold) → GoesOn old mid → GoesOn mid new → LeavesNothingNew mid new → GoesOn old new
goes_on-then old mid new first second quiet = record {
  time = elapses-then old mid new first.time second.time quiet;
  same_disk = same_disk-then old mid new first.same_disk second.same_disk;
}

-- what a crash leaves on the way
pub leaves_by-then : (step : List ℕ → List ℕ → Type 0) (old mid new : DiskTold) → LeavesBy step old mid → GoesOn old mid → GoesOn mid new → LeavesNothingNew mid new → LeavesBy step old new
leaves_by-then step old mid new by first second quiet c left =
    by c (⊎_elim (λ past. past) (λ now. mid.counts_now old.moment c first.time.later (quiet c now)) (second.time.nothing_else old.moment c first.time.later left))

pub nothing_new-then : (old mid new : DiskTold) → LeavesNothingNew old mid → GoesOn old mid → GoesOn mid new → LeavesNothingNew mid new → LeavesNothingNew old new
nothing_new-then old mid new none first second quiet c left =
    none c (⊎_elim (λ past. past) (λ now. mid.counts_now old.moment c first.time.later (quiet c now)) (second.time.nothing_else old.moment c first.time.later left))

-- ---- images since the start of a run

-- before the first call
pub started : (d : DiskTold) (P : List ℕ → Type 0) → ((c : List ℕ) → d.may_leave c → P c) → LeavesOnly d d P
started d P here = record { later = omega arith; each = λ c left. here c (d.only_now c left); before = λ t c le left. inl left; until = λ t c left. inl left }

-- one call more, since whose start each image has P
pub goes_on : (old mid new : DiskTold) (P : List ℕ → Type 0) → LeavesOnly old mid P → Elapses mid new → ((c : List ℕ) → new.left_since mid.moment c → P c) → LeavesOnly old new P
goes_on old mid new P so_far call here = record {
  later = omega (arith, so_far.later, call.later);
  each = λ c left. ⊎_elim (so_far.each c) (here c) (call.nothing_else old.moment c so_far.later left);
  before = λ t c le left. ⊎_elim (so_far.before t c le) (λ now. inr (here c now)) (call.nothing_else t c (omega (arith, le, so_far.later)) left);
  until = λ t c left. ⊎_elim (so_far.until t c) (λ now. inr (omega (arith, so_far.later, now.0), here c now.1)) (call.nothing_earlier t c left);
}

-- one run after another
pub goes_further : (old mid new : DiskTold) (P : List ℕ → Type 0) → LeavesOnly old mid P → LeavesOnly mid new P → LeavesOnly old new P
goes_further old mid new P first second = record {
  later = omega (arith, first.later, second.later);
  each = λ c left. ⊎_elim (first.each c) (λ has. has) (second.before old.moment c first.later left);
  before = λ t c le left. ⊎_elim (first.before t c le) (λ has. inr has) (second.before t c (omega (arith, le, first.later)) left);
  until = λ t c left. ⊎_elim (first.until t c) (λ now. inr (omega (arith, first.later, now.0), now.1)) (second.until t c left);
}

-- less of each image
pub leaves-weaker : (old new : DiskTold) (P Q : List ℕ → Type 0) → ((c : List ℕ) → P c → Q c) → LeavesOnly old new P → LeavesOnly old new Q
leaves-weaker old new P Q less run = record {
  later = run.later;
  each = λ c left. less c (run.each c left);
  before = λ t c le left. ⊎_elim (λ past. inl past) (λ has. inr (less c has)) (run.before t c le left);
  until = λ t c left. ⊎_elim (λ past. inl past) (λ now. inr (now.0, less c now.1)) (run.until t c left);
}

-- what holds of each image since a moment holds of those of now
pub now-has : (old new : DiskTold) (P : List ℕ → Type 0) → LeavesOnly old new P → (c : List ℕ) → new.may_leave c → P c
now-has old new P run c now = run.each c (new.counts_now old.moment c run.later now)

-- a call that brings no new image: attach, len, read_at, sync
pub goes_on-kept : (old mid new : DiskTold) (P : List ℕ → Type 0) → LeavesOnly old mid P → Elapses mid new → LeavesNothingNew mid new → LeavesOnly old new P
goes_on-kept old mid new P so_far call crash = goes_on old mid new P so_far call (among-all mid.may_leave (new.left_since mid.moment) P crash (now-has old mid P so_far))

-- a write behind the end of a file that is on the disk
pub goes_on-behind : (old mid new : DiskTold) (P : List ℕ → Type 0) (file : List ℕ) (at n : ℕ) → LeavesOnly old mid P → Elapses mid new → LeavesBy (Torn at n) mid new
    → Only file mid.may_leave → at ≡ length file → ((rest : List ℕ) → length rest ≤ n → P (file ++ rest)) → LeavesOnly old new P
goes_on-behind old mid new P file at n so_far call crash only is here = goes_on old mid new P so_far call (behind-all mid.may_leave (new.left_since mid.moment) P file at n crash only is here)
