-- That no acknowledged entry is lost, over one run after another.
use Rattle.std.proofs.Common.{◌≡◌, ◌⊎◌, inl, inr, ℕ, ◌+◌, ◌<◌, ◌≤◌, List, [], ◌∷◌, ◌++◌, length, refl, sym, subst, ◌∙◌, arith, length-append}
use Rattle.std.proofs.lemmas.Bool.{cases_lt}
use Rattle.disk_calls.specs.Disks.{DiskTold, LeavesOnly}
use Rattle.disk_calls.proofs.Moments.{started, leaves-weaker, now-has}
use Rattle.pool_model.specs.Network.{Net}
use Rattle.row_model.specs.Entries.{Entry, Searched, AreInOrder}
use Rattle.node_journal.specs.Journals.{IsBeforeOrAfter}
use Rattle.node_journal.specs.Settled.{IsQuiet}
use Rattle.journal_format.specs.Records.{Place}
use Rattle.journal_format.proofs.OwnFiles.{kept_of}
use Rattle.search_run.specs.declared.orders.Orders.{Orders}
use Rattle.recorded_run.specs.Recorded.{BeginsWith, HasFewSplits, IsNetworksOwn, IsBetween, IsRecorded}
use Rattle.recorded_run.specs.Acknowledged.{HoldsFront, KeepsAcknowledged}
use Rattle.recorded_run.proofs.Recording.{begins-same, begins-more, begins-then, begins-length, kept-own_file, between-recorded}
use Rattle.recorded_run.proofs.Splitting.{few-same}

-- ---- fronts of a list

-- a file between two lists holds a front of the last
pub between-front : (n : Net) (text : List ℕ) (first last : List Entry) (file : List ℕ) → IsBetween n text first last file → HoldsFront n text last (length first) (length last) file
between-front n text first last file is = record {
  list = is.list;
  own = is.own;
  front = is.goes_on;
  no_fewer = begins-length is.list first is.begins;
  no_more = begins-length last is.list is.goes_on;
}

-- fewer at least, more at most, of a list that goes on
pub front-wider : (n : Net) (text : List ℕ) (all more : List Entry) (least most fewer further : ℕ) (file : List ℕ) → BeginsWith more all → fewer ≤ least → most ≤ further
    → HoldsFront n text all least most file → HoldsFront n text more fewer further file
front-wider n text all more least most fewer further file on low high is = record {
  list = is.list;
  own = is.own;
  front = begins-then more all is.list on is.front;
  no_fewer = omega (arith, low, is.no_fewer);
  no_more = omega (arith, high, is.no_more);
}

-- the only file holds all of the list
pub recorded-front : (n : Net) (text : List ℕ) (list : List Entry) (place : Place) (s : Searched) (d : DiskTold) → IsRecorded n text list place s d
    → (c : List ℕ) → d.may_leave c → HoldsFront n text list (length list) (length list) c
recorded-front n text list place s d is c now = record {
  list = list;
  own = subst (IsNetworksOwn n text list) (sym (is.on_disk.only c now)) (kept-own_file n text list is.file (kept_of place text is.file list is.kept) is.in_order);
  front = begins-same list;
  no_fewer = omega arith;
  no_more = omega arith;
}

-- ---- one run

-- a run in which one entry at most is recorded
pub keeps-once : (n : Net) (text : List ℕ) (first last : List Entry) (old new : DiskTold) → BeginsWith last first → length last ≤ length first + 1
    → LeavesOnly old new (λ c. old.may_leave c ⊎ IsBetween n text first last c) → KeepsAcknowledged n text first last old new
keeps-once n text first last old new on few run = record {
  acknowledged = λ t. length first;
  begins = λ t. omega arith;
  ends = λ t. begins-length last first on;
  grows = λ t u le. omega arith;
  since = λ t c from to left. elim (run.each c (new.since_before old.moment t c from left)) [
    | inl was ↦ inl (was, refl)
    | inr is ↦ inr (between-front n text first last c is)
  ];
  until = λ t c left. elim (run.until t c left) [
    | inl past ↦ inl (old.ends_now t c past)
    | inr now ↦ there c now.1
  ];
}
  where
    there : (c : List ℕ) → old.may_leave c ⊎ IsBetween n text first last c → old.left_until old.moment c ⊎ HoldsFront n text last (length first) (length first + 1) c
    there c (inl was) = inl (old.up_to_now old.moment old.moment c (omega arith) (old.counts_now old.moment c (omega arith) was))
    there c (inr is) = inr (front-wider n text last last (length first) (length last) (length first) (length first + 1) c (begins-same last) (omega arith) few (between-front n text first last c is))

-- ---- two runs

-- what a crash between two runs leaves: what it might have left before the first, where that recorded nothing; or all entries so far
abbrev pub IsBetweenRuns : Net → List ℕ → List Entry → List Entry → DiskTold → List ℕ → Type 0
IsBetweenRuns n text first middle old c = (old.may_leave c × (length middle ≡ length first)) ⊎ HoldsFront n text middle (length middle) (length middle) c

module _ (n : Net) (text : List ℕ) (first middle last : List Entry) (old mid new : DiskTold) (on : BeginsWith last middle)
    (a : KeepsAcknowledged n text first middle old mid) (b : KeepsAcknowledged n text middle last mid new)
    (run : LeavesOnly mid new (λ c. mid.may_leave c ⊎ IsBetween n text middle last c)) (between : (c : List ℕ) → mid.may_leave c → IsBetweenRuns n text first middle old c) where
  abbrev Side : ℕ → Type 0
  Side t = (t < mid.moment) ⊎ (mid.moment ≤ t)

  -- how many are acknowledged: as the first run has it, and from the second one on as that has it
  abbrev count : (t : ℕ) → Side t → ℕ
  count t (inl early) = a.acknowledged t
  count t (inr late) = b.acknowledged t

  more : length middle ≤ length last
  more = begins-length last middle on

  begins-at : (t : ℕ) (w : Side t) → length first ≤ count t w
  begins-at t (inl early) = a.begins t
  begins-at t (inr late) = omega (arith, a.begins t, a.ends t, b.begins t)

  ends-at : (t : ℕ) (w : Side t) → count t w ≤ length last
  ends-at t (inl early) = omega (arith, a.ends t, more)
  ends-at t (inr late) = b.ends t

  grows-at : (t u : ℕ) (v : Side t) (w : Side u) → t ≤ u → count t v ≤ count u w
  grows-at t u (inl early) (inl soon) le = a.grows t u le
  grows-at t u (inl early) (inr late) le = omega (arith, a.ends t, b.begins u)
  grows-at t u (inr late) (inl early) le = absurd (omega (arith, le, late, early))
  grows-at t u (inr late) (inr later) le = b.grows t u le

  abbrev Since : ℕ → ℕ → List ℕ → Type 0
  Since t k c = (old.may_leave c × (k ≡ length first)) ⊎ HoldsFront n text last k (length last) c

  -- what was there between the runs is there after a moment of the first
  early-between : (t : ℕ) (c : List ℕ) → IsBetweenRuns n text first middle old c → Since t (a.acknowledged t) c
  early-between t c (inl was) = inl (was.0, omega (arith, a.begins t, a.ends t, was.1))
  early-between t c (inr holds) = inr (front-wider n text middle last (length middle) (length middle) (a.acknowledged t) (length last) c on (a.ends t) more holds)

  early-since : (t : ℕ) (c : List ℕ) → (old.may_leave c × (a.acknowledged t ≡ length first)) ⊎ HoldsFront n text middle (a.acknowledged t) (length middle) c
      → Since t (a.acknowledged t) c
  early-since t c (inl was) = inl was
  early-since t c (inr holds) = inr (front-wider n text middle last (a.acknowledged t) (length middle) (a.acknowledged t) (length last) c on (omega arith) more holds)

  early-run : (t : ℕ) (c : List ℕ) → mid.may_leave c ⊎ IsBetween n text middle last c → Since t (a.acknowledged t) c
  early-run t c (inl now) = early-between t c (between c now)
  early-run t c (inr is) = inr (front-wider n text last last (length middle) (length last) (a.acknowledged t) (length last) c (begins-same last) (a.ends t) (omega arith)
      (between-front n text middle last c is))

  late-between : (t : ℕ) (c : List ℕ) → b.acknowledged t ≡ length middle → IsBetweenRuns n text first middle old c → Since t (b.acknowledged t) c
  late-between t c is (inl was) = inl (was.0, is ∙ was.1)
  late-between t c is (inr holds) = inr (front-wider n text middle last (length middle) (length middle) (b.acknowledged t) (length last) c on (omega (arith, is)) more holds)

  late-since : (t : ℕ) (c : List ℕ) → (mid.may_leave c × (b.acknowledged t ≡ length middle)) ⊎ HoldsFront n text last (b.acknowledged t) (length last) c
      → Since t (b.acknowledged t) c
  late-since t c (inl now) = late-between t c now.1 (between c now.0)
  late-since t c (inr holds) = inr holds

  since-at : (t : ℕ) (w : Side t) (c : List ℕ) → old.moment ≤ t → t ≤ new.moment → new.left_since t c → Since t (count t w) c
  since-at t (inl early) c from to left = elim (run.before t c (omega (arith, early)) left) [
    | inl past ↦ early-since t c (a.since t c from (omega (arith, early)) past)
    | inr now ↦ early-run t c now
  ]
  since-at t (inr late) c from to left = late-since t c (b.since t c late to left)

  abbrev Until : ℕ → List ℕ → Type 0
  Until k c = old.left_until old.moment c ⊎ HoldsFront n text last (length first) (k + 1) c

  -- up to a moment of the first run, at a moment by which no fewer are acknowledged
  until-first : (t k : ℕ) (c : List ℕ) → a.acknowledged t ≤ k → old.left_until old.moment c ⊎ HoldsFront n text middle (length first) (a.acknowledged t + 1) c → Until k c
  until-first t k c le (inl past) = inl past
  until-first t k c le (inr holds) = inr (front-wider n text middle last (length first) (a.acknowledged t + 1) (length first) (k + 1) c on (omega arith) (omega (arith, le)) holds)

  until-second : (t : ℕ) (c : List ℕ) → mid.left_until mid.moment c ⊎ HoldsFront n text last (length middle) (b.acknowledged t + 1) c → Until (b.acknowledged t) c
  until-second t c (inl past) = until-first mid.moment (b.acknowledged t) c (omega (arith, a.ends mid.moment, b.begins t)) (a.until mid.moment c past)
  until-second t c (inr holds) = inr (front-wider n text last last (length middle) (b.acknowledged t + 1) (length first) (b.acknowledged t + 1) c (begins-same last)
      (omega (arith, a.begins t, a.ends t)) (omega arith) holds)

  until-at : (t : ℕ) (w : Side t) (c : List ℕ) → new.left_until t c → Until (count t w) c
  until-at t (inl early) c left = elim (run.until t c left) [
    | inl past ↦ until-first t (a.acknowledged t) c (omega arith) (a.until t c past)
    | inr now ↦ absurd (omega (arith, early, now.0))
  ]
  until-at t (inr late) c left = until-second t c (b.until t c left)

  -- one run after another
  pub keeps-then : KeepsAcknowledged n text first last old new
  keeps-then = record {
    acknowledged = λ t. count t (cases_lt t mid.moment);
    begins = λ t. begins-at t (cases_lt t mid.moment);
    ends = λ t. ends-at t (cases_lt t mid.moment);
    grows = λ t u le. grows-at t u (cases_lt t mid.moment) (cases_lt u mid.moment) le;
    since = λ t c from to left. since-at t (cases_lt t mid.moment) c from to left;
    until = λ t c left. until-at t (cases_lt t mid.moment) c left;
  }

-- ---- entry after entry

-- an entry more is recorded, or not
pub keeps-more : (n : Net) (text : List ℕ) (first last : List Entry) (e : Entry) (place : Place) (s : Searched) (old mid new : DiskTold) → IsRecorded n text last place s mid → AreInOrder n (last ++ e ∷ [])
    → KeepsAcknowledged n text first last old mid → LeavesOnly mid new (IsBeforeOrAfter text last e) → KeepsAcknowledged n text first (last ++ e ∷ []) old new
keeps-more n text first last e place s old mid new held are so_far step =
    let on = begins-more last last e (begins-same last) in
    let P : List ℕ → Type 0 = λ c. mid.may_leave c ⊎ IsBetween n text last (last ++ e ∷ []) c in
    let run = leaves-weaker mid new (IsBeforeOrAfter text last e) P (λ c is. inr (between-recorded n text last last e c (begins-same last) held.in_order are is)) step in
    keeps-then n text first last (last ++ e ∷ []) old mid new on so_far
    (keeps-once n text last (last ++ e ∷ []) mid new on (omega (arith, length-append last (e ∷ []))) run) run (λ c now. inr (recorded-front n text last place s mid held c now))

-- so far: a crash left a list between the first and the last and lost no acknowledged entry, the last has few splits, and the disk holds it
pub record SoFar (n : Net) (text : List ℕ) (o : Orders) (first : List Entry) (old now : DiskTold) (place : Place) (s : Searched) : Type 0 where
  pub last : List Entry
  pub begins : BeginsWith last first
  pub any_moment : LeavesOnly old now (IsBetween n text first last)
  pub acknowledged : KeepsAcknowledged n text first last old now
  pub few : HasFewSplits o first last
  pub held : IsRecorded n text last place s now

-- where nothing is called a crash leaves what is recorded, and nothing is lost
pub still-moments : (n : Net) (text : List ℕ) (list : List Entry) (place : Place) (s : Searched) (d : DiskTold) → IsRecorded n text list place s d → LeavesOnly d d (IsBetween n text list list)
still-moments n text list place s d is = started d (IsBetween n text list list) (λ k now. record {
  list = list;
  own = subst (IsNetworksOwn n text list) (sym (is.on_disk.only k now)) (kept-own_file n text list is.file (kept_of place text is.file list is.kept) is.in_order);
  begins = begins-same list;
  goes_on = begins-same list;
})

pub still-keeps : (n : Net) (text : List ℕ) (list : List Entry) (place : Place) (s : Searched) (d : DiskTold) → IsRecorded n text list place s d → KeepsAcknowledged n text list list d d
still-keeps n text list place s d is = keeps-once n text list list d d (begins-same list) (omega arith)
    (leaves-weaker d d (IsBetween n text list list) (λ c. d.may_leave c ⊎ IsBetween n text list list c) (λ c at. inr at) (still-moments n text list place s d is))

pub so_far-start : (n : Net) (text : List ℕ) (o : Orders) (first : List Entry) (d : DiskTold) (place : Place) (s : Searched) → IsRecorded n text first place s d → SoFar n text o first d d place s
so_far-start n text o first d place s is = record {
  last = first;
  begins = begins-same first;
  any_moment = still-moments n text first place s d is;
  acknowledged = still-keeps n text first place s d is;
  few = few-same o first;
  held = is;
}

-- ---- from the file to the end

-- what the opening leaves, where nothing follows
pub opening-keeps : (n : Net) (text : List ℕ) (first : List Entry) (old new : DiskTold) → LeavesOnly old new (λ c. old.may_leave c ⊎ IsBetween n text first first c)
    → KeepsAcknowledged n text first first old new
opening-keeps n text first old new run = keeps-once n text first first old new (begins-same first) (omega arith) run

-- and what the run behind it leaves
pub run-keeps : (n : Net) (text : List ℕ) (first last : List Entry) (place : Place) (s : Searched) (old mid new : DiskTold) → BeginsWith last first → IsRecorded n text first place s mid
    → LeavesOnly old mid (λ c. old.may_leave c ⊎ IsBetween n text first first c) → LeavesOnly mid new (IsBetween n text first last) → KeepsAcknowledged n text first last mid new
    → KeepsAcknowledged n text first last old new
run-keeps n text first last place s old mid new on held opening run keeps =
    keeps-then n text first first last old mid new on (opening-keeps n text first old mid opening) keeps
    (leaves-weaker mid new (IsBetween n text first last) (λ c. mid.may_leave c ⊎ IsBetween n text first last c) (λ c is. inr is) run)
    (λ c now. inr (recorded-front n text first place s mid held c now))

-- and what a run leaves behind a call that brings no new image
pub behind-keeps : (n : Net) (text : List ℕ) (first last : List Entry) (old mid new : DiskTold) → IsQuiet old mid → BeginsWith last first
    → LeavesOnly mid new (λ c. mid.may_leave c ⊎ IsBetween n text first last c) → KeepsAcknowledged n text first last mid new → KeepsAcknowledged n text first last old new
behind-keeps n text first last old mid new quiet on run keeps =
    keeps-then n text first first last old mid new on
    (opening-keeps n text first old mid (leaves-weaker old mid old.may_leave (λ c. old.may_leave c ⊎ IsBetween n text first first c) (λ c was. inl was) quiet)) keeps run
    (λ c now. inl (now-has old mid old.may_leave quiet c now, refl))
