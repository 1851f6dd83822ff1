-- Lists that grow entry by entry, and what a crash leaves meanwhile.
use Rattle.std.proofs.Common.{◌≡◌, ◌≢◌, ◌⊎◌, inl, inr, ℕ, suc, ◌<◌, ◌≤◌, map, get_or, take, drop, List, [], ◌∷◌, ◌++◌, length, Option, Some, Result, Err, refl, sym, ap, subst, ◌∙◌, arith, append_assoc, length-append}
use Rattle.std.proofs.lemmas.List.{append-nil, map-id, map-append, take-append-drop}
use Rattle.std.proofs.Math.Seq.{drop-cons}
use Rattle.disk_calls.specs.Disks.{DiskTold, LeavesOnly}
use Rattle.disk_calls.proofs.Moments.{goes_further, leaves-weaker}
use Rattle.pool_model.specs.Network.{Net}
use Rattle.row_model.specs.Entries.{Entry, Searched, start, after, made_from, made_by, AreInOrder, AreInOrderFrom, IsEntryInOrder}
use Rattle.box_tree.specs.declared.entry.EntryFault.{EntryFault}
use Rattle.box_tree.specs.declared.entry.EntryFault.TheVariants as entry_faults
use Rattle.journal_format.specs.Histories.{record_of}
use Rattle.journal_format.specs.Files.{IsKept, IsOwnFor, Stands}
use Rattle.node_journal.specs.Journals.{IsBeforeOrAfter}
use Rattle.journal_format.specs.Records.{Place, IsKeptAt}
use Rattle.node_journal.specs.Settled.{IsOnDisk}
use Rattle.journal_format.specs.declared.fault.JournalFault.{JournalFault}
use Rattle.journal_format.specs.declared.fault.JournalFault.TheVariants as journal_faults
use Rattle.journal_format.proofs.OwnFiles.{kept-own, kept_of, one_standing}
use Rattle.recorded_run.specs.declared.fault.RunFault.{RunFault}
use Rattle.recorded_run.specs.declared.fault.RunFault.TheVariants as faults
use Rattle.recorded_run.specs.Recorded.{BeginsWith, IsNetworksOwn, IsBetween, IsRecorded, IsRecovered, StandsNow, Ends, IsFirstOutOfOrder, IsReplayFault, refused_as}

-- ---- one entry more

pub made-more : (s : Searched) (list : List Entry) (e : Entry) → made_from s (list ++ e ∷ []) ≡ after (made_from s list) e
made-more s [] e = refl
made-more s (x ∷ list) e = made-more (after s x) list e

pub in_order-more : (n : Net) (s : Searched) (list : List Entry) (e : Entry) → AreInOrderFrom n s list → IsEntryInOrder n (made_from s list) e → AreInOrderFrom n s (list ++ e ∷ [])
in_order-more n s [] e are is = (is, tt)
in_order-more n s (x ∷ list) e are is = (are.0, in_order-more n (after s x) list e are.1 is)

pub begins-same : (list : List Entry) → BeginsWith list list
begins-same list = ([], sym (append-nil list))

pub begins-more : (list front : List Entry) (e : Entry) → BeginsWith list front → BeginsWith (list ++ e ∷ []) front
begins-more list front e (rest, is) = (rest ++ e ∷ [], ap (λ (l : List Entry). l ++ e ∷ []) is ∙ append_assoc front rest (e ∷ []))

pub begins-then : (list middle front : List Entry) → BeginsWith list middle → BeginsWith middle front → BeginsWith list front
begins-then list middle front (rest, is) (more, at) = (more ++ rest, is ∙ ap (λ (l : List Entry). l ++ rest) at ∙ append_assoc front more rest)

pub begins-length : (list front : List Entry) → BeginsWith list front → length front ≤ length list
begins-length list front (rest, is) = omega (arith, ap length is, length-append front rest)

-- ---- files

pub kept-own_file : (n : Net) (text : List ℕ) (list : List Entry) (file : List ℕ) → IsKept text list file → AreInOrder n list → IsNetworksOwn n text list file
kept-own_file n text list file kept are = let own = kept-own text list file kept in record { own = own.0; stands = own.1; in_order = are }

-- a list that goes on further
pub between-wider : (n : Net) (text : List ℕ) (first last more : List Entry) (file : List ℕ) → BeginsWith more last → IsBetween n text first last file → IsBetween n text first more file
between-wider n text first last more file on is = record { list = is.list; own = is.own; begins = is.begins; goes_on = begins-then more last is.list on is.goes_on }

pub between-later : (n : Net) (text : List ℕ) (first last : List Entry) (e : Entry) (file : List ℕ) → IsBetween n text first last file → IsBetween n text first (last ++ e ∷ []) file
between-later n text first last e file is = between-wider n text first last (last ++ e ∷ []) file (begins-more last last e (begins-same last)) is

-- the file while an entry is recorded behind the last list
pub between-recorded : (n : Net) (text : List ℕ) (first last : List Entry) (e : Entry) (file : List ℕ) → BeginsWith last first → AreInOrder n last → AreInOrder n (last ++ e ∷ [])
    → IsBeforeOrAfter text last e file → IsBetween n text first (last ++ e ∷ []) file
between-recorded n text first last e file begins are more (inl before) = record {
  list = last;
  own = kept-own_file n text last file before are;
  begins = begins;
  goes_on = begins-more last last e (begins-same last);
}
between-recorded n text first last e file begins are more (inr behind) = record {
  list = last ++ e ∷ [];
  own = kept-own_file n text (last ++ e ∷ []) file behind more;
  begins = begins-more last first e begins;
  goes_on = begins-same (last ++ e ∷ []);
}

-- ---- what is recorded

pub recorded-more : (n : Net) (text : List ℕ) (list : List Entry) (e : Entry) (place : Place) (s t : Searched) (file : List ℕ) (d : DiskTold)
    → AreInOrder n list → s ≡ made_by list → IsEntryInOrder n s e → t ≡ after s e → IsOnDisk file d → IsKeptAt place text (list ++ e ∷ []) file
    → IsRecorded n text (list ++ e ∷ []) place t d
recorded-more n text list e place s t file d are made is then on_disk kept = record {
  file = file;
  on_disk = on_disk;
  kept = kept;
  in_order = in_order-more n start list e are (subst (λ (x : Searched). IsEntryInOrder n x e) made is);
  made = then ∙ ap (λ (x : Searched). after x e) made ∙ sym (made-more start list e);
}

pub recorded-ends : (n : Net) (text : List ℕ) (list : List Entry) (place : Place) (s : Searched) (d : DiskTold) → IsRecorded n text list place s d
    → Ends n text list s d
recorded-ends n text list place s d is = record {
  file = is.file;
  on_disk = is.on_disk;
  own = kept-own_file n text list is.file (kept_of place text is.file list is.kept) is.in_order;
  made = is.made;
}

-- the file that the disk holds is what a read gives
pub kept-stands : (n : Net) (text : List ℕ) (list : List Entry) (place : Place) (file : List ℕ) (d : DiskTold) → AreInOrder n list
    → IsOnDisk file d → IsKeptAt place text list file → StandsNow n text list d
kept-stands n text list place file d are on_disk kept = record { file = file; read = on_disk.read; own = kept-own_file n text list file (kept_of place text file list kept) are }

pub recorded-stands : (n : Net) (text : List ℕ) (list : List Entry) (place : Place) (s : Searched) (d : DiskTold) → IsRecorded n text list place s d
    → StandsNow n text list d
recorded-stands n text list place s d is = kept-stands n text list place is.file d is.in_order is.on_disk is.kept

-- the fault of a run for want of memory is that of its journal
pub memory-of : {T : Type 0} (r : Result T RunFault) (fault : JournalFault) → r ≡ Err (faults.Journal fault) → r ≡ Err (faults.Journal journal_faults.Memory)
    → fault ≡ journal_faults.Memory
memory-of r fault is memory = cc

pub so_far-moments : (n : Net) (text : List ℕ) (first last : List Entry) (e : Entry) (old mid new : DiskTold) → BeginsWith last first → AreInOrder n last → AreInOrder n (last ++ e ∷ [])
    → LeavesOnly old mid (IsBetween n text first last) → LeavesOnly mid new (IsBeforeOrAfter text last e) → LeavesOnly old new (IsBetween n text first (last ++ e ∷ []))
so_far-moments n text first last e old mid new begins are more before step =
    goes_further old mid new (IsBetween n text first (last ++ e ∷ []))
    (leaves-weaker old mid (IsBetween n text first last) (IsBetween n text first (last ++ e ∷ [])) (λ k is. between-later n text first last e k is) before)
    (leaves-weaker mid new (IsBeforeOrAfter text last e) (IsBetween n text first (last ++ e ∷ [])) (λ k is. between-recorded n text first last e k begins are more is) step)

-- the entry that a tree of those before it refuses
pub out_of_order : (n : Net) (s : Searched) (front : List Entry) (e : Entry) (rest list : List Entry) (k : ℕ) → list ≡ front ++ e ∷ rest → k ≡ length front → AreInOrder n front → s ≡ made_by front
    → ¬ IsEntryInOrder n s e → IsFirstOutOfOrder n list k
out_of_order n s front e rest list k parts count are made out = record {
  front = front;
  entry = e;
  rest = rest;
  parts = parts;
  count = count;
  in_order = are;
  out = λ is. out (subst (λ (x : Searched). IsEntryInOrder n x e) (sym made) is);
}

-- an entry that is not taken for another cause than memory is not in order
pub refused-fault : (n : Net) (list : List Entry) (turn : Option ℕ) (entry number : ℕ) (fault : EntryFault) → number ≡ record_of turn entry
    → (fault ≢ entry_faults.Memory → IsFirstOutOfOrder n list entry) → IsReplayFault n list turn (refused_as number fault)
refused-fault n list turn entry number entry_faults.Memory is first = refl
refused-fault n list turn entry number entry_faults.NotALeaf is first = (entry, first (λ e. cc), is)
refused-fault n list turn entry number entry_faults.BadCoord is first = (entry, first (λ e. cc), is)
refused-fault n list turn entry number entry_faults.CutOutside is first = (entry, first (λ e. cc), is)
refused-fault n list turn entry number entry_faults.TooManySplits is first = (entry, first (λ e. cc), is)
refused-fault n list turn entry number (entry_faults.BadProof proof) is first = (entry, first (λ e. cc), is)
refused-fault n list turn entry number (entry_faults.BadPlan plan) is first = (entry, first (λ e. cc), is)
refused-fault n list turn entry number entry_faults.PlanNotBetter is first = (entry, first (λ e. cc), is)
refused-fault n list turn entry number entry_faults.RootLate is first = (entry, first (λ e. cc), is)

-- ---- a list, item by item

-- the items so far, this one, and those behind it
pub split_here : {A B : Type 0} (f : A → B) (items xs : List A) (x : A) → map (λ (y : A). y) xs ≡ take (length xs) items → length xs < length items → x ≡ get_or items (length xs) x
    → map f items ≡ map f xs ++ f x ∷ map f (drop (suc (length xs)) items)
split_here {A} f items xs x so_far lt here =
    let behind = drop (suc (length xs)) items in
    let front : xs ≡ take (length xs) items = sym (map-id xs) ∙ so_far in
    let rest : drop (length xs) items ≡ x ∷ behind = drop-cons items (length xs) x lt ∙ ap (λ (y : A). y ∷ behind) (sym here) in
    ap (map f) (sym (take-append-drop (length xs) items) ∙ ap (λ (l : List A). l ++ drop (length xs) items) (sym front) ∙ ap (λ (l : List A). xs ++ l) rest) ∙ map-append f xs (x ∷ behind)

-- ---- from the file to the end

pub own-between : (n : Net) (text : List ℕ) (first last : List Entry) (file : List ℕ) → AreInOrder n first → BeginsWith last first → IsOwnFor text first file → IsBetween n text first last file
own-between n text first last file are begins own = record {
  list = first;
  own = record { own = own.0; stands = own.1; in_order = are };
  begins = begins-same first;
  goes_on = begins;
}

-- the disk after the journal was opened, and the tree of what was found
pub opened-recorded : (n : Net) (text : List ℕ) (first list : List Entry) (place : Place) (s : Searched) (file : List ℕ) (d : DiskTold) → list ≡ first → AreInOrder n first
    → s ≡ made_by list → IsOnDisk file d → IsKeptAt place text list file → IsRecorded n text first place s d
opened-recorded n text first list place s file d same are made on_disk kept = record {
  file = file;
  on_disk = on_disk;
  kept = subst (λ (l : List Entry). IsKeptAt place text l file) same kept;
  in_order = are;
  made = made ∙ ap made_by same;
}

-- what the opening leaves, where nothing follows
pub opening-moments : (n : Net) (text : List ℕ) (first : List Entry) (old new : DiskTold) → AreInOrder n first → LeavesOnly old new (λ c. old.may_leave c ⊎ IsOwnFor text first c)
    → LeavesOnly old new (λ c. old.may_leave c ⊎ IsBetween n text first first c)
opening-moments n text first old new are opening =
    let P : List ℕ → Type 0 = λ c. old.may_leave c ⊎ IsOwnFor text first c in
    let Q : List ℕ → Type 0 = λ c. old.may_leave c ⊎ IsBetween n text first first c in
    leaves-weaker old new P Q (λ k is. elim is [ inl before ↦ inl before | inr own ↦ inr (own-between n text first first k are (begins-same first) own) ]) opening

-- and what the run behind it leaves
pub grown-moments : (n : Net) (text : List ℕ) (first last : List Entry) (old mid new : DiskTold) → BeginsWith last first
    → LeavesOnly old mid (λ c. old.may_leave c ⊎ IsBetween n text first first c) → LeavesOnly mid new (IsBetween n text first last)
    → LeavesOnly old new (λ c. old.may_leave c ⊎ IsBetween n text first last c)
grown-moments n text first last old mid new begins opening run =
    let P : List ℕ → Type 0 = λ c. old.may_leave c ⊎ IsBetween n text first first c in
    let Q : List ℕ → Type 0 = λ c. old.may_leave c ⊎ IsBetween n text first last c in
    goes_further old mid new Q
    (leaves-weaker old mid P Q (λ k is. elim is [ inl before ↦ inl before | inr at ↦ inr (between-wider n text first first last k begins at) ]) opening)
    (leaves-weaker mid new (IsBetween n text first last) Q (λ k is. inr is) run)

-- what was recovered of a file that stands for this list
pub recovered-held : (n : Net) (text : List ℕ) (first : List Entry) (place : Place) (s : Searched) (file : List ℕ) (old new : DiskTold) → IsRecovered n text place s old new
    → old.reads ≡ Some file → Stands file text first → IsRecorded n text first place s new
recovered-held n text first place s file old new found is stands =
    subst (λ (l : List Entry). IsRecorded n text l place s new) (one_standing file text found.first first (found.stands file is) stands) (found.held file is)
