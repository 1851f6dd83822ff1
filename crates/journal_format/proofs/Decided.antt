-- A file has one fault at most, and none where it stands for entries.
use Rattle.std.proofs.Common.{◌≡◌, ℕ, ◌<◌, ◌⊎◌, inl, inr, List, ◌++◌, length, get_or, take, drop, Result, Ok, Err, refl, sym, ap, subst, ◌∙◌, arith, length-take, length-drop}
use Rattle.std.specs.Prelude.{IfOk, IfErr, IsErrAnd}
use Rattle.std.proofs.lemmas.List.{take_at}
use Rattle.journal_format.specs.Versions.{version_byte}
use Rattle.journal_format.specs.Histories.{History, born_in, goes_on_in, history_bytes, record_count, EachEntry}
use Rattle.journal_format.specs.Files.{header, IsUnborn, IsBorn, HasMagic, IsHistoryOf}
use Rattle.journal_format.specs.Faults.{IsAllowed, IsBadAt, HoldsAllowed, IsFree, Has}
use Rattle.journal_format.specs.declared.version.Version.{Version}
use Rattle.journal_format.specs.declared.fault.JournalFault.{JournalFault}
use Rattle.journal_format.specs.declared.fault.JournalFault.TheVariants.{Disk, NotAJournal, UnknownVersion, OtherNetwork, BadRecord, Memory}
use Rattle.journal_format.proofs.Heads.{one_version, known_byte}
use Rattle.journal_format.proofs.RecordLaws.{closed_not_open}
use Rattle.journal_format.proofs.HistoryLaws.{one_reading, ends-bad, ends-closed}
use Rattle.journal_format.proofs.OwnFiles.{born_not}

-- ---- a born file

module _ (v : Version) (text rest file : List ℕ) (parts : file ≡ header 1 v text ++ rest) where
  born_magic : HasMagic file
  born_magic = ap (λ (l : List ℕ). take 7 (drop 1 l)) parts

  born_version : get_or file 8 0 ≡ version_byte v
  born_version = ap (λ (l : List ℕ). get_or l 8 0) parts

  born_header : (w : Version) → get_or file 8 0 ≡ version_byte w → take (length (header 1 w text)) file ≡ header 1 w text
  born_header w byte =
      let same : v ≡ w = one_version v w (sym born_version ∙ byte) in
      subst (λ (u : Version). take (length (header 1 u text)) file ≡ header 1 u text) same
      (ap (take (length (header 1 v text))) parts ∙ take_at (header 1 v text) rest (length (header 1 v text)) refl)

  -- it has no fault that its first bytes show
  pub born_sound : (largest : ℕ) (fault : JournalFault) → Has text largest file fault → (n : ℕ) × (fault ≡ BadRecord n) × IsBadAt text largest n file
  born_sound largest Disk has = absurd has
  born_sound largest NotAJournal has = absurd (has.2 born_magic)
  born_sound largest (UnknownVersion byte) has = absurd (known_byte v byte has.2 has.3 (sym has.1 ∙ born_version))
  born_sound largest OtherNetwork has = absurd (has.3 (born_header has.1 has.2))
  born_sound largest (BadRecord n) has = (n, refl, has)
  born_sound largest Memory has = absurd has

-- ---- bad records

-- the bad record that comes first has one number
one_number : (text : List ℕ) (largest : ℕ) (file : List ℕ) (n m : ℕ) → IsBadAt text largest n file → IsBadAt text largest m file → n ≡ m
one_number text largest file n m a b =
    let same = one_reading (IsAllowed largest) (λ v e allowed. allowed.recordable) text file a.history b.history a.rest b.rest a.holds.parts b.holds.parts a.allowed b.allowed
    (ends-bad largest (goes_on_in a.history) a.rest a.bad) (ends-bad largest (goes_on_in b.history) b.rest b.bad) in
    a.count ∙ ap record_count same.0 ∙ sym b.count

-- ---- one fault

-- where a bad record stands there is no other fault
bad_alone : (text : List ℕ) (largest : ℕ) (file : List ℕ) (n : ℕ) (fault : JournalFault) → IsBadAt text largest n file → Has text largest file fault → fault ≡ BadRecord n
bad_alone text largest file n fault bad has =
    let other = born_sound (born_in bad.history) text (history_bytes bad.history ++ bad.rest) file bad.holds.parts largest fault has in
    other.1 ∙ ap BadRecord (one_number text largest file other.0 n other.2 bad)

pub one_fault : (text : List ℕ) (largest : ℕ) (file : List ℕ) (d e : JournalFault) → Has text largest file d → Has text largest file e → d ≡ e
one_fault text largest file Disk e a b = absurd a
one_fault text largest file Memory e a b = absurd a
one_fault text largest file (BadRecord n) e a b = sym (bad_alone text largest file n e a b)
one_fault text largest file NotAJournal Disk a b = absurd b
one_fault text largest file NotAJournal NotAJournal a b = refl
one_fault text largest file NotAJournal (UnknownVersion v) a b = absurd (a.2 b.0.marked)
one_fault text largest file NotAJournal OtherNetwork a b = absurd (a.2 b.0.marked)
one_fault text largest file NotAJournal (BadRecord n) a b = bad_alone text largest file n NotAJournal b a
one_fault text largest file NotAJournal Memory a b = absurd b
one_fault text largest file (UnknownVersion v) Disk a b = absurd b
one_fault text largest file (UnknownVersion v) NotAJournal a b = absurd (b.2 a.0.marked)
one_fault text largest file (UnknownVersion v) (UnknownVersion w) a b = ap UnknownVersion (sym a.1 ∙ b.1)
one_fault text largest file (UnknownVersion v) OtherNetwork a b = absurd (known_byte b.1 v a.2 a.3 (sym a.1 ∙ b.2))
one_fault text largest file (UnknownVersion v) (BadRecord n) a b = bad_alone text largest file n (UnknownVersion v) b a
one_fault text largest file (UnknownVersion v) Memory a b = absurd b
one_fault text largest file OtherNetwork Disk a b = absurd b
one_fault text largest file OtherNetwork NotAJournal a b = absurd (b.2 a.0.marked)
one_fault text largest file OtherNetwork (UnknownVersion v) a b = absurd (known_byte a.1 v b.2 b.3 (sym b.1 ∙ a.2))
one_fault text largest file OtherNetwork OtherNetwork a b = refl
one_fault text largest file OtherNetwork (BadRecord n) a b = bad_alone text largest file n OtherNetwork b a
one_fault text largest file OtherNetwork Memory a b = absurd b

-- ---- no fault

magic_long : (file : List ℕ) → HasMagic file → 1 < length file
magic_long file marked = omega (arith, ap length marked, length-take 7 (drop 1 file), length-drop 1 file)

-- an unborn file is not born
unborn_not_born : (file : List ℕ) → IsUnborn file → IsBorn file → ⊥
unborn_not_born file (inl short) born = let long = magic_long file born.marked in omega arith
unborn_not_born file (inr (inl none)) born = omega (arith, born.birth)
unborn_not_born file (inr (inr many)) born = omega (arith, many.0, born.birth)

unborn_sound : (text : List ℕ) (largest : ℕ) (file : List ℕ) (fault : JournalFault) → IsUnborn file → ¬ Has text largest file fault
unborn_sound text largest file Disk unborn has = has
unborn_sound text largest file NotAJournal (inl short) has = omega (arith, has.0)
unborn_sound text largest file NotAJournal (inr (inl none)) has = has.1 none
unborn_sound text largest file NotAJournal (inr (inr many)) has = has.2 many.1
unborn_sound text largest file (UnknownVersion v) unborn has = unborn_not_born file unborn has.0
unborn_sound text largest file OtherNetwork unborn has = unborn_not_born file unborn has.0
unborn_sound text largest file (BadRecord n) unborn has = born_not (born_in has.history) text (history_bytes has.history ++ has.rest) file has.holds.parts unborn
unborn_sound text largest file Memory unborn has = has

-- a file of a history whose entries are allowed has no fault
pub history_sound : (text : List ℕ) (largest : ℕ) (file : List ℕ) (h : History) (fault : JournalFault) → IsHistoryOf file text h → EachEntry (IsAllowed largest) h
    → ¬ Has text largest file fault
history_sound text largest file h fault (inl none) allowed has = unborn_sound text largest file fault none.0 has
history_sound text largest file h fault (inr born) allowed has =
    let bad = (born_sound (born_in h) text (history_bytes h ++ born.0) file born.2.parts largest fault has).2 in
    let same = one_reading (IsAllowed largest) (λ v e fine. fine.recordable) text file bad.history h bad.rest born.0 bad.holds.parts born.2.parts bad.allowed allowed
    (ends-bad largest (goes_on_in bad.history) bad.rest bad.bad) (ends-closed (IsAllowed largest) (goes_on_in h) born.0 born.1) in
    closed_not_open born.0 bad.bad.open_gate.0 born.1 (sym same.1 ∙ bad.bad.open_gate.1)

-- ---- answers

-- a fault that the file has is the one that is answered
pub decided_of : {T : Type 0} (r : Result T JournalFault) (text : List ℕ) (largest : ℕ) (file : List ℕ) (fault : JournalFault)
    → IfOk r (λ o. HoldsAllowed text largest file) → IfErr r (λ e. IsFree e ⊎ Has text largest file e)
    → Has text largest file fault → IsErrAnd r (λ e. IsFree e ⊎ (e ≡ fault))
decided_of (Ok o) text largest file fault stands refused has = absurd (history_sound text largest file stands.0 fault stands.1 stands.2 has)
decided_of (Err e) text largest file fault stands (inl free) has = inl free
decided_of (Err e) text largest file fault stands (inr other) has = inr (one_fault text largest file e fault other has)

-- where there is none no other is answered
pub taken_of : {T : Type 0} (r : Result T JournalFault) (text : List ℕ) (largest : ℕ) (file : List ℕ) → IfErr r (λ e. IsFree e ⊎ Has text largest file e)
    → HoldsAllowed text largest file → IfErr r IsFree
taken_of (Ok o) text largest file refused stands = tt
taken_of (Err e) text largest file (inl free) stands = free
taken_of (Err e) text largest file (inr has) stands = absurd (history_sound text largest file stands.0 e stands.1 stands.2 has)
