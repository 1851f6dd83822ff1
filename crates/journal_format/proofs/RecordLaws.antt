-- Records at places of a file.
use Rattle.std.proofs.Common.{◌≡◌, ℕ, zero, suc, ◌+◌, ◌-◌, ◌^◌, ◌<◌, ◌≤◌, ◌⊎◌, min, List, [], ◌∷◌, ◌++◌, length, get_or, take, drop, Option, Some, None, Result}
use Rattle.std.proofs.Common.{Ok, Err, inl, inr, refl, sym, ap, subst, ◌∙◌, append_assoc, arith, length-append, length-take, length-drop}
use Rattle.std.specs.Prelude.{IfOk}
use Rattle.std.specs.List.{AllByRecursion}
use Rattle.std.proofs.lemmas.List.{take-append-drop, take_at, drop_at, append-nil, drop-drop, take_min}
use Rattle.std.proofs.lemmas.Option.{some_pair_parts}
use Rattle.std.proofs.lemmas.List.Concat.{flat_map-append}
use Rattle.row_model.specs.Entries.{Entry}
use Rattle.byteorder.specs.Endian.{big_bytes, big_number}
use Rattle.journal_format.specs.Fields.{field, number_at}
use Rattle.journal_format.specs.Payload.{payload, turn_payload, EntryFits}
use Rattle.journal_format.specs.Reading.{◌>>=◌, payload_at}
use Rattle.journal_format.specs.Histories.{framed, record_bytes, records, turn_record}
use Rattle.journal_format.specs.Files.{behind_gate, IsRecordable, IsClosed}
use Rattle.journal_format.specs.Faults.{IsAllowed, IsBad}
use Rattle.journal_format.specs.Records.{Opens, IsEntryAt, IsTurnAt}
use Rattle.journal_format.specs.declared.version.Version.{Version}
use Rattle.journal_format.specs.declared.version.Version.TheVariants.{One}
use Rattle.journal_format.specs.Gives.{Gives}
use Rattle.journal_format.specs.declared.fault.EntryUnread.{EntryUnread}
use Rattle.journal_format.specs.declared.opening.RecordHead.TheVariants.{CutShort, Payload}
use Rattle.journal_format.proofs.Numbers.{IsBytes, wide4, length-field, number_again}
use Rattle.journal_format.proofs.Entries.{payload_again, payload_takes}
use Rattle.journal_format.proofs.Lengths.{payload-long}

-- ---- one record is read in one way

some_pair : {A B : Type 0} (a x : A) (b y : B) → ◌≡◌ {A = Option (A × B)} (Some (a, b)) (Some (x, y)) → (a ≡ x) × (b ≡ y)
some_pair a x b y e = some_pair_parts a x b y e

-- no record of an entry that is as it should be stands there
abbrev pub HasNoEntry : Version → (Entry → Type 0) → List ℕ → Type 0
HasNoEntry v Holds rest = (e : Entry) (behind : List ℕ) → Holds e → ¬ (rest ≡ record_bytes v e ++ behind)

module _ (v : Version) where
  -- the entry of a record, and what stands behind it
  record_at : List ℕ → Option (Entry × List ℕ)
  record_at [] = None
  record_at (zero ∷ rest) = None
  record_at (suc zero ∷ rest) = number_at 4 rest >>= λ n. payload_at v (take n.0 n.1) >>= λ e. Some (e, drop n.0 n.1)
  record_at (suc (suc gate) ∷ rest) = None

  record_again : (e : Entry) (behind : List ℕ) → IsRecordable v e → record_at (record_bytes v e ++ behind) ≡ Some (e, behind)
  unfolding record_at
  record_again e behind good =
      let n = length (payload v e) in
      let regrouped : record_bytes v e ++ behind ≡ 1 ∷ (field 4 n ++ (payload v e ++ behind)) = ap (λ (l : List ℕ). 1 ∷ l) (append_assoc (field 4 n) (payload v e) behind) in
      ap record_at regrouped
      ∙ rw (number_again 4 n (payload v e ++ behind) (omega (arith, good.short)), take_at (payload v e) behind n refl, drop_at (payload v e) behind n refl, payload_again v e good.fits) refl

  pub one_record : (e f : Entry) (x y : List ℕ) → IsRecordable v e → IsRecordable v f → record_bytes v e ++ x ≡ record_bytes v f ++ y → (e ≡ f) × (x ≡ y)
  one_record e f x y good fine is = some_pair e f x y (sym (record_again e x good) ∙ ap record_at is ∙ record_again f y fine)

  -- ---- a list of records is read in one way

  module _ (Holds : Entry → Type 0) (good : (e : Entry) → Holds e → IsRecordable v e) where
    pub one_list : (l m : List Entry) (x y : List ℕ) → AllByRecursion Holds l → AllByRecursion Holds m → HasNoEntry v Holds x → HasNoEntry v Holds y
        → records v l ++ x ≡ records v m ++ y → (l ≡ m) × (x ≡ y)
    one_list [] [] x y a b cx cy is = (refl, is)
    one_list [] (f ∷ m) x y a b cx cy is = absurd (cx f (records v m ++ y) b.0 (is ∙ append_assoc (record_bytes v f) (records v m) y))
    one_list (e ∷ l) [] x y a b cx cy is = absurd (cy e (records v l ++ x) a.0 (sym is ∙ append_assoc (record_bytes v e) (records v l) x))
    one_list (e ∷ l) (f ∷ m) x y a b cx cy is =
        let split : record_bytes v e ++ (records v l ++ x) ≡ record_bytes v f ++ (records v m ++ y) =
        sym (append_assoc (record_bytes v e) (records v l) x) ∙ is ∙ append_assoc (record_bytes v f) (records v m) y in
        let first = one_record e f (records v l ++ x) (records v m ++ y) (good e a.0) (good f b.0) split in
        let others = one_list l m x y a.1 b.1 cx cy first.1 in
        (cc, others.1)

pub closed_not_open : (rest behind : List ℕ) → IsClosed rest → ¬ (rest ≡ 1 ∷ behind)
closed_not_open rest behind closed is = (subst IsClosed is closed) refl

pub opens_payload : (head rest : List ℕ) (n : ℕ) → IsBytes head → head ≡ take 5 rest → get_or head 0 0 ≡ 1 → 5 ≤ length head → n ≡ big_number 4 (drop 1 head) → n < 2 ^ 32 → Opens rest (Payload n)
unfolding field
opens_payload head [] n fits is gate long value small = absurd (omega (arith, ap length is))
opens_payload head (b ∷ rest) n fits is gate long value small =
    let four : length (take 4 rest) ≡ 4 = omega (arith, ap length is, length-take 5 (b ∷ rest), length-take 4 rest) in
    let bytes : IsBytes (take 4 rest) = λ i. subst (λ (l : List ℕ). get_or l (suc i) 0 < 256) is (fits (suc i)) in
    let spelled : big_bytes 4 n ≡ take 4 rest = ap (big_bytes 4) (value ∙ ap (λ (l : List ℕ). big_number 4 (drop 1 l)) is) ∙ wide4 (take 4 rest) four bytes in
    let first : b ≡ 1 = sym (ap (λ (l : List ℕ). get_or l 0 0) is) ∙ gate in
    (small, ap (λ (g : ℕ). g ∷ rest) first ∙ ap (λ (l : List ℕ). 1 ∷ l) (sym (take-append-drop 4 rest) ∙ ap (λ (l : List ℕ). l ++ drop 4 rest) (sym spelled)))

-- ---- a record whose gate is open

-- what is framed, when it was read so
pub length-framed : (bytes : List ℕ) → length (framed bytes) ≡ 5 + length bytes
length-framed bytes = omega (arith, length-append (field 4 (length bytes)) bytes, length-field 4 (length bytes))

-- what is written behind a gate
pub length-behind_gate : (bytes : List ℕ) → length (behind_gate bytes) ≡ 5 + length bytes
length-behind_gate bytes =
    omega (arith, length-append (field 4 (length bytes) ++ bytes) (0 ∷ []), length-append (field 4 (length bytes)) bytes, length-field 4 (length bytes))

module _ (n : ℕ) (rest more : List ℕ) (small : n < 2 ^ 32) (opens : rest ≡ 1 ∷ field 4 n ++ more) where
  -- a payload that is framed there has this length
  framed_there : (bytes behind : List ℕ) → length bytes < 2 ^ 32 → rest ≡ framed bytes ++ behind → (n ≡ length bytes) × (more ≡ bytes ++ behind)
  framed_there bytes behind short is =
      let k = length bytes in
      let split : field 4 n ++ more ≡ field 4 k ++ (bytes ++ behind) = ap (drop 1) (sym opens ∙ is) ∙ append_assoc (field 4 k) bytes behind in
      let fields = sym (number_again 4 n more (omega (arith, small))) ∙ ap (number_at 4) split ∙ number_again 4 k (bytes ++ behind) (omega (arith, short)) in
      some_pair n k more (bytes ++ behind) fields

  open_there : (behind : List ℕ) × (rest ≡ 1 ∷ behind)
  open_there = (field 4 n ++ more, opens)

-- no entry's record is the Turn's
pub turn_no_entry : (v : Version) (e : Entry) (rest behind : List ℕ) → IsRecordable v e → ¬ (turn_record ++ rest ≡ record_bytes v e ++ behind)
turn_no_entry v e rest behind good is =
    let opens : turn_record ++ rest ≡ 1 ∷ field 4 1 ++ (turn_payload ++ rest) = ap (λ (l : List ℕ). 1 ∷ l) (append_assoc (field 4 1) turn_payload rest) in
    omega (arith, (framed_there 1 (turn_record ++ rest) (turn_payload ++ rest) (omega arith) opens (payload v e) behind good.short is).0, payload-long v e)

module _ (v : Version) (largest : ℕ) where
  -- an open gate with too few bytes behind it
  pub bad_cut : (rest : List ℕ) → Opens rest CutShort → IsBad v largest rest
  bad_cut rest cut = record {
    open_gate = (cut.0, cut.1);
    no_entry = λ e behind allowed is. omega (arith, short (payload v e) behind (sym cut.1 ∙ is), cut.2);
    no_turn = λ one behind is. omega (arith, short turn_payload behind (sym cut.1 ∙ is), cut.2);
  }
    where
      short : (bytes behind : List ℕ) → 1 ∷ cut.0 ≡ framed bytes ++ behind → 4 ≤ length cut.0
      short bytes behind is = omega (arith, ap length is, length-append (field 4 (length bytes) ++ bytes) behind, length-append (field 4 (length bytes)) bytes, length-field 4 (length bytes))

  module _ (n : ℕ) (rest more : List ℕ) (small : n < 2 ^ 32) (opens : rest ≡ 1 ∷ field 4 n ++ more) where
    -- the length is too large
    pub bad_length : 1 ≤ largest → largest < n ⊎ length more < n → IsBad v largest rest
    bad_length some long = record {
      open_gate = open_there n rest more small opens;
      no_entry = λ e behind allowed is. too_long (payload v e) behind (omega (arith, allowed.recordable.short)) (omega (arith, allowed.short)) is long;
      no_turn = λ one behind is. too_long turn_payload behind (omega arith) (omega (arith, some)) is long;
    }
      where
        too_long : (bytes behind : List ℕ) → length bytes < 2 ^ 32 → length bytes ≤ largest → rest ≡ framed bytes ++ behind → largest < n ⊎ length more < n → ⊥
        too_long bytes behind fits within is (inl big) = let t = framed_there n rest more small opens bytes behind fits is in omega (arith, t.0, within, big)
        too_long bytes behind fits within is (inr big) =
            let t = framed_there n rest more small opens bytes behind fits is in omega (arith, t.0, ap length t.1, length-append bytes behind, big)

    -- the bytes of the payload are no entry's, and not the Turn's
    pub bad_payload : payload_at v (take n more) ≡ None → (v ≡ One → ¬ (take n more ≡ turn_payload)) → IsBad v largest rest
    bad_payload none other = record {
      open_gate = open_there n rest more small opens;
      no_entry = λ e behind allowed is. unread e behind allowed is;
      no_turn = λ one behind is. other one (taken turn_payload behind (omega arith) is);
    }
      where
        taken : (bytes behind : List ℕ) → length bytes < 2 ^ 32 → rest ≡ framed bytes ++ behind → take n more ≡ bytes
        taken bytes behind fits is =
            let t = framed_there n rest more small opens bytes behind fits is in
            ap (take n) t.1 ∙ take_at bytes behind n (sym t.0)

        unread : (e : Entry) (behind : List ℕ) → IsAllowed largest v e → rest ≡ record_bytes v e ++ behind → ⊥
        unread e behind allowed is =
            let read : payload_at v (take n more) ≡ Some e = ap (payload_at v) (taken (payload v e) behind allowed.recordable.short is) ∙ payload_again v e allowed.recordable.fits in
            absurd (cc)

module _ (n : ℕ) (rest more : List ℕ) (opens : rest ≡ 1 ∷ field 4 n ++ more) where
  -- a payload stands there
  good_payload : (bytes : List ℕ) → take n more ≡ bytes → n ≤ length more → rest ≡ framed bytes ++ drop n more
  good_payload bytes taken within =
      let same : n ≡ length bytes = omega (arith, ap length taken, length-take n more) in
      opens ∙ ap (λ (l : List ℕ). 1 ∷ field 4 n ++ l) (sym (take-append-drop n more) ∙ ap (λ (l : List ℕ). l ++ drop n more) taken)
      ∙ ap (λ (k : ℕ). 1 ∷ field 4 k ++ (bytes ++ drop n more)) same
      ∙ ap (λ (l : List ℕ). 1 ∷ l) (sym (append_assoc (field 4 (length bytes)) bytes (drop n more)))

-- ---- one record more

pub all-push : {A : Type 0} (P : A → Type 0) (xs : List A) (x : A) → AllByRecursion P xs → P x → AllByRecursion P (xs ++ x ∷ [])
all-push P [] x all here = (here, tt)
all-push P (y ∷ xs) x all here = (all.0, all-push P xs x all.1 here)

pub records-push : (v : Version) (list : List Entry) (e : Entry) → records v (list ++ e ∷ []) ≡ records v list ++ record_bytes v e
records-push v list e = flat_map-append (record_bytes v) list (e ∷ []) ∙ ap (λ (l : List ℕ). records v list ++ l) (append-nil (record_bytes v e))

-- the first five bytes of a record, or all that there are
pub first_bytes : (at end n : ℕ) (file : List ℕ) → end ≡ length file → n ≡ min (end - at) 5 → take n (drop at file) ≡ take 5 (drop at file)
first_bytes at end n file size is =
    let same : n ≡ min 5 (length (drop at file)) = omega (arith, length-drop at file) in
    ap (λ (k : ℕ). take k (drop at file)) same ∙ take_min 5 (drop at file)

-- what a reader made of all the bytes
pub read_spells : {E : Type 0} (v : Version) (shown : E → Entry) (bytes : List ℕ) (r : Result E EntryUnread) → IsBytes bytes → Gives shown r (payload_at v bytes) →
    IfOk r (λ e. (bytes ≡ payload v (shown e)) × EntryFits v (shown e))
read_spells v shown bytes (Ok e) fits gives = payload_takes v bytes (shown e) fits gives
read_spells v shown bytes (Err e) fits gives = tt

-- ---- at a place of a file

behind_head : (at : ℕ) (file : List ℕ) → drop 5 (drop at file) ≡ drop (at + 5) file
behind_head at file = drop-drop 5 at file

module _ (v : Version) (largest at size : ℕ) (file : List ℕ) (opens : Opens (drop at file) (Payload size)) where
  begins : drop at file ≡ 1 ∷ field 4 size ++ drop (at + 5) file
  begins = opens.1 ∙ ap (λ (l : List ℕ). 1 ∷ field 4 size ++ l) (behind_head at file)

  pub opened_long : (end : ℕ) → 1 ≤ largest → end ≡ length file → largest < size ⊎ end < at + 5 + size → IsBad v largest (drop at file)
  opened_long end some is long = bad_length v largest size (drop at file) (drop (at + 5) file) opens.0 begins some (further long)
    where
      further : largest < size ⊎ end < at + 5 + size → largest < size ⊎ length (drop (at + 5) file) < size
      further (inl big) = inl big
      further (inr big) = inr (omega (arith, ap length begins, length-append (field 4 size) (drop (at + 5) file), length-field 4 size, length-drop at file, length-drop (at + 5) file))

  pub opened_none : payload_at v (take size (drop (at + 5) file)) ≡ None → (v ≡ One → ¬ (take size (drop (at + 5) file) ≡ turn_payload)) → IsBad v largest (drop at file)
  opened_none none other = bad_payload v largest size (drop at file) (drop (at + 5) file) opens.0 begins none other

  parts_there : (bytes : List ℕ) → at + 5 + size ≤ length file → take size (drop (at + 5) file) ≡ bytes → drop at file ≡ framed bytes ++ drop (at + 5 + size) file
  parts_there bytes within read =
      good_payload size (drop at file) (drop (at + 5) file) begins bytes read (omega (arith, length-drop (at + 5) file))
      ∙ ap (λ (l : List ℕ). framed bytes ++ l) (drop-drop size (at + 5) file)

  long_there : (bytes : List ℕ) → at + 5 + size ≤ length file → take size (drop (at + 5) file) ≡ bytes → size ≡ length bytes
  long_there bytes within read = omega (arith, ap length read, length-take size (drop (at + 5) file), length-drop (at + 5) file)

  pub opened_some : (e : Entry) → at + 5 + size ≤ length file → size ≤ largest → (take size (drop (at + 5) file) ≡ payload v e) × EntryFits v e → IsEntryAt v largest at file e (at + 5 + size)
  opened_some e within small read =
      let k = long_there (payload v e) within read.0 in
      record {
        parts = parts_there (payload v e) within read.0;
        allowed = record { recordable = record { fits = read.1; short = omega (arith, opens.0) }; short = omega arith };
        place = omega (arith, k, length-framed (payload v e));
      }

  pub opened_turn : at + 5 + size ≤ length file → take size (drop (at + 5) file) ≡ turn_payload → IsTurnAt at file (at + 5 + size)
  opened_turn within read = record {
    parts = parts_there turn_payload within read;
    place = omega (arith, long_there turn_payload within read, length-framed turn_payload);
  }
