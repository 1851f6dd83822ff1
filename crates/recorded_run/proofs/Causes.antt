-- What a file is a cause of: it has one cause at most, and none where its entries are in order.
use Rattle.std.proofs.Common.{◌≡◌, ◌⊎◌, inl, inr, ℕ, List, [], ◌∷◌, ◌++◌, length, Option, refl, sym, ap, subst, ◌∙◌, arith}
use Rattle.pool_model.specs.Network.{Net}
use Rattle.row_model.specs.Entries.{Entry, Searched, start, after, made_from, AreInOrder, AreInOrderFrom, IsEntryInOrder}
use Rattle.journal_format.specs.Histories.{History, entries_of, turn_at, record_of, EachEntry}
use Rattle.journal_format.specs.Faults.{IsAllowed, HoldsAllowed}
use Rattle.journal_format.specs.Files.{Stands, TurnsAt}
use Rattle.journal_format.specs.Longest.{longest}
use Rattle.journal_format.proofs.Decided.{one_fault, history_sound}
use Rattle.journal_format.proofs.OwnFiles.{one_history_of}
use Rattle.journal_format.proofs.ShortPayloads.{allowed_in_order}
use Rattle.recorded_run.specs.Recorded.{IsFirstOutOfOrder, IsReplayFault, IsCause, IsFreeFault, IsLeftAlone}
use Rattle.recorded_run.specs.declared.fault.RunFault.{RunFault}
use Rattle.recorded_run.specs.declared.fault.RunFault.TheVariants.{Journal, OutOfOrder}

-- ---- the first entry that is not in order

head-same : (x y : Entry) (xs ys : List Entry) → x ∷ xs ≡ y ∷ ys → x ≡ y
head-same x y xs ys is = cc

tail-same : (x y : Entry) (xs ys : List Entry) → x ∷ xs ≡ y ∷ ys → xs ≡ ys
tail-same x y xs ys is = cc

-- an entry behind those in front, of a list that is in order
behind-in_order : (n : Net) (s : Searched) (front : List Entry) (e : Entry) (rest : List Entry) → AreInOrderFrom n s (front ++ e ∷ rest) → IsEntryInOrder n (made_from s front) e
behind-in_order n s [] e rest are = are.0
behind-in_order n s (x ∷ front) e rest are = behind-in_order n (after s x) front e rest are.1

-- where all are in order there is none
pub all-in_order : (n : Net) (list : List Entry) (k : ℕ) → AreInOrder n list → ¬ IsFirstOutOfOrder n list k
all-in_order n list k are first = first.out (behind-in_order n start first.front first.entry first.rest (subst (AreInOrder n) first.parts are))

-- it has one number
one_front : (n : Net) (s : Searched) (a b : List Entry) (e f : Entry) (x y : List Entry) → AreInOrderFrom n s a → AreInOrderFrom n s b
    → ¬ IsEntryInOrder n (made_from s a) e → ¬ IsEntryInOrder n (made_from s b) f → a ++ e ∷ x ≡ b ++ f ∷ y → length a ≡ length b
one_front n s [] [] e f x y are bre out off is = refl
one_front n s [] (h ∷ b) e f x y are bre out off is = absurd (out (subst (IsEntryInOrder n s) (sym (head-same e h x (b ++ f ∷ y) is)) bre.0))
one_front n s (g ∷ a) [] e f x y are bre out off is = absurd (off (subst (IsEntryInOrder n s) (head-same g f (a ++ e ∷ x) y is) are.0))
one_front n s (g ∷ a) (h ∷ b) e f x y are bre out off is =
    let same = sym (head-same g h (a ++ e ∷ x) (b ++ f ∷ y) is) in
    let others = one_front n (after s g) a b e f x y are.1 (subst (λ (z : Entry). AreInOrderFrom n (after s z) b) same bre.1) out
    (subst (λ (z : Entry). ¬ IsEntryInOrder n (made_from (after s z) b) f) same off) (tail-same g h (a ++ e ∷ x) (b ++ f ∷ y) is) in
    omega (arith, others)

one_number : (n : Net) (list : List Entry) (k m : ℕ) → IsFirstOutOfOrder n list k → IsFirstOutOfOrder n list m → k ≡ m
one_number n list k m a b =
    a.count ∙ one_front n start a.front b.front a.entry b.entry a.rest b.rest a.in_order b.in_order a.out b.out (sym a.parts ∙ b.parts) ∙ sym b.count

-- ---- causes

-- a file has one cause
pub one_cause : (n : Net) (text file : List ℕ) (c d : RunFault) → IsCause n text file c → IsCause n text file d → c ≡ d
one_cause n text file (Journal f) (Journal g) a b = ap Journal (one_fault text (longest n) file f g a b)
one_cause n text file (Journal f) (OutOfOrder m) a b = absurd (history_sound text (longest n) file b.history f b.of_file b.allowed a)
one_cause n text file (OutOfOrder k) (Journal g) a b = absurd (history_sound text (longest n) file a.history g a.of_file a.allowed b)
one_cause n text file (OutOfOrder k) (OutOfOrder m) a b =
    let same = one_history_of file text b.history a.history b.of_file a.of_file in
    let entry : a.entry ≡ b.entry = one_number n (entries_of a.history) a.entry b.entry a.first (subst (λ (h : History). IsFirstOutOfOrder n (entries_of h) b.entry) same b.first) in
    ap OutOfOrder (a.number ∙ ap (record_of (turn_at a.history)) entry ∙ ap (λ (h : History). record_of (turn_at h) b.entry) (sym same) ∙ sym b.number)

-- entries that are in order are those that a journal takes back
pub in_order-allowed : (n : Net) (text file : List ℕ) (list : List Entry) → Stands file text list → AreInOrder n list → HoldsAllowed text (longest n) file
in_order-allowed n text file list stands are = (stands.0, stands.1, allowed_in_order n text file stands.0 (subst (AreInOrder n) (sym stands.2) are) stands.1)

-- and none where it stands for entries that are in order
pub no_cause : (n : Net) (text file : List ℕ) (list : List Entry) (c : RunFault) → Stands file text list → AreInOrder n list → ¬ IsCause n text file c
no_cause n text file list (Journal fault) stands are has =
    let allowed = in_order-allowed n text file list stands are in history_sound text (longest n) file allowed.0 fault allowed.1 allowed.2 has
no_cause n text file list (OutOfOrder k) stands are has =
    let same = one_history_of file text stands.0 has.history stands.1 has.of_file in
    all-in_order n (entries_of has.history) has.entry (subst (AreInOrder n) (sym stands.2 ∙ ap entries_of same) are) has.first

-- what is answered is the cause that is there
pub decided-by : (n : Net) (text file : List ℕ) (f cause : RunFault) → IsFreeFault f ⊎ IsCause n text file f → IsCause n text file cause → IsFreeFault f ⊎ (f ≡ cause)
decided-by n text file f cause (inl free) has = inl free
decided-by n text file f cause (inr other) has = inr (one_cause n text file f cause other has)

-- ---- entries that are not replayed

pub replay-cause : (n : Net) (text file : List ℕ) (list : List Entry) (turn : Option ℕ) (fault : RunFault) → Stands file text list → TurnsAt file text turn → HoldsAllowed text (longest n) file
    → IsReplayFault n list turn fault → IsFreeFault fault ⊎ IsCause n text file fault
replay-cause n text file list turn (Journal fault) stands turns allowed is = inl (inr is)
replay-cause n text file list turn (OutOfOrder k) stands turns allowed is =
    let same = one_history_of file text turns.0 stands.0 turns.1 stands.1 in
    let fine = one_history_of file text allowed.0 stands.0 allowed.1 stands.1 in
    inr (record {
      history = stands.0;
      of_file = stands.1;
      allowed = subst (EachEntry (IsAllowed (longest n))) fine allowed.2;
      entry = is.0;
      first = subst (λ (l : List Entry). IsFirstOutOfOrder n l is.0) (sym stands.2) is.1;
      number = is.2 ∙ ap (λ (t : Option ℕ). record_of t is.0) (sym turns.2 ∙ ap turn_at same);
    })

pub replay-free : (n : Net) (list : List Entry) (turn : Option ℕ) (fault : RunFault) → AreInOrder n list → IsReplayFault n list turn fault → IsFreeFault fault
replay-free n list turn (Journal fault) are is = inr is
replay-free n list turn (OutOfOrder k) are is = absurd (all-in_order n list is.0 are is.1)

pub replay-alone : (n : Net) (list : List Entry) (turn : Option ℕ) (fault : RunFault) (Untouched : Type 0) → IsReplayFault n list turn fault → IsLeftAlone fault Untouched
replay-alone n list turn (Journal fault) Untouched is = inl (inr is)
replay-alone n list turn (OutOfOrder k) Untouched is = tt

pub free-alone : (fault : RunFault) (Untouched : Type 0) → IsFreeFault fault → IsLeftAlone fault Untouched
free-alone (Journal fault) Untouched free = inl free
free-alone (OutOfOrder k) Untouched free = absurd free
