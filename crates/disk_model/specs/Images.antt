-- What holds of the images of a file in memory.
use Rattle.std.specs.Prelude.{◌≡◌, ℕ, ◌+◌, ◌-◌, ◌<◌, ◌≤◌, ◌⊎◌, min, List, [], ◌∷◌, ◌++◌, length, take, drop, Some, None, Bool, true, false, if◌then◌else◌, refl}
use Rattle.std.proofs.Common.{sym, ◌∙◌, ap, subst, inl, inr, arith, append_assoc, length-append, length-take, length-drop}
use Rattle.std.proofs.lemmas.Bool.{cases_lt}
use Rattle.std.proofs.lemmas.List.{take_at, drop_at, take_all, drop_all, drop-drop, take-append-le, take_min}
use Rattle.disk_calls.proofs.Calling.{torn-same, shortened-same}
use Rattle.disk_calls.specs.Disks.{written, Torn, Shortened, ComesBy, Only}
use Rattle.disk_model.specs.Steps.{after_step, file_after, Lands, Leaves, IsImage, MayLeave, LeftSince, LeftUntil}
use Rattle.disk_model.specs.declared.step.Step.{Step}
use Rattle.disk_model.specs.declared.step.Step.TheVariants.{Write, Cut, Sync}

-- a front of the bytes, or others in their place
pub torn-written : (at n : ℕ) (file bytes : List ℕ) → length bytes ≤ n → Torn at n file (written file at bytes)
torn-written at n file bytes le = record {
  before = ap (λ (w : List ℕ). take (min at (length file)) w) (append_assoc (take at file) bytes rest) ∙ take_at (take at file) (bytes ++ rest) (min at (length file)) front;
  after = elim (cases_lt (length file) at) [
    | inl past ↦ drop_all (at + n) (written file at bytes) (omega (arith, size, front, length-drop (at + length bytes) file)) ∙ sym (drop_all (at + n) file (omega arith))
    | inr within ↦ further (omega (arith, length-append (take at file) bytes, front))
  ];
  no_shorter = omega (arith, size, front, length-drop (at + length bytes) file);
  no_longer = omega (arith, size, front, length-drop (at + length bytes) file);
}
  where
    rest : List ℕ
    rest = drop (at + length bytes) file

    front : length (take at file) ≡ min at (length file)
    front = length-take at file

    size : length (written file at bytes) ≡ length (take at file) + length bytes + length (drop (at + length bytes) file)
    size = omega (arith, length-append (take at file ++ bytes) (drop (at + length bytes) file), length-append (take at file) bytes)

    further : length (take at file ++ bytes) ≡ at + length bytes → drop (at + n) (written file at bytes) ≡ drop (at + n) file
    further is =
        let split : at + n ≡ at + length bytes + (n - length bytes) = omega arith in
        ap (λ (k : ℕ). drop k (written file at bytes)) split
        ∙ sym (drop-drop (n - length bytes) (at + length bytes) (written file at bytes))
        ∙ ap (drop (n - length bytes)) (drop_at (take at file ++ bytes) (drop (at + length bytes) file) (at + length bytes) is)
        ∙ drop-drop (n - length bytes) (at + length bytes) file
        ∙ ap (λ (k : ℕ). drop k file) (sym split)

pub shortened-take : (to n : ℕ) (file : List ℕ) → to ≤ n → Shortened to file (take n file)
shortened-take to n file le = record {
  front = ap (λ (k : ℕ). take k file) (length-take n file) ∙ take_min n file;
  no_shorter = omega (arith, length-take n file);
}

-- a step that wholly took place
pub lands-whole : (s : Step) (file : List ℕ) → Lands s file (after_step s file)
lands-whole (Write at bytes) file = torn-written at (length bytes.items) file bytes.items (omega arith)
lands-whole (Cut to) file = shortened-take to to file (omega arith)
lands-whole Sync file = refl

-- the file after the steps is one of the images
pub file-image : (steps : List Step) (file : List ℕ) (images : List ℕ → Type 0) → images file → IsImage steps file images (file_after steps file)
file-image [] file images here = here
file-image (Write at bytes ∷ ss) file images here =
    file-image ss (written file at bytes.items) (Leaves (Write at bytes) file images) (file, here, torn-written at (length bytes.items) file bytes.items (omega arith))
file-image (Cut to ∷ ss) file images here = file-image ss (take to file) (Leaves (Cut to) file images) (file, here, shortened-take to to file (omega arith))
file-image (Sync ∷ ss) file images here = file-image ss file (Leaves Sync file images) refl

-- ---- one step more

pub file_after-push : (ss : List Step) (s : Step) (file : List ℕ) → file_after (ss ++ s ∷ []) file ≡ after_step s (file_after ss file)
file_after-push [] s file = refl
file_after-push (x ∷ ss) s file = file_after-push ss s (after_step x file)

pub image-last : (ss : List Step) (s : Step) (file : List ℕ) (images : List ℕ → Type 0) (c : List ℕ) → IsImage (ss ++ s ∷ []) file images c → Leaves s (file_after ss file) (IsImage ss file images) c
image-last [] s file images c h = h
image-last (x ∷ ss) s file images c h = image-last ss s (after_step x file) (Leaves x file images) c h

pub image-push : (ss : List Step) (s : Step) (file : List ℕ) (images : List ℕ → Type 0) (c : List ℕ) → Leaves s (file_after ss file) (IsImage ss file images) c → IsImage (ss ++ s ∷ []) file images c
image-push [] s file images c h = h
image-push (x ∷ ss) s file images c h = image-push ss s (after_step x file) (Leaves x file images) c h

-- ---- the trait's laws

pub reads-image : (start : List ℕ) (steps : List Step) (file : List ℕ) → file_after steps start ≡ file → MayLeave start steps file
reads-image start steps file is = subst (MayLeave start steps) is (file-image steps start (λ i. i ≡ start) refl)

-- so is what a read gives, where that is known
pub reads-held : (attached : Bool) (bytes start : List ℕ) (steps : List Step) (file : List ℕ) → bytes ≡ file_after steps start
    → (if attached then Some bytes else None) ≡ Some file → MayLeave start steps file
reads-held true bytes start steps file follows is = let same : bytes ≡ file = cc in reads-image start steps file (sym follows ∙ same)
reads-held false bytes start steps file follows is = absurd (cc)

pub counts-now : (start : List ℕ) (steps : List Step) (t : ℕ) (c : List ℕ) → t ≤ length steps → MayLeave start steps c → LeftSince start steps t c
counts-now start steps t c le now = (length steps, le, omega arith, subst (λ (w : List Step). MayLeave start w c) (sym (take_all (length steps) steps (omega arith))) now)

pub only-now : (start : List ℕ) (steps : List Step) (c : List ℕ) → LeftSince start steps (length steps) c → MayLeave start steps c
only-now start steps c (k, le, within, left) = subst (λ (w : List Step). MayLeave start w c) (take_all k steps le) left

pub since-before : (start : List ℕ) (steps : List Step) (t u : ℕ) (c : List ℕ) → t ≤ u → LeftSince start steps u c → LeftSince start steps t c
since-before start steps t u c le (k, from, within, left) = (k, omega (arith, le, from), within, left)

pub up-to-now : (start : List ℕ) (steps : List Step) (t u : ℕ) (c : List ℕ) → length steps ≤ u → LeftSince start steps t c → LeftUntil start steps u c
up-to-now start steps t u c le (k, from, within, left) = (k, omega (arith, le, within), within, left)

pub ends-now : (start : List ℕ) (steps : List Step) (t : ℕ) (c : List ℕ) → LeftUntil start steps t c → LeftUntil start steps (length steps) c
ends-now start steps t c (k, le, within, left) = (k, within, within, left)

-- ---- time over a call

-- how time goes on from some steps to others
pub record Lasts (start : List ℕ) (before now : List Step) : Type 0 where
  pub later : length before ≤ length now
  pub nothing_else : (t : ℕ) (c : List ℕ) → t ≤ length before → LeftSince start now t c → LeftSince start before t c ⊎ LeftSince start now (length before) c
  pub keeps : (t : ℕ) (c : List ℕ) → t ≤ length before → LeftSince start before t c → LeftSince start now t c
  pub nothing_earlier : (t : ℕ) (c : List ℕ) → LeftUntil start now t c → LeftUntil start before t c ⊎ ((length before < t) × LeftSince start now (length before) c)
  pub keeps_past : (t : ℕ) (c : List ℕ) → LeftUntil start before t c → LeftUntil start now t c

pub time-same : (start : List ℕ) (steps : List Step) → Lasts start steps steps
time-same start steps = record {
  later = omega arith;
  nothing_else = λ t c le left. inl left;
  keeps = λ t c le left. left;
  nothing_earlier = λ t c left. inl left;
  keeps_past = λ t c left. left;
}

-- the steps up to a moment before the last step are those of before it
earlier : (start : List ℕ) (ss : List Step) (s : Step) (k : ℕ) (c : List ℕ) → k ≤ length ss → MayLeave start (take k (ss ++ s ∷ [])) c → MayLeave start (take k ss) c
earlier start ss s k c le left = subst (λ (w : List Step). MayLeave start w c) (take-append-le k ss (s ∷ []) le) left

later-on : (start : List ℕ) (ss : List Step) (s : Step) (k : ℕ) (c : List ℕ) → k ≤ length ss → MayLeave start (take k ss) c → MayLeave start (take k (ss ++ s ∷ [])) c
later-on start ss s k c le left = subst (λ (w : List Step). MayLeave start w c) (sym (take-append-le k ss (s ∷ []) le)) left

pub left-push : (start : List ℕ) (ss : List Step) (s : Step) (t : ℕ) (c : List ℕ) → LeftSince start (ss ++ s ∷ []) t c → LeftSince start ss t c ⊎ MayLeave start (ss ++ s ∷ []) c
left-push start ss s t c (k, le, within, left) = elim (cases_lt (length ss) k) [
  | inl more ↦ inr (subst (λ (w : List Step). MayLeave start w c) (take_all k (ss ++ s ∷ []) (omega (arith, length-append ss (s ∷ [])))) left)
  | inr less ↦ inl (k, le, less, earlier start ss s k c less left)
]

pub time-push : (start : List ℕ) (ss : List Step) (s : Step) → Lasts start ss (ss ++ s ∷ [])
time-push start ss s = record {
  later = omega (arith, length-append ss (s ∷ []));
  nothing_else = λ t c le left. elim (left-push start ss s t c left) [
    | inl past ↦ inl past
    | inr now ↦ inr (counts-now start (ss ++ s ∷ []) (length ss) c (omega (arith, length-append ss (s ∷ []))) now)
  ];
  keeps = λ t c le left. (left.0, left.1, omega (arith, length-append ss (s ∷ []), left.2), later-on start ss s left.0 c left.2 left.3);
  nothing_earlier = λ t c left. elim (cases_lt (length ss) left.0) [
    | inl more ↦ inr (omega (arith, more, left.1), (left.0, omega (arith, more), left.2, left.3))
    | inr less ↦ inl (left.0, left.1, less, earlier start ss s left.0 c less left.3)
  ];
  keeps_past = λ t c left. (left.0, left.1, omega (arith, length-append ss (s ∷ []), left.2), later-on start ss s left.0 c left.2 left.3);
}

-- ---- images over a call

-- what a crash left since the start of a step was there before it, or comes by the step
pub crash-push : (start : List ℕ) (ss : List Step) (s : Step) (c : List ℕ) → LeftSince start (ss ++ s ∷ []) (length ss) c → MayLeave start ss c ⊎ Leaves s (file_after ss start) (MayLeave start ss) c
crash-push start ss s c left = elim (left-push start ss s (length ss) c left) [
  | inl past ↦ inl (only-now start ss c past)
  | inr now ↦ inr (image-last ss s start (λ i. i ≡ start) c now)
]

-- a step that never came
lands-same : (s : Step) (file : List ℕ) → Lands s file file
lands-same (Write at bytes) file = torn-same at (length bytes.items) file
lands-same (Cut to) file = shortened-same to file
lands-same Sync file = refl

-- what a crash may leave after a step comes from an image before it by the step
leaves-lands : (s : Step) (file : List ℕ) (images : List ℕ → Type 0) (c : List ℕ) → images file → Leaves s file images c → (i : List ℕ) × images i × Lands s i c
leaves-lands (Write at bytes) file images c here left = left
leaves-lands (Cut to) file images c here left = left
leaves-lands Sync file images c here left = (file, here, left)

-- each image since the start of a step comes from one before it by the step
pub crash-to : (start : List ℕ) (ss later : List Step) (s : Step) → later ≡ ss ++ s ∷ [] → ComesBy (Lands s) (MayLeave start ss) (LeftSince start later (length ss))
crash-to start ss later s is c left = elim (crash-push start ss s c (subst (λ (w : List Step). LeftSince start w (length ss) c) is left)) [
  | inl past ↦ (c, past, lands-same s c)
  | inr now ↦ leaves-lands s (file_after ss start) (MayLeave start ss) c (file-image ss start (λ i. i ≡ start) refl) now
]

-- the same where the step never came
pub crash-same : (start : List ℕ) (ss later : List Step) (s : Step) → later ≡ ss → ComesBy (Lands s) (MayLeave start ss) (LeftSince start later (length ss))
crash-same start ss later s is c left = (c, only-now start ss c (subst (λ (w : List Step). LeftSince start w (length ss) c) is left), lands-same s c)

pub time-to : (start : List ℕ) (ss later : List Step) (s : Step) → later ≡ ss ++ s ∷ [] → Lasts start ss later
time-to start ss later s is = subst (Lasts start ss) (sym is) (time-push start ss s)

pub time-stays : (start : List ℕ) (ss later : List Step) → later ≡ ss → Lasts start ss later
time-stays start ss later is = subst (Lasts start ss) (sym is) (time-same start ss)

-- after a sync the file is the only image
pub synced-only : (start : List ℕ) (ss later : List Step) (bytes : List ℕ) → later ≡ ss ++ Sync ∷ [] → bytes ≡ file_after ss start → Only bytes (MayLeave start later)
synced-only start ss later bytes is follows c left = image-last ss Sync start (λ i. i ≡ start) c (subst (λ (w : List Step). MayLeave start w c) is left) ∙ sym follows
