-- What the calls of a disk leave, in the words of lists.
use Rattle.std.proofs.Common.{◌≡◌, ℕ, ◌+◌, ◌≤◌, min, List, ◌∷◌, ◌++◌, length, get_or, take, drop, Option, Some, None}
use Rattle.std.proofs.Common.{Result, Ok, Err, IfSome, OnErr, refl, sym, ◌∙◌, ap, subst, arith, length-take, length-drop}
use Rattle.std.proofs.lemmas.List.{take-append-drop, take_all, take_min, drop_all, drop_more, append-nil}
use Rattle.disk_calls.specs.Disks.{written, Torn, Shortened, ComesBy, Among, Only, IsWithin}

-- ---- one image

-- a write that never came
pub torn-same : (at n : ℕ) (file : List ℕ) → Torn at n file file
torn-same at n file = record { before = take_min at file; after = refl; no_shorter = omega arith; no_longer = omega arith }

-- a cut that never came
pub shortened-same : (to : ℕ) (file : List ℕ) → Shortened to file file
shortened-same to file = record { front = take_all (length file) file (omega arith); no_shorter = omega arith }

-- the front of a file that a write starts within stays
pub torn-front : (at n : ℕ) (old new : List ℕ) → Torn at n old new → at ≤ length old → take at new ≡ take at old
torn-front at n old new torn within = let same : min at (length old) ≡ at = omega arith in ap (λ (k : ℕ). take k new) (sym same) ∙ torn.before

-- behind the end the file stays, with any bytes behind it
pub torn_behind : (at n : ℕ) (file c : List ℕ) → at ≡ length file → Torn at n file c → (rest : List ℕ) × (length rest ≤ n) × (c ≡ file ++ rest)
torn_behind at n file c is torn = (
  drop at c,
  omega (arith, length-drop at c, torn.no_longer),
  sym (take-append-drop at c) ∙ ap (λ (l : List ℕ). l ++ drop at c) (torn-front at n file c torn (omega arith) ∙ take_all at file (omega arith)),
)

-- a write of one byte within the file leaves the rest
pub torn_byte : (at : ℕ) (file c : List ℕ) → at + 1 ≤ length file → Torn at 1 file c → (byte : ℕ) × (c ≡ take at file ++ byte ∷ drop (at + 1) file)
torn_byte at file c within torn = (
  get_or c at 0,
  sym (take-append-drop at c)
      ∙ ap (λ (l : List ℕ). l ++ drop at c) (torn-front at 1 file c torn (omega arith))
      ∙ ap (λ (l : List ℕ). take at file ++ l) (drop_more c at 0 (omega (arith, torn.no_shorter)) ∙ ap (λ (l : List ℕ). get_or c at 0 ∷ l) torn.after),
)

-- a cut leaves a front
pub cut_front : (to : ℕ) (file c : List ℕ) → to ≤ length file → Shortened to file c → (n : ℕ) × (to ≤ n) × (n ≤ length file) × (c ≡ take n file)
cut_front to file c within cut = (length c, omega (arith, cut.no_shorter), omega (arith, length-take (length c) file, ap length cut.front), sym cut.front)

-- bytes written behind the end
pub written-behind : (at : ℕ) (file bytes : List ℕ) → at ≡ length file → written file at bytes ≡ file ++ bytes
written-behind at file bytes is =
    ap (λ (l : List ℕ). l ++ bytes ++ drop (at + length bytes) file) (take_all at file (omega arith))
    ∙ ap (λ (l : List ℕ). file ++ bytes ++ l) (drop_all (at + length bytes) file (omega arith))
    ∙ append-nil (file ++ bytes)

-- ---- each image

pub among-all : (old since P : List ℕ → Type 0) → Among old since → ((c : List ℕ) → old c → P c) → (c : List ℕ) → since c → P c
among-all old since P crash here c left = here c (crash c left)

-- each image that comes by a step from one that has Q
pub follows-all : (step : List ℕ → List ℕ → Type 0) (old since Q P : List ℕ → Type 0) → ComesBy step old since → ((c : List ℕ) → old c → Q c)
    → ((i c : List ℕ) → Q i → step i c → P c) → (c : List ℕ) → since c → P c
follows-all step old since Q P crash had here c left = let from = crash c left in here from.0 c (had from.0 from.1) from.2

-- each image that comes by a step from the only one
pub only-all : (step : List ℕ → List ℕ → Type 0) (old since P : List ℕ → Type 0) (file : List ℕ) → ComesBy step old since → Only file old
    → ((c : List ℕ) → step file c → P c) → (c : List ℕ) → since c → P c
only-all step old since P file crash only here = follows-all step old since (λ i. i ≡ file) P crash only (λ i c is by. here c (subst (λ (w : List ℕ). step w c) is by))

pub behind-all : (old since P : List ℕ → Type 0) (file : List ℕ) (at n : ℕ) → ComesBy (Torn at n) old since → Only file old → at ≡ length file
    → ((rest : List ℕ) → length rest ≤ n → P (file ++ rest)) → (c : List ℕ) → since c → P c
behind-all old since P file at n crash only is here =
    only-all (Torn at n) old since P file crash only (λ c torn. let parts = torn_behind at n file c is torn in subst P (sym parts.2) (here parts.0 parts.1))

-- ---- what a read gives

-- where a place is reached the file is known
pub reaches-file : (reads : Option (List ℕ)) (place : ℕ) → IsWithin reads place → (file : List ℕ) × (reads ≡ Some file) × (place ≤ length file)
reaches-file None place reached = absurd reached
reaches-file (Some file) place reached = (file, refl, reached)

-- a clause on the file, at the file
pub at-file : (reads : Option (List ℕ)) (file : List ℕ) (P : List ℕ → Type 0) → reads ≡ Some file → IfSome reads P → P file
at-file reads file P is clause = subst (λ (o : Option (List ℕ)). IfSome o P) is clause

-- ---- what a call answers

-- what holds, said of an error
pub on_err : (T E P : Type 0) (r : Result T E) → P → OnErr r P
on_err T E P (Ok value) holds = tt
on_err T E P (Err fault) holds = holds
