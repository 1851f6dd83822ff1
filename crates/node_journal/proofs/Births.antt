-- What a crash leaves while a journal is born.
use Rattle.std.proofs.Common.{◌≡◌, ℕ, zero, suc, ◌+◌, ◌-◌, ◌≤◌, inl, inr, List, [], ◌∷◌, ◌++◌, length, get_or, take, drop, refl, sym, ap, subst, ◌∙◌, arith}
use Rattle.std.proofs.lemmas.List.{append-nil, drop_all, take_rest}
use Rattle.disk_calls.specs.Disks.{written, Torn, Shortened}
use Rattle.disk_calls.proofs.Calling.{torn_byte, torn-front, cut_front}
use Rattle.journal_format.specs.Histories.{born_in, history_bytes}
use Rattle.journal_format.specs.Files.{header, newborn, IsShut, IsUnborn, IsZeroed, IsOwn, IsOwnFor}
use Rattle.journal_format.specs.declared.version.Version.{Version}
use Rattle.journal_format.specs.declared.version.Version.TheVariants.{Two}
use Rattle.journal_format.proofs.OwnFiles.{blank-own, any_birth, born_not}

-- ---- the first step

cons_first : (file : List ℕ) → 1 ≤ length file → file ≡ get_or file 0 0 ∷ drop 1 file
cons_first [] le = absurd (omega arith)
cons_first (b ∷ file) le = refl

other_birth : (v : Version) (text : List ℕ) (birth other : ℕ) (rest file : List ℕ) → IsShut rest → file ≡ header birth v text ++ rest → IsOwnFor text [] (other ∷ drop 1 file)
other_birth v text birth other rest file shut is = subst (λ (l : List ℕ). IsOwnFor text [] (other ∷ drop 1 l)) (sym is) (any_birth v text other rest shut)

short_any : (text : List ℕ) (other : ℕ) (file : List ℕ) → length file ≤ 1 → IsOwnFor text [] (other ∷ drop 1 file)
short_any text other [] le = blank-own text (other ∷ []) (inl (omega arith))
short_any text other (b ∷ []) le = blank-own text (other ∷ []) (inl (omega arith))
short_any text other (b ∷ d ∷ file) le = absurd (omega arith)

-- a write of byte 0 of an unborn file that is not zeroed
pub torn_first : (text file c : List ℕ) → IsUnborn file → IsOwn text file → (get_or file 0 0 ≡ 0 → length file ≤ 1) → Torn 0 1 file c → IsOwnFor text [] c
torn_first text [] c unborn own marked torn = blank-own text c (inl (omega (arith, torn.no_longer)))
torn_first text (b ∷ file) c unborn own marked torn =
    let parts = torn_byte 0 (b ∷ file) c (omega arith) torn in
    let P : List ℕ → Type 0 = IsOwnFor text [] in
    subst P (sym parts.1) (by own)
  where
    by : IsOwn text (b ∷ file) → IsOwnFor text [] ((torn_byte 0 (b ∷ file) c (omega arith) torn).0 ∷ file)
    by (inl short) = short_any text (torn_byte 0 (b ∷ file) c (omega arith) torn).0 (b ∷ file) short
    by (inr (inl none)) = short_any text (torn_byte 0 (b ∷ file) c (omega arith) torn).0 (b ∷ file) (marked none)
    by (inr (inr (inl half))) = other_birth half.version text half.birth (torn_byte 0 (b ∷ file) c (omega arith) torn).0 half.rest (b ∷ file) half.shut half.parts
    by (inr (inr (inr (list, kept)))) = absurd (born_not (born_in kept.history) text (history_bytes kept.history ++ kept.rest) (b ∷ file) kept.holds.parts unborn)

pub zeroed_first : (file : List ℕ) → IsZeroed file → file ≡ 0 ∷ drop 1 file
zeroed_first file z = cons_first file z.there ∙ ap (λ (b : ℕ). b ∷ drop 1 file) z.zero

-- ---- the other steps

-- a cut of a file that begins with 0
pub shortened_blank : (text file c : List ℕ) → Shortened 1 (0 ∷ file) c → IsOwnFor text [] c
shortened_blank text file c cut =
    let parts = cut_front 1 (0 ∷ file) c (omega arith) cut in
    blank-own text c (inr (ap (λ (l : List ℕ). get_or l 0 0) parts.3 ∙ first parts.0 parts.1))
  where
    first : (n : ℕ) → 1 ≤ n → get_or (take n (0 ∷ file)) 0 0 ≡ 0
    first zero le = refl
    first (suc n) le = refl

-- a write behind byte 0
pub torn_tail : (text : List ℕ) (n : ℕ) (c : List ℕ) → Torn 1 n (0 ∷ []) c → IsOwnFor text [] c
torn_tail text n c torn = blank-own text c (inr (first c (torn-front 1 n (0 ∷ []) c torn (omega arith))))
  where
    first : (c : List ℕ) → take 1 c ≡ 0 ∷ [] → get_or c 0 0 ≡ 0
    first [] e = refl
    first (b ∷ c) e = ap (λ (l : List ℕ). get_or l 0 0) e

pub written_tail : (tail : List ℕ) → written (0 ∷ []) 1 tail ≡ 0 ∷ tail
written_tail tail = ap (λ (l : List ℕ). 0 ∷ (tail ++ l)) (nothing (length tail)) ∙ ap (λ (l : List ℕ). 0 ∷ l) (append-nil tail)
  where
    nothing : (n : ℕ) → drop {A = ℕ} (1 + n) (0 ∷ []) ≡ []
    nothing n = drop_all (1 + n) (0 ∷ []) (omega arith)

-- a write of byte 0 in front of what is written before birth
pub torn_birth : (text tail c : List ℕ) → 1 ∷ tail ≡ newborn text → Torn 0 1 (0 ∷ tail) c → IsOwnFor text [] c
torn_birth text tail c is torn =
    let parts = torn_byte 0 (0 ∷ tail) c (omega arith) torn in
    let tail-is : tail ≡ drop 1 (newborn text) = ap (drop 1) is in
    let P : List ℕ → Type 0 = IsOwnFor text [] in
    subst P (sym (parts.1 ∙ ap (λ (l : List ℕ). parts.0 ∷ l) tail-is)) (any_birth Two text parts.0 (0 ∷ []) (omega arith))

-- byte 0 over it
pub written_birth : (tail : List ℕ) → written (written (0 ∷ []) 1 tail) 0 (1 ∷ []) ≡ 1 ∷ tail
written_birth tail = ap (λ (l : List ℕ). written l 0 (1 ∷ [])) (written_tail tail)

-- what stands behind the first byte of a newborn file
pub newborn_tail : (text whole : List ℕ) → whole ≡ newborn text → 1 ∷ take (length whole - 1) (drop 1 whole) ≡ newborn text
newborn_tail text whole is = ap (λ (l : List ℕ). 1 ∷ l) (take_rest whole 1) ∙ ap (λ (l : List ℕ). 1 ∷ drop 1 l) is
