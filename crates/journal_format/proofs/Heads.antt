-- What stands before the records.
use Rattle.std.proofs.Common.{◌≡◌, ◌≢◌, ℕ, ◌+◌, ◌<◌, ◌≤◌, List, [], ◌∷◌, ◌++◌, length, get_or, take, drop, refl, sym, ap, subst, ◌∙◌, arith, length-drop}
use Rattle.std.proofs.lemmas.List.{take-append-drop, drop-drop, get_or-drop, get_or-take, drop-take, take-take}
use Rattle.journal_format.specs.Versions.{version_byte}
use Rattle.journal_format.specs.Files.{header, text_bytes, magic, HasMagic, IsBorn}
use Rattle.journal_format.specs.declared.version.Version.{Version}
use Rattle.journal_format.specs.declared.version.Version.TheVariants.{One, Two}

cons_first : (l : List ℕ) → 1 ≤ length l → l ≡ get_or l 0 0 ∷ drop 1 l
cons_first [] le = absurd (omega arith)
cons_first (b ∷ l) le = refl

length-drop_least : (n : ℕ) (l : List ℕ) → n + 1 ≤ length l → 1 ≤ length (drop n l)
length-drop_least n l le = omega (arith, length-drop n l)

-- a front of the header's bytes is the header
pub whole_head : (v : Version) (text front : List ℕ) → get_or front 0 0 ≡ 1 → HasMagic front → get_or front 8 0 ≡ version_byte v → 9 ≤ length front → drop 9 front ≡ text_bytes text
    → front ≡ header 1 v text
whole_head v text front birth marked byte long tail =
    let eight = drop 8 front in
    let last : eight ≡ version_byte v ∷ text_bytes text =
    cons_first eight (length-drop_least 8 front (omega (arith, long)))
    ∙ ap (λ (b : ℕ). b ∷ drop 1 eight) (get_or-drop 8 front 0 0 ∙ byte)
    ∙ ap (λ (l : List ℕ). version_byte v ∷ l) (drop-drop 1 8 front ∙ tail) in
    let middle : drop 1 front ≡ magic ++ (version_byte v ∷ text_bytes text) =
    sym (take-append-drop 7 (drop 1 front)) ∙ ap (λ (l : List ℕ). l ++ drop 7 (drop 1 front)) marked
    ∙ ap (λ (l : List ℕ). magic ++ l) (drop-drop 7 1 front ∙ last) in
    cons_first front (omega (arith, long)) ∙ ap (λ (b : ℕ). b ∷ drop 1 front) birth ∙ ap (λ (l : List ℕ). 1 ∷ l) middle

-- how long a header is
pub length-header : (birth : ℕ) (v : Version) (text : List ℕ) → length (header birth v text) ≡ 9 + length (text_bytes text)
length-header birth v text = omega arith

module _ (v : Version) (text file front tail : List ℕ) (is : tail ≡ text_bytes text) (first : front ≡ take (9 + length tail) file) where
  size : 9 + length tail ≡ length (header 1 v text)
  size = omega (arith, ap length is)

  -- a file whose first bytes are the header begins with it
  pub begins_with : get_or front 0 0 ≡ 1 → HasMagic front → get_or front 8 0 ≡ version_byte v → 9 ≤ length front → drop 9 front ≡ tail
      → file ≡ header 1 v text ++ drop (length (header 1 v text)) file
  begins_with birth marked byte long same =
      let whole = whole_head v text front birth marked byte long (same ∙ is) in
      subst (λ (k : ℕ). file ≡ header 1 v text ++ drop k file) size
      (sym (take-append-drop (9 + length tail) file) ∙ ap (λ (l : List ℕ). l ++ drop (9 + length tail) file) (sym first ∙ whole))

  -- and one whose first bytes go on otherwise does not
  pub begins_not : ¬ ((9 ≤ length front) × (drop 9 front ≡ tail)) → take (length (header 1 v text)) file ≢ header 1 v text
  begins_not other same =
      let whole : front ≡ header 1 v text = first ∙ ap (λ (k : ℕ). take k file) size ∙ same in
      other (omega (arith, ap length whole), ap (drop 9) whole ∙ sym is)

-- what the first bytes of a file say
module _ (file front : List ℕ) (k : ℕ) (is : front ≡ take (9 + k) file) where
  byte_there : (i : ℕ) → i < 9 → get_or file i 0 ≡ get_or front i 0
  byte_there i lt = sym (ap (λ (l : List ℕ). get_or l i 0) is ∙ get_or-take (9 + k) file i 0 (omega arith))

  magic_there : take 7 (drop 1 file) ≡ take 7 (drop 1 front)
  magic_there =
      let size : 1 + (8 + k) ≡ 9 + k = omega arith in
      sym (take-take 7 (8 + k) (drop 1 file) (omega arith)) ∙ ap (take 7) (sym (drop-take 1 (8 + k) file))
      ∙ ap (λ (n : ℕ). take 7 (drop 1 (take n file))) size ∙ ap (λ (l : List ℕ). take 7 (drop 1 l)) (sym is)

  pub born_front : (v : Version) → get_or front 0 0 ≡ 1 → HasMagic front → get_or front 8 0 ≡ version_byte v → IsBorn file × (get_or file 8 0 ≡ version_byte v)
  born_front v birth marked byte = (record { birth = byte_there 0 (omega arith) ∙ birth; marked = magic_there ∙ marked }, byte_there 8 (omega arith) ∙ byte)

-- a byte tells one version
pub one_version : (v w : Version) → version_byte v ≡ version_byte w → v ≡ w
one_version One One is = refl
one_version One Two is = absurd (omega (arith, is))
one_version Two One is = absurd (omega (arith, is))
one_version Two Two is = refl

-- the byte of a version is 1 or 2
pub known_byte : (v : Version) (byte : ℕ) → byte ≢ 1 → byte ≢ 2 → byte ≢ version_byte v
known_byte One byte a b = a
known_byte Two byte a b = b
