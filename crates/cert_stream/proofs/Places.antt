-- Where the bytes of a room lie, as it is moved and filled.
use Rattle.std.proofs.Common.{◌≡◌, ℕ, zero, suc, ◌+◌, ◌-◌, ◌≤◌, List, [], ◌∷◌, ◌++◌, length, take, drop, slice_range, refl, sym, ap, ◌∙◌, arith, length-take-le, length-drop}
use lib.Seq.{paste}
use borrow.Rule.Slice.PartMut.{put_mid}
use Rattle.std.specs.List.{copy_within}
use Rattle.std.proofs.lemmas.List.{drop-drop, take-take}
use Rattle.std.proofs.lemmas.List.Edits.{take-paste}
use Rattle.std.proofs.lemmas.Slice.{between_is, take-put_mid}

-- the last of the bytes between two places
pub kept-last : (xs ys : List ℕ) (i j n : ℕ) → slice_range xs i j ≡ ys → i ≤ j → j ≤ length xs → n ≤ length ys → slice_range xs (j - n) j ≡ drop (length ys - n) ys
kept-last xs ys i j n e le within fits =
    let long : length ys ≡ j - i = omega (arith, ap length (sym e), length-take-le (j - i) (drop i xs) (omega (arith, length-drop i xs))) in
    let from : j - n ≡ i + (length ys - n) = omega (arith, long, fits, le) in
    ap (λ (k : ℕ). slice_range xs k j) from
    ∙ between_is xs (i + (length ys - n)) j
    ∙ sym (drop-drop (length ys - n) i (take j xs))
    ∙ ap (drop (length ys - n)) (sym (between_is xs i j) ∙ e)

-- bytes that are moved to the front
pub moved : (xs : List ℕ) (i j : ℕ) → i ≤ j → j ≤ length xs → take (j - i) (copy_within xs i j 0) ≡ slice_range xs i j
moved xs i j le within =
    let same : j - i ≡ 0 + (j - i) = omega arith in
    ap (λ (k : ℕ). take k (paste xs 0 (drop i xs) (j - i))) same ∙ take-paste xs 0 (drop i xs) (j - i) (omega arith) (omega (arith, length-drop i xs))

-- the same, where all of the room is known
pub front-moved : (all kept xs ys : List ℕ) (i j : ℕ) → all ≡ kept → kept ≡ copy_within xs i j 0 → i ≤ j → j ≤ length xs → slice_range xs i j ≡ ys → take (j - i) all ≡ ys
front-moved all kept xs ys i j d e le within f = ap (take (j - i)) (d ∙ e) ∙ moved xs i j le within ∙ f

take-past : (xs ys : List ℕ) (n m : ℕ) → m ≡ length xs + n → take m (xs ++ ys) ≡ xs ++ take n ys
take-past [] ys n m e = let same : m ≡ n = omega arith in rw same
take-past (x ∷ xs) ys n zero e = absurd (omega arith)
take-past (x ∷ xs) ys n (suc m) e = ap (λ (l : List ℕ). x ∷ l) (take-past xs ys n m (omega arith))

-- bytes that are written behind a front
pub grown : (xs got : List ℕ) (a k n : ℕ) → a ≤ length xs → n ≤ length got → take (a + n) (put_mid a k xs got) ≡ take a xs ++ take n got
grown xs got a k n le fits =
    sym (take-take (a + n) (a + length got) (put_mid a k xs got) (omega arith))
    ∙ ap (take (a + n)) (take-put_mid a k xs got (a + length got) refl le)
    ∙ take-past (take a xs) got n (a + n) (omega (arith, length-take-le a xs le))
