-- What is found in blocks where blocks are put behind them, and where one is copied with a number changed.
use Rattle.std.proofs.Common.{◌≡◌, ℕ, zero, suc, ◌+◌, ◌*◌, ◌/◌, ◌%◌, ◌<◌, inl, inr, List, [], ◌∷◌, ◌++◌, length, get_or, set, ◌==◌, if◌then◌else◌, arith, refl, sym, ap, subst, ◌∙◌, length-append, get_or-set_same, get_or-set_other}
use Rattle.std.proofs.lemmas.List.{get_or_append_left, length-set}
use Rattle.std.proofs.Math.Seq.{get_or-append_seam}
use Rattle.integers.proofs.AtKey.{same_or_other, chosen, passed}
use Rattle.map_versions.specs.Versions.{Versions, found, count, IsThere, IsChanged, AreShared}

-- ---- blocks behind the others

digit_below : (key : ℕ) → key % 8 < 8
digit_below key = omega arith

pub found-before : (blocks more : List (List ℕ)) (levels block key : ℕ) → IsThere blocks levels block → found (blocks ++ more) levels block key ≡ found blocks levels block key
found-before blocks more zero block key there = refl
found-before blocks more (suc levels) block key there =
    ap (λ (b : List ℕ). found (blocks ++ more) levels (get_or b (key % 8) 0) (key / 8)) (get_or_append_left blocks more [] block there.0)
    ∙ found-before blocks more levels (get_or (get_or blocks block []) (key % 8) 0) (key / 8) (there.1 (key % 8) (digit_below key))

pub there-still : (blocks more : List (List ℕ)) (levels block : ℕ) → IsThere blocks levels block → IsThere (blocks ++ more) levels block
there-still blocks more zero block there = tt
there-still blocks more (suc levels) block there = (
  omega (arith, there.0, length-append blocks more),
  λ digit lt. subst (λ (b : List ℕ). IsThere (blocks ++ more) levels (get_or b digit 0)) (sym (get_or_append_left blocks more [] block there.0))
      (there-still blocks more levels (get_or (get_or blocks block []) digit 0) (there.1 digit lt)),
)

-- ---- a changed number

-- how many keys so many levels have
abbrev pub room : ℕ → ℕ
room zero = 1
room (suc levels) = 8 * room levels

-- the new block has at each key what the old one has, but another number at one
pub record IsMade (blocks : List (List ℕ)) (levels old new key number : ℕ) : Type 0 where
  pub there : IsThere blocks levels new
  pub numbers : key < room levels → (k : ℕ) → k < room levels → found blocks levels new k ≡ (if k == key then number else found blocks levels old k)

pub made-last : (blocks : List (List ℕ)) (old key number : ℕ) → IsMade blocks 0 old number key number
made-last blocks old key number = record {
  there = tt;
  numbers = λ low k lt. sym (chosen k key number old (omega (arith, low, lt)));
}

-- a copy of a block behind the others, with another number at the last digit of a key
abbrev pub put : List (List ℕ) → ℕ → ℕ → ℕ → List (List ℕ)
put blocks block key number = blocks ++ set (get_or blocks block []) (key % 8) number ∷ []

-- one level more
pub made-more : (blocks : List (List ℕ)) (levels block old new key number : ℕ) → length (get_or blocks block []) ≡ 8 → IsThere blocks (suc levels) block
    → get_or (get_or blocks block []) (key % 8) 0 ≡ old → IsMade blocks levels old new (key / 8) number
    → IsMade (put blocks block key new) (suc levels) block (length blocks) key number
made-more blocks levels block old new key number wide there e made =
    let ns = get_or blocks block [] in
    let ms = set ns (key % 8) new in
    let all = blocks ++ ms ∷ [] in
    let seam : get_or all (length blocks) [] ≡ ms = get_or-append_seam blocks ms [] [] in
    let lt8 : key % 8 < length ns = omega (arith, wide, digit_below key) in
    let new_there : IsThere all levels new = there-still blocks (ms ∷ []) levels new made.there in
    let other_there : (digit : ℕ) → digit < 8 → IsThere all levels (get_or ns digit 0) = λ digit lt. there-still blocks (ms ∷ []) levels (get_or ns digit 0) (there.1 digit lt) in
    let before : (k : ℕ) → found all (suc levels) block k ≡ found blocks (suc levels) block k = λ k. found-before blocks (ms ∷ []) (suc levels) block k there in
    record {
      there = (
        omega (arith, length-append blocks (ms ∷ [])),
        λ digit lt. subst (λ (b : List ℕ). IsThere all levels (get_or b digit 0)) (sym seam) (elim (same_or_other digit (key % 8)) [
          | inl s ↦ subst (λ (i : ℕ). IsThere all levels (get_or ms i 0)) (sym s) (subst (λ (z : ℕ). IsThere all levels z) (sym (get_or-set_same ns (key % 8) new 0 lt8)) new_there)
          | inr d ↦ subst (λ (z : ℕ). IsThere all levels z) (sym (get_or-set_other ns (key % 8) digit new 0 d)) (other_there digit lt)
        ]),
      );
      numbers = λ low k lt.
          let low_rest : key / 8 < room levels = omega (arith, low) in
          let lt_rest : k / 8 < room levels = omega (arith, lt) in
          ap (λ (b : List ℕ). found all levels (get_or b (k % 8) 0) (k / 8)) seam
          ∙ (elim (same_or_other (k % 8) (key % 8)) [
            | inl s ↦
                ap (λ (i : ℕ). found all levels (get_or ms i 0) (k / 8)) s
                ∙ ap (λ (z : ℕ). found all levels z (k / 8)) (get_or-set_same ns (key % 8) new 0 lt8)
                ∙ found-before blocks (ms ∷ []) levels new (k / 8) made.there
                ∙ made.numbers low_rest (k / 8) lt_rest
                ∙ (elim (same_or_other k key) [
                  | inl same ↦ chosen (k / 8) (key / 8) number (found blocks levels old (k / 8)) (ap (λ (i : ℕ). i / 8) same)
                      ∙ sym (chosen k key number (found all (suc levels) block k) same)
                  | inr differ ↦ passed (k / 8) (key / 8) number (found blocks levels old (k / 8)) (λ (f : k / 8 ≡ key / 8). differ (omega (arith, s, f)))
                      ∙ ap (λ (z : ℕ). found blocks levels z (k / 8)) (sym e ∙ ap (λ (i : ℕ). get_or ns i 0) (sym s))
                      ∙ sym (before k)
                      ∙ sym (passed k key number (found all (suc levels) block k) differ)
                ])
            | inr d ↦
                ap (λ (z : ℕ). found all levels z (k / 8)) (get_or-set_other ns (key % 8) (k % 8) new 0 d)
                ∙ found-before blocks (ms ∷ []) levels (get_or ns (k % 8) 0) (k / 8) (there.1 (k % 8) (digit_below k))
                ∙ sym (before k)
                ∙ sym (passed k key number (found all (suc levels) block k) (λ (f : k ≡ key). d (ap (λ (i : ℕ). i % 8) f)))
          ]);
    }

-- ---- a version more

abbrev AreWide : List (List ℕ) → Type 0
AreWide blocks = (block : ℕ) → block < length blocks → length (get_or blocks block []) ≡ 8

put-wide : (blocks : List (List ℕ)) (block key number : ℕ) → AreWide blocks → block < length blocks → AreWide (put blocks block key number)
put-wide blocks block key number wide there i lt = elim (same_or_other i (length blocks)) [
  | inl e ↦ ap (λ (j : ℕ). length (get_or (put blocks block key number) j [])) e
      ∙ ap (λ (b : List ℕ). length b) (get_or-append_seam blocks (set (get_or blocks block []) (key % 8) number) [] [])
      ∙ length-set (get_or blocks block []) (key % 8) number ∙ wide block there
  | inr d ↦
      let before : i < length blocks = omega (arith, lt, d, length-append blocks (set (get_or blocks block []) (key % 8) number ∷ [])) in
      ap (λ (b : List ℕ). length b) (get_or_append_left blocks (set (get_or blocks block []) (key % 8) number ∷ []) [] i before) ∙ wide i before
]

put-length : (blocks : List (List ℕ)) (block key number : ℕ) → length (put blocks block key number) ≡ length blocks + 1
put-length blocks block key number = omega (arith, length-append blocks (set (get_or blocks block []) (key % 8) number ∷ []))

-- the block in which a block's number at a digit is found, where blocks are put behind
same-number : (blocks more : List (List ℕ)) (block digit : ℕ) → block < length blocks → get_or (get_or (blocks ++ more) block []) digit 0 ≡ get_or (get_or blocks block []) digit 0
same-number blocks more block digit lt = ap (λ (b : List ℕ). get_or b digit 0) (get_or_append_left blocks more [] block lt)

module _ (m : Versions) (version key number : ℕ) (are : AreShared m) (lt : version < count m) where
  abbrev top_block : ℕ
  top_block = get_or m.tops version 0

  abbrev middle_block : ℕ
  middle_block = get_or (get_or m.blocks top_block []) (key % 8) 0

  abbrev last_block : ℕ
  last_block = get_or (get_or m.blocks middle_block []) (key / 8 % 8) 0

  abbrev first_put : List (List ℕ)
  first_put = put m.blocks last_block (key / 8 / 8) number

  abbrev second_put : List (List ℕ)
  second_put = put first_put middle_block (key / 8) (length m.blocks)

  abbrev third_put : List (List ℕ)
  third_put = put second_put top_block key (length first_put)

  top_there : IsThere m.blocks 3 top_block
  top_there = are.there version lt

  middle_there : IsThere m.blocks 2 middle_block
  middle_there = top_there.1 (key % 8) (digit_below key)

  last_there : IsThere m.blocks 1 last_block
  last_there = middle_there.1 (key / 8 % 8) (digit_below (key / 8))

  first_wide : AreWide first_put
  first_wide = put-wide m.blocks last_block (key / 8 / 8) number are.wide last_there.0

  first_made : IsMade first_put 1 last_block (length m.blocks) (key / 8 / 8) number
  first_made =
      let old = get_or (get_or m.blocks last_block []) (key / 8 / 8 % 8) 0 in
      made-more m.blocks 0 last_block old number (key / 8 / 8) number (are.wide last_block last_there.0) last_there refl (made-last m.blocks old (key / 8 / 8 / 8) number)

  middle_still : IsThere first_put 2 middle_block
  middle_still = there-still m.blocks (set (get_or m.blocks last_block []) (key / 8 / 8 % 8) number ∷ []) 2 middle_block middle_there

  second_wide : AreWide second_put
  second_wide = put-wide first_put middle_block (key / 8) (length m.blocks) first_wide middle_still.0

  second_made : IsMade second_put 2 middle_block (length first_put) (key / 8) number
  second_made = made-more first_put 1 middle_block last_block (length m.blocks) (key / 8) number (first_wide middle_block middle_still.0) middle_still
      (same-number m.blocks (set (get_or m.blocks last_block []) (key / 8 / 8 % 8) number ∷ []) middle_block (key / 8 % 8) middle_there.0) first_made

  still : (block : ℕ) → IsThere m.blocks 3 block → IsThere second_put 3 block
  still block there =
      there-still first_put (set (get_or first_put middle_block []) (key / 8 % 8) (length m.blocks) ∷ []) 3 block
      (there-still m.blocks (set (get_or m.blocks last_block []) (key / 8 / 8 % 8) number ∷ []) 3 block there)

  third_wide : AreWide third_put
  third_wide = put-wide second_put top_block key (length first_put) second_wide (still top_block top_there).0

  third_made : IsMade third_put 3 top_block (length second_put) key number
  third_made = made-more second_put 2 top_block middle_block (length first_put) key number (second_wide top_block (still top_block top_there).0) (still top_block top_there)
      (same-number first_put (set (get_or first_put middle_block []) (key / 8 % 8) (length m.blocks) ∷ []) top_block (key % 8)
      (there-still m.blocks (set (get_or m.blocks last_block []) (key / 8 / 8 % 8) number ∷ []) 3 top_block top_there).0
      ∙ same-number m.blocks (set (get_or m.blocks last_block []) (key / 8 / 8 % 8) number ∷ []) top_block (key % 8) top_there.0) second_made

  found-still : (block k : ℕ) → IsThere m.blocks 3 block → found third_put 3 block k ≡ found m.blocks 3 block k
  found-still block k there =
      found-before second_put (set (get_or second_put top_block []) (key % 8) (length first_put) ∷ []) 3 block k (still block there)
      ∙ found-before first_put (set (get_or first_put middle_block []) (key / 8 % 8) (length m.blocks) ∷ []) 3 block k
      (there-still m.blocks (set (get_or m.blocks last_block []) (key / 8 / 8 % 8) number ∷ []) 3 block there)
      ∙ found-before m.blocks (set (get_or m.blocks last_block []) (key / 8 / 8 % 8) number ∷ []) 3 block k there

  abbrev pub with_version : Versions
  with_version = record { blocks = third_put; tops = m.tops ++ length second_put ∷ [] }

  pub version-changed : IsChanged m with_version version key number
  version-changed = record {
    more = omega (arith, length-append m.tops (length second_put ∷ []));
    kept = λ v k h. ap (λ (b : ℕ). found third_put 3 b k) (get_or_append_left m.tops (length second_put ∷ []) 0 v h) ∙ found-still (get_or m.tops v 0) k (are.there v h);
    changed = λ low k h.
        ap (λ (b : ℕ). found third_put 3 b k) (get_or-append_seam m.tops (length second_put) [] 0)
        ∙ third_made.numbers low k h
        ∙ ap (λ (z : ℕ). if k == key then number else z) (found-still top_block k top_there);
  }

  pub version-shared : AreShared with_version
  version-shared = record {
    some = omega (arith, are.some, length-append m.tops (length second_put ∷ []));
    sized = omega (
      arith,
      are.sized,
      length-append m.tops (length second_put ∷ []),
      put-length m.blocks last_block (key / 8 / 8) number,
      put-length first_put middle_block (key / 8) (length m.blocks),
      put-length second_put top_block key (length first_put),
    );
    wide = third_wide;
    there = λ v h. elim (same_or_other v (length m.tops)) [
      | inl e ↦ subst (λ (b : ℕ). IsThere third_put 3 b) (sym (ap (λ (i : ℕ). get_or (m.tops ++ length second_put ∷ []) i 0) e ∙ get_or-append_seam m.tops (length second_put) [] 0)) third_made.there
      | inr d ↦
          let before : v < length m.tops = omega (arith, h, d, length-append m.tops (length second_put ∷ [])) in
          subst (λ (b : ℕ). IsThere third_put 3 b) (sym (get_or_append_left m.tops (length second_put ∷ []) 0 v before))
          (there-still second_put (set (get_or second_put top_block []) (key % 8) (length first_put) ∷ []) 3 (get_or m.tops v 0) (still (get_or m.tops v 0) (are.there v before)))
    ];
  }

-- ---- the first version

abbrev pub zeros : List ℕ
zeros = 0 ∷ 0 ∷ 0 ∷ 0 ∷ 0 ∷ 0 ∷ 0 ∷ 0 ∷ []

-- in a lone block of zeros nothing else is found
pub nothing : (blocks : List (List ℕ)) (block digit : ℕ) → blocks ≡ zeros ∷ [] → get_or (get_or blocks block []) digit 0 ≡ 0
nothing blocks block digit e = ap (λ (bs : List (List ℕ)). get_or (get_or bs block []) digit 0) e ∙ in_block block digit
  where
    zero_of : (d : ℕ) → get_or zeros d 0 ≡ 0
    zero_of zero = refl
    zero_of (suc zero) = refl
    zero_of (suc (suc zero)) = refl
    zero_of (suc (suc (suc zero))) = refl
    zero_of (suc (suc (suc (suc zero)))) = refl
    zero_of (suc (suc (suc (suc (suc zero))))) = refl
    zero_of (suc (suc (suc (suc (suc (suc zero)))))) = refl
    zero_of (suc (suc (suc (suc (suc (suc (suc zero))))))) = refl
    zero_of (suc (suc (suc (suc (suc (suc (suc (suc d)))))))) = refl

    in_block : (i d : ℕ) → get_or (get_or (zeros ∷ []) i []) d 0 ≡ 0
    in_block zero d = zero_of d
    in_block (suc i) d = refl

-- ---- as code makes it

-- what is known of the version that was made
pub record IsVersionMade (m new : Versions) (version key number : ℕ) : Type 0 where
  pub shared : AreShared new
  pub changed : IsChanged m new version key number

pub version-made : (m new : Versions) (version key number : ℕ) (b1 b2 : List (List ℕ)) (top middle last p1 p2 p3 : ℕ) → AreShared m → version < count m
    → top ≡ get_or m.tops version 0 → middle ≡ get_or (get_or m.blocks top []) (key % 8) 0 → last ≡ get_or (get_or m.blocks middle []) (key / 8 % 8) 0
    → p1 ≡ length m.blocks → b1 ≡ put m.blocks last (key / 8 / 8) number → p2 ≡ length b1 → b2 ≡ put b1 middle (key / 8) p1
    → p3 ≡ length b2 → new.blocks ≡ put b2 top key p2 → new.tops ≡ m.tops ++ p3 ∷ [] → IsVersionMade m new version key number
version-made m new version key number b1 b2 top middle last p1 p2 p3 are lt e1 e2 e3 e4 e5 e6 e7 e8 e9 e10 =
    let f2 : middle ≡ get_or (get_or m.blocks (get_or m.tops version 0) []) (key % 8) 0 = e2 ∙ ap (λ (i : ℕ). get_or (get_or m.blocks i []) (key % 8) 0) e1 in
    let f3 = e3 ∙ ap (λ (i : ℕ). get_or (get_or m.blocks i []) (key / 8 % 8) 0) f2 in
    let f5 = e5 ∙ ap (λ (i : ℕ). put m.blocks i (key / 8 / 8) number) f3 in
    let f6 = e6 ∙ ap (λ (b : List (List ℕ)). length b) f5 in
    let f7 = e7 ∙ ap (λ (b : List (List ℕ)). put b middle (key / 8) p1) f5
    ∙ ap (λ (i : ℕ). put (first_put m version key number are lt) i (key / 8) p1) f2
    ∙ ap (λ (i : ℕ). put (first_put m version key number are lt) (get_or (get_or m.blocks (get_or m.tops version 0) []) (key % 8) 0) (key / 8) i) e4 in
    let f8 = e8 ∙ ap (λ (b : List (List ℕ)). length b) f7 in
    let blocks = e9 ∙ ap (λ (b : List (List ℕ)). put b top key p2) f7
    ∙ ap (λ (i : ℕ). put (second_put m version key number are lt) i key p2) e1
    ∙ ap (λ (i : ℕ). put (second_put m version key number are lt) (get_or m.tops version 0) key i) f6 in
    let tops = e10 ∙ ap (λ (i : ℕ). m.tops ++ i ∷ []) f8 in
    let whole : new ≡ with_version m version key number are lt =
    ap (λ (b : List (List ℕ)). record { blocks = b; tops = new.tops }) blocks
    ∙ ap (λ (t : List ℕ). record { blocks = third_put m version key number are lt; tops = t }) tops in
    subst (λ (v : Versions). IsVersionMade m v version key number) (sym whole) record { shared = version-shared m version key number are lt; changed = version-changed m version key number are lt }
