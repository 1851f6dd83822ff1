-- Lists of leaves by the numbers of their nodes: one node more, and that a function of bounds has one list.
use Rattle.std.proofs.Common.{◌≡◌, ◌≢◌, ℕ, zero, suc, ◌+◌, ◌<◌, ◌⊎◌, inl, inr, List, [], ◌∷◌, ◌++◌, length, Option, Some, None, ℤ, arith, refl, sym, ap, subst, ◌∙◌, length-append, add-one}
use Rattle.std.specs.List.{Contains}
use Rattle.std.proofs.lemmas.List.{append-nil, get_or_append_left}
use Rattle.std.proofs.lemmas.List.Elements.{All-contains, All-from_get_or, Contains-get_or, Contains-append_left, Contains-append_right, Contains-append_cases, Contains-push, Contains-push_cases}
use Rattle.std.proofs.lemmas.Option.{none-some, same_Some}
use Rattle.std.proofs.Math.Seq.{get_or-append_seam}
use Rattle.integers.proofs.AtKey.{same_or_other}
use Rattle.leaf_order.specs.Order.{no_leaf, leaf_at}
use Rattle.leaf_order.specs.declared.leaf.OpenLeaf.{OpenLeaf}
use Rattle.certificate_leaves.specs.Leaves.{AreListed, listed}

-- no node stands below 0
pub listed-none : (f : ℕ → Option ℤ) → AreListed f 0 []
listed-none f = record { members = λ leaf. (λ h. absurd (omega (arith, h.1)), λ h. absurd (omega (arith, h.0))); rising = λ i j lt h. absurd (omega (arith, h)) }

abbrev leaf_of : ℕ → ℤ → OpenLeaf
leaf_of k b = record { bound = b; node = k }

module _ (f : ℕ → Option ℤ) (k : ℕ) (xs : List OpenLeaf) (are : AreListed f k xs) where
  -- a node that is listed stands below the count
  below : (i : ℕ) → i < length xs → (leaf_at xs i).node < k
  below i h = ((are.members (leaf_at xs i)).0 (Contains-get_or xs i no_leaf h)).0

  -- a node that has no bound
  skip : f k ≡ None → AreListed f (k + 1) xs
  skip none = record {
    members = λ leaf. (
      λ h. let old = (are.members leaf).0 h in (omega (arith, old.0), old.1),
      λ h. elim (same_or_other leaf.node k) [
        | inl e ↦ absurd (none-some leaf.bound (sym none ∙ ap f (sym e) ∙ h.1))
        | inr d ↦ (are.members leaf).1 (omega (arith, h.0, d), h.1)
      ],
    );
    rising = are.rising;
  }

  -- a node that has one
  push : (b : ℤ) → f k ≡ Some b → AreListed f (k + 1) (xs ++ leaf_of k b ∷ [])
  push b some = record {
    members = λ leaf. (
      λ h. elim (Contains-push_cases xs (leaf_of k b) leaf h) [
        | inl old ↦ let is = (are.members leaf).0 old in (omega (arith, is.0), is.1)
        | inr e ↦ subst (λ (l : OpenLeaf). (l.node < k + 1) × (f l.node ≡ Some l.bound)) e (omega arith, some)
      ],
      λ h. elim (same_or_other leaf.node k) [
        | inl e ↦ subst (Contains (xs ++ leaf_of k b ∷ [])) (this leaf e h.1) (Contains-push xs (leaf_of k b))
        | inr d ↦ Contains-append_left xs (leaf_of k b ∷ []) leaf ((are.members leaf).1 (omega (arith, h.0, d), h.1))
      ],
    );
    rising = λ i j lt h. elim (same_or_other j (length xs)) [
      | inl e ↦
          let inside : i < length xs = omega (arith, lt, e) in
          subst (λ (m : ℕ). (leaf_at (xs ++ leaf_of k b ∷ []) i).node < (leaf_at (xs ++ leaf_of k b ∷ []) m).node) (sym e)
          (subst (λ (l : OpenLeaf). (leaf_at (xs ++ leaf_of k b ∷ []) i).node < l.node) (sym (get_or-append_seam xs (leaf_of k b) [] no_leaf))
          (subst (λ (l : OpenLeaf). l.node < k) (sym (get_or_append_left xs (leaf_of k b ∷ []) no_leaf i inside)) (below i inside)))
      | inr d ↦
          let there : j < length xs = inner j (length xs) (omega (arith, h, length-append xs (leaf_of k b ∷ []))) d in
          let inside : i < length xs = omega (arith, lt, there) in
          subst (λ (l : OpenLeaf). l.node < (leaf_at (xs ++ leaf_of k b ∷ []) j).node) (sym (get_or_append_left xs (leaf_of k b ∷ []) no_leaf i inside))
          (subst (λ (l : OpenLeaf). (leaf_at xs i).node < l.node) (sym (get_or_append_left xs (leaf_of k b ∷ []) no_leaf j there)) (are.rising i j lt there))
    ];
  }
    where
      this : (leaf : OpenLeaf) → leaf.node ≡ k → f leaf.node ≡ Some leaf.bound → leaf_of k b ≡ leaf
      this leaf e h =
          let same : b ≡ leaf.bound = same_Some b leaf.bound (sym some ∙ ap f (sym e) ∙ h) in
          ap (λ (z : ℤ). leaf_of k z) same ∙ ap (λ (m : ℕ). leaf_of m leaf.bound) (sym e)

      inner : (j n : ℕ) → j < n + 1 → j ≢ n → j < n
      inner j n h d = grind arith

  -- the next node, with its bound where it has one
  pub listed-next : (o : Option ℤ) → f k ≡ o → AreListed f (k + 1) (xs ++ listed k o)
  listed-next None e = subst (AreListed f (k + 1)) (sym (append-nil xs)) (skip e)
  listed-next (Some b) e = push b e

-- the list as a function of the bounds
abbrev pub list_below : (ℕ → Option ℤ) → ℕ → List OpenLeaf
list_below f zero = []
list_below f (suc k) = list_below f k ++ listed k (f k)

pub below-listed : (f : ℕ → Option ℤ) (k : ℕ) → AreListed f k (list_below f k)
below-listed f zero = listed-none f
below-listed f (suc k) = subst (λ (m : ℕ). AreListed f m (list_below f (suc k))) (add-one k) (listed-next f k (list_below f k) (below-listed f k) (f k) refl)

-- the same leaves of bounds that are the same
pub listed-same : (f g : ℕ → Option ℤ) (k m : ℕ) (xs : List OpenLeaf) → k ≡ m → ((i : ℕ) → i < m → f i ≡ g i) → AreListed f k xs → AreListed g m xs
listed-same f g k m xs e same are = record {
  members = λ leaf. (
    λ h. let is = (are.members leaf).0 h in let there : leaf.node < m = omega (arith, e, is.0) in (there, sym (same leaf.node there) ∙ is.1),
    λ h. (are.members leaf).1 (omega (arith, e, h.0), same leaf.node h.0 ∙ h.1),
  );
  rising = are.rising;
}

-- ---- one list

abbrev Rise : List OpenLeaf → Type 0
Rise xs = (i j : ℕ) → i < j → j < length xs → (leaf_at xs i).node < (leaf_at xs j).node

-- each leaf behind the first has a greater node
behind : (x : OpenLeaf) (xs : List OpenLeaf) (leaf : OpenLeaf) → Rise (x ∷ xs) → Contains xs leaf → x.node < leaf.node
behind x xs leaf rise h = All-contains (λ (l : OpenLeaf). x.node < l.node) xs leaf (All-from_get_or (λ (l : OpenLeaf). x.node < l.node) xs no_leaf (λ i lt. rise 0 (suc i) (omega arith) (omega arith))) h

tail_rises : (x : OpenLeaf) (xs : List OpenLeaf) → Rise (x ∷ xs) → Rise xs
tail_rises x xs rise i j lt h = rise (suc i) (suc j) (omega arith) (omega arith)

empty : (leaf : OpenLeaf) → ¬ Contains [] leaf
empty leaf h = omega (arith, h.1)

head : (x : OpenLeaf) (xs : List OpenLeaf) → Contains (x ∷ xs) x
head x xs = Contains-append_left (x ∷ []) xs x (Contains-push [] x)

-- the first leaf, or one behind it
first_or_later : (x : OpenLeaf) (xs : List OpenLeaf) (leaf : OpenLeaf) → Contains (x ∷ xs) leaf → (x ≡ leaf) ⊎ Contains xs leaf
first_or_later x xs leaf h = elim (Contains-append_cases (x ∷ []) xs leaf h) [
  | inl one ↦ elim (Contains-push_cases [] x leaf one) [ inl none ↦ absurd (empty leaf none) | inr e ↦ inl e ]
  | inr later ↦ inr later
]

-- a leaf that the longer list has, and that is not its first
later : (x : OpenLeaf) (xs ys : List OpenLeaf) → Rise (x ∷ xs) → ((leaf : OpenLeaf) → Contains (x ∷ xs) leaf → Contains (x ∷ ys) leaf) → (leaf : OpenLeaf) → Contains xs leaf → Contains ys leaf
later x xs ys rise to leaf h = elim (first_or_later x ys leaf (to leaf (Contains-append_right (x ∷ []) xs leaf h))) [
  | inl e ↦ let up = behind x xs leaf rise h in absurd (omega (arith, up, ap (λ (l : OpenLeaf). l.node) e))
  | inr k ↦ k
]

-- two lists that begin alike
both : (x y : OpenLeaf) (xs ys : List OpenLeaf) → Rise (x ∷ xs) → Rise (y ∷ ys) → ((leaf : OpenLeaf) → Contains (x ∷ xs) leaf → Contains (y ∷ ys) leaf)
    → ((leaf : OpenLeaf) → Contains (y ∷ ys) leaf → Contains (x ∷ xs) leaf) → x ≡ y
both x y xs ys rise rise_too to from = elim (first_or_later y ys x (to x (head x xs))) [
  | inl e ↦ sym e
  | inr h ↦ elim (first_or_later x xs y (from y (head y ys))) [
    | inl e ↦ e
    | inr k ↦ let up = behind y ys x rise_too h in let down = behind x xs y rise k in absurd (omega (arith, up, down))
  ]
]

same_list : (xs ys : List OpenLeaf) → Rise xs → Rise ys → ((leaf : OpenLeaf) → Contains xs leaf → Contains ys leaf) → ((leaf : OpenLeaf) → Contains ys leaf → Contains xs leaf) → xs ≡ ys
same_list [] [] rise rise_too to from = refl
same_list [] (y ∷ ys) rise rise_too to from = absurd (empty y (from y (head y ys)))
same_list (x ∷ xs) [] rise rise_too to from = absurd (empty x (to x (head x xs)))
same_list (x ∷ xs) (y ∷ ys) rise rise_too to from =
    let e = both x y xs ys rise rise_too to from in
    let to_x = λ (leaf : OpenLeaf) (h : Contains (x ∷ xs) leaf). subst (λ (l : OpenLeaf). Contains (l ∷ ys) leaf) (sym e) (to leaf h) in
    let from_x = λ (leaf : OpenLeaf) (h : Contains (x ∷ ys) leaf). from leaf (subst (λ (l : OpenLeaf). Contains (l ∷ ys) leaf) e h) in
    let rise_x = subst (λ (l : OpenLeaf). Rise (l ∷ ys)) (sym e) rise_too in
    ap (λ (l : OpenLeaf). l ∷ xs) e
    ∙ ap (λ (zs : List OpenLeaf). y ∷ zs) (same_list xs ys (tail_rises x xs rise) (tail_rises y ys rise_too) (later x xs ys rise to_x) (later x ys xs rise_x from_x))

pub one-list : (f : ℕ → Option ℤ) (k : ℕ) (xs ys : List OpenLeaf) → AreListed f k xs → AreListed f k ys → xs ≡ ys
one-list f k xs ys are too =
    same_list xs ys are.rising too.rising (λ leaf h. (too.members leaf).1 ((are.members leaf).0 h)) (λ leaf h. (are.members leaf).1 ((too.members leaf).0 h))
