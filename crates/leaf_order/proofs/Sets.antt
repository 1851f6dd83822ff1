-- Sets of leaves by what std says of its ordered sets.
use Rattle.std.proofs.Common.{◌≡◌, inl, inr, ◌≢◌, ◌+◌, ◌<◌, List, Bool, true, false, not, cond, Option, Some, None, ◌<ℤ◌, arith, refl, sym, ap, subst, ◌∙◌, ◌⊎◌}
use Rattle.std.specs.Prelude.{◌↔◌, IsTrue, Result, Ok, Err, is_err, IfOk, IfErr}
use Rattle.std.specs.List.{Contains}
use Rattle.std.specs.List.Sorted.{IsStrictlySortedBy}
use Rattle.std.specs.Cmp.{IsTotalOrder}
use Rattle.std.specs.BTreeMap.{is_at}
use Rattle.std.specs.BTreeSet as sorted
use Rattle.std.specs.BTreeSet.{BTreeSet}
use Rattle.std.specs.Ordering.{int_cmp, nat_cmp, ordering_then, is_eq, ordering_index}
use Rattle.std.specs.declared.cmp.Ordering.{Ordering}
use Rattle.std.specs.declared.cmp.Ordering.TheVariants.{Less, Equal, Greater}
use Rattle.std.proofs.lemmas.Bool.{cases_Bool, false≢true}
use Rattle.std.proofs.lemmas.Cmp.{then_total, on_total, int_cmp_total, nat_cmp_total, tied_itself, by_ranked, int_ranked, ranked}
use Rattle.std.proofs.lemmas.Int.{ints}
use Rattle.std.proofs.lemmas.Option.{none-some, same_Some}
use Rattle.std.proofs.lemmas.Map.Keys.{Less-from_sorted, sorted_from_all_adjacent}
use Rattle.std.proofs.lemmas.Map.Lookups.{CmpEqualImpliesEq, exact_signed, exact_unsigned, exact_pairs, btree_set_from_contains}
use Rattle.std.proofs.lemmas.Map.Views.{btree_set_contains_iff}
use Rattle.std.specs.Option.{ForSome}
use Rattle.leaf_order.specs.Order.{ComesBefore, no_leaf, AreOrdered, ArePut, IsPut, IsNew, IsTakenOut, IsReplaced}
use Rattle.leaf_order.specs.declared.leaf.OpenLeaf.{OpenLeaf}

-- ---- the order

-- how leaves compare
abbrev pub leaf_cmp : OpenLeaf → OpenLeaf → Ordering
leaf_cmp a b = ordering_then (int_cmp a.bound b.bound) (nat_cmp a.node b.node)

leaf_total : IsTotalOrder leaf_cmp
leaf_total = then_total (on_total (λ (a : OpenLeaf). a.bound) int_cmp_total) (on_total (λ (a : OpenLeaf). a.node) nat_cmp_total)

leaf_exact : CmpEqualImpliesEq leaf_cmp
leaf_exact a b h =
    ap (λ p. let leaf : OpenLeaf = record { bound = p.0; node = p.1 } in leaf) (exact_pairs int_cmp nat_cmp exact_signed exact_unsigned (a.bound, a.node) (b.bound, b.node) h)

before-from_less : (a b : OpenLeaf) → leaf_cmp a b ≡ Less → ComesBefore a b
before-from_less a b h =
    by_ranked (a.bound <ℤ b.bound) (a.bound ≡ b.bound) (b.bound <ℤ a.bound) (int_cmp a.bound b.bound) (int_ranked a.bound b.bound (int_cmp a.bound b.bound) refl)
    (λ e p. inl p)
    (λ e p. inr (p, ranked a.node b.node Less (sym (ap (λ (o : Ordering). ordering_then o (nat_cmp a.node b.node)) (sym e) ∙ h))))
    (λ e p. absurd (omega (arith, ap (λ (o : Ordering). ordering_index o) (ap (λ (o : Ordering). ordering_then o (nat_cmp a.node b.node)) (sym e) ∙ h))))

less-by_bound : (a b : OpenLeaf) → a.bound <ℤ b.bound → leaf_cmp a b ≡ Less
less-by_bound a b h =
    by_ranked (a.bound <ℤ b.bound) (a.bound ≡ b.bound) (b.bound <ℤ a.bound) (int_cmp a.bound b.bound) (int_ranked a.bound b.bound (int_cmp a.bound b.bound) refl)
    (λ e p. ap (λ (o : Ordering). ordering_then o (nat_cmp a.node b.node)) e)
    (λ e p. absurd (omega (arith, ints, h, p)))
    (λ e p. absurd (omega (arith, ints, h, p)))

less-by_node : (a b : OpenLeaf) → a.bound ≡ b.bound → a.node < b.node → leaf_cmp a b ≡ Less
less-by_node a b same h =
    by_ranked (a.bound <ℤ b.bound) (a.bound ≡ b.bound) (b.bound <ℤ a.bound) (int_cmp a.bound b.bound) (int_ranked a.bound b.bound (int_cmp a.bound b.bound) refl)
    (λ e p. absurd (omega (arith, ints, same, p)))
    (λ e p. ap (λ (o : Ordering). ordering_then o (nat_cmp a.node b.node)) e ∙ by_ranked (a.node < b.node) (a.node ≡ b.node) (b.node < a.node) (nat_cmp a.node b.node)
    (ranked a.node b.node (nat_cmp a.node b.node) refl)
    (λ f q. f)
    (λ f q. absurd (omega (arith, h, q)))
    (λ f q. absurd (omega (arith, h, q))))
    (λ e p. absurd (omega (arith, ints, same, p)))

less-from_before : (a b : OpenLeaf) → ComesBefore a b → leaf_cmp a b ≡ Less
less-from_before a b h = elim h [ inl l ↦ less-by_bound a b l | inr t ↦ less-by_node a b t.0 t.1 ]

pub ordered-from_sorted : (leaves : List OpenLeaf) → IsStrictlySortedBy leaf_cmp leaves → AreOrdered leaves
ordered-from_sorted leaves s i j h k = before-from_less _ _ (Less-from_sorted leaf_cmp leaves i j no_leaf s h k)

sorted-from_ordered : (leaves : List OpenLeaf) → AreOrdered leaves → IsStrictlySortedBy leaf_cmp leaves
sorted-from_ordered leaves are = sorted_from_all_adjacent leaf_total leaves no_leaf (λ k h. less-from_before _ _ (are k (k + 1) (omega arith) h))

-- ---- members

contains-is : (s : BTreeSet OpenLeaf) (leaf : OpenLeaf) → IsTrue (sorted.contains leaf_cmp s leaf) ↔ Contains s.keys leaf
contains-is s leaf = btree_set_contains_iff leaf_total leaf_exact s leaf

same-test : (a b : Bool) → (IsTrue a → IsTrue b) → (IsTrue b → IsTrue a) → a ≡ b
same-test true true f g = refl
same-test true false f g = absurd (false≢true (f refl))
same-test false true f g = absurd (false≢true (g refl))
same-test false false f g = refl

-- two lists in order with the same leaves are the same
pub same-leaves : (xs ys : List OpenLeaf) → AreOrdered xs → AreOrdered ys → ((leaf : OpenLeaf) → Contains xs leaf ↔ Contains ys leaf) → xs ≡ ys
same-leaves xs ys are too same =
    let s : BTreeSet OpenLeaf = record { keys = xs } in
    let t : BTreeSet OpenLeaf = record { keys = ys } in
    btree_set_from_contains leaf_total s t (sorted-from_ordered xs are) (sorted-from_ordered ys too)
    (λ leaf. same-test _ _ (λ h. (contains-is t leaf).1 ((same leaf).0 ((contains-is s leaf).0 h)))
    (λ h. (contains-is s leaf).1 ((same leaf).1 ((contains-is t leaf).0 h))))
    leaf_exact

at-itself : (leaf other : OpenLeaf) → leaf ≡ other → is_at (leaf_cmp leaf) other ≡ true
at-itself leaf other e = subst (λ (o : OpenLeaf). is_at (leaf_cmp leaf) o ≡ true) e (ap (λ (o : Ordering). is_eq o) (tied_itself leaf_total leaf))

eq-is : (o : Ordering) → is_eq o ≡ true → o ≡ Equal
eq-is Less e = absurd (false≢true e)
eq-is Equal e = refl
eq-is Greater e = absurd (false≢true e)

itself-at : (leaf other : OpenLeaf) → is_at (leaf_cmp leaf) other ≡ true → leaf ≡ other
itself-at leaf other e = leaf_exact leaf other (eq-is (leaf_cmp leaf other) e)

-- what a set of one leaf more, or of one less, has
module _ (s n : BTreeSet OpenLeaf) (leaf : OpenLeaf) (b : Bool) (has : (q : OpenLeaf) → sorted.contains leaf_cmp n q ≡ cond (is_at (leaf_cmp leaf) q) b (sorted.contains leaf_cmp s q)) where
  has-itself : (q : OpenLeaf) → leaf ≡ q → sorted.contains leaf_cmp n q ≡ b
  has-itself q e = has q ∙ ap (λ (t : Bool). cond t b (sorted.contains leaf_cmp s q)) (at-itself leaf q e)

  has-other : (q : OpenLeaf) → is_at (leaf_cmp leaf) q ≡ false → sorted.contains leaf_cmp n q ≡ sorted.contains leaf_cmp s q
  has-other q e = has q ∙ ap (λ (t : Bool). cond t b (sorted.contains leaf_cmp s q)) e

  kept-other : (q : OpenLeaf) → is_at (leaf_cmp leaf) q ≡ false → Contains s.keys q → Contains n.keys q
  kept-other q e h = (contains-is n q).0 (subst IsTrue (sym (has-other q e)) ((contains-is s q).1 h))

  was-other : (q : OpenLeaf) → is_at (leaf_cmp leaf) q ≡ false → Contains n.keys q → Contains s.keys q
  was-other q e h = (contains-is s q).0 (subst IsTrue (has-other q e) ((contains-is n q).1 h))

other-leaf : (leaf q : OpenLeaf) → is_at (leaf_cmp leaf) q ≡ false → Some leaf ≢ Some q
other-leaf leaf q e = λ f. false≢true (sym e ∙ at-itself leaf q (same_Some leaf q f))

pub put-in : (s n : BTreeSet OpenLeaf) (leaf : OpenLeaf) → ((q : OpenLeaf) → sorted.contains leaf_cmp n q ≡ cond (is_at (leaf_cmp leaf) q) true (sorted.contains leaf_cmp s q))
    → IsPut (Some leaf) s.keys n.keys
put-in s n leaf has q = elim (cases_Bool (is_at (leaf_cmp leaf) q)) [
  | inl e ↦ (
    λ h. inl (ap (λ (x : OpenLeaf). Some x) (itself-at leaf q e)),
    λ h. (contains-is n q).0 (subst IsTrue (sym (has-itself s n leaf true has q (itself-at leaf q e))) refl),
  )
  | inr e ↦ (
    λ h. inr (was-other s n leaf true has q e h),
    λ h. elim h [ inl f ↦ absurd (other-leaf leaf q e f) | inr k ↦ kept-other s n leaf true has q e k ],
  )
]

pub taken-out : (s n : BTreeSet OpenLeaf) (leaf : OpenLeaf) → ((q : OpenLeaf) → sorted.contains leaf_cmp n q ≡ cond (is_at (leaf_cmp leaf) q) false (sorted.contains leaf_cmp s q))
    → IsTakenOut (Some leaf) s.keys n.keys
taken-out s n leaf has q = elim (cases_Bool (is_at (leaf_cmp leaf) q)) [
  | inl e ↦ (
    λ h. absurd (false≢true (subst IsTrue (has-itself s n leaf false has q (itself-at leaf q e)) ((contains-is n q).1 h))),
    λ h. absurd (h.1 (ap (λ (x : OpenLeaf). Some x) (itself-at leaf q e))),
  )
  | inr e ↦ (
    λ h. (was-other s n leaf false has q e h, other-leaf leaf q e),
    λ h. kept-other s n leaf false has q e h.0,
  )
]

-- ---- two leaves in

-- what a clause says of an answer that is known
pub ok-known : {T E : Type 0} (r : Result T E) (P : Type 0) → is_err r ≡ false → IfOk r (λ _. P) → P
ok-known (Ok x) P e h = h
ok-known (Err x) P e h = absurd (false≢true (sym e))

pub err-known : {T E : Type 0} (r : Result T E) (P : Type 0) → is_err r ≡ true → IfErr r (λ _. P) → P
err-known (Ok x) P e h = absurd (false≢true e)
err-known (Err x) P e h = h

-- a leaf that is put in and taken out again, where it was not there before
pub put-back : (put : Option OpenLeaf) (leaf : OpenLeaf) (old new after : List OpenLeaf) → AreOrdered old → AreOrdered after → IsNew put old leaf → IsPut put old new
    → IsTakenOut (Some leaf) new after → after ≡ old
put-back put leaf old new after was are fresh is out = same-leaves after old are was (λ q. (
  λ h. let k = (out q).0 h in elim ((is q).0 k.0) [ inl e ↦ absurd (k.1 (sym fresh.is ∙ e)) | inr m ↦ m ],
  λ h. (out q).1 ((is q).1 (inr h), λ e. fresh.absent (subst (Contains old) (sym (same_Some leaf q e)) h)),
))

pub both-put : (left right : Option OpenLeaf) (old one new : List OpenLeaf) → IsPut left old one → IsPut right one new → ArePut left right old new
both-put left right old one new first second leaf = (
  λ h. elim ((second leaf).0 h) [
    | inl e ↦ inr (inl e)
    | inr m ↦ elim ((first leaf).0 m) [ inl e ↦ inl e | inr o ↦ inr (inr o) ]
  ],
  λ h. elim h [
    | inl e ↦ (second leaf).1 (inr ((first leaf).1 (inl e)))
    | inr r ↦ elim r [ inl e ↦ (second leaf).1 (inl e) | inr o ↦ (second leaf).1 (inr ((first leaf).1 (inr o))) ]
  ],
)

-- ---- one leaf in the place of another

same-or-not : (o : Option OpenLeaf) (leaf : OpenLeaf) → (o ≡ Some leaf) ⊎ (o ≢ Some leaf)
same-or-not None leaf = inr (none-some leaf)
same-or-not (Some other) leaf = elim (cases_Bool (is_at (leaf_cmp other) leaf)) [
  | inl e ↦ inl (ap (λ (x : OpenLeaf). Some x) (itself-at other leaf e))
  | inr e ↦ inr (other-leaf other leaf e)
]

-- the two are the same
pub same-replaced : (out put : Option OpenLeaf) (old new : List OpenLeaf) → out ≡ put → ArePut put None old new → IsReplaced out put old new
same-replaced out put old new same is leaf = (
  λ h. elim ((is leaf).0 h) [
    | inl e ↦ inl e
    | inr r ↦ elim r [
      | inl e ↦ absurd (none-some leaf e)
      | inr m ↦ elim (same-or-not out leaf) [ inl e ↦ inl (sym same ∙ e) | inr d ↦ inr (m, d) ]
    ]
  ],
  λ h. (is leaf).1 (elim h [ inl e ↦ inl e | inr k ↦ inr (inr k.0) ]),
)

-- the two differ
pub other-replaced : (out put : Option OpenLeaf) (old mid new : List OpenLeaf) → out ≢ put → ArePut put None old mid → IsTakenOut out mid new → IsReplaced out put old new
other-replaced out put old mid new apart is taken leaf = (
  λ h. let k = (taken leaf).0 h in elim ((is leaf).0 k.0) [
    | inl e ↦ inl e
    | inr r ↦ elim r [ inl e ↦ absurd (none-some leaf e) | inr m ↦ inr (m, k.1) ]
  ],
  λ h. elim h [
    | inl e ↦ (taken leaf).1 ((is leaf).1 (inl e), λ f. apart (f ∙ sym e))
    | inr k ↦ (taken leaf).1 ((is leaf).1 (inr (inr k.0)), k.1)
  ],
)

-- ---- two leaves out again

pub both-back : (left right : Option OpenLeaf) (old mid one new : List OpenLeaf) → ForSome left (λ leaf. ¬ Contains old leaf) → ForSome right (λ leaf. ¬ Contains old leaf)
    → ArePut left right old mid → IsTakenOut left mid one → IsTakenOut right one new → (leaf : OpenLeaf) → Contains new leaf ↔ Contains old leaf
both-back left right old mid one new fresh_left fresh_right is first second leaf = (
  λ h. let k = (second leaf).0 h in let m = (first leaf).0 k.0 in elim ((is leaf).0 m.0) [
    | inl e ↦ absurd (m.1 e)
    | inr r ↦ elim r [ inl e ↦ absurd (k.1 e) | inr o ↦ o ]
  ],
  λ h. (second leaf).1 ((first leaf).1 ((is leaf).1 (inr (inr h)), λ e. fresh_left leaf e h), λ e. fresh_right leaf e h),
)
