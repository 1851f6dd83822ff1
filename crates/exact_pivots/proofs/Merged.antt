-- A row of factors, changed as far as a column.
use Rattle.std.proofs.Common.{◌≡◌, ◌≢◌, ◌∙◌, sym, ap, subst, refl, ℕ, ◌+◌, ◌<◌, ◌≤◌, ◌⊎◌, inl, inr, List, [], pos, arith}
use Rattle.exact_num.specs.Fraction.{Fraction, sum_of, product_of}
use Rattle.exact_run.specs.Operations.{whole, IsReduced}
use Rattle.exact_pivots.specs.Entries.{factor_at, AreRising, AreBelow}
use Rattle.exact_pivots.specs.declared.entry.Entry.{Entry}
use Rattle.exact_pivots.proofs.Entries.{same_or_other, factor-gap, factor-above, IsNext}
use Rattle.exact_pivots.proofs.Reduced.{whole-lowest, sum-no_part, no_product}

-- the factors below `from` are there, the rest of both lists is still to come
pub record IsMerged (self own : List Entry) (scale : Fraction) (enters : ℕ) (left right done : List Entry) (from : ℕ) : Type 0 where
  pub left_rising : AreRising from left
  pub right_rising : AreRising from right
  pub under : AreBelow from done
  pub left_rest : (j : ℕ) → from ≤ j → factor_at self j ≡ factor_at left j
  pub right_rest : (j : ℕ) → from ≤ j → factor_at own j ≡ factor_at right j
  pub entering : factor_at done enters ≡ whole (pos 0)
  pub others : (j : ℕ) → j < from → j ≢ enters → IsReduced (sum_of (factor_at self j) (product_of scale (factor_at own j))) (factor_at done j)

-- where neither list has a factor, nothing is changed
nothing : (x y d scale : Fraction) → x ≡ whole (pos 0) → y ≡ whole (pos 0) → d ≡ whole (pos 0) → IsReduced (sum_of x (product_of scale y)) d
nothing x y d scale p q r =
    let e : IsReduced (sum_of (whole (pos 0)) (product_of scale (whole (pos 0)))) (whole (pos 0)) =
    sum-no_part (whole (pos 0)) (product_of scale (whole (pos 0))) (omega arith) (whole-lowest (pos 0)) (no_product scale (whole (pos 0)) refl) in
    subst (λ (z : Fraction). IsReduced (sum_of x (product_of scale y)) z) (sym r)
    (subst (λ (z : Fraction). IsReduced (sum_of z (product_of scale y)) (whole (pos 0))) (sym p)
    (subst (λ (z : Fraction). IsReduced (sum_of (whole (pos 0)) (product_of scale z)) (whole (pos 0))) (sym q) e))

-- one column more
pub merged-step : (self own : List Entry) (scale : Fraction) (enters : ℕ) (left right done left2 right2 done2 : List Entry) (from c : ℕ)
    → IsMerged self own scale enters left right done from → IsNext left right from c
    → AreRising (c + 1) left2 → ((j : ℕ) → c < j → factor_at left j ≡ factor_at left2 j)
    → AreRising (c + 1) right2 → ((j : ℕ) → c < j → factor_at right j ≡ factor_at right2 j)
    → AreBelow (c + 1) done2 → ((j : ℕ) → j ≢ c → factor_at done2 j ≡ factor_at done j)
    → (c ≡ enters → factor_at done2 c ≡ factor_at done c)
    → (c ≢ enters → IsReduced (sum_of (factor_at left c) (product_of scale (factor_at right c))) (factor_at done2 c))
    → IsMerged self own scale enters left2 right2 done2 (c + 1)
merged-step self own scale enters left right done left2 right2 done2 from c m n lr ll rr rl under same at_entering at_column = record {
  left_rising = lr;
  right_rising = rr;
  under = under;
  left_rest = λ j le. let lt : c < j = omega arith in m.left_rest j (omega (arith, n.least)) ∙ ll j lt;
  right_rest = λ j le. let lt : c < j = omega arith in m.right_rest j (omega (arith, n.least)) ∙ rl j lt;
  entering = elim (same_or_other enters c) [
    | inl e ↦ subst (λ (j : ℕ). factor_at done2 j ≡ whole (pos 0)) (sym e) (at_entering (sym e) ∙ ap (factor_at done) (sym e) ∙ m.entering)
    | inr ne ↦ same enters ne ∙ m.entering
  ];
  others = λ j lt ne. elim (three j from c (omega (arith, n.least)) lt) [
    | inl below ↦ subst (λ (z : Fraction). IsReduced (sum_of (factor_at self j) (product_of scale (factor_at own j))) z) (sym (same j (omega (arith, n.least)))) (m.others j below ne)
    | inr rest ↦ elim rest [
      | inl between ↦ nothing (factor_at self j) (factor_at own j) (factor_at done2 j) scale
          (m.left_rest j between.0 ∙ factor-gap left c j n.left_rising between.1)
          (m.right_rest j between.0 ∙ factor-gap right c j n.right_rising between.1)
          (same j (omega (arith, between)) ∙ factor-above done from j m.under between.0)
      | inr e ↦ at_last j e ne
    ]
  ];
}
  where
    three : (j from c : ℕ) → from ≤ c → j < c + 1 → (j < from) ⊎ (((from ≤ j) × (j < c)) ⊎ (j ≡ c))
    three j from c le lt = grind arith

    at_last : (j : ℕ) → j ≡ c → j ≢ enters → IsReduced (sum_of (factor_at self j) (product_of scale (factor_at own j))) (factor_at done2 j)
    at_last j e ne =
        let at_c : c ≢ enters = λ k. ne (e ∙ k) in
        let left_is : factor_at self c ≡ factor_at left c = m.left_rest c n.least in
        let right_is : factor_at own c ≡ factor_at right c = m.right_rest c n.least in
        subst (λ (i : ℕ). IsReduced (sum_of (factor_at self i) (product_of scale (factor_at own i))) (factor_at done2 i)) (sym e)
        (subst (λ (z : Fraction). IsReduced (sum_of z (product_of scale (factor_at own c))) (factor_at done2 c)) (sym left_is)
        (subst (λ (z : Fraction). IsReduced (sum_of (factor_at left c) (product_of scale z)) (factor_at done2 c)) (sym right_is) (at_column at_c)))

-- where both lists are at their ends, all is there
pub merged-end : (self own : List Entry) (scale : Fraction) (enters : ℕ) (left right done : List Entry) (from : ℕ)
    → IsMerged self own scale enters left right done from → left ≡ [] → right ≡ []
    → (j : ℕ) → j ≢ enters → IsReduced (sum_of (factor_at self j) (product_of scale (factor_at own j))) (factor_at done j)
merged-end self own scale enters left right done from m l r j ne = elim (below_or_not j from) [
  | inl lt ↦ m.others j lt ne
  | inr le ↦ nothing (factor_at self j) (factor_at own j) (factor_at done j) scale
      (m.left_rest j le ∙ ap (λ (xs : List Entry). factor_at xs j) l)
      (m.right_rest j le ∙ ap (λ (xs : List Entry). factor_at xs j) r)
      (factor-above done from j m.under le)
]
  where
    below_or_not : (j n : ℕ) → (j < n) ⊎ (n ≤ j)
    below_or_not j n = grind arith
