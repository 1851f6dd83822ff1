-- Ring laws of ℤ, and a recipe for polynomial identities.
use Rattle.std.proofs.Common.{◌≡◌, ℕ, ◌+◌, ◌*◌, ℤ, pos, ◌+ℤ◌, ◌*ℤ◌, neg_ℤ, arith, sym, ap, ◌∙◌}
use Rattle.std.proofs.Math.IntN.{neg_ℤ-neg_ℤ, neg_ℤ-+ℤ}
use borrow.Author.Differences.{up, down, same_in, same_out, lt_out, le_out, below_in, at_most_in, sum_is_lem, neg_is, product_is}

-- z as `up z - down z`, for `omega`: only what sums, negations, products and order need
pub ruleset linear = (same_out, lt_out, le_out, same_in, below_in, at_most_in, sum_is_lem, neg_is, product_is)

pub mul_comm_ℤ : (a b : ℤ) → a *ℤ b ≡ b *ℤ a
mul_comm_ℤ a b = omega (arith, linear)

pub mul-add : (a b c : ℤ) → a *ℤ (b +ℤ c) ≡ a *ℤ b +ℤ a *ℤ c
mul-add a b c = omega (arith, linear, ap (λ n. up a * n) (sum_is_lem b c), ap (λ n. down a * n) (sum_is_lem b c))

pub add-mul : (a b c : ℤ) → (a +ℤ b) *ℤ c ≡ a *ℤ c +ℤ b *ℤ c
add-mul a b c = omega (arith, linear, ap (λ n. up c * n) (sum_is_lem a b), ap (λ n. down c * n) (sum_is_lem a b))

pub mul-neg : (a b : ℤ) → a *ℤ neg_ℤ b ≡ neg_ℤ (a *ℤ b)
mul-neg a b = omega (arith, linear, ap (λ n. up a * n) (neg_is b).0, ap (λ n. down a * n) (neg_is b).0, ap (λ n. up a * n) (neg_is b).1, ap (λ n. down a * n) (neg_is b).1)

pub neg-mul : (a b : ℤ) → neg_ℤ a *ℤ b ≡ neg_ℤ (a *ℤ b)
neg-mul a b = mul_comm_ℤ (neg_ℤ a) b ∙ mul-neg b a ∙ ap neg_ℤ (mul_comm_ℤ b a)

-- the product of three, in parts
pub product3_is : (a b c : ℤ) → (up ((a *ℤ b) *ℤ c) ≡ (up a * up b + down a * down b) * up c + (up a * down b + down a * up b) * down c)
    × (down ((a *ℤ b) *ℤ c) ≡ (up a * up b + down a * down b) * down c + (up a * down b + down a * up b) * up c)
product3_is a b c = omega (
  arith,
  product_is (a *ℤ b) c,
  ap (λ n. up c * n) (product_is a b).0,
  ap (λ n. down c * n) (product_is a b).0,
  ap (λ n. up c * n) (product_is a b).1,
  ap (λ n. down c * n) (product_is a b).1,
)

pub mul_assoc_ℤ : (a b c : ℤ) → (a *ℤ b) *ℤ c ≡ a *ℤ (b *ℤ c)
mul_assoc_ℤ a b c = let p = product3_is a b c in let q = product3_is b c a in omega (arith, linear, mul_comm_ℤ a (b *ℤ c), p, q)

pub mul_left_comm_ℤ : (a b c : ℤ) → a *ℤ (b *ℤ c) ≡ b *ℤ (a *ℤ c)
mul_left_comm_ℤ a b c = sym (mul_assoc_ℤ a b c) ∙ ap (λ n. n *ℤ c) (mul_comm_ℤ a b) ∙ mul_assoc_ℤ b a c

-- a sum of products, the factors of each sorted: then `omega (arith, additive)` proves identities of any degree
pub ruleset sorted = (mul-add, add-mul, mul-neg, neg-mul, neg_ℤ-+ℤ, neg_ℤ-neg_ℤ, mul_assoc_ℤ, mul_comm_ℤ, mul_left_comm_ℤ)

pub ruleset additive = (same_out, lt_out, le_out, same_in, below_in, at_most_in, sum_is_lem, neg_is)

-- a numeral coefficient, which sorting puts last
pub scaled2_is : (a b : ℤ) (n : ℕ) → (up (a *ℤ (b *ℤ pos n)) ≡ up (a *ℤ b) * n) × (down (a *ℤ (b *ℤ pos n)) ≡ down (a *ℤ b) * n)
scaled2_is a b n = let e : a *ℤ (b *ℤ pos n) ≡ (a *ℤ b) *ℤ pos n = sym (mul_assoc_ℤ a b (pos n)) in
    omega (arith, ap up e, ap down e, product_is (a *ℤ b) (pos n))

pub scaled3_is : (a b c : ℤ) (n : ℕ) → (up (a *ℤ (b *ℤ (c *ℤ pos n))) ≡ up (a *ℤ (b *ℤ c)) * n) × (down (a *ℤ (b *ℤ (c *ℤ pos n))) ≡ down (a *ℤ (b *ℤ c)) * n)
scaled3_is a b c n = let e : a *ℤ (b *ℤ (c *ℤ pos n)) ≡ (a *ℤ (b *ℤ c)) *ℤ pos n = ap (λ t. a *ℤ t) (sym (mul_assoc_ℤ b c (pos n))) ∙ sym (mul_assoc_ℤ a (b *ℤ c) (pos n)) in
    omega (arith, ap up e, ap down e, product_is (a *ℤ (b *ℤ c)) (pos n))

pub ruleset scaled = (product_is, scaled2_is, scaled3_is)
