-- A row taken from the rests, term by term.
use Rattle.std.proofs.Common.{◌≡◌, ◌≢◌, ℕ, ◌+◌, ◌*◌, ◌^◌, ◌<◌, ◌≤◌, inl, inr, List, [], ◌∷◌, All, length, get_or, take}
use Rattle.std.proofs.Common.{set, ℤ, pos, ◌+ℤ◌, ◌-ℤ◌, ◌*ℤ◌, unsigned_abs, if◌then◌else◌, ◌==◌, true, false, Bool, arith, refl, sym, ap, get_or-set_other}
use Rattle.std.proofs.Math.ListN.{length-set}
use Rattle.std.proofs.Math.Nat.{mul-le-mul_left}
use Rattle.std.proofs.lemmas.Int.{ints, unsigned_abs-mul}
use Rattle.std.proofs.lemmas.Grind.{get_or-set_at}
use Rattle.std.proofs.lemmas.List.Sums.{sum_by-cons, sum_by_more_le}
use Rattle.integers.proofs.Ring.{additive, mul-add}
use Rattle.integers.proofs.ByList.{int_sum_by_more}
use Rattle.linear_program.specs.declared.terms.Term.{Term}
use Rattle.integers.proofs.AtKey.{same_or_other, chosen, passed}
use Rattle.row_book.specs.Sizes.{coef_in, size_in}

chosen_abs : (b : Bool) (c : ℤ) → unsigned_abs (if b then c else pos 0) ≤ (if b then unsigned_abs c else 0)
chosen_abs true c = omega arith
chosen_abs false c = omega arith

pub abs-coef_in : (ts : List Term) (i : ℕ) → unsigned_abs (coef_in ts i) ≤ size_in ts i
abs-coef_in [] i = omega arith
abs-coef_in (t ∷ ts) i = omega (arith, ints, abs-coef_in ts i, chosen_abs (t.var == i) t.coef, sum_by-cons (λ t. if t.var == i then unsigned_abs t.coef else 0) t ts)

pub fits_here : (old rest : List ℤ) (m : ℤ) (ts : List Term) (k : ℕ) (d : Term)
    → k < length ts → length rest ≡ length old → All (λ t. t.var < length old) ts
    → ((i : ℕ) → i < length old → unsigned_abs (get_or old i (pos 0)) + unsigned_abs m * size_in ts i ≤ 2 ^ 126)
    → ((i : ℕ) → i < length rest → get_or rest i (pos 0) ≡ get_or old i (pos 0) -ℤ m *ℤ coef_in (take k ts) i)
    → unsigned_abs (get_or rest (get_or ts k d).var (pos 0)) + unsigned_abs m * unsigned_abs (get_or ts k d).coef ≤ 2 ^ 126
fits_here old rest m ts k d lt same r room inv =
    let t = get_or ts k d in
    let i = t.var in
    let here : i < length old = r k d lt in
    let e : unsigned_abs (get_or rest i (pos 0)) ≤ unsigned_abs (get_or old i (pos 0)) + unsigned_abs m * unsigned_abs (coef_in (take k ts) i) =
    omega (arith, ints, inv i (omega arith), unsigned_abs-mul m (coef_in (take k ts) i)) in
    let s : size_in (take k ts) i + unsigned_abs t.coef ≤ size_in ts i =
    omega (arith, sum_by_more_le (λ t. if t.var == i then unsigned_abs t.coef else 0) ts k d lt, chosen i i (unsigned_abs t.coef) 0 refl) in
    omega (arith, room i here, mul-le-mul_left (unsigned_abs m) (abs-coef_in (take k ts) i), mul-le-mul_left (unsigned_abs m) s)

pub one_more : (old rest : List ℤ) (m : ℤ) (ts : List Term) (k : ℕ) (d : Term) (v : ℤ)
    → k < length ts → length rest ≡ length old → All (λ t. t.var < length old) ts
    → ((i : ℕ) → i < length rest → get_or rest i (pos 0) ≡ get_or old i (pos 0) -ℤ m *ℤ coef_in (take k ts) i)
    → v ≡ get_or rest (get_or ts k d).var (pos 0) -ℤ m *ℤ (get_or ts k d).coef
    → (i : ℕ) → i < length (set rest (get_or ts k d).var v)
    → get_or (set rest (get_or ts k d).var v) i (pos 0) ≡ get_or old i (pos 0) -ℤ m *ℤ coef_in (take (k + 1) ts) i
one_more old rest m ts k d v lt same r inv e i h =
    let t = get_or ts k d in
    let in_rest : t.var < length rest = omega (arith, r k d lt) in
    let below : i < length rest = omega (arith, length-set {A = ℤ}) in
    let more : coef_in (take (k + 1) ts) i ≡ coef_in (take k ts) i +ℤ (if t.var == i then t.coef else pos 0) = int_sum_by_more (λ t. if t.var == i then t.coef else pos 0) ts k d lt in
    elim (same_or_other t.var i) [
      | inl e' ↦ omega (
        arith,
        additive,
        get_or-set_at rest t.var i v (pos 0) (sym e') in_rest,
        e,
        ap (λ j. get_or rest j (pos 0)) e',
        inv i below,
        ap (λ z. m *ℤ z) more,
        ap (λ j. m *ℤ (coef_in (take k ts) i +ℤ (if j == i then t.coef else pos 0))) e',
        ap (λ z. m *ℤ (coef_in (take k ts) i +ℤ z)) (chosen i i t.coef (pos 0) refl),
        mul-add m (coef_in (take k ts) i) t.coef,
      )
      | inr n ↦ let n' : i ≢ t.var = omega arith in omega (
        arith,
        additive,
        get_or-set_other rest t.var i v (pos 0) n',
        inv i below,
        ap (λ z. m *ℤ z) more,
        ap (λ z. m *ℤ (coef_in (take k ts) i +ℤ z)) (passed t.var i t.coef (pos 0) n),
        ap (λ z. m *ℤ z) (add-zero_ℤ (coef_in (take k ts) i)),
      )
    ]
  where
    add-zero_ℤ : (a : ℤ) → a +ℤ pos 0 ≡ a
    add-zero_ℤ a = omega (arith, additive)
