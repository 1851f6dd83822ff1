-- More draws.
use Rattle.std.proofs.Common.{◌≡◌, ℕ, zero, suc, ◌+◌, ◌*◌, List, [], ◌∷◌, ◌++◌, refl, sym, ap, ◌∙◌, add-one, arith}
use Rattle.drawn_numbers.specs.Draws.{next, state_after, drawn, draws}

pub no_draw : (s : ℕ) → s ≡ state_after s 0
unfolding state_after
no_draw s = refl

-- draws after draws
pub state_after-add : (s m n : ℕ) → state_after (state_after s m) n ≡ state_after s (m + n)
unfolding state_after
state_after-add s m zero = ap (state_after s) (omega arith)
state_after-add s m (suc n) = let e : suc (m + n) ≡ m + suc n = omega arith in ap next (state_after-add s m n) ∙ ap (state_after s) e

pub one_more : (s t u i : ℕ) → t ≡ state_after s i → u ≡ state_after t 1 → u ≡ state_after s (i + 1)
one_more s t u i at is = is ∙ ap (λ x. state_after x 1) at ∙ state_after-add s i 1

pub four_more : (s t u i : ℕ) → t ≡ state_after s (4 * i) → u ≡ state_after t 4 → u ≡ state_after s (4 * (i + 1))
four_more s t u i at is = let e : 4 * i + 4 ≡ 4 * (i + 1) = omega arith in is ∙ ap (λ x. state_after x 4) at ∙ state_after-add s (4 * i) 4 ∙ ap (state_after s) e

-- the state that follows a state is that after one draw
after_one : (s : ℕ) → next s ≡ state_after s 1
unfolding state_after
after_one s = refl

pub next_more : (s t u i : ℕ) → t ≡ state_after s i → u ≡ next t → u ≡ state_after s (i + 1)
next_more s t u i at is = one_more s t u i at (is ∙ after_one t)

-- so many numbers, and the next
pub draws_more : (s t u m i b : ℕ) (xs : List ℕ) → t ≡ state_after s i → u ≡ next t → b ≡ drawn u m → xs ≡ draws s m i → xs ++ b ∷ [] ≡ draws s m (i + 1)
draws_more s t u m i b xs at is here so_far =
    ap (λ ys. ys ++ b ∷ []) so_far
    ∙ ap (λ z. draws s m i ++ z ∷ []) (here ∙ ap (λ x. drawn x m) (next_more s t u i at is ∙ ap (state_after s) (add-one i)))
    ∙ ap (draws s m) (sym (add-one i))
