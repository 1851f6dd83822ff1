-- The least of the bounds of listed leaves.
use Rattle.std.proofs.Common.{◌≡◌, ℕ, zero, suc, List, [], ◌∷◌, ◌++◌, Option, Some, None, ℤ, arith, refl, sym, ap, ◌∙◌}
use Rattle.std.specs.Prelude.{◌↔◌}
use Rattle.std.proofs.lemmas.Int.{clamps}
use Rattle.std.proofs.lemmas.Option.{none-some}
use Rattle.integers.proofs.Ring.{additive}
use Rattle.pool_model.specs.Starting.{lesser, least_below}
use Rattle.leaf_order.specs.declared.leaf.OpenLeaf.{OpenLeaf}
use Rattle.certificate_leaves.specs.Leaves.{AreListed, least_bound, listed}
use Rattle.certificate_leaves.proofs.Listed.{list_below, below-listed, one-list}

-- in which order the lesser ones are taken says nothing
lesser-apart : (a : ℤ) (b c : Option ℤ) → lesser (Some a) (lesser b c) ≡ lesser (lesser (Some a) b) c
lesser-apart a None c = refl
lesser-apart a (Some b) None = refl
lesser-apart a (Some b) (Some c) = ap (λ (z : ℤ). Some z) (omega (arith, additive, clamps))

least-append : (xs ys : List OpenLeaf) → least_bound (xs ++ ys) ≡ lesser (least_bound xs) (least_bound ys)
least-append [] ys = refl
least-append (x ∷ xs) ys = ap (λ (o : Option ℤ). lesser (Some x.bound) o) (least-append xs ys) ∙ lesser-apart x.bound (least_bound xs) (least_bound ys)

least-one : (k : ℕ) (o : Option ℤ) → least_bound (listed k o) ≡ o
least-one k None = refl
least-one k (Some b) = refl

least-list : (f : ℕ → Option ℤ) (k : ℕ) → least_bound (list_below f k) ≡ least_below f k
least-list f zero = refl
least-list f (suc k) =
    least-append (list_below f k) (listed k (f k)) ∙ ap (λ (o : Option ℤ). lesser o (least_bound (listed k (f k)))) (least-list f k)
    ∙ ap (λ (o : Option ℤ). lesser (least_below f k) o) (least-one k (f k))

-- the least of the bounds of the leaves is that of the bounds
pub least-listed : (f : ℕ → Option ℤ) (k : ℕ) (xs : List OpenLeaf) → AreListed f k xs → least_bound xs ≡ least_below f k
least-listed f k xs are = ap least_bound (one-list f k xs (list_below f k) are (below-listed f k)) ∙ least-list f k

-- there is a least bound where there is a leaf
some-least : (a : ℤ) (o : Option ℤ) → ¬ (lesser (Some a) o ≡ None)
some-least a None e = none-some a (sym e)
some-least a (Some b) e = none-some _ (sym e)

none-there : (xs : List OpenLeaf) → least_bound xs ≡ None → xs ≡ []
none-there [] e = refl
none-there (x ∷ xs) e = absurd (some-least x.bound (least_bound xs) e)

pub none-listed : (f : ℕ → Option ℤ) (k : ℕ) (xs : List OpenLeaf) → AreListed f k xs → (least_below f k ≡ None) ↔ (xs ≡ [])
none-listed f k xs are = (λ e. none-there xs (least-listed f k xs are ∙ e), λ e. sym (least-listed f k xs are) ∙ ap least_bound e)
