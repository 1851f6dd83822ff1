-- The numbers of a made network are in their ranges, whatever is drawn.
use Rattle.std.proofs.Common.{◌≡◌, ℕ, zero, suc, ◌+◌, ◌≤◌, ◌^◌, ℤ, pos, List, [], ◌∷◌, get_or, All, Option, None, Some, true, ◌==◌, is_none, unsigned_abs, refl, subst, arith}
use Rattle.std.specs.Option.{ForSome}
use Rattle.std.proofs.lemmas.List.Elements.{All-nil, All-cons}
use Rattle.std.proofs.lemmas.Int.{ints}
use Rattle.std.proofs.lemmas.Bool.Decides.{nat_tests}
use Rattle.pool_model.specs.Rows.{ArcRow}
use Rattle.pool_model.specs.Network.{IsWithin}
use Rattle.network_parts.specs.Faults.{IsUpTo, IsSourceInRange, IsPoolInRange, IsProductInRange, IsArcInRange, AreOrderly, IsOrderly}
use Rattle.blend_network.specs.Canonical.{canonical_source, canonical_pool, canonical_product}
use Rattle.drawn_numbers.specs.Draws.{draw}
use Rattle.network_maker.specs.Generated.{in_units, in_tenths, drawn_source, drawn_pool, drawn_product}

up_to : (size n : ℕ) → n ≤ size → IsUpTo size (pos n)
up_to size n h = (omega (arith, ints), omega (arith, ints, h))

within : (size n : ℕ) → n ≤ size → IsWithin size (pos n)
within size n h = (omega (arith, ints), omega (arith, ints, h))

some : (P : ℤ → Type 0) (z : ℤ) → P z → ForSome (Some z) P
some P z h x e = let same : z ≡ x = cc in subst P same h

none : (P : ℤ → Type 0) → ForSome None P
none P x e = cc

both_all : {X : Type 0} (P : X → Type 0) (x y : X) → P x → P y → All P (x ∷ y ∷ [])
both_all P x y a b = All-cons P x (y ∷ []) a (All-cons P y [] b (All-nil P))

pub source_in_range : (s i : ℕ) → IsSourceInRange (canonical_source (drawn_source s i))
source_in_range s i = record {
  cost = within (10 ^ 12) (in_units (5 + draw s 0 20)) (omega arith);
  max = some (IsUpTo (10 ^ 14)) (pos (in_units (50 + draw s 3 151))) (up_to (10 ^ 14) (in_units (50 + draw s 3 151)) (omega arith));
  quality = both_all (IsWithin (10 ^ 11)) (pos (in_tenths (10 + draw s 1 41))) (pos (in_tenths (10 + draw s 2 41)))
      (within (10 ^ 11) (in_tenths (10 + draw s 1 41)) (omega arith)) (within (10 ^ 11) (in_tenths (10 + draw s 2 41)) (omega arith));
}

pub pool_in_range : (s l : ℕ) → IsPoolInRange (canonical_pool (drawn_pool s l))
pool_in_range s l = record {
  max = some (IsUpTo (10 ^ 14)) (pos (in_units (100 + draw s 0 201))) (up_to (10 ^ 14) (in_units (100 + draw s 0 201)) (omega arith));
  ratio = both_all (IsUpTo 1000) (pos 1000) (pos 1000) (up_to 1000 1000 (omega arith)) (up_to 1000 1000 (omega arith));
}

-- an arc that costs nothing and has no maximum
pub free : (a : ArcRow) → (unsigned_abs a.cost == 0) ≡ true → is_none a.max ≡ true → IsArcInRange a
free a nothing absent = record { cost = by_cost a.cost nothing; max = by_max a.max absent }
  where
    by_cost : (z : ℤ) → (unsigned_abs z == 0) ≡ true → IsWithin (10 ^ 12) z
    by_cost z e =
        let least : unsigned_abs z ≡ 0 = grind (arith, nat_tests) in
        (omega (arith, ints), omega (arith, ints))

    by_max : (o : Option ℤ) → is_none o ≡ true → ForSome o (IsUpTo (10 ^ 14))
    by_max None e = none (IsUpTo (10 ^ 14))
    by_max (Some m) e = absurd cc

limit : (n : ℕ) → n ≤ 10 ^ 11 → ForSome (Some (pos n)) (IsWithin (10 ^ 11))
limit n h = some (IsWithin (10 ^ 11)) (pos n) (within (10 ^ 11) n h)

pub product_in_range : (s j : ℕ) → IsProductInRange (canonical_product (drawn_product s j))
product_in_range s j = record {
  price = within (10 ^ 12) (in_units (15 + draw s 0 20)) (omega arith);
  min = up_to (10 ^ 12) 0 (omega arith);
  max = up_to (10 ^ 12) (in_units (50 + draw s 1 101)) (omega arith);
  least = both_all (λ u. ForSome u (IsWithin (10 ^ 11))) None None (none (IsWithin (10 ^ 11))) (none (IsWithin (10 ^ 11)));
  most = both_all (λ u. ForSome u (IsWithin (10 ^ 11))) (Some (pos (in_tenths (15 + draw s 2 21)))) (Some (pos (in_tenths (15 + draw s 3 21))))
      (limit (in_tenths (15 + draw s 2 21)) (omega arith)) (limit (in_tenths (15 + draw s 3 21)) (omega arith));
}

abbrev no_limits : List (Option ℤ)
no_limits = None ∷ None ∷ []

no_limit : (k : ℕ) → get_or no_limits k None ≡ None
no_limit zero = refl
no_limit (suc zero) = refl
no_limit (suc (suc k)) = refl

orderly : (most : List (Option ℤ)) → AreOrderly no_limits most
orderly most k a b least is = let e = no_limit k in cc

pub product_orderly : (s j : ℕ) → IsOrderly (canonical_product (drawn_product s j))
product_orderly s j = record { amount = omega (arith, ints); limits = orderly (canonical_product (drawn_product s j)).most }
