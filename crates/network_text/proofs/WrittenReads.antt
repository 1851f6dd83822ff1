-- A quantity is read from the value that is written for it.
use Rattle.std.proofs.Common.{◌≡◌, ℕ, ℤ, pos, negsuc, ◌*◌, ◌/◌, ◌%◌, ◌^◌, ◌<◌, ◌*ℤ◌, Bool, true, false, cond, eqb, Some, Ok, refl, sym, ap, arith, unsigned_abs}
use Rattle.std.specs.Prelude.{int_lt}
use Rattle.std.proofs.lemmas.Bool.{eqb-true}
use Rattle.std.proofs.lemmas.Int.{ints}
use Rattle.serde_json.specs.Data.{number, string}
use Rattle.serde_json.specs.Find.{of_integer, as_integer}
use Rattle.pool_model.specs.Quantity.{signed, shortest}
use Rattle.quantity.proofs.Spelled.{shortest_back, signed_back}
use Rattle.json_walk.specs.declared.fault.Place.{Place}
use Rattle.json_walk.specs.Walk.{quantity}
use Rattle.network_values.specs.Values.{units_of}
use Rattle.network_text.proofs.CanonicalReads.{IsRead}

integer_back : (z : ℤ) → as_integer (of_integer z) ≡ Some z
integer_back (pos n) = refl
integer_back (negsuc n) = refl

units_back : (negative : Bool) (size : ℕ) → size % 10 ^ 6 ≡ 0 → signed negative (size / 10 ^ 6) *ℤ pos 1000000 ≡ signed negative size
units_back true size e = let k : size ≡ size / 10 ^ 6 * 1000000 = omega (arith, e) in omega (arith, ints, k)
units_back false size e = let k : size ≡ size / 10 ^ 6 * 1000000 = omega (arith, e) in ap pos (sym k)

back_at : (b : Bool) (q : ℤ) (at : Place) → eqb (unsigned_abs q % 10 ^ 6) 0 ≡ b → unsigned_abs q < 10 ^ 21 → quantity at (cond b (number (of_integer (units_of q))) (string (shortest q))) ≡ Ok q
unfolding quantity
back_at true q at e lt = rw (integer_back (units_of q), units_back (int_lt q (pos 0)) (unsigned_abs q) (eqb-true _ _ e), signed_back q) refl
back_at false q at e lt = rw (shortest_back q lt) refl

pub written_read : (q : ℤ) → unsigned_abs q < 10 ^ 21 → IsRead q
written_read q lt at = back_at (eqb (unsigned_abs q % 10 ^ 6) 0) q at refl lt
