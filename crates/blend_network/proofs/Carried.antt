-- The arcs of a network cost and carry what their rows say: in range where the rows are.
use Rattle.std.proofs.Common.{◌≡◌, ℕ, zero, suc, ◌^◌, ◌<◌, ◌≤◌, List, [], ◌∷◌, length, get_or, All, Option, None, Some, option_map, ℤ, unsigned_abs, refl, ap, subst, arith}
use Rattle.std.specs.List.{filter_map, cons_option}
use Rattle.std.specs.Option.{ForSome}
use Rattle.std.proofs.lemmas.Int.{ints}
use Rattle.std.proofs.lemmas.List.Elements.{All-head, All-tail, All-from_get_or}
use Rattle.pool_model.specs.Rows.{ArcRow, Rows}
use Rattle.pool_model.specs.Naming.{number_of, arc_between, arcs_between}
use Rattle.pool_model.specs.Network.{Arc, IsWithin, no_arc}
use Rattle.network_parts.specs.Faults.{IsUpTo, IsArcInRange, no_arc_row}
use Rattle.network_parts.specs.Nodes.{join}

-- an arc whose numbers are within the limits
pub record IsCarried (a : Arc) : Type 0 where
  pub cost : IsWithin (10 ^ 12) a.cost
  pub max : (m : ℕ) → a.max ≡ Some m → m ≤ 10 ^ 14

most : (o : Option ℤ) (m : ℕ) → ForSome o (IsUpTo (10 ^ 14)) → option_map unsigned_abs o ≡ Some m → m ≤ 10 ^ 14
most (Some z) m k is =
    let same : unsigned_abs z ≡ m = cc in
    let up = k z refl in
    omega (arith, ints, up.0, up.1, same)
most None m k is = absurd cc

carried : (r : ArcRow) (a b : Option ℕ) (c : Arc) → IsArcInRange r → join r a b ≡ Some c → IsCarried c
carried r (Some i) (Some j) c h e =
    let cost : r.cost ≡ c.cost = cc (ap (option_map (λ (x : Arc). x.cost)) e) in
    let max : Some (option_map unsigned_abs r.max) ≡ Some c.max = ap (option_map (λ (x : Arc). x.max)) e in
    record { cost = subst (IsWithin (10 ^ 12)) cost h.cost; max = λ m is. most r.max m h.max (cc (max, is)) }
carried r (Some i) None c h e = absurd cc
carried r None b c h e = absurd cc

-- what holds of all that a list gives, where it follows from what holds of its elements
given_step : {Z : Type 0} (P : Z → Type 0) (d : Z) (o : Option Z) (rest : List Z) → ((z : Z) → o ≡ Some z → P z) → ((e : ℕ) → e < length rest → P (get_or rest e d))
    → (e : ℕ) → e < length (cons_option o rest) → P (get_or (cons_option o rest) e d)
given_step P d None rest h k e within = k e within
given_step P d (Some z) rest h k zero within = h z refl
given_step P d (Some z) rest h k (suc e) within = k e (omega (arith, within))

given_by : {X Z : Type 0} (Q : X → Type 0) (P : Z → Type 0) (d : Z) (f : X → Option Z) (xs : List X) → All Q xs → ((x : X) (z : Z) → Q x → f x ≡ Some z → P z)
    → (e : ℕ) → e < length (filter_map f xs) → P (get_or (filter_map f xs) e d)
given_by Q P d f [] all h e within = absurd (omega (arith, within))
given_by Q P d f (x ∷ xs) all h e within =
    given_step P d (f x) (filter_map f xs) (λ z is. h x z (All-head Q x xs all) is) (λ k there. given_by Q P d f xs (All-tail Q x xs all) h k there) e within

pub arcs-carried : (froms tos : List (List ℕ)) (r : Rows) → ((n : ℕ) → n < length r.arcs → IsArcInRange (get_or r.arcs n no_arc_row))
    → (e : ℕ) → e < length (arcs_between froms tos r) → IsCarried (get_or (arcs_between froms tos r) e no_arc)
arcs-carried froms tos r ranges =
    given_by IsArcInRange IsCarried no_arc (arc_between froms tos) r.arcs (All-from_get_or IsArcInRange r.arcs no_arc_row ranges)
    (λ x z good is. carried x (number_of x.from froms) (number_of x.to tos) z good is)
