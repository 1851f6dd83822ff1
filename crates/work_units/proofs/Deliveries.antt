-- Lists of deliveries, one after another.
use Rattle.std.proofs.Common.{◌≡◌, List, [], ◌∷◌, ◌++◌, map, Bool, true, false, if◌then◌else◌, cond, Result, Ok, Err, refl, sym, ap, subst, ◌∙◌}
use Rattle.std.specs.Prelude.{filter}
use Rattle.std.proofs.lemmas.List.{append-nil, append_assoc}
use Rattle.edge_io.specs.declared.fault.Memory.{Memory}
use Rattle.pool_model.specs.Network.{Net}
use Rattle.row_model.specs.Entries.{Searched, made_from, AreInOrderFrom}
use Rattle.work_units.specs.Units.{Answer}
use Rattle.work_units.specs.Desks.{Desk, entries_of, IsFrom}
use Rattle.work_units.specs.Judging.{IsJudged, after_delivery}
use Rattle.work_units.specs.Deliveries.{Delivery, IsDelivered, after_one, AreDelivered, after_all, fits, fitting}
use Rattle.work_units.specs.declared.answer.Judged.{Judged}
use Rattle.work_units.specs.declared.answer.Judged.TheVariants.{Stranger, Repeated, Wrong, Refused, Fits}
use Rattle.work_units.proofs.Taking.{from-next}

fitting-cons : (x : Delivery) (xs : List Delivery) → fitting (x ∷ xs) ≡ (if fits x.came then x.answer ∷ fitting xs else fitting xs)
fitting-cons x xs = go (fits x.came)
  where
    go : (b : Bool) → map (λ (y : Delivery). y.answer) (cond b (x ∷ filter (λ (y : Delivery). fits y.came) xs) (filter (λ (y : Delivery). fits y.came) xs))
        ≡ (if b then x.answer ∷ fitting xs else fitting xs)
    go true = refl
    go false = refl

taken-one : (d : Desk) (a : Answer) (r : Result Judged Memory) (ys : List Answer) → (after_one d a r).taken ++ ys ≡ d.taken ++ (if fits r then a ∷ ys else ys)
taken-one d a (Ok Stranger) ys = refl
taken-one d a (Ok Repeated) ys = refl
taken-one d a (Ok Wrong) ys = refl
taken-one d a (Ok (Refused f)) ys = refl
taken-one d a (Ok Fits) ys = append_assoc d.taken (a ∷ []) ys
taken-one d a (Err e) ys = refl

pub taken-all : (d : Desk) (xs : List Delivery) → (after_all d xs).taken ≡ d.taken ++ fitting xs
taken-all d [] = sym (append-nil d.taken)
taken-all d (x ∷ xs) =
    taken-all (after_one d x.answer x.came) xs ∙ taken-one d x.answer x.came (fitting xs) ∙ ap (λ (ys : List Answer). d.taken ++ ys) (sym (fitting-cons x xs))

made-one : (d : Desk) (a : Answer) (r : Result Judged Memory) (ys : List Answer)
    → made_from (after_one d a r).searched (entries_of ys) ≡ made_from d.searched (entries_of (if fits r then a ∷ ys else ys))
made-one d a (Ok Stranger) ys = refl
made-one d a (Ok Repeated) ys = refl
made-one d a (Ok Wrong) ys = refl
made-one d a (Ok (Refused f)) ys = refl
made-one d a (Ok Fits) ys = refl
made-one d a (Err e) ys = refl

pub made-all : (d : Desk) (xs : List Delivery) → (after_all d xs).searched ≡ made_from d.searched (entries_of (fitting xs))
made-all d [] = refl
made-all d (x ∷ xs) =
    made-all (after_one d x.answer x.came) xs ∙ made-one d x.answer x.came (fitting xs)
    ∙ ap (λ (ys : List Answer). made_from d.searched (entries_of ys)) (sym (fitting-cons x xs))

order-one : (n : Net) (d : Desk) (a : Answer) (r : Result Judged Memory) (ys : List Answer) → IsDelivered n d a r → AreInOrderFrom n (after_one d a r).searched (entries_of ys)
    → AreInOrderFrom n d.searched (entries_of (if fits r then a ∷ ys else ys))
order-one n d a (Ok Stranger) ys h k = k
order-one n d a (Ok Repeated) ys h k = k
order-one n d a (Ok Wrong) ys h k = k
order-one n d a (Ok (Refused f)) ys h k = k
order-one n d a (Ok Fits) ys h k = (h.1, k)
order-one n d a (Err e) ys h k = k

pub order-all : (n : Net) (d : Desk) (xs : List Delivery) → AreDelivered n d xs → AreInOrderFrom n d.searched (entries_of (fitting xs))
order-all n d [] h = tt
order-all n d (x ∷ xs) h =
    subst (λ (ys : List Answer). AreInOrderFrom n d.searched (entries_of ys)) (sym (fitting-cons x xs))
    (order-one n d x.answer x.came (fitting xs) h.0 (order-all n (after_one d x.answer x.came) xs h.1))

-- what a desk began with stays so, however an answer is judged
pub from-judged : (n : Net) (s : Searched) (d : Desk) (a : Answer) (j : Judged) → IsFrom n s d → IsJudged n d a j → IsFrom n s (after_delivery d a j)
from-judged n s d a Stranger is h = is
from-judged n s d a Repeated is h = is
from-judged n s d a Wrong is h = is
from-judged n s d a (Refused f) is h = is
from-judged n s d a Fits is h = from-next n s d a is h.0 h.1

from-one : (n : Net) (s : Searched) (d : Desk) (a : Answer) (r : Result Judged Memory) → IsFrom n s d → IsDelivered n d a r → IsFrom n s (after_one d a r)
from-one n s d a (Ok j) is h = from-judged n s d a j is h
from-one n s d a (Err e) is h = is

pub from-all : (n : Net) (s : Searched) (d : Desk) (xs : List Delivery) → IsFrom n s d → AreDelivered n d xs → IsFrom n s (after_all d xs)
from-all n s d [] is h = is
from-all n s d (x ∷ xs) is h = from-all n s (after_one d x.answer x.came) xs (from-one n s d x.answer x.came is h.0) h.1
