-- Lists of deliveries, and what they make of a desk.
use Rattle.std.specs.Prelude.{List, [], ◌∷◌, map, filter, Bool, true, false, Result, Ok, Err}
use Rattle.edge_io.specs.declared.fault.Memory.{Memory}
use Rattle.pool_model.specs.Network.{Net}
use Rattle.work_units.specs.Units.{Answer}
use Rattle.work_units.specs.Desks.{Desk}
use Rattle.work_units.specs.Judging.{IsJudged, after_delivery}
use Rattle.work_units.specs.declared.answer.Judged.{Judged}
use Rattle.work_units.specs.declared.answer.Judged.TheVariants.{Fits}

-- an answer that is delivered, and what came of it: how it was judged, or want of memory
pub record Delivery : Type 0 where
  pub answer : Answer
  pub came : Result Judged Memory

-- what comes of it where the answer is judged, or memory runs out
abbrev pub IsDelivered : Net → Desk → Answer → Result Judged Memory → Type 0
IsDelivered n d a (Ok judged) = IsJudged n d a judged
IsDelivered n d a (Err e) = Unit {0}

-- the desk after it
abbrev pub after_one : Desk → Answer → Result Judged Memory → Desk
after_one d a (Ok judged) = after_delivery d a judged
after_one d a (Err e) = d

-- the same of a list of deliveries, one after another
abbrev pub AreDelivered : Net → Desk → List Delivery → Type 0
AreDelivered n d [] = Unit {0}
AreDelivered n d (x ∷ xs) = IsDelivered n d x.answer x.came × AreDelivered n (after_one d x.answer x.came) xs

abbrev pub after_all : Desk → List Delivery → Desk
after_all d [] = d
after_all d (x ∷ xs) = after_all (after_one d x.answer x.came) xs

abbrev pub fits : Result Judged Memory → Bool
fits (Ok Fits) = true
fits _ = false

-- the answers that fit, without those that are judged otherwise and those that met want of memory
abbrev pub fitting : List Delivery → List Answer
fitting xs = map (λ x. x.answer) (filter (λ x. fits x.came) xs)
