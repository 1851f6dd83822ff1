-- What outcomes tell, from what others tell.
use Rattle.std.proofs.Common.{◌≡◌, subst, sym}
use Rattle.std.specs.Prelude.{Result, Ok, Err, IfOk, IfErr, OnOk}
use Rattle.pool_model.specs.Network.{Net, IsLimited}
use Rattle.program_points.specs.Held.{IsHeldOfQ, IsHeldOfPq}
use Rattle.program_points.specs.declared.points.PropPoint.{PropPoint}
use Rattle.program_points.specs.declared.points.QualPoint.{QualPoint}
use Rattle.program_points.specs.Views.{shown_prop}
use Rattle.program_model.proofs.FormQ.{point_of_q-point_of_pq}
use Rattle.form_plans.specs.Taken.{HasPlanOfQ, HasPlanOfPq, IsFaultOfP, IsFaultOfQ, IsFaultOfPq}
use Rattle.form_plans.specs.declared.fault.FormFault.{FormFault}
use Rattle.form_plans.specs.declared.fault.FormFault.TheVariants.{NotAPoint, TooFine, Memory}

pub ok-more : {T E : Type 0} (r : Result T E) (P Q : T → Type 0) → ((x : T) → P x → Q x) → IfOk r P → IfOk r Q
ok-more (Ok x) P Q f h = f x h
ok-more (Err e) P Q f h = tt

pub ok-any : {T E : Type 0} (r : Result T E) (X : Type 0) → X → OnOk r X
ok-any (Ok x) X h = h
ok-any (Err e) X h = tt

pub err-more : {T E : Type 0} (r : Result T E) (P Q : E → Type 0) → ((e : E) → P e → Q e) → IfErr r P → IfErr r Q
err-more (Ok x) P Q f h = tt
err-more (Err e) P Q f h = f e h

-- want of memory tells nothing
pub memory-of_q : (n : Net) (q : PropPoint) (f : FormFault) → f ≡ Memory → IsFaultOfQ n q f
memory-of_q n q f e = subst (IsFaultOfQ n q) (sym e) tt

pub memory-of_p : (n : Net) (q : QualPoint) (f : FormFault) → f ≡ Memory → IsFaultOfP n q f
memory-of_p n q f e = subst (IsFaultOfP n q) (sym e) tt

-- a point of Q is one of Pq, and the other way round
held-further : (n : Net) (q : PropPoint) → IsLimited n → IsHeldOfQ n q → IsHeldOfPq n q
held-further n q lim h = record { shape = h.shape; point = point_of_q-point_of_pq n (shown_prop q) lim h.point }

held-back : (n : Net) (q : PropPoint) → IsHeldOfPq n q → IsHeldOfQ n q
held-back n q h = record { shape = h.shape; point = h.point.of_q }

pub plan-further : (n : Net) (q : PropPoint) → IsLimited n → HasPlanOfQ n q → HasPlanOfPq n q
plan-further n q lim h = (held-further n q lim h.0, h.1)

pub fault-further : (n : Net) (q : PropPoint) (f : FormFault) → IsLimited n → IsFaultOfQ n q f → IsFaultOfPq n q f
fault-further n q NotAPoint lim h = λ held. h (held-back n q held)
fault-further n q TooFine lim h = (held-further n q lim h.0, h.1)
fault-further n q Memory lim h = tt
