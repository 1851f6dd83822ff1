-- What holds anyway holds where nothing is found.
use Rattle.std.proofs.Common.{Result, Ok, Err, Option, Some, None, IfOk}
use Rattle.std.specs.Prelude.{IfNone}

pub none-anyway : {X E : Type 0} (P : Type 0) (r : Result (Option X) E) → P → IfOk r (λ o. IfNone o P)
none-anyway P (Ok None) holds = holds
none-anyway P (Ok (Some x)) holds = tt
none-anyway P (Err e) holds = tt
