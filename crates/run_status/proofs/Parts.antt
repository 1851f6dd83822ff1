-- What the sink took of a text that answers, in the words of two answers.
use Rattle.std.proofs.Common.{List, ℕ, Option}
use Rattle.run_status.specs.Took.{Part, whole, front, nothing, TookPart}
use Rattle.run_status.specs.declared.status.Status.{Status}

pub took-part : (A B : Status → List ℕ → Type 0) → ((status : Status) (text : List ℕ) → A status text → B status text)
    → (part : Part) (status : Status) (old new : Option (List ℕ)) → TookPart part A status old new
    → TookPart part B status old new
took-part A B to whole status old new took = (took.0, to status took.0 took.1, took.2)
took-part A B to front status old new took = (took.0, (took.1.0, to took.1.0 took.0 took.1.1), took.2)
took-part A B to nothing status old new took = took
