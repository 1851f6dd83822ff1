-- What the readers of lists, and those of all of the bytes, come to.
use Rattle.std.proofs.Common.{◌≡◌, Bool, ℕ, ◌+◌, ◌-◌, ◌<◌, List, Result, Ok, Err, sym, ◌∙◌}
use Rattle.std.specs.Prelude.{IfOk, IfErr}
use Rattle.cert_text.specs.Reading.{At, whole, each_at}
use Rattle.cert_text.proofs.Each.{with_front, each-stops}
use Rattle.cert_text.proofs.Laws.{Reads, ok_is, whole_found, whole_again, whole_fault}
use Rattle.cert_text.specs.declared.fault.Halt.{Halt}
use Rattle.cert_text.specs.declared.fault.Halt.TheVariants as halts
use Rattle.cert_text.specs.declared.fault.ReadFault.{ReadFault}
use Rattle.cert_text.specs.declared.fault.ReadFault.TheVariants.{Memory, Line}
use Rattle.cert_text.specs.Results.{IsReadAs, IsFaultIn, Halts, Comes}

-- an item of a list stops
pub each-halts : {X : Type 0} (r : ℕ → At → Result (X × At) ℕ) (n i : ℕ) (front : List X) (a : At) (e : Halt) (broken : Bool)
    (total : Result (List X × At) ℕ) → i < n → Halts e broken (r (n - (i + 1)) a)
    → with_front front (each_at r (n - i) a) ≡ total → Halts e broken total
each-halts r n i front a halts.Memory broken total lt h k = tt
each-halts r n i front a (halts.Read e) broken total lt h k = each-stops r n i front a e broken total lt h k

-- ---- all of the bytes

pub is_found : {X : Type 0} (Y : Type 0) (Is : Y → Type 0) (text : Y → List ℕ) (read : At → Result (Y × At) ℕ) → Reads Y Is text read
    → (view : X → Y) (bytes : List ℕ) (r : Result X ReadFault) → Comes view r (whole read bytes) → IfOk r (λ x. Is (view x) × (bytes ≡ text (view x)))
is_found Y Is text read reads view bytes (Ok x) h = whole_found Y Is text read reads bytes (view x) h
is_found Y Is text read reads view bytes (Err e) h = tt

pub is_only : {X : Type 0} (Y : Type 0) (Is : Y → Type 0) (text : Y → List ℕ) (read : At → Result (Y × At) ℕ) → Reads Y Is text read
    → (view : X → Y) (bytes : List ℕ) (r : Result X ReadFault) → Comes view r (whole read bytes) → (y : Y) → Is y → bytes ≡ text y → IsReadAs view y r
is_only Y Is text read reads view bytes (Ok x) h y is e = ok_is (view x) y (sym h ∙ whole_again Y Is text read reads bytes y is e)
is_only Y Is text read reads view bytes (Err Memory) h y is e = tt
is_only Y Is text read reads view bytes (Err (Line n)) h y is e = absurd (let k = whole_again Y Is text read reads bytes y is e in cc)

pub is_fault : {X : Type 0} (Y : Type 0) (Is : Y → Type 0) (text : Y → List ℕ) (read : At → Result (Y × At) ℕ) → Reads Y Is text read
    → (view : X → Y) (bytes : List ℕ) (r : Result X ReadFault) → Comes view r (whole read bytes) → IfErr r (IsFaultIn Y Is text bytes)
is_fault Y Is text read reads view bytes (Ok x) h = tt
is_fault Y Is text read reads view bytes (Err Memory) h = tt
is_fault Y Is text read reads view bytes (Err (Line n)) h = whole_fault Y Is text read reads bytes n h
