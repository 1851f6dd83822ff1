-- What the parts of a run come to.
use Rattle.std.proofs.Common.{◌≡◌, ℕ, List, Option, Result, Ok, Err, refl, sym, subst, inl, inr, map, string_bytes, String, Vec}
use Rattle.std.specs.Prelude.{OnErr}
use Rattle.std.specs.declared.alloc.Global.{Global}
use Rattle.edge_io.specs.Counts.{Rose}
use Rattle.edge_io.specs.Writing.{Wrote}
use Rattle.disk_calls.specs.Disks.{DiskTold}
use Rattle.cli_words.specs.declared.request.WordsFault.{WordsFault}
use Rattle.run_status.specs.declared.status.Status.{Status}
use Rattle.pool_cli.specs.Ends.{words_status}
use Rattle.pool_edge.specs.Served.{Devices, IsRun, IsTold, Ran}

-- a line that was written
pub told-line : {X E : Type 0} (r : Result X E) (line : List ℕ) (before after : Option (List ℕ)) (faults more : ℕ)
    → Wrote r before line after → OnErr r (Rose faults more) → IsTold line before after faults more
told-line (Ok x) line before after faults more wrote rose = inl wrote
told-line (Err e) line before after faults more wrote rose = inr (wrote, rose)

-- words that were run
pub ran-words : {D : Type 0} (told : D → DiskTold) (words : Result (Vec (String Global) Global) WordsFault) (given : Vec (String Global) Global) (before after : Devices D)
    (status : Status) → words ≡ Ok given → IsRun told (map string_bytes given.items) before after status → Ran told words before after status
ran-words told words given before after status is ran =
    subst (λ (r : Result (Vec (String Global) Global) WordsFault). Ran told r before after status) (sym is) ran

-- words that could not be read
pub no-words : {D : Type 0} (told : D → DiskTold) (words : Result (Vec (String Global) Global) WordsFault) (fault : WordsFault) (before : Devices D)
    (status : Status) → words ≡ Err fault → status ≡ words_status fault → Ran told words before before status
no-words told words fault before status is says =
    subst (λ (r : Result (Vec (String Global) Global) WordsFault). Ran told r before before status) (sym is) (refl, says)
