use Rattle.std.proofs.Common.{◌≡◌, ◌≤◌, ℕ, List, length, Vec, ap, arith}
use Rattle.std.specs.declared.alloc.Global.{Global}
use Rattle.std.proofs.lemmas.Result.{IfOk-weaker}
use Rattle.disk_calls.specs.Disks.{written, Torn}
use Rattle.disk_model.proofs.Landing.{torn-piece}
use Rattle.disk_model.proofs.step.land_write.Goals as goal

pub returns-in_ok-piece-in_default-clause-torn : goal.returns-in_ok-piece-in_default-clause-torn
returns-in_ok-piece-in_default-clause-torn c =
    let piece : List ℕ = c.deref.result.now in
    let short : length piece ≤ length c.args.bytes.now = omega (arith, c.in_ok-piece-in_default.ensures, ap length c.deref.ensures.value) in
    IfOk-weaker c.overlay-in_default.result (λ (v : Vec ℕ Global). v.items ≡ written c.args.file.now c.args.at piece)
    (λ (v : Vec ℕ Global). Torn c.args.at (length c.args.bytes.now) c.args.file.now v.items)
    (λ v is. torn-piece c.args.at (length c.args.bytes.now) c.args.file.now piece v.items short is) c.overlay-in_default.ensures
