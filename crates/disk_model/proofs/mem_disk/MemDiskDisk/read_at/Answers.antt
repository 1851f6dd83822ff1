use Rattle.std.proofs.Common.{⊎_elim}
use Rattle.disk_calls.proofs.Calling.{on_err}
use Rattle.disk_model.proofs.mem_disk.MemDiskDisk.read_at.Goals as goal

pub returns-in_err-count-clause-only : goal.returns-in_err-count-clause-only
returns-in_err-count-clause-only c = on_err _ _ _ c.from_residual.result (⊎_elim (λ told. told) (λ no. absurd (cc)) c.in_err-count.ensures.only)
