use Rattle.disk_model.proofs.Wider.{leaves-wider}
use Rattle.disk_model.proofs.mem_calls.MemCallsFileCalls.pwrite.Goals as goal

pub returns-in-Ok-clause-crash : goal.returns-in-Ok-clause-crash
returns-in-Ok-clause-crash c = leaves-wider c.args.at _ c.args.bytes.now c.args.self.now.disk c.write_at.new.self c.write_at.ensures.crash

pub returns-in-Err-clause-crash : goal.returns-in-Err-clause-crash
returns-in-Err-clause-crash c = leaves-wider c.args.at _ c.args.bytes.now c.args.self.now.disk c.write_at.new.self c.write_at.ensures.crash
