use Rattle.disk_model.proofs.Calls.{among-same}
use Rattle.disk_model.proofs.mem_disk.MemDisk.settle.Goals as goal

pub returns-clause-crash : goal.returns-clause-crash
returns-clause-crash c = among-same c.args.self.now c.go.new.self c.go.ensures.crash
