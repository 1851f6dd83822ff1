use Rattle.disk_calls.proofs.Calling.{shortened-same}
use Rattle.disk_model.proofs.wild_disk.WildDiskDisk.cut.Goals as goal

pub returns-clause-crash : goal.returns-clause-crash
returns-clause-crash c = λ image left. (image, tt, shortened-same c.args.to image)
