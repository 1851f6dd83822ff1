use Rattle.disk_calls.proofs.Calling.{shortened-same}
use Rattle.disk_calls.proofs.system_file.SystemFileFileCalls.ftruncate.Goals as goal

pub returns-in_err-opened-clause-crash : goal.returns-in_err-opened-clause-crash
returns-in_err-opened-clause-crash g c = λ image left. (image, tt, shortened-same c.args.to image)

pub returns-in_err-set_len-clause-crash : goal.returns-in_err-set_len-clause-crash
returns-in_err-set_len-clause-crash g c = λ image left. (image, tt, shortened-same c.args.to image)

pub returns-clause-crash : goal.returns-clause-crash
returns-clause-crash g c = λ image left. (image, tt, shortened-same c.args.to image)
