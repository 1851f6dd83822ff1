use Rattle.std.proofs.Common.{length}
use Rattle.disk_calls.proofs.Calling.{torn-same}
use Rattle.disk_calls.proofs.system_file.SystemFileFileCalls.pwrite.Goals as goal

pub returns-in_err-file-clause-crash : goal.returns-in_err-file-clause-crash
returns-in_err-file-clause-crash g c = λ image left. (image, tt, torn-same c.args.at (length c.args.bytes.now) image)

pub returns-in_err-seek-clause-crash : goal.returns-in_err-seek-clause-crash
returns-in_err-seek-clause-crash g c = λ image left. (image, tt, torn-same c.args.at (length c.args.bytes.now) image)

pub returns-in_err-write-clause-crash : goal.returns-in_err-write-clause-crash
returns-in_err-write-clause-crash g c = λ image left. (image, tt, torn-same c.args.at (length c.args.bytes.now) image)

pub returns-clause-crash : goal.returns-clause-crash
returns-clause-crash g c = λ image left. (image, tt, torn-same c.args.at (length c.args.bytes.now) image)
