use Rattle.std.proofs.Common.{◌≡◌, drop}
use Rattle.shelf_calls.specs.Files.{file_of}
use Rattle.shelf_calls.specs.MemFiles.{files_of}
use Rattle.shelf_calls.proofs.mem_shelf.find_file.Given as goal

abbrev pub invariant-loop-held : goal.invariant-loop-held
invariant-loop-held l = file_of (files_of (drop l.held-index l.files)) l.name ≡ file_of (files_of l.files) l.name
