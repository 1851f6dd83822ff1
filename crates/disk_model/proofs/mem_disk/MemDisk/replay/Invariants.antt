use Rattle.disk_model.specs.Steps.{Replayed}
use Rattle.disk_model.proofs.mem_disk.MemDisk.replay.Given as goal

abbrev pub invariant-loop-step : goal.invariant-loop-step
invariant-loop-step l = Replayed l.self.start.items l.self.steps.items l.choice l.step-index l.file.items l.image.items
