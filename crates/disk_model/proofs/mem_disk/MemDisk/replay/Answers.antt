use Rattle.std.proofs.Common.{◌≡◌, ◌+◌, List, [], ◌∷◌, ◌++◌, take}
use Rattle.disk_model.specs.declared.step.Step.{Step}
use Rattle.disk_model.proofs.Replay.{more-of, replayed-more}
use Rattle.disk_model.proofs.mem_disk.MemDisk.replay.Goals as goal

pub loop-step-preserved : goal.loop-step-preserved
loop-step-preserved c =
    let steps : List Step = c.args.self.now.steps.items in
    let k = c.loop-step.step-index in
    let s : Step = c.step-item.result in
    let more : take (k + 1) steps ≡ take k steps ++ s ∷ [] = more-of steps c.deref.result.now c.args.now k s c.deref.ensures.value c.loop-step-test.true c.step-item.is in
    replayed-more c.args.self.now.start.items steps c.args.choice k s c.loop-step.file.items c.loop-step.image.items c.go_on.new.file.items c.go_on.new.image.items
    more c.loop-step.invariant c.in_ok-go_on.ensures
