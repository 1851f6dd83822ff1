use Rattle.disk_model.specs.Images.{only-now}
use Rattle.disk_model.proofs.Calls.{quiet_crash}
use Rattle.disk_model.proofs.mem_disk.MemDisk.count.Goals as goal

pub returns-then-not-worked-clause-crash : goal.returns-then-not-worked-clause-crash
returns-then-not-worked-clause-crash c =
    let same = c.fail.ensures.same_file in
    quiet_crash c.args.self.now c.fail.new.self (record { start = same.start; steps = same.steps; changed = same.changed })

pub returns-then-contains-clause-crash : goal.returns-then-contains-clause-crash
returns-then-contains-clause-crash c =
    let same = c.fail-then-contains.ensures.same_file in
    quiet_crash c.args.self.now c.fail-then-contains.new.self (record { start = same.start; steps = same.steps; changed = same.changed })

pub returns-clause-crash : goal.returns-clause-crash
returns-clause-crash c = λ k left. only-now c.args.self.now.start.items c.args.self.now.steps.items k left
