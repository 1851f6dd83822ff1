use Rattle.std.proofs.Common.{ap, Err, ◌-◌, length, rules, arith}
use Rattle.disk_calls.proofs.Ranges.{filled-more, filled-same}
use Rattle.disk_calls.proofs.reading.read_whole.Goals as goal
use Rattle.disk_calls.proofs.reading.read_whole.Goals.{in-Ok, in-Err-Interrupted}

pub loop-preserved : goal.loop-preserved
loop-preserved g c =
    let told = g.S.FileCalls.told in
    let start = told c.args.system.now in
    let before = told c.loop.system in
    let after = told c.pread.new.self in
    let call = c.pread.ensures in
    elim c.match-pread.branch [
      | in-Ok w ↦ rw w.done-is (
          filled-more start before after _ _ _ c.args.at c.loop.done w.in-Ok.n c.args.into.now c.loop.into c.pread.new.into c.loop.invariant (search rules)
          w.in-Ok.ensures.part w.in-Ok.ensures.bytes w.in-Ok.ensures.same call.same_name call.crash call.goes_on
          )
      | in-Err-Interrupted w ↦ rw w.done-is (
          filled-same start before after _ _ _ c.args.at c.loop.done c.args.into.now c.loop.into c.pread.new.into c.loop.invariant (search rules)
          (w.in-Err-Interrupted.ensures.broken_off (ap Err w.in-Err-Interrupted.field-0-is)) call.same_name call.crash call.goes_on
          )
    ]
