use Rattle.std.proofs.Common.{ap, Err, ◌+◌, length, ◌∙◌}
use Rattle.disk_calls.proofs.Ranges.{put-crash, put-more, put-same, goes_on-after}
use Rattle.disk_calls.proofs.writing.write_whole.Goals as goal
use Rattle.disk_calls.proofs.writing.write_whole.Goals.{in-Ok, in-Err-Interrupted}

pub returns-in-Ok-eq0-clause-crash : goal.returns-in-Ok-eq0-clause-crash
returns-in-Ok-eq0-clause-crash g c =
    put-crash (g.S.FileCalls.told c.args.system.now) (g.S.FileCalls.told c.loop.system) (g.S.FileCalls.told c.pwrite.new.self) _ _ c.args.at c.loop.done c.args.bytes.now
    c.loop.invariant c.pwrite.ensures.crash c.pwrite.ensures.goes_on

pub returns-in-Err : goal.returns-in-Err
returns-in-Err g c =
    let start = g.S.FileCalls.told c.args.system.now in
    let before = g.S.FileCalls.told c.loop.system in
    let after = g.S.FileCalls.told c.pwrite.new.self in
    record {
      written = tt;
      short = tt;
      same_name = c.pwrite.ensures.same_name ∙ c.loop.invariant.same_name;
      crash = put-crash start before after _ _ c.args.at c.loop.done c.args.bytes.now c.loop.invariant c.pwrite.ensures.crash c.pwrite.ensures.goes_on;
      goes_on = goes_on-after start before after c.loop.invariant.goes_on c.pwrite.ensures.goes_on;
    }

pub loop-preserved : goal.loop-preserved
loop-preserved g c =
    let start = g.S.FileCalls.told c.args.system.now in
    let before = g.S.FileCalls.told c.loop.system in
    let after = g.S.FileCalls.told c.pwrite.new.self in
    let call = c.pwrite.ensures in
    elim c.match-pwrite.branch [
      | in-Ok w ↦ rw w.done-is (
          put-more start before after _ _ _ c.args.at c.loop.done w.in-Ok.n c.args.bytes.now c.loop.invariant
          w.in-Ok.ensures.part w.in-Ok.ensures.written call.same_name call.crash call.goes_on
          )
      | in-Err-Interrupted w ↦ rw w.done-is (
          put-same start before after _ _ _ c.args.at c.loop.done c.args.bytes.now c.loop.invariant
          (w.in-Err-Interrupted.ensures.broken_off (ap Err w.in-Err-Interrupted.field-0-is)) call.same_name call.crash call.goes_on
          )
    ]
