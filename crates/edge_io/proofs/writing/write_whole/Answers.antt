use Rattle.std.proofs.Common.{◌≡◌, ℕ, ◌-◌, List, length, take, drop, ◌∙◌, arith, length-drop}
use Rattle.std.proofs.lemmas.List.{take_all}
use Rattle.std.proofs.lemmas.Result.{err_from_is_err_and}
use Rattle.edge_io.proofs.Counting.{grows-then}
use Rattle.edge_io.proofs.Writes.{behind-take, front-take}
use Rattle.edge_io.proofs.writing.write_whole.Goals as goal

-- nothing was taken at the fault, so what was taken before is the front
pub returns-in_err-done-clause-wrote : goal.returns-in_err-done-clause-wrote
returns-in_err-done-clause-wrote g c =
    let p = err_from_is_err_and c.from_residual.result c.from_residual.ensures.1 in
    rw p.1 (front-take (g.K.Sink.taken c.args.out.now) (g.K.Sink.taken c.write.new.self) c.args.bytes.now c.loop-done.done
    (c.in_err-done.ensures.unchanged ∙ c.loop-done.invariant.added))

pub loop-done-preserved : goal.loop-done-preserved
loop-done-preserved g c =
    let bytes : List ℕ = c.args.bytes.now in
    let left : length (drop c.loop-done.done bytes) ≡ length bytes - c.loop-done.done = length-drop c.loop-done.done bytes in
    let whole : take (length bytes - c.loop-done.done) (drop c.loop-done.done bytes) ≡ drop c.loop-done.done bytes =
    take_all (length bytes - c.loop-done.done) (drop c.loop-done.done bytes) (omega arith) in
    record {
      part = omega (arith, (rw whole at c.in_ok-done.ensures.part));
      added = (rw whole at c.in_ok-done.ensures.appended)
          ∙ behind-take (g.K.Sink.taken c.args.out.now) (g.K.Sink.taken c.loop-done.out) bytes c.loop-done.done c.in_ok-done.field-0 c.loop-done.invariant.added;
      grows = grows-then _ _ _ c.loop-done.invariant.grows c.in_ok-done.ensures.faults_grow;
    }
