use Rattle.std.proofs.Common.{Result, Ok, Err, arith}
use Rattle.std.specs.Prelude.{OnErr}
use Rattle.edge_io.proofs.Counting.{grows-same, grows-then, rose-behind}
use Rattle.file_numbers.proofs.Held.{kept-all, kept-one, not_below, one_more}
use Rattle.file_numbers.proofs.numbers.hold_streams.Goals as goal

on_err : {T E : Type 0} (P : Type 0) (r : Result T E) → P → OnErr r P
on_err P (Ok x) p = tt
on_err P (Err e) p = p

pub loop-stream-init : goal.loop-stream-init
loop-stream-init g c = record {
  used = λ tells n below. absurd (omega arith);
  kept = λ tells n was. was;
  faults = λ tells. grows-same (g.N.NumberCalls.faults c.args.numbers.now);
}

pub loop-stream-preserved : goal.loop-stream-preserved
loop-stream-preserved g c =
    let was = g.N.NumberCalls.used c.loop-stream.numbers in
    let now = g.N.NumberCalls.used c.open_null.new.self in
    record {
      used = λ tells. one_more c.loop-stream._stream was now (c.in_ok-open_null.ensures.lowest tells) (c.loop-stream.invariant.used tells);
      kept = λ tells n before. kept-one was now (c.in_ok-open_null.ensures.lowest tells) n (c.loop-stream.invariant.kept tells n before);
      faults = λ tells. grows-then (g.N.NumberCalls.faults c.args.numbers.now) (g.N.NumberCalls.faults c.loop-stream.numbers) (g.N.NumberCalls.faults c.open_null.new.self)
          (c.loop-stream.invariant.faults tells) (c.open_null.ensures.faults_grow tells);
    }

pub returns-in_err-open_null-clause-kept : goal.returns-in_err-open_null-clause-kept
returns-in_err-open_null-clause-kept g c = λ tells n before.
    kept-all (g.N.NumberCalls.used c.loop-stream.numbers) (g.N.NumberCalls.used c.open_null.new.self) (c.in_err-open_null.ensures.unchanged tells) n
    (c.loop-stream.invariant.kept tells n before)

pub returns-in_err-open_null-clause-failed : goal.returns-in_err-open_null-clause-failed
returns-in_err-open_null-clause-failed g c = on_err _ c.from_residual.result (λ tells.
    rose-behind (g.N.NumberCalls.faults c.args.numbers.now) (g.N.NumberCalls.faults c.loop-stream.numbers) (g.N.NumberCalls.faults c.open_null.new.self)
    (c.loop-stream.invariant.faults tells) (c.in_err-open_null.ensures.failed tells))

pub returns-clause-held : goal.returns-clause-held
returns-clause-held g c = λ tells n below. c.loop-stream.invariant.used tells n (omega arith)

pub returns-clause-kept : goal.returns-clause-kept
returns-clause-kept g c = λ tells n before. c.loop-stream.invariant.kept tells n before

pub returns-clause-later : goal.returns-clause-later
returns-clause-later g c = λ tells after opened.
    not_below 3 (g.N.NumberCalls.used c.loop-stream.numbers) after opened (λ n below. c.loop-stream.invariant.used tells n (omega arith))
