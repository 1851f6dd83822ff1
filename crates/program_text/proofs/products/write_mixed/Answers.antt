use Rattle.std.proofs.Common.{ℕ, ◌*◌, ◌<◌, ap, arith}
use Rattle.std.proofs.lemmas.Result.{err_from_is_err_and}
use Rattle.pool_model.specs.Network.{net_of}
use Rattle.program_text.specs.Lines.{mixed_line}
use Rattle.text_pieces.proofs.Each.{front-each}
use Rattle.program_text.proofs.products.write_mixed.Goals as goal

pub returns-in_err-write_mixed_at-clause-wrote : goal.returns-in_err-write_mixed_at-clause-wrote
returns-in_err-write_mixed_at-clause-wrote g c =
    let n = net_of c.args.net.now in
    let counts = c.sizes-counts.ensures.counts in
    let among : c.loop-number.number < n.outs * n.qualities = omega (
      arith,
      c.cells-number-end.ensures.value,
      ap (λ (z : ℕ). z * c.sizes-counts.result.qualities) counts.outs,
      ap (λ (z : ℕ). n.outs * z) counts.qualities,
    ) in
    let p = err_from_is_err_and c.from_residual.result c.from_residual.ensures.1 in
    rw p.1 (front-each (mixed_line n) c.loop-number.number (n.outs * n.qualities) (g.K.Sink.taken c.args.out.now) (g.K.Sink.taken c.loop-number.out)
    (g.K.Sink.taken c.write_mixed_at.new.out) among c.loop-number.invariant.0 c.in_err-write_mixed_at.ensures.wrote)
