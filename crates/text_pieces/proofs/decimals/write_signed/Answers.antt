use Rattle.std.proofs.Common.{◌/◌, ◌%◌, ◌++◌, codes, decimal}
use Rattle.std.proofs.lemmas.Result.{err_from_is_err_and}
use Rattle.edge_io.proofs.Writes.{front-first, front-second, front-third, wrote-four}
use Rattle.pool_model.specs.Quantity.{sign, fixed}
use Rattle.text_pieces.proofs.decimals.write_signed.Goals as goal

pub returns-in_err-write_whole-clause-wrote : goal.returns-in_err-write_whole-clause-wrote
returns-in_err-write_whole-clause-wrote g c =
    let s = sign c.args.negative in
    let u = decimal (c.args.size / 1000000) in
    let d = fixed 6 (c.args.size % 1000000) in
    let p = err_from_is_err_and c.from_residual.result c.from_residual.ensures.1 in
    rw p.1 (front-first (g.K.Sink.taken c.args.out.now) s (u ++ (codes "." ++ d)) (g.K.Sink.taken c.write_whole.new.out) (rw c.minus.ensures at c.in_err-write_whole.ensures.wrote))

pub returns-in_err-write_units-clause-wrote : goal.returns-in_err-write_units-clause-wrote
returns-in_err-write_units-clause-wrote g c =
    let s = sign c.args.negative in
    let u = decimal (c.args.size / 1000000) in
    let d = fixed 6 (c.args.size % 1000000) in
    let p = err_from_is_err_and c.from_residual-in_err-write_units.result c.from_residual-in_err-write_units.ensures.1 in
    rw p.1 (front-second (g.K.Sink.taken c.args.out.now) s (g.K.Sink.taken c.write_whole.new.out) u (codes "." ++ d) (g.K.Sink.taken c.write_units.new.out)
    (rw c.minus.ensures at c.in_ok-write_whole.ensures.wrote) c.in_err-write_units.ensures.wrote)

pub returns-in_err-write_whole-2-clause-wrote : goal.returns-in_err-write_whole-2-clause-wrote
returns-in_err-write_whole-2-clause-wrote g c =
    let s = sign c.args.negative in
    let u = decimal (c.args.size / 1000000) in
    let d = fixed 6 (c.args.size % 1000000) in
    let p = err_from_is_err_and c.from_residual-in_err-write_whole-2.result c.from_residual-in_err-write_whole-2.ensures.1 in
    rw p.1 (front-third (g.K.Sink.taken c.args.out.now) s (g.K.Sink.taken c.write_whole.new.out) u (g.K.Sink.taken c.write_units.new.out) (codes ".") d (g.K.Sink.taken c.write_whole-2.new.out)
    (rw c.minus.ensures at c.in_ok-write_whole.ensures.wrote) c.in_ok-write_units.ensures.wrote c.in_err-write_whole-2.ensures.wrote)

pub returns-clause-wrote : goal.returns-clause-wrote
returns-clause-wrote g c =
    let s = sign c.args.negative in
    let u = decimal (c.args.size / 1000000) in
    let d = fixed 6 (c.args.size % 1000000) in
    wrote-four c.write_whole-3.result (g.K.Sink.taken c.args.out.now) s (g.K.Sink.taken c.write_whole.new.out) u
    (g.K.Sink.taken c.write_units.new.out) (codes ".") (g.K.Sink.taken c.write_whole-2.new.out) d (g.K.Sink.taken c.write_whole-3.new.out)
    (rw c.minus.ensures at c.in_ok-write_whole.ensures.wrote) c.in_ok-write_units.ensures.wrote c.in_ok-write_whole-2.ensures.wrote
    (rw c.six_digits.ensures at c.write_whole-3.ensures.wrote)
