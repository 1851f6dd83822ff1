-- The answer on the rest of a file.
use Rattle.std.proofs.Common.{inr, refl}
use Rattle.std.proofs.lemmas.Result.{err_from_is_err_and}
use Rattle.pool_model.specs.Network.{net_of}
use Rattle.cert_checker.proofs.Streaming.{answer-memory, streamed}
use Rattle.cert_checker.proofs.stream.check_stream.Goals as goal

pub returns-in_err-reader-clause-checked : goal.returns-in_err-reader-clause-checked
returns-in_err-reader-clause-checked g c =
    let r = err_from_is_err_and c.from_residual.result c.from_residual.ensures.1 in
    rw (r.1, r.2) (answer-memory (net_of c.args.net.now) c.args.most (g.S.Shelf.told c.args.shelf.now).rest)

pub returns-in_err-reader-clause-valid : goal.returns-in_err-reader-clause-valid
returns-in_err-reader-clause-valid g c =
    let r = err_from_is_err_and c.from_residual.result c.from_residual.ensures.1 in
    rw (r.1, r.2) (λ bytes cert told short spelled valid. inr refl)

pub returns-in_err-reader-clause-too_long : goal.returns-in_err-reader-clause-too_long
returns-in_err-reader-clause-too_long g c =
    let r = err_from_is_err_and c.from_residual.result c.from_residual.ensures.1 in
    rw (r.1, r.2) (λ e. absurd cc)

pub returns-in_err-reader-clause-read : goal.returns-in_err-reader-clause-read
returns-in_err-reader-clause-read g c =
    let r = err_from_is_err_and c.from_residual.result c.from_residual.ensures.1 in
    rw (r.1, r.2) (λ e. absurd cc)

pub returns-in_err-reader-clause-quiet : goal.returns-in_err-reader-clause-quiet
returns-in_err-reader-clause-quiet g c = inr refl

pub returns-in_err-reader-clause-no_memory_refusal : goal.returns-in_err-reader-clause-no_memory_refusal
returns-in_err-reader-clause-no_memory_refusal g c =
    let r = err_from_is_err_and c.from_residual.result c.from_residual.ensures.1 in
    rw (r.1, r.2) (λ e. cc)

pub answer-requires : goal.answer-requires
answer-requires g c = (c.args.most, c.in_ok-reader.ensures)

pub returns-clause-checked : goal.returns-clause-checked
returns-clause-checked g c = let is = c.answer.ensures c.args.most c.in_ok-reader.ensures in is.checked

pub returns-clause-valid : goal.returns-clause-valid
returns-clause-valid g c = let is = c.answer.ensures c.args.most c.in_ok-reader.ensures in λ bytes cert told short spelled valid. streamed (net_of c.args.net.now) c.args.most
    (g.S.Shelf.told c.args.shelf.now).rest bytes cert c.answer.result is.checked told short spelled valid is.no_memory_refusal

pub returns-clause-too_long : goal.returns-clause-too_long
returns-clause-too_long g c = let is = c.answer.ensures c.args.most c.in_ok-reader.ensures in is.too_long

pub returns-clause-read : goal.returns-clause-read
returns-clause-read g c = let is = c.answer.ensures c.args.most c.in_ok-reader.ensures in is.read

pub returns-clause-quiet : goal.returns-clause-quiet
returns-clause-quiet g c = let is = c.answer.ensures c.args.most c.in_ok-reader.ensures in is.quiet

pub returns-clause-no_memory_refusal : goal.returns-clause-no_memory_refusal
returns-clause-no_memory_refusal g c = let is = c.answer.ensures c.args.most c.in_ok-reader.ensures in is.no_memory_refusal

pub returns-clause-kept : goal.returns-clause-kept
returns-clause-kept g c = let is = c.answer.ensures c.args.most c.in_ok-reader.ensures in is.kept
