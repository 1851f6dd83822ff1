use Rattle.std.proofs.Common.{ap, ◌∙◌}
use Rattle.std.specs.Prelude.{string_bytes}
use Rattle.std.proofs.lemmas.Result.{err_from_is_err_and}
use Rattle.shelf_calls.proofs.Keeping.{keeps-then}
use Rattle.gather_command.proofs.Saying.{name-at, ok-quiet, say-step, unsaid-from}
use Rattle.gather_command.proofs.answers.answers_under.Goals as goal

pub loop-name-preserved : goal.loop-name-preserved
loop-name-preserved g c = (
  say-step (g.S.Shelf.told c.args.shelf.now).files (g.S.Shelf.told c.loop-name.shelf).files string_bytes c.args.names.now c.loop-name.name-index c.name-item.result c.loop-name.files.items
      c.push.new.self.items c.in_ok-file.file c.as_str.result.now c.loop-name-test.true (c.as_str.ensures.value ∙ ap string_bytes c.name-item.is) c.loop-name.invariant.2.same_files c.loop-name.invariant.0
      c.in_ok-file.ensures.says c.in_ok-push.ensures.items,
  ok-quiet c.in_ok-file.ensures.quiet ∙ c.loop-name.invariant.1,
  keeps-then c.loop-name.invariant.2 c.answers_in.ensures.kept,
)

pub returns-in_err-file-clause-unsaid : goal.returns-in_err-file-clause-unsaid
returns-in_err-file-clause-unsaid g c =
    let p = err_from_is_err_and c.from_residual.result c.from_residual.ensures.1 in
    rw (p.1, p.2) (record {
      name = c.as_str.result.now;
      one = name-at string_bytes c.args.names.now c.loop-name.name-index c.name-item.result c.as_str.result.now c.loop-name-test.true
          (c.as_str.ensures.value ∙ ap string_bytes c.name-item.is);
      unsaid = unsaid-from c.as_str.result.now (g.S.Shelf.told c.args.shelf.now) (g.S.Shelf.told c.loop-name.shelf) (g.S.Shelf.told c.answers_in.new.shelf) c.in_err-file.field-0.0
          c.loop-name.invariant.2 c.in_err-file.ensures.unsaid;
    })

pub returns-in_err-push-clause-unsaid : goal.returns-in_err-push-clause-unsaid
returns-in_err-push-clause-unsaid g c =
    let p = err_from_is_err_and c.from_residual-in_err-push.result c.from_residual-in_err-push.ensures.1 in
    rw (p.1, p.2) (record {
      name = c.as_str.result.now;
      one = name-at string_bytes c.args.names.now c.loop-name.name-index c.name-item.result c.as_str.result.now c.loop-name-test.true
          (c.as_str.ensures.value ∙ ap string_bytes c.name-item.is);
      unsaid = tt;
    })
