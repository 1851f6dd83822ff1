-- Answer after answer.
use Rattle.std.proofs.Common.{suc, [], ◌∷◌, length, drop, List, sym, subst, ◌∙◌, arith}
use Rattle.std.proofs.lemmas.List.{map-id, map-append}
use Rattle.std.proofs.lemmas.Iterator.Adapters.{YieldsList-from_vec}
use Rattle.std.proofs.lemmas.Iterator.Consumers.{YieldsList-so_far, YieldsList-turn, YieldsList-end}
use Rattle.std.proofs.lemmas.Result.{err_from_is_err_and}
use Rattle.disk_calls.proofs.Moments.{same_disk-same, same_disk-then}
use Rattle.pool_model.specs.Network.{net_of}
use Rattle.recorded_run.proofs.Recording.{split_here}
use Rattle.work_units.specs.Views.{shown_answer}
use Rattle.work_units.specs.declared.answer.Answer.{Answer}
use Rattle.gathered_run.specs.Files.{Item, an_answer, items_of_answers}
use Rattle.gathered_run.specs.Steps.{AreTaken}
use Rattle.gathered_run.proofs.Taking.{taken-none, taken-then}
use Rattle.gathered_run.proofs.Stopping.{stopped-among}
use Rattle.gathered_run.proofs.gathering.Gathering.take_answers.Goals as goal

pub loop-answer-init : goal.loop-answer-init
loop-answer-init g c = record {
  ready = c.requires.ready;
  left = c.requires.left;
  taken = taken-none (net_of c.args.net.now) c.args.self.now (g.D.Disk.told c.args.disk.now);
  same_disk = same_disk-same (g.D.Disk.told c.args.disk.now);
}

pub loop-answer-preserved : goal.loop-answer-preserved
loop-answer-preserved g c =
    let n = net_of c.args.net.now in
    let so_far = c.loop-answer.yielded in
    let one = c.in-Some.answer ∷ [] in
    let was = c.args.self.now in
    let old = g.D.Disk.told c.args.disk.now in
    let new = g.D.Disk.told c.take.new.disk in
    record {
      ready = c.in_ok-take.ensures.ready;
      left = c.in_ok-take.ensures.left;
      taken = subst (λ (items : List Item). AreTaken n items was c.take.new.self old new) (sym (map-append (λ (a : Answer). an_answer (shown_answer a)) so_far one))
          (taken-then n (items_of_answers so_far) (items_of_answers one) was c.loop-answer.self c.take.new.self old (g.D.Disk.told c.loop-answer.disk) new c.loop-answer.invariant.taken
          c.in_ok-take.ensures.taken);
      same_disk = same_disk-then old (g.D.Disk.told c.loop-answer.disk) new c.loop-answer.invariant.same_disk c.take.ensures.same_disk;
    }

pub returns-in_err-take-clause-taken : goal.returns-in_err-take-clause-taken
returns-in_err-take-clause-taken g c =
    let n = net_of c.args.net.now in
    let items = c.args.answers.items in
    let so_far = c.loop-answer.yielded in
    let x = c.in-Some.answer in
    let road = YieldsList-from_vec {s = c.into_iter-answer-iterator.result} items c.into_iter-answer-iterator.ensures.into_iter_gives.0
    (omega (arith, c.into_iter-answer-iterator.ensures.into_iter_gives.1, c.args.answers.ok.0)) in
    let front = YieldsList-so_far road so_far _ c.loop-answer.yielded_by in
    let turn = YieldsList-turn road so_far _ c.loop-answer.yielded_by _ c.next.new.self x c.in-Some.is c.next.ensures.steps in
    let parts = split_here (λ (a : Answer). an_answer (shown_answer a)) items so_far x front turn.0 turn.1 in
    let p = err_from_is_err_and c.from_residual.result c.from_residual.ensures.1 in
    rw (p.1, p.2)
    (stopped-among n (items_of_answers items) (items_of_answers so_far) (items_of_answers (x ∷ [])) (items_of_answers (drop (suc (length so_far)) items)) c.args.self.now c.loop-answer.self
    (g.D.Disk.told c.args.disk.now) (g.D.Disk.told c.loop-answer.disk) (g.D.Disk.told c.take.new.disk) c.in_err-take.field-0.0 parts c.loop-answer.invariant.taken c.in_err-take.ensures.taken)

pub returns-in_err-take-clause-same_disk : goal.returns-in_err-take-clause-same_disk
returns-in_err-take-clause-same_disk g c =
    same_disk-then (g.D.Disk.told c.args.disk.now) (g.D.Disk.told c.loop-answer.disk) (g.D.Disk.told c.take.new.disk) c.loop-answer.invariant.same_disk c.take.ensures.same_disk

pub returns-clause-taken : goal.returns-clause-taken
returns-clause-taken g c =
    let road = YieldsList-from_vec {s = c.into_iter-answer-iterator.result} c.args.answers.items c.into_iter-answer-iterator.ensures.into_iter_gives.0
    (omega (arith, c.into_iter-answer-iterator.ensures.into_iter_gives.1, c.args.answers.ok.0)) in
    let all = YieldsList-end road c.loop-answer.yielded _ c.loop-answer.yielded_by _ c.next.new.self c.in-None.is c.next.ensures.steps in
    subst (λ (l : List Answer). AreTaken (net_of c.args.net.now) (items_of_answers l) c.args.self.now c.loop-answer.self (g.D.Disk.told c.args.disk.now) (g.D.Disk.told c.loop-answer.disk))
    (sym (map-id c.loop-answer.yielded) ∙ all.0) c.loop-answer.invariant.taken
