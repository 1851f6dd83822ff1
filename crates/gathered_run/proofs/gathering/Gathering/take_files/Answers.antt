-- File after file.
use Rattle.std.proofs.Common.{suc, length, drop, List, refl, sym, subst, ◌∙◌, arith}
use Rattle.std.proofs.lemmas.List.{map-id, length_push}
use Rattle.std.proofs.lemmas.Iterator.Adapters.{YieldsList-from_vec}
use Rattle.std.proofs.lemmas.Iterator.Consumers.{YieldsList-so_far, YieldsList-turn, YieldsList-end}
use Rattle.std.proofs.lemmas.Result.{err_from_is_err_and}
use Rattle.disk_calls.proofs.Moments.{same_disk-same, same_disk-then}
use Rattle.pool_model.specs.Network.{net_of}
use Rattle.gathered_run.specs.Files.{Item, items_in, items_from, items_of}
use Rattle.gathered_run.specs.Steps.{AreTaken}
use Rattle.gathered_run.specs.declared.files.AnswersFile.{AnswersFile}
use Rattle.gathered_run.proofs.Delivered.{files-here, items-one, items-parts}
use Rattle.gathered_run.proofs.Taking.{taken-none, taken-then}
use Rattle.gathered_run.proofs.Stopping.{stopped-among}
use Rattle.gathered_run.proofs.gathering.Gathering.take_files.Goals as goal

pub loop-file-init : goal.loop-file-init
loop-file-init g c = record {
  ready = c.requires.ready;
  left = c.requires.left;
  taken = taken-none (net_of c.args.net.now) c.args.self.now (g.D.Disk.told c.args.disk.now);
  number = refl;
  same_disk = same_disk-same (g.D.Disk.told c.args.disk.now);
}

pub loop-file-preserved : goal.loop-file-preserved
loop-file-preserved g c =
    let n = net_of c.args.net.now in
    let so_far = c.loop-file.yielded in
    let x = c.in-Some.file in
    let was = c.args.self.now in
    let old = g.D.Disk.told c.args.disk.now in
    let new = g.D.Disk.told c.take_file.new.disk in
    record {
      ready = c.in_ok-take_file.ensures.ready;
      left = c.in_ok-take_file.ensures.left;
      taken = subst (λ (items : List Item). AreTaken n items was c.take_file.new.self old new) (sym (items-one so_far x c.loop-file.number c.loop-file.invariant.number))
          (taken-then n (items_of so_far) (items_in c.loop-file.number x) was c.loop-file.self c.take_file.new.self old (g.D.Disk.told c.loop-file.disk) new c.loop-file.invariant.taken
          c.in_ok-take_file.ensures.taken);
      number = omega (arith, c.loop-file.invariant.number, length_push so_far x);
      same_disk = same_disk-then old (g.D.Disk.told c.loop-file.disk) new c.loop-file.invariant.same_disk c.take_file.ensures.same_disk;
    }

pub returns-in_err-take_file-clause-taken : goal.returns-in_err-take_file-clause-taken
returns-in_err-take_file-clause-taken g c =
    let n = net_of c.args.net.now in
    let files = c.args.files.items in
    let so_far = c.loop-file.yielded in
    let x = c.in-Some.file in
    let road = YieldsList-from_vec {s = c.into_iter-file-iterator.result} files c.into_iter-file-iterator.ensures.into_iter_gives.0
    (omega (arith, c.into_iter-file-iterator.ensures.into_iter_gives.1, c.args.files.ok.0)) in
    let front = YieldsList-so_far road so_far _ c.loop-file.yielded_by in
    let turn = YieldsList-turn road so_far _ c.loop-file.yielded_by _ c.next.new.self x c.in-Some.is c.next.ensures.steps in
    let rest = drop (suc (length so_far)) files in
    let number = c.loop-file.number in
    let parts = items-parts files so_far x rest number (files-here files so_far x front turn.0 turn.1) c.loop-file.invariant.number in
    let p = err_from_is_err_and c.from_residual.result c.from_residual.ensures.1 in
    rw (p.1, p.2)
    (stopped-among n (items_of files) (items_of so_far) (items_in number x) (items_from (suc number) rest) c.args.self.now c.loop-file.self
    (g.D.Disk.told c.args.disk.now) (g.D.Disk.told c.loop-file.disk) (g.D.Disk.told c.take_file.new.disk) c.in_err-take_file.field-0.0 parts c.loop-file.invariant.taken
    c.in_err-take_file.ensures.taken)

pub returns-in_err-take_file-clause-same_disk : goal.returns-in_err-take_file-clause-same_disk
returns-in_err-take_file-clause-same_disk g c =
    same_disk-then (g.D.Disk.told c.args.disk.now) (g.D.Disk.told c.loop-file.disk) (g.D.Disk.told c.take_file.new.disk) c.loop-file.invariant.same_disk c.take_file.ensures.same_disk

pub returns-clause-taken : goal.returns-clause-taken
returns-clause-taken g c =
    let road = YieldsList-from_vec {s = c.into_iter-file-iterator.result} c.args.files.items c.into_iter-file-iterator.ensures.into_iter_gives.0
    (omega (arith, c.into_iter-file-iterator.ensures.into_iter_gives.1, c.args.files.ok.0)) in
    let all = YieldsList-end road c.loop-file.yielded _ c.loop-file.yielded_by _ c.next.new.self c.in-None.is c.next.ensures.steps in
    subst (λ (l : List AnswersFile). AreTaken (net_of c.args.net.now) (items_of l) c.args.self.now c.loop-file.self (g.D.Disk.told c.args.disk.now) (g.D.Disk.told c.loop-file.disk))
    (sym (map-id c.loop-file.yielded) ∙ all.0) c.loop-file.invariant.taken
