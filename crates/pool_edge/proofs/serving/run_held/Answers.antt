use Rattle.std.proofs.Common.{List, map, string_bytes, subst, String}
use Rattle.std.specs.declared.alloc.Global.{Global}
use Rattle.pool_edge.specs.Served.{IsRun, devices}
use Rattle.pool_edge.proofs.Outcomes.{no-words, ran-words}
use Rattle.pool_edge.proofs.serving.run_held.Goals as goal

pub run_words-requires : goal.run_words-requires
run_words-requires g c = record {
  shelf = c.requires.shelf c.args.numbers.now c.requires.held;
  disk = c.requires.disk c.args.numbers.now c.requires.held;
}

pub returns-in-Ok : goal.returns-in-Ok
returns-in-Ok g c =
    let before = devices (g.S.Shelf.told c.args.shelf.now) c.args.disk.now (g.K.Sink.taken c.args.out.now) (g.K.Sink.faults c.args.out.now) in
    let after = devices (g.S.Shelf.told c.run_words.new.shelf) c.run_words.new.disk (g.K.Sink.taken c.run_words.new.out) (g.K.Sink.faults c.run_words.new.out) in
    ran-words g.D.Disk.told c.args.words c.in-Ok.words before after c.run_words.result c.in-Ok.is
    (subst (λ (items : List (String Global)). IsRun g.D.Disk.told (map string_bytes items) before after c.run_words.result) c.deref.ensures.value c.run_words.ensures)

pub returns-in-Err : goal.returns-in-Err
returns-in-Err g c =
    no-words g.D.Disk.told c.args.words c.in-Err.fault
    (devices (g.S.Shelf.told c.args.shelf.now) c.args.disk.now (g.K.Sink.taken c.args.out.now) (g.K.Sink.faults c.args.out.now))
    c.status_of.result c.in-Err.is c.status_of.ensures
