use Rattle.std.specs.Prelude.{IsTrue}
use Rattle.pool_cli.proofs.Admitting.{all_admitted}
use Rattle.pool_edge.proofs.serving.run_words.Goals as goal

pub run-requires : goal.run-requires
run-requires g c = λ asked asks.
    all_admitted (λ name. IsTrue ((g.S.Shelf.told c.args.shelf.now).admits name)) (λ name. IsTrue ((g.D.Disk.told c.args.disk.now).admits name)) c.requires.shelf c.requires.disk
    (g.S.Shelf.told c.args.shelf.now).files asked

pub returns : goal.returns
returns g c = record {
  took = c.run.ensures.took;
  unanswered = c.run.ensures.unanswered;
  usage = c.run.ensures.usage;
  asked = c.run.ensures.asked;
  ends = c.run.ensures.ends;
  decided = c.run.ensures.decided;
  read_fault = c.run.ensures.read_fault;
  quiet = c.run.ensures.quiet;
  write_fault = c.run.ensures.write_fault;
  disk_fault = c.run.ensures.disk_fault;
  journal = c.run.ensures.journal;
  apart = c.run.ensures.apart;
  unasked = c.run.ensures.unasked;
}
