-- An answer that fits: its entry is short enough for the journal, and it fits again where it is delivered.
use Rattle.std.proofs.Common.{ap, ◌∙◌, arith}
use Rattle.pool_model.specs.Network.{net_of}
use Rattle.box_tree.specs.Kept.{searched_of}
use Rattle.box_tree.specs.Views.{shown_entry}
use Rattle.journal_format.specs.declared.version.Version.TheVariants.{Two}
use Rattle.journal_format.proofs.ShortPayloads.{short_payload}
use Rattle.work_units.specs.Desks.{desk_of}
use Rattle.work_units.specs.Judging.{after_delivery}
use Rattle.work_units.specs.Views.{shown_answer}
use Rattle.gathered_run.proofs.Taking.{fits-again}
use Rattle.gathered_run.proofs.gathering.Gathering.record.Goals as goal

pub put-requires-clause-short : goal.put-requires-clause-short
put-requires-clause-short g c =
    omega (
      arith,
      short_payload (net_of c.args.net.now) Two (searched_of c.args.self.now.desk.tree.kept) (shown_entry c.args.answer.entry) c.requires.fits.1,
      c.requires.ready.largest,
    )

pub returns-clause-desk : goal.returns-clause-desk
returns-clause-desk g c =
    let d = desk_of c.args.self.now.desk in
    let a = shown_answer c.args.answer in
    c.in_ok-deliver.ensures.after
    ∙ ap (after_delivery d a) (fits-again (net_of c.args.net.now) d a c.in_ok-deliver.field-0 c.judgement_law.ensures c.requires.fits c.in_ok-deliver.ensures.judged)
