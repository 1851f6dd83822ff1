use Rattle.std.proofs.Common.{[], ◌∷◌, ◌++◌, ◌∙◌, Result, Ok, Err, arith, subst}
use Rattle.std.specs.Prelude.{IsTrue, OnOk}
use Rattle.pool_model.specs.Network.{net_of}
use Rattle.box_tree.specs.Views.{shown_entry}
use Rattle.journal_format.specs.declared.version.Version.TheVariants.{Two}
use Rattle.journal_format.proofs.ShortPayloads.{short_payload}
use Rattle.search_core.specs.Searches.{searched}
use Rattle.recorded_run.proofs.recorder.JournalRecorder.record.Goals as goal

pub put-requires-clause-short : goal.put-requires-clause-short
put-requires-clause-short g c =
    omega (
      arith,
      short_payload (net_of c.args._net.now) Two (searched c.args._search.now) (shown_entry c.args.entry.now) c.requires.in_order,
      c.requires.takes.largest,
    )

both : {T E P Q S : Type 0} (r : Result T E) → OnOk r P → OnOk r Q → (P → Q → S) → OnOk r S
both (Ok x) p q f = f p q
both (Err e) p q f = tt

pub returns-clause-takes : goal.returns-clause-takes
returns-clause-takes g c =
    both c.put.result c.put.ensures.usable c.put.ensures.acknowledged (λ usable acknowledged. record {
      largest = c.put.ensures.same_largest ∙ c.requires.takes.largest;
      usable = usable;
      left = λ tells.
          let was = c.requires.takes.left (subst IsTrue c.put.ensures.same_disk.device.same_telling tells) in
          let put = acknowledged was.0 was.2 was.1 was.3 was.4 in
          (was.0, was.1 ++ shown_entry c.args.entry.now ∷ [], put.0, put.1, put.2);
    })
