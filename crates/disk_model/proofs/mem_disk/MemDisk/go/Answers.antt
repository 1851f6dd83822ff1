use Rattle.std.proofs.Common.{List, length, [], ◌∷◌, ◌++◌, refl, sym, ◌∙◌, ap}
use Rattle.std.proofs.lemmas.List.{length_push}
use Rattle.edge_io.proofs.Counting.{grows-same}
use Rattle.disk_model.specs.Steps.{after_step, file_after}
use Rattle.disk_model.specs.Images.{file_after-push, crash-to, crash-same, time-to, synced-only}
use Rattle.disk_model.specs.MemDisks.{bytes_of}
use Rattle.disk_model.specs.declared.step.Step.{Step}
use Rattle.disk_model.proofs.mem_disk.MemDisk.go.Goals as goal

pub invariant_of-self-2 : goal.invariant_of-self-2
invariant_of-self-2 c = record {
  follows =
      c.in_ok-next.ensures.wholly refl
      ∙ ap (after_step c.args.step) (c.bytes.ensures ∙ c.args.self.now.follows)
      ∙ sym (file_after-push c.args.self.now.steps.items c.args.step c.args.self.now.start.items)
      ∙ sym (ap (λ (w : List Step). file_after w c.args.self.now.start.items) c.in_ok-push.ensures.items);
}

pub returns-clause-crash : goal.returns-clause-crash
returns-clause-crash c = crash-to c.args.self.now.start.items c.args.self.now.steps.items c.push.new.self.items c.args.step c.in_ok-push.ensures.items

pub returns-clause-goes_on : goal.returns-clause-goes_on
returns-clause-goes_on c =
    let lasts = time-to c.args.self.now.start.items c.args.self.now.steps.items c.push.new.self.items c.args.step c.in_ok-push.ensures.items in
    record {
      time = record {
        later = lasts.later;
        nothing_else = lasts.nothing_else;
        keeps = lasts.keeps;
        nothing_earlier = lasts.nothing_earlier;
        keeps_past = lasts.keeps_past;
      };
      same_disk = record {
        device = record { faults_grow = grows-same c.args.self.now.faults; same_telling = refl; same_names = refl };
        same_attached = refl;
      };
    }

pub returns-clause-durable : goal.returns-clause-durable
returns-clause-durable c = λ is.
    synced-only c.args.self.now.start.items c.args.self.now.steps.items c.push.new.self.items (bytes_of c.args.self.now)
    (c.in_ok-push.ensures.items ∙ ap (λ (s : Step). c.args.self.now.steps.items ++ s ∷ []) is) c.args.self.now.follows

pub returns-clause-next_moment : goal.returns-clause-next_moment
returns-clause-next_moment c = ap length c.in_ok-push.ensures.items ∙ length_push c.args.self.now.steps.items c.args.step

pub returns-in_err-next-clause-crash : goal.returns-in_err-next-clause-crash
returns-in_err-next-clause-crash c = crash-same c.args.self.now.start.items c.args.self.now.steps.items c.args.self.now.steps.items c.args.step refl
