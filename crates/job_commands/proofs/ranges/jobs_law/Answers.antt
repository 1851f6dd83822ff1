use Rattle.std.proofs.Common.{All, subst, rules, arith}
use Rattle.std.proofs.lemmas.List.{length-map}
use Rattle.std.proofs.lemmas.List.Elements.{All-map}
use Rattle.box_space.specs.Views.{shown_split}
use Rattle.cert_writing.specs.Cert.{IsSplitInRange}
use Rattle.job_texts.specs.Texts.{IsJobInRange}
use Rattle.job_commands.proofs.ranges.jobs_law.Goals as goal

pub returns : goal.returns
returns c = record {
  seven = search rules;
  counts = c.numbers.ensures;
  few_splits = omega (arith, c.requires.splits, length-map c.args.text.now.splits.items shown_split);
  splits = All-map IsSplitInRange shown_split c.args.text.now.splits.items (subst (λ xs. All (λ x. IsSplitInRange (shown_split x)) xs) c.as_slice.ensures.value c.splits.ensures);
  few_jobs = c.requires.jobs;
  jobs = subst (λ xs. All IsJobInRange xs) c.as_slice-2.ensures.value c.jobs.ensures;
}
