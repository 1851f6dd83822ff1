use Rattle.std.proofs.Common.{All, arith, subst, sym}
use Rattle.std.proofs.lemmas.List.{length-map, take_all}
use Rattle.std.proofs.lemmas.List.Elements.{All-map, All-more}
use Rattle.box_tree.specs.Views.{shown_entry}
use Rattle.work_units.specs.Views.{shown_answer}
use Rattle.job_texts.specs.Texts.{IsWritten}
use Rattle.job_commands.specs.Ranges.{SplitsWithFew}
use Rattle.job_commands.proofs.ranges.answers_law.Goals as goal

pub answer-requires : goal.answer-requires
answer-requires c = subst (λ x. SplitsWithFew (shown_entry x.entry)) (sym c.each-item.is) (c.requires.splits c.loop-each.each-index c.each-item.result c.loop-each-test.true)

pub loop-each-preserved : goal.loop-each-preserved
loop-each-preserved c =
    All-more (λ x. IsWritten (shown_answer x)) c.args.answers.now c.loop-each.each-index c.each-item.result c.loop-each-test.true c.loop-each.invariant
    (subst (λ x. IsWritten (shown_answer x)) c.each-item.is record { number = c.answer.ensures.number; entry = c.answer.ensures.entry })

pub returns : goal.returns
returns c = record {
  few = omega (arith, c.requires.few, length-map c.args.answers.now shown_answer);
  each = All-map IsWritten shown_answer c.args.answers.now (subst (λ xs. All (λ x. IsWritten (shown_answer x)) xs) (take_all c.loop-each.each-index c.args.answers.now c.loop-each-test.false) c.loop-each.invariant);
}
