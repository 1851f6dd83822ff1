use Rattle.std.proofs.Common.{All, subst, sym}
use Rattle.std.proofs.lemmas.List.{take_all}
use Rattle.std.proofs.lemmas.List.Elements.{All-more}
use Rattle.tight_texts.specs.Texts.{IsLeafMark}
use Rattle.tight_texts.specs.Views.{shown_leaf, shown_mark}
use Rattle.tight_commands.specs.Ranges.{IsWithin, most_rows, most_variables}
use Rattle.tight_commands.proofs.ranges.lines.Goals as goal

pub line-requires : goal.line-requires
line-requires c = subst (λ x. IsWithin most_rows most_variables (shown_mark x.mark)) (sym c.each-item.is) (c.requires c.loop-each.each-index c.each-item.result c.loop-each-test.true)

pub loop-each-preserved : goal.loop-each-preserved
loop-each-preserved c =
    All-more (λ x. IsLeafMark (shown_leaf x)) c.args.lines.now c.loop-each.each-index c.each-item.result c.loop-each-test.true c.loop-each.invariant
    (subst (λ x. IsLeafMark (shown_leaf x)) c.each-item.is c.line.ensures)

pub returns : goal.returns
returns c = subst (λ xs. All (λ x. IsLeafMark (shown_leaf x)) xs) (take_all c.loop-each.each-index c.args.lines.now c.loop-each-test.false) c.loop-each.invariant
