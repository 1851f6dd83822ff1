use Rattle.std.proofs.Common.{All, sym, subst, arith, rules}
use Rattle.std.proofs.lemmas.List.{length-map}
use Rattle.std.proofs.lemmas.List.Elements.{All-map}
use Rattle.tight_texts.specs.Texts.{IsLeafMark}
use Rattle.tight_texts.specs.Views.{shown_leaf, shown_mark}
use Rattle.tight_commands.specs.Ranges.{IsWithin, most_rows, most_variables}
use Rattle.tight_commands.proofs.ranges.marks_law.Goals as goal

pub lines-requires : goal.lines-requires
lines-requires c = subst (λ xs. All (λ line. IsWithin most_rows most_variables (shown_mark line.mark)) xs) (sym c.as_slice.ensures.value) c.requires.within

pub returns : goal.returns
returns c = record {
  pivots = search rules;
  few = omega (arith, c.requires.few, length-map c.args.text.now.marks.items shown_leaf);
  marks = All-map IsLeafMark shown_leaf c.args.text.now.marks.items (subst (λ xs. All (λ x. IsLeafMark (shown_leaf x)) xs) c.as_slice.ensures.value c.lines.ensures);
  bound = c.bound.ensures;
}
