use Rattle.std.proofs.Common.{◌++◌, ℕ, ℤ, List, length, get_or, arith, ap, ◌∙◌, FitsSigned, rules}
use Rattle.std.proofs.lemmas.Int.{to_z-of_z}
use Rattle.std.proofs.lemmas.List.{take_all}
use mir.Syntax.{w128}
use Rattle.number_groups.proofs.Grouped.{numbers_at-few}
use Rattle.pool_model.specs.Network.{net_of}
use Rattle.box_space.specs.Blocks.{number_of}
use Rattle.blend_network.specs.Keys.{key_of, count_of}
use Rattle.box_space.specs.Lines.{term_of, terms_at}
use Rattle.box_space.specs.Tables.{factor_of}
use Rattle.box_space.proofs.TermLists.{length-term_of}
use Rattle.box_space.proofs.Writing.{more, one-room}
use Rattle.box_space.proofs.rows.LinRow.add_all.Goals as goal

pub coef_at-coef-requires-clause-among : goal.coef_at-coef-requires-clause-among
coef_at-coef-requires-clause-among c =
    omega (arith, c.numbers_at-numbers.ensures.known c.loop-number.number-index 0 c.loop-number-test.true, c.requires.known.1)

pub number_by-requires-clause-among : goal.number_by-requires-clause-among
number_by-requires-clause-among c =
    omega (arith, c.numbers_at-numbers.ensures.known c.loop-number.number-index 0 c.loop-number-test.true, c.requires.known.1)

pub add_term-requires : goal.add_term-requires
add_term-requires c =
    let n = net_of c.args.net.now in
    let f = λ (i : ℕ). term_of (number_of n c.args.block i) (factor_of n c.args.block c.args.factor i) in
    omega (
      arith,
      one-room f c.args.self.now.terms c.loop-number.self.terms c.numbers_at-numbers.result.now c.loop-number.number-index 0 c.loop-number-test.true
          (λ i. length-term_of (number_of n c.args.block i) (factor_of n c.args.block c.args.factor i)) c.loop-number.invariant.terms,
      numbers_at-few (key_of n c.args.key) c.args.node (count_of n c.args.key),
      ap (length {A = ℕ}) c.numbers_at-numbers.ensures.numbers,
      c.requires.known.1,
      c.requires.room,
    )

pub loop-number-preserved : goal.loop-number-preserved
loop-number-preserved c =
    let n = net_of c.args.net.now in
    let i = get_or c.numbers_at-numbers.result.now c.loop-number.number-index 0 in
    let f = λ (i : ℕ). term_of (number_of n c.args.block i) (factor_of n c.args.block c.args.factor i) in
    let coef : FitsSigned w128 c.coef_at-coef.result = search rules in
    record {
      terms = more f c.args.self.now.terms c.loop-number.self.terms c.add_term.new.self.terms c.numbers_at-numbers.result.now
          c.loop-number.number-index 0 c.loop-number-test.true c.loop-number.invariant.terms
          ((simp to_z-of_z at c.add_term.ensures.terms)
          ∙ ap (λ (v : ℕ). c.loop-number.self.terms ++ term_of v c.coef_at-coef.result) c.number_by.ensures
          ∙ ap (λ (z : ℤ). c.loop-number.self.terms ++ term_of (number_of n c.args.block i) z) c.coef_at-coef.ensures);
      constant = c.add_term.ensures.constant ∙ c.loop-number.invariant.constant;
    }

pub returns-clause-terms : goal.returns-clause-terms
returns-clause-terms c =
    let n = net_of c.args.net.now in
    let written = terms_at (number_of n c.args.block) (factor_of n c.args.block c.args.factor) in
    c.loop-number.invariant.terms ∙ ap (λ (is : List ℕ). c.args.self.now.terms ++ written is) (take_all c.loop-number.number-index c.numbers_at-numbers.result.now c.loop-number-test.false)
    ∙ ap (λ (is : List ℕ). c.args.self.now.terms ++ written is) c.numbers_at-numbers.ensures.numbers
