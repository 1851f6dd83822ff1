use Rattle.std.proofs.Common.{option_map, ℤ, FitsSigned, w64, to_z-of_z, refl, subst, rules}
use Rattle.std.proofs.lemmas.Result.{err_from_is_err_and}
use Rattle.pool_model.specs.Network.{net_of}
use Rattle.row_model.specs.Boxes.{left_of, right_of}
use Rattle.row_model.specs.Trees.{box_of}
use Rattle.box_space.specs.Views.{shown_proof, shown_split, AreHalves}
use Rattle.box_space.proofs.Halving.{left-half, right-half}
use Rattle.box_tree.specs.Kept.{searched_of}
use Rattle.box_tree.specs.declared.entry.EntryFault.TheVariants.{BadProof}
use Rattle.box_tree.proofs.Refusals.{bad-split, bad-left, bad-right}
use Rattle.work_units.proofs.judging.try_split.Goals as goal

pub returns-in_err-judge_cut-clause-fault : goal.returns-in_err-judge_cut-clause-fault
returns-in_err-judge_cut-clause-fault c =
    let p = err_from_is_err_and c.from_residual-in_err-judge_cut.result c.from_residual-in_err-judge_cut.ensures.1 in
    rw (p.1, p.2) (λ _. bad-split (net_of c.args.net.now) (searched_of c.args.tree.now.kept) (shown_split c.args.split.now)
    (option_map shown_proof c.args.left.now) (option_map shown_proof c.args.right.now) c.in_err-judge_cut.field-0.0 c.in_err-judge_cut.ensures.fault)

pub judge_half-requires-clause-ends : goal.judge_half-requires-clause-ends
judge_half-requires-clause-ends c = (c.in_ok-left_ends.ensures.proper (net_of c.args.net.now) c.in_ok-ends.ensures.proper).0

pub judge_half-requires-2-clause-ends : goal.judge_half-requires-2-clause-ends
judge_half-requires-2-clause-ends c = (c.in_ok-left_ends.ensures.proper (net_of c.args.net.now) c.in_ok-ends.ensures.proper).1

pub returns-in_err-judge_half-clause-fault : goal.returns-in_err-judge_half-clause-fault
returns-in_err-judge_half-clause-fault c =
    let n = net_of c.args.net.now in
    let s = shown_split c.args.split.now in
    let b = box_of n c.args.tree.now.kept.splits.list s.leaf in
    let cuts = c.in_ok-judge_cut.ensures.cuts in
    let fits : FitsSigned w64 s.cut = search rules in
    let halves = subst (λ (z : ℤ). AreHalves c.in_ok-ends.ends c.in_ok-left_ends.left_ends c.in_ok-left_ends.right_ends s.coord z) (to_z-of_z fits) c.in_ok-left_ends.ensures.cut in
    let ends = left-half n b c.in_ok-ends.ends c.in_ok-left_ends.left_ends s.coord s.cut c.in_ok-ends.ensures halves.left_low halves.left_high cuts.coord cuts.low cuts.high in
    let f = c.in_err-judge_half.field-0.0 in
    let p = err_from_is_err_and c.from_residual-in_err-judge_half.result c.from_residual-in_err-judge_half.ensures.1 in
    rw (p.1, p.2) (λ _. bad-left n (searched_of c.args.tree.now.kept) s (option_map shown_proof c.args.left.now) (option_map shown_proof c.args.right.now) (BadProof f) cuts
    c.in_ok-judge_cut.ensures.few record { found = f; is = refl; first = c.in_err-judge_half.ensures.fault (left_of b s.coord s.cut) ends })

pub returns-in_err-judge_half-2-clause-fault : goal.returns-in_err-judge_half-2-clause-fault
returns-in_err-judge_half-2-clause-fault c =
    let n = net_of c.args.net.now in
    let s = shown_split c.args.split.now in
    let b = box_of n c.args.tree.now.kept.splits.list s.leaf in
    let cuts = c.in_ok-judge_cut.ensures.cuts in
    let fits : FitsSigned w64 s.cut = search rules in
    let halves = subst (λ (z : ℤ). AreHalves c.in_ok-ends.ends c.in_ok-left_ends.left_ends c.in_ok-left_ends.right_ends s.coord z) (to_z-of_z fits) c.in_ok-left_ends.ensures.cut in
    let left_ends = left-half n b c.in_ok-ends.ends c.in_ok-left_ends.left_ends s.coord s.cut c.in_ok-ends.ensures halves.left_low halves.left_high cuts.coord cuts.low cuts.high in
    let right_ends = right-half n b c.in_ok-ends.ends c.in_ok-left_ends.right_ends s.coord s.cut c.in_ok-ends.ensures halves.right_low halves.right_high cuts.coord cuts.low cuts.high in
    let f = c.in_err-judge_half-2.field-0.0 in
    let p = err_from_is_err_and c.from_residual-in_err-judge_half-2.result c.from_residual-in_err-judge_half-2.ensures.1 in
    rw (p.1, p.2) (λ _. bad-right n (searched_of c.args.tree.now.kept) s (option_map shown_proof c.args.left.now) (option_map shown_proof c.args.right.now) (BadProof f) cuts
    c.in_ok-judge_cut.ensures.few (c.in_ok-judge_half.ensures.in_order (left_of b s.coord s.cut) left_ends)
    record { found = f; is = refl; first = c.in_err-judge_half-2.ensures.fault (right_of b s.coord s.cut) right_ends })

pub returns-clause-in_order : goal.returns-clause-in_order
returns-clause-in_order c =
    let n = net_of c.args.net.now in
    let s = shown_split c.args.split.now in
    let b = box_of n c.args.tree.now.kept.splits.list s.leaf in
    let cuts = c.in_ok-judge_cut.ensures.cuts in
    let fits : FitsSigned w64 s.cut = search rules in
    let halves = subst (λ (z : ℤ). AreHalves c.in_ok-ends.ends c.in_ok-left_ends.left_ends c.in_ok-left_ends.right_ends s.coord z) (to_z-of_z fits) c.in_ok-left_ends.ensures.cut in
    let left_ends = left-half n b c.in_ok-ends.ends c.in_ok-left_ends.left_ends s.coord s.cut c.in_ok-ends.ensures halves.left_low halves.left_high cuts.coord cuts.low cuts.high in
    let right_ends = right-half n b c.in_ok-ends.ends c.in_ok-left_ends.right_ends s.coord s.cut c.in_ok-ends.ensures halves.right_low halves.right_high cuts.coord cuts.low cuts.high in
    record {
      cuts = cuts;
      few = c.in_ok-judge_cut.ensures.few;
      left_proof = c.in_ok-judge_half.ensures.in_order (left_of b s.coord s.cut) left_ends;
      right_proof = c.in_ok-judge_half-2.ensures.in_order (right_of b s.coord s.cut) right_ends;
    }
