use Rattle.std.proofs.Common.{Option, option_map, refl, sym, subst}
use Rattle.std.proofs.lemmas.Result.{err_from_is_err_and}
use Rattle.pool_model.specs.Network.{net_of}
use Rattle.box_space.specs.Views.{AreEndsOf, shown_proof, shown_split}
use Rattle.linear_program.specs.declared.multipliers.Proof.{Proof}
use Rattle.split_tree.specs.Spans.{half_at}
use Rattle.box_tree.specs.EntryFaults.{IsBadProof}
use Rattle.box_tree.specs.Kept.{Held}
use Rattle.box_tree.specs.declared.entry.EntryFault.TheVariants.{BadProof}
use Rattle.box_tree.proofs.tree.Tree.show_half.Goals as goal

pub returns-in_err-value_in-in-Some-clause-fault : goal.returns-in_err-value_in-in-Some-clause-fault
returns-in_err-value_in-in-Some-clause-fault c =
    let n = net_of c.args.net.now in
    let half = half_at n c.args.self.now.kept.splits.list (shown_split c.args.split.now) c.args.side in
    let ends = subst (λ (t : Held). AreEndsOf n (half_at n t.kept.splits.list (shown_split c.args.split.now) c.args.side) c.in_ok-ends-in-Some.ends) c.self.view_is c.in_ok-ends-in-Some.ensures in
    let f = c.in_err-value_in-in-Some.field-0.0 in
    let p = err_from_is_err_and c.from_residual-in_err-value_in-in-Some.result c.from_residual-in_err-value_in-in-Some.ensures.1 in
    rw (p.1, p.2) (λ _. subst (λ (o : Option Proof). IsBadProof n half (option_map shown_proof o) (BadProof f)) (sym c.in-Some.is)
    record { found = f; is = refl; first = c.in_err-value_in-in-Some.ensures.fault half ends })
