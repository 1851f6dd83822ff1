-- One node more.
use Rattle.std.proofs.Common.{◌≡◌, ◌++◌, ◌∷◌, [], List, Option, Some, Vec, Global, map, option_map, ℤ, ap, subst, ◌∙◌, arith, rules, FitsSigned, to_z-of_z}
use mir.Syntax.{w128}
use Rattle.pool_model.specs.Network.{Net, net_of}
use Rattle.row_model.specs.Trees.{raised}
use Rattle.row_book.specs.Views.{shown_value}
use Rattle.cert_format.specs.Cert.{NodeProof}
use Rattle.cert_format.specs.Views.{shown_node_proof}
use Rattle.proof_lines.proofs.Raising.{above-before}
use Rattle.certificate_leaves.proofs.Walked.{one-more}
use Rattle.certificate_leaves.proofs.valuing.NodeWalk.add.Goals as goal

pub above-above-requires-clause-long : goal.above-above-requires-clause-long
above-above-requires-clause-long c = λ some.
    let up = above-before (net_of c.args.net.now) c.args.tree.now c.args.node c.requires.order.splits c.requires.there some in
    omega (arith, up, c.requires.at.judged.long)

pub returns : goal.returns
returns c =
    let n : Net = net_of c.args.net.now in
    let lines : List NodeProof = map shown_node_proof c.args.proofs.now in
    let old : List (Option ℤ) = c.args.self.now.bounds.items in
    let f : FitsSigned w128 c.args.reach = search rules in
    let reach = to_z-of_z f ∙ c.requires.reach in
    let kept : c.shown-shown.new.self.bounds.items ≡ old = ap (λ (v : Vec (Option ℤ) Global). v.items) c.shown-shown.ensures.bounds in
    let pushed : c.push.new.self.items ≡ old ++ c.raised.result ∷ [] = subst (λ (xs : List (Option ℤ)). c.push.new.self.items ≡ xs ++ c.raised.result ∷ []) kept c.in_ok-push.ensures.items in
    let longer : c.push.new.self.items ≡ old ++ raised c.above-above.result (option_map shown_value c.shown-shown.result) ∷ [] =
    subst (λ (o : Option ℤ). c.push.new.self.items ≡ old ++ o ∷ []) c.raised.ensures pushed in
    one-more n c.args.tree.now c.args.root.now lines c.args.node c.args.self.now _ c.above-above.result (option_map shown_value c.shown-shown.result)
    c.requires.order c.requires.there c.requires.at (λ e. c.above-above.ensures.root e ∙ ap (λ (z : ℤ). Some z) reach) c.above-above.ensures.child c.shown-shown.ensures.own
    longer
    c.shown-shown.ensures.next c.shown-shown.ensures.fits c.shown-shown.ensures.lows c.shown-shown.ensures.highs
