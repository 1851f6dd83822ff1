-- Before the first node.
use Rattle.std.proofs.Common.{refl}
use Rattle.pool_model.specs.Network.{net_of}
use Rattle.proof_lines.proofs.Raising.{judged-first}
use Rattle.certificate_leaves.proofs.valuing.NodeWalk.new.Goals as goal

pub returns : goal.returns
returns c = λ splits lines. record {
  judged = judged-first (net_of c.args.net.now) splits lines _ c.new.ensures.items refl c.in_ok-new.ensures;
  lows = c.in_ok-root_box.ensures.root.lows;
  highs = c.in_ok-root_box.ensures.root.highs;
}
