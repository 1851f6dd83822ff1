use Rattle.std.proofs.Common.{ℕ, ◌≤◌, length, sym, subst}
use Rattle.pool_model.specs.Network.{net_of}
use Rattle.journal_format.specs.Payload.{payload}
use Rattle.journal_format.proofs.ShortPayloads.{short_payload, narrow_entry, longest_is}
use Rattle.journal_format.proofs.longest.largest_payload.Goals as goal

pub returns-clause-enough : goal.returns-clause-enough
returns-clause-enough c = λ v s e is.
    let n = net_of c.args.net.now in
    let counts = c.sizes-sizes.ensures.counts in
    let whole = longest_is n c.rows.result c.sizes-sizes.result.feeds c.sizes-sizes.result.outs c.sizes-sizes.result.directs c.max.result
    c.rows.ensures.count counts.feeds counts.outs counts.directs c.max.ensures in
    subst (λ (k : ℕ). length (payload v e) ≤ k) (sym whole) (short_payload n v s e is)

pub returns-clause-narrow : goal.returns-clause-narrow
returns-clause-narrow c = λ s e is. narrow_entry (net_of c.args.net.now) s e c.sizes-sizes.ensures.limited is
