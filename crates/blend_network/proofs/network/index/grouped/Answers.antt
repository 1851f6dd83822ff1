use Rattle.std.proofs.Common.{◌≡◌, ◌<◌, ℕ, List, length, All, IfOk, sym, ap, subst, ◌∙◌, arith}
use Rattle.integers.specs.Numbers.{tabulate}
use Rattle.integers.proofs.Tabulate.{length-tabulate, All-tabulate}
use Rattle.number_groups.proofs.Grouped.{groups_of-tabulate}
use Rattle.blend_network.specs.Kept.{kept_key, kept_count}
use Rattle.blend_network.proofs.network.index.grouped.Goals as goal

pub by-requires-clause-known : goal.by-requires-clause-known
by-requires-clause-known c =
    let arcs = c.args.arcs.now in
    let whole : c.loop-i.i ≡ kept_count c.args.arcs.now c.args.key = omega arith in
    subst (λ (ks : List ℕ). All (λ k. k < c.args.nodes) ks) (sym (c.deref.ensures.value ∙ c.loop-i.invariant ∙ ap (tabulate (kept_key c.args.arcs.now c.args.key)) whole))
    (All-tabulate (λ k. k < c.args.nodes) (kept_key arcs c.args.key) (kept_count arcs c.args.key) c.requires.known)

pub by-requires-clause-few : goal.by-requires-clause-few
by-requires-clause-few c =
    let whole : c.loop-i.i ≡ kept_count c.args.arcs.now c.args.key = omega arith in
    omega (arith, c.requires.few, ap length (c.deref.ensures.value ∙ c.loop-i.invariant), length-tabulate (kept_key c.args.arcs.now c.args.key) c.loop-i.i)

pub returns : goal.returns
returns c =
    let key = c.args.key in
    let whole : c.loop-i.i ≡ kept_count c.args.arcs.now c.args.key = omega arith in
    subst (λ (z : List (List ℕ)). IfOk c.by.result (λ g. g ≡ z))
    (groups_of-tabulate (kept_key c.args.arcs.now key) (kept_count c.args.arcs.now key) c.args.nodes c.deref.result.now
    (c.deref.ensures.value ∙ c.loop-i.invariant ∙ ap (tabulate (kept_key c.args.arcs.now key)) whole)) c.by.ensures
