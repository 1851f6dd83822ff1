use Rattle.std.proofs.Common.{◌==◌, sym, ap, ◌∙◌}
use Rattle.std.specs.List.{list_all}
use Rattle.blend_network.specs.Views.{shown_pool}
use Rattle.blend_network.proofs.Ratios.{all_shown, scale_if}
use Rattle.blend_network.proofs.network.treatment.scale_of.Goals as goal

pub returns-then-remove_nothing : goal.returns-then-remove_nothing
returns-then-remove_nothing c =
    let whole = all_shown (λ p. list_all (λ r. r == 1000) p.ratio) shown_pool c.args.pools.now c.remove_nothing.result c.remove_nothing.ensures in
    sym (ap scale_if (sym whole ∙ c.if-remove_nothing.true))

pub returns-else-remove_nothing : goal.returns-else-remove_nothing
returns-else-remove_nothing c =
    let whole = all_shown (λ p. list_all (λ r. r == 1000) p.ratio) shown_pool c.args.pools.now c.remove_nothing.result c.remove_nothing.ensures in
    sym (ap scale_if (sym whole ∙ c.if-remove_nothing.false))
