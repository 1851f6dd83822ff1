use Rattle.std.proofs.Common.{rules, ◌≡◌, ◌∙◌, ◌&&◌, ◌∷◌, ap, sym, not, Bool}
use Rattle.command_items.specs.Items.{once}
use Rattle.command_items.specs.Views.{shown_items}
use Rattle.command_items.proofs.Lists.{once_by}
use Rattle.command_items.proofs.items.+once.Goals as goal

pub returns-then-repeats : goal.returns-then-repeats
returns-then-repeats t c =
    let parts : c.args.items.now ≡ c.in-Some.item.now ∷ c.in-Some.rest.now = search rules in
    let shown = λ (b : Bool). not b && once (shown_items c.in-Some.rest.now) in
    sym (ap shown c.if-repeats.true) ∙ once_by c.args.items.now c.in-Some.item.now c.in-Some.rest.now c.repeats.result parts c.repeats.ensures

pub returns : goal.returns
returns t c =
    let parts : c.args.items.now ≡ c.in-Some.item.now ∷ c.in-Some.rest.now = search rules in
    let shown = λ (b : Bool). not b && once (shown_items c.in-Some.rest.now) in
    c.once.ensures ∙ sym (ap shown c.if-repeats.false) ∙ once_by c.args.items.now c.in-Some.item.now c.in-Some.rest.now c.repeats.result parts c.repeats.ensures
