use Rattle.std.proofs.Common.{eqb, refl, sym, ap, ◌∙◌, List, ℕ}
use Rattle.std.specs.List.{starts_with}
use Rattle.tight_texts.specs.Views.{place_of}
use Rattle.tight_texts.proofs.Taking.{not_begun, not_stopped}
use Rattle.tight_texts.proofs.reading.take.Goals as goal

pub returns-in_default : goal.returns-in_default
returns-in_default c =
    absurd (not_stopped c.args.name.now (place_of c.args.src.now) c.in_default.field-0
    (ap (λ (b : List ℕ). starts_with eqb b c.args.name.now) (sym c.rest.ensures) ∙ sym c.starts_with.ensures.value ∙ c.if-starts_with.true) c.in_default.ensures)

pub returns-else-starts_with : goal.returns-else-starts_with
returns-else-starts_with c = (
  refl,
  not_begun c.args.name.now c.args.src.now.rest.now
      (ap (λ (b : List ℕ). starts_with eqb b c.args.name.now) (sym c.rest.ensures) ∙ sym c.starts_with.ensures.value ∙ c.if-starts_with.false),
)
