use Rattle.std.proofs.Common.{All, subst, arith, rules}
use Rattle.std.proofs.lemmas.List.Elements.{All-map}
use Rattle.box_space.specs.Views.{shown_part}
use Rattle.cert_writing.specs.Cert.{IsPartInRange}
use Rattle.tight_commands.proofs.ranges.proof.Goals as goal

pub returns : goal.returns
returns c = record {
  scale = search rules;
  few = omega (arith, c.requires);
  parts = All-map IsPartInRange shown_part c.args.proof.now.parts.items (subst (λ xs. All (λ x. IsPartInRange (shown_part x)) xs) c.as_slice.ensures.value c.parts.ensures);
}
