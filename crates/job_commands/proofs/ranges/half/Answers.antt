use Rattle.std.proofs.Common.{◌≡◌, Option, Some, option_map, sym, ap, subst, ◌∙◌}
use Rattle.row_model.specs.Multipliers.{Proof}
use Rattle.box_space.specs.Views.{shown_proof}
use Rattle.linear_program.specs.declared.multipliers.Proof as held
use Rattle.job_texts.specs.Texts.{IsHalfProof}
use Rattle.job_commands.proofs.ranges.half.Goals as goal

some-same : (x y : Proof) → Some x ≡ Some y → x ≡ y
some-same x y e = cc

pub proof-requires : goal.proof-requires
proof-requires c = c.requires (shown_proof c.in-Some.held) (ap (λ (o : Option held.Proof). option_map shown_proof o) c.in-Some.is)

pub returns-in-Some : goal.returns-in-Some
returns-in-Some c = λ p e. subst IsHalfProof (some-same (shown_proof c.in-Some.held) p (sym (ap (λ (o : Option held.Proof). option_map shown_proof o) c.in-Some.is) ∙ e)) c.proof.ensures
