use Rattle.std.proofs.Common.{All, subst, rules}
use Rattle.std.proofs.lemmas.List.Elements.{All-map}
use Rattle.box_space.specs.Views.{shown_split}
use Rattle.cert_writing.specs.Cert.{IsSplitInRange, IsProofInRange}
use Rattle.cert_writing.specs.Views.{shown_node_proof}
use Rattle.cert_writing.proofs.ranges.cert_law.Goals as goal

pub returns : goal.returns
returns c = record {
  shaped = c.requires;
  seven = search rules;
  counts = c.numbers.ensures;
  claim = c.claim.ensures;
  splits = All-map IsSplitInRange shown_split c.args.cert.now.splits.items (subst (λ xs. All (λ x. IsSplitInRange (shown_split x)) xs) c.as_slice.ensures.value c.splits.ensures);
  proofs = All-map IsProofInRange shown_node_proof c.args.cert.now.proofs.items (subst (λ xs. All (λ x. IsProofInRange (shown_node_proof x)) xs) c.as_slice-2.ensures.value c.proofs.ensures);
}
