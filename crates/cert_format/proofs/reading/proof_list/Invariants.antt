use Rattle.std.proofs.Common.{◌≡◌, ◌-◌, map}
use Rattle.cert_writing.specs.Views.{shown_node_proof}
use Rattle.cert_text.specs.Reading.{each_at}
use Rattle.cert_text.proofs.Each.{with_front}
use Rattle.cert_format.specs.Reading.{proof_line_at}
use Rattle.cert_format.proofs.reading.proof_list.Given as goal

abbrev pub invariant-loop : goal.invariant-loop
invariant-loop g l = with_front (map shown_node_proof l.proofs.items) (each_at (λ _. proof_line_at) (l.n - l.counter) (g.S.Source.at l.src)) ≡ each_at (λ _. proof_line_at) l.n (g.S.Source.at l.fn.src)
