use Rattle.std.proofs.Common.{◌≡◌, ◌≤◌, ℕ, ◌-◌, List, take, drop, replicate, arith, ap, ◌∙◌}
use Rattle.std.proofs.lemmas.List.{drop-replicate, take-replicate}
use Rattle.edge_io.proofs.Writes.{wrote-same}
use Rattle.text_pieces.proofs.decimals.write_spaces.Goals as goal

pub returns-clause-wrote : goal.returns-clause-wrote
returns-clause-wrote g c =
    let k = c.min.result in
    let rest : 20 - k ≡ 20 - c.args.length = omega (arith, c.min.ensures) in
    let same : 20 - k ≤ 20 - k = omega arith in
    wrote-same c.write_whole.result (g.K.Sink.taken c.args.out.now) (take (20 - k) (drop k (replicate 20 32))) (replicate (20 - c.args.length) 32) (g.K.Sink.taken c.write_whole.new.out)
    (ap (λ (xs : List ℕ). take (20 - k) xs) (drop-replicate k 20 32) ∙ take-replicate (20 - k) (20 - k) 32 same ∙ ap (λ (n : ℕ). replicate {A = ℕ} n 32) rest) c.write_whole.ensures.wrote
