use Rattle.std.proofs.Common.{◌≡◌, ℕ, List, [], ◌++◌, Some, ap, ◌∙◌}
use Rattle.cert_format.specs.Views.{shown_cert}
use Rattle.cert_format.specs.Text.{text_of}
use Rattle.edge_io.specs.MemSinks.{bytes_of}
use Rattle.pool_cli.proofs.trial.accepted_claim.Goals as goal

-- what a sink holds that took one text
held : (bytes old new text : List ℕ) → bytes ≡ new → Some new ≡ Some (old ++ text) → old ≡ [] → bytes ≡ text
held bytes old new text e took empty = let same : new ≡ old ++ text = cc (took) in e ∙ same ∙ ap (λ (l : List ℕ). l ++ text) empty

pub returns-in-Ok-check-clause-numbers : goal.returns-in-Ok-check-clause-numbers
returns-in-Ok-check-clause-numbers c =
    let cert = shown_cert c.args.certificate.now in
    c.in-Ok-check.ensures.valid cert
    (record {
      is = c.requires.held;
      text = held c.taken.result.now (bytes_of c.new-text.result) (bytes_of c.write_cert.new.out)
          (text_of cert) c.taken.ensures c.in-Ok.ensures.wrote c.new-text.ensures.empty;
    }) c.requires.valid
