use Rattle.std.proofs.Common.{◌≡◌, length, sym, ap, ◌∙◌}
use Rattle.cert_text.specs.declared.fault.TextFault.{TextFault}
use Rattle.cert_stream.specs.Streams.{Reader}
use Rattle.cert_stream.proofs.NextItem.{close-behind, same-text}
use Rattle.cert_stream.proofs.cert_reader.CertReader.close.Goals as goal

pub returns-clause-text : goal.returns-clause-text
returns-clause-text g c = λ f e.
    let line : f.line ≡ c.self.inside.line = ap (λ (x : TextFault). x.line) (sym (same-text (Unit {0}) (record { line = c.self.inside.line }) f e)) in
    close-behind f c.in_ok-fill.ensures.filled (λ z. c.if-len-eq0.false (c.len.ensures ∙ ap (λ (r : Reader). length r.held) c.self.view_is ∙ z))
    (line ∙ ap (λ (r : Reader). r.line) c.self.view_is) c.in_ok-drain.ensures.took c.in_ok-drain.ensures.ended
