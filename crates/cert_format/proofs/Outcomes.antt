-- No certificate's text begins another's.
use Rattle.std.proofs.Common.{◌≡◌, ℕ, List, [], ◌++◌, ◌∙◌}
use Rattle.std.proofs.lemmas.List.{append-nil}
use Rattle.cert_text.proofs.Laws.{one_spelling}
use Rattle.cert_writing.specs.Cert.{Cert, IsCert}
use Rattle.cert_writing.specs.Text.{text_of}
use Rattle.cert_format.specs.Reading.{cert_at}
use Rattle.cert_format.proofs.CertLaws.{cert_reads}

pub one_text : (c d : Cert) (more : List ℕ) → IsCert c → IsCert d → text_of c ≡ text_of d ++ more → c ≡ d
one_text c d more ic id e = (one_spelling Cert IsCert text_of cert_at cert_reads c d [] more ic id (append-nil (text_of c) ∙ e)).0
