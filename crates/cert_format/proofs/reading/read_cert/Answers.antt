use Rattle.cert_writing.specs.Cert.{Cert, IsCert}
use Rattle.cert_writing.specs.Text.{text_of}
use Rattle.cert_writing.specs.Views.{shown_cert}
use Rattle.cert_text.proofs.Outcomes.{is_found, is_only, is_fault}
use Rattle.cert_format.specs.Reading.{cert_at}
use Rattle.cert_format.proofs.CertLaws.{cert_reads}
use Rattle.cert_format.proofs.reading.read_cert.Goals as goal

pub returns-clause-found : goal.returns-clause-found
returns-clause-found c = is_found Cert IsCert text_of cert_at cert_reads shown_cert c.args.bytes.now c.all.result c.all.ensures

pub returns-clause-only : goal.returns-clause-only
returns-clause-only c = is_only Cert IsCert text_of cert_at cert_reads shown_cert c.args.bytes.now c.all.result c.all.ensures

pub returns-clause-fault : goal.returns-clause-fault
returns-clause-fault c = is_fault Cert IsCert text_of cert_at cert_reads shown_cert c.args.bytes.now c.all.result c.all.ensures
