use Rattle.tight_texts.specs.Texts.{Marks, AreMarks, marks_text}
use Rattle.tight_texts.specs.Reading.{marks_at}
use Rattle.tight_texts.specs.Views.{shown_marks}
use Rattle.tight_texts.proofs.MarkLaws.{marks_reads}
use Rattle.cert_text.proofs.Outcomes.{is_found, is_only, is_fault}
use Rattle.tight_texts.proofs.reading.read_tight.Goals as goal

pub returns-clause-found : goal.returns-clause-found
returns-clause-found c = is_found Marks AreMarks marks_text marks_at marks_reads shown_marks c.args.bytes.now c.all_marks.result c.all_marks.ensures

pub returns-clause-only : goal.returns-clause-only
returns-clause-only c = is_only Marks AreMarks marks_text marks_at marks_reads shown_marks c.args.bytes.now c.all_marks.result c.all_marks.ensures

pub returns-clause-fault : goal.returns-clause-fault
returns-clause-fault c = is_fault Marks AreMarks marks_text marks_at marks_reads shown_marks c.args.bytes.now c.all_marks.result c.all_marks.ensures
