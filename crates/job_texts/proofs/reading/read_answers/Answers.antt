use Rattle.std.proofs.Common.{List}
use Rattle.work_units.specs.Units.{Answer}
use Rattle.job_texts.specs.Texts.{AreWritten, answers_text}
use Rattle.job_texts.specs.Reading.{answers_at}
use Rattle.job_texts.specs.Views.{shown_answers}
use Rattle.job_texts.proofs.AnswerLaws.{answers_reads}
use Rattle.cert_text.proofs.Outcomes.{is_found, is_only, is_fault}
use Rattle.job_texts.proofs.reading.read_answers.Goals as goal

pub returns-clause-found : goal.returns-clause-found
returns-clause-found c = is_found (List Answer) AreWritten answers_text answers_at answers_reads shown_answers c.args.bytes.now c.all_answers.result c.all_answers.ensures

pub returns-clause-only : goal.returns-clause-only
returns-clause-only c = is_only (List Answer) AreWritten answers_text answers_at answers_reads shown_answers c.args.bytes.now c.all_answers.result c.all_answers.ensures

pub returns-clause-fault : goal.returns-clause-fault
returns-clause-fault c = is_fault (List Answer) AreWritten answers_text answers_at answers_reads shown_answers c.args.bytes.now c.all_answers.result c.all_answers.ensures
