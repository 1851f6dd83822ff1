use Rattle.job_texts.specs.Texts.{Jobs, AreJobs, jobs_text}
use Rattle.job_texts.specs.Reading.{jobs_at}
use Rattle.job_texts.specs.Views.{shown_jobs}
use Rattle.job_texts.proofs.JobLaws.{jobs_reads}
use Rattle.cert_text.proofs.Outcomes.{is_found, is_only, is_fault}
use Rattle.job_texts.proofs.reading.read_jobs.Goals as goal

pub returns-clause-found : goal.returns-clause-found
returns-clause-found c = is_found Jobs AreJobs jobs_text jobs_at jobs_reads shown_jobs c.args.bytes.now c.all_jobs.result c.all_jobs.ensures

pub returns-clause-only : goal.returns-clause-only
returns-clause-only c = is_only Jobs AreJobs jobs_text jobs_at jobs_reads shown_jobs c.args.bytes.now c.all_jobs.result c.all_jobs.ensures

pub returns-clause-fault : goal.returns-clause-fault
returns-clause-fault c = is_fault Jobs AreJobs jobs_text jobs_at jobs_reads shown_jobs c.args.bytes.now c.all_jobs.result c.all_jobs.ensures
