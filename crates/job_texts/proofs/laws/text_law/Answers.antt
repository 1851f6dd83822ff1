use Rattle.job_texts.proofs.Wholes.{jobs-whole, jobs-fault, one-jobs, answers-whole, answers-fault, one-answers}
use Rattle.job_texts.proofs.laws.text_law.Goals as goal

pub returns : goal.returns
returns c = record { jobs = jobs-whole; faulty_jobs = jobs-fault; one_jobs = one-jobs; answers = answers-whole; faulty_answers = answers-fault; one_answers = one-answers }
