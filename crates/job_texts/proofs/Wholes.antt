-- All of the bytes are read exactly where they are the text of jobs, or of answers.
use Rattle.std.proofs.Common.{◌≡◌, ℕ, List, [], ◌++◌, Ok, Err, ◌∙◌}
use Rattle.std.specs.Prelude.{◌↔◌}
use Rattle.std.proofs.lemmas.List.{append-nil}
use Rattle.cert_text.specs.Lines.{IsFaultyLine}
use Rattle.cert_text.specs.Reading.{whole}
use Rattle.cert_text.proofs.Laws.{whole_found, whole_again, whole_fault, one_spelling}
use Rattle.work_units.specs.Units.{Answer}
use Rattle.job_texts.specs.Texts.{Jobs, AreJobs, jobs_text, AreWritten, answers_text}
use Rattle.job_texts.specs.Reading.{jobs_at, answers_at}
use Rattle.job_texts.proofs.JobLaws.{jobs_reads}
use Rattle.job_texts.proofs.AnswerLaws.{answers_reads}

pub jobs-whole : (bytes : List ℕ) (j : Jobs) → (whole jobs_at bytes ≡ Ok j) ↔ (AreJobs j × (bytes ≡ jobs_text j))
jobs-whole bytes j = (λ e. whole_found Jobs AreJobs jobs_text jobs_at jobs_reads bytes j e, λ h. whole_again Jobs AreJobs jobs_text jobs_at jobs_reads bytes j h.0 h.1)

pub jobs-fault : (bytes : List ℕ) (line : ℕ) → whole jobs_at bytes ≡ Err line → IsFaultyLine Jobs AreJobs jobs_text bytes line
jobs-fault bytes line e = whole_fault Jobs AreJobs jobs_text jobs_at jobs_reads bytes line e

pub one-jobs : (j k : Jobs) (more : List ℕ) → AreJobs j → AreJobs k → jobs_text j ≡ jobs_text k ++ more → j ≡ k
one-jobs j k more is other e = (one_spelling Jobs AreJobs jobs_text jobs_at jobs_reads j k [] more is other (append-nil (jobs_text j) ∙ e)).0

pub answers-whole : (bytes : List ℕ) (a : List Answer) → (whole answers_at bytes ≡ Ok a) ↔ (AreWritten a × (bytes ≡ answers_text a))
answers-whole bytes a =
    (λ e. whole_found (List Answer) AreWritten answers_text answers_at answers_reads bytes a e, λ h. whole_again (List Answer) AreWritten answers_text answers_at answers_reads bytes a h.0 h.1)

pub answers-fault : (bytes : List ℕ) (line : ℕ) → whole answers_at bytes ≡ Err line → IsFaultyLine (List Answer) AreWritten answers_text bytes line
answers-fault bytes line e = whole_fault (List Answer) AreWritten answers_text answers_at answers_reads bytes line e

pub one-answers : (a b : List Answer) (more : List ℕ) → AreWritten a → AreWritten b → answers_text a ≡ answers_text b ++ more → a ≡ b
one-answers a b more is other e = (one_spelling (List Answer) AreWritten answers_text answers_at answers_reads a b [] more is other (append-nil (answers_text a) ∙ e)).0
