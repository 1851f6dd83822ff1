-- Jobs are read as they are spelled.
use Rattle.std.proofs.Common.{◌≡◌, ℕ, true, List, [], ◌∷◌, ◌++◌, length, Result, Ok, refl, ap, ◌∙◌, append_assoc}
use Rattle.std.specs.Prelude.{codes, map}
use Rattle.std.specs.List.{flat_map}
use Rattle.std.specs.Fmt.{decimal}
use Rattle.std.proofs.lemmas.List.Elements.{All-from_recursion, recursion_from_All}
use Rattle.row_model.specs.Trees.{Split}
use Rattle.cert_text.specs.declared.pieces.Ends.TheVariants.{Space, Line}
use Rattle.cert_text.specs.Reading.{At, ◌>>=◌, word_at, number_spelling, each_at, each_spelling, end_of, u32_at}
use Rattle.cert_text.proofs.Laws.{Reads, bind_reads, done_reads, reworded, each_reads, AreItems}
use Rattle.cert_text.proofs.PieceLaws.{one_line}
use Rattle.cert_text.proofs.NumberLaws.{below, u32_reads, word_then, each_spelling-same}
use Rattle.cert_writing.specs.Cert.{IsSplitInRange}
use Rattle.cert_writing.specs.Text.{line, split_lines}
use Rattle.cert_format.specs.Reading.{shape_at, splits_at}
use Rattle.cert_format.proofs.LineLaws.{AreLines, shape_reads, splits_reads}
use Rattle.work_units.specs.declared.job.Job.{Job}
use Rattle.job_texts.specs.Texts.{Jobs, IsJobInRange, AreJobs, job_line, job_lines, jobs_text}
use Rattle.job_texts.specs.Reading.{job_line_at, job_lines_at, jobs_at}

-- ---- the line of a job

job_reads : Reads Job IsJobInRange job_line job_line_at
unfolding job_line_at
job_reads =
    let s : ℕ → List ℕ = number_spelling (end_of Space) in
    let l : ℕ → List ℕ = number_spelling (end_of Line) in
    let two : (k : ℕ) → Reads Job (λ z. below 32 z.node × (z ≡ record { number = k; node = z.node })) (λ z. l z.node ++ []) (λ a. u32_at Line a >>= λ x. Ok (record { number = k; node = x.0 }, x.1)) =
    λ k. bind_reads ℕ Job (below 32) l (u32_at Line) (λ x z. z ≡ record { number = k; node = x }) (λ _ _. []) (λ x a. Ok (record { number = k; node = x }, a)) (λ z. z.node) (u32_reads Line)
    (λ x i. done_reads Job (record { number = k; node = x })) (λ x z e. ap (λ (y : Job). y.node) e) in
    let one = bind_reads ℕ Job (below 32) s (u32_at Space) (λ k z. below 32 z.node × (z ≡ record { number = k; node = z.node })) (λ k z. l z.node ++ [])
    (λ k a. u32_at Line a >>= λ x. Ok (record { number = k; node = x.0 }, x.1)) (λ z. z.number) (u32_reads Space) (λ k i. two k) (λ k z h. ap (λ (y : Job). y.number) h.1) in
    reworded Job (λ z. below 32 z.number × (below 32 z.node × (z ≡ record { number = z.number; node = z.node }))) IsJobInRange
    (λ z. codes "job " ++ (s z.number ++ (l z.node ++ []))) job_line job_line_at
    (word_then (codes "job ") refl one) (λ z h. record { number = h.0; node = h.1.0 }) (λ z h. (h.number, (h.node, refl))) (λ z h. simp append_assoc)

-- ---- a count and so many lines

pub counted_reads : (X : Type 0) (Is : X → Type 0) (text : X → List ℕ) (read : At → Result (X × At) ℕ) (word spaced : List ℕ) → Reads X Is text read → one_line spaced ≡ true → spaced ≡ word ++ 32 ∷ []
    → Reads (List X) (AreLines Is) (λ xs. line word (decimal (length xs) ∷ []) ++ flat_map text xs) (λ a. word_at spaced a >>= λ w. u32_at Line w.1 >>= λ k. each_at (λ _. read) k.0 k.1)
counted_reads X Is text read word spaced one o e =
    let s : ℕ → X → List ℕ = λ _ z. text z in
    let l : ℕ → List ℕ = number_spelling (end_of Line) in
    reworded (List X) (AreLines Is) (AreLines Is) (λ xs. spaced ++ (l (length xs) ++ each_spelling s xs)) (λ xs. line word (decimal (length xs) ∷ []) ++ flat_map text xs) _
    (word_then spaced o (bind_reads ℕ (List X) (below 32) l (u32_at Line) (AreItems Is) (λ _ xs. each_spelling s xs) (λ k a. each_at (λ _. read) k a) length (u32_reads Line)
    (λ k i. each_reads X Is s (λ _. read) (λ _. one) k) (λ k xs h. h.0)))
    (λ xs h. h) (λ xs h. h)
    (λ xs h. ap (λ (w : List ℕ). w ++ (l (length xs) ++ each_spelling s xs)) e ∙ regroup word (decimal (length xs)) (each_spelling s xs)
    ∙ ap (λ (w : List ℕ). line word (decimal (length xs) ∷ []) ++ w) (each_spelling-same text xs))
  where
    regroup : (word d rest : List ℕ) → (word ++ 32 ∷ []) ++ ((d ++ 10 ∷ []) ++ rest) ≡ (word ++ (((32 ∷ d) ++ []) ++ 10 ∷ [])) ++ rest
    regroup word d rest = simp append_assoc

job_list_reads : Reads (List Job) (AreLines IsJobInRange) job_lines job_lines_at
unfolding job_lines_at
job_list_reads = counted_reads Job IsJobInRange job_line job_line_at (codes "jobs") (codes "jobs ") job_reads refl refl

-- ---- the whole

abbrev made : List ℕ → List Split → List Job → Jobs
made sh ss js = record { shape = sh; splits = ss; jobs = js }

-- what is known of the whole behind each part
abbrev IsFromJobs : List ℕ → List Split → Jobs → Type 0
IsFromJobs sh ss z = AreLines IsJobInRange z.jobs × (z ≡ made sh ss z.jobs)

abbrev IsFromSplits : List ℕ → Jobs → Type 0
IsFromSplits sh z = AreLines IsSplitInRange z.splits × IsFromJobs sh z.splits z

abbrev IsFromShape : Jobs → Type 0
IsFromShape z = AreItems (below 32) 7 z.shape × IsFromSplits z.shape z

-- its text from each part on
abbrev from_jobs : Jobs → List ℕ
from_jobs z = job_lines z.jobs ++ (codes "end\n" ++ [])

abbrev from_splits : Jobs → List ℕ
from_splits z = split_lines z.splits ++ from_jobs z

abbrev from_shape : Jobs → List ℕ
from_shape z = line (codes "shape") (map decimal z.shape) ++ from_splits z

-- how it is read from each part on
abbrev read_end : List ℕ → List Split → List Job → At → Result (Jobs × At) ℕ
read_end sh ss js a = word_at (codes "end\n") a >>= λ e. Ok (made sh ss js, e.1)

abbrev read_jobs : List ℕ → List Split → At → Result (Jobs × At) ℕ
read_jobs sh ss a = job_lines_at a >>= λ js. read_end sh ss js.0 js.1

abbrev read_splits : List ℕ → At → Result (Jobs × At) ℕ
read_splits sh a = splits_at a >>= λ ss. read_jobs sh ss.0 ss.1

abbrev read_shape : At → Result (Jobs × At) ℕ
read_shape a = shape_at a >>= λ sh. read_splits sh.0 sh.1

from_jobs-reads : (sh : List ℕ) (ss : List Split) → Reads Jobs (IsFromJobs sh ss) from_jobs (read_jobs sh ss)
from_jobs-reads sh ss = bind_reads (List Job) Jobs (AreLines IsJobInRange) job_lines job_lines_at (λ js z. z ≡ made sh ss js) (λ _ _. codes "end\n" ++ []) (λ js a. read_end sh ss js a) (λ z. z.jobs) job_list_reads
    (λ js i. word_then (codes "end\n") refl (done_reads Jobs (made sh ss js))) (λ js z e. ap (λ (y : Jobs). y.jobs) e)

from_splits-reads : (sh : List ℕ) → Reads Jobs (IsFromSplits sh) from_splits (read_splits sh)
from_splits-reads sh = bind_reads (List Split) Jobs (AreLines IsSplitInRange) split_lines splits_at (λ ss z. IsFromJobs sh ss z) (λ _ z. from_jobs z) (λ ss a. read_jobs sh ss a) (λ z. z.splits) splits_reads
    (λ ss i. from_jobs-reads sh ss) (λ ss z h. ap (λ (y : Jobs). y.splits) h.1)

from_shape-reads : Reads Jobs IsFromShape from_shape read_shape
from_shape-reads = bind_reads (List ℕ) Jobs (AreItems (below 32) 7) (λ ws. line (codes "shape") (map decimal ws)) shape_at (λ sh z. IsFromSplits sh z) (λ _ z. from_splits z) (λ sh a. read_splits sh a) (λ z. z.shape)
    shape_reads (λ sh i. from_splits-reads sh) (λ sh z h. ap (λ (y : Jobs). y.shape) h.1.1)

pub jobs_reads : Reads Jobs AreJobs jobs_text jobs_at
unfolding jobs_at
jobs_reads = reworded Jobs IsFromShape AreJobs (λ z. codes "pooljobs 1\n" ++ from_shape z) jobs_text jobs_at (word_then (codes "pooljobs 1\n") refl from_shape-reads)
    (λ z h. record {
      seven = h.0.0;
      counts = All-from_recursion (below 32) z.shape h.0.1;
      few_splits = h.1.0.0;
      splits = All-from_recursion IsSplitInRange z.splits h.1.0.1.1;
      few_jobs = h.1.1.0.0;
      jobs = All-from_recursion IsJobInRange z.jobs h.1.1.0.1.1;
    })
    (λ z h. (
      (h.seven, recursion_from_All (below 32) z.shape h.counts),
      ((h.few_splits, (refl, recursion_from_All IsSplitInRange z.splits h.splits)), ((h.few_jobs, (refl, recursion_from_All IsJobInRange z.jobs h.jobs)), refl)),
    ))
    (λ z h. refl)
