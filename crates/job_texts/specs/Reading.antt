-- Reading jobs and answers from left to right, line by line.
use Rattle.std.specs.Prelude.{ℕ, ◌-◌, ◌^◌, List, [], ◌∷◌, ◌++◌, Option, Some, None, Result, Ok, ◌==◌, if◌then◌else◌, codes}
use Rattle.std.specs.Fmt.{decimal}
use Rattle.row_model.specs.Multipliers.{Proof}
use Rattle.row_model.specs.Entries.{split_of}
use Rattle.cert_text.specs.declared.pieces.Ends.TheVariants.{Space, Line, LineIfZero}
use Rattle.cert_text.specs.Reading.{At, ◌>>=◌, piece_at, after_word, number_from, word_at, each_at, end_of, u32_at, i64_at}
use Rattle.cert_format.specs.Reading.{shape_at, splits_at, part_at}
use Rattle.work_units.specs.Units.{Answer}
use Rattle.work_units.specs.declared.job.Job.{Job}
use Rattle.job_texts.specs.Texts.{Jobs}

-- ---- jobs

-- the line of a job
unfoldable pub job_line_at : At → Result (Job × At) ℕ
job_line_at a = do
  w ← word_at (codes "job ") a
  number ← u32_at Space w.1
  node ← u32_at Line number.1
  Ok (record { number = number.0; node = node.0 }, node.1)

-- the count of the jobs, and their lines
unfoldable pub job_lines_at : At → Result (List Job × At) ℕ
job_lines_at a = do
  w ← word_at (codes "jobs ") a
  n ← u32_at Line w.1
  each_at (λ _. job_line_at) n.0 n.1

-- jobs
unfoldable pub jobs_at : At → Result (Jobs × At) ℕ
jobs_at a = do
  w ← word_at (codes "pooljobs 1\n") a
  shape ← shape_at w.1
  splits ← splits_at shape.1
  jobs ← job_lines_at splits.1
  e ← word_at (codes "end\n") jobs.1
  Ok (record { shape = shape.0; splits = splits.0; jobs = jobs.0 }, e.1)

-- ---- answers

-- the word for no proof, or the scale of a proof: how the rest of a half's line begins
abbrev pub head_spelling : Option ℕ → List ℕ
head_spelling None = codes "none\n"
head_spelling (Some scale) = decimal scale ++ 32 ∷ []

-- no proof, where its word was found
abbrev pub as_none : Option (List ℕ) → Option (Option ℕ × List ℕ)
as_none None = None
as_none (Some rest) = Some (None, rest)

-- a scale, where a number was found
abbrev pub as_scale : Option (ℕ × List ℕ) → Option (Option ℕ × List ℕ)
as_scale None = None
as_scale (Some p) = Some (Some p.0, p.1)

-- one of both at the front of the bytes, by the first of them
abbrev pub head_from : List ℕ → Option (Option ℕ × List ℕ)
head_from [] = None
head_from (c ∷ cs) = if c == 110 then as_none (after_word (codes "one\n") cs) else as_scale (number_from (2 ^ 64 - 1) (end_of Space) (c ∷ cs))

abbrev pub head_at : At → Result (Option ℕ × At) ℕ
head_at = piece_at head_spelling head_from

-- what follows the beginning of a half's line
unfoldable pub rest_at : Option ℕ → At → Result (Option Proof × At) ℕ
rest_at None a = Ok (None, a)
rest_at (Some scale) a = do
  count ← u32_at LineIfZero a
  parts ← each_at part_at count.0 count.1
  Ok (Some (record { scale = scale; parts = parts.0 }), parts.1)

-- the line of a half behind its word
unfoldable pub half_at : List ℕ → At → Result (Option Proof × At) ℕ
half_at word a = do
  w ← word_at word a
  head ← head_at w.1
  rest_at head.0 head.1

-- the lines of an answer
unfoldable pub answer_at : At → Result (Answer × At) ℕ
answer_at a = do
  w ← word_at (codes "answer ") a
  number ← u32_at Space w.1
  leaf ← u32_at Space number.1
  coord ← u32_at Space leaf.1
  cut ← i64_at Line coord.1
  left ← half_at (codes "left ") cut.1
  right ← half_at (codes "right ") left.1
  Ok (record { number = number.0; entry = split_of (record { leaf = leaf.0; coord = coord.0; cut = cut.0 }) left.0 right.0 }, right.1)

-- the count of the answers, and their lines
unfoldable pub answer_list_at : At → Result (List Answer × At) ℕ
answer_list_at a = do
  w ← word_at (codes "answers ") a
  n ← u32_at Line w.1
  each_at (λ _. answer_at) n.0 n.1

-- answers
unfoldable pub answers_at : At → Result (List Answer × At) ℕ
answers_at a = do
  w ← word_at (codes "poolwork 1\n") a
  answers ← answer_list_at w.1
  e ← word_at (codes "end\n") answers.1
  Ok (answers.0, e.1)
