-- The one text of jobs, and the one text of answers, line by line.
use Rattle.std.specs.Prelude.{◌≡◌, ℕ, ◌<◌, ◌^◌, List, [], ◌∷◌, ◌++◌, length, map, decimal, codes, All, Option, None, Some}
use Rattle.std.specs.Option.{ForSome}
use Rattle.std.specs.List.{flat_map}
use Rattle.std.specs.Fmt.{signed_decimal}
use Rattle.row_model.specs.Multipliers.{Proof}
use Rattle.row_model.specs.Trees.{Split}
use Rattle.row_model.specs.Entries.{Entry, root_proof, split_of, improve}
use Rattle.cert_writing.specs.Cert.{IsSplitInRange, IsPartInRange}
use Rattle.cert_writing.specs.Text.{line, part_fields, split_lines}
use Rattle.work_units.specs.Units.{Answer}
use Rattle.work_units.specs.declared.job.Job.{Job}

-- ---- jobs

-- the counts of a network, the splits of a tree, and jobs
pub record Jobs : Type 0 where
  pub shape : List ℕ
  pub splits : List Split
  pub jobs : List Job

-- the numbers of a job lie in the ranges of their types
pub record IsJobInRange (j : Job) : Type 0 where
  pub number : j.number < 2 ^ 32
  pub node : j.node < 2 ^ 32

-- What has a text: seven counts, lists that can be counted in 32 bits, and every number in the range of its type.
pub record AreJobs (j : Jobs) : Type 0 where
  pub seven : length j.shape ≡ 7
  pub counts : All (λ n. n < 2 ^ 32) j.shape
  pub few_splits : length j.splits < 2 ^ 32
  pub splits : All IsSplitInRange j.splits
  pub few_jobs : length j.jobs < 2 ^ 32
  pub jobs : All IsJobInRange j.jobs

-- the line of a job
abbrev pub job_line : Job → List ℕ
job_line j = line (codes "job") (decimal j.number ∷ decimal j.node ∷ [])

-- the count of the jobs, and their lines
abbrev pub job_lines : List Job → List ℕ
job_lines jobs = line (codes "jobs") (decimal (length jobs) ∷ []) ++ flat_map job_line jobs

-- the text of jobs
abbrev pub jobs_text : Jobs → List ℕ
jobs_text j =
    line (codes "pooljobs") (codes "1" ∷ [])
    ++ (line (codes "shape") (map decimal j.shape)
    ++ (split_lines j.splits
    ++ (job_lines j.jobs
    ++ line (codes "end") [])))

-- ---- answers

-- the numbers of a proof lie in the ranges of their types, and its parts can be counted in 32 bits
pub record IsHalfProof (p : Proof) : Type 0 where
  pub scale : p.scale < 2 ^ 64
  pub few : length p.parts < 2 ^ 32
  pub parts : All IsPartInRange p.parts

-- the entry is a split with proofs that have a text
abbrev pub HasLines : Entry → Type 0
HasLines (split_of split left right) = IsSplitInRange split × ForSome left IsHalfProof × ForSome right IsHalfProof
HasLines (root_proof proof) = ⊥
HasLines (improve plan) = ⊥

-- an answer that has a text
pub record IsWritten (a : Answer) : Type 0 where
  pub number : a.number < 2 ^ 32
  pub entry : HasLines a.entry

pub record AreWritten (answers : List Answer) : Type 0 where
  pub few : length answers < 2 ^ 32
  pub each : All IsWritten answers

-- the line of a half behind its word: its proof's scale, how many parts it has, and these
abbrev pub half_line : List ℕ → Option Proof → List ℕ
half_line word None = line word (codes "none" ∷ [])
half_line word (Some p) = line word (decimal p.scale ∷ decimal (length p.parts) ∷ flat_map part_fields p.parts)

-- the first line of an answer: its number, and its split
abbrev pub answer_line : ℕ → Split → List ℕ
answer_line number split = line (codes "answer") (decimal number ∷ decimal split.leaf ∷ decimal split.coord ∷ signed_decimal split.cut ∷ [])

-- the lines of an answer
abbrev pub entry_lines : ℕ → Entry → List ℕ
entry_lines number (split_of split left right) = answer_line number split ++ (half_line (codes "left") left ++ half_line (codes "right") right)
entry_lines number (root_proof proof) = []
entry_lines number (improve plan) = []

abbrev pub answer_lines : Answer → List ℕ
answer_lines a = entry_lines a.number a.entry

-- the count of the answers, and their lines
abbrev pub answer_list : List Answer → List ℕ
answer_list answers = line (codes "answers") (decimal (length answers) ∷ []) ++ flat_map answer_lines answers

-- the text of answers
abbrev pub answers_text : List Answer → List ℕ
answers_text answers =
    line (codes "poolwork") (codes "1" ∷ [])
    ++ (answer_list answers
    ++ line (codes "end") [])
