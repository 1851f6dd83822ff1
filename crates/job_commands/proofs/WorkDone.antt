-- From work on jobs that were handed out to what the program prints of them.
use Rattle.std.proofs.Common.{◌≡◌, ◌≢◌, ℕ, ◌<◌, ◌≤◌, List, [], length, map, get_or, All, Option, pos, refl, sym, subst, ◌∙◌, arith}
use Rattle.std.proofs.lemmas.List.{get_or-map, length-map}
use Rattle.edge_io.specs.Counts.{Grows, Rose}
use Rattle.shelf_calls.specs.Files.{IsTooLong}
use Rattle.shelf_calls.specs.Told.{ShelfTold}
use Rattle.pool_model.specs.Network.{Net, Network, net_of}
use Rattle.row_model.specs.Boxes.{Box, left_of, right_of}
use Rattle.row_model.specs.Catalogue.{rows}
use Rattle.row_model.specs.Multipliers.{IsInOrder, Part, Proof}
use Rattle.row_model.specs.Trees.{Split, box_of, most_splits}
use Rattle.row_model.specs.Entries.{Entry, root_proof, split_of, improve, Searched}
use Rattle.row_book.proofs.Rising.{no_more}
use Rattle.box_space.specs.declared.coordinates.Form.{Form}
use Rattle.box_tree.specs.Kept.{searched_of}
use Rattle.box_tree.specs.Views.{shown_entry}
use Rattle.work_units.specs.Units.{Answer, node_of}
use Rattle.work_units.specs.Views.{shown_answer}
use Rattle.work_units.specs.declared.answer.Answer as held_answers
use Rattle.work_units.specs.declared.job.Job.{Job}
use Rattle.job_texts.specs.Texts.{Jobs, AreWritten, answers_text}
use Rattle.job_trees.specs.declared.tree.HandedOut.{HandedOut}
use Rattle.job_work.specs.Answered.{AreAnswered, AreWorked, FitDesks, IsAnswerTo}
use Rattle.job_work.specs.Worked.{IsWorked}
use Rattle.job_commands.specs.Ranges.{HasFewParts, SplitsWithFew}
use Rattle.run_status.specs.Reads.{Files, ReadsUnder}
use Rattle.run_status.specs.Took.{printed_by, Took}
use Rattle.run_status.specs.declared.status.Status.{Status}
use Rattle.run_status.specs.declared.status.Status.TheVariants as statuses
use Rattle.run_status.proofs.Parts.{took-part}
use Rattle.job_commands.specs.Handed.{IsHandedOut, IsUnhanded, JobsIn, JobsUnder, most_jobs, RefusesJobsIn, unhanded_status}
use Rattle.job_commands.specs.declared.handed.Unhanded.{Unhanded}
use Rattle.job_commands.specs.declared.handed.Unhanded.TheVariants as unhanded
use Rattle.job_commands.specs.WorkEnds.{AnswersJobs, IsTried, IsWorkOn, WantsUnder, WorkEnds, WorksAs, work_status}
use Rattle.job_commands.specs.declared.working.WorkOutcome.{WorkOutcome}
use Rattle.job_commands.specs.declared.working.WorkOutcome.TheVariants as outcomes
use Rattle.job_commands.proofs.JobFiles.{long-from}

-- what is answered on the tree that was handed out is answered on that of the text
pub work-on : (n : Net) (form : Form) (j : Jobs) (h : HandedOut) (held : List Job) (answers : List Answer) → IsHandedOut n j h → held ≡ h.jobs.items
    → AreAnswered n form h.tree.kept.splits.list held answers → AreWorked n form (searched_of h.tree.kept) held answers
    → (length h.tree.kept.splits.list < most_splits → FitDesks n (searched_of h.tree.kept) held answers) → AreWritten answers → IsWorkOn n form j (answers_text answers)
work-on n form j h held answers is same answered worked fit written =
    let jobs = same ∙ is.jobs in
    record {
      answers = answers;
      answered = subst (λ (xs : List Split). AreAnswered n form xs j.jobs answers) is.splits (subst (λ (js : List Job). AreAnswered n form h.tree.kept.splits.list js answers) jobs answered);
      worked = subst (λ (s : Searched). AreWorked n form s j.jobs answers) is.made (subst (λ (js : List Job). AreWorked n form (searched_of h.tree.kept) js answers) jobs worked);
      fit = λ few.
          let before : length h.tree.kept.splits.list < most_splits = subst (λ (xs : List Split). length xs < most_splits) (sym is.splits) few in
          subst (λ (s : Searched). FitDesks n s j.jobs answers) is.made (subst (λ (js : List Job). FitDesks n (searched_of h.tree.kept) js answers) jobs (fit before));
      spelled = record { are = written; text = refl };
    }

-- ---- what can be counted

abbrev no_part : Part
no_part = record { row = 0; mult = pos 0 }

abbrev no_answer : Answer
no_answer = record { number = 0; entry = root_proof record { scale = 0; parts = [] } }

-- a proof that is in order has at most one part for each row
few-of : (n : Net) (b : Box) (p : Proof) → rows n ≤ 13424 → IsInOrder n b p → HasFewParts p
few-of n b p few is =
    let most : length p.parts ≤ rows n = no_more (λ i. (get_or p.parts i no_part).row) (length p.parts) (rows n) is.rising (λ i below. is.known i no_part below) in
    omega (arith, most, few)

worked-few : (n : Net) (form : Form) (s : Searched) (node : ℕ) (e : Entry) → rows n ≤ 13424 → IsWorked n form s node e → SplitsWithFew e
worked-few n form s node (split_of split left right) few is =
    let b = box_of n s.tree.splits split.leaf in
    (λ p e. few-of n (left_of b split.coord split.cut) p few (is.halves.0.given.in_order p e), λ p e. few-of n (right_of b split.coord split.cut) p few (is.halves.1.given.in_order p e))
worked-few n form s node (root_proof proof) few is = absurd is.splits
worked-few n form s node (improve plan) few is = absurd is.splits

-- the proofs of what is answered have few parts
pub few-parts : (n : Net) (form : Form) (s : Searched) (jobs : List Job) (answers : List held_answers.Answer) → rows n ≤ 13424 → AreWorked n form s jobs (map shown_answer answers)
    → All (λ a. SplitsWithFew (shown_entry a.entry)) answers
few-parts n form s jobs answers few worked = λ k d lt.
    let there : k < length (map shown_answer answers) = omega (arith, length-map answers shown_answer, lt) in
    let is : IsAnswerTo n form s jobs (shown_answer (get_or answers k d)) =
    subst (IsAnswerTo n form s jobs) (get_or-map shown_answer answers k d no_answer lt) (worked k no_answer there) in
    worked-few n form s (node_of jobs (get_or answers k d).number) (shown_entry (get_or answers k d).entry) few is.worked

-- there are no more answers than jobs
pub few-answers : (n : Net) (form : Form) (s : Searched) (splits : List Split) (jobs : List Job) (answers : List held_answers.Answer) → AreAnswered n form splits jobs (map shown_answer answers)
    → AreWorked n form s jobs (map shown_answer answers) → length answers ≤ length jobs
few-answers n form s splits jobs answers answered worked =
    let shown = map shown_answer answers in
    let most : length shown ≤ length jobs =
    no_more (λ i. (get_or shown i no_answer).number) (length shown) (length jobs) (λ i k lt below. answered.ordered i k no_answer lt below) (λ i below. (worked i no_answer below).known) in
    omega (arith, most, length-map answers shown_answer)

-- ---- outcomes

pub tried-not-read : (outcome : WorkOutcome) → IsTried outcome → work_status outcome ≢ statuses.ReadFault
tried-not-read outcomes.Done tried e = cc
tried-not-read (outcomes.Unread why) tried e = absurd tried
tried-not-read (outcomes.Unhanded why) tried e = absurd tried
tried-not-read outcomes.Memory tried e = cc
tried-not-read outcomes.WriteFault tried e = cc

-- nothing was printed
pub took-unhanded : (Answer : Status → List ℕ → Type 0) (why : Unhanded) (taken : Option (List ℕ)) → Took Answer (unhanded_status why) taken taken
took-unhanded Answer unhanded.TooLong taken = refl
took-unhanded Answer (unhanded.Refused line) taken = refl
took-unhanded Answer unhanded.Failed taken = refl
took-unhanded Answer unhanded.Memory taken = refl

pub unhanded-failed : (n : Net) (name : List ℕ) (before after : ShelfTold) (why : Unhanded) → IsUnhanded n name before after why → unhanded_status why ≡ statuses.ReadFault
    → Rose before.faults after.faults
unhanded-failed n name before after unhanded.TooLong h e = absurd (cc)
unhanded-failed n name before after (unhanded.Refused line) h e = absurd (cc)
unhanded-failed n name before after unhanded.Failed h e = h
unhanded-failed n name before after unhanded.Memory h e = absurd (cc)

pub unhanded-not-written : (why : Unhanded) → unhanded_status why ≢ statuses.WriteFault
unhanded-not-written unhanded.TooLong e = cc
unhanded-not-written (unhanded.Refused line) e = cc
unhanded-not-written unhanded.Failed e = cc
unhanded-not-written unhanded.Memory e = cc

-- ---- under the names of files

module _ (files : Option Files) (net jobs : List ℕ) (form : Form) (network : Network) (reads : ReadsUnder files net network) where
  -- jobs that are in the file are jobs under both names
  under : (j : Jobs) → JobsIn files jobs (net_of network) j → JobsUnder files net jobs network j
  under j h = record { reads = reads; jobs_in = h }

  -- what was printed of jobs that were handed out
  pub took-handed : (j : Jobs) (status : Status) (old new : Option (List ℕ)) → JobsIn files jobs (net_of network) j → Took (AnswersJobs (net_of network) form j) status old new
      → Took (WorksAs files net jobs form) status old new
  took-handed j status old new h took =
      took-part (AnswersJobs (net_of network) form j) (WorksAs files net jobs form) (λ s text answers. (network, (j, under j h, answers))) (printed_by status) status old new took

  pub ends-handed : (j : Jobs) (before after : ℕ) (outcome : WorkOutcome) → JobsIn files jobs (net_of network) j → IsTried outcome → WorkEnds files net jobs before after (work_status outcome)
  ends-handed j before after outcomes.Done h tried = (network, (j, under j h))
  ends-handed j before after (outcomes.Unread why) h tried = absurd tried
  ends-handed j before after (outcomes.Unhanded why) h tried = absurd tried
  ends-handed j before after outcomes.Memory h tried = tt
  ends-handed j before after outcomes.WriteFault h tried = (network, (j, under j h))

  pub wants-handed : (j : Jobs) (outcome : WorkOutcome) → JobsIn files jobs (net_of network) j → IsTried outcome → work_status outcome ≡ statuses.OutOfMemory
      → WantsUnder files net jobs outcome
  wants-handed j outcomes.Done h tried e = absurd (cc)
  wants-handed j (outcomes.Unread why) h tried e = absurd tried
  wants-handed j (outcomes.Unhanded why) h tried e = absurd tried
  wants-handed j outcomes.Memory h tried e = (network, (j, under j h))
  wants-handed j outcomes.WriteFault h tried e = absurd (cc)

  -- none were handed out
  pub ends-unhanded : (start : ℕ) (before after : ShelfTold) (why : Unhanded) → files ≡ before.files → Grows start before.taken → IsUnhanded (net_of network) jobs before after why
      → WorkEnds files net jobs start after.taken (unhanded_status why)
  ends-unhanded start before after unhanded.TooLong same grows h = record {
    network = network;
    reads = reads;
    more = long-from files jobs start before.taken after.taken grows (subst (λ (f : Option Files). IsTooLong f jobs most_jobs before.taken after.taken) (sym same) h);
  }
  ends-unhanded start before after (unhanded.Refused line) same grows h = record {
    network = network;
    reads = reads;
    refused = subst (λ (f : Option Files). RefusesJobsIn f jobs (net_of network) line) (sym same) h;
  }
  ends-unhanded start before after unhanded.Failed same grows h = tt
  ends-unhanded start before after unhanded.Memory same grows h = tt

  pub wants-unhanded : (why : Unhanded) → unhanded_status why ≡ statuses.OutOfMemory → WantsUnder files net jobs (outcomes.Unhanded why)
  wants-unhanded unhanded.TooLong e = absurd (cc)
  wants-unhanded (unhanded.Refused line) e = absurd (cc)
  wants-unhanded unhanded.Failed e = absurd (cc)
  wants-unhanded unhanded.Memory e = (refl, (network, reads))
