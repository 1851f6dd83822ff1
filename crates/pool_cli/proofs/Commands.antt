-- What is asked is one thing, and a run on it is what it was.
use Rattle.std.proofs.Common.{◌≡◌, ◌⊎◌, ℕ, List, Option, String, inl, inr, map, string_bytes, refl, sym, subst, ◌∙◌}
use Rattle.std.proofs.lemmas.Bool.{cases_lt}
use Rattle.std.specs.declared.alloc.Global.{Global}
use Rattle.box_space.specs.declared.coordinates.Form.{Form}
use Rattle.disk_calls.specs.Disks.{DiskTold}
use Rattle.cli_words.specs.Requests.{Asked, solve, check, report, formulate, make, trial, jobs, work, gather, tight, checktight}
use Rattle.run_status.specs.Reads.{Files}
use Rattle.run_status.specs.Took.{Took}
use Rattle.run_status.specs.declared.status.Status.{Status}
use Rattle.run_status.specs.declared.status.Status.TheVariants as statuses
use Rattle.certificate_commands.specs.CheckEnds.{CheckEnds}
use Rattle.certificate_commands.specs.ReportEnds.{ReportEnds}
use Rattle.solve_command.specs.SolveEnds.{SolveEnds}
use Rattle.job_commands.specs.JobsEnds.{JobsEnds}
use Rattle.job_commands.specs.WorkEnds.{WorkEnds}
use Rattle.gather_command.specs.GatherEnds.{GatherEnds}
use Rattle.tight_commands.specs.CheckTightEnds.{CheckTightEnds}
use Rattle.tight_commands.specs.Marked.{most_pivots}
use Rattle.tight_commands.specs.TightEnds.{TightEnds}
use Rattle.pool_cli.specs.Ends.{AnswersAs, EndsAs, IsAdmitted, IsUnanswered, LeavesAs, OrNoWords, named}
use Rattle.pool_cli.specs.FormulateEnds.{FormulateEnds}
use Rattle.pool_cli.specs.MakeEnds.{MakeEnds}
use Rattle.pool_cli.specs.TrialEnds.{TrialEnds}

-- ---- the same of what is asked, and of the status

-- what may be asked of shelf and disk
pub admitted_as : {asked other : Asked} → asked ≡ other → (Shelf Disk : List ℕ → Type 0) (files : Option Files) → IsAdmitted Shelf Disk files asked → IsAdmitted Shelf Disk files other
admitted_as same Shelf Disk files h = subst (λ (x : Asked). IsAdmitted Shelf Disk files x) same h

pub took_as : {asked other : Asked} {status end : Status} → asked ≡ other → status ≡ end → (files : Option Files) (old new : Option (List ℕ))
    → Took (AnswersAs files other) end old new → Took (AnswersAs files asked) status old new
took_as {asked} {other} {status} {end} same is files old new h =
    subst (λ (x : Asked). Took (AnswersAs files x) status old new) (sym same) (subst (λ (x : Status). Took (AnswersAs files other) x old new) (sym is) h)

pub ends_as : {asked other : Asked} {status end : Status} → asked ≡ other → status ≡ end → (files : Option Files) (before after : ℕ)
    → EndsAs files before after other end → EndsAs files before after asked status
ends_as {asked} {other} {status} {end} same is files before after h =
    subst (λ (x : Asked). EndsAs files before after x status) (sym same) (subst (λ (x : Status). EndsAs files before after other x) (sym is) h)

pub leaves_as : {asked other : Asked} {status end : Status} → asked ≡ other → status ≡ end → (files : Option Files) (old new : DiskTold) (before after : Option (List ℕ))
    → LeavesAs files old new before after other end → LeavesAs files old new before after asked status
leaves_as {asked} {other} {status} {end} same is files old new before after h =
    subst (λ (x : Asked). LeavesAs files old new before after x status) (sym same) (subst (λ (x : Status). LeavesAs files old new before after other x) (sym is) h)

-- the same jobs, the same work and the same gathering, by names that were handed on
pub handing : (net journal a d : List ℕ) (count : ℕ) → a ≡ net → d ≡ journal → jobs net journal count ≡ jobs a d count
handing net journal a d count e f = rw (e, f) refl

pub working : (net file a b : List ℕ) (form : Form) → a ≡ net → b ≡ file → work net file form ≡ work a b form
working net file a b form e f = rw (e, f) refl

pub gathering : (net file journal a b d : List ℕ) (answers given : List (String Global)) → a ≡ net → b ≡ file → given ≡ answers → d ≡ journal
    → gather net file (map string_bytes answers) journal ≡ gather a b (map string_bytes given) d
gathering net file journal a b d answers given e f h i = rw (e, f, h, i) refl

-- the same marking and the same check of marks
pub marking : (net cert a b : List ℕ) (form : Form) (pivots : ℕ) → a ≡ net → b ≡ cert → tight net cert form pivots ≡ tight a b form pivots
marking net cert a b form pivots e f = rw (e, f) refl

pub judging : (net cert marks a b d : List ℕ) → a ≡ net → b ≡ cert → d ≡ marks → checktight net cert marks ≡ checktight a b d
judging net cert marks a b d e f h = rw (e, f, h) refl

-- the shelf failed, or its count of faults is as it was
pub quiet_as : {status end : Status} {Same : Type 0} → status ≡ end → (end ≡ statuses.ReadFault) ⊎ Same → (status ≡ statuses.ReadFault) ⊎ Same
quiet_as is (inl failed) = inl (is ∙ failed)
quiet_as is (inr same) = inr same

-- ---- what a run on a request is not

-- usage is neither a budget that is too large nor want of memory
no_budget : (statuses.Usage ≡ statuses.BudgetTooLarge) → ⊥
no_budget e = cc

no_want : (statuses.OutOfMemory ≡ statuses.Usage) → ⊥
no_want e = cc

-- `tight` never ends with usage, within its pivots or above
tight_is_answered : (files : Option Files) (net cert : List ℕ) (pivots before after : ℕ) → TightEnds files net cert pivots before after statuses.Usage → ⊥
tight_is_answered files net cert pivots before after h = elim (cases_lt most_pivots pivots) [ inl above ↦ no_budget (h.above above) | inr le ↦ h.within le ]

no_usage_of_tight : (files : Option Files) (net cert : List ℕ) (pivots before after : ℕ) (status : Status) → OrNoWords status (TightEnds files net cert pivots before after status)
    → status ≡ statuses.Usage → ⊥
no_usage_of_tight files net cert pivots before after status (inl h) e = tight_is_answered files net cert pivots before after (subst (TightEnds files net cert pivots before after) e h)
no_usage_of_tight files net cert pivots before after status (inr memory) e = no_want (sym memory ∙ e)

-- what is asked for is answered: it is no usage
pub no_usage : (files : Option Files) (before after : ℕ) (asked : Asked) (status : Status) → EndsAs files before after asked status → status ≡ statuses.Usage → ⊥
no_usage files before after (solve s) status h e = subst (SolveEnds files s before after) e h
no_usage files before after (check net cert) status h e = subst (CheckEnds files net cert before after) e h
no_usage files before after (report net cert) status h e = subst (ReportEnds files net cert before after) e h
no_usage files before after (formulate net form) status h e = subst (FormulateEnds files net before after) e h
no_usage files before after (make number) status h e = subst MakeEnds e h
no_usage files before after (trial number) status h e = subst TrialEnds e h
no_usage files before after (jobs net journal count) status h e = subst (JobsEnds files net before after) e h
no_usage files before after (work net file form) status h e = subst (WorkEnds files net file before after) e h
no_usage files before after (gather net file answers journal) status h e = subst (GatherEnds files (named net file answers) before after) e h
no_usage files before after (tight net cert form pivots) status h e = no_usage_of_tight files net cert pivots before after status h e
no_usage files before after (checktight net cert marks) status h e = subst (CheckTightEnds files net cert marks before after) e h

-- a run that gives no answer prints nothing
pub nothing_told : (Answer : Status → List ℕ → Type 0) (status : Status) (old new : Option (List ℕ)) → IsUnanswered status → Took Answer status old new → new ≡ old
nothing_told Answer statuses.Usage old new un h = h
nothing_told Answer statuses.OutOfMemory old new un h = h
nothing_told Answer status old new un h = absurd un
