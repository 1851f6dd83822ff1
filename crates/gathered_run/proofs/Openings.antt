-- From the file that is attached to the desk, and why there is none.
use Rattle.std.proofs.Common.{◌≡◌, ◌⊎◌, inl, inr, ℕ, List, [], ◌∷◌, ◌++◌, map, Some, Bool, true≢false, false, Result, Err, refl, sym, ap, subst, ◌∙◌}
use Rattle.std.specs.Prelude.{IsTrue}
use Rattle.disk_calls.specs.Disks.{DiskTold}
use Rattle.pool_model.specs.Network.{Net}
use Rattle.row_model.specs.Trees.{Split}
use Rattle.row_model.specs.Entries.{Entry, Searched, start, after, made_from, made_by, AreInOrder}
use Rattle.box_tree.specs.Kept.{Held, searched_of}
use Rattle.journal_format.specs.Files.{Stands}
use Rattle.journal_format.specs.declared.fault.JournalFault.TheVariants.{Disk, Memory}
use Rattle.journal_format.proofs.OwnFiles.{one_standing}
use Rattle.recorded_run.specs.Recorded as recorded
use Rattle.recorded_run.specs.Recorded.{StandsNow}
use Rattle.recorded_run.specs.declared.fault.RunFault.{RunFault}
use Rattle.recorded_run.specs.declared.fault.RunFault.TheVariants.{Journal}
use Rattle.recorded_run.proofs.Causes.{no_cause}
use Rattle.work_units.specs.Units.{Answer}
use Rattle.work_units.specs.Desks.{Desk, Kept, desk_of, entries_of}
use Rattle.work_units.specs.Deliveries.{Delivery, after_all, fitting}
use Rattle.work_units.specs.declared.job.Job.{Job}
use Rattle.gathered_run.specs.Files.{Item}
use Rattle.gathered_run.specs.Events.{Event, line_of, gains, deliveries, desk_after, AreJudged}
use Rattle.gathered_run.specs.Gatherings.{BeginWith, begun, IsGathered, IsReached, IsBrokenOff}
use Rattle.gathered_run.specs.Causes.{IsOfOtherTree, IsCause, IsFreeFault}
use Rattle.gathered_run.specs.Steps.{AreTaken, IsStopped}
use Rattle.gathered_run.specs.declared.fault.GatherFault.{GatherFault}
use Rattle.gathered_run.specs.declared.fault.GatherFault.TheVariants.{Run, OtherTree}
use Rattle.gathered_run.specs.declared.gathering.Gathering.{Gathering}
use Rattle.gathered_run.specs.declared.told.Gathered.{Gathered}
use Rattle.gathered_run.proofs.Stopping.{reached-none}

-- ---- the desk

-- a desk before any answer, over the tree of these entries
pub begun-is : (k : Kept) (tree : Held) (jobs : List Job) (first : List Entry) → k.tree ≡ tree → k.jobs ≡ jobs → k.taken ≡ [] → searched_of tree.kept ≡ made_by first
    → desk_of k ≡ begun first jobs
begun-is k tree jobs first is jobs_are none made =
    ap (λ (t : Held). record { searched = searched_of t.kept; jobs = k.jobs; taken = k.taken }) is
    ∙ ap (λ (s : Searched). record { searched = s; jobs = k.jobs; taken = k.taken }) made
    ∙ ap (λ (j : List Job). record { searched = made_by first; jobs = j; taken = k.taken }) jobs_are
    ∙ ap (λ (t : List Answer). record { searched = made_by first; jobs = jobs; taken = t }) none

-- what answers bring that fit stands among those that were taken
pub taken_by : (k after_all_k : Kept) (events : List Event) → ((d : Desk) (xs : List Delivery) → (after_all d xs).taken ≡ d.taken ++ fitting xs) → k.taken ≡ []
    → desk_of after_all_k ≡ desk_after (desk_of k) events → entries_of after_all_k.taken ≡ gains events
taken_by k after_all_k events law none is =
    ap (λ (d : Desk). entries_of d.taken) is ∙ ap entries_of (law (desk_of k) (deliveries events) ∙ ap (λ (t : List Answer). t ++ fitting (deliveries events)) none)

-- splits that are found not to begin with others
pub not_begun : (b : Bool) (B : Type 0) → (B → IsTrue b) → b ≡ false → B → ⊥
not_begun b B holds fails is = true≢false (sym (holds is) ∙ fails)

made-behind : (s : Searched) (xs ys : List Entry) → made_from s (xs ++ ys) ≡ made_from (made_from s xs) ys
made-behind s [] ys = refl
made-behind s (x ∷ xs) ys = made-behind (after s x) xs ys

-- what deliveries make of a desk: which answers are taken, and the tree
abbrev pub AreLaws : Type 0
AreLaws = ((d : Desk) (xs : List Delivery) → (after_all d xs).taken ≡ d.taken ++ fitting xs)
    × ((d : Desk) (xs : List Delivery) → (after_all d xs).searched ≡ made_from d.searched (entries_of (fitting xs)))

pub gathered-by : (n : Net) (text : List ℕ) (splits : List Split) (jobs : List Job) (items : List Item) (d mid new : DiskTold) (first : List Entry) (was now : Gathering) (g : Gathered) → AreLaws
    → AreInOrder n first → ((file : List ℕ) → d.reads ≡ Some file → Stands file text first) → BeginWith (made_by first).tree.splits splits
    → desk_of was.desk ≡ begun first jobs → was.lines.items ≡ [] → g.lines ≡ now.lines → g.desk ≡ now.desk → AreTaken n items was now mid new
    → IsGathered n text splits jobs items d g
gathered-by n text splits jobs items d mid new first was now g laws are stands same began none lines desk taken =
    let now_is = ap desk_of desk ∙ taken.desk ∙ ap (λ (e : Desk). desk_after e taken.events) began in
    record {
      first = first;
      in_order = are;
      stands = stands;
      same_tree = same;
      events = taken.events;
      of_files = taken.of_items;
      lines = ap (λ l. l.items) lines ∙ taken.lines ∙ ap (λ l. l ++ map line_of taken.events) none;
      judged = subst (λ (e : Desk). AreJudged n e taken.events) began taken.judged;
      desk = now_is;
      taken = ap (λ (e : Desk). entries_of e.taken) now_is ∙ ap entries_of (laws.0 (begun first jobs) (deliveries taken.events));
      tree = ap (λ (e : Desk). e.searched) now_is ∙ laws.1 (begun first jobs) (deliveries taken.events)
          ∙ sym (made-behind start first (gains taken.events));
    }

-- ---- causes

-- what stands for entries whose tree begins with the splits is no cause
pub no_gather_cause : (n : Net) (text : List ℕ) (splits : List Split) (file : List ℕ) (list : List Entry) (cause : GatherFault) → Stands file text list → AreInOrder n list
    → BeginWith (made_by list).tree.splits splits → ¬ IsCause n text splits file cause
no_gather_cause n text splits file list (Run fault) stands are same has = no_cause n text file list fault stands are has
no_gather_cause n text splits file list OtherTree stands are same has =
    has.other (subst (λ (l : List Entry). BeginWith (made_by l).tree.splits splits) (one_standing file text list has.list stands has.stands) same)

-- the tree of what the file stands for is another
pub other-cause : (n : Net) (text : List ℕ) (splits : List Split) (file : List ℕ) (list : List Entry) → Stands file text list → AreInOrder n list
    → ¬ BeginWith (made_by list).tree.splits splits → IsOfOtherTree n text splits file
other-cause n text splits file list stands are other = record { list = list; stands = stands; in_order = are; other = other }

-- and that is its one cause
pub other-decided : (n : Net) (text : List ℕ) (splits : List Split) (file : List ℕ) (list : List Entry) (cause : GatherFault) → Stands file text list → AreInOrder n list
    → IsCause n text splits file cause → OtherTree ≡ cause
other-decided n text splits file list (Run fault) stands are has = absurd (no_cause n text file list fault stands are has)
other-decided n text splits file list OtherTree stands are has = refl

-- where the journal gives no tree, that is the cause
pub run-decided : (n : Net) (text : List ℕ) (splits : List Split) (file : List ℕ) (fault : RunFault) (cause : GatherFault) → recorded.IsFreeFault fault ⊎ recorded.IsCause n text file fault
    → ((other : RunFault) → recorded.IsCause n text file other → recorded.IsFreeFault fault ⊎ (fault ≡ other)) → IsCause n text splits file cause
    → IsFreeFault (Run fault) ⊎ (Run fault ≡ cause)
run-decided n text splits file fault (Run other) refused decided has = elim (decided other has) [ inl free ↦ inl free | inr e ↦ inr (ap Run e) ]
run-decided n text splits file fault OtherTree refused decided has = elim refused [
  | inl free ↦ inl free
  | inr cause ↦ absurd (no_cause n text file has.list fault has.stands has.in_order cause)
]

-- ---- what is known of the last list where nothing is answered

run-other : (fault : RunFault) → Run fault ≡ OtherTree → ⊥
run-other fault e = cc

run-same : (fault other : RunFault) → Run fault ≡ Run other → fault ≡ other
run-same fault other e = cc

-- a fault of the disk is that of the run
pub disk-of : {T : Type 0} (r : Result T GatherFault) (fault : RunFault) → r ≡ Err (Run fault) → r ≡ Err (Run (Journal Disk)) → fault ≡ Journal Disk
disk-of r fault is disk = cc

-- nothing was recorded
pub broken-none : (n : Net) (text : List ℕ) (jobs : List Job) (items : List Item) (first : List Entry) (new : DiskTold) (fault : GatherFault)
    → ((fault ≡ OtherTree) ⊎ (fault ≡ Run (Journal Memory)) → StandsNow n text first new) → IsBrokenOff n text jobs items first first new fault
broken-none n text jobs items first new fault stands = record { reached = reached-none n (begun first jobs) items first; unchanged = λ e. refl; stands = stands }

-- there was no tree
pub broken-unopened : (n : Net) (text : List ℕ) (jobs : List Job) (items : List Item) (first : List Entry) (new : DiskTold) (fault : RunFault)
    → (fault ≡ Journal Memory → StandsNow n text first new) → IsBrokenOff n text jobs items first first new (Run fault)
broken-unopened n text jobs items first new fault stands = broken-none n text jobs items first new (Run fault) (λ why. elim why [
  | inl other ↦ absurd (run-other fault other)
  | inr memory ↦ stands (run-same fault (Journal Memory) memory)
])

-- it failed among the answers
pub broken-stopped : (n : Net) (text : List ℕ) (jobs : List Job) (items : List Item) (was : Gathering) (first : List Entry) (mid new : DiskTold) (fault : RunFault)
    → desk_of was.desk ≡ begun first jobs → (at : IsStopped n text items was first mid new fault) → IsBrokenOff n text jobs items first at.last new (Run fault)
broken-stopped n text jobs items was first mid new fault began at = record {
  reached = subst (λ (d : Desk). IsReached n d items first at.last) began at.reached;
  unchanged = λ other. absurd (run-other fault other);
  stands = λ why. elim why [
    | inl other ↦ absurd (run-other fault other)
    | inr memory ↦ at.stands (run-same fault (Journal Memory) memory)
  ];
}
