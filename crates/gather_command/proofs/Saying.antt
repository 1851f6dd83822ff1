-- Files of answers, read one after another.
use Rattle.std.proofs.Common.{◌≡◌, ◌⊎◌, inl, inr, ℕ, ◌<◌, ◌+◌, arith, List, [], ◌∷◌, ◌++◌, length, take, get_or, Option, Result, Ok, Err, refl, sym, subst, ◌∙◌}
use Rattle.std.specs.Prelude.{◌≤◌, map, All, Contains, IfOk, IfErr}
use Rattle.std.proofs.lemmas.List.{get_or-map, length-map, map_more}
use Rattle.std.proofs.lemmas.List.Elements.{All-cons, All-contains, All-nil, Contains-get_or}
use Rattle.edge_io.specs.Counts.{Rose}
use Rattle.edge_io.proofs.Counting.{rose-behind}
use Rattle.shelf_calls.specs.Files.{HasFile, IsTooLong}
use Rattle.shelf_calls.specs.Told.{ShelfTold, Keeps}
use Rattle.shelf_calls.specs.declared.fault.ShelfFault.{ShelfFault}
use Rattle.shelf_calls.specs.declared.fault.ShelfFault.TheVariants as shelf
use Rattle.gathered_run.specs.declared.files.AnswersFile.{AnswersFile}
use Rattle.pool_model.specs.Network.{Net, Network, net_of}
use Rattle.job_texts.specs.Texts.{Jobs}
use Rattle.run_status.specs.Reads.{Files, ReadsUnder}
use Rattle.job_commands.specs.Handed.{IsUnhanded, JobsIn, JobsUnder, RefusesJobsIn, most_jobs}
use Rattle.job_commands.specs.declared.handed.Unhanded.{Unhanded}
use Rattle.job_commands.specs.declared.handed.Unhanded.TheVariants as unhanded
use Rattle.job_commands.proofs.JobFiles.{long-from}
use Rattle.gather_command.specs.Answers.{Say, SaysUnder, SayUnder, IsUnsaid}

-- one more file
pub say-more : (files : Option Files) (names : List (List ℕ)) (said : List AnswersFile) (name : List ℕ) (one : AnswersFile) → SayUnder files names said → SaysUnder files name one
    → SayUnder files (names ++ name ∷ []) (said ++ one ∷ [])
say-more files [] [] name one h last = (last, tt)
say-more files [] (s ∷ said) name one h last = absurd h
say-more files (m ∷ names) [] name one h last = absurd h
say-more files (m ∷ names) (s ∷ said) name one h last = (h.0, say-more files names said name one h.1 last)

-- each of them says something
say-each : (files : Option Files) (names : List (List ℕ)) (said : List AnswersFile) → SayUnder files names said → All (λ name. (one : AnswersFile) × SaysUnder files name one) names
say-each files [] said h = All-nil (λ name. (one : AnswersFile) × SaysUnder files name one)
say-each files (m ∷ names) [] h = absurd h
say-each files (m ∷ names) (s ∷ said) h = All-cons (λ name. (one : AnswersFile) × SaysUnder files name one) m names (s, h.0) (say-each files names said h.1)

pub say-of : (files : Option Files) (names : List (List ℕ)) (said : List AnswersFile) (name : List ℕ) → SayUnder files names said → Contains names name → (one : AnswersFile) × SaysUnder files name one
say-of files names said name h is = All-contains (λ n. (one : AnswersFile) × SaysUnder files n one) names name (say-each files names said h) is

-- why one is not read, from an earlier moment on
pub unsaid-from : (name : List ℕ) (start before after : ShelfTold) (fault : ShelfFault) → Keeps start before → IsUnsaid name before after fault → IsUnsaid name start after fault
unsaid-from name start before after shelf.Failed keeps h = rose-behind start.faults before.faults after.faults keeps.faults_grow h
unsaid-from name start before after shelf.TooLong keeps h =
    long-from start.files name start.taken before.taken after.taken keeps.taken_grows
    (subst (λ (f : Option Files). IsTooLong f name most_jobs before.taken after.taken) keeps.same_files h)
unsaid-from name start before after shelf.Memory keeps h = tt

-- one more of the names in order
pub say-step : {X : Type 0} (files at : Option Files) (view : X → List ℕ) (names : List X) (i : ℕ) (d : X) (said after : List AnswersFile) (one : AnswersFile) (name : List ℕ) → i < length names
    → name ≡ view (get_or names i d) → at ≡ files → SayUnder files (map view (take i names)) said → SaysUnder at name one → after ≡ said ++ one ∷ []
    → SayUnder files (map view (take (i + 1) names)) after
say-step {X} files at view names i d said after one name lt is same h last items =
    subst (λ (fs : List AnswersFile). SayUnder files (map view (take (i + 1) names)) fs) (sym items)
    (subst (λ (ns : List (List ℕ)). SayUnder files ns (said ++ one ∷ [])) (sym (map_more view names i d lt))
    (say-more files (map view (take i names)) said (view (get_or names i d)) one h
    (subst (λ (n : List ℕ). SaysUnder files n one) is (subst (λ (f : Option Files). SaysUnder f name one) same last))))

-- a name at its place
pub name-at : {X : Type 0} (view : X → List ℕ) (xs : List X) (i : ℕ) (d : X) (name : List ℕ) → i < length xs → name ≡ view (get_or xs i d) → Contains (map view xs) name
name-at view xs i d name lt is =
    subst (Contains (map view xs)) (get_or-map view xs i d (view d) lt ∙ sym is) (Contains-get_or (map view xs) i (view d) (omega (arith, length-map xs view, lt)))

-- a call that did not fail left the count of faults as it was
pub ok-quiet : {X E Same : Type 0} {x : X} {e : E} → (◌≡◌ {A = Result X E} (Ok x) (Err e)) ⊎ Same → Same
ok-quiet (inl e) = absurd cc
ok-quiet (inr same) = same

-- ---- one file

module _ (files : Option Files) (name bytes : List ℕ) where
  pub says-in : (r : Result AnswersFile ShelfFault) → HasFile files name bytes → length bytes ≤ most_jobs → IfOk r (Say bytes) → IfOk r (SaysUnder files name)
  says-in (Ok said) file short h = record { bytes = bytes; file = file; short = short; say = h }
  says-in (Err fault) file short h = tt

pub unsaid-in : (name : List ℕ) (before after : ShelfTold) (r : Result AnswersFile ShelfFault) → IfErr r (λ fault. fault ≡ shelf.Memory) → IfErr r (IsUnsaid name before after)
unsaid-in name before after (Ok said) h = tt
unsaid-in name before after (Err fault) h = subst (IsUnsaid name before after) (sym h) tt

-- what a shelf that gives no bytes says is why a file is not read
pub unsaid-shelf : (name : List ℕ) (before after : ShelfTold) (fault : ShelfFault) → (fault ≡ shelf.Failed → Rose before.faults after.faults)
    → (fault ≡ shelf.TooLong → IsTooLong before.files name most_jobs before.taken after.taken) → IsUnsaid name before after fault
unsaid-shelf name before after shelf.Failed rose more = rose refl
unsaid-shelf name before after shelf.TooLong rose more = more refl
unsaid-shelf name before after shelf.Memory rose more = tt

-- ---- calls of the shelf before

-- why none are handed out, from an earlier moment on
pub unhanded-from : (n : Net) (name : List ℕ) (start before after : ShelfTold) (why : Unhanded) → Keeps start before → IsUnhanded n name before after why → IsUnhanded n name start after why
unhanded-from n name start before after unhanded.TooLong keeps h =
    long-from start.files name start.taken before.taken after.taken keeps.taken_grows
    (subst (λ (f : Option Files). IsTooLong f name most_jobs before.taken after.taken) keeps.same_files h)
unhanded-from n name start before after (unhanded.Refused line) keeps h = subst (λ (f : Option Files). RefusesJobsIn f name n line) keeps.same_files h
unhanded-from n name start before after unhanded.Failed keeps h = rose-behind start.faults before.faults after.faults keeps.faults_grow h
unhanded-from n name start before after unhanded.Memory keeps h = tt

-- jobs that were handed out then are those in the file
pub under-kept : (net jobs : List ℕ) (network : Network) (j : Jobs) (start before : ShelfTold) → Keeps start before → ReadsUnder start.files net network
    → JobsIn before.files jobs (net_of network) j → JobsUnder start.files net jobs network j
under-kept net jobs network j start before keeps reads h = record { reads = reads; jobs_in = subst (λ (f : Option Files). JobsIn f jobs (net_of network) j) keeps.same_files h }
