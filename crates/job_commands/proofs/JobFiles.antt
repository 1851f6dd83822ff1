-- A file spells jobs in one way, and one that is refused is refused at one line and spells no jobs that fit.
use Rattle.std.proofs.Common.{◌≡◌, ℕ, ◌<◌, ◌≤◌, inl, inr, List, [], ◌∷◌, ◌++◌, length, map, Option, None, Some, Result, Ok, Err, IfOk, IfErr, refl, sym, ap, subst, ◌∙◌, append_assoc, arith}
use Rattle.std.proofs.lemmas.Bool.{cases_lt, cases_order}
use Rattle.std.proofs.lemmas.List.{append-nil}
use Rattle.edge_io.specs.Counts.{Grows, Rose}
use Rattle.shelf_calls.specs.Files.{file_of, HasFile, IsTooLong}
use Rattle.shelf_calls.specs.Told.{ShelfTold}
use Rattle.shelf_calls.specs.declared.fault.ShelfFault.{ShelfFault}
use Rattle.shelf_calls.specs.declared.fault.ShelfFault.TheVariants as shelf
use Rattle.pool_model.specs.Network.{Net, Network, net_of}
use Rattle.row_model.specs.Trees.{Split}
use Rattle.row_model.specs.Entries.{Searched, start, after, made_from, made_by}
use Rattle.cert_text.specs.Lines.{IsFaultyLine, line_feeds, first_lines}
use Rattle.cert_text.proofs.LineLemmas.{first_lines-front}
use Rattle.cert_text.proofs.Laws.{one_spelling}
use Rattle.job_texts.specs.Texts.{Jobs, AreJobs, jobs_text}
use Rattle.job_texts.specs.Reading.{jobs_at}
use Rattle.job_texts.proofs.JobLaws.{jobs_reads}
use Rattle.cert_text.specs.Results.{IsFaultIn}
use Rattle.cert_text.specs.declared.fault.ReadFault.{ReadFault}
use Rattle.cert_text.specs.declared.fault.ReadFault.TheVariants as read_faults
use Rattle.job_trees.specs.Fitting.{Fits, bare}
use Rattle.job_trees.specs.declared.fault.JobsFault.{JobsFault}
use Rattle.job_trees.specs.declared.fault.JobsFault.TheVariants as jobs_faults
use Rattle.job_trees.specs.declared.tree.HandedOut.{HandedOut}
use Rattle.run_status.specs.Reads.{Files}
use Rattle.run_status.proofs.Networks.{one_network, some_same}
use Rattle.job_commands.specs.Handed.{AreRefused, HandsOut, IsHandedOut, IsRefusalOf, IsUnhanded, LongJobsUnder, most_jobs, JobsUnder, RefusesJobsUnder, SpellsJobs}
use Rattle.job_commands.specs.Handed.{misfit_as, unhanded_by, unread_as}
use Rattle.job_commands.specs.declared.handed.Unhanded.{Unhanded}
use Rattle.job_commands.specs.declared.handed.Unhanded.TheVariants as unhanded

-- ---- faulty lines

-- no later line is the faulty one
none_later : (X : Type 0) (Is : X → Type 0) (text_of : X → List ℕ) (bytes : List ℕ) (a b : ℕ) → IsFaultyLine X Is text_of bytes a → IsFaultyLine X Is text_of bytes b → ¬ (a < b)
none_later X Is text_of bytes a b f g lt = elim (cases_lt (line_feeds bytes) a) [
  | inl past ↦ let first = (f.at_the_rest past).0 in let second = (g.at_the_rest (omega arith)).0 in omega arith
  | inr le ↦ f.here le (g.before a lt)
]

-- a text has one faulty line
one_line : (X : Type 0) (Is : X → Type 0) (text_of : X → List ℕ) (bytes : List ℕ) (a b : ℕ) → IsFaultyLine X Is text_of bytes a → IsFaultyLine X Is text_of bytes b → a ≡ b
one_line X Is text_of bytes a b f g = elim (cases_order a b) [
  | inl e ↦ e
  | inr (inl lt) ↦ absurd (none_later X Is text_of bytes a b f g lt)
  | inr (inr lt) ↦ absurd (none_later X Is text_of bytes b a g f lt)
]

-- ---- bytes

pub spells-same : (bytes : List ℕ) (j k : Jobs) → SpellsJobs bytes j → SpellsJobs bytes k → j ≡ k
spells-same bytes j k h i = (one_spelling Jobs AreJobs jobs_text jobs_at jobs_reads j k [] [] h.are i.are (ap (λ (t : List ℕ). t ++ []) (sym h.text ∙ i.text))).0

-- a text with a faulty line is that of no jobs
no-jobs : (bytes : List ℕ) (line : ℕ) (j : Jobs) → IsFaultyLine Jobs AreJobs jobs_text bytes line → ¬ SpellsJobs bytes j
no-jobs bytes line j faulty spelled = elim (cases_lt (line_feeds bytes) line) [
  | inl lt ↦ (faulty.at_the_rest lt).1 (j, spelled.are, spelled.text)
  | inr le ↦ let m = first_lines-front line bytes [] le in faulty.here le (j, m.0, spelled.are, sym spelled.text ∙ m.1 ∙ ap (λ (b : List ℕ). first_lines line b ++ m.0) (append-nil bytes))
]

-- bytes that are refused spell no jobs that fit
pub refused-unfit : (n : Net) (bytes : List ℕ) (line : ℕ) (j : Jobs) → AreRefused n bytes line → SpellsJobs bytes j → Fits n j → ⊥
refused-unfit n bytes line j (inl faulty) spelled fits = no-jobs bytes line j faulty spelled
refused-unfit n bytes line j (inr h) spelled fits = h.1.2 (subst (Fits n) (spells-same bytes j h.1.0 spelled h.1.1) fits)

-- they are refused at one line
pub refused-same : (n : Net) (bytes : List ℕ) (a b : ℕ) → AreRefused n bytes a → AreRefused n bytes b → a ≡ b
refused-same n bytes a b (inl f) (inl g) = one_line Jobs AreJobs jobs_text bytes a b f g
refused-same n bytes a b (inl f) (inr h) = absurd (no-jobs bytes a h.1.0 f h.1.1)
refused-same n bytes a b (inr h) (inl f) = absurd (no-jobs bytes b h.1.0 f h.1.1)
refused-same n bytes a b (inr h) (inr k) = h.0 ∙ sym k.0

-- ---- files

module _ (told : Files) (net jobs : List ℕ) where
  short-not-long : (bytes : List ℕ) (before after : ℕ) → HasFile (Some told) jobs bytes → length bytes ≤ most_jobs → LongJobsUnder (Some told) net jobs before after → ⊥
  short-not-long bytes before after file short l =
      let same = some_same (file_of told jobs) bytes l.more.bytes file l.more.are in
      omega (arith, l.more.more, short, ap (λ (b : List ℕ). length b) same)

  pub handed-not-long : (n : Network) (j : Jobs) (before after : ℕ) → JobsUnder (Some told) net jobs n j → LongJobsUnder (Some told) net jobs before after → ⊥
  handed-not-long n j before after h l = short-not-long h.jobs_in.bytes before after h.jobs_in.file h.jobs_in.short l

  pub refused-not-long : (line before after : ℕ) → RefusesJobsUnder (Some told) net jobs line → LongJobsUnder (Some told) net jobs before after → ⊥
  refused-not-long line before after h l = short-not-long h.refused.bytes before after h.refused.file h.refused.short l

  pub handed-not-refused : (n : Network) (j : Jobs) (line : ℕ) → JobsUnder (Some told) net jobs n j → RefusesJobsUnder (Some told) net jobs line → ⊥
  handed-not-refused n j line h r =
      let file = some_same (file_of told jobs) h.jobs_in.bytes r.refused.bytes h.jobs_in.file r.refused.file in
      refused-unfit (net_of r.network) r.refused.bytes line j r.refused.refused (subst (λ (b : List ℕ). SpellsJobs b j) file h.jobs_in.spelled)
      (subst (λ (m : Network). Fits (net_of m) j) (one_network told net n r.network h.reads r.reads) h.jobs_in.fits)

  pub one-refusal : (a b : ℕ) → RefusesJobsUnder (Some told) net jobs a → RefusesJobsUnder (Some told) net jobs b → a ≡ b
  one-refusal a b r s =
      let file = some_same (file_of told jobs) r.refused.bytes s.refused.bytes r.refused.file s.refused.file in
      refused-same (net_of s.network) s.refused.bytes a b
      (subst (λ (m : Network). AreRefused (net_of m) s.refused.bytes a) (one_network told net r.network s.network r.reads s.reads)
      (subst (λ (x : List ℕ). AreRefused (net_of r.network) x a) file r.refused.refused)) s.refused.refused

-- ---- bytes that were read

splits-from : (s : Searched) (xs : List Split) → (made_from s (map bare xs)).tree.splits ≡ s.tree.splits ++ xs
splits-from s [] = sym (append-nil s.tree.splits)
splits-from s (x ∷ xs) = splits-from (after s (bare x)) xs ∙ append_assoc s.tree.splits (x ∷ []) xs

-- a tree that is made of splits has these
pub splits-of : (s : Searched) (xs : List Split) → s ≡ made_by (map bare xs) → s.tree.splits ≡ xs
splits-of s xs e = ap (λ (z : Searched). z.tree.splits) e ∙ splits-from start xs

-- a text that is no text of jobs is refused at its faulty line
pub refused-text : (n : Net) (bytes : List ℕ) (fault : ReadFault) → IsFaultIn Jobs AreJobs jobs_text bytes fault → IsRefusalOf n bytes (unread_as fault)
refused-text n bytes read_faults.Memory h = tt
refused-text n bytes (read_faults.Line line) h = inl h

-- jobs that don't fit are refused at line 0
pub refused-misfit : (n : Net) (bytes : List ℕ) (j : Jobs) (fault : JobsFault) → SpellsJobs bytes j → (fault ≡ jobs_faults.Misfit → ¬ Fits n j) → IsRefusalOf n bytes (misfit_as fault)
refused-misfit n bytes j jobs_faults.Misfit spelled h = inr (refl, (j, spelled, h refl))
refused-misfit n bytes j jobs_faults.Memory spelled h = tt

-- what bytes hand out is what the file hands out
pub handed-in : (files : Option Files) (name bytes : List ℕ) (n : Net) (r : Result HandedOut Unhanded) → HasFile files name bytes → length bytes ≤ most_jobs
    → IfOk r (λ h. (j : Jobs) × SpellsJobs bytes j × Fits n j × IsHandedOut n j h) → IfOk r (HandsOut files name n)
handed-in files name bytes n (Ok h) file short is = (is.0, record { bytes = bytes; file = file; short = short; spelled = is.1; fits = is.2 }, is.3)
handed-in files name bytes n (Err why) file short is = tt

-- ---- a call of the shelf

-- a file that was read is refused as its bytes are
unhanded-read : (n : Net) (name bytes : List ℕ) (before after : ShelfTold) (why : Unhanded) → HasFile before.files name bytes → length bytes ≤ most_jobs → IsRefusalOf n bytes why
    → IsUnhanded n name before after why
unhanded-read n name bytes before after unhanded.TooLong file short h = absurd h
unhanded-read n name bytes before after (unhanded.Refused line) file short h = record { bytes = bytes; file = file; short = short; refused = h }
unhanded-read n name bytes before after unhanded.Failed file short h = absurd h
unhanded-read n name bytes before after unhanded.Memory file short h = tt

pub unhanded-in : (n : Net) (name bytes : List ℕ) (before after : ShelfTold) (r : Result HandedOut Unhanded) → HasFile before.files name bytes → length bytes ≤ most_jobs
    → IfErr r (IsRefusalOf n bytes) → IfErr r (IsUnhanded n name before after)
unhanded-in n name bytes before after (Ok h) file short is = tt
unhanded-in n name bytes before after (Err why) file short is = unhanded-read n name bytes before after why file short is

-- what a shelf that gives no bytes says is why none are handed out
pub unhanded-shelf : (n : Net) (name : List ℕ) (before after : ShelfTold) (fault : ShelfFault) (why : Unhanded) → why ≡ unhanded_by fault
    → (fault ≡ shelf.Failed → Rose before.faults after.faults)
    → (fault ≡ shelf.TooLong → IsTooLong before.files name most_jobs before.taken after.taken)
    → IsUnhanded n name before after why
unhanded-shelf n name before after fault why is failed long = subst (λ (w : Unhanded). IsUnhanded n name before after w) (sym is) (by_fault fault failed long)
  where
    by_fault : (f : ShelfFault) → (f ≡ shelf.Failed → Rose before.faults after.faults)
        → (f ≡ shelf.TooLong → IsTooLong before.files name most_jobs before.taken after.taken) → IsUnhanded n name before after (unhanded_by f)
    by_fault shelf.Failed rose more = rose refl
    by_fault shelf.TooLong rose more = more refl
    by_fault shelf.Memory rose more = tt

-- more bytes were taken from an earlier count on
pub long-from : (files : Option Files) (name : List ℕ) (start before after : ℕ) → Grows start before → IsTooLong files name most_jobs before after → IsTooLong files name most_jobs start after
long-from None name start before after grows (inl lt) = inl (omega (arith, lt, grows.grown))
long-from None name start before after grows (inr top) = inr top
long-from (Some told) name start before after grows more = more
