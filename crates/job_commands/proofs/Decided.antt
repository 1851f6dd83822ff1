-- What the told files decide of `work` and of `jobs`.
use Rattle.std.proofs.Common.{◌≡◌, ◌⊎◌, ℕ, inl, inr, List, Option, Some, refl, ap, subst}
use Rattle.json_walk.specs.declared.fault.ReadNet.{ReadNet}
use Rattle.pool_model.specs.Network.{Network}
use Rattle.run_status.specs.Reads.{Files, IsRefusedAs, ReadsSome, ReadsUnder}
use Rattle.run_status.specs.Took.{IsCutShort}
use Rattle.journal_status.specs.JournalEnds.{IsJournalEnd}
use Rattle.run_status.specs.declared.status.Status.{Status}
use Rattle.run_status.specs.declared.status.Status.TheVariants as statuses
use Rattle.run_status.proofs.Networks.{refused_unread}
use Rattle.job_commands.specs.Handed.{IsWritten}
use Rattle.job_commands.specs.JobsEnds.{JobsDecided, JobsEnds}
use Rattle.job_commands.specs.WorkEnds.{HandsOutUnder, WorkDecided, WorkEnds}
use Rattle.job_commands.proofs.JobFiles.{handed-not-long, handed-not-refused, one-refusal, refused-not-long}

module _ (told : Files) (net jobs : List ℕ) where
  refused : (cause : ReadNet) (before after : ℕ) (n : Network) → IsRefusedAs (Some told) net before after cause → ReadsUnder (Some told) net n → ⊥
  refused cause before after n h reads = refused_unread told net cause n h.own (h.told told refl) reads

  -- nothing else is so where jobs were handed out
  written : (status : Status) → HandsOutUnder (Some told) net jobs → IsWritten status → WorkDecided told net jobs status
  written status h is = record {
    no_network = λ none. absurd (none h.0 h.1.1.reads);
    too_long = λ b a l. absurd (handed-not-long told net jobs h.0 h.1.0 b a h.1.1 l);
    refused = λ line r. absurd (handed-not-refused told net jobs h.0 h.1.0 line h.1.1 r);
    handed = λ _. inl is;
  }

  decided : (before after : ℕ) (status : Status) → WorkEnds (Some told) net jobs before after status → WorkDecided told net jobs status
  decided before after statuses.Done h = written statuses.Done h tt
  decided before after statuses.WriteFault h = written statuses.WriteFault h tt
  decided before after statuses.CertTooLong h = record {
    no_network = λ none. absurd (none h.network h.reads);
    too_long = λ b a l. inl refl;
    refused = λ line r. absurd (refused-not-long told net jobs line before after r h);
    handed = λ k. absurd (handed-not-long told net jobs k.0 k.1.0 before after k.1.1 h);
  }
  decided before after (statuses.JobsRefused line) h = record {
    no_network = λ none. absurd (none h.network h.reads);
    too_long = λ b a l. absurd (refused-not-long told net jobs line b a h l);
    refused = λ other r. inl (ap (λ l. statuses.JobsRefused l) (one-refusal told net jobs line other h r));
    handed = λ k. absurd (handed-not-refused told net jobs k.0 k.1.0 line k.1.1 h);
  }
  decided before after (statuses.NetworkRefused cause) h = record {
    no_network = λ none. inl tt;
    too_long = λ b a l. absurd (refused cause before after l.network h l.reads);
    refused = λ line r. absurd (refused cause before after r.network h r.reads);
    handed = λ k. absurd (refused cause before after k.0 h k.1.1.reads);
  }
  decided before after statuses.ReadFault h = record { no_network = λ none. inr tt; too_long = λ b a l. inr tt; refused = λ line r. inr tt; handed = λ k. inr tt }
  decided before after statuses.OutOfMemory h = record { no_network = λ none. inr tt; too_long = λ b a l. inr tt; refused = λ line r. inr tt; handed = λ k. inr tt }
  decided before after status h = absurd h

pub work_decided : (files : Option Files) (told : Files) (net jobs : List ℕ) (before after : ℕ) (status : Status) → files ≡ Some told →
    WorkEnds files net jobs before after status → WorkDecided told net jobs status
work_decided files told net jobs before after status is h = decided told net jobs before after status (subst (λ f. WorkEnds f net jobs before after status) is h)

-- ---- of `jobs`

module _ (told : Files) (net : List ℕ) where
  -- a network was read
  read : (status : Status) → ReadsSome (Some told) net → IsWritten status ⊎ (IsJournalEnd status ⊎ IsCutShort status) → JobsDecided told net status
  read status h is = record { no_network = λ none. absurd (none h.network h.reads); network = λ _. is }

  decided_jobs : (before after : ℕ) (status : Status) → JobsEnds (Some told) net before after status → JobsDecided told net status
  decided_jobs before after statuses.Done h = read statuses.Done h (inl tt)
  decided_jobs before after statuses.WriteFault h = read statuses.WriteFault h (inl tt)
  decided_jobs before after (statuses.NetworkRefused cause) h = record {
    no_network = λ none. inl tt;
    network = λ r. absurd (refused_unread told net cause r.network h.own (h.told told refl) r.reads);
  }
  decided_jobs before after statuses.ReadFault h = record { no_network = λ none. inr tt; network = λ r. inr (inr tt) }
  decided_jobs before after statuses.OutOfMemory h = record { no_network = λ none. inr tt; network = λ r. inr (inr tt) }
  decided_jobs before after statuses.DiskFault h = read statuses.DiskFault h (inr (inl tt))
  decided_jobs before after statuses.OtherNetwork h = read statuses.OtherNetwork h (inr (inl tt))
  decided_jobs before after (statuses.BadJournal number) h = read (statuses.BadJournal number) h (inr (inl tt))
  decided_jobs before after (statuses.UnknownVersion version) h = read (statuses.UnknownVersion version) h (inr (inl tt))
  decided_jobs before after statuses.NotAJournal h = read statuses.NotAJournal h (inr (inl tt))
  decided_jobs before after status h = absurd h

pub jobs_decided : (files : Option Files) (told : Files) (net : List ℕ) (before after : ℕ) (status : Status) → files ≡ Some told →
    JobsEnds files net before after status → JobsDecided told net status
jobs_decided files told net before after status is h = decided_jobs told net before after status (subst (λ f. JobsEnds f net before after status) is h)
