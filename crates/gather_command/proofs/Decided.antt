-- What the told files decide of `gather`.
use Rattle.std.proofs.Common.{◌≡◌, inl, inr, ℕ, List, length, Option, Some, refl, ap, subst, arith}
use Rattle.shelf_calls.specs.Files.{file_of}
use Rattle.json_walk.specs.declared.fault.ReadNet.{ReadNet}
use Rattle.pool_model.specs.Network.{Network}
use Rattle.run_status.specs.Reads.{Files, IsRefusedAs, ReadsUnder}
use Rattle.run_status.proofs.Networks.{refused_unread, some_same}
use Rattle.job_commands.specs.Handed.{LongJobsUnder, RefusesJobsUnder}
use Rattle.job_commands.specs.WorkEnds.{HandsOutUnder}
use Rattle.job_commands.proofs.JobFiles.{handed-not-long, handed-not-refused, one-refusal, refused-not-long}
use Rattle.gather_command.specs.GatherEnds.{GatherDecided, GatherEnds, IsTried, LongAnswersUnder, Named, ReadUnder}
use Rattle.gather_command.proofs.Saying.{say-of}
use Rattle.run_status.specs.declared.status.Status.{Status}
use Rattle.run_status.specs.declared.status.Status.TheVariants as statuses

module _ (told : Files) (w : Named) where
  refused : (cause : ReadNet) (before after : ℕ) (n : Network) → IsRefusedAs (Some told) w.net before after cause → ReadsUnder (Some told) w.net n → ⊥
  refused cause before after n h reads = refused_unread told w.net cause n h.own (h.told told refl) reads

  not-long : (b a : ℕ) → HandsOutUnder (Some told) w.net w.jobs → LongJobsUnder (Some told) w.net w.jobs b a → ⊥
  not-long b a h l = handed-not-long told w.net w.jobs h.0 h.1.0 b a h.1.1 l

  not-refused : (line : ℕ) → HandsOutUnder (Some told) w.net w.jobs → RefusesJobsUnder (Some told) w.net w.jobs line → ⊥
  not-refused line h r = handed-not-refused told w.net w.jobs h.0 h.1.0 line h.1.1 r

  handed : ReadUnder (Some told) w → HandsOutUnder (Some told) w.net w.jobs
  handed h = (h.network, (h.jobs, h.jobs_under))

  -- a file that was read is not too long
  said-not-long : (b a : ℕ) → ReadUnder (Some told) w → LongAnswersUnder (Some told) w b a → ⊥
  said-not-long b a h l =
      let says = say-of (Some told) w.answers h.said l.name h.say l.one in
      let same = some_same (file_of told l.name) says.1.bytes l.more.bytes says.1.file l.more.are in
      omega (arith, l.more.more, says.1.short, ap (λ (x : List ℕ). length x) same)

  tried : (status : Status) → ReadUnder (Some told) w → IsTried status → GatherDecided told w status
  tried status h is = record {
    no_network = λ none. absurd (none h.network h.jobs_under.reads);
    long_jobs = λ b a l. absurd (not-long b a (handed h) l);
    refused = λ line r. absurd (not-refused line (handed h) r);
    long_answers = λ b a l. absurd (said-not-long b a h l);
    read = λ _. inl is;
  }

  decided : (before after : ℕ) (status : Status) → GatherEnds (Some told) w before after status → GatherDecided told w status
  decided before after statuses.Done h = tried statuses.Done h (inl tt)
  decided before after statuses.WriteFault h = tried statuses.WriteFault h (inl tt)
  decided before after statuses.OtherTree h = tried statuses.OtherTree h tt
  decided before after statuses.DiskFault h = tried statuses.DiskFault h (inr tt)
  decided before after statuses.OtherNetwork h = tried statuses.OtherNetwork h (inr tt)
  decided before after (statuses.BadJournal number) h = tried (statuses.BadJournal number) h (inr tt)
  decided before after (statuses.UnknownVersion version) h = tried (statuses.UnknownVersion version) h (inr tt)
  decided before after statuses.NotAJournal h = tried statuses.NotAJournal h (inr tt)
  decided before after statuses.CertTooLong (inl h) = record {
    no_network = λ none. absurd (none h.network h.reads);
    long_jobs = λ b a l. inl refl;
    refused = λ line r. absurd (refused-not-long told w.net w.jobs line before after r h);
    long_answers = λ b a l. inl refl;
    read = λ k. absurd (not-long before after (handed k) h);
  }
  decided before after statuses.CertTooLong (inr h) = record {
    no_network = λ none. absurd (none h.handed.0 h.handed.1.1.reads);
    long_jobs = λ b a l. inl refl;
    refused = λ line r. absurd (not-refused line h.handed r);
    long_answers = λ b a l. inl refl;
    read = λ k. absurd (said-not-long before after k h);
  }
  decided before after (statuses.JobsRefused line) h = record {
    no_network = λ none. absurd (none h.network h.reads);
    long_jobs = λ b a l. absurd (refused-not-long told w.net w.jobs line b a h l);
    refused = λ other r. inl (ap (λ l. statuses.JobsRefused l) (one-refusal told w.net w.jobs line other h r));
    long_answers = λ b a l. absurd (not-refused line l.handed h);
    read = λ k. absurd (not-refused line (handed k) h);
  }
  decided before after (statuses.NetworkRefused cause) h = record {
    no_network = λ none. inl tt;
    long_jobs = λ b a l. absurd (refused cause before after l.network h l.reads);
    refused = λ line r. absurd (refused cause before after r.network h r.reads);
    long_answers = λ b a l. absurd (refused cause before after l.handed.0 h l.handed.1.1.reads);
    read = λ k. absurd (refused cause before after k.network h k.jobs_under.reads);
  }
  decided before after statuses.ReadFault h =
      record { no_network = λ none. inr tt; long_jobs = λ b a l. inr tt; refused = λ line r. inr tt; long_answers = λ b a l. inr tt; read = λ k. inr tt }
  decided before after statuses.OutOfMemory h =
      record { no_network = λ none. inr tt; long_jobs = λ b a l. inr tt; refused = λ line r. inr tt; long_answers = λ b a l. inr tt; read = λ k. inr tt }
  decided before after status h = absurd h

pub gather_decided : (files : Option Files) (told : Files) (w : Named) (before after : ℕ) (status : Status) → files ≡ Some told → GatherEnds files w before after status → GatherDecided told w status
gather_decided files told w before after status is h = decided told w before after status (subst (λ f. GatherEnds f w before after status) is h)
