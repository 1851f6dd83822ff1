-- From the marks of a certificate to what `tight` prints, and how it ends.
use Rattle.std.proofs.Common.{◌≡◌, ◌≢◌, ◌⊎◌, ℕ, ◌<◌, ◌≤◌, inl, inr, List, Option, refl, sym, ap, subst, ◌∙◌, arith}
use Rattle.edge_io.specs.Counts.{Grows}
use Rattle.shelf_calls.specs.Files.{IsTooLong}
use Rattle.shelf_calls.specs.Told.{ShelfTold}
use Rattle.pool_model.specs.Network.{Net, Network, net_of}
use Rattle.box_space.specs.declared.coordinates.Form.{Form}
use Rattle.cert_format.specs.Cert.{Cert}
use Rattle.cert_lengths.specs.Lengths.{most_bytes}
use Rattle.run_status.specs.Reads.{Files, ReadsUnder}
use Rattle.run_status.specs.Took.{printed_by, Took}
use Rattle.run_status.specs.declared.status.Status.{Status}
use Rattle.run_status.specs.declared.status.Status.TheVariants as statuses
use Rattle.run_status.proofs.Parts.{took-part}
use Rattle.tight_commands.specs.Certified.{CertifiedIn, IsUncertified, RefusedTextIn, RefusesIn, uncertified_status}
use Rattle.tight_commands.specs.Marked.{IsTried, MarksTextOn}
use Rattle.tight_commands.specs.TightEnds.{MarkEnds, MarkWants, TightsAs, tight_status}
use Rattle.tight_commands.specs.declared.certified.Uncertified.{Uncertified}
use Rattle.tight_commands.specs.declared.certified.Uncertified.TheVariants.{Refused, TooLong, Failed, Memory, Unwritten}
use Rattle.tight_commands.specs.declared.marking.TightOutcome.{TightOutcome}
use Rattle.tight_commands.specs.declared.marking.TightOutcome.TheVariants as outcomes
use Rattle.tight_commands.proofs.Certificates.{checks-as, long-from, memory-is, refuses-under, under}

pub tried-not-read : (n : Net) (c : Cert) (outcome : TightOutcome) → IsTried n c outcome → tight_status outcome ≢ statuses.ReadFault
tried-not-read n c outcomes.Done tried e = cc
tried-not-read n c outcomes.TooLarge tried e = cc
tried-not-read n c (outcomes.Unread why) tried e = absurd tried
tried-not-read n c (outcomes.Uncertified why) tried e = absurd tried
tried-not-read n c outcomes.Memory tried e = cc
tried-not-read n c outcomes.WriteFault tried e = cc

module _ (files : Option Files) (net cert : List ℕ) (network : Network) (reads : ReadsUnder files net network) where
  -- what was printed of a certificate that is valid
  pub took-certified : (form : Form) (pivots : ℕ) (c : Cert) (status : Status) (old new : Option (List ℕ)) → CertifiedIn files cert (net_of network) c
      → Took (MarksTextOn (net_of network) form pivots c) status old new → Took (TightsAs files net cert form pivots) status old new
  took-certified form pivots c status old new h took = took-part (MarksTextOn (net_of network) form pivots c) (TightsAs files net cert form pivots) line (printed_by status) status old new took
    where
      line : (status : Status) (text : List ℕ) → MarksTextOn (net_of network) form pivots c status text → TightsAs files net cert form pivots status text
      line statuses.Done text is = (network, (c, under files net cert network reads c h, is))
      line status text is = absurd is

  -- what was printed of one that is refused
  pub took-uncertified : (form : Form) (pivots : ℕ) (status : Status) (old new : Option (List ℕ)) → Took (RefusedTextIn files cert (net_of network)) status old new
      → Took (TightsAs files net cert form pivots) status old new
  took-uncertified form pivots status old new took = took-part (RefusedTextIn files cert (net_of network)) (TightsAs files net cert form pivots) line (printed_by status) status old new took
    where
      line : (status : Status) (text : List ℕ) → RefusedTextIn files cert (net_of network) status text → TightsAs files net cert form pivots status text
      line (statuses.Refused refusal) text is = checks-as files net cert network reads refusal text is.0 is.1
      line status text is = absurd is

  pub ends-certified : (c : Cert) (before after : ℕ) (outcome : TightOutcome) → CertifiedIn files cert (net_of network) c → IsTried (net_of network) c outcome
      → MarkEnds files net cert before after (tight_status outcome)
  ends-certified c before after outcomes.Done h tried = record { network = network; certificate = c; certified = under files net cert network reads c h; within = tried }
  ends-certified c before after outcomes.TooLarge h tried = record { network = network; certificate = c; certified = under files net cert network reads c h; above = tried }
  ends-certified c before after (outcomes.Unread why) h tried = absurd tried
  ends-certified c before after (outcomes.Uncertified why) h tried = absurd tried
  ends-certified c before after outcomes.Memory h tried = tt
  ends-certified c before after outcomes.WriteFault h tried = inr record { network = network; certificate = c; certified = under files net cert network reads c h; within = tried }

  pub ends-uncertified : (start : ℕ) (before after : ShelfTold) (why : Uncertified) → files ≡ before.files → Grows start before.taken → IsUncertified (net_of network) cert before after why
      → MarkEnds files net cert start after.taken (uncertified_status why)
  ends-uncertified start before after (Refused refusal) is grows h =
      refuses-under files net cert network reads refusal (subst (λ f. RefusesIn f cert (net_of network) refusal) (sym is) h)
  ends-uncertified start before after TooLong is grows h = record {
    network = network;
    reads = reads;
    more = long-from files cert most_bytes start before.taken after.taken grows (subst (λ f. IsTooLong f cert most_bytes before.taken after.taken) (sym is) h);
  }
  ends-uncertified start before after Failed is grows h = tt
  ends-uncertified start before after Memory is grows h = tt
  ends-uncertified start before after Unwritten is grows h =
      inl (refuses-under files net cert network reads h.0 (subst (λ f. RefusesIn f cert (net_of network) h.0) (sym is) h.1))

  pub wants-certified : (c : Cert) (outcome : TightOutcome) → CertifiedIn files cert (net_of network) c → IsTried (net_of network) c outcome → tight_status outcome ≡ statuses.OutOfMemory
      → MarkWants files net cert outcome
  wants-certified c outcomes.Done h tried e = absurd (cc)
  wants-certified c outcomes.TooLarge h tried e = absurd (cc)
  wants-certified c (outcomes.Unread why) h tried e = absurd tried
  wants-certified c (outcomes.Uncertified why) h tried e = absurd tried
  wants-certified c outcomes.Memory h tried e = record { network = network; certificate = c; certified = under files net cert network reads c h; within = tried }
  wants-certified c outcomes.WriteFault h tried e = absurd (cc)

  pub wants-uncertified : (why : Uncertified) → uncertified_status why ≡ statuses.OutOfMemory → MarkWants files net cert (outcomes.Uncertified why)
  wants-uncertified why e = (memory-is why e, record { network = network; reads = reads })
