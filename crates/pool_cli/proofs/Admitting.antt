-- Where every name may be asked for, so may be what words ask.
use Rattle.std.proofs.Common.{ℕ, List, Option}
use Rattle.cli_words.specs.Requests.{Asked, solve, check, report, formulate, make, trial, jobs, work, gather, tight, checktight}
use Rattle.run_status.specs.Reads.{Files}
use Rattle.pool_cli.specs.Ends.{IsAdmitted}

module _ (Shelf Disk : List ℕ → Type 0) (shelf : (name : List ℕ) → Shelf name) (disk : (name : List ℕ) → Disk name) (files : Option Files) where
  pub all_admitted : (asked : Asked) → IsAdmitted Shelf Disk files asked
  all_admitted (solve s) = (shelf s.net, λ file named. disk file)
  all_admitted (check net cert) = (shelf net, λ network reads. shelf cert)
  all_admitted (report net cert) = (shelf net, λ network reads. shelf cert)
  all_admitted (formulate net form) = shelf net
  all_admitted (make number) = tt
  all_admitted (trial number) = tt
  all_admitted (jobs net journal count) = (shelf net, disk journal)
  all_admitted (work net file form) = (shelf net, λ network reads. shelf file)
  all_admitted (tight net cert form pivots) = (shelf net, λ network reads. shelf cert)
  all_admitted (checktight net cert marks) = record {
    network = shelf net;
    certificate = λ network reads. shelf cert;
    text = λ certified. shelf marks;
  }
  all_admitted (gather net file answers journal) = record {
    net = shelf net;
    jobs = λ network reads. shelf file;
    answers = λ handed name one. shelf name;
    disk = λ read. disk journal;
  }
