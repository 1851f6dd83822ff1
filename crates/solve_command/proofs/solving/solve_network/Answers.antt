use Rattle.std.proofs.Common.{inl, Ok, Err, refl, ap, subst}
use Rattle.pool_model.specs.Network.{net_of}
use Rattle.row_model.specs.Entries.{made_by}
use Rattle.cert_format.specs.Views.{shown_cert}
use Rattle.cli_words.specs.Views.{shown_solving}
use Rattle.network_text.specs.Canonical.{canonical_text}
use Rattle.node_journal.proofs.Runs.{quiet-start}
use Rattle.search_run.specs.declared.orders.Orders.{Orders}
use Rattle.journal_status.specs.JournalEnds.{fault_status}
use Rattle.solve_command.specs.Recorded.{IsOpened}
use Rattle.solve_command.specs.Solution.{IsSolutionFrom, status_of}
use Rattle.solve_command.specs.SolveEnds.{SolvesAs, solve_status}
use Rattle.solve_command.specs.declared.solving.SolveOutcome.TheVariants.{Unsolved}
use Rattle.journal_status.proofs.Faults.{disk_fault_is, memory_fault_is, no_read_fault, no_write_fault, took_nothing}
use Rattle.solve_command.proofs.Journaling.{journaled-printed, journaled-unsolved}
use Rattle.solve_command.proofs.Outcomes.{no_end_fault, no_end_want, printed_short, solution_ends, unsolved_ends}
use Rattle.solve_command.proofs.solving.solve_network.Goals as goal

pub returns-in-Ok-clause-took : goal.returns-in-Ok-clause-took
returns-in-Ok-clause-took g c = λ files reads.
    let found = c.in-Ok.solution in
    let begun = c.in-Ok.ensures.solved in
    let solution =
    subst (λ (o : Orders). IsSolutionFrom (net_of c.args.net.now) o (made_by begun.first) (status_of found.ended) (shown_cert found.certificate)) c.in-Some.ensures.orders begun.solution in
    c.print.ensures.took files (shown_solving c.args.words.now) (record {
      network = c.args.net.now;
      certificate = shown_cert found.certificate;
      reads = reads;
      within = c.in-Some.ensures.within;
      first = begun.first;
      in_order = begun.in_order;
      alone = begun.alone;
      solution = solution;
      spelled = record { is = c.in-Ok.ensures.certificate; text = refl };
      short = printed_short (net_of c.args.net.now) (shown_solving c.args.words.now) begun.first (status_of found.ended) (shown_cert found.certificate) c.in-Some.ensures.within
          begun.alone solution c.in-Ok.ensures.certificate;
    })

pub returns-in-Ok-clause-ends : goal.returns-in-Ok-clause-ends
returns-in-Ok-clause-ends g c = λ files before after reads.
    let found = c.in-Ok.solution in
    let begun = c.in-Ok.ensures.solved in
    solution_ends files (shown_solving c.args.words.now) c.args.net.now reads c.in-Some.ensures.within before after (made_by begun.first)
    (shown_cert found.certificate) (status_of found.ended) (solve_status c.print.result)
    (subst (λ (o : Orders). IsSolutionFrom (net_of c.args.net.now) o (made_by begun.first) (status_of found.ended)
    (shown_cert found.certificate)) c.in-Some.ensures.orders begun.solution) c.print.ensures.ended

pub returns-in-Ok-clause-journal : goal.returns-in-Ok-clause-journal
returns-in-Ok-clause-journal g c = λ files file reads named tells.
    let old = g.D.Disk.told c.args.disk.now in
    let new = g.D.Disk.told c.solution_for.new.disk in
    let n = net_of c.args.net.now in
    journaled-printed files (shown_solving c.args.words.now) c.args.net.now reads c.in-Some.ensures.within
    old new
    (g.K.Sink.taken c.args.out.now) (g.K.Sink.taken c.print.new.out) c.in-Ok.solution (solve_status c.print.result) c.print.ensures.ended c.print.ensures.whole
    (subst (λ (o : Orders). IsOpened n (canonical_text c.args.net.now) o old new (Ok c.in-Ok.solution)) c.in-Some.ensures.orders
    (c.in-Ok.ensures.journal file named tells))

pub returns-in-Err-clause-journal : goal.returns-in-Err-clause-journal
returns-in-Err-clause-journal g c = λ files file reads named tells.
    let old = g.D.Disk.told c.args.disk.now in
    let new = g.D.Disk.told c.solution_for.new.disk in
    let n = net_of c.args.net.now in
    journaled-unsolved files (shown_solving c.args.words.now) c.args.net.now reads c.in-Some.ensures.within
    old new
    (g.K.Sink.taken c.args.out.now) (g.K.Sink.taken c.args.out.now) c.in-Err.fault
    (subst (λ (o : Orders). IsOpened n (canonical_text c.args.net.now) o old new (Err c.in-Err.fault)) c.in-Some.ensures.orders
    (c.in-Err.ensures.journal file named tells))

pub returns-in_default-clause-journal : goal.returns-in_default-clause-journal
returns-in_default-clause-journal g c = λ files file reads named tells.
    inl (record { unopened = tt; quiet = quiet-start (g.D.Disk.told c.args.disk.now); none_attached = refl })

pub returns-in-Ok-clause-disk_fault : goal.returns-in-Ok-clause-disk_fault
returns-in-Ok-clause-disk_fault g c = λ e. absurd (no_end_fault c.in-Ok.solution.ended (solve_status c.print.result) c.print.ensures.ended e)

pub returns-in-Err-clause-took : goal.returns-in-Err-clause-took
returns-in-Err-clause-took g c = λ files reads. took_nothing (SolvesAs files (shown_solving c.args.words.now)) c.in-Err.fault (g.K.Sink.taken c.args.out.now)

pub returns-in-Err-clause-ends : goal.returns-in-Err-clause-ends
returns-in-Err-clause-ends g c = λ files before after reads.
    unsolved_ends files (shown_solving c.args.words.now) before after c.args.net.now (fault_status c.in-Err.fault) reads c.in-Some.ensures.within c.in-Err.ensures.unsolved

pub returns-in-Err-clause-read : goal.returns-in-Err-clause-read
returns-in-Err-clause-read g c = no_read_fault c.in-Err.fault

pub returns-in-Err-clause-write_fault : goal.returns-in-Err-clause-write_fault
returns-in-Err-clause-write_fault g c = λ e. absurd (no_write_fault c.in-Err.fault e)

pub returns-in-Err-clause-disk_fault : goal.returns-in-Err-clause-disk_fault
returns-in-Err-clause-disk_fault g c = λ e. c.in-Err.ensures.failed (ap (λ f. Err f) (disk_fault_is c.in-Err.fault e))

pub returns-in-Ok-clause-memory : goal.returns-in-Ok-clause-memory
returns-in-Ok-clause-memory g c = λ files reads e. absurd (no_end_want c.in-Ok.solution.ended (solve_status c.print.result) c.print.ensures.ended e)

pub returns-in-Err-clause-memory : goal.returns-in-Err-clause-memory
returns-in-Err-clause-memory g c = λ files reads e. record {
  solvable = record { network = c.args.net.now; reads = reads; within = c.in-Some.ensures.within };
  search = ap (λ fault. Unsolved fault) (memory_fault_is c.in-Err.fault e);
}
