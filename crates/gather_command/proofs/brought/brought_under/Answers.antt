use Rattle.std.proofs.Common.{inr, ℕ, List, Bool, Option, refl, sym, ap, subst, ◌∙◌}
use Rattle.std.specs.Prelude.{IsTrue, map, string_bytes}
use Rattle.std.proofs.lemmas.Result.{err_from_is_err_and}
use Rattle.shelf_calls.proofs.Keeping.{keeps-then}
use Rattle.pool_model.specs.Network.{net_of}
use Rattle.job_commands.specs.Handed.{unhanded_status}
use Rattle.run_status.specs.Reads.{Files}
use Rattle.run_status.specs.Took.{unread_status}
use Rattle.run_status.proofs.Quiet.{failed_told, quiet_behind}
use Rattle.gather_command.specs.Answers.{SayUnder}
use Rattle.gather_command.specs.GatherEnds.{unsaid_status}
use Rattle.gather_command.proofs.Saying.{under-kept, unhanded-from, unsaid-from}
use Rattle.gather_command.proofs.brought.brought_under.Goals as goal

pub handed_out_under-requires : goal.handed_out_under-requires
handed_out_under-requires g c =
    subst (λ (admits : List ℕ → Bool). IsTrue (admits c.args.jobs.now)) (sym c.network_under.ensures.kept.same_names) (c.requires.jobs c.in_ok-network.network c.in_ok-network.ensures.reads)

pub answers_under-requires : goal.answers_under-requires
answers_under-requires g c = λ name one.
    let start = g.S.Shelf.told c.args.shelf.now in
    let mid = g.S.Shelf.told c.network_under.new.shelf in
    let h = c.in_ok-handed.ensures.handed in
    subst (λ (admits : List ℕ → Bool). IsTrue (admits name)) (sym (c.handed_out_under.ensures.kept.same_names ∙ c.network_under.ensures.kept.same_names))
    (c.requires.answers (c.in_ok-network.network, (h.0, under-kept c.args.net.now c.args.jobs.now c.in_ok-network.network h.0 start mid c.network_under.ensures.kept c.in_ok-network.ensures.reads h.1)) name one)

pub returns-clause-brought : goal.returns-clause-brought
returns-clause-brought g c =
    let start = g.S.Shelf.told c.args.shelf.now in
    let mid = g.S.Shelf.told c.network_under.new.shelf in
    let h = c.in_ok-handed.ensures.handed in
    record {
      jobs_text = h.0;
      under = under-kept c.args.net.now c.args.jobs.now c.in_ok-network.network h.0 start mid c.network_under.ensures.kept c.in_ok-network.ensures.reads h.1;
      handed = h.2;
      say = subst (λ (f : Option Files). SayUnder f (map string_bytes c.args.answers.now) c.in_ok-files.files.items)
          (c.handed_out_under.ensures.kept.same_files ∙ c.network_under.ensures.kept.same_files) c.in_ok-files.ensures.say;
    }

pub returns-clause-quiet : goal.returns-clause-quiet
returns-clause-quiet g c = quiet_behind c.in_ok-network.ensures.quiet (quiet_behind c.in_ok-handed.ensures.quiet (quiet_behind c.in_ok-files.ensures.quiet (inr refl)))

-- ---- not all were read

pub returns-in_err-network-clause-unbrought : goal.returns-in_err-network-clause-unbrought
returns-in_err-network-clause-unbrought g c =
    let p = err_from_is_err_and c.from_residual.result c.from_residual.ensures.1 in
    rw (p.1, p.2) c.in_err-network.ensures.unread

pub returns-in_err-network-clause-quiet : goal.returns-in_err-network-clause-quiet
returns-in_err-network-clause-quiet g c =
    let p = err_from_is_err_and c.from_residual.result c.from_residual.ensures.1 in
    rw (p.1, p.2) (failed_told (λ e. ap unread_status e) c.in_err-network.ensures.quiet)

pub returns-in_err-handed-clause-unbrought : goal.returns-in_err-handed-clause-unbrought
returns-in_err-handed-clause-unbrought g c =
    let p = err_from_is_err_and c.from_residual-in_err-handed.result c.from_residual-in_err-handed.ensures.1 in
    rw (p.1, p.2) (record {
      network = c.in_ok-network.network;
      reads = c.in_ok-network.ensures.reads;
      unhanded = unhanded-from (net_of c.in_ok-network.network) c.args.jobs.now (g.S.Shelf.told c.args.shelf.now) (g.S.Shelf.told c.network_under.new.shelf)
          (g.S.Shelf.told c.handed_out_under.new.shelf) c.in_err-handed.field-0.0 c.network_under.ensures.kept c.in_err-handed.ensures.unhanded;
    })

pub returns-in_err-handed-clause-quiet : goal.returns-in_err-handed-clause-quiet
returns-in_err-handed-clause-quiet g c =
    let p = err_from_is_err_and c.from_residual-in_err-handed.result c.from_residual-in_err-handed.ensures.1 in
    rw (p.1, p.2) (quiet_behind c.in_ok-network.ensures.quiet (failed_told (λ e. ap unhanded_status e) c.in_err-handed.ensures.quiet))

pub returns-in_err-files-clause-unbrought : goal.returns-in_err-files-clause-unbrought
returns-in_err-files-clause-unbrought g c =
    let p = err_from_is_err_and c.from_residual-in_err-files.result c.from_residual-in_err-files.ensures.1 in
    let start = g.S.Shelf.told c.args.shelf.now in
    let mid = g.S.Shelf.told c.network_under.new.shelf in
    let h = c.in_ok-handed.ensures.handed in
    let one = c.in_err-files.ensures.unsaid in
    rw (p.1, p.2) (
      (c.in_ok-network.network, (h.0, under-kept c.args.net.now c.args.jobs.now c.in_ok-network.network h.0 start mid c.network_under.ensures.kept c.in_ok-network.ensures.reads h.1)),
      record {
        name = one.name;
        one = one.one;
        unsaid = unsaid-from one.name start (g.S.Shelf.told c.handed_out_under.new.shelf) (g.S.Shelf.told c.answers_under.new.shelf) c.in_err-files.field-0.0
            (keeps-then c.network_under.ensures.kept c.handed_out_under.ensures.kept) one.unsaid;
      },
    )

pub returns-in_err-files-clause-quiet : goal.returns-in_err-files-clause-quiet
returns-in_err-files-clause-quiet g c =
    let p = err_from_is_err_and c.from_residual-in_err-files.result c.from_residual-in_err-files.ensures.1 in
    rw (p.1, p.2) (quiet_behind c.in_ok-network.ensures.quiet (quiet_behind c.in_ok-handed.ensures.quiet (failed_told (λ e. ap unsaid_status e) c.in_err-files.ensures.quiet)))
