use Rattle.std.proofs.Common.{inl, inr, Err, map, string_bytes, refl, sym, ap, subst, ◌∙◌}
use Rattle.cli_words.specs.Views.{shown_request}
use Rattle.pool_cli.specs.Ends.{AnswersAs, EndsAs, HasNoJournal, IsUnanswered, LeavesAs}
use Rattle.pool_cli.proofs.Commands.{ends_as, leaves_as, no_usage, nothing_told, took_as}
use Rattle.pool_cli.proofs.Decided.{decided}
use Rattle.pool_cli.proofs.Gaps.{fair-gap}
use Rattle.pool_cli.proofs.Words.{no_words_fault, words_ends, words_leave, words_took, words_unanswered, words_usage}
use Rattle.pool_cli.proofs.command.run.Goals as goal

pub answer-requires : goal.answer-requires
answer-requires g c = record {
  admitted = c.requires (shown_request c.in-Ok.request) c.in-Ok.ensures.asks;
  gap = fair-gap (map string_bytes c.args.words.now) (shown_request c.in-Ok.request) c.in-Ok.ensures.asks;
}

-- ---- a request was read

pub returns-in-Ok-clause-took : goal.returns-in-Ok-clause-took
returns-in-Ok-clause-took g c = λ asked asks.
    took_as {status = c.answer.result} (c.in-Ok.ensures.only asked asks) refl
    (g.S.Shelf.told c.args.shelf.now).files (g.K.Sink.taken c.args.out.now) (g.K.Sink.taken c.answer.new.out) c.answer.ensures.took

pub returns-in-Ok-clause-unanswered : goal.returns-in-Ok-clause-unanswered
returns-in-Ok-clause-unanswered g c = λ un.
    nothing_told (AnswersAs (g.S.Shelf.told c.args.shelf.now).files (shown_request c.in-Ok.request)) c.answer.result
    (g.K.Sink.taken c.args.out.now) (g.K.Sink.taken c.answer.new.out) un c.answer.ensures.took

pub returns-in-Ok-clause-usage : goal.returns-in-Ok-clause-usage
returns-in-Ok-clause-usage g c = λ is.
    absurd (no_usage (g.S.Shelf.told c.args.shelf.now).files (g.S.Shelf.told c.args.shelf.now).taken (g.S.Shelf.told c.answer.new.shelf).taken
    (shown_request c.in-Ok.request) c.answer.result c.answer.ensures.ends is)

pub returns-in-Ok-clause-asked : goal.returns-in-Ok-clause-asked
returns-in-Ok-clause-asked g c = inr (shown_request c.in-Ok.request, c.in-Ok.ensures.asks)

pub returns-in-Ok-clause-ends : goal.returns-in-Ok-clause-ends
returns-in-Ok-clause-ends g c = λ asked asks.
    ends_as {status = c.answer.result} (c.in-Ok.ensures.only asked asks) refl
    (g.S.Shelf.told c.args.shelf.now).files (g.S.Shelf.told c.args.shelf.now).taken (g.S.Shelf.told c.answer.new.shelf).taken c.answer.ensures.ends

pub returns-in-Ok-clause-decided : goal.returns-in-Ok-clause-decided
returns-in-Ok-clause-decided g c = λ told asked is asks.
    let files = (g.S.Shelf.told c.args.shelf.now).files in
    let before = (g.S.Shelf.told c.args.shelf.now).taken in
    let after = (g.S.Shelf.told c.answer.new.shelf).taken in
    decided files told before after asked c.answer.result is
    (ends_as {status = c.answer.result} (c.in-Ok.ensures.only asked asks) refl files before after c.answer.ensures.ends)

pub returns-in-Ok-clause-journal : goal.returns-in-Ok-clause-journal
returns-in-Ok-clause-journal g c = λ asked asks tells.
    leaves_as {status = c.answer.result} (c.in-Ok.ensures.only asked asks) refl
    (g.S.Shelf.told c.args.shelf.now).files (g.D.Disk.told c.args.disk.now) (g.D.Disk.told c.answer.new.disk)
    (g.K.Sink.taken c.args.out.now) (g.K.Sink.taken c.answer.new.out) (c.answer.ensures.journal tells)

pub returns-in-Ok-clause-apart : goal.returns-in-Ok-clause-apart
returns-in-Ok-clause-apart g c = λ asked asks none. c.answer.ensures.apart (subst HasNoJournal (c.in-Ok.ensures.only asked asks) none)

pub returns-in-Ok-clause-unasked : goal.returns-in-Ok-clause-unasked
returns-in-Ok-clause-unasked g c = λ none. absurd (none (shown_request c.in-Ok.request) c.in-Ok.ensures.asks)

-- ---- none was read

pub returns-in-Err-clause-took : goal.returns-in-Err-clause-took
returns-in-Err-clause-took g c = λ asked asks.
    rw c.status_of_words.ensures (words_took (AnswersAs (g.S.Shelf.told c.args.shelf.now).files asked) c.in-Err.fault (g.K.Sink.taken c.args.out.now))

pub returns-in-Err-clause-usage : goal.returns-in-Err-clause-usage
returns-in-Err-clause-usage g c = λ is. c.in-Err.ensures.usage (ap (λ f. Err f) (words_usage c.in-Err.fault (sym c.status_of_words.ensures ∙ is)))

pub returns-in-Err-clause-asked : goal.returns-in-Err-clause-asked
returns-in-Err-clause-asked g c = inl (subst IsUnanswered (sym c.status_of_words.ensures) (words_unanswered c.in-Err.fault))

pub returns-in-Err-clause-ends : goal.returns-in-Err-clause-ends
returns-in-Err-clause-ends g c = λ asked asks.
    let files = (g.S.Shelf.told c.args.shelf.now).files in
    let taken = (g.S.Shelf.told c.args.shelf.now).taken in
    subst (EndsAs files taken taken asked) (sym c.status_of_words.ensures)
    (words_ends files taken taken c.in-Err.fault asked (λ e. c.in-Err.ensures.usage (ap (λ f. Err f) e) asked asks))

pub returns-in-Err-clause-decided : goal.returns-in-Err-clause-decided
returns-in-Err-clause-decided g c = λ told asked is asks.
    let files = (g.S.Shelf.told c.args.shelf.now).files in
    let taken = (g.S.Shelf.told c.args.shelf.now).taken in
    decided files told taken taken asked c.status_of_words.result is
    (subst (EndsAs files taken taken asked) (sym c.status_of_words.ensures)
    (words_ends files taken taken c.in-Err.fault asked (λ e. c.in-Err.ensures.usage (ap (λ f. Err f) e) asked asks)))

pub returns-in-Err-clause-read_fault : goal.returns-in-Err-clause-read_fault
returns-in-Err-clause-read_fault g c = λ is. absurd ((no_words_fault c.in-Err.fault).0 (sym c.status_of_words.ensures ∙ is))

pub returns-in-Err-clause-write_fault : goal.returns-in-Err-clause-write_fault
returns-in-Err-clause-write_fault g c = λ is. absurd ((no_words_fault c.in-Err.fault).1 (sym c.status_of_words.ensures ∙ is))

pub returns-in-Err-clause-disk_fault : goal.returns-in-Err-clause-disk_fault
returns-in-Err-clause-disk_fault g c = λ is. absurd ((no_words_fault c.in-Err.fault).2 (sym c.status_of_words.ensures ∙ is))

pub returns-in-Err-clause-journal : goal.returns-in-Err-clause-journal
returns-in-Err-clause-journal g c = λ asked asks tells.
    let files = (g.S.Shelf.told c.args.shelf.now).files in
    let disk = g.D.Disk.told c.args.disk.now in
    let taken = g.K.Sink.taken c.args.out.now in
    subst (LeavesAs files disk disk taken taken asked) (sym c.status_of_words.ensures)
    (words_leave files disk taken c.in-Err.fault asked (λ e. c.in-Err.ensures.usage (ap (λ f. Err f) e) asked asks))
