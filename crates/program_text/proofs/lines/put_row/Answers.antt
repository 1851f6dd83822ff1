use Rattle.std.proofs.Common.{All, ◌<◌, List, ℕ, [], ◌∷◌, ◌++◌, subst, sym}
use Rattle.std.specs.List.{flat_map}
use Rattle.std.proofs.lemmas.Result.{err_from_is_err_and}
use Rattle.edge_io.specs.Writing.{Wrote, TookFront}
use Rattle.edge_io.proofs.Writes.{front-first, front-second, wrote-three}
use Rattle.pool_model.specs.Network.{net_of}
use Rattle.row_model.specs.Variables.{variables}
use Rattle.box_space.specs.Views.{shown_box, shown_kind}
use Rattle.linear_program.specs.declared.terms.Term.{Term}
use Rattle.row_book.specs.PartRows.{coef_at}
use Rattle.row_book.proofs.Terms.{terms-known}
use Rattle.program_text.specs.Lines.{row_head, written_term}
use Rattle.program_text.proofs.RowText.{row-whole}
use Rattle.program_text.proofs.lines.put_row.Goals as goal

pub write_terms-requires : goal.write_terms-requires
write_terms-requires g c =
    let n = net_of c.args.net.now in
    subst (λ (ts : List Term). All (λ t. t.var < variables n) ts) (sym c.terms.ensures)
    (subst (λ (ts : List Term). All (λ t. t.var < variables n) ts) (sym c.row_at-kind.ensures.written.terms) (terms-known (coef_at n (shown_box c.args.v.now) c.args.id) (variables n)))

pub returns-in_err-write_row_head-clause-wrote : goal.returns-in_err-write_row_head-clause-wrote
returns-in_err-write_row_head-clause-wrote g c =
    let n = net_of c.args.net.now in
    let b = shown_box c.args.v.now in
    let row = c.row_at-kind.new.row in
    let whole = row-whole n b c.args.id (shown_kind c.row_at-kind.result) row c.row_at-kind.ensures.kind c.row_at-kind.ensures.written in
    let p = err_from_is_err_and c.from_residual.result c.from_residual.ensures.1 in
    rw p.1 (subst (λ (w : List ℕ). TookFront (g.K.Sink.taken c.args.out.now) w (g.K.Sink.taken c.write_row_head.new.out)) whole
    (front-first (g.K.Sink.taken c.args.out.now) (row_head c.args.id (shown_kind c.row_at-kind.result) row.constant)
    (flat_map (λ (t : Term). written_term n t.var t.coef) row.terms ++ (10 ∷ [])) (g.K.Sink.taken c.write_row_head.new.out) c.in_err-write_row_head.ensures.wrote))

pub returns-in_err-write_terms-clause-wrote : goal.returns-in_err-write_terms-clause-wrote
returns-in_err-write_terms-clause-wrote g c =
    let n = net_of c.args.net.now in
    let b = shown_box c.args.v.now in
    let row = c.row_at-kind.new.row in
    let whole = row-whole n b c.args.id (shown_kind c.row_at-kind.result) row c.row_at-kind.ensures.kind c.row_at-kind.ensures.written in
    let p = err_from_is_err_and c.from_residual-in_err-write_terms.result c.from_residual-in_err-write_terms.ensures.1 in
    rw p.1 (subst (λ (w : List ℕ). TookFront (g.K.Sink.taken c.args.out.now) w (g.K.Sink.taken c.write_terms.new.out)) whole
    (front-second (g.K.Sink.taken c.args.out.now) (row_head c.args.id (shown_kind c.row_at-kind.result) row.constant) (g.K.Sink.taken c.write_row_head.new.out)
    (flat_map (λ (t : Term). written_term n t.var t.coef) row.terms) (10 ∷ []) (g.K.Sink.taken c.write_terms.new.out)
    c.in_ok-write_row_head.ensures.wrote (rw c.terms.ensures at c.in_err-write_terms.ensures.wrote)))

pub returns-clause-wrote : goal.returns-clause-wrote
returns-clause-wrote g c =
    let n = net_of c.args.net.now in
    let b = shown_box c.args.v.now in
    let row = c.row_at-kind.new.row in
    let whole = row-whole n b c.args.id (shown_kind c.row_at-kind.result) row c.row_at-kind.ensures.kind c.row_at-kind.ensures.written in
    subst (λ (w : List ℕ). Wrote c.write_whole.result (g.K.Sink.taken c.args.out.now) w (g.K.Sink.taken c.write_whole.new.out)) whole
    (wrote-three c.write_whole.result (g.K.Sink.taken c.args.out.now) (row_head c.args.id (shown_kind c.row_at-kind.result) row.constant) (g.K.Sink.taken c.write_row_head.new.out)
    (flat_map (λ (t : Term). written_term n t.var t.coef) row.terms) (g.K.Sink.taken c.write_terms.new.out) (10 ∷ []) (g.K.Sink.taken c.write_whole.new.out)
    c.in_ok-write_row_head.ensures.wrote (rw c.terms.ensures at c.in_ok-write_terms.ensures.wrote) c.write_whole.ensures.wrote)
