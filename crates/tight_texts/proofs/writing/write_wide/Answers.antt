use Rattle.std.proofs.Common.{[], ◌∷◌, ◌++◌, subst, List, ℕ}
use Rattle.std.specs.Prelude.{codes}
use Rattle.std.specs.List.{flat_map}
use Rattle.std.proofs.lemmas.Result.{err_from_is_err_and}
use Rattle.edge_io.specs.Writing.{Wrote, TookFront}
use Rattle.edge_io.proofs.Writes.{front-first, front-behind, wrote-behind}
use Rattle.exact_num.specs.Views.{shown_frac}
use Rattle.cert_writing.specs.Text.{field}
use Rattle.tight_texts.specs.Texts.{fraction_fields, operation_word}
use Rattle.tight_texts.specs.Views.{shown_wide}
use Rattle.tight_texts.proofs.Pieces.{wide_text}
use Rattle.tight_texts.proofs.writing.write_wide.Goals as goal

pub returns-in_err-write_operation-clause-wrote : goal.returns-in_err-write_operation-clause-wrote
returns-in_err-write_operation-clause-wrote g c =
    let p = err_from_is_err_and c.from_residual.result c.from_residual.ensures.1 in
    rw p.1 (subst (λ (w : List ℕ). TookFront (g.K.Sink.taken c.args.out.now) w (g.K.Sink.taken c.write_operation.new.out)) (wide_text (shown_wide c.args.wide.now)) (front-first (g.K.Sink.taken c.args.out.now) (flat_map field (codes "2" ∷ operation_word c.args.wide.now.operation ∷ [])) ((flat_map field (fraction_fields (shown_frac c.args.wide.now.left))) ++ (flat_map field (fraction_fields (shown_frac c.args.wide.now.right)))) (g.K.Sink.taken c.write_operation.new.out) (c.in_err-write_operation.ensures.wrote)))

pub returns-in_err-write_fraction-clause-wrote : goal.returns-in_err-write_fraction-clause-wrote
returns-in_err-write_fraction-clause-wrote g c =
    let p = err_from_is_err_and c.from_residual-in_err-write_fraction.result c.from_residual-in_err-write_fraction.ensures.1 in
    rw p.1 (subst (λ (w : List ℕ). TookFront (g.K.Sink.taken c.args.out.now) w (g.K.Sink.taken c.write_fraction.new.out)) (wide_text (shown_wide c.args.wide.now)) (front-behind (g.K.Sink.taken c.args.out.now) (flat_map field (codes "2" ∷ operation_word c.args.wide.now.operation ∷ [])) (g.K.Sink.taken c.write_operation.new.out) ((flat_map field (fraction_fields (shown_frac c.args.wide.now.left))) ++ (flat_map field (fraction_fields (shown_frac c.args.wide.now.right)))) (g.K.Sink.taken c.write_fraction.new.out) (c.in_ok-write_operation.ensures.wrote) (front-first (g.K.Sink.taken c.write_operation.new.out) (flat_map field (fraction_fields (shown_frac c.args.wide.now.left))) (flat_map field (fraction_fields (shown_frac c.args.wide.now.right))) (g.K.Sink.taken c.write_fraction.new.out) (c.in_err-write_fraction.ensures.wrote))))

pub returns-clause-wrote : goal.returns-clause-wrote
returns-clause-wrote g c = subst (λ (w : List ℕ). Wrote c.write_fraction-2.result (g.K.Sink.taken c.args.out.now) w (g.K.Sink.taken c.write_fraction-2.new.out)) (wide_text (shown_wide c.args.wide.now)) (wrote-behind c.write_fraction-2.result (g.K.Sink.taken c.args.out.now) (flat_map field (codes "2" ∷ operation_word c.args.wide.now.operation ∷ [])) (g.K.Sink.taken c.write_operation.new.out) ((flat_map field (fraction_fields (shown_frac c.args.wide.now.left))) ++ (flat_map field (fraction_fields (shown_frac c.args.wide.now.right)))) (g.K.Sink.taken c.write_fraction-2.new.out) (c.in_ok-write_operation.ensures.wrote) (wrote-behind c.write_fraction-2.result (g.K.Sink.taken c.write_operation.new.out) (flat_map field (fraction_fields (shown_frac c.args.wide.now.left))) (g.K.Sink.taken c.write_fraction.new.out) (flat_map field (fraction_fields (shown_frac c.args.wide.now.right))) (g.K.Sink.taken c.write_fraction-2.new.out) (c.in_ok-write_fraction.ensures.wrote) (c.write_fraction-2.ensures.wrote)))
