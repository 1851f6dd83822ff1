use Rattle.std.proofs.Common.{[], ◌∷◌, ◌++◌, subst, List, ℕ}
use Rattle.std.specs.Prelude.{codes, decimal}
use Rattle.std.specs.List.{flat_map}
use Rattle.std.proofs.lemmas.Result.{err_from_is_err_and}
use Rattle.edge_io.specs.Writing.{Wrote, TookFront}
use Rattle.edge_io.proofs.Writes.{front-first, front-behind, wrote-behind}
use Rattle.exact_num.specs.Views.{shown_frac}
use Rattle.cert_writing.specs.Text.{field}
use Rattle.tight_texts.specs.Texts.{fraction_fields}
use Rattle.tight_texts.proofs.Pieces.{coarse_text}
use Rattle.tight_texts.proofs.writing.write_coarse.Goals as goal

pub returns-in_err-write_whole-clause-wrote : goal.returns-in_err-write_whole-clause-wrote
returns-in_err-write_whole-clause-wrote g c =
    let p = err_from_is_err_and c.from_residual.result c.from_residual.ensures.1 in
    rw p.1 (subst (λ (w : List ℕ). TookFront (g.K.Sink.taken c.args.out.now) w (g.K.Sink.taken c.write_whole.new.out)) (coarse_text (decimal c.args.times) (shown_frac c.args.fraction)) (front-first (g.K.Sink.taken c.args.out.now) (32 ∷ codes "3") ((flat_map field (decimal c.args.times ∷ [])) ++ (flat_map field (fraction_fields (shown_frac c.args.fraction)))) (g.K.Sink.taken c.write_whole.new.out) (c.in_err-write_whole.ensures.wrote)))

pub returns-in_err-write_fields-clause-wrote : goal.returns-in_err-write_fields-clause-wrote
returns-in_err-write_fields-clause-wrote g c =
    let p = err_from_is_err_and c.from_residual-in_err-write_fields.result c.from_residual-in_err-write_fields.ensures.1 in
    rw p.1 (subst (λ (w : List ℕ). TookFront (g.K.Sink.taken c.args.out.now) w (g.K.Sink.taken c.write_fields.new.out)) (coarse_text (decimal c.args.times) (shown_frac c.args.fraction)) (front-behind (g.K.Sink.taken c.args.out.now) (32 ∷ codes "3") (g.K.Sink.taken c.write_whole.new.out) ((flat_map field (decimal c.args.times ∷ [])) ++ (flat_map field (fraction_fields (shown_frac c.args.fraction)))) (g.K.Sink.taken c.write_fields.new.out) (c.in_ok-write_whole.ensures.wrote) (front-first (g.K.Sink.taken c.write_whole.new.out) (flat_map field (decimal c.args.times ∷ [])) (flat_map field (fraction_fields (shown_frac c.args.fraction))) (g.K.Sink.taken c.write_fields.new.out) (c.in_err-write_fields.ensures.wrote))))

pub returns-clause-wrote : goal.returns-clause-wrote
returns-clause-wrote g c = subst (λ (w : List ℕ). Wrote c.write_fraction.result (g.K.Sink.taken c.args.out.now) w (g.K.Sink.taken c.write_fraction.new.out)) (coarse_text (decimal c.args.times) (shown_frac c.args.fraction)) (wrote-behind c.write_fraction.result (g.K.Sink.taken c.args.out.now) (32 ∷ codes "3") (g.K.Sink.taken c.write_whole.new.out) ((flat_map field (decimal c.args.times ∷ [])) ++ (flat_map field (fraction_fields (shown_frac c.args.fraction)))) (g.K.Sink.taken c.write_fraction.new.out) (c.in_ok-write_whole.ensures.wrote) (wrote-behind c.write_fraction.result (g.K.Sink.taken c.write_whole.new.out) (flat_map field (decimal c.args.times ∷ [])) (g.K.Sink.taken c.write_fields.new.out) (flat_map field (fraction_fields (shown_frac c.args.fraction))) (g.K.Sink.taken c.write_fraction.new.out) (c.in_ok-write_fields.ensures.wrote) (c.write_fraction.ensures.wrote)))
