use Rattle.std.proofs.Common.{◌≡◌, [], ◌++◌, Option, Some, None, refl, subst, List, ℕ}
use Rattle.std.specs.Prelude.{option_map}
use Rattle.std.proofs.lemmas.Result.{err_from_is_err_and}
use Rattle.edge_io.specs.Writing.{Wrote, TookFront}
use Rattle.edge_io.proofs.Writes.{front-first, wrote-behind}
use Rattle.row_model.specs.Multipliers.{Proof}
use Rattle.box_space.specs.Views.{shown_proof}
use Rattle.job_texts.specs.Texts.{half_line}
use Rattle.job_texts.proofs.writing.write_half.Goals as goal

-- the line of a half is its word, and what stands behind it
half_text : (word : List ℕ) (z : Option Proof) → word ++ half_line [] z ≡ half_line word z
half_text word None = refl
half_text word (Some p) = refl

pub returns-in_err-write_whole-clause-wrote : goal.returns-in_err-write_whole-clause-wrote
returns-in_err-write_whole-clause-wrote g c =
    let p = err_from_is_err_and c.from_residual.result c.from_residual.ensures.1 in
    let z = option_map shown_proof c.args.half.now in
    rw p.1 (subst (λ (w : List ℕ). TookFront (g.K.Sink.taken c.args.out.now) w (g.K.Sink.taken c.write_whole.new.out)) (half_text c.args.word.now z)
    (front-first (g.K.Sink.taken c.args.out.now) c.args.word.now (half_line [] z) (g.K.Sink.taken c.write_whole.new.out) c.in_err-write_whole.ensures.wrote))

pub returns-clause-wrote : goal.returns-clause-wrote
returns-clause-wrote g c =
    let z = option_map shown_proof c.args.half.now in
    subst (λ (w : List ℕ). Wrote c.write_rest.result (g.K.Sink.taken c.args.out.now) w (g.K.Sink.taken c.write_rest.new.out)) (half_text c.args.word.now z)
    (wrote-behind c.write_rest.result (g.K.Sink.taken c.args.out.now) c.args.word.now (g.K.Sink.taken c.write_whole.new.out) (half_line [] z)
    (g.K.Sink.taken c.write_rest.new.out) c.in_ok-write_whole.ensures.wrote c.write_rest.ensures.wrote)
