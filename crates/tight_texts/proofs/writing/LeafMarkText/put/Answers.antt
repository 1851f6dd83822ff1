use Rattle.std.proofs.Common.{[], ◌∷◌, ◌++◌, subst, List, ℕ}
use Rattle.std.specs.Prelude.{decimal}
use Rattle.std.specs.List.{flat_map}
use Rattle.std.proofs.lemmas.Result.{err_from_is_err_and}
use Rattle.edge_io.specs.Writing.{Wrote, TookFront}
use Rattle.edge_io.proofs.Writes.{front-first, front-behind, wrote-behind}
use Rattle.cert_writing.specs.Text.{field}
use Rattle.tight_texts.specs.Texts.{mark_fields, mark_word}
use Rattle.tight_texts.specs.Views.{shown_mark}
use Rattle.tight_texts.proofs.Pieces.{mark_text}
use Rattle.tight_texts.proofs.writing.LeafMarkText.put.Goals as goal

pub returns-in_err-write_whole-clause-wrote : goal.returns-in_err-write_whole-clause-wrote
returns-in_err-write_whole-clause-wrote g c =
    let p = err_from_is_err_and c.from_residual.result c.from_residual.ensures.1 in
    rw p.1 (subst (λ (w : List ℕ). TookFront (g.K.Sink.taken c.args.out.now) w (g.K.Sink.taken c.write_whole.new.out)) (mark_text c.word_of.result.now (mark_word (shown_mark c.args.self.now.mark)) (decimal c.args.self.now.node) (flat_map field (mark_fields (shown_mark c.args.self.now.mark))) c.word_of.ensures) (front-first (g.K.Sink.taken c.args.out.now) (c.word_of.result.now) ((flat_map field (decimal c.args.self.now.node ∷ [])) ++ ((flat_map field (mark_fields (shown_mark c.args.self.now.mark))) ++ (10 ∷ []))) (g.K.Sink.taken c.write_whole.new.out) (c.in_err-write_whole.ensures.wrote)))

pub returns-in_err-write_fields-clause-wrote : goal.returns-in_err-write_fields-clause-wrote
returns-in_err-write_fields-clause-wrote g c =
    let p = err_from_is_err_and c.from_residual-in_err-write_fields.result c.from_residual-in_err-write_fields.ensures.1 in
    rw p.1 (subst (λ (w : List ℕ). TookFront (g.K.Sink.taken c.args.out.now) w (g.K.Sink.taken c.write_fields.new.out)) (mark_text c.word_of.result.now (mark_word (shown_mark c.args.self.now.mark)) (decimal c.args.self.now.node) (flat_map field (mark_fields (shown_mark c.args.self.now.mark))) c.word_of.ensures) (front-behind (g.K.Sink.taken c.args.out.now) (c.word_of.result.now) (g.K.Sink.taken c.write_whole.new.out) ((flat_map field (decimal c.args.self.now.node ∷ [])) ++ ((flat_map field (mark_fields (shown_mark c.args.self.now.mark))) ++ (10 ∷ []))) (g.K.Sink.taken c.write_fields.new.out) (c.in_ok-write_whole.ensures.wrote) (front-first (g.K.Sink.taken c.write_whole.new.out) (flat_map field (decimal c.args.self.now.node ∷ [])) ((flat_map field (mark_fields (shown_mark c.args.self.now.mark))) ++ (10 ∷ [])) (g.K.Sink.taken c.write_fields.new.out) (c.in_err-write_fields.ensures.wrote))))

pub returns-in_err-write_carried-clause-wrote : goal.returns-in_err-write_carried-clause-wrote
returns-in_err-write_carried-clause-wrote g c =
    let p = err_from_is_err_and c.from_residual-in_err-write_carried.result c.from_residual-in_err-write_carried.ensures.1 in
    rw p.1 (subst (λ (w : List ℕ). TookFront (g.K.Sink.taken c.args.out.now) w (g.K.Sink.taken c.write_carried.new.out)) (mark_text c.word_of.result.now (mark_word (shown_mark c.args.self.now.mark)) (decimal c.args.self.now.node) (flat_map field (mark_fields (shown_mark c.args.self.now.mark))) c.word_of.ensures) (front-behind (g.K.Sink.taken c.args.out.now) (c.word_of.result.now) (g.K.Sink.taken c.write_whole.new.out) ((flat_map field (decimal c.args.self.now.node ∷ [])) ++ ((flat_map field (mark_fields (shown_mark c.args.self.now.mark))) ++ (10 ∷ []))) (g.K.Sink.taken c.write_carried.new.out) (c.in_ok-write_whole.ensures.wrote) (front-behind (g.K.Sink.taken c.write_whole.new.out) (flat_map field (decimal c.args.self.now.node ∷ [])) (g.K.Sink.taken c.write_fields.new.out) ((flat_map field (mark_fields (shown_mark c.args.self.now.mark))) ++ (10 ∷ [])) (g.K.Sink.taken c.write_carried.new.out) (c.in_ok-write_fields.ensures.wrote) (front-first (g.K.Sink.taken c.write_fields.new.out) (flat_map field (mark_fields (shown_mark c.args.self.now.mark))) (10 ∷ []) (g.K.Sink.taken c.write_carried.new.out) (c.in_err-write_carried.ensures.wrote)))))

pub returns-clause-wrote : goal.returns-clause-wrote
returns-clause-wrote g c = subst (λ (w : List ℕ). Wrote c.write_whole-2.result (g.K.Sink.taken c.args.out.now) w (g.K.Sink.taken c.write_whole-2.new.out)) (mark_text c.word_of.result.now (mark_word (shown_mark c.args.self.now.mark)) (decimal c.args.self.now.node) (flat_map field (mark_fields (shown_mark c.args.self.now.mark))) c.word_of.ensures) (wrote-behind c.write_whole-2.result (g.K.Sink.taken c.args.out.now) (c.word_of.result.now) (g.K.Sink.taken c.write_whole.new.out) ((flat_map field (decimal c.args.self.now.node ∷ [])) ++ ((flat_map field (mark_fields (shown_mark c.args.self.now.mark))) ++ (10 ∷ []))) (g.K.Sink.taken c.write_whole-2.new.out) (c.in_ok-write_whole.ensures.wrote) (wrote-behind c.write_whole-2.result (g.K.Sink.taken c.write_whole.new.out) (flat_map field (decimal c.args.self.now.node ∷ [])) (g.K.Sink.taken c.write_fields.new.out) ((flat_map field (mark_fields (shown_mark c.args.self.now.mark))) ++ (10 ∷ [])) (g.K.Sink.taken c.write_whole-2.new.out) (c.in_ok-write_fields.ensures.wrote) (wrote-behind c.write_whole-2.result (g.K.Sink.taken c.write_fields.new.out) (flat_map field (mark_fields (shown_mark c.args.self.now.mark))) (g.K.Sink.taken c.write_carried.new.out) (10 ∷ []) (g.K.Sink.taken c.write_whole-2.new.out) (c.in_ok-write_carried.ensures.wrote) (c.write_whole-2.ensures.wrote))))
