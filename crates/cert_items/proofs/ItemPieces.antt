-- No item takes more than 128 bytes, so a reader that holds as many reads it in them as in the whole.
use Rattle.std.proofs.Common.{◌≡◌, ℕ, ◌+◌, ◌-◌, ◌^◌, ◌≤◌, true, cond, eqb, List, [], ◌∷◌, ◌++◌, length, Result, Ok, refl, arith, lit≤}
use Rattle.std.specs.Prelude.{codes}
use Rattle.cert_text.specs.declared.pieces.Ends.TheVariants.{Space, Line, LineIfZero}
use Rattle.cert_text.specs.Reading.{At, ◌>>=◌, word_at, same_at, end_of, ends_before, u32_at, u64_at, i64_at, i128_at}
use Rattle.cert_text.proofs.WindowLaws.{window_reads}
use Rattle.cert_text.proofs.PieceLaws.{one_line}
use Rattle.cert_format.specs.declared.reading.Kind.{Kind}
use Rattle.cert_format.specs.declared.reading.Kind.TheVariants as kinds
use Rattle.cert_items.specs.declared.items.State.{State}
use Rattle.cert_items.specs.declared.items.State.TheVariants as states
use Rattle.cert_format.specs.Reading.{kind_spelling, kind_at, shape_at, list_word_at, split_line_at, part_at, bound_at}
use Rattle.cert_items.specs.Items.{kind, shape, bases, weight, outflow, direct, splits, cut, proofs, head, one_part, cost_is, bound_is, gap_is, end_is}
use Rattle.cert_items.specs.Items.{cuts_left, proofs_left, parts_left, directs_left, direct_words_at, outflow_words_at, weight_words_at, begin_at}
use Rattle.cert_items.specs.Items.{shaped_state, shape_step_at, bases_step_at, weight_step_at, outflow_step_at, direct_step_at, head_step_at, claim_step_at}
use Rattle.cert_items.specs.Items.{next_at}
use Rattle.cert_format.proofs.LineLaws.{Any, kind_reads}
use Rattle.cert_items.proofs.Pieces.{Piece, any, piece_reads, piece_done, piece_more, piece_bind, word_piece, after_word_piece, with_piece, cond_piece}
use Rattle.cert_items.proofs.Pieces.{u32_piece, u64_piece, i64_piece, i128_piece, same_piece}

kind_piece : Piece 0 11 kind_at
kind_piece = piece_reads Kind Any (λ k. codes "kind " ++ kind_spelling k) kind_at kind_reads 0 11 (λ k h. omega arith)
    (window_reads Kind Any (λ k. codes "kind " ++ kind_spelling k) kind_at kind_reads 11 short)
  where
    short : (k : Kind) → Any k → length (codes "kind " ++ kind_spelling k) ≤ 11
    short kinds.Gap h = lit≤ tt
    short kinds.Bound h = lit≤ tt
    short kinds.NoPlan h = lit≤ tt

list_word_piece : (word : List ℕ) (n : ℕ) → one_line word ≡ true → 1 ≤ length word → Piece 1 (length word + 1) (list_word_at word n)
unfolding list_word_at
list_word_piece word n o some = after_word_piece word 1 (word_at (end_of (ends_before n) 0 ∷ [])) o some (any (word_piece (end_of (ends_before n) 0 ∷ []) refl (lit≤ tt)))

direct_words : (n : ℕ) → Piece 0 7 (direct_words_at n)
unfolding direct_words_at
direct_words n = with_piece 7 (list_word_at (codes "direct") n) (λ _. directs_left n) (any (list_word_piece (codes "direct") n refl (lit≤ tt)))

outflows_to : (n d : ℕ) → Piece 0 7 (λ a. cond (eqb n 0) (direct_words_at d a) (Ok (states.Outflow (n - 1) d, a)))
outflows_to n d = cond_piece (eqb n 0) 7 (direct_words_at d) (λ a. Ok (states.Outflow (n - 1) d, a)) (direct_words d) (piece_more 0 7 (lit≤ tt) (piece_done (states.Outflow (n - 1) d)))

outflow_words : (n d : ℕ) → Piece 0 16 (outflow_words_at n d)
unfolding outflow_words_at
outflow_words n d = piece_bind 9 7 (list_word_at (codes "outflows") n)
    (λ _ a. cond (eqb n 0) (direct_words_at d a) (Ok (states.Outflow (n - 1) d, a))) (any (list_word_piece (codes "outflows") n refl (lit≤ tt))) (λ _. outflows_to n d)

weights_to : (n o d : ℕ) → Piece 0 16 (λ a. cond (eqb n 0) (outflow_words_at o d a) (Ok (states.Weight (n - 1) o d, a)))
weights_to n o d = cond_piece (eqb n 0) 16 (outflow_words_at o d) (λ a. Ok (states.Weight (n - 1) o d, a)) (outflow_words o d) (piece_more 0 16 (lit≤ tt) (piece_done (states.Weight (n - 1) o d)))

weight_words : (n o d : ℕ) → Piece 0 24 (weight_words_at n o d)
unfolding weight_words_at
weight_words n o d = piece_bind 8 16 (list_word_at (codes "weights") n)
    (λ _ a. cond (eqb n 0) (outflow_words_at o d a) (Ok (states.Weight (n - 1) o d, a))) (any (list_word_piece (codes "weights") n refl (lit≤ tt))) (λ _. weights_to n o d)

begin_piece : Piece 1 22 begin_at
unfolding begin_at
begin_piece = after_word_piece (codes "poolcert 1\n") 11 (λ a. kind_at a >>= λ k. Ok ((kind k.0, states.Shape k.0), k.1)) refl (lit≤ tt)
    (with_piece 11 kind_at (λ k. (kind k, states.Shape k)) kind_piece)

-- the numbers of a shape, behind its word
abbrev counts_at : At → Result (List ℕ × At) ℕ
counts_at a = u32_at Space a >>= λ s. u32_at Space s.1 >>= λ p. u32_at Space p.1 >>= λ j. u32_at Space j.1 >>= λ q. u32_at Space q.1 >>= λ f. u32_at
    Space f.1 >>= λ o. u32_at Line o.1 >>= λ d. Ok (s.0 ∷ p.0 ∷ j.0 ∷ q.0 ∷ f.0 ∷ o.0 ∷ d.0 ∷ [], d.1)

counts_piece : Piece 0 77 counts_at
counts_piece =
    piece_bind 11 66 (u32_at Space) (λ s a. u32_at Space a >>= λ p. u32_at Space p.1 >>= λ j. u32_at Space j.1 >>= λ q. u32_at Space q.1 >>= λ f.
    u32_at Space f.1 >>= λ o. u32_at Line o.1 >>= λ d. Ok (s ∷ p.0 ∷ j.0 ∷ q.0 ∷ f.0 ∷ o.0 ∷ d.0 ∷ [], d.1)) (any (u32_piece Space)) (λ s.
    piece_bind 11 55 (u32_at Space) (λ p a. u32_at Space a >>= λ j. u32_at Space j.1 >>= λ q. u32_at Space q.1 >>= λ f. u32_at Space f.1 >>= λ o.
    u32_at Line o.1 >>= λ d. Ok (s ∷ p ∷ j.0 ∷ q.0 ∷ f.0 ∷ o.0 ∷ d.0 ∷ [], d.1)) (any (u32_piece Space)) (λ p.
    piece_bind 11 44 (u32_at Space) (λ j a. u32_at Space a >>= λ q. u32_at Space q.1 >>= λ f. u32_at Space f.1 >>= λ o. u32_at Line o.1 >>= λ d. Ok
    (s ∷ p ∷ j ∷ q.0 ∷ f.0 ∷ o.0 ∷ d.0 ∷ [], d.1)) (any (u32_piece Space)) (λ j.
    piece_bind 11 33 (u32_at Space) (λ q a. u32_at Space a >>= λ f. u32_at Space f.1 >>= λ o. u32_at Line o.1 >>= λ d. Ok (s ∷ p ∷ j ∷ q ∷ f.0 ∷ o.0 ∷ d.0 ∷ [], d.1)) (any (u32_piece Space)) (λ q.
    piece_bind 11 22 (u32_at Space) (λ f a. u32_at Space a >>= λ o. u32_at Line o.1 >>= λ d. Ok (s ∷ p ∷ j ∷ q ∷ f ∷ o.0 ∷ d.0 ∷ [], d.1)) (any (u32_piece Space)) (λ f.
    piece_bind 11 11 (u32_at Space) (λ o a. u32_at Line a >>= λ d. Ok (s ∷ p ∷ j ∷ q ∷ f ∷ o ∷ d.0 ∷ [], d.1)) (any (u32_piece Space)) (λ o.
    with_piece 11 (u32_at Line) (λ d. s ∷ p ∷ j ∷ q ∷ f ∷ o ∷ d ∷ []) (any (u32_piece Line))))))))

shape_piece : Piece 1 83 shape_at
unfolding shape_at
shape_piece = after_word_piece (codes "shape ") 77 counts_at refl (lit≤ tt) counts_piece

split_piece : Piece 1 49 split_line_at
unfolding split_line_at
split_piece = after_word_piece (codes "split ") 43 (λ a. u32_at Space a >>= λ l. u32_at Space l.1 >>= λ c. i64_at Line c.1 >>= λ z. Ok
    (record { leaf = l.0; coord = c.0; cut = z.0 }, z.1)) refl (lit≤ tt)
    (piece_bind 11 32 (u32_at Space) (λ l a. u32_at Space a >>= λ c. i64_at Line c.1 >>= λ z. Ok (record { leaf = l; coord = c.0; cut = z.0 }, z.1)) (any (u32_piece Space)) (λ l.
    piece_bind 11 21 (u32_at Space) (λ c a. i64_at Line a >>= λ z. Ok (record { leaf = l; coord = c; cut = z.0 }, z.1)) (any (u32_piece Space)) (λ c.
    with_piece 21 (i64_at Line) (λ z. record { leaf = l; coord = c; cut = z }) (any (i64_piece Line)))))

part_piece : (k : ℕ) → Piece 1 32 (part_at k)
unfolding part_at
part_piece k = piece_bind 11 21 (u32_at Space) (λ r a. i64_at (ends_before k) a >>= λ m. Ok (record { row = r; mult = m.0 }, m.1)) (u32_piece Space) (λ r.
    with_piece 21 (i64_at (ends_before k)) (λ m. record { row = r; mult = m }) (any (i64_piece (ends_before k))))

bound_piece : Piece 1 47 bound_at
unfolding bound_at
bound_piece = after_word_piece (codes "bound ") 41 (i128_at Line) refl (lit≤ tt) (any (i128_piece Line))

pub next_piece : (s : State) → Piece 1 128 (next_at s)
unfolding next_at shape_step_at bases_step_at weight_step_at outflow_step_at direct_step_at head_step_at claim_step_at
next_piece states.Begin = piece_more 22 128 (lit≤ tt) begin_piece
next_piece (states.Shape k) = piece_more 83 128 (lit≤ tt) (with_piece 83 shape_at (λ s. (shape s, shaped_state k s)) shape_piece)
next_piece (states.Bases n o d) = piece_more 51 128 (lit≤ tt)
    (after_word_piece (codes "plan ") 46 (λ a. u32_at Space a >>= λ b. u32_at Line b.1 >>= λ f. weight_words_at n o d f.1 >>= λ next. Ok ((bases b.0 f.0, next.0), next.1)) refl (lit≤ tt)
    (piece_bind 11 35 (u32_at Space) (λ b a. u32_at Line a >>= λ f. weight_words_at n o d f.1 >>= λ next. Ok ((bases b f.0, next.0), next.1)) (any (u32_piece Space)) (λ b.
    piece_bind 11 24 (u32_at Line) (λ f a. weight_words_at n o d a >>= λ next. Ok ((bases b f, next.0), next.1)) (any (u32_piece Line)) (λ f.
    with_piece 24 (weight_words_at n o d) (λ next. (bases b f, next)) (weight_words n o d)))))
next_piece (states.Weight n o d) = piece_more 27 128 (lit≤ tt)
    (piece_bind 11 16 (u32_at (ends_before n)) (λ w a. cond (eqb n 0) (outflow_words_at o d a) (Ok (states.Weight (n - 1) o d, a)) >>= λ next. Ok
    ((weight w, next.0), next.1)) (u32_piece (ends_before n)) (λ w.
    with_piece 16 (λ a. cond (eqb n 0) (outflow_words_at o d a) (Ok (states.Weight (n - 1) o d, a))) (λ next. (weight w, next)) (weights_to n o d)))
next_piece (states.Outflow n d) = piece_more 28 128 (lit≤ tt)
    (piece_bind 21 7 (u64_at (ends_before n)) (λ w a. cond (eqb n 0) (direct_words_at d a) (Ok (states.Outflow (n - 1) d, a)) >>= λ next. Ok
    ((outflow w, next.0), next.1)) (u64_piece (ends_before n)) (λ w.
    with_piece 7 (λ a. cond (eqb n 0) (direct_words_at d a) (Ok (states.Outflow (n - 1) d, a))) (λ next. (outflow w, next)) (outflows_to n d)))
next_piece (states.Direct n) = piece_more 21 128 (lit≤ tt) (with_piece 21 (u64_at (ends_before n)) (λ f. (direct f, directs_left n)) (u64_piece (ends_before n)))
next_piece (states.Splits k) = piece_more 18 128 (lit≤ tt) (after_word_piece (codes "splits ") 11 (λ a. u32_at Line a >>= λ n. Ok ((splits n.0, cuts_left k n.0), n.1)) refl (lit≤ tt)
    (with_piece 11 (u32_at Line) (λ n. (splits n, cuts_left k n)) (any (u32_piece Line))))
next_piece (states.Cut k n) = piece_more 49 128 (lit≤ tt) (with_piece 49 split_line_at (λ s. (cut s, cuts_left k n)) split_piece)
next_piece (states.Proofs k) = piece_more 18 128 (lit≤ tt) (after_word_piece (codes "proofs ") 11 (λ a. u32_at Line a >>= λ n. Ok ((proofs n.0, proofs_left k n.0), n.1)) refl (lit≤ tt)
    (with_piece 11 (u32_at Line) (λ n. (proofs n, proofs_left k n)) (any (u32_piece Line))))
next_piece (states.Head k n) = piece_more 49 128 (lit≤ tt)
    (after_word_piece (codes "proof ") 43 (λ a. u32_at Space a >>= λ node. u64_at Space node.1 >>= λ scale. u32_at LineIfZero scale.1 >>= λ count. Ok
    ((head node.0 scale.0 count.0, parts_left k count.0 n), count.1)) refl (lit≤ tt)
    (piece_bind 11 32 (u32_at Space) (λ node a. u64_at Space a >>= λ scale. u32_at LineIfZero scale.1 >>= λ count. Ok
    ((head node scale.0 count.0, parts_left k count.0 n), count.1)) (any (u32_piece Space)) (λ node.
    piece_bind 21 11 (u64_at Space) (λ scale a. u32_at LineIfZero a >>= λ count. Ok ((head node scale count.0, parts_left k count.0 n), count.1)) (any (u64_piece Space)) (λ scale.
    with_piece 11 (u32_at LineIfZero) (λ count. (head node scale count, parts_left k count n)) (any (u32_piece LineIfZero))))))
next_piece (states.Part k n behind) = piece_more 32 128 (lit≤ tt) (with_piece 32 (part_at n) (λ p. (one_part p, parts_left k n behind)) (part_piece n))
next_piece states.Cost = piece_more 67 128 (lit≤ tt)
    (after_word_piece (codes "cost ") 62 (λ a. i128_at Space a >>= λ c. u64_at Line c.1 >>= λ b. Ok ((cost_is c.0 b.0, states.GapBound b.0), b.1)) refl (lit≤ tt)
    (piece_bind 41 21 (i128_at Space) (λ c a. u64_at Line a >>= λ b. Ok ((cost_is c b.0, states.GapBound b.0), b.1)) (any (i128_piece Space)) (λ c.
    with_piece 21 (u64_at Line) (λ b. (cost_is c b, states.GapBound b)) (any (u64_piece Line)))))
next_piece (states.GapBound b) = piece_more 47 128 (lit≤ tt) (with_piece 47 bound_at (λ d. (bound_is d, states.Gap b)) bound_piece)
next_piece (states.Gap b) = piece_more 66 128 (lit≤ tt)
    (after_word_piece (codes "gap ") 62 (λ a. i128_at Space a >>= λ g. same_at (2 ^ 64 - 1) (end_of Line) b g.1 >>= λ s. Ok ((gap_is g.0 b, states.End), s.1)) refl (lit≤ tt)
    (piece_bind 41 21 (i128_at Space) (λ g a. same_at (2 ^ 64 - 1) (end_of Line) b a >>= λ s. Ok ((gap_is g b, states.End), s.1)) (any (i128_piece Space)) (λ g.
    with_piece 21 (same_at (2 ^ 64 - 1) (end_of Line) b) (λ s. (gap_is g b, states.End)) (any (same_piece b)))))
next_piece states.Bound = piece_more 47 128 (lit≤ tt) (with_piece 47 bound_at (λ d. (bound_is d, states.End)) bound_piece)
next_piece states.End = piece_more 4 128 (lit≤ tt) (after_word_piece (codes "end\n") 0 (λ a. Ok ((end_is, states.Ended), a)) refl (lit≤ tt) (piece_done (end_is, states.Ended)))
next_piece states.Ended = record {
  window = record { sees = λ line seen more le. refl; takes = λ a b x e. absurd cc };
  leaves = λ a b x e. absurd cc;
}
