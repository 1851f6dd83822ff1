-- Each line is read as it is spelled.
use Rattle.std.proofs.Common.{◌≡◌, ℕ, ◌^◌, ◌<◌, Bool, true, false, cond, eqb, List, [], ◌∷◌, ◌++◌, length, Option, Some, None, Result, Ok, refl, sym, ap, ◌∙◌, append_assoc, arith}
use Rattle.std.specs.Prelude.{ℤ, FitsSigned, codes, map, get_or}
use Rattle.std.specs.Int.{w64, w128}
use Rattle.std.specs.List.{flat_map}
use Rattle.std.specs.Fmt.{decimal, signed_decimal}
use Rattle.std.proofs.lemmas.Bool.{eqb-true}
use Rattle.std.proofs.lemmas.List.{append-nil}
use Rattle.std.proofs.lemmas.List.Concat.{flat_map-append}
use Rattle.std.proofs.lemmas.List.Elements.{All-from_recursion, recursion_from_All}
use Rattle.std.proofs.lemmas.List.Folds.{flat_map-map}
use Rattle.pool_model.specs.Plan.{Written}
use Rattle.row_model.specs.Multipliers.{Part}
use Rattle.row_model.specs.Trees.{Split}
use Rattle.cert_text.specs.declared.pieces.Ends.{Ends}
use Rattle.cert_text.specs.declared.pieces.Ends.TheVariants.{Space, Line, LineIfZero}
use Rattle.cert_text.specs.Lines.{first_line}
use Rattle.cert_text.specs.Reading.{At, ◌>>=◌, after_word, with_unit, word_at, number_spelling, int_spelling, each_at, each_spelling, end_of, ends_before, u32_at, u64_at, i64_at}
use Rattle.cert_text.proofs.Laws.{Reads, bind_assoc, bind_reads, done_reads, reworded, reads_as, each_reads, AreItems}
use Rattle.cert_text.proofs.PieceLaws.{IsPiece, piece_reads, value_of, one_line, after_word_is, after_word-within, some_pair, pair_is}
use Rattle.cert_text.proofs.NumberLaws.{below, u32_reads, u64_reads, i64_reads, i128_reads, word_then, stop, stop_is, count_is, list_line, each_spelling-same}
use Rattle.cert_format.specs.declared.reading.Kind.{Kind}
use Rattle.cert_format.specs.declared.reading.Kind.TheVariants as kinds
use Rattle.cert_writing.specs.Cert.{NodeProof, IsSplitInRange, IsPartInRange, IsProofInRange}
use Rattle.cert_format.specs.Reading.{kind_spelling, as_kind, kind_from, kind_at, shape_at, u32s_at, list_word_at, weights_at}
use Rattle.cert_format.specs.Reading.{flows_at, plan_at, split_line_at, splits_at, part_at, proof_line_at, proofs_at, bound_at}
use Rattle.cert_writing.specs.Text.{field, line, plan_lines, split_line, part_fields, proof_line, split_lines, proof_lines}

-- ---- the kind

abbrev pub Any : {X : Type 0} → X → Type 0
Any x = Unit {0}

kind_piece : IsPiece Kind Any kind_spelling kind_from
kind_piece = record {
  takes = λ b k r e. (tt, kind_is b k r e);
  again = λ k r h. kind_again k r;
  within = kind_within;
  some = (kinds.NoPlan, tt);
}
  where
    as_kind_is : (j : Kind) (w : List ℕ) (c : ℕ) (cs : List ℕ) (k : Kind) (r : List ℕ) (d : ℕ) → kind_spelling j ≡ d ∷ w → c ≡ d
        → as_kind j (after_word w cs) ≡ some_pair k r → c ∷ cs ≡ kind_spelling k ++ r
    as_kind_is j w c cs k r d s h e = by_word (after_word w cs) refl e
      where
        by_word : (o : Option (List ℕ)) → after_word w cs ≡ o → as_kind j o ≡ some_pair k r → c ∷ cs ≡ kind_spelling k ++ r
        by_word None f e2 = absurd cc
        by_word (Some t) f e2 =
            let p = pair_is j k t r e2 in
            let g : cs ≡ w ++ t = after_word_is w cs t f in
            let whole : c ∷ cs ≡ kind_spelling j ++ t = ap (λ (x : ℕ). x ∷ cs) h ∙ ap (λ (x : List ℕ). d ∷ x) g ∙ ap (λ (x : List ℕ). x ++ t) (sym s) in
            whole ∙ ap (λ (x : Kind). kind_spelling x ++ t) p.0 ∙ ap (λ (x : List ℕ). kind_spelling k ++ x) p.1

    kind_is : (b : List ℕ) (k : Kind) (r : List ℕ) → kind_from b ≡ some_pair k r → b ≡ kind_spelling k ++ r
    kind_is [] k r e = absurd cc
    kind_is (c ∷ cs) k r e = by_letter (eqb c 103) (eqb c 98) (eqb c 110) (eqb-true c 103) (eqb-true c 98) (eqb-true c 110) e
      where
        by_letter : (t u v : Bool) → (t ≡ true → c ≡ 103) → (u ≡ true → c ≡ 98) → (v ≡ true → c ≡ 110)
            → cond t (as_kind kinds.Gap (after_word (codes "ap\n") cs))
            (cond u (as_kind kinds.Bound (after_word (codes "ound\n") cs)) (cond v (as_kind kinds.NoPlan (after_word (codes "one\n") cs)) None)) ≡ some_pair k r → c ∷ cs ≡ kind_spelling k ++ r
        by_letter true u v f g h e2 = as_kind_is kinds.Gap (codes "ap\n") c cs k r 103 refl (f refl) e2
        by_letter false true v f g h e2 = as_kind_is kinds.Bound (codes "ound\n") c cs k r 98 refl (g refl) e2
        by_letter false false true f g h e2 = as_kind_is kinds.NoPlan (codes "one\n") c cs k r 110 refl (h refl) e2
        by_letter false false false f g h e2 = absurd cc

    kind_again : (k : Kind) (r : List ℕ) → kind_from (kind_spelling k ++ r) ≡ some_pair k r
    kind_again kinds.Gap r = refl
    kind_again kinds.Bound r = refl
    kind_again kinds.NoPlan r = refl

    kind_within : (b : List ℕ) → value_of (kind_from b) ≡ value_of (kind_from (first_line b))
    kind_within [] = refl
    kind_within (c ∷ cs) = by_letter (eqb c 103) (eqb c 98) (eqb c 110) (eqb c 10) (eqb-true c 103) (eqb-true c 98) (eqb-true c 110) (eqb-true c 10)
      where
        as_kind_within : (k : Kind) (w : List ℕ) → one_line w ≡ true → value_of (as_kind k (after_word w cs)) ≡ value_of (as_kind k (after_word w (first_line cs)))
        as_kind_within k w o = by_both (after_word w cs) (after_word w (first_line cs)) (after_word-within w cs o)
          where
            by_both : (o p : Option (List ℕ)) → value_of (with_unit o) ≡ value_of (with_unit p) → value_of (as_kind k o) ≡ value_of (as_kind k p)
            by_both None None e = refl
            by_both (Some r) (Some q) e = refl
            by_both None (Some q) e = absurd cc
            by_both (Some r) None e = absurd cc

        by_letter : (t u v m : Bool) → (t ≡ true → c ≡ 103) → (u ≡ true → c ≡ 98) → (v ≡ true → c ≡ 110) → (m ≡ true → c ≡ 10)
            → value_of (cond t (as_kind kinds.Gap (after_word (codes "ap\n") cs))
            (cond u (as_kind kinds.Bound (after_word (codes "ound\n") cs)) (cond v (as_kind kinds.NoPlan (after_word (codes "one\n") cs)) None)))
            ≡ value_of (cond t (as_kind kinds.Gap (after_word (codes "ap\n") (cond m [] (first_line cs))))
            (cond u (as_kind kinds.Bound (after_word (codes "ound\n") (cond m [] (first_line cs)))) (cond v (as_kind kinds.NoPlan (after_word (codes "one\n") (cond m [] (first_line cs)))) None)))
        by_letter false false false m f g h k = refl
        by_letter true u v false f g h k = as_kind_within kinds.Gap (codes "ap\n") refl
        by_letter false true v false f g h k = as_kind_within kinds.Bound (codes "ound\n") refl
        by_letter false false true false f g h k = as_kind_within kinds.NoPlan (codes "one\n") refl
        by_letter true u v true f g h k = absurd (let x = f refl in let y = k refl in omega arith)
        by_letter false true v true f g h k = absurd (let x = g refl in let y = k refl in omega arith)
        by_letter false false true true f g h k = absurd (let x = h refl in let y = k refl in omega arith)

pub kind_reads : Reads Kind Any (λ k. codes "kind " ++ kind_spelling k) kind_at
unfolding kind_at
kind_reads = word_then (codes "kind ") refl (piece_reads Kind Any kind_spelling kind_from kind_piece)

-- ---- lines of numbers

-- the numbers of a line behind its word
list_text : (word : List ℕ) (n : ℕ) (ws : List ℕ) → length ws ≡ n → word ++ (stop n ∷ each_spelling (λ k. number_spelling (end_of (ends_before k))) ws) ≡ line word (map decimal ws)
list_text word n ws e =
    let s : ℕ → ℕ → List ℕ = λ k. number_spelling (end_of (ends_before k)) in
    ap (λ (w : List ℕ). word ++ w) (ap (λ (k : ℕ). stop k ∷ each_spelling s ws) (sym e) ∙ list_line decimal s (λ k x. ap (λ (d : ℕ). decimal x ++ d ∷ []) (stop_is k x)) ws
    ∙ ap (λ (w : List ℕ). w ++ 10 ∷ []) (sym (flat_map-map field decimal ws)))

-- a word and n numbers
list_reads : (word : List ℕ) (I : ℕ → Type 0) (read : ℕ → At → Result (ℕ × At) ℕ) → one_line word ≡ true → ((k : ℕ) → Reads ℕ I (number_spelling (end_of (ends_before k))) (read k)) → (n : ℕ)
    → Reads (List ℕ) (AreItems I n) (λ ws. line word (map decimal ws)) (λ a. list_word_at word n a >>= λ w. each_at read n w.1)
unfolding list_word_at
list_reads word I read o one n =
    let s : ℕ → ℕ → List ℕ = λ k. number_spelling (end_of (ends_before k)) in
    reads_as (List ℕ) (AreItems I n) (λ ws. line word (map decimal ws)) (λ a. word_at word a >>= λ w. word_at (stop n ∷ []) w.1 >>= λ v. each_at read n v.1) _
    (reworded (List ℕ) (AreItems I n) (AreItems I n) (λ ws. word ++ ((stop n ∷ []) ++ each_spelling s ws)) (λ ws. line word (map decimal ws)) _
    (word_then word o (word_then (stop n ∷ []) refl (each_reads ℕ I s read one n)))
    (λ ws h. h) (λ ws h. h) (λ ws h. list_text word n ws h.0))
    (λ a. bind_assoc (word_at word a) (λ w. word_at (stop n ∷ []) w.1) (λ v. each_at read n v.1))

weights_reads : (n : ℕ) → Reads (List ℕ) (AreItems (below 32) n) (λ ws. line (codes "weights") (map decimal ws)) (weights_at n)
unfolding weights_at
weights_reads n = list_reads (codes "weights") (below 32) (λ k. u32_at (ends_before k)) refl (λ k. u32_reads (ends_before k)) n

flows_reads : (word : List ℕ) → one_line word ≡ true → (n : ℕ) → Reads (List ℕ) (AreItems (below 64) n) (λ ws. line word (map decimal ws)) (flows_at word n)
unfolding flows_at
flows_reads word o n = list_reads word (below 64) (λ k. u64_at (ends_before k)) o (λ k. u64_reads (ends_before k)) n

-- ---- the shape

-- seven numbers, one after another
seven : (a : At) → shape_at a ≡ (word_at (codes "shape ") a >>= λ w. u32s_at 7 w.1)
unfolding shape_at each_at
seven a = simp bind_assoc refl

pub shape_reads : Reads (List ℕ) (AreItems (below 32) 7) (λ ws. line (codes "shape") (map decimal ws)) shape_at
shape_reads =
    let s : ℕ → ℕ → List ℕ = λ k. number_spelling (end_of (ends_before k)) in
    reads_as (List ℕ) (AreItems (below 32) 7) (λ ws. line (codes "shape") (map decimal ws)) (λ a. word_at (codes "shape ") a >>= λ w. u32s_at 7 w.1) shape_at
    (reworded (List ℕ) (AreItems (below 32) 7) (AreItems (below 32) 7) (λ ws. codes "shape " ++ each_spelling s ws) (λ ws. line (codes "shape") (map decimal ws)) _
    (word_then (codes "shape ") refl (each_reads ℕ (below 32) s (λ k. u32_at (ends_before k)) (λ k. u32_reads (ends_before k)) 7))
    (λ ws h. h) (λ ws h. h) (λ ws h. list_text (codes "shape") 7 ws h.0))
    seven

-- ---- the plan

abbrev made : ℕ → ℕ → List ℕ → List ℕ → List ℕ → Written
made b f ws os ds = record { base = b; flow_base = f; weights = ws; outflows = os; direct = ds }

-- what is known of the plan from each part on
abbrev pub IsFromDirects : List ℕ → ℕ → ℕ → List ℕ → List ℕ → Written → Type 0
IsFromDirects sh b f ws os z = AreItems (below 64) (get_or sh 6 0) z.direct × (z ≡ made b f ws os z.direct)

abbrev pub IsFromOutflows : List ℕ → ℕ → ℕ → List ℕ → Written → Type 0
IsFromOutflows sh b f ws z = AreItems (below 64) (get_or sh 5 0) z.outflows × IsFromDirects sh b f ws z.outflows z

abbrev pub IsFromWeights : List ℕ → ℕ → ℕ → Written → Type 0
IsFromWeights sh b f z = AreItems (below 32) (get_or sh 4 0) z.weights × IsFromOutflows sh b f z.weights z

abbrev pub IsFromFlowBase : List ℕ → ℕ → Written → Type 0
IsFromFlowBase sh b z = below 32 z.flow_base × IsFromWeights sh b z.flow_base z

-- a plan in range, of this shape
abbrev pub IsPlanOf : List ℕ → Written → Type 0
IsPlanOf sh z = below 32 z.base × IsFromFlowBase sh z.base z

abbrev numbers : List ℕ → List ℕ → List ℕ
numbers word ws = line word (map decimal ws)

-- its text from each part on
abbrev from_directs : Written → List ℕ
from_directs z = numbers (codes "direct") z.direct ++ []

abbrev from_outflows : Written → List ℕ
from_outflows z = numbers (codes "outflows") z.outflows ++ from_directs z

abbrev from_weights : Written → List ℕ
from_weights z = numbers (codes "weights") z.weights ++ from_outflows z

abbrev from_flow_base : Written → List ℕ
from_flow_base z = number_spelling (end_of Line) z.flow_base ++ from_weights z

abbrev from_base : Written → List ℕ
from_base z = number_spelling (end_of Space) z.base ++ from_flow_base z

-- how it is read from each part on
abbrev read_directs : List ℕ → ℕ → ℕ → List ℕ → List ℕ → At → Result (Written × At) ℕ
read_directs sh b f ws os a = flows_at (codes "direct") (get_or sh 6 0) a >>= λ ds. Ok (made b f ws os ds.0, ds.1)

abbrev read_outflows : List ℕ → ℕ → ℕ → List ℕ → At → Result (Written × At) ℕ
read_outflows sh b f ws a = flows_at (codes "outflows") (get_or sh 5 0) a >>= λ os. read_directs sh b f ws os.0 os.1

abbrev read_weights : List ℕ → ℕ → ℕ → At → Result (Written × At) ℕ
read_weights sh b f a = weights_at (get_or sh 4 0) a >>= λ ws. read_outflows sh b f ws.0 ws.1

abbrev read_flow_base : List ℕ → ℕ → At → Result (Written × At) ℕ
read_flow_base sh b a = u32_at Line a >>= λ f. read_weights sh b f.0 f.1

abbrev read_base : List ℕ → At → Result (Written × At) ℕ
read_base sh a = u32_at Space a >>= λ b. read_flow_base sh b.0 b.1

from_directs-reads : (sh : List ℕ) (b f : ℕ) (ws os : List ℕ) → Reads Written (IsFromDirects sh b f ws os) from_directs (read_directs sh b f ws os)
from_directs-reads sh b f ws os =
    bind_reads (List ℕ) Written (AreItems (below 64) (get_or sh 6 0)) (numbers (codes "direct")) (flows_at (codes "direct") (get_or sh 6 0))
    (λ ds z. z ≡ made b f ws os ds) (λ _ _. []) (λ ds a. Ok (made b f ws os ds, a)) (λ z. z.direct)
    (flows_reads (codes "direct") refl (get_or sh 6 0)) (λ ds i. done_reads Written (made b f ws os ds)) (λ ds z e. ap (λ (y : Written). y.direct) e)

from_outflows-reads : (sh : List ℕ) (b f : ℕ) (ws : List ℕ) → Reads Written (IsFromOutflows sh b f ws) from_outflows (read_outflows sh b f ws)
from_outflows-reads sh b f ws = bind_reads (List ℕ) Written (AreItems (below 64) (get_or sh 5 0)) (numbers (codes "outflows"))
    (flows_at (codes "outflows") (get_or sh 5 0)) (λ os z. IsFromDirects sh b f ws os z) (λ _ z. from_directs z) (λ os a. read_directs sh b f ws os a) (λ z. z.outflows)
    (flows_reads (codes "outflows") refl (get_or sh 5 0)) (λ os i. from_directs-reads sh b f ws os) (λ os z h. ap (λ (y : Written). y.outflows) h.1)

from_weights-reads : (sh : List ℕ) (b f : ℕ) → Reads Written (IsFromWeights sh b f) from_weights (read_weights sh b f)
from_weights-reads sh b f = bind_reads (List ℕ) Written (AreItems (below 32) (get_or sh 4 0)) (numbers (codes "weights")) (weights_at (get_or sh 4 0))
    (λ ws z. IsFromOutflows sh b f ws z) (λ _ z. from_outflows z) (λ ws a. read_outflows sh b f ws a) (λ z. z.weights)
    (weights_reads (get_or sh 4 0)) (λ ws i. from_outflows-reads sh b f ws) (λ ws z h. ap (λ (y : Written). y.weights) h.1.1)

from_flow_base-reads : (sh : List ℕ) (b : ℕ) → Reads Written (IsFromFlowBase sh b) from_flow_base (read_flow_base sh b)
from_flow_base-reads sh b = bind_reads ℕ Written (below 32) (number_spelling (end_of Line)) (u32_at Line)
    (λ f z. IsFromWeights sh b f z) (λ _ z. from_weights z) (λ f a. read_weights sh b f a) (λ z. z.flow_base)
    (u32_reads Line) (λ f i. from_weights-reads sh b f) (λ f z h. ap (λ (y : Written). y.flow_base) h.1.1.1)

from_base-reads : (sh : List ℕ) → Reads Written (IsPlanOf sh) from_base (read_base sh)
from_base-reads sh = bind_reads ℕ Written (below 32) (number_spelling (end_of Space)) (u32_at Space)
    (λ b z. IsFromFlowBase sh b z) (λ _ z. from_flow_base z) (λ b a. read_flow_base sh b a) (λ z. z.base)
    (u32_reads Space) (λ b i. from_flow_base-reads sh b) (λ b z h. ap (λ (y : Written). y.base) h.1.1.1.1)

-- two numbers of a line, and what stands behind it
pub two_numbers : (x y rest : List ℕ) → (x ++ 32 ∷ []) ++ ((y ++ 10 ∷ []) ++ rest) ≡ ((x ++ (32 ∷ (y ++ []))) ++ 10 ∷ []) ++ rest
two_numbers x y rest = simp (append_assoc, append-nil)

pub plan_reads : (sh : List ℕ) → Reads Written (IsPlanOf sh) plan_lines (plan_at sh)
unfolding plan_at
plan_reads sh = reworded Written (IsPlanOf sh) (IsPlanOf sh) (λ z. codes "plan " ++ from_base z) plan_lines (plan_at sh) (word_then (codes "plan ") refl (from_base-reads sh)) (λ z h. h) (λ z h. h)
    (λ z h. ap (λ (r : List ℕ). codes "plan " ++
    (number_spelling (end_of Space) z.base ++
    (number_spelling (end_of Line) z.flow_base ++ (numbers (codes "weights") z.weights ++ (numbers (codes "outflows") z.outflows ++ r))))) (append-nil (numbers (codes "direct") z.direct))
    ∙ ap (λ (r : List ℕ). codes "plan " ++ r)
    (two_numbers (decimal z.base) (decimal z.flow_base) (numbers (codes "weights") z.weights ++ (numbers (codes "outflows") z.outflows ++ numbers (codes "direct") z.direct))))

-- ---- splits

split_reads : Reads Split IsSplitInRange split_line split_line_at
unfolding split_line_at
split_reads =
    let n : (e : Ends) → ℕ → List ℕ = λ e. number_spelling (end_of e) in
    let i : ℤ → List ℕ = int_spelling (end_of Line) in
    let three : (l c : ℕ)
    → Reads Split (λ z. FitsSigned w64 z.cut × (z ≡ record { leaf = l; coord = c; cut = z.cut })) (λ z. i z.cut ++ [])
    (λ a. i64_at Line a >>= λ x. Ok (record { leaf = l; coord = c; cut = x.0 }, x.1)) =
    λ l c. bind_reads ℤ Split (FitsSigned w64) i (i64_at Line) (λ x z. z ≡ record { leaf = l; coord = c; cut = x }) (λ _ _. [])
    (λ x a. Ok (record { leaf = l; coord = c; cut = x }, a)) (λ z. z.cut) (i64_reads Line)
    (λ x j. done_reads Split (record { leaf = l; coord = c; cut = x })) (λ x z e. ap (λ (y : Split). y.cut) e) in
    let two : (l : ℕ) → Reads Split (λ z. below 32 z.coord × (FitsSigned w64 z.cut × (z ≡ record { leaf = l; coord = z.coord; cut = z.cut }))) (λ z. n Space z.coord ++ (i z.cut ++ []))
    (λ a. u32_at Space a >>= λ c. i64_at Line c.1 >>= λ x. Ok (record { leaf = l; coord = c.0; cut = x.0 }, x.1)) =
    λ l. bind_reads ℕ Split (below 32) (n Space) (u32_at Space) (λ c z. FitsSigned w64 z.cut × (z ≡ record { leaf = l; coord = c; cut = z.cut })) (λ c z. i z.cut ++ [])
    (λ c a. i64_at Line a >>= λ x. Ok (record { leaf = l; coord = c; cut = x.0 }, x.1)) (λ z. z.coord) (u32_reads Space) (λ c j. three l c) (λ c z h. ap (λ (y : Split). y.coord) h.1) in
    let one = bind_reads ℕ Split (below 32) (n Space) (u32_at Space)
    (λ l z. below 32 z.coord × (FitsSigned w64 z.cut × (z ≡ record { leaf = l; coord = z.coord; cut = z.cut }))) (λ l z. n Space z.coord ++ (i z.cut ++ []))
    (λ l a. u32_at Space a >>= λ c. i64_at Line c.1 >>= λ x. Ok (record { leaf = l; coord = c.0; cut = x.0 }, x.1)) (λ z. z.leaf) (u32_reads Space)
    (λ l j. two l) (λ l z h. ap (λ (y : Split). y.leaf) h.1.1) in
    reworded Split (λ z. below 32 z.leaf × (below 32 z.coord × (FitsSigned w64 z.cut × (z ≡ record { leaf = z.leaf; coord = z.coord; cut = z.cut })))) IsSplitInRange
    (λ z. codes "split " ++ (n Space z.leaf ++ (n Space z.coord ++ (i z.cut ++ [])))) split_line split_line_at
    (word_then (codes "split ") refl one) (λ z h. record { leaf = h.0; coord = h.1.0; cut = h.1.1.0 }) (λ z h. (h.leaf, (h.coord, (h.cut, refl)))) (λ z h. simp append_assoc)

-- ---- lists of lines

-- a list of lines of a count of 32 bits
abbrev pub AreLines : {X : Type 0} → (X → Type 0) → List X → Type 0
AreLines Is xs = below 32 (length xs) × AreItems Is (length xs) xs

-- a word and a count, and so many lines
lines_reads : (X : Type 0) (Is : X → Type 0) (text : X → List ℕ) (read : At → Result (X × At) ℕ) (word spaced : List ℕ) → Reads X Is text read → one_line spaced ≡ true → spaced ≡ word ++ 32 ∷ []
    → Reads (List X) (AreLines Is) (λ xs. line word (decimal (length xs) ∷ []) ++ flat_map text xs) (λ a. word_at spaced a >>= λ w. u32_at Line w.1 >>= λ n. each_at (λ _. read) n.0 n.1)
lines_reads X Is text read word spaced one o e =
    let s : ℕ → X → List ℕ = λ _ z. text z in
    let n : ℕ → List ℕ = number_spelling (end_of Line) in
    reworded (List X) (AreLines Is) (AreLines Is) (λ xs. spaced ++ (n (length xs) ++ each_spelling s xs)) (λ xs. line word (decimal (length xs) ∷ []) ++ flat_map text xs) _
    (word_then spaced o (bind_reads ℕ (List X) (below 32) n (u32_at Line) (AreItems Is) (λ _ xs. each_spelling s xs) (λ k a. each_at (λ _. read) k a) length (u32_reads Line)
    (λ k i. each_reads X Is s (λ _. read) (λ _. one) k) (λ k xs h. h.0)))
    (λ xs h. h) (λ xs h. h)
    (λ xs h. ap (λ (w : List ℕ). w ++ (n (length xs) ++ each_spelling s xs)) e ∙ regroup word (decimal (length xs)) (each_spelling s xs)
    ∙ ap (λ (w : List ℕ). line word (decimal (length xs) ∷ []) ++ w) (each_spelling-same text xs))
  where
    regroup : (word d rest : List ℕ) → (word ++ 32 ∷ []) ++ ((d ++ 10 ∷ []) ++ rest) ≡ (word ++ (((32 ∷ d) ++ []) ++ 10 ∷ [])) ++ rest
    regroup word d rest = simp append_assoc

pub splits_reads : Reads (List Split) (AreLines IsSplitInRange) split_lines splits_at
unfolding splits_at
splits_reads = lines_reads Split IsSplitInRange split_line split_line_at (codes "splits") (codes "splits ") split_reads refl refl

-- ---- proofs

abbrev part_spelling : ℕ → Part → List ℕ
part_spelling k p = number_spelling (end_of Space) p.row ++ int_spelling (end_of (ends_before k)) p.mult

part_reads : (k : ℕ) → Reads Part IsPartInRange (part_spelling k) (part_at k)
unfolding part_at
part_reads k =
    let i : ℤ → List ℕ = int_spelling (end_of (ends_before k)) in
    reworded Part (λ z. below 32 z.row × (FitsSigned w64 z.mult × (z ≡ record { row = z.row; mult = z.mult }))) IsPartInRange
    (λ z. number_spelling (end_of Space) z.row ++ (i z.mult ++ [])) (part_spelling k) (part_at k)
    (bind_reads ℕ Part (below 32) (number_spelling (end_of Space)) (u32_at Space) (λ r z. FitsSigned w64 z.mult × (z ≡ record { row = r; mult = z.mult })) (λ r z. i z.mult ++ [])
    (λ r a. i64_at (ends_before k) a >>= λ m. Ok (record { row = r; mult = m.0 }, m.1)) (λ z. z.row) (u32_reads Space)
    (λ r j. bind_reads ℤ Part (FitsSigned w64) i (i64_at (ends_before k)) (λ m z. z ≡ record { row = r; mult = m }) (λ _ _. [])
    (λ m a. Ok (record { row = r; mult = m }, a)) (λ z. z.mult) (i64_reads (ends_before k))
    (λ m l. done_reads Part (record { row = r; mult = m })) (λ m z e. ap (λ (y : Part). y.mult) e))
    (λ r z h. ap (λ (y : Part). y.row) h.1))
    (λ z h. record { row = h.0; mult = h.1.0 }) (λ z h. (h.row, (h.mult, refl))) (λ z h. ap (λ (w : List ℕ). number_spelling (end_of Space) z.row ++ w) (append-nil (i z.mult)))

abbrev proved : ℕ → ℕ → List Part → NodeProof
proved n s ps = record { node = n; proof = record { scale = s; parts = ps } }

abbrev P3 : ℕ → ℕ → ℕ → NodeProof → Type 0
P3 n s c z = AreItems IsPartInRange c z.proof.parts × (z ≡ proved n s z.proof.parts)

abbrev P2 : ℕ → ℕ → NodeProof → Type 0
P2 n s z = below 32 (length z.proof.parts) × P3 n s (length z.proof.parts) z

abbrev P1 : ℕ → NodeProof → Type 0
P1 n z = below 64 z.proof.scale × P2 n z.proof.scale z

abbrev P0 : NodeProof → Type 0
P0 z = below 32 z.node × P1 z.node z

abbrev p3 : NodeProof → List ℕ
p3 z = each_spelling part_spelling z.proof.parts ++ []

abbrev p2 : NodeProof → List ℕ
p2 z = number_spelling (end_of LineIfZero) (length z.proof.parts) ++ p3 z

abbrev p1 : NodeProof → List ℕ
p1 z = number_spelling (end_of Space) z.proof.scale ++ p2 z

abbrev p0 : NodeProof → List ℕ
p0 z = number_spelling (end_of Space) z.node ++ p1 z

abbrev o3 : ℕ → ℕ → ℕ → At → Result (NodeProof × At) ℕ
o3 n s c a = each_at part_at c a >>= λ ps. Ok (proved n s ps.0, ps.1)

abbrev o2 : ℕ → ℕ → At → Result (NodeProof × At) ℕ
o2 n s a = u32_at LineIfZero a >>= λ c. o3 n s c.0 c.1

abbrev o1 : ℕ → At → Result (NodeProof × At) ℕ
o1 n a = u64_at Space a >>= λ s. o2 n s.0 s.1

abbrev o0 : At → Result (NodeProof × At) ℕ
o0 a = u32_at Space a >>= λ n. o1 n.0 n.1

reads3 : (n s c : ℕ) → Reads NodeProof (P3 n s c) p3 (o3 n s c)
reads3 n s c = bind_reads (List Part) NodeProof (AreItems IsPartInRange c) (each_spelling part_spelling) (each_at part_at c)
    (λ ps z. z ≡ proved n s ps) (λ _ _. []) (λ ps a. Ok (proved n s ps, a)) (λ z. z.proof.parts)
    (each_reads Part IsPartInRange part_spelling part_at part_reads c) (λ ps i. done_reads NodeProof (proved n s ps)) (λ ps z e. ap (λ (y : NodeProof). y.proof.parts) e)

reads2 : (n s : ℕ) → Reads NodeProof (P2 n s) p2 (o2 n s)
reads2 n s = bind_reads ℕ NodeProof (below 32) (number_spelling (end_of LineIfZero)) (u32_at LineIfZero) (λ c z. P3 n s c z) (λ _ z. p3 z)
    (λ c a. o3 n s c a) (λ z. length z.proof.parts) (u32_reads LineIfZero) (λ c i. reads3 n s c) (λ c z h. h.0.0)

reads1 : (n : ℕ) → Reads NodeProof (P1 n) p1 (o1 n)
reads1 n = bind_reads ℕ NodeProof (below 64) (number_spelling (end_of Space)) (u64_at Space) (λ s z. P2 n s z) (λ _ z. p2 z) (λ s a. o2 n s a)
    (λ z. z.proof.scale) (u64_reads Space) (λ s i. reads2 n s) (λ s z h. ap (λ (y : NodeProof). y.proof.scale) h.1.1)

reads0 : Reads NodeProof P0 p0 o0
reads0 = bind_reads ℕ NodeProof (below 32) (number_spelling (end_of Space)) (u32_at Space) (λ n z. P1 n z) (λ _ z. p1 z) (λ n a. o1 n a) (λ z. z.node)
    (u32_reads Space) (λ n i. reads1 n) (λ n z h. ap (λ (y : NodeProof). y.node) h.1.1.1)

abbrev part_text : Part → List ℕ
part_text p = decimal p.row ++ (32 ∷ signed_decimal p.mult)

part_same : (k : ℕ) (p : Part) → part_spelling k p ≡ part_text p ++ stop k ∷ []
part_same k p = ap (λ (d : ℕ). (decimal p.row ++ 32 ∷ []) ++ (signed_decimal p.mult ++ d ∷ [])) (stop_is k _) ∙ regroup (decimal p.row) (signed_decimal p.mult) (stop k ∷ [])
  where
    regroup : (x y z : List ℕ) → (x ++ 32 ∷ []) ++ (y ++ z) ≡ (x ++ (32 ∷ y)) ++ z
    regroup x y z = simp append_assoc

parts_same : (ps : List Part) → flat_map field (flat_map part_fields ps) ≡ flat_map (λ p. 32 ∷ part_text p) ps
parts_same [] = refl
parts_same (p ∷ ps) = flat_map-append field (part_fields p) (flat_map part_fields ps)
    ∙ rw (parts_same ps) (ap (λ (w : List ℕ). w ++ flat_map (λ p. 32 ∷ part_text p) ps) (two (decimal p.row) (signed_decimal p.mult)))
  where
    two : (x y : List ℕ) → (32 ∷ x) ++ ((32 ∷ y) ++ []) ≡ 32 ∷ (x ++ (32 ∷ y))
    two x y = ap (λ (w : List ℕ). 32 ∷ (x ++ (32 ∷ w))) (append-nil y)

-- a proof in range, of a count of parts of 32 bits
pub record IsCounted (p : NodeProof) : Type 0 where
  pub range : IsProofInRange p
  pub count : length p.proof.parts < 2 ^ 32

proof_reads : Reads NodeProof IsCounted proof_line proof_line_at
unfolding proof_line_at
proof_reads = reworded NodeProof P0 IsCounted (λ z. codes "proof " ++ p0 z) proof_line proof_line_at (word_then (codes "proof ") refl reads0)
    (λ z h. record { range = record { node = h.0; scale = h.1.0; parts = All-from_recursion IsPartInRange z.proof.parts h.1.1.1.0.1 }; count = h.1.1.0 })
    (λ z h. (h.range.node, (h.range.scale, (h.count, ((refl, recursion_from_All IsPartInRange z.proof.parts h.range.parts), refl))))) same
  where
    regroup : (a b c rest : List ℕ) → (a ++ 32 ∷ []) ++ ((b ++ 32 ∷ []) ++ (c ++ rest)) ≡ a ++ (32 ∷ (b ++ (32 ∷ (c ++ rest))))
    regroup a b c rest = simp append_assoc

    behind : (a b c f : List ℕ) → a ++ (32 ∷ (b ++ (32 ∷ (c ++ (f ++ 10 ∷ []))))) ≡ (a ++ (32 ∷ (b ++ (32 ∷ (c ++ f))))) ++ 10 ∷ []
    behind a b c f = simp append_assoc

    same : (z : NodeProof) → IsCounted z → codes "proof " ++ p0 z ≡ proof_line z
    same z h =
        let parts = z.proof.parts in
        let scale = z.proof.scale in
        let count : number_spelling (end_of LineIfZero) (length parts) ++ (each_spelling part_spelling parts ++ []) ≡ decimal (length parts) ++ (flat_map (λ p. 32 ∷ part_text p) parts ++ 10 ∷ []) =
        ap (λ (w : List ℕ). number_spelling (end_of LineIfZero) (length parts) ++ w) (append-nil (each_spelling part_spelling parts))
        ∙ append_assoc (decimal (length parts)) (end_of LineIfZero (length parts) ∷ []) (each_spelling part_spelling parts)
        ∙ ap (λ (d : ℕ). decimal (length parts) ++ (d ∷ each_spelling part_spelling parts)) (count_is (length parts))
        ∙ ap (λ (w : List ℕ). decimal (length parts) ++ w) (list_line part_text part_spelling part_same parts) in
        ap (λ (w : List ℕ). codes "proof " ++ (number_spelling (end_of Space) z.node ++ (number_spelling (end_of Space) scale ++ w))) count
        ∙ ap (λ (w : List ℕ). codes "proof " ++ w) (regroup (decimal z.node) (decimal scale) (decimal (length parts)) (flat_map (λ p. 32 ∷ part_text p) parts ++ 10 ∷ [])
        ∙ ap (λ (w : List ℕ). decimal z.node ++ (32 ∷ (decimal scale ++ (32 ∷ (decimal (length parts) ++ (w ++ 10 ∷ [])))))) (sym (parts_same parts))
        ∙ behind (decimal z.node) (decimal scale) (decimal (length parts)) (flat_map field (flat_map part_fields parts)))

pub proofs_reads : Reads (List NodeProof) (AreLines IsCounted) proof_lines proofs_at
unfolding proofs_at
proofs_reads = lines_reads NodeProof IsCounted proof_line proof_line_at (codes "proofs") (codes "proofs ") proof_reads refl refl

-- ---- the bound

pub bound_reads : Reads ℤ (FitsSigned w128) (λ z. line (codes "bound") (signed_decimal z ∷ [])) bound_at
unfolding bound_at
bound_reads = reworded ℤ (FitsSigned w128) (FitsSigned w128) (λ z. codes "bound " ++ int_spelling (end_of Line) z) (λ z. line (codes "bound") (signed_decimal z ∷ [])) bound_at
    (word_then (codes "bound ") refl (i128_reads Line)) (λ z h. h) (λ z h. h) (λ z h. simp append_assoc)
