-- Answers are read as they are spelled.
use Rattle.std.proofs.Common.{◌≡◌, ℕ, true, List, [], ◌∷◌, ◌++◌, length, Option, Some, None, Result, Ok, refl, sym, ap, subst, ◌∙◌, append_assoc}
use Rattle.std.specs.Prelude.{ℤ, pos, FitsSigned, codes}
use Rattle.std.specs.Option.{ForSome}
use Rattle.std.specs.Int.{w64}
use Rattle.std.specs.List.{flat_map}
use Rattle.std.specs.Fmt.{decimal, signed_decimal}
use Rattle.std.proofs.lemmas.List.{append-nil}
use Rattle.std.proofs.lemmas.List.Concat.{flat_map-append}
use Rattle.std.proofs.lemmas.List.Elements.{All-from_recursion, recursion_from_All}
use Rattle.row_model.specs.Multipliers.{Part, Proof}
use Rattle.row_model.specs.Trees.{Split}
use Rattle.row_model.specs.Entries.{Entry, root_proof, split_of, improve}
use Rattle.cert_format.proofs.LineLaws.{AreLines}
use Rattle.work_units.specs.Units.{Answer}
use Rattle.cert_text.specs.declared.pieces.Ends.TheVariants.{Space, Line, LineIfZero}
use Rattle.cert_text.specs.Reading.{At, ◌>>=◌, word_at, number_spelling, int_spelling, each_at, each_spelling, end_of, ends_before, u32_at, i64_at}
use Rattle.cert_text.proofs.Laws.{Reads, bind_reads, done_reads, reworded, each_reads, AreItems}
use Rattle.cert_text.proofs.NumberLaws.{below, u32_reads, i64_reads, word_then, stop, stop_is, count_is, list_line}
use Rattle.cert_text.proofs.PieceLaws.{one_line}
use Rattle.cert_writing.specs.Cert.{IsPartInRange}
use Rattle.cert_writing.specs.Text.{field, part_fields}
use Rattle.cert_format.specs.Reading.{part_at}
use Rattle.job_texts.specs.Texts.{IsHalfProof, HasLines, IsWritten, AreWritten, half_line, entry_lines, answer_lines, answer_list, answers_text}
use Rattle.job_texts.specs.Reading.{head_spelling, head_at, rest_at, half_at, answer_at, answer_list_at, answers_at}
use Rattle.job_texts.proofs.JobLaws.{counted_reads}
use Rattle.job_texts.proofs.Heads.{IsHead, head_reads}

-- ---- parts

abbrev part_spelling : ℕ → Part → List ℕ
part_spelling k p = number_spelling (end_of Space) p.row ++ int_spelling (end_of (ends_before k)) p.mult

part_reads : (k : ℕ) → Reads Part IsPartInRange (part_spelling k) (part_at k)
unfolding part_at
part_reads k =
    let i : ℤ → List ℕ = int_spelling (end_of (ends_before k)) in
    reworded Part (λ z. below 32 z.row × (FitsSigned w64 z.mult × (z ≡ record { row = z.row; mult = z.mult }))) IsPartInRange
    (λ z. number_spelling (end_of Space) z.row ++ (i z.mult ++ [])) (part_spelling k) (part_at k)
    (bind_reads ℕ Part (below 32) (number_spelling (end_of Space)) (u32_at Space) (λ r z. FitsSigned w64 z.mult × (z ≡ record { row = r; mult = z.mult })) (λ r z. i z.mult ++ [])
    (λ r a. i64_at (ends_before k) a >>= λ m. Ok (record { row = r; mult = m.0 }, m.1)) (λ z. z.row) (u32_reads Space)
    (λ r j. bind_reads ℤ Part (FitsSigned w64) i (i64_at (ends_before k)) (λ m z. z ≡ record { row = r; mult = m }) (λ _ _. [])
    (λ m a. Ok (record { row = r; mult = m }, a)) (λ z. z.mult) (i64_reads (ends_before k))
    (λ m l. done_reads Part (record { row = r; mult = m })) (λ m z e. ap (λ (y : Part). y.mult) e))
    (λ r z h. ap (λ (y : Part). y.row) h.1))
    (λ z h. record { row = h.0; mult = h.1.0 }) (λ z h. (h.row, (h.mult, refl))) (λ z h. ap (λ (w : List ℕ). number_spelling (end_of Space) z.row ++ w) (append-nil (i z.mult)))

abbrev part_text : Part → List ℕ
part_text p = decimal p.row ++ (32 ∷ signed_decimal p.mult)

part_same : (k : ℕ) (p : Part) → part_spelling k p ≡ part_text p ++ stop k ∷ []
part_same k p = ap (λ (d : ℕ). (decimal p.row ++ 32 ∷ []) ++ (signed_decimal p.mult ++ d ∷ [])) (stop_is k _) ∙ regroup (decimal p.row) (signed_decimal p.mult) (stop k ∷ [])
  where
    regroup : (x y z : List ℕ) → (x ++ 32 ∷ []) ++ (y ++ z) ≡ (x ++ (32 ∷ y)) ++ z
    regroup x y z = simp append_assoc

parts_same : (ps : List Part) → flat_map field (flat_map part_fields ps) ≡ flat_map (λ p. 32 ∷ part_text p) ps
parts_same [] = refl
parts_same (p ∷ ps) = flat_map-append field (part_fields p) (flat_map part_fields ps)
    ∙ rw (parts_same ps) (ap (λ (w : List ℕ). w ++ flat_map (λ p. 32 ∷ part_text p) ps) (two (decimal p.row) (signed_decimal p.mult)))
  where
    two : (x y : List ℕ) → (32 ∷ x) ++ ((32 ∷ y) ++ []) ≡ 32 ∷ (x ++ (32 ∷ y))
    two x y = ap (λ (w : List ℕ). 32 ∷ (x ++ (32 ∷ w))) (append-nil y)

-- ---- the rest of a half's line

abbrev proved : ℕ → List Part → Option Proof
proved s ps = Some (record { scale = s; parts = ps })

parts_of : Option Proof → List Part
parts_of None = []
parts_of (Some p) = p.parts

abbrev IsFromParts : ℕ → ℕ → Option Proof → Type 0
IsFromParts s c z = AreItems IsPartInRange c (parts_of z) × (z ≡ proved s (parts_of z))

abbrev IsFromCount : ℕ → Option Proof → Type 0
IsFromCount s z = below 32 (length (parts_of z)) × IsFromParts s (length (parts_of z)) z

-- what follows a head
abbrev IsRest : Option ℕ → Option Proof → Type 0
IsRest None z = z ≡ None
IsRest (Some s) z = IsFromCount s z

abbrev from_parts : Option Proof → List ℕ
from_parts z = each_spelling part_spelling (parts_of z) ++ []

abbrev from_count : Option Proof → List ℕ
from_count z = number_spelling (end_of LineIfZero) (length (parts_of z)) ++ from_parts z

abbrev rest_text : Option ℕ → Option Proof → List ℕ
rest_text None z = []
rest_text (Some s) z = from_count z

scale_of : Option Proof → Option ℕ
scale_of None = None
scale_of (Some p) = Some p.scale

rest_reads : (h : Option ℕ) → Reads (Option Proof) (IsRest h) (rest_text h) (rest_at h)
unfolding rest_at parts_of
rest_reads None = done_reads (Option Proof) None
rest_reads (Some s) = bind_reads ℕ (Option Proof) (below 32) (number_spelling (end_of LineIfZero)) (u32_at LineIfZero) (λ c z. IsFromParts s c z) (λ _ z. from_parts z)
    (λ c a. each_at part_at c a >>= λ ps. Ok (proved s ps.0, ps.1)) (λ z. length (parts_of z)) (u32_reads LineIfZero)
    (λ c i. bind_reads (List Part) (Option Proof) (AreItems IsPartInRange c) (each_spelling part_spelling) (each_at part_at c)
    (λ ps z. z ≡ proved s ps) (λ _ _. []) (λ ps a. Ok (proved s ps, a)) parts_of
    (each_reads Part IsPartInRange part_spelling part_at part_reads c) (λ ps j. done_reads (Option Proof) (proved s ps)) (λ ps z e. ap parts_of e))
    (λ c z h. h.0.0)

rest_scale : (h : Option ℕ) (z : Option Proof) → IsRest h z → scale_of z ≡ h
unfolding scale_of
rest_scale None z e = ap scale_of e
rest_scale (Some s) z h = ap scale_of h.1.1

-- ---- the line of a half

half_same : (word : List ℕ) (z : Option Proof) → (word ++ 32 ∷ []) ++ (head_spelling (scale_of z) ++ rest_text (scale_of z) z) ≡ half_line word z
unfolding scale_of parts_of
half_same word None = none_line word
  where
    none_line : (word : List ℕ) → (word ++ 32 ∷ []) ++ (codes "none\n" ++ []) ≡ half_line word None
    none_line word = append_assoc word (32 ∷ []) (codes "none\n")
half_same word (Some p) =
    let parts = p.parts in
    let count : number_spelling (end_of LineIfZero) (length parts) ++ (each_spelling part_spelling parts ++ []) ≡ decimal (length parts) ++ (flat_map (λ q. 32 ∷ part_text q) parts ++ 10 ∷ []) =
    ap (λ (w : List ℕ). number_spelling (end_of LineIfZero) (length parts) ++ w) (append-nil (each_spelling part_spelling parts))
    ∙ append_assoc (decimal (length parts)) (end_of LineIfZero (length parts) ∷ []) (each_spelling part_spelling parts)
    ∙ ap (λ (d : ℕ). decimal (length parts) ++ (d ∷ each_spelling part_spelling parts)) (count_is (length parts))
    ∙ ap (λ (w : List ℕ). decimal (length parts) ++ w) (list_line part_text part_spelling part_same parts) in
    ap (λ (w : List ℕ). (word ++ 32 ∷ []) ++ ((decimal p.scale ++ 32 ∷ []) ++ w)) count
    ∙ regroup word (decimal p.scale) (decimal (length parts)) (flat_map (λ q. 32 ∷ part_text q) parts)
    ∙ ap (λ (w : List ℕ). word ++ (((32 ∷ decimal p.scale) ++ ((32 ∷ decimal (length parts)) ++ w)) ++ 10 ∷ [])) (sym (parts_same parts))
  where
    regroup : (word a b f : List ℕ) → (word ++ 32 ∷ []) ++ ((a ++ 32 ∷ []) ++ (b ++ (f ++ 10 ∷ []))) ≡ word ++ (((32 ∷ a) ++ ((32 ∷ b) ++ f)) ++ 10 ∷ [])
    regroup word a b f = simp append_assoc

pub half_reads : (word spaced : List ℕ) → one_line spaced ≡ true → spaced ≡ word ++ 32 ∷ [] → Reads (Option Proof) (λ z. ForSome z IsHalfProof) (half_line word) (half_at spaced)
unfolding half_at scale_of parts_of
half_reads word spaced o e = reworded (Option Proof) (λ z. IsHead (scale_of z) × IsRest (scale_of z) z) (λ z. ForSome z IsHalfProof) (λ z. spaced ++ (head_spelling (scale_of z) ++ rest_text (scale_of z) z)) (half_line word) (half_at spaced)
    (word_then spaced o (bind_reads (Option ℕ) (Option Proof) IsHead head_spelling head_at IsRest rest_text rest_at scale_of head_reads (λ h i. rest_reads h) rest_scale))
    to from (λ z h. ap (λ (w : List ℕ). w ++ (head_spelling (scale_of z) ++ rest_text (scale_of z) z)) e ∙ half_same word z)
  where
    to : (z : Option Proof) → IsHead (scale_of z) × IsRest (scale_of z) z → ForSome z IsHalfProof
    to None h = λ p e2. absurd cc
    to (Some q) h = λ p e2. let same : q ≡ p = cc in
        subst IsHalfProof same record { scale = h.0; few = h.1.0; parts = All-from_recursion IsPartInRange q.parts h.1.1.0.1 }

    from : (z : Option Proof) → ForSome z IsHalfProof → IsHead (scale_of z) × IsRest (scale_of z) z
    from None h = (tt, refl)
    from (Some q) h = let is = h q refl in (is.scale, (is.few, ((refl, recursion_from_All IsPartInRange q.parts is.parts), refl)))

-- ---- the lines of an answer

split_in : Entry → Split
split_in (split_of split left right) = split
split_in (root_proof proof) = record { leaf = 0; coord = 0; cut = pos 0 }
split_in (improve plan) = record { leaf = 0; coord = 0; cut = pos 0 }

left_in : Entry → Option Proof
left_in (split_of split left right) = left
left_in (root_proof proof) = None
left_in (improve plan) = None

right_in : Entry → Option Proof
right_in (split_of split left right) = right
right_in (root_proof proof) = None
right_in (improve plan) = None

abbrev made : ℕ → ℕ → ℕ → ℤ → Option Proof → Option Proof → Answer
made number leaf coord cut left right = record { number = number; entry = split_of (record { leaf = leaf; coord = coord; cut = cut }) left right }

-- what is known of the whole behind each part
abbrev IsFromRight : ℕ → ℕ → ℕ → ℤ → Option Proof → Answer → Type 0
IsFromRight k l c x lf z = ForSome (right_in z.entry) IsHalfProof × (z ≡ made k l c x lf (right_in z.entry))

abbrev IsFromLeft : ℕ → ℕ → ℕ → ℤ → Answer → Type 0
IsFromLeft k l c x z = ForSome (left_in z.entry) IsHalfProof × IsFromRight k l c x (left_in z.entry) z

abbrev IsFromCut : ℕ → ℕ → ℕ → Answer → Type 0
IsFromCut k l c z = FitsSigned w64 (split_in z.entry).cut × IsFromLeft k l c (split_in z.entry).cut z

abbrev IsFromCoord : ℕ → ℕ → Answer → Type 0
IsFromCoord k l z = below 32 (split_in z.entry).coord × IsFromCut k l (split_in z.entry).coord z

abbrev IsFromLeaf : ℕ → Answer → Type 0
IsFromLeaf k z = below 32 (split_in z.entry).leaf × IsFromCoord k (split_in z.entry).leaf z

abbrev IsFromNumber : Answer → Type 0
IsFromNumber z = below 32 z.number × IsFromLeaf z.number z

-- its text from each part on
abbrev from_right : Answer → List ℕ
from_right z = half_line (codes "right") (right_in z.entry) ++ []

abbrev from_left : Answer → List ℕ
from_left z = half_line (codes "left") (left_in z.entry) ++ from_right z

abbrev from_cut : Answer → List ℕ
from_cut z = int_spelling (end_of Line) (split_in z.entry).cut ++ from_left z

abbrev from_coord : Answer → List ℕ
from_coord z = number_spelling (end_of Space) (split_in z.entry).coord ++ from_cut z

abbrev from_leaf : Answer → List ℕ
from_leaf z = number_spelling (end_of Space) (split_in z.entry).leaf ++ from_coord z

abbrev from_number : Answer → List ℕ
from_number z = number_spelling (end_of Space) z.number ++ from_leaf z

-- how it is read from each part on
abbrev read_right : ℕ → ℕ → ℕ → ℤ → Option Proof → At → Result (Answer × At) ℕ
read_right k l c x lf a = half_at (codes "right ") a >>= λ r. Ok (made k l c x lf r.0, r.1)

abbrev read_left : ℕ → ℕ → ℕ → ℤ → At → Result (Answer × At) ℕ
read_left k l c x a = half_at (codes "left ") a >>= λ lf. read_right k l c x lf.0 lf.1

abbrev read_cut : ℕ → ℕ → ℕ → At → Result (Answer × At) ℕ
read_cut k l c a = i64_at Line a >>= λ x. read_left k l c x.0 x.1

abbrev read_coord : ℕ → ℕ → At → Result (Answer × At) ℕ
read_coord k l a = u32_at Space a >>= λ c. read_cut k l c.0 c.1

abbrev read_leaf : ℕ → At → Result (Answer × At) ℕ
read_leaf k a = u32_at Space a >>= λ l. read_coord k l.0 l.1

abbrev read_number : At → Result (Answer × At) ℕ
read_number a = u32_at Space a >>= λ k. read_leaf k.0 k.1

from_right-reads : (k l c : ℕ) (x : ℤ) (lf : Option Proof) → Reads Answer (IsFromRight k l c x lf) from_right (read_right k l c x lf)
unfolding right_in
from_right-reads k l c x lf = bind_reads (Option Proof) Answer (λ z. ForSome z IsHalfProof) (half_line (codes "right")) (half_at (codes "right ")) (λ r z. z ≡ made k l c x lf r) (λ _ _. [])
    (λ r a. Ok (made k l c x lf r, a)) (λ z. right_in z.entry) (half_reads (codes "right") (codes "right ") refl refl)
    (λ r i. done_reads Answer (made k l c x lf r)) (λ r z e. ap (λ (y : Answer). right_in y.entry) e)

from_left-reads : (k l c : ℕ) (x : ℤ) → Reads Answer (IsFromLeft k l c x) from_left (read_left k l c x)
unfolding left_in
from_left-reads k l c x = bind_reads (Option Proof) Answer (λ z. ForSome z IsHalfProof) (half_line (codes "left")) (half_at (codes "left ")) (λ lf z. IsFromRight k l c x lf z) (λ _ z. from_right z)
    (λ lf a. read_right k l c x lf a) (λ z. left_in z.entry) (half_reads (codes "left") (codes "left ") refl refl)
    (λ lf i. from_right-reads k l c x lf) (λ lf z h. ap (λ (y : Answer). left_in y.entry) h.1)

from_cut-reads : (k l c : ℕ) → Reads Answer (IsFromCut k l c) from_cut (read_cut k l c)
unfolding split_in
from_cut-reads k l c = bind_reads ℤ Answer (FitsSigned w64) (int_spelling (end_of Line)) (i64_at Line) (λ x z. IsFromLeft k l c x z) (λ _ z. from_left z)
    (λ x a. read_left k l c x a) (λ z. (split_in z.entry).cut) (i64_reads Line) (λ x i. from_left-reads k l c x) (λ x z h. ap (λ (y : Answer). (split_in y.entry).cut) h.1.1)

from_coord-reads : (k l : ℕ) → Reads Answer (IsFromCoord k l) from_coord (read_coord k l)
unfolding split_in
from_coord-reads k l = bind_reads ℕ Answer (below 32) (number_spelling (end_of Space)) (u32_at Space) (λ c z. IsFromCut k l c z) (λ _ z. from_cut z)
    (λ c a. read_cut k l c a) (λ z. (split_in z.entry).coord) (u32_reads Space) (λ c i. from_cut-reads k l c) (λ c z h. ap (λ (y : Answer). (split_in y.entry).coord) h.1.1.1)

from_leaf-reads : (k : ℕ) → Reads Answer (IsFromLeaf k) from_leaf (read_leaf k)
unfolding split_in
from_leaf-reads k = bind_reads ℕ Answer (below 32) (number_spelling (end_of Space)) (u32_at Space) (λ l z. IsFromCoord k l z) (λ _ z. from_coord z)
    (λ l a. read_coord k l a) (λ z. (split_in z.entry).leaf) (u32_reads Space) (λ l i. from_coord-reads k l) (λ l z h. ap (λ (y : Answer). (split_in y.entry).leaf) h.1.1.1.1)

from_number-reads : Reads Answer IsFromNumber from_number read_number
from_number-reads = bind_reads ℕ Answer (below 32) (number_spelling (end_of Space)) (u32_at Space) (λ k z. IsFromLeaf k z) (λ _ z. from_leaf z)
    (λ k a. read_leaf k a) (λ z. z.number) (u32_reads Space) (λ k i. from_leaf-reads k) (λ k z h. ap (λ (y : Answer). y.number) h.1.1.1.1.1)

answer_reads : Reads Answer IsWritten answer_lines answer_at
unfolding answer_at split_in left_in right_in
answer_reads = reworded Answer IsFromNumber IsWritten (λ z. codes "answer " ++ from_number z) answer_lines answer_at (word_then (codes "answer ") refl from_number-reads)
    (λ z h. record { number = h.0; entry = lines_to z.number z.entry h.1 })
    (λ z h. (h.number, lines_from z.number z.entry h.entry))
    (λ z h. same z.number z.entry h.entry)
  where
    lines_to : (k : ℕ) (e : Entry) → IsFromLeaf k (record { number = k; entry = e }) → HasLines e
    lines_to k (split_of split left right) h = (record { leaf = h.0; coord = h.1.0; cut = h.1.1.0 }, h.1.1.1.0, h.1.1.1.1.0)
    lines_to k (root_proof proof) h = absurd (let q = ap (λ (y : Answer). y.entry) h.1.1.1.1.1 in cc)
    lines_to k (improve plan) h = absurd (let q = ap (λ (y : Answer). y.entry) h.1.1.1.1.1 in cc)

    lines_from : (k : ℕ) (e : Entry) → HasLines e → IsFromLeaf k (record { number = k; entry = e })
    lines_from k (split_of split left right) h = (h.0.leaf, (h.0.coord, (h.0.cut, (h.1, (h.2, refl)))))
    lines_from k (root_proof proof) h = absurd h
    lines_from k (improve plan) h = absurd h

    regroup : (a b c d rest : List ℕ) → codes "answer " ++ ((a ++ 32 ∷ []) ++ ((b ++ 32 ∷ []) ++ ((c ++ 32 ∷ []) ++ ((d ++ 10 ∷ []) ++ rest))))
        ≡ (codes "answer" ++ (((32 ∷ a) ++ ((32 ∷ b) ++ ((32 ∷ c) ++ ((32 ∷ d) ++ [])))) ++ 10 ∷ [])) ++ rest
    regroup a b c d rest = simp append_assoc

    same : (k : ℕ) (e : Entry) → HasLines e → codes "answer " ++ from_number (record { number = k; entry = e }) ≡ entry_lines k e
    same k (split_of split left right) h =
        ap (λ (w : List ℕ). codes "answer " ++ (number_spelling (end_of Space) k ++ (number_spelling (end_of Space) split.leaf ++
        (number_spelling (end_of Space) split.coord ++ (int_spelling (end_of Line) split.cut ++ (half_line (codes "left") left ++ w)))))) (append-nil (half_line (codes "right") right))
        ∙ regroup (decimal k) (decimal split.leaf) (decimal split.coord) (signed_decimal split.cut) (half_line (codes "left") left ++ half_line (codes "right") right)
    same k (root_proof proof) h = absurd h
    same k (improve plan) h = absurd h

-- ---- the whole

answer_list_reads : Reads (List Answer) (AreLines IsWritten) answer_list answer_list_at
unfolding answer_list_at
answer_list_reads = counted_reads Answer IsWritten answer_lines answer_at (codes "answers") (codes "answers ") answer_reads refl refl

pub answers_reads : Reads (List Answer) AreWritten answers_text answers_at
unfolding answers_at
answers_reads = reworded (List Answer) (λ z. AreLines IsWritten z × (z ≡ z)) AreWritten (λ z. codes "poolwork 1\n" ++ (answer_list z ++ (codes "end\n" ++ []))) answers_text answers_at
    (word_then (codes "poolwork 1\n") refl (bind_reads (List Answer) (List Answer) (AreLines IsWritten) answer_list answer_list_at (λ x z. z ≡ x) (λ _ _. codes "end\n" ++ [])
    (λ x a. word_at (codes "end\n") a >>= λ e. Ok (x, e.1)) (λ z. z) answer_list_reads (λ x i. word_then (codes "end\n") refl (done_reads (List Answer) x)) (λ x z e. e)))
    (λ z h. record { few = h.0.0; each = All-from_recursion IsWritten z h.0.1.1 })
    (λ z h. ((h.few, (refl, recursion_from_All IsWritten z h.each)), refl))
    (λ z h. refl)
