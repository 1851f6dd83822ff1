-- Marks are read as they are spelled.
use Rattle.std.proofs.Common.{◌≡◌, ℕ, zero, suc, ◌+◌, true, false, eqb, List, [], ◌∷◌, ◌++◌, length, Option, Result, Ok, refl, sym, ap, ◌∙◌, append_assoc, zero-add, add-zero, arith}
use Rattle.std.specs.Prelude.{ℤ, pos, FitsSigned, codes}
use Rattle.std.specs.Option.{ForSome}
use Rattle.std.specs.Int.{w64, w128}
use Rattle.std.specs.List.{flat_map}
use Rattle.std.specs.Fmt.{decimal, signed_decimal}
use Rattle.std.proofs.lemmas.Bool.{ne_eqb}
use Rattle.std.proofs.lemmas.List.{append-nil}
use Rattle.std.proofs.lemmas.List.Concat.{flat_map-append}
use Rattle.std.proofs.lemmas.List.Elements.{All-from_recursion, recursion_from_All}
use Rattle.std.proofs.lemmas.List.Folds.{flat_map-map}
use Rattle.exact_num.specs.Fraction.{Fraction}
use Rattle.exact_run.specs.declared.operations.Operation.{Operation}
use Rattle.exact_run.specs.declared.operations.Operation.TheVariants as operations
use Rattle.row_model.specs.Multipliers.{Part, Proof}
use Rattle.box_space.specs.declared.coordinates.Form.{Form}
use Rattle.box_space.specs.declared.coordinates.Form.TheVariants as forms
use Rattle.cert_text.specs.declared.pieces.Ends.TheVariants.{Space, Line, LineIfZero}
use Rattle.cert_text.specs.Reading.{At, ◌>>=◌, word_at, number_spelling, int_spelling, each_at, each_spelling, end_of, ends_before, u32_at, u64_at, i64_at, i128_at}
use Rattle.cert_text.proofs.Laws.{Reads, bind_reads, done_reads, reworded, each_reads, AreItems}
use Rattle.cert_text.proofs.PieceLaws.{one_line}
use Rattle.cert_text.proofs.NumberLaws.{below, u32_reads, u64_reads, i64_reads, i128_reads, word_then, stop, stop_is, count_is, list_line, each_spelling-same}
use Rattle.cert_writing.specs.Cert.{IsPartInRange}
use Rattle.cert_writing.specs.Text.{field, line, part_fields}
use Rattle.cert_format.specs.Reading.{part_at}
use Rattle.cert_format.proofs.LineLaws.{AreLines}
use Rattle.tight_texts.specs.declared.kinds.MarkKind.{MarkKind}
use Rattle.tight_texts.specs.declared.kinds.MarkKind.TheVariants as kinds
use Rattle.tight_texts.specs.declared.kinds.ReasonKind.{ReasonKind}
use Rattle.tight_texts.specs.declared.kinds.ReasonKind.TheVariants as causes
use Rattle.tight_texts.specs.Texts.{Values, Operated, Reason, unended, wide, coarse, heavy_proof, heavy_point, Mark, tight, raised, empty, loose, LeafMark, Marks}
use Rattle.tight_texts.specs.Texts.{AreValues, IsProof, IsFraction, IsReason, IsMark, IsLeafMark, AreMarks, point_fields, proof_fields, operation_word, wide_fields, reason_fields}
use Rattle.tight_texts.specs.Texts.{mark_word, mark_fields, mark_line, mark_lines, form_word, form_line, bound_line, marks_text}
use Rattle.tight_texts.specs.Reading.{form_spelling, form_at, kind_spelling, kind_at, cause_spelling, cause_at, operation_spelling, operation_at, fraction_at, point_at, count_ends, proof_at}
use Rattle.tight_texts.specs.Reading.{wide_at, told_at, reason_at, carried_at, leaf_at, leaves_at, bound_at, pivots_at, marks_at}
use Rattle.tight_texts.proofs.Choices.{Any, IsFound, choice_reads}
use Rattle.tight_texts.proofs.Fractions.{line_end, space_end, fraction_spelling, fraction_reads, bound_reads}

-- ---- items side by side, which so many fields follow in their line

stop_suc : (k : ℕ) → stop (suc k) ≡ 32
stop_suc k = let e : eqb (suc k) 0 ≡ false = ne_eqb (suc k) 0 (λ h. omega arith) in rw e refl

-- how a count ends
count_more : (more n : ℕ) → end_of (count_ends more) n ≡ stop (n + more)
count_more zero n = count_is n ∙ ap stop (sym (add-zero n))
count_more (suc m) n =
    let e : eqb (suc m) 0 ≡ false = ne_eqb (suc m) 0 (λ h. omega arith) in
    let s : n + suc m ≡ suc (n + m) = omega arith in
    rw (e, s) (sym (stop_suc (n + m)))

-- each item behind a space, and the byte behind the last
list_more : {X : Type 0} (f : X → List ℕ) (s : ℕ → X → List ℕ) → ((k : ℕ) (x : X) → s k x ≡ f x ++ stop k ∷ []) → (more : ℕ) (xs : List X)
    → stop (length xs + more) ∷ each_spelling (λ k. s (k + more)) xs ≡ flat_map (λ x. 32 ∷ f x) xs ++ stop more ∷ []
list_more f s same more [] = ap (λ (n : ℕ). stop n ∷ []) (zero-add more)
list_more f s same more (x ∷ xs) =
    let n = length xs in
    let es = each_spelling (λ k. s (k + more)) xs in
    let over : stop (suc n + more) ≡ 32 = ap stop (omega arith) ∙ stop_suc (n + more) in
    let e : s (n + more) x ++ es ≡ f x ++ (stop (n + more) ∷ es) = ap (λ (w : List ℕ). w ++ es) (same (n + more) x) ∙ append_assoc (f x) (stop (n + more) ∷ []) es in
    let g : f x ++ (stop (n + more) ∷ es) ≡ f x ++ (flat_map (λ y. 32 ∷ f y) xs ++ stop more ∷ []) = ap (λ (w : List ℕ). f x ++ w) (list_more f s same more xs) in
    ap (λ (d : ℕ). d ∷ (s (n + more) x ++ es)) over ∙ ap (λ (w : List ℕ). 32 ∷ w) (e ∙ g ∙ sym (append_assoc (f x) (flat_map (λ y. 32 ∷ f y) xs) (stop more ∷ [])))

-- ---- proofs

abbrev part_spelling : ℕ → Part → List ℕ
part_spelling k p = number_spelling (end_of Space) p.row ++ int_spelling (end_of (ends_before k)) p.mult

part_reads : (k : ℕ) → Reads Part IsPartInRange (part_spelling k) (part_at k)
unfolding part_at
part_reads k =
    let i : ℤ → List ℕ = int_spelling (end_of (ends_before k)) in
    reworded Part (λ z. below 32 z.row × (FitsSigned w64 z.mult × (z ≡ record { row = z.row; mult = z.mult }))) IsPartInRange
    (λ z. number_spelling (end_of Space) z.row ++ (i z.mult ++ [])) (part_spelling k) (part_at k)
    (bind_reads ℕ Part (below 32) (number_spelling (end_of Space)) (u32_at Space) (λ r z. FitsSigned w64 z.mult × (z ≡ record { row = r; mult = z.mult })) (λ r z. i z.mult ++ [])
    (λ r a. i64_at (ends_before k) a >>= λ m. Ok (record { row = r; mult = m.0 }, m.1)) (λ z. z.row) (u32_reads Space)
    (λ r j. bind_reads ℤ Part (FitsSigned w64) i (i64_at (ends_before k)) (λ m z. z ≡ record { row = r; mult = m }) (λ _ _. [])
    (λ m a. Ok (record { row = r; mult = m }, a)) (λ z. z.mult) (i64_reads (ends_before k))
    (λ m l. done_reads Part (record { row = r; mult = m })) (λ m z e. ap (λ (y : Part). y.mult) e))
    (λ r z h. ap (λ (y : Part). y.row) h.1))
    (λ z h. record { row = h.0; mult = h.1.0 }) (λ z h. (h.row, (h.mult, refl))) (λ z h. ap (λ (w : List ℕ). number_spelling (end_of Space) z.row ++ w) (append-nil (i z.mult)))

abbrev part_text : Part → List ℕ
part_text p = decimal p.row ++ (32 ∷ signed_decimal p.mult)

part_same : (k : ℕ) (p : Part) → part_spelling k p ≡ part_text p ++ stop k ∷ []
part_same k p = ap (λ (d : ℕ). (decimal p.row ++ 32 ∷ []) ++ (signed_decimal p.mult ++ d ∷ [])) (stop_is k _) ∙ regroup (decimal p.row) (signed_decimal p.mult) (stop k ∷ [])
  where
    regroup : (x y z : List ℕ) → (x ++ 32 ∷ []) ++ (y ++ z) ≡ (x ++ (32 ∷ y)) ++ z
    regroup x y z = simp append_assoc

parts_same : (ps : List Part) → flat_map field (flat_map part_fields ps) ≡ flat_map (λ p. 32 ∷ part_text p) ps
parts_same [] = refl
parts_same (p ∷ ps) = flat_map-append field (part_fields p) (flat_map part_fields ps)
    ∙ rw (parts_same ps) (ap (λ (w : List ℕ). w ++ flat_map (λ p. 32 ∷ part_text p) ps) (two (decimal p.row) (signed_decimal p.mult)))
  where
    two : (x y : List ℕ) → (32 ∷ x) ++ ((32 ∷ y) ++ []) ≡ 32 ∷ (x ++ (32 ∷ y))
    two x y = ap (λ (w : List ℕ). 32 ∷ (x ++ (32 ∷ w))) (append-nil y)

abbrev proof_spelling : ℕ → Proof → List ℕ
proof_spelling more p = number_spelling (end_of Space) p.scale ++ (number_spelling (end_of (count_ends more)) (length p.parts) ++ (each_spelling (λ k. part_spelling (k + more)) p.parts ++ []))

proof_reads : (more : ℕ) → Reads Proof IsProof (proof_spelling more) (proof_at more)
unfolding proof_at
proof_reads more =
    let sp : ℕ → Part → List ℕ = λ k. part_spelling (k + more) in
    let rd : ℕ → At → Result (Part × At) ℕ = λ k. part_at (k + more) in
    let c : ℕ → List ℕ = number_spelling (end_of (count_ends more)) in
    reworded Proof (λ z. below 64 z.scale × (below 32 (length z.parts) × (AreItems IsPartInRange (length z.parts) z.parts × (z ≡ record { scale = z.scale; parts = z.parts })))) IsProof
    (proof_spelling more) (proof_spelling more) (proof_at more)
    (bind_reads ℕ Proof (below 64) (number_spelling (end_of Space)) (u64_at Space)
    (λ s z. below 32 (length z.parts) × (AreItems IsPartInRange (length z.parts) z.parts × (z ≡ record { scale = s; parts = z.parts }))) (λ s z. c (length z.parts) ++ (each_spelling sp z.parts ++ []))
    (λ s a. u32_at (count_ends more) a >>= λ n. each_at rd n.0 n.1 >>= λ ps. Ok (record { scale = s; parts = ps.0 }, ps.1)) (λ z. z.scale) (u64_reads Space)
    (λ s h. bind_reads ℕ Proof (below 32) c (u32_at (count_ends more)) (λ n z. AreItems IsPartInRange n z.parts × (z ≡ record { scale = s; parts = z.parts })) (λ n z. each_spelling sp z.parts ++ [])
    (λ n a. each_at rd n a >>= λ ps. Ok (record { scale = s; parts = ps.0 }, ps.1)) (λ z. length z.parts) (u32_reads (count_ends more))
    (λ n i. bind_reads (List Part) Proof (AreItems IsPartInRange n) (each_spelling sp) (each_at rd n) (λ ps z. z ≡ record { scale = s; parts = ps }) (λ _ _. [])
    (λ ps a. Ok (record { scale = s; parts = ps }, a)) (λ z. z.parts) (each_reads Part IsPartInRange sp rd (λ k. part_reads (k + more)) n)
    (λ ps j. done_reads Proof (record { scale = s; parts = ps })) (λ ps z e. ap (λ (y : Proof). y.parts) e))
    (λ n z h. h.0.0))
    (λ s z h. ap (λ (y : Proof). y.scale) h.1.1))
    (λ z h. record { scale = h.0; few = h.1.0; parts = All-from_recursion IsPartInRange z.parts h.1.1.0.1 })
    (λ z h. (h.scale, (h.few, ((refl, recursion_from_All IsPartInRange z.parts h.parts), refl))))
    (λ z h. refl)

proof_same : (more : ℕ) (p : Proof) → 32 ∷ proof_spelling more p ≡ flat_map field (proof_fields p) ++ stop more ∷ []
proof_same more p =
    let ps = p.parts in
    let n = length ps in
    let sp : ℕ → Part → List ℕ = λ k. part_spelling (k + more) in
    let count : number_spelling (end_of (count_ends more)) n ++ (each_spelling sp ps ++ []) ≡ decimal n ++ (flat_map (λ q. 32 ∷ part_text q) ps ++ stop more ∷ []) =
    ap (λ (w : List ℕ). number_spelling (end_of (count_ends more)) n ++ w) (append-nil (each_spelling sp ps))
    ∙ append_assoc (decimal n) (end_of (count_ends more) n ∷ []) (each_spelling sp ps)
    ∙ ap (λ (d : ℕ). decimal n ++ (d ∷ each_spelling sp ps)) (count_more more n)
    ∙ ap (λ (w : List ℕ). decimal n ++ w) (list_more part_text part_spelling part_same more ps) in
    ap (λ (w : List ℕ). 32 ∷ ((decimal p.scale ++ 32 ∷ []) ++ w)) count
    ∙ regroup (decimal p.scale) (decimal n) (flat_map (λ q. 32 ∷ part_text q) ps) (stop more ∷ [])
    ∙ ap (λ (w : List ℕ). ((32 ∷ decimal p.scale) ++ ((32 ∷ decimal n) ++ w)) ++ stop more ∷ []) (sym (parts_same ps))
  where
    regroup : (a b f e : List ℕ) → 32 ∷ ((a ++ 32 ∷ []) ++ (b ++ (f ++ e))) ≡ ((32 ∷ a) ++ ((32 ∷ b) ++ f)) ++ e
    regroup a b f e = simp append_assoc

-- ---- points

abbrev value_spelling : ℕ → ℤ → List ℕ
value_spelling k = int_spelling (end_of (ends_before k))

abbrev point_spelling : Values → List ℕ
point_spelling q = number_spelling (end_of Space) q.base ++ (number_spelling (end_of LineIfZero) (length q.values) ++ (each_spelling value_spelling q.values ++ []))

point_reads : Reads Values AreValues point_spelling point_at
unfolding point_at
point_reads =
    let rd : ℕ → At → Result (ℤ × At) ℕ = λ k. i128_at (ends_before k) in
    let c : ℕ → List ℕ = number_spelling (end_of LineIfZero) in
    reworded Values (λ z. below 64 z.base × (below 32 (length z.values) × (AreItems (FitsSigned w128) (length z.values) z.values × (z ≡ record { base = z.base; values = z.values })))) AreValues
    point_spelling point_spelling point_at
    (bind_reads ℕ Values (below 64) (number_spelling (end_of Space)) (u64_at Space)
    (λ s z. below 32 (length z.values) × (AreItems (FitsSigned w128) (length z.values) z.values × (z ≡ record { base = s; values = z.values }))) (λ s z. c (length z.values) ++ (each_spelling value_spelling z.values ++ []))
    (λ s a. u32_at LineIfZero a >>= λ n. each_at rd n.0 n.1 >>= λ ps. Ok (record { base = s; values = ps.0 }, ps.1)) (λ z. z.base) (u64_reads Space)
    (λ s h. bind_reads ℕ Values (below 32) c (u32_at LineIfZero) (λ n z. AreItems (FitsSigned w128) n z.values × (z ≡ record { base = s; values = z.values })) (λ n z. each_spelling value_spelling z.values ++ [])
    (λ n a. each_at rd n a >>= λ ps. Ok (record { base = s; values = ps.0 }, ps.1)) (λ z. length z.values) (u32_reads LineIfZero)
    (λ n i. bind_reads (List ℤ) Values (AreItems (FitsSigned w128) n) (each_spelling value_spelling) (each_at rd n) (λ ps z. z ≡ record { base = s; values = ps }) (λ _ _. [])
    (λ ps a. Ok (record { base = s; values = ps }, a)) (λ z. z.values) (each_reads ℤ (FitsSigned w128) value_spelling rd (λ k. i128_reads (ends_before k)) n)
    (λ ps j. done_reads Values (record { base = s; values = ps })) (λ ps z e. ap (λ (y : Values). y.values) e))
    (λ n z h. h.0.0))
    (λ s z h. ap (λ (y : Values). y.base) h.1.1))
    (λ z h. record { base = h.0; few = h.1.0; values = All-from_recursion (FitsSigned w128) z.values h.1.1.0.1 })
    (λ z h. (h.base, (h.few, ((refl, recursion_from_All (FitsSigned w128) z.values h.values), refl))))
    (λ z h. refl)

point_same : (q : Values) → 32 ∷ point_spelling q ≡ flat_map field (point_fields q) ++ 10 ∷ []
point_same q =
    let vs = q.values in
    let n = length vs in
    let count : number_spelling (end_of LineIfZero) n ++ (each_spelling value_spelling vs ++ []) ≡ decimal n ++ (flat_map (λ v. 32 ∷ signed_decimal v) vs ++ 10 ∷ []) =
    ap (λ (w : List ℕ). number_spelling (end_of LineIfZero) n ++ w) (append-nil (each_spelling value_spelling vs))
    ∙ append_assoc (decimal n) (end_of LineIfZero n ∷ []) (each_spelling value_spelling vs)
    ∙ ap (λ (d : ℕ). decimal n ++ (d ∷ each_spelling value_spelling vs)) (count_is n)
    ∙ ap (λ (w : List ℕ). decimal n ++ w) (list_line signed_decimal value_spelling (λ k x. ap (λ (d : ℕ). signed_decimal x ++ d ∷ []) (stop_is k _)) vs) in
    ap (λ (w : List ℕ). 32 ∷ ((decimal q.base ++ 32 ∷ []) ++ w)) count
    ∙ regroup (decimal q.base) (decimal n) (flat_map (λ v. 32 ∷ signed_decimal v) vs)
    ∙ ap (λ (w : List ℕ). ((32 ∷ decimal q.base) ++ ((32 ∷ decimal n) ++ w)) ++ 10 ∷ []) (sym (flat_map-map field signed_decimal vs))
  where
    regroup : (a b f : List ℕ) → 32 ∷ ((a ++ 32 ∷ []) ++ (b ++ (f ++ 10 ∷ []))) ≡ ((32 ∷ a) ++ ((32 ∷ b) ++ f)) ++ 10 ∷ []
    regroup a b f = simp append_assoc

-- ---- operations and fractions

operation_reads : Reads Operation Any operation_spelling operation_at
operation_reads = choice_reads Operation operation_spelling (operations.Add ∷ operations.Sub ∷ operations.Mul ∷ operations.Div ∷ []) one again operations.Add
  where
    one : (op : Operation) → one_line (operation_spelling op) ≡ true
    one operations.Add = refl
    one operations.Sub = refl
    one operations.Mul = refl
    one operations.Div = refl

    again : (op : Operation) (r : List ℕ) → IsFound operation_spelling (operations.Add ∷ operations.Sub ∷ operations.Mul ∷ operations.Div ∷ []) op r
    again operations.Add r = refl
    again operations.Sub r = refl
    again operations.Mul r = refl
    again operations.Div r = refl

abbrev wide_spelling : Operated → List ℕ
wide_spelling w = operation_spelling w.operation ++ (fraction_spelling Space w.left ++ (fraction_spelling Line w.right ++ []))

abbrev IsWide : Operated → Type 0
IsWide w = IsFraction w.left × IsFraction w.right

wide_reads : Reads Operated IsWide wide_spelling wide_at
unfolding wide_at
wide_reads =
    reworded Operated (λ z. Any z.operation × (IsFraction z.left × (IsFraction z.right × (z ≡ record { operation = z.operation; left = z.left; right = z.right })))) IsWide wide_spelling wide_spelling wide_at
    (bind_reads Operation Operated Any operation_spelling operation_at (λ o z. IsFraction z.left × (IsFraction z.right × (z ≡ record { operation = o; left = z.left; right = z.right })))
    (λ o z. fraction_spelling Space z.left ++ (fraction_spelling Line z.right ++ []))
    (λ o a. fraction_at Space a >>= λ x. fraction_at Line x.1 >>= λ y. Ok (record { operation = o; left = x.0; right = y.0 }, y.1)) (λ z. z.operation) operation_reads
    (λ o h. bind_reads Fraction Operated IsFraction (fraction_spelling Space) (fraction_at Space) (λ x z. IsFraction z.right × (z ≡ record { operation = o; left = x; right = z.right })) (λ x z. fraction_spelling Line z.right ++ [])
    (λ x a. fraction_at Line a >>= λ y. Ok (record { operation = o; left = x; right = y.0 }, y.1)) (λ z. z.left) (fraction_reads Space space_end)
    (λ x i. bind_reads Fraction Operated IsFraction (fraction_spelling Line) (fraction_at Line) (λ y z. z ≡ record { operation = o; left = x; right = y }) (λ _ _. [])
    (λ y a. Ok (record { operation = o; left = x; right = y }, a)) (λ z. z.right) (fraction_reads Line line_end)
    (λ y j. done_reads Operated (record { operation = o; left = x; right = y })) (λ y z e. ap (λ (v : Operated). v.right) e))
    (λ x z h. ap (λ (v : Operated). v.left) h.1))
    (λ o z h. ap (λ (v : Operated). v.operation) h.1.1))
    (λ z h. (h.1.0, h.1.1.0)) (λ z h. (tt, (h.0, (h.1, refl)))) (λ z h. refl)

wide_same : (w : Operated) → 32 ∷ wide_spelling w ≡ flat_map field (wide_fields w) ++ 10 ∷ []
wide_same w = regroup (operation_word w.operation) (signed_decimal w.left.num) (decimal w.left.den) (signed_decimal w.right.num) (decimal w.right.den)
  where
    regroup : (o a b c d : List ℕ) → 32 ∷ ((o ++ 32 ∷ []) ++ (((a ++ 32 ∷ []) ++ ((b ++ 32 ∷ []) ++ [])) ++ (((c ++ 32 ∷ []) ++ ((d ++ 10 ∷ []) ++ [])) ++ [])))
        ≡ ((32 ∷ o) ++ ((32 ∷ a) ++ ((32 ∷ b) ++ ((32 ∷ c) ++ ((32 ∷ d) ++ []))))) ++ 10 ∷ []
    regroup o a b c d = simp append_assoc

-- ---- reasons

-- a value of one kind, made of what was read
made_reads : (X Z : Type 0) (I : X → Type 0) (s : X → List ℕ) (r : At → Result (X × At) ℕ) (make : X → Z) (front : Z → X) → ((x : X) → front (make x) ≡ x) → Reads X I s r
    → Reads Z (λ z. I (front z) × (z ≡ make (front z))) (λ z. s (front z) ++ []) (λ a. r a >>= λ p. Ok (make p.0, p.1))
made_reads X Z I s r make front same reads =
    bind_reads X Z I s r (λ x z. z ≡ make x) (λ _ _. []) (λ x a. Ok (make x, a)) front reads (λ x i. done_reads Z (make x)) (λ x z e. ap front e ∙ same x)

cause_of : Reason → ReasonKind
cause_of (unended n) = causes.Pivots
cause_of (wide w) = causes.Wide
cause_of (coarse n x) = causes.Coarse
cause_of (heavy_proof p) = causes.HeavyProof
cause_of (heavy_point q) = causes.HeavyPoint

no_fraction : Fraction
no_fraction = record { num = pos 0; den = 1 }

no_proof : Proof
no_proof = record { scale = 0; parts = [] }

no_values : Values
no_values = record { base = 0; values = [] }

count_in : Reason → ℕ
count_in (unended n) = n
count_in (wide w) = 0
count_in (coarse n x) = n
count_in (heavy_proof p) = 0
count_in (heavy_point q) = 0

wide_in : Reason → Operated
wide_in (unended n) = record { operation = operations.Add; left = no_fraction; right = no_fraction }
wide_in (wide w) = w
wide_in (coarse n x) = record { operation = operations.Add; left = no_fraction; right = no_fraction }
wide_in (heavy_proof p) = record { operation = operations.Add; left = no_fraction; right = no_fraction }
wide_in (heavy_point q) = record { operation = operations.Add; left = no_fraction; right = no_fraction }

fraction_in : Reason → Fraction
fraction_in (unended n) = no_fraction
fraction_in (wide w) = no_fraction
fraction_in (coarse n x) = x
fraction_in (heavy_proof p) = no_fraction
fraction_in (heavy_point q) = no_fraction

proof_in : Reason → Proof
proof_in (unended n) = no_proof
proof_in (wide w) = no_proof
proof_in (coarse n x) = no_proof
proof_in (heavy_proof p) = p
proof_in (heavy_point q) = no_proof

point_in : Reason → Values
point_in (unended n) = no_values
point_in (wide w) = no_values
point_in (coarse n x) = no_values
point_in (heavy_proof p) = no_values
point_in (heavy_point q) = q

-- what a reason of a kind tells
abbrev IsTold : ReasonKind → Reason → Type 0
IsTold causes.Pivots z = below 32 (count_in z) × (z ≡ unended (count_in z))
IsTold causes.Wide z = IsWide (wide_in z) × (z ≡ wide (wide_in z))
IsTold causes.Coarse z = below 64 (count_in z) × (IsFraction (fraction_in z) × (z ≡ coarse (count_in z) (fraction_in z)))
IsTold causes.HeavyProof z = IsProof (proof_in z) × (z ≡ heavy_proof (proof_in z))
IsTold causes.HeavyPoint z = AreValues (point_in z) × (z ≡ heavy_point (point_in z))

abbrev told_text : ReasonKind → Reason → List ℕ
told_text causes.Pivots z = number_spelling (end_of Line) (count_in z) ++ []
told_text causes.Wide z = wide_spelling (wide_in z) ++ []
told_text causes.Coarse z = number_spelling (end_of Space) (count_in z) ++ (fraction_spelling Line (fraction_in z) ++ [])
told_text causes.HeavyProof z = proof_spelling 0 (proof_in z) ++ []
told_text causes.HeavyPoint z = point_spelling (point_in z) ++ []

told_reads : (k : ReasonKind) → Reads Reason (IsTold k) (told_text k) (told_at k)
unfolding told_at count_in wide_in fraction_in proof_in point_in
told_reads causes.Pivots = made_reads ℕ Reason (below 32) (number_spelling (end_of Line)) (u32_at Line) (λ n. unended n) count_in (λ n. refl) (u32_reads Line)
told_reads causes.Wide = made_reads Operated Reason IsWide wide_spelling wide_at (λ w. wide w) wide_in (λ w. refl) wide_reads
told_reads causes.Coarse = bind_reads ℕ Reason (below 64) (number_spelling (end_of Space)) (u64_at Space) (λ n z. IsFraction (fraction_in z) × (z ≡ coarse n (fraction_in z))) (λ n z. fraction_spelling Line (fraction_in z) ++ [])
    (λ n a. fraction_at Line a >>= λ x. Ok (coarse n x.0, x.1)) count_in (u64_reads Space)
    (λ n h. made_reads Fraction Reason IsFraction (fraction_spelling Line) (fraction_at Line) (λ x. coarse n x) fraction_in (λ x. refl) (fraction_reads Line line_end))
    (λ n z h. ap count_in h.1)
told_reads causes.HeavyProof = made_reads Proof Reason IsProof (proof_spelling 0) (proof_at 0) (λ p. heavy_proof p) proof_in (λ p. refl) (proof_reads 0)
told_reads causes.HeavyPoint = made_reads Values Reason AreValues point_spelling point_at (λ q. heavy_point q) point_in (λ q. refl) point_reads

told_cause : (k : ReasonKind) (z : Reason) → IsTold k z → cause_of z ≡ k
unfolding cause_of
told_cause causes.Pivots z h = ap cause_of h.1
told_cause causes.Wide z h = ap cause_of h.1
told_cause causes.Coarse z h = ap cause_of h.1.1
told_cause causes.HeavyProof z h = ap cause_of h.1
told_cause causes.HeavyPoint z h = ap cause_of h.1

cause_reads : Reads ReasonKind Any cause_spelling cause_at
cause_reads = choice_reads ReasonKind cause_spelling (causes.Pivots ∷ causes.Wide ∷ causes.Coarse ∷ causes.HeavyProof ∷ causes.HeavyPoint ∷ []) one again causes.Pivots
  where
    one : (k : ReasonKind) → one_line (cause_spelling k) ≡ true
    one causes.Pivots = refl
    one causes.Wide = refl
    one causes.Coarse = refl
    one causes.HeavyProof = refl
    one causes.HeavyPoint = refl

    again : (k : ReasonKind) (r : List ℕ) → IsFound cause_spelling (causes.Pivots ∷ causes.Wide ∷ causes.Coarse ∷ causes.HeavyProof ∷ causes.HeavyPoint ∷ []) k r
    again causes.Pivots r = refl
    again causes.Wide r = refl
    again causes.Coarse r = refl
    again causes.HeavyProof r = refl
    again causes.HeavyPoint r = refl

abbrev reason_spelling : Reason → List ℕ
reason_spelling z = cause_spelling (cause_of z) ++ told_text (cause_of z) z

reason_reads : Reads Reason IsReason reason_spelling reason_at
unfolding reason_at cause_of count_in wide_in fraction_in proof_in point_in
reason_reads = reworded Reason (λ z. Any (cause_of z) × IsTold (cause_of z) z) IsReason reason_spelling reason_spelling reason_at
    (bind_reads ReasonKind Reason Any cause_spelling cause_at IsTold told_text told_at cause_of cause_reads (λ k h. told_reads k) told_cause)
    to from (λ z h. refl)
  where
    to : (z : Reason) → Any (cause_of z) × IsTold (cause_of z) z → IsReason z
    to (unended n) h = h.1.0
    to (wide w) h = h.1.0
    to (coarse n x) h = (h.1.0, h.1.1.0)
    to (heavy_proof p) h = h.1.0
    to (heavy_point q) h = h.1.0

    from : (z : Reason) → IsReason z → Any (cause_of z) × IsTold (cause_of z) z
    from (unended n) h = (tt, (h, refl))
    from (wide w) h = (tt, (h, refl))
    from (coarse n x) h = (tt, (h.0, (h.1, refl)))
    from (heavy_proof p) h = (tt, (h, refl))
    from (heavy_point q) h = (tt, (h, refl))

-- what stands behind a number of one digit
behind_digit : (d : ℕ) (rest text : List ℕ) → 32 ∷ rest ≡ text → 32 ∷ (d ∷ 32 ∷ (rest ++ [])) ≡ (32 ∷ d ∷ []) ++ text
behind_digit d rest text e = ap (λ (w : List ℕ). 32 ∷ (d ∷ 32 ∷ w)) (append-nil rest) ∙ ap (λ (w : List ℕ). 32 ∷ (d ∷ w)) e

reason_same : (z : Reason) → 32 ∷ reason_spelling z ≡ flat_map field (reason_fields z) ++ 10 ∷ []
unfolding cause_of count_in wide_in fraction_in proof_in point_in
reason_same (unended n) = one (decimal n)
  where
    one : (a : List ℕ) → 32 ∷ (codes "1 " ++ ((a ++ 10 ∷ []) ++ [])) ≡ ((32 ∷ codes "1") ++ ((32 ∷ a) ++ [])) ++ 10 ∷ []
    one a = simp append_assoc
reason_same (wide w) = behind_digit 50 (wide_spelling w) (flat_map field (wide_fields w) ++ 10 ∷ []) (wide_same w)
reason_same (coarse n x) = three (decimal n) (signed_decimal x.num) (decimal x.den)
  where
    three : (n a b : List ℕ) → 32 ∷ (codes "3 " ++ ((n ++ 32 ∷ []) ++ (((a ++ 32 ∷ []) ++ ((b ++ 10 ∷ []) ++ [])) ++ []))) ≡ ((32 ∷ codes "3") ++ ((32 ∷ n) ++ ((32 ∷ a) ++ ((32 ∷ b) ++ [])))) ++ 10 ∷ []
    three n a b = simp append_assoc
reason_same (heavy_proof p) = behind_digit 52 (proof_spelling 0 p) (flat_map field (proof_fields p) ++ 10 ∷ []) (proof_same 0 p)
reason_same (heavy_point q) = behind_digit 53 (point_spelling q) (flat_map field (point_fields q) ++ 10 ∷ []) (point_same q)

-- ---- marks

kind_of : Mark → MarkKind
kind_of (tight q) = kinds.Tight
kind_of (raised p q) = kinds.Raised
kind_of (empty p) = kinds.Empty
kind_of (loose r) = kinds.Loose

point_of : Mark → Values
point_of (tight q) = q
point_of (raised p q) = q
point_of (empty p) = no_values
point_of (loose r) = no_values

proof_of : Mark → Proof
proof_of (tight q) = no_proof
proof_of (raised p q) = p
proof_of (empty p) = p
proof_of (loose r) = no_proof

reason_of : Mark → Reason
reason_of (tight q) = unended 0
reason_of (raised p q) = unended 0
reason_of (empty p) = unended 0
reason_of (loose r) = r

-- what a mark of a kind carries
abbrev IsCarried : MarkKind → Mark → Type 0
IsCarried kinds.Tight z = AreValues (point_of z) × (z ≡ tight (point_of z))
IsCarried kinds.Raised z = IsProof (proof_of z) × (AreValues (point_of z) × (z ≡ raised (proof_of z) (point_of z)))
IsCarried kinds.Empty z = IsProof (proof_of z) × (z ≡ empty (proof_of z))
IsCarried kinds.Loose z = IsReason (reason_of z) × (z ≡ loose (reason_of z))

abbrev carried_text : MarkKind → Mark → List ℕ
carried_text kinds.Tight z = point_spelling (point_of z) ++ []
carried_text kinds.Raised z = proof_spelling 1 (proof_of z) ++ (point_spelling (point_of z) ++ [])
carried_text kinds.Empty z = proof_spelling 0 (proof_of z) ++ []
carried_text kinds.Loose z = reason_spelling (reason_of z) ++ []

carried_reads : (k : MarkKind) → Reads Mark (IsCarried k) (carried_text k) (carried_at k)
unfolding carried_at point_of proof_of reason_of
carried_reads kinds.Tight = made_reads Values Mark AreValues point_spelling point_at (λ q. tight q) point_of (λ q. refl) point_reads
carried_reads kinds.Raised = bind_reads Proof Mark IsProof (proof_spelling 1) (proof_at 1) (λ p z. AreValues (point_of z) × (z ≡ raised p (point_of z))) (λ p z. point_spelling (point_of z) ++ [])
    (λ p a. point_at a >>= λ q. Ok (raised p q.0, q.1)) proof_of (proof_reads 1)
    (λ p h. made_reads Values Mark AreValues point_spelling point_at (λ q. raised p q) point_of (λ q. refl) point_reads)
    (λ p z h. ap proof_of h.1)
carried_reads kinds.Empty = made_reads Proof Mark IsProof (proof_spelling 0) (proof_at 0) (λ p. empty p) proof_of (λ p. refl) (proof_reads 0)
carried_reads kinds.Loose = made_reads Reason Mark IsReason reason_spelling reason_at (λ r. loose r) reason_of (λ r. refl) reason_reads

carried_kind : (k : MarkKind) (z : Mark) → IsCarried k z → kind_of z ≡ k
unfolding kind_of
carried_kind kinds.Tight z h = ap kind_of h.1
carried_kind kinds.Raised z h = ap kind_of h.1.1
carried_kind kinds.Empty z h = ap kind_of h.1
carried_kind kinds.Loose z h = ap kind_of h.1

kind_reads : Reads MarkKind Any kind_spelling kind_at
kind_reads = choice_reads MarkKind kind_spelling (kinds.Tight ∷ kinds.Raised ∷ kinds.Empty ∷ kinds.Loose ∷ []) one again kinds.Tight
  where
    one : (k : MarkKind) → one_line (kind_spelling k) ≡ true
    one kinds.Tight = refl
    one kinds.Raised = refl
    one kinds.Empty = refl
    one kinds.Loose = refl

    again : (k : MarkKind) (r : List ℕ) → IsFound kind_spelling (kinds.Tight ∷ kinds.Raised ∷ kinds.Empty ∷ kinds.Loose ∷ []) k r
    again kinds.Tight r = refl
    again kinds.Raised r = refl
    again kinds.Empty r = refl
    again kinds.Loose r = refl

carried_same : (z : Mark) → 32 ∷ carried_text (kind_of z) z ≡ flat_map field (mark_fields z) ++ 10 ∷ []
unfolding kind_of point_of proof_of reason_of
carried_same (tight q) = ap (λ (w : List ℕ). 32 ∷ w) (append-nil (point_spelling q)) ∙ point_same q
carried_same (raised p q) =
    ap (λ (w : List ℕ). 32 ∷ (proof_spelling 1 p ++ w)) (append-nil (point_spelling q))
    ∙ ap (λ (w : List ℕ). w ++ point_spelling q) (proof_same 1 p)
    ∙ append_assoc (flat_map field (proof_fields p)) (32 ∷ []) (point_spelling q)
    ∙ ap (λ (w : List ℕ). flat_map field (proof_fields p) ++ w) (point_same q)
    ∙ sym (append_assoc (flat_map field (proof_fields p)) (flat_map field (point_fields q)) (10 ∷ []))
    ∙ ap (λ (w : List ℕ). w ++ 10 ∷ []) (sym (flat_map-append field (proof_fields p) (point_fields q)))
carried_same (empty p) = ap (λ (w : List ℕ). 32 ∷ w) (append-nil (proof_spelling 0 p)) ∙ proof_same 0 p
carried_same (loose r) = ap (λ (w : List ℕ). 32 ∷ w) (append-nil (reason_spelling r)) ∙ reason_same r

kind_same : (z : Mark) → kind_spelling (kind_of z) ≡ mark_word z ++ 32 ∷ []
unfolding kind_of
kind_same (tight q) = refl
kind_same (raised p q) = refl
kind_same (empty p) = refl
kind_same (loose r) = refl

-- the line of a mark
abbrev IsFromNode : MarkKind → LeafMark → Type 0
IsFromNode k z = below 32 z.node × (IsCarried k z.mark × (z ≡ record { node = z.node; mark = z.mark }))

abbrev from_node : MarkKind → LeafMark → List ℕ
from_node k z = number_spelling (end_of Space) z.node ++ (carried_text k z.mark ++ [])

leaf_reads : Reads LeafMark IsLeafMark mark_line leaf_at
unfolding leaf_at kind_of point_of proof_of reason_of
leaf_reads = reworded LeafMark (λ z. Any (kind_of z.mark) × IsFromNode (kind_of z.mark) z) IsLeafMark (λ z. kind_spelling (kind_of z.mark) ++ from_node (kind_of z.mark) z) mark_line leaf_at
    (bind_reads MarkKind LeafMark Any kind_spelling kind_at IsFromNode from_node
    (λ k a. u32_at Space a >>= λ n. carried_at k n.1 >>= λ m. Ok (record { node = n.0; mark = m.0 }, m.1)) (λ z. kind_of z.mark) kind_reads
    (λ k h. bind_reads ℕ LeafMark (below 32) (number_spelling (end_of Space)) (u32_at Space) (λ n z. IsCarried k z.mark × (z ≡ record { node = n; mark = z.mark })) (λ n z. carried_text k z.mark ++ [])
    (λ n a. carried_at k a >>= λ m. Ok (record { node = n; mark = m.0 }, m.1)) (λ z. z.node) (u32_reads Space)
    (λ n i. bind_reads Mark LeafMark (IsCarried k) (carried_text k) (carried_at k) (λ m z. z ≡ record { node = n; mark = m }) (λ _ _. []) (λ m a. Ok (record { node = n; mark = m }, a)) (λ z. z.mark) (carried_reads k)
    (λ m j. done_reads LeafMark (record { node = n; mark = m })) (λ m z e. ap (λ (v : LeafMark). v.mark) e))
    (λ n z h. ap (λ (v : LeafMark). v.node) h.1))
    (λ k z h. carried_kind k z.mark h.1.0))
    (λ z h. record { node = h.1.0; mark = to z.mark h.1.1.0 })
    (λ z h. (tt, (h.node, (from z.mark h.mark, refl))))
    (λ z h. whole z.node z.mark)
  where
    to : (z : Mark) → IsCarried (kind_of z) z → IsMark z
    to (tight q) h = h.0
    to (raised p q) h = (h.0, h.1.0)
    to (empty p) h = h.0
    to (loose r) h = h.0

    from : (z : Mark) → IsMark z → IsCarried (kind_of z) z
    from (tight q) h = (h, refl)
    from (raised p q) h = (h.0, (h.1, refl))
    from (empty p) h = (h, refl)
    from (loose r) h = (h, refl)

    regroup : (word node rest : List ℕ) → (word ++ 32 ∷ []) ++ ((node ++ 32 ∷ []) ++ rest) ≡ word ++ ((32 ∷ node) ++ (32 ∷ rest))
    regroup word node rest = simp append_assoc

    whole : (n : ℕ) (z : Mark) → kind_spelling (kind_of z) ++ (number_spelling (end_of Space) n ++ (carried_text (kind_of z) z ++ [])) ≡ line (mark_word z) (decimal n ∷ mark_fields z)
    whole n z =
        ap (λ (w : List ℕ). w ++ (number_spelling (end_of Space) n ++ (carried_text (kind_of z) z ++ []))) (kind_same z)
        ∙ ap (λ (w : List ℕ). (mark_word z ++ 32 ∷ []) ++ (number_spelling (end_of Space) n ++ w)) (append-nil (carried_text (kind_of z) z))
        ∙ regroup (mark_word z) (decimal n) (carried_text (kind_of z) z)
        ∙ ap (λ (w : List ℕ). mark_word z ++ ((32 ∷ decimal n) ++ w)) (carried_same z)
        ∙ ap (λ (w : List ℕ). mark_word z ++ w) (sym (append_assoc (32 ∷ decimal n) (flat_map field (mark_fields z)) (10 ∷ [])))

leaves_reads : Reads (List LeafMark) (AreLines IsLeafMark) mark_lines leaves_at
unfolding leaves_at
leaves_reads =
    let s : ℕ → LeafMark → List ℕ = λ _ z. mark_line z in
    let l : ℕ → List ℕ = number_spelling (end_of Line) in
    reworded (List LeafMark) (AreLines IsLeafMark) (AreLines IsLeafMark) (λ xs. codes "leaves " ++ (l (length xs) ++ each_spelling s xs)) mark_lines leaves_at
    (word_then (codes "leaves ") refl (bind_reads ℕ (List LeafMark) (below 32) l (u32_at Line) (AreItems IsLeafMark) (λ _ xs. each_spelling s xs) (λ k a. each_at (λ _. leaf_at) k a) length (u32_reads Line)
    (λ k i. each_reads LeafMark IsLeafMark s (λ _. leaf_at) (λ _. leaf_reads) k) (λ k xs h. h.0)))
    (λ xs h. h) (λ xs h. h)
    (λ xs h. regroup (decimal (length xs)) (each_spelling s xs)
    ∙ ap (λ (w : List ℕ). line (codes "leaves") (decimal (length xs) ∷ []) ++ w) (each_spelling-same mark_line xs))
  where
    regroup : (d rest : List ℕ) → codes "leaves " ++ ((d ++ 10 ∷ []) ++ rest) ≡ (codes "leaves" ++ (((32 ∷ d) ++ []) ++ 10 ∷ [])) ++ rest
    regroup d rest = simp append_assoc

-- ---- the whole

form_reads : Reads Form Any form_line form_at
unfolding form_at
form_reads = reworded Form Any Any (λ f. codes "form " ++ form_spelling f) form_line form_at
    (word_then (codes "form ") refl (choice_reads Form form_spelling (forms.P ∷ forms.Q ∷ forms.Pq ∷ []) one again forms.P)) (λ f h. h) (λ f h. h) (λ f h. regroup (form_word f))
  where
    one : (f : Form) → one_line (form_spelling f) ≡ true
    one forms.P = refl
    one forms.Q = refl
    one forms.Pq = refl

    again : (f : Form) (r : List ℕ) → IsFound form_spelling (forms.P ∷ forms.Q ∷ forms.Pq ∷ []) f r
    again forms.P r = refl
    again forms.Q r = refl
    again forms.Pq r = refl

    regroup : (w : List ℕ) → codes "form " ++ (w ++ 10 ∷ []) ≡ codes "form" ++ (((32 ∷ w) ++ []) ++ 10 ∷ [])
    regroup w = simp append_assoc

pivots_reads : Reads ℕ (below 32) (λ n. line (codes "pivots") (decimal n ∷ [])) pivots_at
unfolding pivots_at
pivots_reads = reworded ℕ (below 32) (below 32) (λ n. codes "pivots " ++ number_spelling (end_of Line) n) (λ n. line (codes "pivots") (decimal n ∷ [])) pivots_at
    (word_then (codes "pivots ") refl (u32_reads Line)) (λ n h. h) (λ n h. h) (λ n h. regroup (decimal n))
  where
    regroup : (w : List ℕ) → codes "pivots " ++ (w ++ 10 ∷ []) ≡ codes "pivots" ++ (((32 ∷ w) ++ []) ++ 10 ∷ [])
    regroup w = simp append_assoc

abbrev made : Form → ℕ → List LeafMark → Option ℤ → Marks
made f n ms b = record { form = f; pivots = n; marks = ms; bound = b }

abbrev IsBound : Option ℤ → Type 0
IsBound b = ForSome b (FitsSigned w128)

-- what is known of the whole behind each part
abbrev IsFromBound : Form → ℕ → List LeafMark → Marks → Type 0
IsFromBound f n ms z = IsBound z.bound × (z ≡ made f n ms z.bound)

abbrev IsFromMarks : Form → ℕ → Marks → Type 0
IsFromMarks f n z = AreLines IsLeafMark z.marks × IsFromBound f n z.marks z

abbrev IsFromPivots : Form → Marks → Type 0
IsFromPivots f z = below 32 z.pivots × IsFromMarks f z.pivots z

abbrev IsFromForm : Marks → Type 0
IsFromForm z = Any z.form × IsFromPivots z.form z

-- its text from each part on
abbrev from_bound : Marks → List ℕ
from_bound z = bound_line z.bound ++ (codes "end\n" ++ [])

abbrev from_marks : Marks → List ℕ
from_marks z = mark_lines z.marks ++ from_bound z

abbrev from_pivots : Marks → List ℕ
from_pivots z = line (codes "pivots") (decimal z.pivots ∷ []) ++ from_marks z

abbrev from_form : Marks → List ℕ
from_form z = form_line z.form ++ from_pivots z

-- how it is read from each part on
abbrev read_end : Form → ℕ → List LeafMark → Option ℤ → At → Result (Marks × At) ℕ
read_end f n ms b a = word_at (codes "end\n") a >>= λ e. Ok (made f n ms b, e.1)

abbrev read_bound : Form → ℕ → List LeafMark → At → Result (Marks × At) ℕ
read_bound f n ms a = bound_at a >>= λ b. read_end f n ms b.0 b.1

abbrev read_marks : Form → ℕ → At → Result (Marks × At) ℕ
read_marks f n a = leaves_at a >>= λ ms. read_bound f n ms.0 ms.1

abbrev read_pivots : Form → At → Result (Marks × At) ℕ
read_pivots f a = pivots_at a >>= λ n. read_marks f n.0 n.1

abbrev read_form : At → Result (Marks × At) ℕ
read_form a = form_at a >>= λ f. read_pivots f.0 f.1

from_bound-reads : (f : Form) (n : ℕ) (ms : List LeafMark) → Reads Marks (IsFromBound f n ms) from_bound (read_bound f n ms)
from_bound-reads f n ms = bind_reads (Option ℤ) Marks IsBound bound_line bound_at (λ b z. z ≡ made f n ms b) (λ _ _. codes "end\n" ++ []) (λ b a. read_end f n ms b a) (λ z. z.bound) bound_reads
    (λ b i. word_then (codes "end\n") refl (done_reads Marks (made f n ms b))) (λ b z e. ap (λ (y : Marks). y.bound) e)

from_marks-reads : (f : Form) (n : ℕ) → Reads Marks (IsFromMarks f n) from_marks (read_marks f n)
from_marks-reads f n = bind_reads (List LeafMark) Marks (AreLines IsLeafMark) mark_lines leaves_at (λ ms z. IsFromBound f n ms z) (λ _ z. from_bound z) (λ ms a. read_bound f n ms a) (λ z. z.marks) leaves_reads
    (λ ms i. from_bound-reads f n ms) (λ ms z h. ap (λ (y : Marks). y.marks) h.1)

from_pivots-reads : (f : Form) → Reads Marks (IsFromPivots f) from_pivots (read_pivots f)
from_pivots-reads f = bind_reads ℕ Marks (below 32) (λ n. line (codes "pivots") (decimal n ∷ [])) pivots_at (λ n z. IsFromMarks f n z) (λ _ z. from_marks z) (λ n a. read_marks f n a) (λ z. z.pivots) pivots_reads
    (λ n i. from_marks-reads f n) (λ n z h. ap (λ (y : Marks). y.pivots) h.1.1)

from_form-reads : Reads Marks IsFromForm from_form read_form
from_form-reads = bind_reads Form Marks Any form_line form_at (λ f z. IsFromPivots f z) (λ _ z. from_pivots z) (λ f a. read_pivots f a) (λ z. z.form) form_reads
    (λ f i. from_pivots-reads f) (λ f z h. ap (λ (y : Marks). y.form) h.1.1.1)

pub marks_reads : Reads Marks AreMarks marks_text marks_at
unfolding marks_at
marks_reads = reworded Marks IsFromForm AreMarks (λ z. codes "pooltight 1\n" ++ from_form z) marks_text marks_at (word_then (codes "pooltight 1\n") refl from_form-reads)
    (λ z h. record { pivots = h.1.0; few = h.1.1.0.0; marks = All-from_recursion IsLeafMark z.marks h.1.1.0.1.1; bound = h.1.1.1.0 })
    (λ z h. (tt, (h.pivots, ((h.few, (refl, recursion_from_All IsLeafMark z.marks h.marks)), (h.bound, refl)))))
    (λ z h. regroup (form_line z.form) (line (codes "pivots") (decimal z.pivots ∷ [])) (mark_lines z.marks) (bound_line z.bound))
  where
    regroup : (f p m b : List ℕ) → codes "pooltight 1\n" ++ (f ++ (p ++ (m ++ (b ++ (codes "end\n" ++ []))))) ≡ (codes "pooltight 1\n" ++ (f ++ p)) ++ (m ++ (b ++ codes "end\n"))
    regroup f p m b = simp append_assoc
