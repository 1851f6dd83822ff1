-- What is read of an entry's bytes is the entry that was written, and what was written is read again.
use Rattle.std.proofs.Common.{◌≡◌, ℕ, zero, suc, ◌^◌, ◌<◌, Bool, true, false, eqb, cond, List, [], ◌∷◌, ◌++◌, length, Option, Some, None, refl, sym, ap, subst, ◌∙◌, append_assoc, arith}
use Rattle.std.specs.List.{flat_map, AllByRecursion}
use Rattle.std.proofs.lemmas.Bool.{eqb-true}
use Rattle.std.proofs.lemmas.List.{append-nil, nil_from_length}
use Rattle.pool_model.specs.Plan.{Written}
use Rattle.row_model.specs.Multipliers.{Part, Proof}
use Rattle.row_model.specs.Trees.{Split}
use Rattle.row_model.specs.Entries.{Entry, root_proof, split_of, improve}
use Rattle.journal_format.specs.Fields.{field, signed_field, number_at, signed_at}
use Rattle.journal_format.specs.Versions.{split_kind, leaf_width}
use Rattle.journal_format.specs.declared.version.Version.{Version}
use Rattle.journal_format.specs.declared.version.Version.TheVariants.{One, Two}
use Rattle.journal_format.specs.Payload.{part_bytes, proof_bytes, half_bytes, split_bytes, list_bytes, plan_bytes, payload, PartFits, ProofFits, HalfFits, SplitFits, ListFits, PlanFits, EntryFits}
use Rattle.journal_format.specs.Reading.{◌>>=◌, part_at, parts_at, proof_at, half_at, split_at, numbers_at, list_at, plan_at, root_entry_at, split_entry_at, plan_entry_at, entry_at, payload_at}
use Rattle.journal_format.proofs.Numbers.{IsBytes, Takes, Takes-then, IsWide, wide2, wide4, wide8, number_again, number_takes, signed_again, signed_takes}

-- ---- steps

-- the value of a step that did not fail
bind_some : {A B : Type 0} (o : Option A) (f : A → Option B) (y : B) → (o >>= f) ≡ Some y → (x : A) × (o ≡ Some x) × (f x ≡ Some y)
bind_some (Some x) f y e = (x, refl, e)
bind_some None f y e = absurd cc

abbrev some : {A : Type 0} → A → Option A
some x = Some x

some_is : {A : Type 0} (x y : A) → some x ≡ some y → x ≡ y
some_is x y e = cc

-- what a reader read, in the words of the reader's answer
as_read : {A : Type 0} (P : A → List ℕ → Type 0) (x y : A × List ℕ) → some x ≡ some y → P x.0 x.1 → P y.0 y.1
as_read {A} P x y e h = subst (λ (z : A × List ℕ). P z.0 z.1) (some_is x y e) h

-- a byte in front
Takes-byte : (b : ℕ) (a x y : List ℕ) → Takes a x y → Takes (b ∷ a) (b ∷ x) y
Takes-byte b a x y t = record { parts = ap (λ (l : List ℕ). b ∷ l) t.parts; rest_fits = t.rest_fits }

Takes-none : (a : List ℕ) → IsBytes a → Takes a [] a
Takes-none a fits = record { parts = refl; rest_fits = fits }

IsBytes-behind : (b : ℕ) (bytes : List ℕ) → IsBytes (b ∷ bytes) → IsBytes bytes
IsBytes-behind b bytes h i = h (suc i)

-- ---- parts

part_takes : (bytes : List ℕ) (p : Part) (rest : List ℕ) → IsBytes bytes → part_at bytes ≡ Some (p, rest) → Takes bytes (part_bytes p) rest × PartFits p
unfolding part_at
part_takes bytes p rest fits e =
    let a = bind_some (number_at 4 bytes) (λ row. signed_at row.1 >>= λ mult. Some (record { row = row.0; mult = mult.0 }, mult.1)) (p, rest) e in
    let b = bind_some (signed_at a.0.1) (λ mult. Some (record { row = a.0.0; mult = mult.0 }, mult.1)) (p, rest) a.2 in
    let s = number_takes 4 wide4 bytes a.0.0 a.0.1 fits a.1 in
    let t = signed_takes a.0.1 b.0.0 b.0.1 s.0.rest_fits b.1 in
    as_read (λ (q : Part) (l : List ℕ). Takes bytes (part_bytes q) l × PartFits q) (record { row = a.0.0; mult = b.0.0 }, b.0.1) (p, rest) b.2
    (Takes-then bytes (field 4 a.0.0) a.0.1 (signed_field b.0.0) b.0.1 s.0 t.0, record { row = omega (arith, s.1); mult = t.1 })

part_again : (p : Part) (rest : List ℕ) → PartFits p → part_at (part_bytes p ++ rest) ≡ Some (p, rest)
unfolding part_at
part_again p rest fits =
    ap part_at (append_assoc (field 4 p.row) (signed_field p.mult) rest)
    ∙ rw (number_again 4 p.row (signed_field p.mult ++ rest) (omega (arith, fits.row)), signed_again p.mult rest fits.mult) refl

parts_take : (n : ℕ) (bytes : List ℕ) (ps : List Part) (rest : List ℕ) → IsBytes bytes → parts_at n bytes ≡ Some (ps, rest)
    → Takes bytes (flat_map part_bytes ps) rest × (length ps ≡ n) × AllByRecursion PartFits ps
unfolding parts_at
parts_take zero bytes ps rest fits e =
    as_read (λ (qs : List Part) (l : List ℕ). Takes bytes (flat_map part_bytes qs) l × (length qs ≡ 0) × AllByRecursion PartFits qs) ([], bytes) (ps, rest) e (Takes-none bytes fits, refl, tt)
parts_take (suc n) bytes ps rest fits e =
    let a = bind_some (part_at bytes) (λ first. parts_at n first.1 >>= λ others. Some (first.0 ∷ others.0, others.1)) (ps, rest) e in
    let b = bind_some (parts_at n a.0.1) (λ others. Some (a.0.0 ∷ others.0, others.1)) (ps, rest) a.2 in
    let s = part_takes bytes a.0.0 a.0.1 fits a.1 in
    let t = parts_take n a.0.1 b.0.0 b.0.1 s.0.rest_fits b.1 in
    as_read (λ (qs : List Part) (l : List ℕ). Takes bytes (flat_map part_bytes qs) l × (length qs ≡ suc n) × AllByRecursion PartFits qs) (a.0.0 ∷ b.0.0, b.0.1) (ps, rest) b.2
    (Takes-then bytes (part_bytes a.0.0) a.0.1 (flat_map part_bytes b.0.0) b.0.1 s.0 t.0, ap suc t.1, (s.1, t.2))

parts_again : (ps : List Part) (rest : List ℕ) → AllByRecursion PartFits ps → parts_at (length ps) (flat_map part_bytes ps ++ rest) ≡ Some (ps, rest)
unfolding parts_at
parts_again [] rest fits = refl
parts_again (p ∷ ps) rest fits =
    ap (parts_at (suc (length ps))) (append_assoc (part_bytes p) (flat_map part_bytes ps) rest)
    ∙ rw (part_again p (flat_map part_bytes ps ++ rest) fits.0, parts_again ps rest fits.1) refl

-- ---- proofs

proof_takes : (bytes : List ℕ) (p : Proof) (rest : List ℕ) → IsBytes bytes → proof_at bytes ≡ Some (p, rest) → Takes bytes (proof_bytes p) rest × ProofFits p
unfolding proof_at
proof_takes bytes p rest fits e =
    let a = bind_some (number_at 8 bytes) (λ scale. number_at 4 scale.1 >>= λ count. parts_at count.0 count.1 >>= λ parts. Some (record { scale = scale.0; parts = parts.0 }, parts.1)) (p, rest) e in
    let b = bind_some (number_at 4 a.0.1) (λ count. parts_at count.0 count.1 >>= λ parts. Some (record { scale = a.0.0; parts = parts.0 }, parts.1)) (p, rest) a.2 in
    let d = bind_some (parts_at b.0.0 b.0.1) (λ parts. Some (record { scale = a.0.0; parts = parts.0 }, parts.1)) (p, rest) b.2 in
    let s = number_takes 8 wide8 bytes a.0.0 a.0.1 fits a.1 in
    let t = number_takes 4 wide4 a.0.1 b.0.0 b.0.1 s.0.rest_fits b.1 in
    let u = parts_take b.0.0 b.0.1 d.0.0 d.0.1 t.0.rest_fits d.1 in
    let counted = subst (λ (k : ℕ). Takes a.0.1 (field 4 k) b.0.1) (sym u.1) t.0 in
    let behind = Takes-then a.0.1 (field 4 (length d.0.0)) b.0.1 (flat_map part_bytes d.0.0) d.0.1 counted u.0 in
    let whole = Takes-then bytes (field 8 a.0.0) a.0.1 (field 4 (length d.0.0) ++ flat_map part_bytes d.0.0) d.0.1 s.0 behind in
    as_read (λ (q : Proof) (l : List ℕ). Takes bytes (proof_bytes q) l × ProofFits q) (record { scale = a.0.0; parts = d.0.0 }, d.0.1) (p, rest) d.2 (
      subst (λ (l : List ℕ). Takes bytes l d.0.1) (sym (append_assoc (field 8 a.0.0) (field 4 (length d.0.0)) (flat_map part_bytes d.0.0))) whole,
      record { scale = omega (arith, s.1); count = omega (arith, t.1, u.1); parts = u.2 },
    )

proof_again : (p : Proof) (rest : List ℕ) → ProofFits p → proof_at (proof_bytes p ++ rest) ≡ Some (p, rest)
unfolding proof_at
proof_again p rest fits =
    let regrouped : proof_bytes p ++ rest ≡ field 8 p.scale ++ (field 4 (length p.parts) ++ (flat_map part_bytes p.parts ++ rest)) = simp append_assoc in
    ap proof_at regrouped
    ∙ rw (
      number_again 8 p.scale (field 4 (length p.parts) ++ (flat_map part_bytes p.parts ++ rest)) (omega (arith, fits.scale)),
      number_again 4 (length p.parts) (flat_map part_bytes p.parts ++ rest) (omega (arith, fits.count)),
      parts_again p.parts rest fits.parts,
    ) refl

half_takes : (bytes : List ℕ) (o : Option Proof) (rest : List ℕ) → IsBytes bytes → half_at bytes ≡ Some (o, rest) → Takes bytes (half_bytes o) rest × HalfFits o
unfolding half_at
half_takes [] o rest fits e = absurd cc
half_takes (zero ∷ bytes) o rest fits e =
    as_read (λ (q : Option Proof) (l : List ℕ). Takes (0 ∷ bytes) (half_bytes q) l × HalfFits q) (None, bytes) (o, rest) e
    (record { parts = refl; rest_fits = IsBytes-behind 0 bytes fits }, tt)
half_takes (suc zero ∷ bytes) o rest fits e =
    let a = bind_some (proof_at bytes) (λ proof. Some (Some proof.0, proof.1)) (o, rest) e in
    let s = proof_takes bytes a.0.0 a.0.1 (IsBytes-behind 1 bytes fits) a.1 in
    as_read (λ (q : Option Proof) (l : List ℕ). Takes (1 ∷ bytes) (half_bytes q) l × HalfFits q) (Some a.0.0, a.0.1) (o, rest) a.2
    (Takes-byte 1 bytes (proof_bytes a.0.0) a.0.1 s.0, s.1)
half_takes (suc (suc b) ∷ bytes) o rest fits e = absurd cc

half_again : (o : Option Proof) (rest : List ℕ) → HalfFits o → half_at (half_bytes o ++ rest) ≡ Some (o, rest)
unfolding half_at
half_again None rest fits = refl
half_again (Some p) rest fits = rw (proof_again p rest fits) refl

-- ---- splits

wide-leaf : (v : Version) → IsWide (leaf_width v)
wide-leaf One = wide2
wide-leaf Two = wide4

split_takes : (v : Version) (bytes : List ℕ) (x : Split) (rest : List ℕ) → IsBytes bytes → split_at v bytes ≡ Some (x, rest) → Takes bytes (split_bytes v x) rest × SplitFits v x
unfolding split_at
split_takes v bytes x rest fits e =
    let w = leaf_width v in
    let a = bind_some (number_at w bytes) (λ leaf. number_at 4 leaf.1 >>= λ coord. signed_at coord.1 >>= λ cut. Some (record { leaf = leaf.0; coord = coord.0; cut = cut.0 }, cut.1)) (x, rest) e in
    let b = bind_some (number_at 4 a.0.1) (λ coord. signed_at coord.1 >>= λ cut. Some (record { leaf = a.0.0; coord = coord.0; cut = cut.0 }, cut.1)) (x, rest) a.2 in
    let d = bind_some (signed_at b.0.1) (λ cut. Some (record { leaf = a.0.0; coord = b.0.0; cut = cut.0 }, cut.1)) (x, rest) b.2 in
    let s = number_takes w (wide-leaf v) bytes a.0.0 a.0.1 fits a.1 in
    let t = number_takes 4 wide4 a.0.1 b.0.0 b.0.1 s.0.rest_fits b.1 in
    let u = signed_takes b.0.1 d.0.0 d.0.1 t.0.rest_fits d.1 in
    let behind = Takes-then a.0.1 (field 4 b.0.0) b.0.1 (signed_field d.0.0) d.0.1 t.0 u.0 in
    let whole = Takes-then bytes (field w a.0.0) a.0.1 (field 4 b.0.0 ++ signed_field d.0.0) d.0.1 s.0 behind in
    as_read (λ (q : Split) (l : List ℕ). Takes bytes (split_bytes v q) l × SplitFits v q) (record { leaf = a.0.0; coord = b.0.0; cut = d.0.0 }, d.0.1) (x, rest) d.2 (
      subst (λ (l : List ℕ). Takes bytes l d.0.1) (sym (append_assoc (field w a.0.0) (field 4 b.0.0) (signed_field d.0.0))) whole,
      record { leaf = s.1; coord = omega (arith, t.1); cut = u.1 },
    )

split_again : (v : Version) (x : Split) (rest : List ℕ) → SplitFits v x → split_at v (split_bytes v x ++ rest) ≡ Some (x, rest)
unfolding split_at
split_again v x rest fits =
    let w = leaf_width v in
    let regrouped : split_bytes v x ++ rest ≡ field w x.leaf ++ (field 4 x.coord ++ (signed_field x.cut ++ rest)) = simp append_assoc in
    ap (split_at v) regrouped
    ∙ rw (
      number_again w x.leaf (field 4 x.coord ++ (signed_field x.cut ++ rest)) fits.leaf,
      number_again 4 x.coord (signed_field x.cut ++ rest) (omega (arith, fits.coord)),
      signed_again x.cut rest fits.cut,
    ) refl

-- ---- lists of numbers

numbers_take : (width : ℕ) (wide : IsWide width) (n : ℕ) (bytes xs rest : List ℕ) → IsBytes bytes → numbers_at width n bytes ≡ Some (xs, rest)
    → Takes bytes (flat_map (field width) xs) rest × (length xs ≡ n) × AllByRecursion (λ x. x < 256 ^ width) xs
unfolding numbers_at
numbers_take width wide zero bytes xs rest fits e =
    as_read (λ (qs : List ℕ) (l : List ℕ). Takes bytes (flat_map (field width) qs) l × (length qs ≡ 0) ×
    AllByRecursion (λ x. x < 256 ^ width) qs) ([], bytes) (xs, rest) e (Takes-none bytes fits, refl, tt)
numbers_take width wide (suc n) bytes xs rest fits e =
    let a = bind_some (number_at width bytes) (λ first. numbers_at width n first.1 >>= λ others. Some (first.0 ∷ others.0, others.1)) (xs, rest) e in
    let b = bind_some (numbers_at width n a.0.1) (λ others. Some (a.0.0 ∷ others.0, others.1)) (xs, rest) a.2 in
    let s = number_takes width wide bytes a.0.0 a.0.1 fits a.1 in
    let t = numbers_take width wide n a.0.1 b.0.0 b.0.1 s.0.rest_fits b.1 in
    as_read (λ (qs : List ℕ) (l : List ℕ). Takes bytes (flat_map (field width) qs) l × (length qs ≡ suc n) × AllByRecursion (λ x. x < 256 ^ width) qs) (a.0.0 ∷ b.0.0, b.0.1) (xs, rest) b.2
    (Takes-then bytes (field width a.0.0) a.0.1 (flat_map (field width) b.0.0) b.0.1 s.0 t.0, ap suc t.1, (s.1, t.2))

numbers_again : (width : ℕ) (xs rest : List ℕ) → AllByRecursion (λ x. x < 256 ^ width) xs → numbers_at width (length xs) (flat_map (field width) xs ++ rest) ≡ Some (xs, rest)
unfolding numbers_at
numbers_again width [] rest fits = refl
numbers_again width (x ∷ xs) rest fits =
    ap (numbers_at width (suc (length xs))) (append_assoc (field width x) (flat_map (field width) xs) rest)
    ∙ rw (number_again width x (flat_map (field width) xs ++ rest) fits.0, numbers_again width xs rest fits.1) refl

list_takes : (width : ℕ) (wide : IsWide width) (bytes xs rest : List ℕ) → IsBytes bytes → list_at width bytes ≡ Some (xs, rest) → Takes bytes (list_bytes width xs) rest × ListFits width xs
unfolding list_at
list_takes width wide bytes xs rest fits e =
    let a = bind_some (number_at 2 bytes) (λ count. numbers_at width count.0 count.1) (xs, rest) e in
    let s = number_takes 2 wide2 bytes a.0.0 a.0.1 fits a.1 in
    let t = numbers_take width wide a.0.0 a.0.1 xs rest s.0.rest_fits a.2 in
    let counted = subst (λ (k : ℕ). Takes bytes (field 2 k) a.0.1) (sym t.1) s.0 in
    (Takes-then bytes (field 2 (length xs)) a.0.1 (flat_map (field width) xs) rest counted t.0, record { count = omega (arith, s.1, t.1); each = t.2 })

list_again : (width : ℕ) (xs rest : List ℕ) → ListFits width xs → list_at width (list_bytes width xs ++ rest) ≡ Some (xs, rest)
unfolding list_at
list_again width xs rest fits =
    ap (list_at width) (append_assoc (field 2 (length xs)) (flat_map (field width) xs) rest)
    ∙ rw (number_again 2 (length xs) (flat_map (field width) xs ++ rest) (omega (arith, fits.count))) (numbers_again width xs rest fits.each)

-- ---- plans

plan_takes : (bytes : List ℕ) (w : Written) (rest : List ℕ) → IsBytes bytes → plan_at bytes ≡ Some (w, rest) → Takes bytes (plan_bytes w) rest × PlanFits w
unfolding plan_at
plan_takes bytes w rest fits e =
    let a = bind_some (number_at 4 bytes)
    (λ base. number_at 4 base.1 >>= λ flow_base. list_at 4 flow_base.1 >>= λ weights. list_at 8 weights.1 >>= λ outflows. list_at 8 outflows.1
    >>= λ direct. Some (record { base = base.0; flow_base = flow_base.0; weights = weights.0; outflows = outflows.0; direct = direct.0 }, direct.1)) (w, rest) e in
    let b = bind_some (number_at 4 a.0.1)
    (λ flow_base. list_at 4 flow_base.1 >>= λ weights. list_at 8 weights.1 >>= λ outflows. list_at 8 outflows.1
    >>= λ direct. Some (record { base = a.0.0; flow_base = flow_base.0; weights = weights.0; outflows = outflows.0; direct = direct.0 }, direct.1)) (w, rest) a.2 in
    let d = bind_some (list_at 4 b.0.1)
    (λ weights. list_at 8 weights.1 >>= λ outflows. list_at 8 outflows.1
    >>= λ direct. Some (record { base = a.0.0; flow_base = b.0.0; weights = weights.0; outflows = outflows.0; direct = direct.0 }, direct.1)) (w, rest) b.2 in
    let f = bind_some (list_at 8 d.0.1)
    (λ outflows. list_at 8 outflows.1
    >>= λ direct. Some (record { base = a.0.0; flow_base = b.0.0; weights = d.0.0; outflows = outflows.0; direct = direct.0 }, direct.1)) (w, rest) d.2 in
    let g = bind_some (list_at 8 f.0.1)
    (λ direct. Some (record { base = a.0.0; flow_base = b.0.0; weights = d.0.0; outflows = f.0.0; direct = direct.0 }, direct.1)) (w, rest) f.2 in
    let s = number_takes 4 wide4 bytes a.0.0 a.0.1 fits a.1 in
    let t = number_takes 4 wide4 a.0.1 b.0.0 b.0.1 s.0.rest_fits b.1 in
    let u = list_takes 4 wide4 b.0.1 d.0.0 d.0.1 t.0.rest_fits d.1 in
    let v = list_takes 8 wide8 d.0.1 f.0.0 f.0.1 u.0.rest_fits f.1 in
    let x = list_takes 8 wide8 f.0.1 g.0.0 g.0.1 v.0.rest_fits g.1 in
    let made : Written = record { base = a.0.0; flow_base = b.0.0; weights = d.0.0; outflows = f.0.0; direct = g.0.0 } in
    let k1 = Takes-then bytes (field 4 a.0.0) a.0.1 (field 4 b.0.0) b.0.1 s.0 t.0 in
    let k2 = Takes-then bytes (field 4 a.0.0 ++ field 4 b.0.0) b.0.1 (list_bytes 4 d.0.0) d.0.1 k1 u.0 in
    let k3 = Takes-then bytes (field 4 a.0.0 ++ field 4 b.0.0 ++ list_bytes 4 d.0.0) d.0.1 (list_bytes 8 f.0.0) f.0.1 k2 v.0 in
    let k4 : Takes bytes (plan_bytes made) g.0.1 = Takes-then bytes (field 4 a.0.0 ++ field 4 b.0.0 ++ list_bytes 4 d.0.0 ++ list_bytes 8 f.0.0) f.0.1 (list_bytes 8 g.0.0) g.0.1 k3 x.0 in
    as_read (λ (q : Written) (l : List ℕ). Takes bytes (plan_bytes q) l × PlanFits q) (made, g.0.1) (w, rest) g.2
    (k4, record { base = omega (arith, s.1); flow_base = omega (arith, t.1); weights = u.1; outflows = v.1; direct = x.1 })

plan_again : (w : Written) (rest : List ℕ) → PlanFits w → plan_at (plan_bytes w ++ rest) ≡ Some (w, rest)
unfolding plan_at
plan_again w rest fits =
    let regrouped : plan_bytes w ++ rest ≡ field 4 w.base ++ (field 4 w.flow_base ++ (list_bytes 4 w.weights ++ (list_bytes 8 w.outflows ++ (list_bytes 8 w.direct ++ rest)))) =
    append_assoc (field 4 w.base ++ field 4 w.flow_base ++ list_bytes 4 w.weights ++ list_bytes 8 w.outflows) (list_bytes 8 w.direct) rest
    ∙ append_assoc (field 4 w.base ++ field 4 w.flow_base ++ list_bytes 4 w.weights) (list_bytes 8 w.outflows) (list_bytes 8 w.direct ++ rest)
    ∙ append_assoc (field 4 w.base ++ field 4 w.flow_base) (list_bytes 4 w.weights) (list_bytes 8 w.outflows ++ (list_bytes 8 w.direct ++ rest))
    ∙ append_assoc (field 4 w.base) (field 4 w.flow_base) (list_bytes 4 w.weights ++ (list_bytes 8 w.outflows ++ (list_bytes 8 w.direct ++ rest))) in
    ap plan_at regrouped
    ∙ rw (
      number_again 4 w.base (field 4 w.flow_base ++ (list_bytes 4 w.weights ++ (list_bytes 8 w.outflows ++ (list_bytes 8 w.direct ++ rest)))) (omega (arith, fits.base)),
      number_again 4 w.flow_base (list_bytes 4 w.weights ++ (list_bytes 8 w.outflows ++ (list_bytes 8 w.direct ++ rest))) (omega (arith, fits.flow_base)),
      list_again 4 w.weights (list_bytes 8 w.outflows ++ (list_bytes 8 w.direct ++ rest)) fits.weights,
      list_again 8 w.outflows (list_bytes 8 w.direct ++ rest) fits.outflows,
      list_again 8 w.direct rest fits.direct,
    ) refl

-- ---- entries

-- the bytes of a split, behind its kind
abbrev split_tail : Version → Split → Option Proof → Option Proof → List ℕ
split_tail v x left right = split_bytes v x ++ half_bytes left ++ half_bytes right

split_entry_takes : (v : Version) (k : ℕ) (bytes : List ℕ) (x : Entry) (rest : List ℕ) → k ≡ split_kind v → IsBytes bytes → split_entry_at v bytes ≡ Some (x, rest)
    → Takes (k ∷ bytes) (payload v x) rest × EntryFits v x
unfolding split_entry_at
split_entry_takes v k bytes x rest kind fits e =
    let a = bind_some (split_at v bytes) (λ split. half_at split.1 >>= λ left. half_at left.1 >>= λ right. Some (split_of split.0 left.0 right.0, right.1)) (x, rest) e in
    let b = bind_some (half_at a.0.1) (λ left. half_at left.1 >>= λ right. Some (split_of a.0.0 left.0 right.0, right.1)) (x, rest) a.2 in
    let d = bind_some (half_at b.0.1) (λ right. Some (split_of a.0.0 b.0.0 right.0, right.1)) (x, rest) b.2 in
    let s = split_takes v bytes a.0.0 a.0.1 fits a.1 in
    let t = half_takes a.0.1 b.0.0 b.0.1 s.0.rest_fits b.1 in
    let u = half_takes b.0.1 d.0.0 d.0.1 t.0.rest_fits d.1 in
    let k1 = Takes-then bytes (split_bytes v a.0.0) a.0.1 (half_bytes b.0.0) b.0.1 s.0 t.0 in
    let k2 = Takes-then bytes (split_bytes v a.0.0 ++ half_bytes b.0.0) b.0.1 (half_bytes d.0.0) d.0.1 k1 u.0 in
    let whole : Takes (k ∷ bytes) (split_kind v ∷ split_tail v a.0.0 b.0.0 d.0.0) d.0.1 =
    subst (λ (n : ℕ). Takes (k ∷ bytes) (n ∷ split_tail v a.0.0 b.0.0 d.0.0) d.0.1) kind (Takes-byte k bytes (split_tail v a.0.0 b.0.0 d.0.0) d.0.1 k2) in
    as_read (λ (q : Entry) (l : List ℕ). Takes (k ∷ bytes) (payload v q) l × EntryFits v q) (split_of a.0.0 b.0.0 d.0.0, d.0.1) (x, rest) d.2
    (whole, (s.1, t.1, u.1))

root_entry_takes : (v : Version) (bytes : List ℕ) (x : Entry) (rest : List ℕ) → IsBytes bytes → root_entry_at bytes ≡ Some (x, rest) → Takes (0 ∷ bytes) (payload v x) rest × EntryFits v x
unfolding root_entry_at
root_entry_takes v bytes x rest fits e =
    let a = bind_some (proof_at bytes) (λ proof. Some (root_proof proof.0, proof.1)) (x, rest) e in
    let s = proof_takes bytes a.0.0 a.0.1 fits a.1 in
    as_read (λ (q : Entry) (l : List ℕ). Takes (0 ∷ bytes) (payload v q) l × EntryFits v q) (root_proof a.0.0, a.0.1) (x, rest) a.2
    (Takes-byte 0 bytes (proof_bytes a.0.0) a.0.1 s.0, s.1)

plan_entry_takes : (v : Version) (bytes : List ℕ) (x : Entry) (rest : List ℕ) → IsBytes bytes → plan_entry_at bytes ≡ Some (x, rest) → Takes (2 ∷ bytes) (payload v x) rest × EntryFits v x
unfolding plan_entry_at
plan_entry_takes v bytes x rest fits e =
    let a = bind_some (plan_at bytes) (λ plan. Some (improve plan.0, plan.1)) (x, rest) e in
    let s = plan_takes bytes a.0.0 a.0.1 fits a.1 in
    as_read (λ (q : Entry) (l : List ℕ). Takes (2 ∷ bytes) (payload v q) l × EntryFits v q) (improve a.0.0, a.0.1) (x, rest) a.2
    (Takes-byte 2 bytes (plan_bytes a.0.0) a.0.1 s.0, s.1)

entry_takes : (v : Version) (bytes : List ℕ) (x : Entry) (rest : List ℕ) → IsBytes bytes → entry_at v bytes ≡ Some (x, rest) → Takes bytes (payload v x) rest × EntryFits v x
unfolding entry_at
entry_takes v [] x rest fits e = absurd cc
entry_takes v (zero ∷ bytes) x rest fits e = root_entry_takes v bytes x rest (IsBytes-behind 0 bytes fits) e
entry_takes One (suc zero ∷ bytes) x rest fits e = split_entry_takes One 1 bytes x rest refl (IsBytes-behind 1 bytes fits) e
entry_takes Two (suc zero ∷ bytes) x rest fits e = absurd cc
entry_takes v (suc (suc zero) ∷ bytes) x rest fits e = plan_entry_takes v bytes x rest (IsBytes-behind 2 bytes fits) e
entry_takes One (suc (suc (suc kind)) ∷ bytes) x rest fits e = absurd cc
entry_takes Two (suc (suc (suc zero)) ∷ bytes) x rest fits e = split_entry_takes Two 3 bytes x rest refl (IsBytes-behind 3 bytes fits) e
entry_takes Two (suc (suc (suc (suc kind))) ∷ bytes) x rest fits e = absurd cc

split_entry_again : (v : Version) (x : Split) (left right : Option Proof) (rest : List ℕ) → SplitFits v x → HalfFits left → HalfFits right
    → split_entry_at v (split_tail v x left right ++ rest) ≡ Some (split_of x left right, rest)
unfolding split_entry_at
split_entry_again v x left right rest fits a b =
    let regrouped : split_tail v x left right ++ rest ≡ split_bytes v x ++ (half_bytes left ++ (half_bytes right ++ rest)) =
    append_assoc (split_bytes v x ++ half_bytes left) (half_bytes right) rest ∙ append_assoc (split_bytes v x) (half_bytes left) (half_bytes right ++ rest) in
    ap (split_entry_at v) regrouped
    ∙ rw (split_again v x (half_bytes left ++ (half_bytes right ++ rest)) fits, half_again left (half_bytes right ++ rest) a, half_again right rest b) refl

entry_again : (v : Version) (x : Entry) (rest : List ℕ) → EntryFits v x → entry_at v (payload v x ++ rest) ≡ Some (x, rest)
unfolding entry_at root_entry_at plan_entry_at
entry_again v (root_proof p) rest fits = rw (proof_again p rest fits) refl
entry_again One (split_of x left right) rest fits = split_entry_again One x left right rest fits.0 fits.1 fits.2
entry_again Two (split_of x left right) rest fits = split_entry_again Two x left right rest fits.0 fits.1 fits.2
entry_again v (improve w) rest fits = rw (plan_again w rest fits) refl

-- ---- whole payloads

guard_whole : {A : Type 0} (b : Bool) (x y : A) → cond b (Some x) None ≡ Some y → (b ≡ true) × (x ≡ y)
guard_whole true x y e = (refl, cc)
guard_whole false x y e = absurd cc

-- what is read of bytes has these bytes
pub payload_takes : (v : Version) (bytes : List ℕ) (x : Entry) → IsBytes bytes → payload_at v bytes ≡ Some x → (bytes ≡ payload v x) × EntryFits v x
unfolding payload_at
payload_takes v bytes x fits e =
    let a = bind_some (entry_at v bytes) (λ entry. cond (eqb (length entry.1) 0) (Some entry.0) None) x e in
    let g = guard_whole (eqb (length a.0.1) 0) a.0.0 x a.2 in
    let none : a.0.1 ≡ [] = nil_from_length a.0.1 (eqb-true (length a.0.1) 0 g.0) in
    let t = entry_takes v bytes a.0.0 a.0.1 fits a.1 in
    (t.0.parts ∙ ap (λ (l : List ℕ). payload v a.0.0 ++ l) none ∙ append-nil (payload v a.0.0) ∙ ap (payload v) g.1, subst (EntryFits v) g.1 t.1)

-- and an entry's bytes are read as the entry
pub payload_again : (v : Version) (x : Entry) → EntryFits v x → payload_at v (payload v x) ≡ Some x
unfolding payload_at
payload_again v x fits =
    let read : entry_at v (payload v x) ≡ Some (x, []) = ap (entry_at v) (sym (append-nil (payload v x))) ∙ entry_again v x [] fits in
    rw read refl
