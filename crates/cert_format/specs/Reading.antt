-- Reading a certificate from left to right, line by line.
use Rattle.std.specs.Prelude.{ℕ, ◌-◌, ◌^◌, List, [], ◌∷◌, get_or, Option, Some, None, Result, Ok, ◌==◌, if◌then◌else◌, codes, ℤ}
use Rattle.pool_model.specs.Plan.{Written}
use Rattle.pool_model.specs.Claim.{Claimed, with_gap, with_bound, no_plan}
use Rattle.plan_core.specs.Views.{shown_plan}
use Rattle.row_model.specs.Multipliers.{Part}
use Rattle.row_model.specs.Trees.{Split}
use Rattle.cert_text.specs.declared.pieces.Ends.TheVariants.{Space, Line, LineIfZero}
use Rattle.cert_text.specs.Reading.{At, ◌>>=◌, piece_at, after_word, word_at, same_at, each_at, end_of, ends_before, u32_at, u64_at, i64_at, i128_at}
use Rattle.cert_format.specs.declared.reading.Kind.{Kind}
use Rattle.cert_format.specs.declared.reading.Kind.TheVariants as kinds
use Rattle.cert_format.specs.declared.reading.Opening as declared
use Rattle.cert_format.specs.declared.reading.Opening.TheVariants as openings
use Rattle.cert_writing.specs.Cert.{Cert, NodeProof}

-- ---- the kind

-- the word of a kind, and the end of its line
abbrev pub kind_spelling : Kind → List ℕ
kind_spelling kinds.Gap = codes "gap\n"
kind_spelling kinds.Bound = codes "bound\n"
kind_spelling kinds.NoPlan = codes "none\n"

-- a kind, where its word was found
abbrev pub as_kind : Kind → Option (List ℕ) → Option (Kind × List ℕ)
as_kind k None = None
as_kind k (Some r) = Some (k, r)

-- a kind at the front of the bytes, by its first letter
abbrev pub kind_from : List ℕ → Option (Kind × List ℕ)
kind_from [] = None
kind_from (c ∷ cs) = if c == 103 then as_kind kinds.Gap (after_word (codes "ap\n") cs)
    else if c == 98 then as_kind kinds.Bound (after_word (codes "ound\n") cs)
    else if c == 110 then as_kind kinds.NoPlan (after_word (codes "one\n") cs) else None

-- the word of a kind
abbrev pub kind_word_at : At → Result (Kind × At) ℕ
kind_word_at = piece_at kind_spelling kind_from

-- the line of the kind
unfoldable pub kind_at : At → Result (Kind × At) ℕ
kind_at a = do
  w ← word_at (codes "kind ") a
  kind_word_at w.1

-- ---- the shape

-- the line of the shape
unfoldable pub shape_at : At → Result (List ℕ × At) ℕ
shape_at a = do
  w ← word_at (codes "shape ") a
  sources ← u32_at Space w.1
  pools ← u32_at Space sources.1
  products ← u32_at Space pools.1
  qualities ← u32_at Space products.1
  feeds ← u32_at Space qualities.1
  outs ← u32_at Space feeds.1
  directs ← u32_at Line outs.1
  Ok (sources.0 ∷ pools.0 ∷ products.0 ∷ qualities.0 ∷ feeds.0 ∷ outs.0 ∷ directs.0 ∷ [], directs.1)

-- ---- the plan

-- numbers of 32 bits, to the end of the line
abbrev pub u32s_at : ℕ → At → Result (List ℕ × At) ℕ
u32s_at n = each_at (λ k. u32_at (ends_before k)) n

-- numbers of 64 bits, to the end of the line
abbrev pub u64s_at : ℕ → At → Result (List ℕ × At) ℕ
u64s_at n = each_at (λ k. u64_at (ends_before k)) n

-- a word that n numbers follow, with the byte behind it
unfoldable pub list_word_at : List ℕ → ℕ → At → Result (Unit {0} × At) ℕ
list_word_at word n a = do
  w ← word_at word a
  word_at (end_of (ends_before n) 0 ∷ []) w.1

-- the line of n weights
unfoldable pub weights_at : ℕ → At → Result (List ℕ × At) ℕ
weights_at n a = do
  w ← list_word_at (codes "weights") n a
  u32s_at n w.1

-- the line of n flows behind a word
unfoldable pub flows_at : List ℕ → ℕ → At → Result (List ℕ × At) ℕ
flows_at word n a = do
  w ← list_word_at word n a
  u64s_at n w.1

-- the lines of a plan of this shape
unfoldable pub plan_at : List ℕ → At → Result (Written × At) ℕ
plan_at shape a = do
  w ← word_at (codes "plan ") a
  base ← u32_at Space w.1
  flow_base ← u32_at Line base.1
  weights ← weights_at (get_or shape 4 0) flow_base.1
  outflows ← flows_at (codes "outflows") (get_or shape 5 0) weights.1
  direct ← flows_at (codes "direct") (get_or shape 6 0) outflows.1
  Ok (record { base = base.0; flow_base = flow_base.0; weights = weights.0; outflows = outflows.0; direct = direct.0 }, direct.1)

-- the kind of a claim, with the plan where a gap is claimed
pub data Opened : Type 0 where
  with_plan : Written → Opened
  bound_alone : Opened
  none : Opened

-- the same of the code
abbrev pub opened : declared.Opening → Opened
opened (openings.Gap plan) = with_plan (shown_plan plan)
opened openings.Bound = bound_alone
opened openings.NoPlan = none

-- the lines of the plan, where there is one
unfoldable pub opened_at : Kind → List ℕ → At → Result (Opened × At) ℕ
opened_at kinds.Gap shape a = do
  plan ← plan_at shape a
  Ok (with_plan plan.0, plan.1)
opened_at kinds.Bound shape a = Ok (bound_alone, a)
opened_at kinds.NoPlan shape a = Ok (none, a)

-- ---- the tree

-- the line of a split
unfoldable pub split_line_at : At → Result (Split × At) ℕ
split_line_at a = do
  w ← word_at (codes "split ") a
  leaf ← u32_at Space w.1
  coord ← u32_at Space leaf.1
  cut ← i64_at Line coord.1
  Ok (record { leaf = leaf.0; coord = coord.0; cut = cut.0 }, cut.1)

-- the count of the splits, and their lines
unfoldable pub splits_at : At → Result (List Split × At) ℕ
splits_at a = do
  w ← word_at (codes "splits ") a
  n ← u32_at Line w.1
  each_at (λ _. split_line_at) n.0 n.1

-- a part that k others follow in its line
unfoldable pub part_at : ℕ → At → Result (Part × At) ℕ
part_at k a = do
  row ← u32_at Space a
  mult ← i64_at (ends_before k) row.1
  Ok (record { row = row.0; mult = mult.0 }, mult.1)

-- the line of a proof
unfoldable pub proof_line_at : At → Result (NodeProof × At) ℕ
proof_line_at a = do
  w ← word_at (codes "proof ") a
  node ← u32_at Space w.1
  scale ← u64_at Space node.1
  count ← u32_at LineIfZero scale.1
  parts ← each_at part_at count.0 count.1
  Ok (record { node = node.0; proof = record { scale = scale.0; parts = parts.0 } }, parts.1)

-- the count of the proofs, and their lines
unfoldable pub proofs_at : At → Result (List NodeProof × At) ℕ
proofs_at a = do
  w ← word_at (codes "proofs ") a
  n ← u32_at Line w.1
  each_at (λ _. proof_line_at) n.0 n.1

-- ---- the claim

-- the line of a bound
unfoldable pub bound_at : At → Result (ℤ × At) ℕ
bound_at a = do
  w ← word_at (codes "bound ") a
  i128_at Line w.1

-- the lines of a cost, a bound and their gap, which has the base of the cost
unfoldable pub gap_at : Written → At → Result (Claimed × At) ℕ
gap_at plan a = do
  w ← word_at (codes "cost ") a
  cost ← i128_at Space w.1
  base ← u64_at Line cost.1
  bound ← bound_at base.1
  v ← word_at (codes "gap ") bound.1
  gap ← i128_at Space v.1
  same ← same_at (2 ^ 64 - 1) (end_of Line) base.0 gap.1
  Ok (with_gap plan cost.0 base.0 bound.0 gap.0, same.1)

-- the lines of the numbers that are claimed
unfoldable pub claim_at : Opened → At → Result (Claimed × At) ℕ
claim_at (with_plan plan) a = gap_at plan a
claim_at bound_alone a = do
  b ← bound_at a
  Ok (with_bound b.0, b.1)
claim_at none a = Ok (no_plan, a)

-- ---- the whole

-- a certificate
unfoldable pub cert_at : At → Result (Cert × At) ℕ
cert_at a = do
  w ← word_at (codes "poolcert 1\n") a
  kind ← kind_at w.1
  shape ← shape_at kind.1
  opening ← opened_at kind.0 shape.0 shape.1
  splits ← splits_at opening.1
  proofs ← proofs_at splits.1
  claim ← claim_at opening.0 proofs.1
  e ← word_at (codes "end\n") claim.1
  Ok (record { shape = shape.0; claim = claim.0; splits = splits.0; proofs = proofs.0 }, e.1)
