-- Proof lines: the proof of a node, and the lines that are read.
use Rattle.std.proofs.Common.{◌≡◌, ◌≢◌, ℕ, zero, suc, ◌+◌, ◌-◌, ◌<◌, ◌≤◌, inl, inr, List, [], ◌∷◌, length, get_or, All, None, Some, arith, refl, sym, subst, ◌∙◌}
use Rattle.std.proofs.lemmas.List.Elements.{All-from_get_or, All-get_or}
use Rattle.std.proofs.lemmas.Option.{none-some}
use Rattle.std.proofs.lemmas.Bool.{cases_lt}
use Rattle.integers.proofs.AtKey.{same_or_other, chosen, passed}
use Rattle.row_model.specs.Multipliers.{Proof}
use Rattle.row_model.specs.Trees.{Split, nodes}
use Rattle.cert_format.specs.Cert.{NodeProof}
use Rattle.cert_format.specs.Valid.{proof_of, no_proof, IsRising}
use Rattle.proof_lines.specs.Refusals.{node_at, IsPlaced}
use Rattle.proof_lines.specs.Trees.{ArePlaced}
use Rattle.proof_lines.specs.Judging.{IsNext}

rising_tail : (p : NodeProof) (lines : List NodeProof) → IsRising (p ∷ lines) → IsRising lines
rising_tail p lines rising i j h k = rising (suc i) (suc j) (omega arith) (omega arith)

-- the proof of the node that a line names
pub proof-here : (lines : List NodeProof) (k : ℕ) → IsRising lines → k < length lines → proof_of lines (node_at lines k) ≡ Some (get_or lines k no_proof).proof
proof-here [] k rising h = absurd (omega arith)
proof-here (p ∷ lines) zero rising h = chosen p.node p.node (Some p.proof) (proof_of lines p.node) refl
proof-here (p ∷ lines) (suc k) rising h =
    passed p.node (node_at lines k) (Some p.proof) (proof_of lines (node_at lines k)) (let lt : p.node < node_at lines k = rising 0 (suc k) (omega arith) h in omega arith)
    ∙ proof-here lines k (rising_tail p lines rising) (omega arith)

-- a node that no line names has none
pub proof-none : (lines : List NodeProof) (node : ℕ) → ((k : ℕ) → k < length lines → node_at lines k ≢ node) → proof_of lines node ≡ None
proof-none [] node h = refl
proof-none (p ∷ lines) node h =
    passed p.node node (Some p.proof) (proof_of lines node) (h 0 (omega arith)) ∙ proof-none lines node (λ k lt. h (suc k) (omega arith))

-- a node with a proof is named by a line
pub proof-known : (lines : List NodeProof) (count node : ℕ) (proof : Proof) → All (λ p. p.node < count) lines → proof_of lines node ≡ Some proof → node < count
proof-known [] count node proof all e = absurd (none-some proof e)
proof-known (p ∷ lines) count node proof all e = elim (same_or_other p.node node) [
  | inl at ↦ subst (λ m. m < count) at (All-get_or (λ q. q.node < count) (p ∷ lines) 0 no_proof (omega arith) all)
  | inr d ↦ proof-known lines count node proof
      (All-from_get_or (λ q. q.node < count) lines no_proof (λ k h. All-get_or (λ q. q.node < count) (p ∷ lines) (suc k) no_proof (omega arith) all))
      (sym (passed p.node node (Some p.proof) (proof_of lines node) d) ∙ e)
]

-- ---- places

rising_from : (count : ℕ) (lines : List NodeProof) → ((k : ℕ) → k < length lines → IsPlaced count lines k) → (i more : ℕ) → i + suc more < length lines → node_at lines i < node_at lines (i + suc more)
rising_from count lines placed i zero h = (placed (i + 1) h).above i refl
rising_from count lines placed i (suc more) h =
    let before = rising_from count lines placed i more (omega arith) in
    let last : node_at lines (i + suc more) < node_at lines (i + suc (suc more)) = (placed (i + suc (suc more)) h).above (i + suc more) (omega arith) in
    omega arith

pub placed-all : (splits : List Split) (lines : List NodeProof) → ((k : ℕ) → k < length lines → IsPlaced (nodes splits) lines k) → ArePlaced splits lines
placed-all splits lines placed = record {
  known = All-from_get_or (λ p. p.node < nodes splits) lines no_proof (λ k h. (placed k h).known);
  rising = λ i j h k. subst (λ m. node_at lines i < node_at lines m) (later i j h) (rising_from (nodes splits) lines placed i (j - suc i) (subst (λ m. m < length lines) (sym (later i j h)) k));
}
  where
    later : (i j : ℕ) → i < j → i + suc (j - suc i) ≡ j
    later i j h = omega arith

pub all-placed : (splits : List Split) (lines : List NodeProof) (k : ℕ) → ArePlaced splits lines → k < length lines → IsPlaced (nodes splits) lines k
all-placed splits lines k placed h = record {
  known = All-get_or (λ p. p.node < nodes splits) lines k no_proof h placed.known;
  above = λ j e. placed.rising j k (omega arith) h;
}

-- ---- lines that are read

pub next-start : (lines : List NodeProof) → IsNext lines 0 0
next-start lines = record { within = omega arith; before = λ k h. absurd (omega arith); behind = λ k h j. omega arith }

-- the next line names the node, so it is read
pub next-named : (lines : List NodeProof) (node next : ℕ) → IsRising lines → IsNext lines node next → next < length lines → node_at lines next ≡ node → IsNext lines (node + 1) (next + 1)
next-named lines node next rising is h e = record {
  within = omega arith;
  before = λ k lt. elim (same_or_other k next) [
    | inl at ↦ subst (λ m. node_at lines m < node + 1) (sym at) (omega arith)
    | inr d ↦ let earlier : node_at lines k < node = is.before k (omega arith) in omega arith
  ];
  behind = λ k le lt. let later : node_at lines next < node_at lines k = rising next k (omega arith) lt in omega arith;
}

-- no line names the node
unnamed_at : (lines : List NodeProof) (node next : ℕ) → IsRising lines → IsNext lines node next → (next < length lines → node_at lines next ≢ node)
    → (k : ℕ) → next ≤ k → k < length lines → node < node_at lines k
unnamed_at lines node next rising is other k le lt =
    let first : node ≤ node_at lines next = is.behind next (omega arith) (omega arith) in
    let unequal : node_at lines next ≢ node = other (omega arith) in
    elim (same_or_other k next) [
      | inl at ↦ subst (λ m. node < node_at lines m) (sym at) (omega arith)
      | inr d ↦ let later : node_at lines next < node_at lines k = rising next k (omega arith) lt in omega arith
    ]

pub next-unnamed : (lines : List NodeProof) (node next : ℕ) → IsRising lines → IsNext lines node next → (next < length lines → node_at lines next ≢ node) → IsNext lines (node + 1) next
next-unnamed lines node next rising is other = record {
  within = is.within;
  before = λ k lt. let earlier : node_at lines k < node = is.before k lt in omega arith;
  behind = λ k le lt. let later = unnamed_at lines node next rising is other k le lt in omega arith;
}

pub unnamed-none : (lines : List NodeProof) (node next : ℕ) → IsRising lines → IsNext lines node next → (next < length lines → node_at lines next ≢ node) → proof_of lines node ≡ None
unnamed-none lines node next rising is other = proof-none lines node (λ k lt e. elim (cases_lt k next) [
  | inl h ↦ let earlier : node_at lines k < node = is.before k h in absurd (omega arith)
  | inr h ↦ let later = unnamed_at lines node next rising is other k h lt in absurd (omega arith)
])

pub named-some : (lines : List NodeProof) (node next : ℕ) → IsRising lines → next < length lines → node_at lines next ≡ node → proof_of lines node ≡ Some (get_or lines next no_proof).proof
named-some lines node next rising h e = subst (λ m. proof_of lines m ≡ Some (get_or lines next no_proof).proof) e (proof-here lines next rising h)
