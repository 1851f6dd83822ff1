-- The lines of the nodes that have a proof: they rise, and each node has its own.
use Rattle.std.proofs.Common.{◌≡◌, ◌≢◌, ℕ, zero, suc, ◌+◌, ◌<◌, ◌≤◌, ◌⊎◌, inl, inr, List, [], ◌∷◌, ◌++◌, All, length, get_or, Option, Some, None, arith, refl, sym, subst, ◌∙◌}
use Rattle.std.proofs.lemmas.List.{append-nil, length-append, get_or_append_left}
use Rattle.std.proofs.Math.Seq.{get_or-append_seam}
use Rattle.std.proofs.lemmas.List.Elements.{All-nil, All-cons, All-append}
use Rattle.std.proofs.lemmas.Option.{none-some}
use Rattle.std.proofs.Math.Path.{fun_ext}
use Rattle.integers.proofs.AtKey.{same_or_other, chosen, passed}
use Rattle.row_model.specs.Multipliers.{Proof}
use Rattle.cert_format.specs.Cert.{NodeProof}
use Rattle.cert_format.specs.Valid.{proof_of, no_proof, IsRising}
use Rattle.tree_certificate.specs.Certificates.{line_of, node_proofs}

-- ---- whose proof it is

-- of two lists the first that names the node
named_first : (xs ys : List NodeProof) (node : ℕ) (p : Proof) → proof_of xs node ≡ Some p → proof_of (xs ++ ys) node ≡ Some p
named_first [] ys node p e = absurd (none-some p e)
named_first (x ∷ xs) ys node p e = elim (same_or_other x.node node) [
  | inl same ↦ chosen x.node node (Some x.proof) (proof_of (xs ++ ys) node) same ∙ sym (chosen x.node node (Some x.proof) (proof_of xs node) same) ∙ e
  | inr other ↦ passed x.node node (Some x.proof) (proof_of (xs ++ ys) node) other
      ∙ named_first xs ys node p (sym (passed x.node node (Some x.proof) (proof_of xs node) other) ∙ e)
]

named_later : (xs ys : List NodeProof) (node : ℕ) → proof_of xs node ≡ None → proof_of (xs ++ ys) node ≡ proof_of ys node
named_later [] ys node e = refl
named_later (x ∷ xs) ys node e = elim (same_or_other x.node node) [
  | inl same ↦ absurd (none-some x.proof (sym e ∙ chosen x.node node (Some x.proof) (proof_of xs node) same))
  | inr other ↦ passed x.node node (Some x.proof) (proof_of (xs ++ ys) node) other
      ∙ named_later xs ys node (sym (passed x.node node (Some x.proof) (proof_of xs node) other) ∙ e)
]

-- a node's own line
own_line : (node : ℕ) (o : Option Proof) → proof_of (line_of node o) node ≡ o
own_line node None = refl
own_line node (Some p) = chosen node node (Some p) None refl

other_line : (node other : ℕ) (o : Option Proof) → node ≢ other → proof_of (line_of node o) other ≡ None
other_line node other None d = refl
other_line node other (Some p) d = passed node other (Some p) None d

-- behind a list that may name the node
behind : (xs ys : List NodeProof) (node : ℕ) (o : Option Proof) → proof_of xs node ≡ o → proof_of ys node ≡ None → proof_of (xs ++ ys) node ≡ o
behind xs ys node None e h = named_later xs ys node e ∙ h
behind xs ys node (Some p) e h = named_first xs ys node p e

-- nodes at or past the count have no line
pub past_none : (f : ℕ → Option Proof) (count node : ℕ) → count ≤ node → proof_of (node_proofs f count) node ≡ None
past_none f zero node h = refl
past_none f (suc k) node h = named_later (node_proofs f k) (line_of k (f k)) node (past_none f k node (omega arith)) ∙ other_line k node (f k) (λ e. absurd (omega (arith, h, e)))

-- each node below it has its own
pub below_own : (f : ℕ → Option Proof) (count node : ℕ) → node < count → proof_of (node_proofs f count) node ≡ f node
below_own f zero node h = absurd (omega arith)
below_own f (suc k) node h = elim (same_or_other k node) [
  | inl same ↦ subst (λ (m : ℕ). proof_of (node_proofs f (suc k)) m ≡ f m) same
      (named_later (node_proofs f k) (line_of k (f k)) k (past_none f k k (omega arith)) ∙ own_line k (f k))
  | inr other ↦ behind (node_proofs f k) (line_of k (f k)) node (f node) (below_own f k node (below k node h other)) (other_line k node (f k) other)
]
  where
    below : (k node : ℕ) → node < suc k → k ≢ node → node < k
    below k node h d = grind arith

-- so the lines give the proofs back, where none stands past the count
pub proofs_back : (f : ℕ → Option Proof) (count : ℕ) → ((node : ℕ) → count ≤ node → f node ≡ None) → proof_of (node_proofs f count) ≡ f
proofs_back f count none = fun_ext (λ node. elim (below_or_past node count) [
  | inl lt ↦ below_own f count node lt
  | inr ge ↦ past_none f count node ge ∙ sym (none node ge)
])
  where
    below_or_past : (node count : ℕ) → (node < count) ⊎ (count ≤ node)
    below_or_past node count = grind arith

-- ---- how the lines stand

pub all_lines : (P : NodeProof → Type 0) (f : ℕ → Option Proof) (count : ℕ) →
    ((node : ℕ) (p : Proof) → node < count → f node ≡ Some p → P record { node = node; proof = p }) → All P (node_proofs f count)
all_lines P f zero h = All-nil P
all_lines P f (suc k) h = All-append P (node_proofs f k) (line_of k (f k)) (all_lines P f k (λ node p lt e. h node p (omega arith) e)) (line k (f k) (λ p e. h k p (omega arith) e))
  where
    line : (node : ℕ) (o : Option Proof) → ((p : Proof) → o ≡ Some p → P record { node = node; proof = p }) → All P (line_of node o)
    line node None h = All-nil P
    line node (Some p) h = All-cons P record { node = node; proof = p } [] (h p refl) (All-nil P)

-- there is at most a line a node
pub few_lines : (f : ℕ → Option Proof) (count : ℕ) → length (node_proofs f count) ≤ count
few_lines f zero = omega arith
few_lines f (suc k) = omega (arith, length-append (node_proofs f k) (line_of k (f k)), few_lines f k, one k (f k))
  where
    one : (node : ℕ) (o : Option Proof) → length (line_of node o) ≤ 1
    one node None = omega arith
    one node (Some p) = omega arith

-- a list that rises, with one line more behind all of it
rises_more : (xs : List NodeProof) (x : NodeProof) → IsRising xs → ((i : ℕ) → i < length xs → (get_or xs i no_proof).node < x.node) → IsRising (xs ++ x ∷ [])
rises_more xs x rising above i j lt h = elim (same_or_other j (length xs)) [
  | inl last ↦ subst (λ (p : NodeProof). p.node < (get_or (xs ++ x ∷ []) j no_proof).node) (sym (get_or_append_left xs (x ∷ []) no_proof i (omega (arith, lt, last))))
      (subst (λ (p : NodeProof). (get_or xs i no_proof).node < p.node) (sym (last_is j last)) (above i (omega (arith, lt, last))))
  | inr other ↦ let inside : j < length xs = inner j (length xs) (omega (arith, h, length-append xs (x ∷ []))) other in
      subst (λ (p : NodeProof). p.node < (get_or (xs ++ x ∷ []) j no_proof).node) (sym (get_or_append_left xs (x ∷ []) no_proof i (omega (arith, lt, inside))))
      (subst (λ (p : NodeProof). (get_or xs i no_proof).node < p.node) (sym (get_or_append_left xs (x ∷ []) no_proof j inside)) (rising i j lt inside))
]
  where
    last_is : (j : ℕ) → j ≡ length xs → get_or (xs ++ x ∷ []) j no_proof ≡ x
    last_is j e = subst (λ (m : ℕ). get_or (xs ++ x ∷ []) m no_proof ≡ x) (sym e) (get_or-append_seam xs x [] no_proof)

    inner : (j n : ℕ) → j < n + 1 → j ≢ n → j < n
    inner j n h d = grind arith

pub lines_rise : (f : ℕ → Option Proof) (count : ℕ) → IsRising (node_proofs f count)
lines_rise f zero = λ i j lt h. absurd (omega (arith, h))
lines_rise f (suc k) = more (node_proofs f k) (f k) (lines_rise f k) (λ i h. below_count f k i h)
  where
    below_count : (f : ℕ → Option Proof) (k i : ℕ) → i < length (node_proofs f k) → (get_or (node_proofs f k) i no_proof).node < k
    below_count f k i h = all_lines (λ p. p.node < k) f k (λ node p lt e. lt) i no_proof h

    more : (xs : List NodeProof) (o : Option Proof) → IsRising xs → ((i : ℕ) → i < length xs → (get_or xs i no_proof).node < k) → IsRising (xs ++ line_of k o)
    more xs None rising above = subst IsRising (sym (append-nil xs)) rising
    more xs (Some p) rising above = rises_more xs record { node = k; proof = p } rising above
