-- Which proof a node has after an entry.
use Rattle.std.proofs.Common.{◌≡◌, ℕ, ◌⊎◌, inl, inr, ◌==◌, if◌then◌else◌, Option, Some, arith, sym, ap, ◌∙◌}
use Rattle.std.specs.Prelude.{unwrap_or}
use Rattle.integers.proofs.AtKey.{same_or_other, chosen, passed}
use Rattle.row_model.specs.Multipliers.{Proof}
use Rattle.row_model.specs.Trees.{left_node, right_node}

-- after a proof of the root
pub proof-rooted : (proof : Proof) (old : ℕ → Option Proof) (node : ℕ) (q : Proof) → (if node == 0 then Some proof else old node) ≡ Some q → ((node ≡ 0) × (proof ≡ q)) ⊎ (old node ≡ Some q)
proof-rooted proof old node q e = elim (same_or_other node 0) [
  | inl a ↦ inl (a, ap (λ o. unwrap_or o q) (sym (chosen node 0 (Some proof) (old node) a) ∙ e))
  | inr d ↦ inr (sym (passed node 0 (Some proof) (old node) d) ∙ e)
]

-- after a split
pub proof-split : (left right : Option Proof) (old : ℕ → Option Proof) (t node : ℕ) (q : Proof) → (if node == left_node t then left else (if node == right_node t then right else old node)) ≡ Some q
    → ((node ≡ left_node t) × (left ≡ Some q)) ⊎ (((node ≡ right_node t) × (right ≡ Some q)) ⊎ (old node ≡ Some q))
proof-split left right old t node q e = elim (same_or_other node (left_node t)) [
  | inl a ↦ inl (a, sym (chosen node (left_node t) left (if node == right_node t then right else old node) a) ∙ e)
  | inr d ↦ let f = sym (passed node (left_node t) left (if node == right_node t then right else old node) d) ∙ e in
      elim (same_or_other node (right_node t)) [
        | inl a ↦ inr (inl (a, sym (chosen node (right_node t) right (old node) a) ∙ f))
        | inr c ↦ inr (inr (sym (passed node (right_node t) right (old node) c) ∙ f))
      ]
]

-- a split gives the root no proof
pub root-proof : (left right : Option Proof) (old : ℕ → Option Proof) (t : ℕ) → (if 0 == left_node t then left else (if 0 == right_node t then right else old 0)) ≡ old 0
root-proof left right old t =
    passed 0 (left_node t) left (if 0 == right_node t then right else old 0) (omega arith) ∙ passed 0 (right_node t) right (old 0) (omega arith)
