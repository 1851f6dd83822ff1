-- Two nodes more at the end of a list.
use Rattle.std.proofs.Common.{◌≡◌, ℕ, suc, ◌-◌, ◌<◌, ◌⊎◌, List, [], ◌∷◌, ◌++◌, length, get_or, arith, refl, sym, ap, ◌∙◌, length-append}
use Rattle.std.proofs.lemmas.List.{get_or_append_left, get_or-append_right, get_or_past}
use Rattle.row_model.specs.Trees.{left_node, right_node}

module _ {X : Type 0} (xs : List X) (a b d : X) (t : ℕ) (long : length xs ≡ left_node t) where
  pub at_left : (node : ℕ) → node ≡ left_node t → get_or (xs ++ a ∷ b ∷ []) node d ≡ a
  at_left node e =
      let first : node - left_node t ≡ 0 = omega arith in
      get_or-append_right xs (a ∷ b ∷ []) (left_node t) node d long (omega arith) ∙ ap (λ (i : ℕ). get_or (a ∷ b ∷ []) i d) first

  pub at_right : (node : ℕ) → node ≡ right_node t → get_or (xs ++ a ∷ b ∷ []) node d ≡ b
  at_right node e =
      let second : node - left_node t ≡ suc 0 = omega arith in
      get_or-append_right xs (a ∷ b ∷ []) (left_node t) node d long (omega arith) ∙ ap (λ (i : ℕ). get_or (a ∷ b ∷ []) i d) second

  pub at_before : (node : ℕ) → node < left_node t → get_or (xs ++ a ∷ b ∷ []) node d ≡ get_or xs node d
  at_before node h = get_or_append_left xs (a ∷ b ∷ []) d node (omega (arith, long))

  pub at_past : (node : ℕ) → right_node t < node → get_or (xs ++ a ∷ b ∷ []) node d ≡ get_or xs node d
  at_past node h =
      let two : length (a ∷ b ∷ []) ≡ 2 = refl in
      get_or_past (xs ++ a ∷ b ∷ []) node d (omega (arith, length-append xs (a ∷ b ∷ []), long, two)) ∙ sym (get_or_past xs node d (omega (arith, long)))

-- where a node stands among the old nodes and the two new ones
pub where_node : (t node : ℕ) → (node ≡ left_node t) ⊎ ((node ≡ right_node t) ⊎ ((node < left_node t) ⊎ (right_node t < node)))
where_node t node = grind arith
