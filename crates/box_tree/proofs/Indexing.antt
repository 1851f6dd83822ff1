-- The index of the leaves that may hold a plan, through a split and a proof of the root.
use Rattle.std.proofs.Common.{◌≡◌, ◌≢◌, ℕ, ◌<◌, ◌≤◌, inl, inr, ◌==◌, ◌||◌, if◌then◌else◌, List, [], ◌∷◌, ◌++◌, length, get_or, set, Bool, true, false, Option, Some, None, ℤ, arith, refl, sym, ap, ◌∙◌}
use Rattle.std.proofs.Common.{get_or-set_same, get_or-set_other}
use Rattle.std.specs.Prelude.{◌↔◌}
use Rattle.std.specs.List.{Contains}
use Rattle.std.specs.Option.{ForSome}
use Rattle.std.proofs.lemmas.List.{get_or_past, take_all}
use Rattle.std.proofs.lemmas.Option.{none-some, same_Some}
use Rattle.integers.proofs.AtKey.{same_or_other}
use Rattle.leaf_order.specs.Order.{ArePut, IsTakenOut, IsReplaced}
use Rattle.leaf_order.specs.declared.leaf.OpenLeaf.{OpenLeaf}
use Rattle.row_model.specs.Trees.{Split, left_node, right_node, nodes, is_cut}
use Rattle.row_model.proofs.TreeLaw.{cut_behind, same_node, other_leaf, uncut_later}
use Rattle.pool_model.specs.Network.{Net}
use Rattle.split_tree.specs.Splits.{Splits, IsOf as AreCut}
use Rattle.box_tree.specs.Open.{bound_at, open_leaf, AreIndexed}
use Rattle.box_tree.proofs.Ends.{at_left, at_right, at_before, at_past, where_node}

-- ---- a node with its bound

pub open-parts : (node : ℕ) (b : Option ℤ) (q : OpenLeaf) → open_leaf node b ≡ Some q → (node ≡ q.node) × (b ≡ Some q.bound)
open-parts node None q e = absurd (none-some q e)
open-parts node (Some z) q e =
    let same = same_Some (let leaf : OpenLeaf = record { bound = z; node = node } in leaf) q e in
    (ap (λ (l : OpenLeaf). l.node) same, ap (λ (l : OpenLeaf). Some l.bound) same)

pub open-of : (node : ℕ) (b : Option ℤ) (q : OpenLeaf) → node ≡ q.node → b ≡ Some q.bound → open_leaf node b ≡ Some q
open-of node b q e f = ap (λ (m : ℕ). open_leaf m b) e ∙ ap (λ (o : Option ℤ). open_leaf q.node o) f

other-open : (node : ℕ) (b : Option ℤ) (q : OpenLeaf) → node ≢ q.node → open_leaf node b ≢ Some q
other-open node b q d e = d (open-parts node b q e).0

-- ---- sets of pairs as a function of nodes

-- the set has the pairs of a function
abbrev pub IsOfBounds : (ℕ → Option ℤ) → List OpenLeaf → Type 0
IsOfBounds f leaves = (q : OpenLeaf) → Contains leaves q ↔ (f q.node ≡ Some q.bound)

-- A node goes, and two come: what is put in and taken out.
pub record IsStep (f g : ℕ → Option ℤ) (left right gone : ℕ) (lb rb gb : Option ℤ) : Type 0 where
  pub apart : left ≢ right
  pub left_other : left ≢ gone
  pub right_other : right ≢ gone
  pub left_new : f left ≡ None
  pub right_new : f right ≡ None
  pub was : (z : ℤ) → f gone ≡ Some z → gb ≡ Some z
  pub left_is : g left ≡ lb
  pub right_is : g right ≡ rb
  pub gone_is : g gone ≡ None
  pub others : (m : ℕ) → m ≢ left → m ≢ right → m ≢ gone → g m ≡ f m

-- where a node stands
data Place (left right gone m : ℕ) : Type 0 where
  first : m ≡ left → Place left right gone m
  second : m ≡ right → Place left right gone m
  third : m ≡ gone → Place left right gone m
  other : m ≢ left → m ≢ right → m ≢ gone → Place left right gone m

place-of : (left right gone m : ℕ) → Place left right gone m
place-of left right gone m = elim (same_or_other m left) [
  | inl e ↦ first e
  | inr d ↦ elim (same_or_other m right) [
    | inl e ↦ second e
    | inr c ↦ elim (same_or_other m gone) [ inl e ↦ third e | inr b ↦ other d c b ]
  ]
]

module _ (f g : ℕ → Option ℤ) (left right gone : ℕ) (lb rb gb : Option ℤ) (is : IsStep f g left right gone lb rb gb) (leaves added after : List OpenLeaf) (old : IsOfBounds f leaves)
    (put : ArePut (open_leaf left lb) (open_leaf right rb) leaves added) (taken : IsTakenOut (open_leaf gone gb) added after) where
  -- a leaf of the new set has the new bound of its node
  bound-to : (q : OpenLeaf) → Contains after q → g q.node ≡ Some q.bound
  bound-to q h =
      let k = (taken q).0 h in
      elim ((put q).0 k.0) [
        | inl e ↦ let p = open-parts left lb q e in ap g (sym p.0) ∙ is.left_is ∙ p.1
        | inr r ↦ elim r [
          | inl e ↦ let p = open-parts right rb q e in ap g (sym p.0) ∙ is.right_is ∙ p.1
          | inr m ↦ stays q k.1 ((old q).0 m) (place-of left right gone q.node)
        ]
      ]
    where
      stays : (q : OpenLeaf) → open_leaf gone gb ≢ Some q → f q.node ≡ Some q.bound → Place left right gone q.node → g q.node ≡ Some q.bound
      stays q d e (first i) = absurd (none-some q.bound (sym is.left_new ∙ ap f (sym i) ∙ e))
      stays q d e (second i) = absurd (none-some q.bound (sym is.right_new ∙ ap f (sym i) ∙ e))
      stays q d e (third i) = absurd (d (open-of gone gb q (sym i) (is.was q.bound (ap f (sym i) ∙ e))))
      stays q d e (other a b c) = is.others q.node a b c ∙ e

  -- and the other way round
  bound-from : (q : OpenLeaf) → g q.node ≡ Some q.bound → Place left right gone q.node → Contains after q
  bound-from q e (first i) = (taken q).1 ((put q).1 (inl (open-of left lb q (sym i) (sym is.left_is ∙ ap g (sym i) ∙ e))), other-open gone gb q (λ j. is.left_other (sym (j ∙ i))))
  bound-from q e (second i) = (taken q).1 ((put q).1 (inr (inl (open-of right rb q (sym i) (sym is.right_is ∙ ap g (sym i) ∙ e)))), other-open gone gb q (λ j. is.right_other (sym (j ∙ i))))
  bound-from q e (third i) = absurd (none-some q.bound (sym is.gone_is ∙ ap g (sym i) ∙ e))
  bound-from q e (other a b c) = (taken q).1 ((put q).1 (inr (inr ((old q).1 (sym (is.others q.node a b c) ∙ e)))), other-open gone gb q (λ j. c (sym j)))

  pub step-taken : IsOfBounds g after
  step-taken q = (bound-to q, λ e. bound-from q e (place-of left right gone q.node))

-- a node's bound changes
module _ (f g : ℕ → Option ℤ) (node : ℕ) (new old : Option ℤ) (was : f node ≡ old) (is : g node ≡ new) (others : (m : ℕ) → m ≢ node → g m ≡ f m)
    (leaves after : List OpenLeaf) (before : IsOfBounds f leaves) (replaced : IsReplaced (open_leaf node old) (open_leaf node new) leaves after) where
  pub change-taken : IsOfBounds g after
  change-taken q = (
    λ h. elim ((replaced q).0 h) [
      | inl e ↦ let p = open-parts node new q e in ap g (sym p.0) ∙ is ∙ p.1
      | inr k ↦ elim (same_or_other q.node node) [
        | inl i ↦ absurd (k.1 (open-of node old q (sym i) (sym was ∙ ap f (sym i) ∙ (before q).0 k.0)))
        | inr d ↦ others q.node d ∙ (before q).0 k.0
      ]
    ],
    λ e. elim (same_or_other q.node node) [
      | inl i ↦ (replaced q).1 (inl (open-of node new q (sym i) (sym is ∙ ap g (sym i) ∙ e)))
      | inr d ↦ (replaced q).1 (inr ((before q).1 (sym (others q.node d) ∙ e), other-open node old q (λ j. d (sym j))))
    ],
  )

-- ---- bounds as they are kept

pub bound-past : (splits : List Split) (bounds : List (Option ℤ)) (node : ℕ) → length bounds ≤ node → bound_at splits bounds node ≡ None
bound-past splits bounds node h = elim (is_cut splits node) as (λ b. (if b then None else get_or bounds node None) ≡ None) [ true ↦ refl | false ↦ get_or_past bounds node None h ]

uncut-bound : (splits : List Split) (bounds : List (Option ℤ)) (node : ℕ) → is_cut splits node ≡ false → bound_at splits bounds node ≡ get_or bounds node None
uncut-bound splits bounds node e = ap (λ (b : Bool). if b then None else get_or bounds node None) e

cut-bound : (splits : List Split) (bounds : List (Option ℤ)) (node : ℕ) → is_cut splits node ≡ true → bound_at splits bounds node ≡ None
cut-bound splits bounds node e = ap (λ (b : Bool). if b then None else get_or bounds node None) e

kept-bound_at : (splits : List Split) (bounds : List (Option ℤ)) (node : ℕ) (z : ℤ) → bound_at splits bounds node ≡ Some z → get_or bounds node None ≡ Some z
kept-bound_at splits bounds node z = go (is_cut splits node)
  where
    go : (b : Bool) → (if b then None else get_or bounds node None) ≡ Some z → get_or bounds node None ≡ Some z
    go true e = absurd (none-some z e)
    go false e = e

still-uncut : (splits : List Split) (s : Split) (node : ℕ) → is_cut splits node ≡ false → s.leaf ≢ node → is_cut (splits ++ s ∷ []) node ≡ false
still-uncut splits s node e d = cut_behind splits s node ∙ cc (e, other_leaf s.leaf node d)

now-cut : (splits : List Split) (s : Split) → is_cut (splits ++ s ∷ []) s.leaf ≡ true
now-cut splits s = cut_behind splits s s.leaf ∙ go (is_cut splits s.leaf)
  where
    go : (b : Bool) → (b || (s.leaf == s.leaf)) ≡ true
    go true = refl
    go false = same_node s.leaf

same-cut : (splits : List Split) (s : Split) (node : ℕ) → s.leaf ≢ node → is_cut (splits ++ s ∷ []) node ≡ is_cut splits node
same-cut splits s node d = cut_behind splits s node ∙ go (is_cut splits node) (s.leaf == node) (other_leaf s.leaf node d)
  where
    go : (a b : Bool) → b ≡ false → (a || b) ≡ a
    go a b e = ap (λ (c : Bool). a || c) e ∙ cases a
      where
        cases : (a : Bool) → (a || false) ≡ a
        cases true = refl
        cases false = refl

-- no split cuts a node that is not there
pub cut-past : (n : Net) (t : Splits) → AreCut n t → (node : ℕ) → nodes t.list ≤ node → is_cut t.list node ≡ false
cut-past n t is node h =
    ap (λ (xs : List Split). is_cut xs node) (sym (take_all (length t.list) t.list (omega arith)))
    ∙ uncut_later n t.list (length t.list) node (omega arith) (omega (arith, h)) (λ i lt. is.in_order i lt)

-- a split of a leaf, with the bounds of its halves
pub grown-step : (splits : List Split) (bounds : List (Option ℤ)) (s : Split) (lb rb : Option ℤ) → length bounds ≡ nodes splits → s.leaf < nodes splits
    → ((node : ℕ) → nodes splits ≤ node → is_cut splits node ≡ false)
    → IsStep (bound_at splits bounds) (bound_at (splits ++ s ∷ []) (bounds ++ lb ∷ rb ∷ [])) (left_node (length splits)) (right_node (length splits)) s.leaf lb rb (get_or bounds s.leaf None)
grown-step splits bounds s lb rb long there past =
    let t = length splits in
    let more = splits ++ s ∷ [] in
    let new = bounds ++ lb ∷ rb ∷ [] in
    record {
      apart = λ e. absurd (omega (arith, e));
      left_other = λ e. absurd (omega (arith, e, there));
      right_other = λ e. absurd (omega (arith, e, there));
      left_new = bound-past splits bounds (left_node t) (omega (arith, long));
      right_new = bound-past splits bounds (right_node t) (omega (arith, long));
      was = λ z e. kept-bound_at splits bounds s.leaf z e;
      left_is = uncut-bound more new (left_node t) (still-uncut splits s (left_node t) (past (left_node t) (omega arith)) (λ e. absurd (omega (arith, e, there))))
          ∙ at_left bounds lb rb None t long (left_node t) refl;
      right_is = uncut-bound more new (right_node t) (still-uncut splits s (right_node t) (past (right_node t) (omega arith)) (λ e. absurd (omega (arith, e, there))))
          ∙ at_right bounds lb rb None t long (right_node t) refl;
      gone_is = cut-bound more new s.leaf (now-cut splits s);
      others = λ m a b c. ap (λ (cut : Bool). if cut then None else get_or new m None) (same-cut splits s m (λ e. c (sym e)))
          ∙ ap (λ (o : Option ℤ). if is_cut splits m then None else o) (elim (where_node t m) [
            | inl e ↦ absurd (a e)
            | inr r ↦ elim r [
              | inl e ↦ absurd (b e)
              | inr o ↦ elim o [ inl h ↦ at_before bounds lb rb None t long m h | inr h ↦ at_past bounds lb rb None t long m h ]
            ]
          ]);
    }

-- a new node is none of the set
pub fresh-leaf : (splits : List Split) (bounds : List (Option ℤ)) (leaves : List OpenLeaf) (node : ℕ) (b : Option ℤ) → AreIndexed splits bounds leaves → length bounds ≤ node
    → ForSome (open_leaf node b) (λ leaf. ¬ Contains leaves leaf)
fresh-leaf splits bounds leaves node b are h leaf e has =
    none-some leaf.bound (sym (bound-past splits bounds leaf.node (omega (arith, h, (open-parts node b leaf e).0))) ∙ (are.members leaf).0 has)

-- the root alone
pub first-indexed : (bound : Option ℤ) (leaves : List OpenLeaf) → ArePut (open_leaf 0 bound) None [] leaves → AreIndexed [] (bound ∷ []) leaves
first-indexed bound leaves put = record {
  members = λ q. (
    λ h. elim ((put q).0 h) [
      | inl e ↦ let p = open-parts 0 bound q e in ap (λ (m : ℕ). bound_at [] (bound ∷ []) m) (sym p.0) ∙ p.1
      | inr r ↦ elim r [ inl e ↦ absurd (none-some q e) | inr m ↦ absurd (omega (arith, m.1)) ]
    ],
    λ e. elim (same_or_other q.node 0) [
      | inl i ↦ (put q).1 (inl (open-of 0 bound q (sym i) (ap (λ (m : ℕ). bound_at [] (bound ∷ []) m) (sym i) ∙ e)))
      | inr d ↦ absurd (none-some q.bound (sym (bound-past [] (bound ∷ []) q.node (omega (arith, d))) ∙ e))
    ],
  );
}

-- the same leaves in another list
pub same-indexed : (splits : List Split) (bounds : List (Option ℤ)) (leaves others : List OpenLeaf) → AreIndexed splits bounds leaves
    → ((leaf : OpenLeaf) → Contains others leaf ↔ Contains leaves leaf)
    → AreIndexed splits bounds others
same-indexed splits bounds leaves others are same = record { members = λ q. (λ h. (are.members q).0 ((same q).0 h), λ e. (same q).1 ((are.members q).1 e)) }

-- a bound of the root, which is not cut
pub root-indexed : (splits : List Split) (bounds : List (Option ℤ)) (bound : Option ℤ) (leaves after : List OpenLeaf) → is_cut splits 0 ≡ false → 0 < length bounds → AreIndexed splits bounds leaves
    → IsReplaced (open_leaf 0 (get_or bounds 0 None)) (open_leaf 0 bound) leaves after → AreIndexed splits (set bounds 0 bound) after
root-indexed splits bounds bound leaves after uncut some are replaced = record {
  members = change-taken (bound_at splits bounds) (bound_at splits (set bounds 0 bound)) 0 bound (get_or bounds 0 None) (uncut-bound splits bounds 0 uncut)
      (uncut-bound splits (set bounds 0 bound) 0 uncut ∙ get_or-set_same bounds 0 bound None some)
      (λ m d. ap (λ (o : Option ℤ). if is_cut splits m then None else o) (get_or-set_other bounds 0 m bound None d))
      leaves after are.members replaced;
}

-- a split of a leaf
pub grown-indexed : (splits : List Split) (bounds : List (Option ℤ)) (s : Split) (lb rb : Option ℤ) (leaves added after : List OpenLeaf) → length bounds ≡ nodes splits → s.leaf < nodes splits
    → ((node : ℕ) → nodes splits ≤ node → is_cut splits node ≡ false) → AreIndexed splits bounds leaves
    → ArePut (open_leaf (left_node (length splits)) lb) (open_leaf (right_node (length splits)) rb) leaves added → IsTakenOut (open_leaf s.leaf (get_or bounds s.leaf None)) added after
    → AreIndexed (splits ++ s ∷ []) (bounds ++ lb ∷ rb ∷ []) after
grown-indexed splits bounds s lb rb leaves added after long there past are put taken = record {
  members = step-taken (bound_at splits bounds) (bound_at (splits ++ s ∷ []) (bounds ++ lb ∷ rb ∷ [])) (left_node (length splits)) (right_node (length splits)) s.leaf lb rb (get_or bounds s.leaf None)
      (grown-step splits bounds s lb rb long there past) leaves added after are.members put taken;
}
