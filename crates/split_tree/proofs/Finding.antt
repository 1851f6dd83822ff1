-- The innermost nodes that a tree keeps: with one split more, and the ends of a box that they give.
use Rattle.std.proofs.Common.{◌≡◌, ◌≢◌, ℕ, ◌+◌, ◌-◌, ◌*◌, ◌/◌, ◌%◌, ◌<◌, ◌≤◌, inl, inr, ◌==◌, if◌then◌else◌, List, [], ◌∷◌, ◌++◌, length, get_or, set, ℤ, pos, arith, refl, sym, ap, subst, ◌∙◌, length-append, get_or-set_same, get_or-set_other}
use Rattle.std.proofs.lemmas.List.{get_or_append_left, length-set}
use Rattle.std.proofs.Math.Seq.{get_or-append_seam}
use Rattle.integers.proofs.AtKey.{same_or_other, chosen, passed}
use Rattle.map_versions.specs.Versions.{Versions, IsChanged, count, number_at, most_keys}
use Rattle.pool_model.specs.Network.{Net, IsLimited}
use Rattle.row_model.specs.Boxes.{coords, root}
use Rattle.row_model.specs.Trees.{Split, no_split, split_at, nodes, box_of}
use Rattle.row_model.proofs.TreeBound.{node-proper}
use Rattle.box_space.specs.Views.{AreEndsOf, AreRoot}
use Rattle.box_space.proofs.Halving.{agree-ends}
use Rattle.box_space.specs.declared.boxes.BoxEnds.{BoxEnds}
use Rattle.split_tree.specs.declared.span.Span.{Span}
use Rattle.split_tree.specs.Cuts.{IsHalf, IsInnermost, root as at_root, here, above, HaveKeys, AreMapped}
use Rattle.split_tree.specs.Splits.{Splits, tree_of, IsOf}
use Rattle.split_tree.specs.Spans.{IsSpanOf}
use Rattle.split_tree.proofs.Innermost.{tree-of}
use Rattle.split_tree.proofs.Spans.{IsSameTo, beside_left, beside_right, span-root}

-- every node but the root is a half
half_of : (node : ℕ) → 0 < node → IsHalf ((node - 1) / 2) node
half_of node h = elim (same_or_other (node % 2) 1) [
  | inl odd ↦ inl (omega (arith, odd, h))
  | inr even ↦ inr (omega (arith, even, h))
]

-- ---- one split more

at_before : (splits : List Split) (s : Split) (t : ℕ) → t < length splits → split_at (splits ++ s ∷ []) t ≡ split_at splits t
at_before splits s t lt = get_or_append_left splits (s ∷ []) no_split t lt

at_end : (splits : List Split) (s : Split) (t : ℕ) → t ≡ length splits → split_at (splits ++ s ∷ []) t ≡ s
at_end splits s t e = ap (split_at (splits ++ s ∷ [])) e ∙ get_or-append_seam splits s [] no_split

longer : (splits : List Split) (s : Split) (t : ℕ) → t < length splits → t < length (splits ++ s ∷ [])
longer splits s t lt = omega (arith, lt, length-append splits (s ∷ []))

innermost-more : (splits : List Split) (s : Split) (coord found : ℕ) {node : ℕ} → IsInnermost splits coord found node → IsInnermost (splits ++ s ∷ []) coord found node
innermost-more splits s coord found (at_root e f) = at_root e f
innermost-more splits s coord found (here t lt half on same) = here t (longer splits s t lt) half (ap (λ (x : Split). x.coord) (at_before splits s t lt) ∙ on) same
innermost-more splits s coord found (above t lt half other up) =
    above t (longer splits s t lt) half (λ f. other (ap (λ (x : Split). x.coord) (sym (at_before splits s t lt)) ∙ f))
    (subst (λ (x : Split). IsInnermost (splits ++ s ∷ []) coord found x.leaf) (sym (at_before splits s t lt)) (innermost-more splits s coord found up))

keys-before : (splits : List Split) (s : Split) → HaveKeys (splits ++ s ∷ []) → HaveKeys splits
keys-before splits s keys t lt = subst (λ (x : Split). x.coord < most_keys) (at_before splits s t lt) (keys t (longer splits s t lt))

-- a map more, of the leaf of the split that is added
mapped-more : (splits : List Split) (s : Split) (old new : Versions) → AreMapped splits old → count new ≡ count old + 1
    → ((v k : ℕ) → v < count old → number_at new v k ≡ number_at old v k)
    → (HaveKeys splits → (coord : ℕ) → coord < most_keys → IsInnermost splits coord (number_at new (length splits + 1) coord) s.leaf)
    → AreMapped (splits ++ s ∷ []) new
mapped-more splits s old new are more kept last = record {
  counted = omega (arith, more, are.counted, length-append splits (s ∷ []));
  none = λ coord. kept 0 coord (omega (arith, are.counted)) ∙ are.none coord;
  innermost = λ keys t lt coord key. elim (same_or_other t (length splits)) [
    | inl e ↦
        subst (λ (x : Split). IsInnermost (splits ++ s ∷ []) coord (number_at new (t + 1) coord) x.leaf) (sym (at_end splits s t e))
        (subst (λ (i : ℕ). IsInnermost (splits ++ s ∷ []) coord (number_at new (i + 1) coord) s.leaf) (sym e)
        (innermost-more splits s coord (number_at new (length splits + 1) coord) (last (keys-before splits s keys) coord key)))
    | inr d ↦
        let before : t < length splits = omega (arith, lt, d, length-append splits (s ∷ [])) in
        subst (λ (x : Split). IsInnermost (splits ++ s ∷ []) coord (number_at new (t + 1) coord) x.leaf) (sym (at_before splits s t before))
        (subst (λ (z : ℕ). IsInnermost (splits ++ s ∷ []) coord z (split_at splits t).leaf) (sym (kept (t + 1) coord (omega (arith, before, are.counted))))
        (innermost-more splits s coord (number_at old (t + 1) coord) (are.innermost (keys-before splits s keys) t before coord key)))
  ];
}

mapped-root : (splits : List Split) (s : Split) (old new : Versions) → AreMapped splits old → s.leaf ≡ 0 → IsChanged old new 0 0 0 → AreMapped (splits ++ s ∷ []) new
mapped-root splits s old new are e change =
    mapped-more splits s old new are change.more change.kept (λ keys coord key. at_root e
    (ap (λ (v : ℕ). number_at new v coord) (sym are.counted) ∙ change.changed (omega arith) coord key ∙ zero_there coord))
  where
    zero_there : (coord : ℕ) → (if coord == 0 then 0 else number_at old 0 coord) ≡ 0
    zero_there coord = elim (same_or_other coord 0) [
      | inl f ↦ chosen coord 0 0 (number_at old 0 coord) f
      | inr d ↦ passed coord 0 0 (number_at old 0 coord) d ∙ are.none coord
    ]

mapped-half : (splits : List Split) (s : Split) (old new : Versions) → AreMapped splits old → 0 < s.leaf → s.leaf < nodes splits
    → IsChanged old new ((s.leaf - 1) / 2 + 1) (split_at splits ((s.leaf - 1) / 2)).coord s.leaf → AreMapped (splits ++ s ∷ []) new
mapped-half splits s old new are some there change =
    mapped-more splits s old new are change.more change.kept (λ keys coord key.
    subst (λ (z : ℕ). IsInnermost splits coord z s.leaf) (ap (λ (v : ℕ). number_at new v coord) are.counted) (last keys coord key))
  where
    below : (leaf l : ℕ) → 0 < leaf → leaf < 2 * l + 1 → (leaf - 1) / 2 < l
    below leaf l h k = omega arith

    last : HaveKeys splits → (coord : ℕ) → coord < most_keys → IsInnermost splits coord (number_at new (count old) coord) s.leaf
    last keys coord key =
        let b = (s.leaf - 1) / 2 in
        let lt = below s.leaf (length splits) some there in
        let is = change.changed (keys b lt) coord key in
        elim (same_or_other coord (split_at splits b).coord) [
          | inl e ↦ here b lt (half_of s.leaf some) (sym e) (is ∙ chosen coord (split_at splits b).coord s.leaf (number_at old (b + 1) coord) e)
          | inr d ↦ above b lt (half_of s.leaf some) (λ f. d (sym f))
              (subst (λ (z : ℕ). IsInnermost splits coord z (split_at splits b).leaf) (sym (is ∙ passed coord (split_at splits b).coord s.leaf (number_at old (b + 1) coord) d))
              (are.innermost keys b lt coord key))
        ]

pub mapped-after : (splits : List Split) (s : Split) (old new : Versions) → AreMapped splits old → s.leaf < nodes splits → (s.leaf ≡ 0 → IsChanged old new 0 0 0)
    → (0 < s.leaf → IsChanged old new ((s.leaf - 1) / 2 + 1) (split_at splits ((s.leaf - 1) / 2)).coord s.leaf) → AreMapped (splits ++ s ∷ []) new
mapped-after splits s old new are there root half = elim (same_or_other s.leaf 0) [
  | inl e ↦ mapped-root splits s old new are e (root e)
  | inr d ↦ let some : 0 < s.leaf = omega (arith, d) in mapped-half splits s old new are some there (half some)
]

-- ---- the node that is found

pub found-here : (splits : List Split) (node coord : ℕ) → 0 < node → node < nodes splits → (split_at splits ((node - 1) / 2)).coord ≡ coord → IsInnermost splits coord node node
found-here splits node coord some there on = here ((node - 1) / 2) (omega arith) (half_of node some) on refl

pub found-above : (splits : List Split) (maps : Versions) (node coord : ℕ) → AreMapped splits maps → HaveKeys splits → coord < most_keys → 0 < node → node < nodes splits
    → (split_at splits ((node - 1) / 2)).coord ≢ coord → IsInnermost splits coord (number_at maps ((node - 1) / 2 + 1) coord) node
found-above splits maps node coord are keys key some there other =
    let lt : (node - 1) / 2 < length splits = omega arith in
    above ((node - 1) / 2) lt (half_of node some) other (are.innermost keys ((node - 1) / 2) lt coord key)

-- the node that is found is there, and a split on the coordinate made it
pub record IsCutOn (splits : List Split) (coord found : ℕ) : Type 0 where
  pub there : found < nodes splits
  pub on : (split_at splits ((found - 1) / 2)).coord ≡ coord

of_half : (t node : ℕ) → IsHalf t node → (node - 1) / 2 ≡ t
of_half t node half = elim half [ inl e ↦ omega arith | inr e ↦ omega arith ]

half_below : (t l node : ℕ) → t < l → IsHalf t node → node < 2 * l + 1
half_below t l node lt half = elim half [ inl e ↦ omega arith | inr e ↦ omega arith ]

pub cut-on : (splits : List Split) (coord found : ℕ) {node : ℕ} → 0 < found → IsInnermost splits coord found node → IsCutOn splits coord found
cut-on splits coord found some (at_root e f) = absurd (omega (arith, some, f))
cut-on splits coord found some (here {node = node} t lt half on same) = record {
  there = omega (arith, half_below t (length splits) node lt half, same);
  on = ap (λ (i : ℕ). (split_at splits ((i - 1) / 2)).coord) same ∙ ap (λ (i : ℕ). (split_at splits i).coord) (of_half t node half) ∙ on;
}
cut-on splits coord found some (above t lt half other up) = cut-on splits coord found some up

-- up to the node that is found no split is on the coordinate
same-to : (n : Net) (k : Splits) (coord node found : ℕ) {at : ℕ} → IsOf n k → IsSameTo n k.list coord node at → IsInnermost k.list coord found at → IsSameTo n k.list coord node found
same-to n k coord node found is same (at_root e f) = subst (λ (i : ℕ). IsSameTo n k.list coord node i) (e ∙ sym f) same
same-to n k coord node found is same (here t lt half on e) = subst (λ (i : ℕ). IsSameTo n k.list coord node i) (sym e) same
same-to n k coord node found is same (above {node = at} t lt half other up) = same-to n k coord node found is (up_one half) up
  where
    up_one : IsHalf t at → IsSameTo n k.list coord node (split_at k.list t).leaf
    up_one (inl e) = beside_left n (tree_of k.list) (tree-of n k is) coord node at t lt same e other
    up_one (inr e) = beside_right n (tree_of k.list) (tree-of n k is) coord node at t lt same e other

pub same-first : (n : Net) (splits : List Split) (coord node : ℕ) → node < nodes splits → IsSameTo n splits coord node node
same-first n splits coord node there = record { there = there; low = refl; high = refl }

-- ---- ends at one coordinate

pub span-found : (n : Net) (k : Splits) (coord node found : ℕ) (span : Span) → IsOf n k → node < nodes k.list → IsInnermost k.list coord found node → 0 < found
    → IsSpanOf (box_of n k.list found) (split_at k.list ((found - 1) / 2)).coord span → IsSpanOf (box_of n k.list node) coord span
span-found n k coord node found span is there innermost some ends =
    let same = same-to n k coord node found is (same-first n k.list coord node there) innermost in
    let on = (cut-on k.list coord found some innermost).on in
    record {
      low = ends.low ∙ ap (box_of n k.list found).low on ∙ sym same.low;
      high = ends.high ∙ ap (box_of n k.list found).high on ∙ sym same.high;
    }

pub span-none : (n : Net) (k : Splits) (coord node found : ℕ) (span : Span) → IsOf n k → node < nodes k.list → IsInnermost k.list coord found node → found ≡ 0
    → span.low ≡ (root n).low coord → span.high ≡ (root n).high coord → IsSpanOf (box_of n k.list node) coord span
span-none n k coord node found span is there innermost none low high =
    span-root n k.list coord node found span none (same-to n k coord node found is (same-first n k.list coord node there) innermost) low high

-- ---- the ends of a box, one coordinate after another

-- The ends below a coordinate are those of the node's box, and the others are the root's.
pub record IsFilled (n : Net) (splits : List Split) (node coord : ℕ) (low high : List ℤ) : Type 0 where
  pub lows : length low ≡ coords n
  pub highs : length high ≡ coords n
  pub low_done : (c : ℕ) → c < coord → get_or low c (pos 0) ≡ (box_of n splits node).low c
  pub high_done : (c : ℕ) → c < coord → get_or high c (pos 0) ≡ (box_of n splits node).high c
  pub low_rest : (c : ℕ) → coord ≤ c → c < coords n → get_or low c (pos 0) ≡ (root n).low c
  pub high_rest : (c : ℕ) → coord ≤ c → c < coords n → get_or high c (pos 0) ≡ (root n).high c

pub filled-first : (n : Net) (splits : List Split) (node : ℕ) (e : BoxEnds) → AreRoot n e → IsFilled n splits node 0 e.low.items e.high.items
filled-first n splits node e root = record {
  lows = root.lows;
  highs = root.highs;
  low_done = λ c lt. absurd (omega (arith, lt));
  high_done = λ c lt. absurd (omega (arith, lt));
  low_rest = λ c least lt. root.low c lt;
  high_rest = λ c least lt. root.high c lt;
}

pub filled-past : (n : Net) (k : Splits) (node coord found : ℕ) (low high : List ℤ) → IsOf n k → node < nodes k.list → coord < coords n → IsInnermost k.list coord found node → found ≡ 0
    → IsFilled n k.list node coord low high → IsFilled n k.list node (coord + 1) low high
filled-past n k node coord found low high is there lt innermost none filled =
    let span : Span = record { low = (root n).low coord; high = (root n).high coord } in
    let ends = span-none n k coord node found span is there innermost none refl refl in
    record {
      lows = filled.lows;
      highs = filled.highs;
      low_done = λ c h. elim (same_or_other c coord) [
        | inl e ↦ ap (λ (i : ℕ). get_or low i (pos 0)) e ∙ filled.low_rest coord (omega arith) lt ∙ ends.low ∙ ap (box_of n k.list node).low (sym e)
        | inr d ↦ filled.low_done c (omega (arith, h, d))
      ];
      high_done = λ c h. elim (same_or_other c coord) [
        | inl e ↦ ap (λ (i : ℕ). get_or high i (pos 0)) e ∙ filled.high_rest coord (omega arith) lt ∙ ends.high ∙ ap (box_of n k.list node).high (sym e)
        | inr d ↦ filled.high_done c (omega (arith, h, d))
      ];
      low_rest = λ c least h. filled.low_rest c (omega (arith, least)) h;
      high_rest = λ c least h. filled.high_rest c (omega (arith, least)) h;
    }

pub filled-more : (n : Net) (k : Splits) (node coord found : ℕ) (low high : List ℤ) (span : Span) → IsOf n k → node < nodes k.list → coord < coords n → IsInnermost k.list coord found node
    → 0 < found → IsSpanOf (box_of n k.list found) (split_at k.list ((found - 1) / 2)).coord span
    → IsFilled n k.list node coord low high → IsFilled n k.list node (coord + 1) (set low coord span.low) (set high coord span.high)
filled-more n k node coord found low high span is there lt innermost some half filled =
    let ends = span-found n k coord node found span is there innermost some half in
    record {
      lows = length-set low coord span.low ∙ filled.lows;
      highs = length-set high coord span.high ∙ filled.highs;
      low_done = λ c h. elim (same_or_other c coord) [
        | inl e ↦ ap (λ (i : ℕ). get_or (set low coord span.low) i (pos 0)) e ∙ get_or-set_same low coord span.low (pos 0) (omega (arith, lt, filled.lows)) ∙ ends.low ∙ ap (box_of n k.list node).low (sym e)
        | inr d ↦ get_or-set_other low coord c span.low (pos 0) d ∙ filled.low_done c (omega (arith, h, d))
      ];
      high_done = λ c h. elim (same_or_other c coord) [
        | inl e ↦ ap (λ (i : ℕ). get_or (set high coord span.high) i (pos 0)) e ∙ get_or-set_same high coord span.high (pos 0) (omega (arith, lt, filled.highs)) ∙ ends.high ∙ ap (box_of n k.list node).high (sym e)
        | inr d ↦ get_or-set_other high coord c span.high (pos 0) d ∙ filled.high_done c (omega (arith, h, d))
      ];
      low_rest = λ c least h. get_or-set_other low coord c span.low (pos 0) (λ (e : c ≡ coord). absurd (omega (arith, least, e))) ∙ filled.low_rest c (omega (arith, least)) h;
      high_rest = λ c least h. get_or-set_other high coord c span.high (pos 0) (λ (e : c ≡ coord). absurd (omega (arith, least, e))) ∙ filled.high_rest c (omega (arith, least)) h;
    }

pub filled-last : (n : Net) (k : Splits) (node coord : ℕ) (e : BoxEnds) → IsLimited n → IsOf n k → node < nodes k.list → coords n ≤ coord → IsFilled n k.list node coord e.low.items e.high.items
    → AreEndsOf n (box_of n k.list node) e
filled-last n k node coord e lim is there last filled =
    agree-ends n (box_of n k.list node) e (node-proper n (tree_of k.list) lim (tree-of n k is) node there) filled.lows filled.highs record {
      low = λ c h. filled.low_done c (omega (arith, h, last));
      high = λ c h. filled.high_done c (omega (arith, h, last));
    }
