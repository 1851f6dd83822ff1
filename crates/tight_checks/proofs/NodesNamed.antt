-- Lines that name leaves, one by one.
use Rattle.std.proofs.Common.{◌≡◌, ℕ, suc, ◌<◌, List, [], ◌∷◌, length, get_or, arith, refl, sym, ap, ◌∙◌}
use Rattle.std.proofs.lemmas.List.{length-map, get_or-map}
use Rattle.leaf_order.specs.declared.leaf.OpenLeaf.{OpenLeaf}
use Rattle.tight_texts.specs.declared.marks.LeafMark.{LeafMark}
use Rattle.tight_checks.specs.Holding.{nodes_of, leaf_nodes}

-- the first so many lines name the leaves at their places
abbrev pub NameBelow : List LeafMark → List OpenLeaf → ℕ → Type 0
NameBelow lines leaves count = (k : ℕ) (d : LeafMark) (e : OpenLeaf) → k < count → (get_or lines k d).node ≡ (get_or leaves k e).node

-- all do
pub name-all : (lines : List LeafMark) (leaves : List OpenLeaf) → length lines ≡ length leaves → NameBelow lines leaves (length lines) → nodes_of lines ≡ leaf_nodes leaves
name-all [] [] long h = refl
name-all [] (y ∷ ys) long h = absurd (omega (arith, long))
name-all (x ∷ xs) [] long h = absurd (omega (arith, long))
name-all (x ∷ xs) (y ∷ ys) long h =
    ap (λ (node : ℕ). node ∷ nodes_of xs) (h 0 x y (omega arith))
    ∙ ap (λ (nodes : List ℕ). y.node ∷ nodes) (name-all xs ys (omega (arith, long)) (λ k d e lt. h (suc k) d e (omega (arith, lt))))

-- lines that name the leaves are as many
pub named-long : (lines : List LeafMark) (leaves : List OpenLeaf) → nodes_of lines ≡ leaf_nodes leaves → length lines ≡ length leaves
named-long lines leaves e = sym (length-map lines (λ line. line.node)) ∙ ap length e ∙ length-map leaves (λ leaf. leaf.node)

-- and have their nodes
pub named-at : (lines : List LeafMark) (leaves : List OpenLeaf) (k : ℕ) (d : LeafMark) (e : OpenLeaf) → nodes_of lines ≡ leaf_nodes leaves → k < length lines
    → (get_or lines k d).node ≡ (get_or leaves k e).node
named-at lines leaves k d e named lt =
    let long = named-long lines leaves named in
    sym (get_or-map (λ (l : LeafMark). l.node) lines k d 0 lt) ∙ ap (λ (xs : List ℕ). get_or xs k 0) named
    ∙ get_or-map (λ (l : OpenLeaf). l.node) leaves k e 0 (omega (arith, long, lt))
