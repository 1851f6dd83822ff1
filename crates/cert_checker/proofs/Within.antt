-- The first splits of a list are in order as they are in the whole list.
use Rattle.std.proofs.Common.{◌≡◌, ℕ, zero, suc, ◌<◌, ◌≤◌, ◌==◌, if◌then◌else◌, List, [], ◌∷◌, take, arith, refl, ap, ◌∙◌}
use Rattle.std.proofs.lemmas.List.{get_or-take}
use Rattle.pool_model.specs.Network.{Net}
use Rattle.row_model.specs.Boxes.{left_of, right_of}
use Rattle.row_model.specs.Trees.{Split, no_split, split_at, left_node, right_node, CutsLeaf, box_after, IsSplitInOrder}

take_take : {X : Type 0} (l : List X) (t count : ℕ) → t ≤ count → take t (take count l) ≡ take t l
take_take l zero count h = refl
take_take l (suc t) zero h = absurd (omega arith)
take_take [] (suc t) (suc count) h = refl
take_take (x ∷ l) (suc t) (suc count) h = ap (λ m. x ∷ m) (take_take l t count (omega arith))

split_within : (splits : List Split) (count t : ℕ) → t < count → split_at (take count splits) t ≡ split_at splits t
split_within splits count t h = get_or-take count splits t no_split h

pub box_within : (n : Net) (splits : List Split) (count t node : ℕ) → t ≤ count → box_after n (take count splits) t node ≡ box_after n splits t node
box_within n splits count zero node h = refl
box_within n splits count (suc t) node h =
    let s = split_at (take count splits) t in
    ap (λ b. if node == left_node t then left_of b s.coord s.cut else (if node == right_node t then right_of b s.coord s.cut else box_after n (take count splits) t node))
    (box_within n splits count t s.leaf (omega arith))
    ∙ ap (λ b. if node == left_node t then left_of (box_after n splits t s.leaf) s.coord s.cut else (if node == right_node t then right_of (box_after n splits t s.leaf) s.coord s.cut else b))
    (box_within n splits count t node (omega arith))
    ∙ ap (λ (r : Split). if node == left_node t then left_of (box_after n splits t r.leaf) r.coord r.cut else
    (if node == right_node t then right_of (box_after n splits t r.leaf) r.coord r.cut else box_after n splits t node))
    (split_within splits count t (omega arith))

pub order-within : (n : Net) (splits : List Split) (count t : ℕ) → t < count → IsSplitInOrder n (take count splits) t ≡ IsSplitInOrder n splits t
order-within n splits count t h =
    ap (λ l. CutsLeaf n l (box_after n (take count splits) t (split_at (take count splits) t).leaf) (split_at (take count splits) t)) (take_take splits t count (omega arith))
    ∙ ap (λ b. CutsLeaf n (take t splits) b (split_at (take count splits) t)) (box_within n splits count t (split_at (take count splits) t).leaf (omega arith))
    ∙ ap (λ (r : Split). CutsLeaf n (take t splits) (box_after n splits t r.leaf) r) (split_within splits count t h)
