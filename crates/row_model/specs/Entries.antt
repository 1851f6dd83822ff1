-- Entries: what a search records, one after another, and the tree that they make.
use Rattle.std.specs.Prelude.{◌≡◌, ◌*◌, ◌<◌, List, [], ◌∷◌, ◌++◌, length, false, ◌==◌, if◌then◌else◌, Option, None, Some}
use Rattle.std.specs.Option.{ForSome}
use Rattle.pool_model.specs.Network.{Net}
use Rattle.pool_model.specs.Plan.{Obeys, cost_of, CostsLess, Written, plan_of, IsWritten}
use Rattle.row_model.specs.Boxes.{root, left_of, right_of}
use Rattle.row_model.specs.Multipliers.{Proof, IsInOrder}
use Rattle.row_model.specs.Trees.{Split, left_node, right_node, most_splits, is_cut, CutsLeaf, box_of, Tree, IsTree}

-- a proof on the root; a split with proofs on its halves, where there are some; a plan
pub data Entry : Type 0 where
  root_proof : (proof : Proof) → Entry
  split_of : (split : Split) (left right : Option Proof) → Entry
  improve : (plan : Written) → Entry

-- a tree, and the cheapest plan so far
pub record Searched : Type 0 where
  pub tree : Tree
  pub best : Option Written

-- nothing is cut, nothing is proved, and there is no plan
abbrev pub start : Searched
start = record { tree = record { splits = []; proof = λ node. None }; best = None }

-- what an entry makes of it
abbrev pub after : Searched → Entry → Searched
after s (root_proof proof) = record s { tree = record s.tree { proof = λ node. if node == 0 then Some proof else s.tree.proof node } }
after s (split_of split left right) =
    let t = length s.tree.splits in
    record s {
      tree = record {
        splits = s.tree.splits ++ split ∷ [];
        proof = λ node. if node == left_node t then left else (if node == right_node t then right else s.tree.proof node);
      };
    }
after s (improve plan) = record s { best = Some plan }

-- ---- entries in order

-- a proof of the root comes while the root has none and is not cut
pub record IsRootInOrder (n : Net) (s : Searched) (proof : Proof) : Type 0 where
  pub shows : IsInOrder n (root n) proof
  pub unproved : s.tree.proof 0 ≡ None
  pub uncut : is_cut s.tree.splits 0 ≡ false

-- A split cuts a leaf strictly inside its box, while there are fewer splits than there may be, and the proofs of its halves
-- are in order in their boxes.
pub record IsSplitEntryInOrder (n : Net) (s : Searched) (split : Split) (left right : Option Proof) : Type 0 where
  pub cuts : CutsLeaf n s.tree.splits (box_of n s.tree.splits split.leaf) split
  pub few : length s.tree.splits < most_splits
  pub left_proof : ForSome left (IsInOrder n (left_of (box_of n s.tree.splits split.leaf) split.coord split.cut))
  pub right_proof : ForSome right (IsInOrder n (right_of (box_of n s.tree.splits split.leaf) split.coord split.cut))

-- a plan costs less than another one, both as they are written
abbrev pub IsCheaper : Net → Written → Written → Type 0
IsCheaper n plan other = CostsLess n (plan_of n plan) (cost_of n (plan_of n other)) (other.flow_base * other.base)

-- a plan is well written and obeys, and costs less than the best one where there is one
pub record IsPlanInOrder (n : Net) (s : Searched) (plan : Written) : Type 0 where
  pub written : IsWritten n plan
  pub obeys : Obeys n (plan_of n plan)
  pub cheaper : ForSome s.best (IsCheaper n plan)

abbrev pub IsEntryInOrder : Net → Searched → Entry → Type 0
IsEntryInOrder n s (root_proof proof) = IsRootInOrder n s proof
IsEntryInOrder n s (split_of split left right) = IsSplitEntryInOrder n s split left right
IsEntryInOrder n s (improve plan) = IsPlanInOrder n s plan

-- ---- lists of entries

-- what a list of entries makes, one after another
abbrev pub made_from : Searched → List Entry → Searched
made_from s [] = s
made_from s (e ∷ es) = made_from (after s e) es

-- each entry is in order after those before it
abbrev pub AreInOrderFrom : Net → Searched → List Entry → Type 0
AreInOrderFrom n s [] = Unit {0}
AreInOrderFrom n s (e ∷ es) = IsEntryInOrder n s e × AreInOrderFrom n (after s e) es

abbrev pub made_by : List Entry → Searched
made_by es = made_from start es

abbrev pub AreInOrder : Net → List Entry → Type 0
AreInOrder n es = AreInOrderFrom n start es

-- ---- what stays so

-- the tree is in order, and the best plan is well written and obeys
pub record IsSearched (n : Net) (s : Searched) : Type 0 where
  pub tree : IsTree n s.tree
  pub written : ForSome s.best (IsWritten n)
  pub obeys : ForSome s.best (λ w. Obeys n (plan_of n w))
