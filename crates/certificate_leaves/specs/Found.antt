-- What was found of a certificate, and when it is a network's.
use Rattle.std.specs.Prelude.{List}
use Rattle.leaf_order.specs.declared.leaf.OpenLeaf.{OpenLeaf}
use Rattle.pool_model.specs.Network.{IsLimited, Net}
use Rattle.box_space.specs.Views.{AreRoot}
use Rattle.box_space.specs.declared.boxes.BoxEnds.{BoxEnds}
use Rattle.split_tree.specs.Splits.{Splits, IsOf as AreCut}

-- the splits, the ends of the box of all plans, and the leaves that may hold a plan
pub record Found : Type 0 where
  pub splits : Splits
  pub root : BoxEnds
  pub leaves : List OpenLeaf

-- the network keeps within its limits, and the splits and the box of all plans are its own
pub record IsOf (n : Net) (f : Found) : Type 0 where
  pub limited : IsLimited n
  pub splits : AreCut n f.splits
  pub root : AreRoot n f.root
