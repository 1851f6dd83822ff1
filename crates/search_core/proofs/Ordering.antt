-- What comes next is in order on the tree.
use Rattle.std.proofs.Common.{ℕ, ◌<◌, ◌≤◌, length, Option, ℤ, ◌<ℤ◌, arith, sym, subst}
use denote.Ref.{Bor}
use Rattle.pool_model.specs.Network.{Net, IsLimited}
use Rattle.pool_model.specs.Plan.{Written}
use Rattle.row_model.specs.Multipliers.{Proof}
use Rattle.row_model.specs.Trees.{most_splits, box_of}
use Rattle.row_model.specs.Entries.{Searched, IsPlanInOrder, IsSplitEntryInOrder}
use Rattle.box_space.specs.Views.{shown_split}
use Rattle.box_space.specs.declared.coordinates.Split.{Split}
use Rattle.branching.specs.Rows.{View}
use Rattle.search_core.specs.declared.options.Options.{Options}
use Rattle.search_core.specs.Cases.{IsBetterStart}
use Rattle.leaf_cuts.proofs.Middles.{middle-above, middle-below}
use Rattle.search_core.specs.Next.{IsLeastSplit}
use Rattle.search_core.proofs.Starting.{start_written}

pub improve-order : (n : Net) (s : Searched) (w : Written) → IsLimited n → IsBetterStart n s w → IsPlanInOrder n s w
improve-order n s w limited is = record { written = start_written n w limited is.cheapest; obeys = is.cheapest.obeys; cheaper = is.cheaper }

-- ---- splits

pub split-order : (n : Net) (o : Options) (s : Searched) (post : Bor View → ℕ → Type 0) (split : Split) (left right : Option Proof)
    → length s.tree.splits < o.nodes → o.nodes ≤ most_splits → IsLeastSplit n o s post split left right → IsSplitEntryInOrder n s (shown_split split) left right
split-order n o s post split left right few most is =
    let b = box_of n s.tree.splits split.leaf in
    let wide = is.halving.cuttable.wide in
    record {
      cuts = record {
        leaf = is.leaf.leaf;
        coord = is.halving.cuttable.known;
        low = subst (λ (z : ℤ). b.low split.coord <ℤ z) (sym is.halving.middle) (middle-above b split.coord wide);
        high = subst (λ (z : ℤ). z <ℤ b.high split.coord) (sym is.halving.middle) (middle-below b split.coord wide);
      };
      few = omega (arith, few, most);
      left_proof = is.halving.left_given.in_order;
      right_proof = is.halving.right_given.in_order;
    }
