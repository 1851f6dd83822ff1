-- The ends of the root box, and so those of each proper box, are at most 10^12 in size.
use Rattle.std.proofs.Common.{◌≡◌, ℕ, ◌^◌, ◌<◌, ◌≤◌, List, ℤ, ◌-ℤ◌, ◌≤ℤ◌}
use Rattle.std.proofs.Common.{unsigned_abs, arith, sym, ap, subst, ◌∙◌, FitsSigned}
use mir.Syntax.{w64}
use Rattle.std.proofs.lemmas.Int.{ints}
use Rattle.pool_model.specs.Network.{Net, IsLimited}
use Rattle.row_model.specs.Boxes.{Box, coords, coord_at, root, root_low, root_high, IsProper}
use Rattle.row_model.specs.Trees.{Split}
use Rattle.box_space.specs.Views.{shown_box_ends, AreEndsOf}
use Rattle.box_space.specs.declared.boxes.BoxEnds.{BoxEnds}
use Rattle.box_tree.specs.Counts.{cuts_on}
use Rattle.row_book.proofs.NearEnds.{root-near as root_ends-near, ends-near as box_ends-near}
use Rattle.leaf_cuts.specs.Halvings.{AreNear}
use Rattle.leaf_cuts.specs.Views.{IsRowOf}

pub root-near : (n : Net) → IsLimited n → (c : ℕ) → c < coords n → AreNear (root_low n (coord_at n c)) (root_high n (coord_at n c))
root-near n limited c lt = let near = root_ends-near n limited c lt in record { least = near.low; greatest = near.high }

pub ends-near : (n : Net) (b : Box) → IsLimited n → IsProper n b → (c : ℕ) → c < coords n → AreNear (b.low c) (b.high c)
ends-near n b limited proper c lt = let near = box_ends-near n b limited proper c lt in record { least = near.low; greatest = near.high }

-- the ends of a proper box at a coordinate, by any numbers that they are
pub record AreEndsAt (n : Net) (c : ℕ) (low high : ℤ) : Type 0 where
  pub order : low ≤ℤ high
  pub near : AreNear low high
  pub least : root_low n (coord_at n c) ≤ℤ low
  pub greatest : high ≤ℤ root_high n (coord_at n c)

pub ends-at : (n : Net) (b : Box) (c : ℕ) (low high : ℤ) → IsLimited n → IsProper n b → c < coords n → low ≡ b.low c → high ≡ b.high c → AreEndsAt n c low high
ends-at n b c low high limited proper lt l h =
    subst (λ (z : ℤ). AreEndsAt n c z high) (sym l)
    (subst (λ (z : ℤ). AreEndsAt n c (b.low c) z) (sym h)
    record { order = proper.in_order c lt; near = ends-near n b limited proper c lt; least = proper.low c lt; greatest = proper.high c lt })

pub near-same : (a b low high : ℤ) → a ≡ low → b ≡ high → AreNear low high → AreNear a b
near-same a b low high l h r = subst (λ (z : ℤ). AreNear z b) (sym l) (subst (λ (z : ℤ). AreNear low z) (sym h) r)

pub near-fits : (low high : ℤ) → AreNear low high → FitsSigned w64 (high -ℤ low)
near-fits low high r = fits low high r.least r.greatest
  where
    fits : (a b : ℤ) → unsigned_abs a ≤ 10 ^ 12 → unsigned_abs b ≤ 10 ^ 12 → FitsSigned w64 (b -ℤ a)
    fits a b h k = omega (arith, ints)

-- the row of a coordinate, of ends that are held
pub row-ends : (n : Net) (splits : List Split) (b : Box) (e : BoxEnds) (coord cuts miss : ℕ) (low high least greatest : ℤ) → coord < coords n → cuts ≡ cuts_on splits coord → low ≡ (shown_box_ends e).low coord → high ≡ (shown_box_ends e).high coord
    → least ≡ (root n).low coord → greatest ≡ (root n).high coord → AreEndsOf n b e → IsRowOf n splits b record { coord = coord; cuts = cuts; low = low; high = high; root_width = greatest -ℤ least; miss = miss }
row-ends n splits b e coord cuts miss low high least greatest lt counted l h rl rh is = record {
  cuts = counted;
  low = l ∙ is.agree.low coord lt;
  high = h ∙ is.agree.high coord lt;
  root_width = ap (λ (z : ℤ). z -ℤ least) rh ∙ ap (λ (z : ℤ). (root n).high coord -ℤ z) rl;
}
