-- The proofs of a tree as they were read, and the bound of the tree.
use Rattle.std.proofs.Common.{◌≡◌, ℕ, ◌<◌, ℤ, ◌^◌, Vec, Global, List, [], ◌∷◌, length, get_or, Option, None, if◌then◌else◌, refl, sym, ap, ◌∙◌, arith}
use Rattle.std.specs.List.{flat_map}
use Rattle.pool_model.specs.Network.{Net}
use Rattle.pool_model.specs.Starting.{least_below}
use Rattle.row_model.specs.Trees.{Split, is_cut}
use Rattle.split_tree.specs.Splits.{Splits, IsOf}
use Rattle.cert_format.specs.declared.reading.Kind.{Kind}
use Rattle.cert_stream.specs.Items.{Field, proofs, proof_items}
use Rattle.proof_lines.specs.declared.stream_refusal.StreamRefusal.{StreamRefusal}
use Rattle.proof_lines.specs.Parts.{IsTaken, IsLineList, IsWrongLineList, AreProofs, AreWrongProofs}
use Rattle.proof_lines.specs.Runs.{Moment, Run, Halts}
use Rattle.proof_lines.specs.Trees.{tree_with}
use Rattle.proof_lines.proofs.Outcomes.{splits-of, bound-is}
use Rattle.proof_lines.proofs.Raising.{least-tree}
use Rattle.proof_lines.proofs.Running.{run-then, halts-then}

-- the bounds of the nodes are fewer than 32 bits can number
pub few-bounds : (n : Net) (tree : Splits) (claimed : Kind) (h q : Moment) (count : ℕ) (bounds : Vec (Option ℤ) Global) → IsOf n tree
    → IsTaken (λ (v : Vec (Option ℤ) Global). IsLineList n tree.list claimed count v.items) h q bounds → length bounds.items < 2 ^ 32
few-bounds n tree claimed h q count bounds is taken = let long = taken.is.bounds_are.long in let few = is.few in omega (arith, long, few)

-- the bound of the tree, from those of its nodes
pub proofs-of : (n : Net) (tree : Splits) (claimed : Kind) (m h q : Moment) (count : ℕ) (bounds : Vec (Option ℤ) Global) (bound : Option ℤ) → IsOf n tree
    → Run m h (proofs count ∷ []) → IsTaken (λ (v : Vec (Option ℤ) Global). IsLineList n tree.list claimed count v.items) h q bounds
    → bound ≡ least_below (λ node. if is_cut tree.list node then None else get_or bounds.items node None) (length bounds.items) → IsTaken (AreProofs n tree.list claimed) m q bound
proofs-of n tree claimed m h q count bounds bound is run taken least = record {
  items = proofs count ∷ taken.items;
  state = taken.state;
  run = run-then m h q (proofs count ∷ []) taken.items run taken.run;
  ready = taken.ready;
  is = record {
    lines = taken.is.lines;
    items_are = ap (λ (x : List Field). proofs count ∷ x) taken.is.items_are ∙ ap (λ (i : ℕ). proofs i ∷ flat_map proof_items taken.is.lines) (sym taken.is.long);
    tree = bound-is n tree.list taken.is.lines bound (splits-of n tree is) taken.is.placed taken.is.proved (least ∙ least-tree n (tree_with tree.list taken.is.lines) bounds.items taken.is.bounds_are);
    next_is = taken.is.next_is;
  };
}

pub lines-halt : (n : Net) (list : List Split) (m h q : Moment) (count : ℕ) (r : StreamRefusal) → Run m h (proofs count ∷ []) → Halts (IsWrongLineList n list count) h q r
    → Halts (AreWrongProofs n list) m q r
lines-halt n list m h q count r run b =
    halts-then (IsWrongLineList n list count) (AreWrongProofs n list) m h q (proofs count ∷ []) r (λ items c w. record { count = count; behind = items; items_are = refl; wrong = w }) run b
