-- The proof of the root, as rounding gives it.
use Rattle.std.proofs.Common.{◌≡◌, ℤ, Option, Some, None, option_map, Result, Ok, Err, IfOk, sym, subst, ◌∙◌}
use Rattle.std.specs.Prelude.{IfSome, IfNone}
use Rattle.pool_model.specs.Network.{Net}
use Rattle.row_model.specs.Boxes.{root}
use Rattle.row_model.specs.Multipliers.{bound}
use Rattle.row_model.specs.Trees.{node_bound}
use Rattle.row_model.specs.Entries.{Searched}
use Rattle.box_space.specs.Views.{shown_proof}
use Rattle.box_space.specs.declared.coordinates.Form.{Form}
use Rattle.linear_program.specs.declared.multipliers.Proof as held
use Rattle.edge_io.specs.declared.Memory.{Memory}
use Rattle.leaf_cuts.specs.Given.{IsGiven}
use Rattle.search_core.specs.Cases.{IsRootOpen, IsRootProof, HasNoRootProof}

some-same : {X : Type 0} (a b : X) → Some a ≡ Some b → a ≡ b
some-same a b e = cc

module _ (n : Net) (form : Form) (s : Searched) (least : ℤ) (is_open : IsRootOpen s) (at : node_bound n s.tree 0 ≡ Some least) where
  pub root-some : (r : Result (Option held.Proof) Memory) → IfOk r (λ o. IsGiven n form (root n) (bound least) (option_map shown_proof o))
      → IfOk r (λ o. IfSome o (λ p. IsRootProof n form s (shown_proof p)))
  root-some (Ok (Some p)) h = record { is_open = is_open; least = least; bounded = at; given = h }
  root-some (Ok None) h = tt
  root-some (Err m) h = tt

  pub root-none : (r : Result (Option held.Proof) Memory) → IfOk r (λ o. IsGiven n form (root n) (bound least) (option_map shown_proof o))
      → IfOk r (λ o. IfNone o (HasNoRootProof n form s))
  root-none (Ok (Some p)) h = tt
  root-none (Ok None) h = λ z opens e. subst (λ (x : ℤ). IsGiven n form (root n) (bound x) None) (some-same least z (sym at ∙ e)) h
  root-none (Err m) h = tt
