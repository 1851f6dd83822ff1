-- A part of a certificate as a reader takes it, and the part with the proofs: which items it is, and what is known of it once it is judged.
use Rattle.std.specs.Prelude.{◌≡◌, ℕ, ◌+◌, ◌<◌, List, [], ◌∷◌, ◌++◌, length, Option, Result, Ok, Err, ℤ}
use Rattle.std.specs.List.{flat_map}
use Rattle.pool_model.specs.Network.{Net}
use Rattle.row_model.specs.Trees.{Split, nodes}
use Rattle.cert_format.specs.Cert.{NodeProof}
use Rattle.cert_format.specs.declared.reading.Kind.{Kind}
use Rattle.cert_items.specs.declared.items.State.{State}
use Rattle.cert_stream.specs.Items.{Field, proofs as proofs_item, head}
use Rattle.cert_stream.specs.Items.{proof_items, claim_state}
use Rattle.proof_lines.specs.declared.refusal.Refusal.{Refusal}
use Rattle.proof_lines.specs.declared.refusal.Refusal.TheVariants.{ProofPlace, Proof as ProofOf}
use Rattle.proof_lines.specs.declared.stream_refusal.StreamRefusal.{StreamRefusal}
use Rattle.proof_lines.specs.Refusals.{node_at, IsPlaced}
use Rattle.proof_lines.specs.Trees.{ArePlaced, AreProved, AreBounds, IsBoundOf, IsProofRefusal, tree_with}
use Rattle.proof_lines.specs.Runs.{Moment, Run, Halts, IsReady}

-- a part was read, up to a state
pub record IsTaken {X : Type 0} (Is : X → List Field → State → Type 0) (m k : Moment) (x : X) : Type 0 where
  pub items : List Field
  pub state : State
  pub run : Run m k items
  pub ready : IsReady k state
  pub is : Is x items state

-- a part was read and is in order, or it was not taken
abbrev pub Takes : {X : Type 0} → (X → List Field → State → Type 0) → (List Field → Refusal → Type 0) → Moment → Moment → Result X StreamRefusal → Type 0
Takes Is P m k (Ok x) = IsTaken Is m k x
Takes Is P m k (Err r) = Halts P m k r

-- ---- proof lines

-- the items of so many proof lines, each in its place and in order, with the bound of each node
pub record IsLineList (n : Net) (list : List Split) (kind : Kind) (count : ℕ) (bounds : List (Option ℤ)) (items : List Field) (state : State) : Type 0 where
  pub lines : List NodeProof
  pub items_are : items ≡ flat_map proof_items lines
  pub long : length lines ≡ count
  pub placed : ArePlaced list lines
  pub bounds_are : AreBounds n (tree_with list lines) bounds
  pub proved : AreProved n (tree_with list lines) (nodes list)
  pub next_is : state ≡ claim_state kind

-- lines in their places, and the head of one behind them that is not
pub record IsWrongLine (list : List Split) (count : ℕ) (items : List Field) (number : ℕ) : Type 0 where
  pub lines : List NodeProof
  pub node : ℕ
  pub scale : ℕ
  pub parts : ℕ
  pub items_are : items ≡ flat_map proof_items lines ++ head node scale parts ∷ []
  pub long : length lines ≡ number
  pub there : number < count
  pub placed : (j : ℕ) → j < number → IsPlaced (nodes list) lines j
  pub wrong : ¬ ((node < nodes list) × ((j : ℕ) → j + 1 ≡ number → node_at lines j < node))

-- lines in their places, of which this is the first whose proof is not in order
pub record IsUnproved (n : Net) (list : List Split) (count : ℕ) (items : List Field) (r : Refusal) : Type 0 where
  pub lines : List NodeProof
  pub items_are : items ≡ flat_map proof_items lines
  pub long : length lines ≡ count
  pub placed : ArePlaced list lines
  pub wrong : IsProofRefusal n (tree_with list lines) r

-- why proof lines are refused
abbrev pub IsWrongLineList : Net → List Split → ℕ → List Field → Refusal → Type 0
IsWrongLineList n list count items (ProofPlace k) = IsWrongLine list count items k
IsWrongLineList n list count items (ProofOf node fault) = IsUnproved n list count items (ProofOf node fault)
IsWrongLineList n list count items _ = ⊥

-- ---- the proofs of a tree

-- the items of a tree's proofs, each in its place and in order, and the bound of the tree
pub record AreProofs (n : Net) (list : List Split) (kind : Kind) (bound : Option ℤ) (items : List Field) (state : State) : Type 0 where
  pub lines : List NodeProof
  pub items_are : items ≡ proofs_item (length lines) ∷ flat_map proof_items lines
  pub tree : IsBoundOf n list lines bound
  pub next_is : state ≡ claim_state kind

-- the items of a tree's proofs, up to one that is refused
pub record AreWrongProofs (n : Net) (list : List Split) (items : List Field) (r : Refusal) : Type 0 where
  pub count : ℕ
  pub behind : List Field
  pub items_are : items ≡ proofs_item count ∷ behind
  pub wrong : IsWrongLineList n list count behind r
