-- Proof lines that come one after another, each judged as it comes.
use Rattle.std.specs.Prelude.{◌≡◌, ℕ, ◌+◌, ◌-◌, ◌/◌, ◌<◌, ◌≤◌, List, [], ◌∷◌, ◌++◌, length, map, get_or, vec_capacity, Option, None, Some, Result, Ok, Err, option_map, ℤ}
use Rattle.std.specs.List.{flat_map}
use Rattle.pool_model.specs.Network.{IsLimited, Net}
use Rattle.row_model.specs.Boxes.{Box, coords}
use Rattle.row_model.specs.Catalogue.{rows}
use Rattle.row_model.specs.Multipliers.{Part, Proof, IsInOrder, shown_by}
use Rattle.row_model.specs.Trees.{Split, nodes, split_at, raised}
use Rattle.box_space.specs.Views.{AreRoot, shown_proof}
use Rattle.linear_program.specs.declared.multipliers.Proof as declared
use Rattle.row_book.specs.Faults as proofs
use Rattle.row_book.specs.Views.{shown_value}
use Rattle.row_book.specs.declared.fault.ProofFault.{ProofFault}
use Rattle.row_book.specs.declared.shown.Shown as values
use Rattle.cert_format.specs.Cert.{NodeProof}
use Rattle.cert_format.specs.Valid.{no_proof, IsRising}
use Rattle.cert_stream.specs.declared.fault.ItemFault.{ItemFault}
use Rattle.cert_items.specs.declared.items.State.{State}
use Rattle.cert_format.specs.declared.reading.Kind.{Kind}
use Rattle.cert_stream.specs.Items.{Field, head, one_part, proof_items, proofs_left}
use Rattle.proof_lines.specs.declared.judge.Judge.{Judge}
use Rattle.proof_lines.specs.declared.line_judge.LineJudge.{LineJudge}
use Rattle.proof_lines.specs.declared.refusal.Refusal.{Refusal}
use Rattle.proof_lines.specs.declared.refusal.Refusal.TheVariants.{ProofPlace, Proof as ProofOf}
use Rattle.proof_lines.specs.declared.stream_refusal.StreamRefusal.{StreamRefusal}
use Rattle.proof_lines.specs.Judging.{AreJudged}
use Rattle.proof_lines.specs.Parts.{IsWrongLineList}
use Rattle.proof_lines.specs.Refusals.{node_at, IsPlaced}
use Rattle.proof_lines.specs.Runs.{Moment, Run, Failed, Halts, IsReady}
use Rattle.proof_lines.specs.Trees.{ArePlaced, IsProofRefusal, tree_with}

-- ---- one node more

-- the bound of the next node was added: that of the node above it, with what its own proof shows
pub record IsAdded (list : List Split) (reach : ℤ) (shown : Option values.Shown) (before after : Judge) : Type 0 where
  pub above : Option ℤ
  pub root : length before.bounds.items ≡ 0 → above ≡ Some reach
  pub child : 0 < length before.bounds.items → above ≡ get_or before.bounds.items (split_at list ((length before.bounds.items - 1) / 2)).leaf None
  pub longer : after.bounds.items ≡ before.bounds.items ++ raised above (option_map shown_value shown) ∷ []

-- ---- the parts of a line

-- The parts that were kept are the proof; or there were too many, for which the proof has this first fault in any box.
abbrev pub IsKept : Net → Proof → declared.Proof → Option ProofFault → Type 0
IsKept n proof kept None = shown_proof kept ≡ proof
IsKept n proof kept (Some fault) = (b : Box) → proofs.IsFirstFault n b proof fault

-- the parts of a line were read, and kept as far as a network with so many rows asks for
pub record IsLineRead (count scale : ℕ) (next : State) (rows_kept : ℕ) (m k : Moment) (after : declared.Proof) (excess : Option ProofFault) : Type 0 where
  pub parts : List Part
  pub run : Run m k (map one_part parts)
  pub ready : IsReady k next
  pub long : length parts ≡ count
  pub kept : (n : Net) → rows n ≡ rows_kept → IsKept n record { scale = scale; parts = parts } after excess

abbrev pub ReadsParts : ℕ → ℕ → State → ℕ → Moment → Moment → declared.Proof → Result (Option ProofFault) ItemFault → Type 0
ReadsParts count scale next rows_kept m k after (Ok excess) = IsLineRead count scale next rows_kept m k after excess
ReadsParts count scale next rows_kept m k after (Err fault) = Failed m k fault

-- so many parts were read, and the text goes on with a state
pub record ArePartsSkipped (count : ℕ) (next : State) (m k : Moment) : Type 0 where
  pub parts : List Part
  pub run : Run m k (map one_part parts)
  pub ready : IsReady k next
  pub long : length parts ≡ count

abbrev pub SkipsParts : ℕ → State → Moment → Moment → Result (Unit {0}) ItemFault → Type 0
SkipsParts count next m k (Ok x) = ArePartsSkipped count next m k
SkipsParts count next m k (Err fault) = Failed m k fault

-- ---- the room of a judge

-- The network keeps within its limits, and the ends of the root box are there, room for the ends of any box, and room for as many
-- parts as the network has rows.
pub record HasRoom (n : Net) (j : LineJudge) : Type 0 where
  pub limited : IsLimited n
  pub root : AreRoot n j.root
  pub lows : length j.ends.low.items ≡ coords n
  pub highs : length j.ends.high.items ≡ coords n
  pub rows_are : j.rows ≡ rows n
  pub room : rows n ≤ vec_capacity j.proof.parts

-- ---- a line is judged

-- In a list of lines the next one is this, and it was kept so; the nodes before it are judged.
pub record IsNextLine (n : Net) (list : List Split) (node : ℕ) (excess : Option ProofFault) (before : LineJudge) (all : List NodeProof) : Type 0 where
  pub rising : IsRising all
  pub proof : Proof
  pub there : before.judge.next < length all
  pub line : get_or all before.judge.next no_proof ≡ record { node = node; proof = proof }
  pub kept : IsKept n proof before.proof excess
  pub judged : AreJudged n list all (length before.judge.bounds.items) before.judge

-- The next line of any such list was judged with it, or its proof is not in order.
abbrev pub TakesLine : Net → List Split → ℕ → Option ProofFault → LineJudge → LineJudge → Result (Unit {0}) Refusal → Type 0
TakesLine n list node excess before after (Ok x) = (all : List NodeProof) → IsNextLine n list node excess before all → AreJudged n list all (node + 1) after.judge
TakesLine n list node excess before after (Err r) = (all : List NodeProof) → IsNextLine n list node excess before all → IsProofRefusal n (tree_with list all) r

-- ---- lines, one after another

-- Lines were read up to a number, each in its place, and the least node that the next one may name is this.
pub record ArePlacedTo (list : List Split) (lines : List NodeProof) (least : ℕ) : Type 0 where
  pub placed : (j : ℕ) → j < length lines → IsPlaced (nodes list) lines j
  pub none : length lines ≡ 0 → least ≡ 0
  pub last : (j : ℕ) → j + 1 ≡ length lines → least ≡ node_at lines j + 1

-- the nodes below a number are judged, whatever lines come behind those that were read
abbrev pub AreJudgedSo : Net → List Split → List NodeProof → ℕ → Judge → Type 0
AreJudgedSo n list lines m j = (all more : List NodeProof) → all ≡ lines ++ more → ArePlaced list all → AreJudged n list all m j

-- So many lines were read, each in its place, and the nodes below the least one that the next may name are judged, whatever comes
-- behind.
pub record AreLinesTaken (n : Net) (list : List Split) (kind : Kind) (m k : Moment) (count number least : ℕ) (j : Judge) : Type 0 where
  pub lines : List NodeProof
  pub run : Run m k (flat_map proof_items lines)
  pub ready : IsReady k (proofs_left kind (count - number))
  pub long : length lines ≡ number
  pub placed : ArePlacedTo list lines least
  pub judged : AreJudgedSo n list lines least j

-- one line more was taken, or the lines are refused
abbrev pub TakesNext : Net → List Split → Kind → Moment → Moment → ℕ → ℕ → Judge → Result ℕ StreamRefusal → Type 0
TakesNext n list kind m k count number j (Ok least) = AreLinesTaken n list kind m k count number least j
TakesNext n list kind m k count number j (Err r) = Halts (IsWrongLineList n list count) m k r

-- the other lines were read for their places alone, behind the first
pub record AreAllPlaced (list : List Split) (count : ℕ) (next : State) (first : List NodeProof) (m k : Moment) : Type 0 where
  pub more : List NodeProof
  pub run : Run m k (flat_map proof_items more)
  pub ready : IsReady k next
  pub long : length (first ++ more) ≡ count
  pub placed : ArePlaced list (first ++ more)

-- the first line behind some that is not in its place
pub record IsLaterPlace (list : List Split) (count : ℕ) (first : List NodeProof) (items : List Field) (r : Refusal) : Type 0 where
  pub number : ℕ
  pub is : r ≡ ProofPlace number
  pub more : List NodeProof
  pub node : ℕ
  pub scale : ℕ
  pub parts : ℕ
  pub items_are : items ≡ flat_map proof_items more ++ head node scale parts ∷ []
  pub long : length (first ++ more) ≡ number
  pub there : number < count
  pub placed : (j : ℕ) → j < number → IsPlaced (nodes list) (first ++ more) j
  pub wrong : ¬ ((node < nodes list) × ((j : ℕ) → j + 1 ≡ number → node_at (first ++ more) j < node))

abbrev pub ReadsPlaces : List Split → ℕ → State → List NodeProof → Moment → Moment → Result (Unit {0}) StreamRefusal → Type 0
ReadsPlaces list count next first m k (Ok x) = AreAllPlaced list count next first m k
ReadsPlaces list count next first m k (Err r) = Halts (IsLaterPlace list count first) m k r

-- the first fault of a node's proof in its box
pub record IsFaultIn (n : Net) (b : Box) (node : ℕ) (proof : Proof) (r : Refusal) : Type 0 where
  pub fault : ProofFault
  pub is : r ≡ ProofOf node fault
  pub first : proofs.IsFirstFault n b proof fault

-- what a node's proof shows in its box, or its first fault there
abbrev pub ShowsIn : Net → Box → ℕ → Proof → Result values.Shown Refusal → Type 0
ShowsIn n b node proof (Ok s) = IsInOrder n b proof × (shown_value s ≡ shown_by n b proof)
ShowsIn n b node proof (Err r) = IsFaultIn n b node proof r
