-- What is said of the leaves of a certificate.
use Rattle.std.specs.Prelude.{◌≡◌, ℕ, ◌+◌, ◌*◌, ◌<◌, ◌≤◌, List, [], ◌∷◌, ◌++◌, length, All, Option, None, Some, ℤ}
use Rattle.pool_model.specs.Network.{Net}
use Rattle.pool_model.specs.Plan.{Written}
use Rattle.pool_model.specs.Claim.{Claimed, with_gap, with_bound, no_plan}
use Rattle.pool_model.specs.Starting.{lesser}
use Rattle.row_model.specs.Boxes.{Box, coords}
use Rattle.row_model.specs.Catalogue.{rows}
use Rattle.row_model.specs.Trees.{box_of, leaf_bound}
use Rattle.row_model.specs.Variables.{variables}
use Rattle.box_space.specs.declared.coordinates.Form.{Form}
use Rattle.row_book.specs.Fitting.{Fits}
use Rattle.cert_format.specs.Cert.{Cert}
use Rattle.cert_format.specs.Valid.{tree_of}
use Rattle.leaf_order.specs.declared.leaf.OpenLeaf.{OpenLeaf}
use Rattle.leaf_marks.specs.Marks.{IsMark}
use Rattle.leaf_marks.specs.declared.mark.Mark.{Mark}
use Rattle.tight_leaf.specs.Ends.{ComesOf}
use Rattle.tight_texts.specs.declared.marks.LeafMark.{LeafMark}
use Rattle.tight_texts.specs.declared.marks.TightText.{TightText}
use Rattle.tight_checks.specs.Holding.{Holds, IsMarkedBound, LineHolds, bound_with, leaf_nodes, nodes_of}
use Rattle.tight_checks.specs.Refusals.{Spells}
use Rattle.run_status.specs.declared.status.Status.{Status}
use Rattle.run_status.specs.declared.status.Status.TheVariants as statuses
use Rattle.tight_commands.specs.declared.marks.MarkRoom.{MarkRoom}
use Rattle.tight_commands.specs.declared.marking.TightOutcome.{TightOutcome}
use Rattle.tight_commands.specs.declared.marking.TightOutcome.TheVariants as outcomes

-- the plan of a claim, where it has one
abbrev pub claimed_plan : Claimed → Option Written
claimed_plan (with_gap plan cost base bound gap) = Some plan
claimed_plan (with_bound bound) = None
claimed_plan no_plan = None

-- how many pivots may be asked for
abbrev pub most_pivots : ℕ
most_pivots = 1000000

-- how large the tree of a certificate may be
abbrev pub most_size : ℕ
most_size = 8000000

-- how many bytes a text of marks may have that is checked
abbrev pub most_text : ℕ
most_text = 1073741824

-- how large a certificate's tree is for the network: its splits and one, times the network's variables and rows
abbrev pub size_of : Net → Cert → ℕ
size_of n c = (length c.splits + 1) * (variables n + rows n)

-- The mark is the point of the certificate's plan where the plan lies in the leaf's box and costs less than one pico above the leaf's bound;
-- else it comes from the exact run of the box, in so many pivots.
pub record IsMarked (n : Net) (form : Form) (pivots : ℕ) (c : Cert) (line : LeafMark) : Type 0 where
  pub low : ℤ
  pub bound_is : leaf_bound n (tree_of c) line.node ≡ Some low
  pub comes : ComesOf n form (box_of n c.splits line.node) low (claimed_plan c.claim) pivots line.mark

-- What is said of the leaves of a certificate, by a form and in so many pivots.
pub record AreMarksOf (n : Net) (form : Form) (pivots : ℕ) (c : Cert) (text : TightText) : Type 0 where
  pub form_is : text.form ≡ form
  pub pivots_is : text.pivots ≡ pivots
  -- Promise: `tight` marks each leaf of the certificate's tree that may hold a plan, and no other; each mark holds in its leaf's box for the
  --   leaf's bound, and the bound that is written is the least that the marks leave
  pub holds : Holds n (tree_of c) text
  -- Promise: `tight` marks a leaf as tight, with the point of the certificate's plan, where that plan lies in its box and costs less than one
  --   pico above its bound; no leaf is loose but for a reason that the exact run of its box gives
  pub marked : All (IsMarked n form pivots c) text.marks.items

-- The text is that of what is said of the leaves of a certificate.
pub record IsTextOf (n : Net) (form : Form) (pivots : ℕ) (c : Cert) (bytes : List ℕ) : Type 0 where
  pub text : TightText
  pub are : AreMarksOf n form pivots c text
  -- Promise: What `tight` writes is a text of marks, and is read as these marks and as no others
  pub spelled : Spells bytes text
  -- Promise: What `tight` writes has at most 1,073,741,824 bytes, as many as a text that `checktight` takes
  pub short : length bytes ≤ most_text

-- ---- on the way

-- how the marks of a certificate end: it is too large, or it is not
abbrev pub IsTried : Net → Cert → TightOutcome → Type 0
IsTried n c outcomes.Done = size_of n c ≤ most_size
IsTried n c outcomes.TooLarge = most_size < size_of n c
IsTried n c (outcomes.Unread why) = ⊥
IsTried n c (outcomes.Uncertified why) = ⊥
IsTried n c outcomes.Memory = size_of n c ≤ most_size
IsTried n c outcomes.WriteFault = size_of n c ≤ most_size

-- the texts of marks that answer, by the status
abbrev pub MarksTextOn : Net → Form → (pivots : ℕ) → Cert → Status → List ℕ → Type 0
MarksTextOn n form pivots c statuses.Done text = IsTextOf n form pivots c text
MarksTextOn n form pivots c status text = ⊥

-- The first so many leaves of a certificate are marked, and the bound is the least that their marks leave.
pub record AreMarksUpTo (n : Net) (form : Form) (pivots : ℕ) (c : Cert) (leaves : List OpenLeaf) (text : TightText) : Type 0 where
  pub form_is : text.form ≡ form
  pub pivots_is : text.pivots ≡ pivots
  pub named : nodes_of text.marks.items ≡ leaf_nodes leaves
  pub hold : All (LineHolds n (tree_of c) form pivots) text.marks.items
  pub marked : All (IsMarked n form pivots c) text.marks.items
  pub bound : IsMarkedBound n (tree_of c) text.marks.items text.bound

-- The leaf is marked behind those that were marked: its mark holds in its box for its bound, and comes from the plan or from the run of the
-- box; the bound is the lesser of what it was and of what the mark leaves.
pub record AddsMark (n : Net) (b : Box) (plan : Option Written) (leaf : OpenLeaf) (before after : TightText) : Type 0 where
  pub form_is : after.form ≡ before.form
  pub pivots_is : after.pivots ≡ before.pivots
  pub mark : Mark
  pub marks_are : after.marks.items ≡ before.marks.items ++ (record { node = leaf.node; mark = mark } ∷ [])
  pub holds : IsMark n before.form b leaf.bound before.pivots mark
  pub comes : ComesOf n before.form b leaf.bound plan before.pivots mark
  pub bound_is : after.bound ≡ lesser before.bound (bound_with n b (Some leaf.bound) mark)

-- there is room for the ends of a box and for a proof's number
pub record HasRoom (n : Net) (room : MarkRoom) : Type 0 where
  pub lows : length room.ends.low.items ≡ coords n
  pub highs : length room.ends.high.items ≡ coords n
  pub fits : Fits n room.scratch
