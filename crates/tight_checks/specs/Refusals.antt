-- When a text of marks is taken, when it is refused, and which of the causes comes first.
use Rattle.std.specs.Prelude.{◌≡◌, ◌⊎◌, ℕ, List, [], ◌∷◌, Result, Ok, Err}
use Rattle.std.specs.List.{Contains}
use Rattle.faults.specs.First.{IsFirst}
use Rattle.pool_model.specs.Network.{Net}
use Rattle.row_model.specs.Trees.{Tree}
use Rattle.cert_text.specs.Lines.{IsFaultyLine}
use Rattle.tight_texts.specs.Texts.{Marks, AreMarks, marks_text}
use Rattle.tight_texts.specs.Views.{shown_marks}
use Rattle.cert_text.specs.declared.fault.ReadFault.{ReadFault}
use Rattle.cert_text.specs.declared.fault.ReadFault.TheVariants as reading
use Rattle.tight_texts.specs.declared.marks.LeafMark.{LeafMark}
use Rattle.tight_texts.specs.declared.marks.TightText.{TightText}
use Rattle.tight_checks.specs.declared.refusal.TightRefusal.{TightRefusal}
use Rattle.tight_checks.specs.declared.refusal.TightRefusal.TheVariants.{Text, Leaves, BadMark, WrongBound, Memory}
use Rattle.tight_checks.specs.declared.verdict.TightVerdict.{TightVerdict}
use Rattle.tight_checks.specs.Holding.{NamesLeaves, LineHolds, IsMarkedBound, Holds, IsVerdict}

-- ---- the causes

-- a line names this node, and its mark doesn't hold
pub record IsBadMark (n : Net) (tree : Tree) (text : TightText) (node : ℕ) : Type 0 where
  pub line : LeafMark
  pub here : Contains text.marks.items line
  pub node_is : line.node ≡ node
  pub wrong : ¬ LineHolds n tree text.form text.pivots line

-- The marks give this cause. A faulty text and want of memory are none that marks give.
abbrev pub Refuses : Net → Tree → TightText → TightRefusal → Type 0
Refuses n tree text (Text line) = ⊥
Refuses n tree text Leaves = ¬ NamesLeaves n tree text.marks.items
Refuses n tree text (BadMark node) = IsBadMark n tree text node
Refuses n tree text WrongBound = ¬ IsMarkedBound n tree text.marks.items text.bound
Refuses n tree text Memory = ⊥

-- the number of a cause, in the order in which they are looked for
abbrev pub number : TightRefusal → ℕ
number (Text _) = 1
number Leaves = 2
number (BadMark _) = 3
number WrongBound = 4
number Memory = 5

-- the node that it is about
abbrev pub about : TightRefusal → List ℕ
about (Text _) = []
about Leaves = []
about (BadMark node) = node ∷ []
about WrongBound = []
about Memory = []

abbrev pub rank : TightRefusal → List ℕ
rank r = number r ∷ about r

-- a cause that the marks give, where they give none before it: of two bad marks that of the lower node comes first
abbrev pub IsFirstRefusal : Net → Tree → TightText → TightRefusal → Type 0
IsFirstRefusal n tree text = IsFirst rank (Refuses n tree text)

-- why marks couldn't be read
abbrev pub read_refusal : ReadFault → TightRefusal
read_refusal (reading.Line line) = Text line
read_refusal reading.Memory = Memory

-- ---- texts

-- marks in memory have this text
pub record Spells (bytes : List ℕ) (text : TightText) : Type 0 where
  pub are : AreMarks (shown_marks text)
  pub text_is : bytes ≡ marks_text (shown_marks text)

-- marks that hold have this text, and this is how many there are of each kind, and their bound
pub record IsAccepted (n : Net) (tree : Tree) (bytes : List ℕ) (verdict : TightVerdict) : Type 0 where
  pub text : TightText
  pub spelled : Spells bytes text
  pub holds : Holds n tree text
  pub verdict_is : IsVerdict text verdict

-- no marks have this text, and this is its first faulty line
pub record IsNoText (bytes : List ℕ) (line : ℕ) : Type 0 where
  pub none : (t : Marks) → AreMarks t → ¬ (bytes ≡ marks_text t)
  pub first : IsFaultyLine Marks AreMarks marks_text bytes line

-- marks have this text, and this is the first cause to refuse them
pub record GivesFirst (n : Net) (tree : Tree) (bytes : List ℕ) (r : TightRefusal) : Type 0 where
  pub text : TightText
  pub spelled : Spells bytes text
  pub first : IsFirstRefusal n tree text r

-- Why a text is refused. Want of memory says nothing of the text.
abbrev pub IsRefused : Net → Tree → List ℕ → TightRefusal → Type 0
IsRefused n tree bytes (Text line) = IsNoText bytes line
IsRefused n tree bytes Leaves = GivesFirst n tree bytes Leaves
IsRefused n tree bytes (BadMark node) = GivesFirst n tree bytes (BadMark node)
IsRefused n tree bytes WrongBound = GivesFirst n tree bytes WrongBound
IsRefused n tree bytes Memory = Unit {0}

-- marks are taken, unless memory ran out
abbrev pub IsTakenAs : TightText → Result TightVerdict TightRefusal → Type 0
IsTakenAs text (Ok verdict) = IsVerdict text verdict
IsTakenAs text (Err r) = r ≡ Memory

-- they are refused for this, unless memory ran out
abbrev pub IsRefusedFor : TightRefusal → Result TightVerdict TightRefusal → Type 0
IsRefusedFor r (Ok verdict) = ⊥
IsRefusedFor r (Err other) = (other ≡ r) ⊎ (other ≡ Memory)
