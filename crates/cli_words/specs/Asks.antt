-- Which words ask which request.
use Rattle.std.specs.Prelude.{◌≡◌, ◌<◌, ◌≤◌, ◌^◌, ℕ, Bool, true, false, ℤ, pos, ◌*ℤ◌, ◌≤ℤ◌, List, Option, Some, None, length, codes, IsSomeAnd}
use Rattle.std.specs.Str.Parse.{IsNumeral, digits_value}
use Rattle.pool_model.specs.Quantity.{StandsFor}
use Rattle.command_items.specs.Items.{Text, Given}
use Rattle.command_items.specs.Commands.{Commands, labelled, value_in, values_in}
use Rattle.cli_words.specs.Requests.{Asked, Solving, line_of, solve, check, report, formulate, make, trial, jobs, work, gather, tight, checktight}
use Rattle.box_space.specs.declared.coordinates.Form.{Form}
use Rattle.box_space.specs.declared.coordinates.Form.TheVariants.{P, Q, Pq}
use Rattle.branching.specs.declared.name.RuleName.{RuleName}
use Rattle.branching.specs.declared.name.RuleName.TheVariants.{First, Widest, Violated, Fewest}

-- ---- what a value says

abbrev pub form_name : Form → Text
form_name P = codes "p"
form_name Q = codes "q"
form_name Pq = codes "pq"

-- the form that is named; pq where none is
abbrev pub IsForm : Option Text → Form → Type 0
IsForm None form = form ≡ Pq
IsForm (Some text) form = text ≡ form_name form

abbrev pub rule_name : RuleName → Text
rule_name First = codes "first"
rule_name Widest = codes "widest"
rule_name Violated = codes "violated"
rule_name Fewest = codes "fewest"

-- the rule that is named; widest where none is
abbrev pub IsRule : Option Text → RuleName → Type 0
IsRule None rule = rule ≡ Widest
IsRule (Some text) rule = text ≡ rule_name rule

abbrev pub switch_name : Bool → Text
switch_name true = codes "on"
switch_name false = codes "off"

-- whether something is switched on; off where nothing is said
abbrev pub IsSwitch : Option Text → Bool → Type 0
IsSwitch None on = on ≡ false
IsSwitch (Some text) on = text ≡ switch_name on

-- one to twenty decimal digits, of a number of at most 2^64 - 1
pub record IsNumber (text : Text) (n : ℕ) : Type 0 where
  pub digits : IsNumeral 10 text
  pub short : length text ≤ 20
  pub amount : digits_value 10 text ≡ n
  pub small : n < 2 ^ 64

-- the number of nodes that is written; 1000 where none is
abbrev pub IsNodes : Option Text → ℕ → Type 0
IsNodes None n = n ≡ 1000
IsNodes (Some text) n = IsNumber text n

-- the number of pivots in which halves are raised; 0 where none is written
abbrev pub IsRaise : Option Text → ℕ → Type 0
IsRaise None n = n ≡ 0
IsRaise (Some text) n = IsNumber text n

-- the number of pivots that is written; 1000 where none is
abbrev pub IsPivots : Option Text → ℕ → Type 0
IsPivots None n = n ≡ 1000
IsPivots (Some text) n = IsNumber text n

-- the number of jobs that is written, from 1 to 1,000; 16 where none is
abbrev pub IsCount : Option Text → ℕ → Type 0
IsCount None n = n ≡ 16
IsCount (Some text) n = IsNumber text n × (1 ≤ n) × (n ≤ 1000)

-- a quantity of money from 0 to 10^12 millionths, as this many picos
pub record IsMoney (text : Text) (picos : ℤ) : Type 0 where
  pub quantity : ℤ
  pub stands : StandsFor text quantity
  pub low : pos 0 ≤ℤ quantity
  pub high : quantity ≤ℤ pos (10 ^ 12)
  pub amount : picos ≡ quantity *ℤ pos (10 ^ 6)

-- the gap that is written, in picos; 0.01 of money where none is
abbrev pub IsGap : Option Text → ℤ → Type 0
IsGap None picos = picos ≡ pos (10 ^ 10)
IsGap (Some text) picos = IsMoney text picos

-- ---- the request

-- what the values of `solve` say
pub record IsSolving (value : Text → Option Text) (s : Solving) : Type 0 where
  pub net : value (codes "net") ≡ Some s.net
  pub form : IsForm (value (codes "form")) s.form
  pub nodes : IsNodes (value (codes "nodes")) s.nodes
  pub gap : IsGap (value (codes "gap")) s.gap
  pub journal : value (codes "journal") ≡ s.journal
  pub rule : IsRule (value (codes "rule")) s.rule
  pub squeeze : IsSwitch (value (codes "squeeze")) s.squeeze
  pub raise : IsRaise (value (codes "raise")) s.raise

-- the values say this, where the value under each name is given, and all values under it
abbrev pub Says : (Text → Option Text) → (Text → List Text) → Asked → Type 0
Says value values (solve s) = IsSolving value s
Says value values (check net cert) = (value (codes "net") ≡ Some net) × (value (codes "cert") ≡ Some cert)
Says value values (report net cert) = (value (codes "net") ≡ Some net) × (value (codes "cert") ≡ Some cert)
Says value values (formulate net form) = (value (codes "net") ≡ Some net) × IsForm (value (codes "form")) form
Says value values (make n) = IsSomeAnd (value (codes "number")) (λ text. IsNumber text n)
Says value values (trial n) = IsSomeAnd (value (codes "number")) (λ text. IsNumber text n)
Says value values (jobs net journal n) = (value (codes "net") ≡ Some net) × (value (codes "journal") ≡ Some journal) × IsCount (value (codes "count")) n
Says value values (work net file form) = (value (codes "net") ≡ Some net) × (value (codes "jobs") ≡ Some file) × IsForm (value (codes "form")) form
Says value values (gather net file answers journal) =
    (value (codes "net") ≡ Some net) × (value (codes "jobs") ≡ Some file) × (values (codes "answers") ≡ answers) × (value (codes "journal") ≡ Some journal)
Says value values (tight net cert form n) =
    (value (codes "net") ≡ Some net) × (value (codes "cert") ≡ Some cert) × IsForm (value (codes "form")) form × IsPivots (value (codes "pivots")) n
Says value values (checktight net cert marks) = (value (codes "net") ≡ Some net) × (value (codes "cert") ≡ Some cert) × (value (codes "tight") ≡ Some marks)

-- the words ask this: they are its command and items that fit, and it is what the items say
pub record Asks (words : List Text) (asked : Asked) : Type 0 where
  pub items : List Given
  pub commands : Commands words (line_of asked) items
  pub says : Says (value_in (labelled (line_of asked) items)) (values_in (labelled (line_of asked) items)) asked
