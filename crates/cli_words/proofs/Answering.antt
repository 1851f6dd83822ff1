-- From the answers of parts to those of the whole, and that there is one answer.
use Rattle.std.proofs.Common.{◌≡◌, ◌∙◌, ◌^◌, true≢false, Bool, true, false, refl, sym, ap, ap₂, subst, List, ℕ, ℤ, pos, ◌*ℤ◌, Option, Some, None, Ok, Err, codes, IfOk}
use Rattle.std.specs.Prelude.{Result, IsSomeAnd}
use Rattle.std.specs.Str.{bytes_eq}
use Rattle.std.proofs.lemmas.Slice.Eq.{bytes_eq-Decides}
use Rattle.clap.specs.Words.{Row, first_of}
use Rattle.quantity.proofs.Laws.{quantity-only}
use Rattle.command_items.specs.Items.{Text}
use Rattle.cli_words.specs.Requests.{Asked, Solving, line_of, solve, check, report, formulate, make, trial, jobs, work, gather, tight, checktight}
use Rattle.cli_words.specs.Asks.{Asks, IsCount, IsForm, IsGap, IsNodes, IsNumber, IsPivots, IsRaise, IsRule, IsSolving, IsSwitch, Says, form_name, rule_name, switch_name}
use Rattle.cli_words.specs.Views.{Answers, Means, Reads, Takes, shown_request}
use Rattle.box_space.specs.declared.coordinates.Form.{Form}
use Rattle.box_space.specs.declared.coordinates.Form.TheVariants.{P, Q, Pq}
use Rattle.branching.specs.declared.name.RuleName.{RuleName}
use Rattle.branching.specs.declared.name.RuleName.TheVariants.{First, Widest, Violated, Fewest}
use Rattle.cli_words.specs.declared.request.Request.{Request}
use Rattle.cli_words.specs.declared.request.WordsFault.{WordsFault}
use Rattle.cli_words.specs.declared.request.WordsFault.TheVariants.{Usage, Memory}
use Rattle.command_items.specs.Lines.{line_named}
use Rattle.command_items.specs.Commands.{labelled, value_in, values_in}
use Rattle.command_items.proofs.Entering.{same_parts, some_same}
use Rattle.cli_words.proofs.Meanings.{SaysIn, line_named-command}

-- a part that is refused refuses the whole, where the whole needs it
pub refused : {A B C D : Type 0} (shown : A → B) (Meant : B → Type 0) (whole : C → D) (WholeMeant : D → Type 0) (e : WordsFault) (r : Result C WordsFault)
    → r ≡ Err e → ((d : D) → WholeMeant d → (b : B) × Meant b) → Reads shown Meant (Err e) → Takes whole WholeMeant r
refused shown Meant whole WholeMeant e r is part h = subst (Takes whole WholeMeant) (sym is) (go e h)
  where
    go : (f : WordsFault) → Reads shown Meant (Err f) → Takes whole WholeMeant (Err f)
    go Usage h = λ d m. let b = part d m in h b.0 b.1
    go Memory h = absurd h

-- where something is asked and a text is not copied, memory is wanted
pub wanting : (command : Text) (rows : List Row) (e : WordsFault) (r : Result Request WordsFault) → r ≡ Err e → e ≡ Memory
    → (asked : Asked) → Means command rows asked → Takes shown_request (Means command rows) r
wanting command rows e r is memory asked means = subst (Takes shown_request (Means command rows)) (sym (is ∙ ap (λ f. Err f) memory)) (asked, means)

-- texts that a test tells apart
apart : (a b : Text) → bytes_eq a b ≡ false → a ≡ b → ⊥
apart a b differ e = true≢false (sym ((bytes_eq-Decides a b).1 e) ∙ differ)

pub solving : (rows : List Row) (asked : Asked) → Means (codes "solve") rows asked → (s : Solving) × IsSolving (λ name. first_of name rows) s
solving rows (solve s) m = (s, m.says)
solving rows asked m = absurd (apart _ _ refl m.is)

pub formulating : (rows : List Row) (asked : Asked) → Means (codes "formulate") rows asked → (form : Form) × IsForm (first_of (codes "form") rows) form
formulating rows (formulate net form) m = (form, m.says.1)
formulating rows asked m = absurd (apart _ _ refl m.is)

pub counting : (rows : List Row) (asked : Asked) → Means (codes "jobs") rows asked → (n : ℕ) × IsCount (first_of (codes "count") rows) n
counting rows (jobs net journal n) m = (n, m.says.2)
counting rows asked m = absurd (apart _ _ refl m.is)

pub working : (rows : List Row) (asked : Asked) → Means (codes "work") rows asked → (form : Form) × IsForm (first_of (codes "form") rows) form
working rows (work net file form) m = (form, m.says.2)
working rows asked m = absurd (apart _ _ refl m.is)

pub tightening : (rows : List Row) (asked : Asked) → Means (codes "tight") rows asked
    → ((form : Form) × IsForm (first_of (codes "form") rows) form) × ((n : ℕ) × IsPivots (first_of (codes "pivots") rows) n)
tightening rows (tight net cert form n) m = ((form, m.says.2), (n, m.says.3))
tightening rows asked m = absurd (apart _ _ refl m.is)

-- what is meant twice is answered twice
pub answers_same : {A B : Type 0} (shown : A → B) (M N : B → Type 0) (r : Result A WordsFault) → ((b : B) → M b → N b) → ((b : B) → N b → M b) → Takes shown M r → Answers shown N r
answers_same shown M N (Ok a) to from h = to (shown a) h
answers_same shown M N (Err Usage) to from h = λ b n. h b (from b n)
answers_same shown M N (Err Memory) to from h = tt

-- ---- one request at most

same_form : (f g : Form) → form_name f ≡ form_name g → f ≡ g
same_form P P e = refl
same_form Q Q e = refl
same_form Pq Pq e = refl
same_form f g e = absurd (apart _ _ refl e)

same_rule : (r s : RuleName) → rule_name r ≡ rule_name s → r ≡ s
same_rule First First e = refl
same_rule Widest Widest e = refl
same_rule Violated Violated e = refl
same_rule Fewest Fewest e = refl
same_rule r s e = absurd (apart _ _ refl e)

same_switch : (a b : Bool) → switch_name a ≡ switch_name b → a ≡ b
same_switch true true e = refl
same_switch false false e = refl
same_switch a b e = absurd (apart _ _ refl e)

one_form : (o : Option Text) (f g : Form) → IsForm o f → IsForm o g → f ≡ g
one_form None f g h k = h ∙ sym k
one_form (Some text) f g h k = same_form f g (sym h ∙ k)

one_rule : (o : Option Text) (r s : RuleName) → IsRule o r → IsRule o s → r ≡ s
one_rule None r s h k = h ∙ sym k
one_rule (Some text) r s h k = same_rule r s (sym h ∙ k)

one_switch : (o : Option Text) (a b : Bool) → IsSwitch o a → IsSwitch o b → a ≡ b
one_switch None a b h k = h ∙ sym k
one_switch (Some text) a b h k = same_switch a b (sym h ∙ k)

one_nodes : (o : Option Text) (m n : ℕ) → IsNodes o m → IsNodes o n → m ≡ n
one_nodes None m n h k = h ∙ sym k
one_nodes (Some text) m n h k = sym h.amount ∙ k.amount

one_pivots : (o : Option Text) (m n : ℕ) → IsPivots o m → IsPivots o n → m ≡ n
one_pivots None m n h k = h ∙ sym k
one_pivots (Some text) m n h k = sym h.amount ∙ k.amount

one_raise : (o : Option Text) (m n : ℕ) → IsRaise o m → IsRaise o n → m ≡ n
one_raise None m n h k = h ∙ sym k
one_raise (Some text) m n h k = sym h.amount ∙ k.amount

one_count : (o : Option Text) (m n : ℕ) → IsCount o m → IsCount o n → m ≡ n
one_count None m n h k = h ∙ sym k
one_count (Some text) m n h k = sym h.0.amount ∙ k.0.amount

one_number : (o : Option Text) (m n : ℕ) → IsSomeAnd o (λ text. IsNumber text m) → IsSomeAnd o (λ text. IsNumber text n) → m ≡ n
one_number None m n h k = absurd h
one_number (Some text) m n h k = sym h.amount ∙ k.amount

one_gap : (o : Option Text) (g h : ℤ) → IsGap o g → IsGap o h → g ≡ h
one_gap None g h is also = is ∙ sym also
one_gap (Some text) g h is also =
    let q = some_same _ _ (sym (quantity-only text is.quantity is.stands) ∙ quantity-only text also.quantity also.stands) in
    is.amount ∙ ap (λ x. x *ℤ pos (10 ^ 6)) q ∙ sym also.amount

one_solving : (value : Text → Option Text) (s t : Solving) → IsSolving value s → IsSolving value t → s ≡ t
one_solving value s t h k =
    let net = some_same _ _ (sym h.net ∙ k.net) in
    let form = one_form (value (codes "form")) s.form t.form h.form k.form in
    let nodes = one_nodes (value (codes "nodes")) s.nodes t.nodes h.nodes k.nodes in
    let gap = one_gap (value (codes "gap")) s.gap t.gap h.gap k.gap in
    let journal = sym h.journal ∙ k.journal in
    let rule = one_rule (value (codes "rule")) s.rule t.rule h.rule k.rule in
    let squeeze = one_switch (value (codes "squeeze")) s.squeeze t.squeeze h.squeeze k.squeeze in
    let raise = one_raise (value (codes "raise")) s.raise t.raise h.raise k.raise in
    λ i. record { net = net i; form = form i; nodes = nodes i; gap = gap i; journal = journal i; rule = rule i; squeeze = squeeze i; raise = raise i }

one_said : (value : Text → Option Text) (values : Text → List Text) (a b : Asked) → (line_of a).command ≡ (line_of b).command → Says value values a → Says value values b → a ≡ b
one_said value values (solve s) (solve t) e h k = ap solve (one_solving value s t h k)
one_said value values (check a b) (check c d) e h k = ap₂ check (some_same _ _ (sym h.0 ∙ k.0)) (some_same _ _ (sym h.1 ∙ k.1))
one_said value values (report a b) (report c d) e h k = ap₂ report (some_same _ _ (sym h.0 ∙ k.0)) (some_same _ _ (sym h.1 ∙ k.1))
one_said value values (formulate n f) (formulate m g) e h k = ap₂ formulate (some_same _ _ (sym h.0 ∙ k.0)) (one_form (value (codes "form")) f g h.1 k.1)
one_said value values (make m) (make n) e h k = ap make (one_number (value (codes "number")) m n h k)
one_said value values (trial m) (trial n) e h k = ap trial (one_number (value (codes "number")) m n h k)
one_said value values (jobs a b m) (jobs c d n) e h k =
    let net = some_same _ _ (sym h.0 ∙ k.0) in
    let journal = some_same _ _ (sym h.1 ∙ k.1) in
    let count = one_count (value (codes "count")) m n h.2 k.2 in
    λ i. jobs (net i) (journal i) (count i)
one_said value values (work a b f) (work c d g) e h k =
    let net = some_same _ _ (sym h.0 ∙ k.0) in
    let file = some_same _ _ (sym h.1 ∙ k.1) in
    let form = one_form (value (codes "form")) f g h.2 k.2 in
    λ i. work (net i) (file i) (form i)
one_said value values (gather a b xs j) (gather c d ys l) e h k =
    let net = some_same _ _ (sym h.0 ∙ k.0) in
    let file = some_same _ _ (sym h.1 ∙ k.1) in
    let answers = sym h.2 ∙ k.2 in
    let journal = some_same _ _ (sym h.3 ∙ k.3) in
    λ i. gather (net i) (file i) (answers i) (journal i)
one_said value values (tight a b f m) (tight c d g n) e h k =
    let net = some_same _ _ (sym h.0 ∙ k.0) in
    let cert = some_same _ _ (sym h.1 ∙ k.1) in
    let form = one_form (value (codes "form")) f g h.2 k.2 in
    let pivots = one_pivots (value (codes "pivots")) m n h.3 k.3 in
    λ i. tight (net i) (cert i) (form i) (pivots i)
one_said value values (checktight a b x) (checktight c d y) e h k =
    let net = some_same _ _ (sym h.0 ∙ k.0) in
    let cert = some_same _ _ (sym h.1 ∙ k.1) in
    let marks = some_same _ _ (sym h.2 ∙ k.2) in
    λ i. checktight (net i) (cert i) (marks i)
one_said value values a b e h k = absurd (apart _ _ refl e)

-- words ask one request at most
pub one_asked : (words : List Text) (a b : Asked) → Asks words a → Asks words b → a ≡ b
one_asked words a b h k =
    let s = same_parts words (line_of a) (line_of b) h.items k.items h.commands k.commands in
    let line = some_same _ _ (sym (line_named-command a) ∙ ap line_named s.command ∙ line_named-command b) in
    let values : labelled (line_of b) k.items ≡ labelled (line_of a) h.items = ap₂ labelled (sym line) (sym s.items) in
    let given = labelled (line_of a) h.items in
    one_said (value_in given) (values_in given) a b s.command h.says (subst (SaysIn b) values k.says)

pub only_answer : (words : List Text) (r : Result Request WordsFault) → Answers shown_request (Asks words) r → IfOk r (λ request. (asked : Asked) → Asks words asked → asked ≡ shown_request request)
only_answer words (Ok request) h = λ asked a. one_asked words asked (shown_request request) a h
only_answer words (Err e) h = tt
