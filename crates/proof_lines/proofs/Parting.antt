-- The parts of a line, read one after another.
use Rattle.std.proofs.Common.{◌≡◌, ℕ, zero, suc, ◌+◌, ◌-◌, ◌<◌, ◌≤◌, ◌⊎◌, inl, inr, Bool, true, false, IsTrue, ◌↔◌, List, [], ◌∷◌, ◌++◌, length, take, get_or}
use Rattle.std.proofs.Common.{All, None, Some, pos, length-append, refl, sym, ap, subst, ◌∙◌, arith}
use Rattle.std.specs.Prelude.{map}
use Rattle.std.proofs.lemmas.List.{map-append, get_or_append_left, take-append-le}
use Rattle.std.proofs.lemmas.List.Elements.{All-get_or}
use Rattle.std.proofs.lemmas.Bool.{cases_lt}
use Rattle.std.proofs.Math.Seq.{get_or-append_seam}
use Rattle.row_model.specs.Multipliers.{Part, IsRising}
use Rattle.linear_program.specs.declared.multipliers.Part as declared
use Rattle.linear_program.specs.declared.multipliers.Proof as kept
use Rattle.box_space.specs.Views.{shown_part}
use Rattle.row_book.specs.declared.fault.ProofFault.TheVariants.{Order, UnknownRow}
use Rattle.row_book.proofs.FirstFaults.{first-order, first-unknown}
use Rattle.row_book.proofs.Rising.{rises, no_more}
use Rattle.cert_format.specs.declared.reading.Kind.{Kind}
use Rattle.cert_stream.specs.Items.{Field, one_part, proofs_left, parts_left}
use Rattle.proof_lines.specs.Lines.{IsLineRead}
use Rattle.proof_lines.specs.Runs.{Moment, Run, IsReady}
use Rattle.proof_lines.proofs.Running.{run-none, run-then}

-- what stands behind the end of a list of parts
abbrev no_part : Part
no_part = record { row = 0; mult = pos 0 }

abbrev row_of : List Part → ℕ → ℕ
row_of parts j = (get_or parts j no_part).row

-- so many parts of a line are read, and kept as far as there are rows; whether their rows rise, and what the next is to be at the least
pub record ArePartsRead (kind : Kind) (behind : ℕ) (m k : Moment) (count i most scale : ℕ) (proof : kept.Proof) (rise : Bool) (least : ℕ) : Type 0 where
  pub parts : List Part
  pub run : Run m k (map one_part parts)
  pub long : length parts ≡ i
  pub few : i ≤ count
  pub ready : IsReady k (parts_left kind (count - i) behind)
  pub kept_are : map shown_part proof.parts.items ≡ take most parts
  pub scale_is : proof.scale ≡ scale
  pub rising : IsTrue rise → (j : ℕ) → suc j < i → row_of parts j < row_of parts (suc j)
  pub falling : ¬ IsTrue rise → ¬ IsRising parts
  pub start : i ≡ 0 → least ≡ 0
  pub last : (j : ℕ) → j + 1 ≡ i → least ≡ row_of parts j + 1

pub parts-none : (kind : Kind) (behind : ℕ) (m : Moment) (count most scale : ℕ) (proof : kept.Proof) (rise : Bool) (least : ℕ) → IsReady m (parts_left kind count behind)
    → proof.parts.items ≡ [] → proof.scale ≡ scale
    → IsTrue rise → least ≡ 0 → ArePartsRead kind behind m m count 0 most scale proof rise least
parts-none kind behind m count most scale proof rise least ready none scale_is rises_so zero_is =
    let more : count ≡ count - 0 = omega arith in
    record {
      parts = [];
      run = run-none m ready.used_up;
      long = refl;
      few = omega arith;
      ready = subst (λ (i : ℕ). IsReady m (parts_left kind i behind)) more ready;
      kept_are = ap (map shown_part) none ∙ sym (take-none most);
      scale_is = scale_is;
      rising = λ h j lt. absurd (omega arith);
      falling = λ h. absurd (h rises_so);
      start = λ e. zero_is;
      last = λ j e. absurd (omega arith);
    }
  where
    nothing : List Part
    nothing = []

    take-none : (n : ℕ) → take n nothing ≡ []
    take-none zero = refl
    take-none (suc n) = refl

-- a test is true or not
pub true-or-not : (b : Bool) → IsTrue b ⊎ (¬ IsTrue b)
true-or-not true = inl refl
true-or-not false = inr (λ e. cc)

-- ---- one part more

row-left : (parts : List Part) (p : Part) (j : ℕ) → j < length parts → row_of (parts ++ p ∷ []) j ≡ row_of parts j
row-left parts p j h = ap (λ (q : Part). q.row) (get_or_append_left parts (p ∷ []) no_part j h)

row-seam : (parts : List Part) (p : Part) → row_of (parts ++ p ∷ []) (length parts) ≡ p.row
row-seam parts p = ap (λ (q : Part). q.row) (get_or-append_seam parts p [] no_part)

one-long : (parts : List Part) (p : Part) → length (parts ++ p ∷ []) ≡ length parts + 1
one-long parts p = let one : length (p ∷ []) ≡ 1 = refl in omega (arith, one, length-append parts (p ∷ []))

rising-front : (parts : List Part) (p : Part) → IsRising (parts ++ p ∷ []) → IsRising parts
rising-front parts p h i j lt below =
    let long = one-long parts p in
    let at : row_of (parts ++ p ∷ []) i < row_of (parts ++ p ∷ []) j = h i j lt (omega (arith, long)) in
    omega (arith, at, row-left parts p i (omega arith), row-left parts p j below)

take-all : (parts : List Part) (n : ℕ) → length parts ≤ n → take n parts ≡ parts
take-all [] zero h = refl
take-all [] (suc n) h = refl
take-all (x ∷ parts) zero h = absurd (omega arith)
take-all (x ∷ parts) (suc n) h = ap (λ (l : List Part). x ∷ l) (take-all parts n (omega arith))

module _ (kind : Kind) (behind : ℕ) (m k l : Moment) (count i most scale : ℕ) (before after : kept.Proof) (rise then_rise : Bool) (least : ℕ) (p : declared.Part)
    (are : ArePartsRead kind behind m k count i most scale before rise least) (lt : i < count) where
  parts_so : List Part
  parts_so = are.parts ++ shown_part p ∷ []

  kept-more : (i < most → after.parts.items ≡ before.parts.items ++ p ∷ []) → (most ≤ i → after.parts.items ≡ before.parts.items) → map shown_part after.parts.items ≡ take most parts_so
  unfolding parts_so
  kept-more within past = elim (cases_lt i most) [
    | inl h ↦
        let long = one-long are.parts (shown_part p) in
        ap (map shown_part) (within h) ∙ map-append shown_part before.parts.items (p ∷ [])
        ∙ ap (λ (x : List Part). x ++ shown_part p ∷ []) (are.kept_are ∙ take-all are.parts most (omega (arith, are.long)))
        ∙ sym (take-all (are.parts ++ shown_part p ∷ []) most (omega (arith, long, are.long)))
    | inr h ↦ ap (map shown_part) (past h) ∙ are.kept_are ∙ sym (take-append-le most are.parts (shown_part p ∷ []) (omega (arith, are.long)))
  ]

  rising-more : IsTrue rise → least ≤ p.row → (j : ℕ) → suc j < i + 1 → row_of parts_so j < row_of parts_so (suc j)
  unfolding parts_so
  rising-more h up j below = elim (cases_lt (suc j) i) [
    | inl inside ↦
        let at = are.rising h j inside in
        omega (arith, at, row-left are.parts (shown_part p) j (omega (arith, are.long)), row-left are.parts (shown_part p) (suc j) (omega (arith, are.long)))
    | inr edge ↦
        let here : suc j ≡ length are.parts = omega (arith, are.long) in
        let at = are.last j (omega arith) in
        let top : row_of (are.parts ++ shown_part p ∷ []) (suc j) ≡ p.row = ap (row_of (are.parts ++ shown_part p ∷ [])) here ∙ row-seam are.parts (shown_part p) in
        omega (arith, at, top, up, row-left are.parts (shown_part p) j (omega (arith, are.long)))
  ]

  falling-more : ¬ (IsTrue rise × (least ≤ p.row)) → (IsTrue rise ⊎ (¬ IsTrue rise)) → ¬ IsRising parts_so
  unfolding parts_so
  falling-more h (inr down) up = are.falling down (rising-front are.parts (shown_part p) up)
  falling-more h (inl so_far) up = h (so_far, high (cases_lt 0 i))
    where
      high : ((0 < i) ⊎ (i ≤ 0)) → least ≤ p.row
      high (inl some) =
          let at = are.last (i - 1) (omega arith) in
          let long = one-long are.parts (shown_part p) in
          let lower : row_of (are.parts ++ shown_part p ∷ []) (i - 1) < row_of (are.parts ++ shown_part p ∷ []) (length are.parts) = up (i - 1) (length are.parts)
          (omega (arith, are.long)) (omega (arith, long)) in
          omega (arith, at, lower, row-seam are.parts (shown_part p), row-left are.parts (shown_part p) (i - 1) (omega (arith, are.long)))
      high (inr none) = let z = are.start (omega arith) in omega (arith, z)

  pub parts-more : Run k l (one_part (shown_part p) ∷ []) → IsReady l (parts_left kind (count - (i + 1)) behind)
      → (i < most → after.parts.items ≡ before.parts.items ++ p ∷ []) → (most ≤ i → after.parts.items ≡ before.parts.items)
      → after.scale ≡ before.scale → (IsTrue then_rise ↔ (IsTrue rise × (least ≤ p.row))) → (IsTrue rise ⊎ (¬ IsTrue rise))
      → ArePartsRead kind behind m l count (i + 1) most scale after then_rise (p.row + 1)
  unfolding parts_so
  parts-more run ready within past scale_same both known = record {
    parts = are.parts ++ shown_part p ∷ [];
    run = subst (λ (is : List Field). Run m l is) (sym (map-append one_part are.parts (shown_part p ∷ []))) (run-then m k l (map one_part are.parts) (one_part (shown_part p) ∷ []) are.run run);
    long = one-long are.parts (shown_part p) ∙ ap (λ (n : ℕ). n + 1) are.long;
    few = omega arith;
    ready = ready;
    kept_are = kept-more within past;
    scale_is = scale_same ∙ are.scale_is;
    rising = λ h. let b = both.0 h in rising-more b.0 b.1;
    falling = λ h. falling-more (λ b. h (both.1 b)) known;
    start = λ e. absurd (omega arith);
    last = λ j e. let here : j ≡ length are.parts = omega (arith, are.long) in ap (λ (n : ℕ). n + 1) (sym (ap (row_of (are.parts ++ shown_part p ∷ [])) here ∙ row-seam are.parts (shown_part p)));
  }

-- ---- all parts

rows-rise : (parts : List Part) (i : ℕ) → length parts ≡ i → ((j : ℕ) → suc j < i → row_of parts j < row_of parts (suc j)) → IsRising parts
rows-rise parts i long h a b lt below = rises (row_of parts) i h a b lt (omega (arith, long))

-- more parts than rows can't be rows that rise
too-many : (parts : List Part) (most : ℕ) → most < length parts → IsRising parts → ¬ All (λ (q : Part). q.row < most) parts
too-many parts most more rising known =
    let few : length parts ≤ most = no_more (row_of parts) (length parts) most rising (λ i h. All-get_or (λ (q : Part). q.row < most) parts i no_part h known) in
    omega (arith, few, more)

module _ (kind : Kind) (behind : ℕ) (m k : Moment) (count most scale : ℕ) (proof : kept.Proof) (rise : Bool) (least : ℕ)
    (are : ArePartsRead kind behind m k count count most scale proof rise least) where
  all_ready : IsReady k (proofs_left kind behind)
  all_ready = let none : count - count ≡ 0 = omega arith in subst (λ (i : ℕ). IsReady k (parts_left kind i behind)) none are.ready

  pub parts-kept : count ≤ most → IsLineRead count scale (proofs_left kind behind) most m k proof None
  parts-kept few = record {
    parts = are.parts;
    run = are.run;
    ready = all_ready;
    long = are.long;
    kept = λ n e. λ i. record { scale = are.scale_is i; parts = (are.kept_are ∙ take-all are.parts most (omega (arith, few, are.long))) i };
  }

  pub parts-unknown : most < count → IsTrue rise → IsLineRead count scale (proofs_left kind behind) most m k proof (Some UnknownRow)
  parts-unknown more up =
      let rising = rows-rise are.parts count are.long (are.rising up) in
      record {
        parts = are.parts;
        run = are.run;
        ready = all_ready;
        long = are.long;
        kept = λ n e b. first-unknown n b record { scale = scale; parts = are.parts } rising
            (subst (λ (r : ℕ). ¬ All (λ (q : Part). q.row < r) are.parts) (sym e) (too-many are.parts most (omega (arith, more, are.long)) rising));
      }

  pub parts-order : ¬ IsTrue rise → IsLineRead count scale (proofs_left kind behind) most m k proof (Some Order)
  parts-order down = record {
    parts = are.parts;
    run = are.run;
    ready = all_ready;
    long = are.long;
    kept = λ n e b. first-order n b record { scale = scale; parts = are.parts } (are.falling down);
  }
