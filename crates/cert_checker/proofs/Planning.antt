-- The numbers of a plan, read one after another.
use Rattle.std.proofs.Common.{◌≡◌, ◌≢◌, ℕ, zero, suc, ◌+◌, ◌-◌, ◌<◌, ◌≤◌, false, cond, eqb, IsTrue, List, [], ◌∷◌, ◌++◌, length, length-append, refl, sym, ap, subst, ◌∙◌, append_assoc, arith}
use Rattle.std.specs.Prelude.{map}
use Rattle.std.proofs.lemmas.Bool.{ne_eqb}
use Rattle.std.proofs.lemmas.List.{append-nil, map-append}
use Rattle.pool_model.specs.Network.{Net, counts_of}
use Rattle.pool_model.specs.Plan.{Written}
use Rattle.plan_core.specs.Views.{shown_plan}
use Rattle.plan_core.specs.declared.plan.WrittenPlan.{WrittenPlan}
use Rattle.shelf_calls.specs.Opened.{IsUsedUp}
use Rattle.cert_format.specs.Cert.{FitsShape}
use Rattle.cert_format.specs.declared.reading.Kind.TheVariants as kinds
use Rattle.cert_items.specs.declared.items.State.{State}
use Rattle.cert_items.specs.declared.items.State.TheVariants as states
use Rattle.cert_stream.specs.Items.{Field, bases, weight, outflow, direct, plan_items, directs_left}
use Rattle.proof_lines.specs.Grammar.{outflows_left, weights_left, MayCome, behind_item}
use Rattle.proof_lines.specs.Parts.{IsTaken}
use Rattle.proof_lines.specs.Runs.{Moment, Run, IsReady}
use Rattle.cert_checker.specs.Parts.{IsPlan, with_number}
use Rattle.proof_lines.proofs.Running.{run-then}

-- how many numbers a plan has
abbrev numbers : Written → ℕ
numbers p = length p.weights + length p.outflows + length p.direct

-- how many it has for a network
abbrev pub numbers_of : Net → ℕ
numbers_of n = n.feeds + n.outs + n.directs

-- where the text stands behind the first numbers of a plan
abbrev PlanAt : Net → Written → State → Type 0
PlanAt n p (states.Weight behind outs directs) = (length p.weights + suc behind ≡ n.feeds) × (outs ≡ n.outs) × (directs ≡ n.directs) × (p.outflows ≡ []) × (p.direct ≡ [])
PlanAt n p (states.Outflow behind directs) = (length p.weights ≡ n.feeds) × (length p.outflows + suc behind ≡ n.outs) × (directs ≡ n.directs) × (p.direct ≡ [])
PlanAt n p (states.Direct behind) = (length p.weights ≡ n.feeds) × (length p.outflows ≡ n.outs) × (length p.direct + suc behind ≡ n.directs)
PlanAt n p (states.Splits kinds.Gap) = (length p.weights ≡ n.feeds) × (length p.outflows ≡ n.outs) × (length p.direct ≡ n.directs)
PlanAt n p _ = ⊥

-- the first numbers of a plan were read
pub record IsPlanFront (n : Net) (m k : Moment) (p : Written) (count : ℕ) : Type 0 where
  pub run : Run m k (plan_items p)
  pub used_up : IsTrue k.reader.ended → IsUsedUp k.shelf.rest
  pub at : PlanAt n p k.reader.state
  pub counted : count ≡ numbers p

-- ---- so many of a list are left

one_more : (k : ℕ) (none : State) (some : ℕ → State) → cond (eqb (suc k) 0) none (some (suc k - 1)) ≡ some k
one_more k none some = let e : eqb (suc k) 0 ≡ false = ne_eqb (suc k) 0 (λ h. omega arith) in let g : suc k - 1 ≡ k = omega arith in rw (e, g) refl

directs-at : (n : Net) (p : Written) (k : ℕ) → length p.weights ≡ n.feeds → length p.outflows ≡ n.outs → length p.direct + k ≡ n.directs → PlanAt n p (directs_left k)
directs-at n p zero w o d = (w, o, omega (arith, d))
directs-at n p (suc k) w o d = subst (PlanAt n p) (sym (one_more k (states.Splits kinds.Gap) states.Direct)) (w, o, d)

outflows-at : (n : Net) (p : Written) (k directs : ℕ) → length p.weights ≡ n.feeds → length p.outflows + k ≡ n.outs → directs ≡ n.directs → p.direct ≡ [] → PlanAt n p (outflows_left k directs)
outflows-at n p zero directs w o same none = directs-at n p directs w (omega (arith, o)) (let z : length p.direct ≡ 0 = ap length none in omega (arith, z, same))
outflows-at n p (suc k) directs w o same none = subst (PlanAt n p) (sym (one_more k (directs_left directs) (λ i. states.Outflow i directs))) (w, o, same, none)

weights-at : (n : Net) (p : Written) (k outs directs : ℕ) → length p.weights + k ≡ n.feeds → outs ≡ n.outs → directs ≡ n.directs → p.outflows ≡ [] → p.direct ≡ []
    → PlanAt n p (weights_left k outs directs)
weights-at n p zero outs directs w o d no_outs no_directs = outflows-at n p outs directs (omega (arith, w)) (let z : length p.outflows ≡ 0 = ap length no_outs in omega (arith, z, o)) d no_directs
weights-at n p (suc k) outs directs w o d no_outs no_directs =
    subst (PlanAt n p) (sym (one_more k (outflows_left outs directs) (λ i. states.Weight i outs directs))) (w, o, d, no_outs, no_directs)

-- ---- one number more

weight-items : (ws os ds : List ℕ) (w : ℕ) → os ≡ [] → ds ≡ []
    → (map weight ws ++ (map outflow os ++ map direct ds)) ++ weight w ∷ [] ≡ map weight (ws ++ w ∷ []) ++ (map outflow os ++ map direct ds)
weight-items ws os ds w o d = rw (o, d) (simp (append-nil, map-append))

outflow-items : (ws os ds : List ℕ) (f : ℕ) → ds ≡ []
    → (map weight ws ++ (map outflow os ++ map direct ds)) ++ outflow f ∷ [] ≡ map weight ws ++ (map outflow (os ++ f ∷ []) ++ map direct ds)
outflow-items ws os ds f d = rw d (simp (append-nil, map-append, append_assoc))

direct-items : (ws os ds : List ℕ) (f : ℕ)
    → (map weight ws ++ (map outflow os ++ map direct ds)) ++ direct f ∷ [] ≡ map weight ws ++ (map outflow os ++ map direct (ds ++ f ∷ []))
direct-items ws os ds f = simp (map-append, append_assoc)

longer : (xs : List ℕ) (x : ℕ) → length (xs ++ x ∷ []) ≡ length xs + 1
longer xs x = let one : length (x ∷ []) ≡ 1 = refl in omega (arith, one, length-append xs (x ∷ []))

more : (n : Net) (p : Written) (s : State) (i : Field) → PlanAt n p s → s ≢ states.Splits kinds.Gap → MayCome s i
    → PlanAt n (with_number p i) (behind_item s i) × (plan_items p ++ i ∷ [] ≡ plan_items (with_number p i)) × (numbers (with_number p i) ≡ numbers p + 1)
more n p (states.Weight behind outs directs) (weight w) at going may =
    let long = longer p.weights w in (
      weights-at n (with_number p (weight w)) behind outs directs (omega (arith, at.0, long)) at.1 at.2 at.3 at.4,
      ap (λ (is : List Field). bases p.base p.flow_base ∷ is) (weight-items p.weights p.outflows p.direct w at.3 at.4),
      omega (arith, long),
    )
more n p (states.Outflow behind directs) (outflow f) at going may =
    let long = longer p.outflows f in (
      outflows-at n (with_number p (outflow f)) behind directs at.0 (omega (arith, at.1, long)) at.2 at.3,
      ap (λ (is : List Field). bases p.base p.flow_base ∷ is) (outflow-items p.weights p.outflows p.direct f at.3),
      omega (arith, long),
    )
more n p (states.Direct behind) (direct f) at going may =
    let long = longer p.direct f in (
      directs-at n (with_number p (direct f)) behind at.0 at.1 (omega (arith, at.2, long)),
      ap (λ (is : List Field). bases p.base p.flow_base ∷ is) (direct-items p.weights p.outflows p.direct f),
      omega (arith, long),
    )
more n p (states.Weight behind outs directs) _ at going may = absurd may
more n p (states.Outflow behind directs) _ at going may = absurd may
more n p (states.Direct behind) _ at going may = absurd may
more n p (states.Splits kinds.Gap) i at going may = absurd (going refl)
more n p _ i at going may = absurd at

-- ---- the whole

all-read : (n : Net) (p : Written) (s : State) → PlanAt n p s → numbers_of n ≤ numbers p → (s ≡ states.Splits kinds.Gap) × FitsShape (counts_of n) p
all-read n p (states.Weight behind outs directs) at all = absurd (let y : length p.outflows ≡ 0 = ap length at.3 in let z : length p.direct ≡ 0 = ap length at.4 in omega (arith, at.0, y, z, all))
all-read n p (states.Outflow behind directs) at all = absurd (let z : length p.direct ≡ 0 = ap length at.3 in omega (arith, at.0, at.1, z, all))
all-read n p (states.Direct behind) at all = absurd (omega (arith, at.0, at.1, at.2, all))
all-read n p (states.Splits kinds.Gap) at all = (refl, record { feeds = at.0; outs = at.1; directs = at.2 })
all-read n p _ at all = absurd at

pub front-none : (n : Net) (m k : Moment) (p : Written) → p.weights ≡ [] → p.outflows ≡ [] → p.direct ≡ [] → m.reader.state ≡ states.Bases n.feeds n.outs n.directs
    → Run m k (bases p.base p.flow_base ∷ []) → IsReady k (behind_item m.reader.state (bases p.base p.flow_base)) → IsPlanFront n m k p 0
front-none n m k p w o d at run ready =
    let x : length p.weights ≡ 0 = ap length w in
    let y : length p.outflows ≡ 0 = ap length o in
    let z : length p.direct ≡ 0 = ap length d in
    let none : [] ≡ map weight p.weights ++ (map outflow p.outflows ++ map direct p.direct) = rw (w, o, d) refl in
    record {
      run = subst (λ (is : List Field). Run m k (bases p.base p.flow_base ∷ is)) none run;
      used_up = ready.used_up;
      at = subst (PlanAt n p) (sym (ready.at ∙ ap (λ (s : State). behind_item s (bases p.base p.flow_base)) at)) (weights-at n p n.feeds n.outs n.directs (omega (arith, x)) refl refl o d);
      counted = omega (arith, x, y, z);
    }

module _ (n : Net) (m k : Moment) (p : Written) (count : ℕ) (front : IsPlanFront n m k p count) where
  pub front-going : k.reader.state ≢ states.Ended
  front-going e = subst (PlanAt n p) e front.at

  pub front-more : (l : Moment) (q : Written) (i : Field) → count < numbers_of n → q ≡ with_number p i → MayCome k.reader.state i → Run k l (i ∷ []) → IsReady l (behind_item k.reader.state i)
      → IsPlanFront n m l q (count + 1)
  front-more l q i lt same may run ready =
      let fewer : k.reader.state ≢ states.Splits kinds.Gap = λ e. let all : PlanAt n p (states.Splits kinds.Gap) = subst (PlanAt n p) e front.at in omega (arith, front.counted, lt, all.0, all.1, all.2) in
      let one = more n p k.reader.state i front.at fewer may in
      subst (λ (r : Written). IsPlanFront n m l r (count + 1)) (sym same) record {
        run = subst (Run m l) one.1 (run-then m k l (plan_items p) (i ∷ []) front.run run);
        used_up = ready.used_up;
        at = subst (PlanAt n (with_number p i)) (sym ready.at) one.0;
        counted = omega (arith, front.counted, one.2);
      }

pub front-taken : (n : Net) (m k : Moment) (plan : WrittenPlan) (count : ℕ) → IsPlanFront n m k (shown_plan plan) count → numbers_of n ≤ count
    → IsTaken (λ p. IsPlan n (shown_plan p)) m k plan
front-taken n m k plan count front all =
    let whole = all-read n (shown_plan plan) k.reader.state front.at (omega (arith, front.counted, all)) in
    record {
      items = plan_items (shown_plan plan);
      state = states.Splits kinds.Gap;
      run = front.run;
      ready = record { at = whole.0; used_up = front.used_up };
      is = record { items_are = refl; fits = whole.1; next_is = refl };
    }
