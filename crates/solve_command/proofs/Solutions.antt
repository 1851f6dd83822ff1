-- How a search ended, by what is printed of it.
use Rattle.std.proofs.Common.{◌≡◌, ◌≢◌, ℕ, ◌*◌, ◌<◌, ◌≤◌, nat_lt, Bool, true, false, if◌then◌else◌, length, Option, Some, None, ℤ, pos, ◌+ℤ◌, ◌-ℤ◌, ◌*ℤ◌, ◌≤ℤ◌}
use Rattle.std.proofs.Common.{int_le, rules, refl, sym, ap, ap₂, subst, ◌∙◌, arith}
use Rattle.std.proofs.lemmas.Bool.Decides.{nat_tests}
use Rattle.integers.proofs.Order.{le-mul}
use Rattle.integers.proofs.Ring.{linear, sorted, additive}
use Rattle.pool_model.specs.Network.{Net, IsLimited}
use Rattle.pool_model.specs.Plan.{Written, plan_of, cost_of}
use Rattle.pool_model.specs.Claim.{Claimed, with_gap, with_bound, no_plan, Follows}
use Rattle.row_model.specs.Trees.{tree_bound}
use Rattle.row_model.specs.Entries.{Searched, start}
use Rattle.cert_format.specs.Cert.{Cert}
use Rattle.cert_format.specs.Valid.{IsValid}
use Rattle.cert_checker.proofs.Followed.{valid-follows}
use Rattle.cert_lengths.specs.Lengths.{HasFewRows}
use Rattle.cert_lengths.proofs.ValidTexts.{few_rows-grown, short_enough}
use Rattle.tree_certificate.specs.Certificates.{cert_of, claim_of, gap_of}
use Rattle.search_core.specs.Cases.{IsClosed, IsNear}
use Rattle.search_run.specs.Runs.{IsEnd, IsRun}
use Rattle.search_run.specs.Found.{IsFound}
use Rattle.search_run.specs.declared.orders.Orders.{Orders}
use Rattle.search_core.specs.declared.ended.Ended.{Ended}
use Rattle.search_core.specs.declared.ended.Ended.TheVariants as ends
use Rattle.solve_command.specs.Solution.{IsHeld, IsNearEnough, IsSolution, IsSolutionFrom, end_by, end_of, status_of}
use Rattle.run_status.specs.declared.status.Status.TheVariants as statuses

-- ---- the status by the claim

le_true : (a b : ℤ) → a ≤ℤ b → int_le a b ≡ true
le_true a b h = search rules

le_false : (a b : ℤ) → ¬ (a ≤ℤ b) → int_le a b ≡ false
le_false a b h = search rules

near-closed : (n : Net) (o : Orders) (splits : ℕ) (w : Written) (z : ℤ) → IsNear n o.gap z w → end_by o.gap o.nodes splits (gap_of n w z) ≡ statuses.Closed
near-closed n o splits w z near =
    let base = w.flow_base * w.base in
    ap (λ (b : Bool). if b then statuses.Closed else (if nat_lt splits o.nodes then statuses.Stuck else statuses.Stopped))
    (le_true (cost_of n (plan_of n w) -ℤ z *ℤ pos base) (o.gap *ℤ pos base) near)

far-open : (n : Net) (o : Orders) (splits : ℕ) (w : Written) (z : ℤ) (few : Bool) → ¬ IsNear n o.gap z w → nat_lt splits o.nodes ≡ few
    → end_by o.gap o.nodes splits (gap_of n w z) ≡ (if few then statuses.Stuck else statuses.Stopped)
far-open n o splits w z few far e =
    let base = w.flow_base * w.base in
    ap (λ (b : Bool). if b then statuses.Closed else (if nat_lt splits o.nodes then statuses.Stuck else statuses.Stopped))
    (le_false (cost_of n (plan_of n w) -ℤ z *ℤ pos base) (o.gap *ℤ pos base) far)
    ∙ ap (λ (b : Bool). if b then statuses.Stuck else statuses.Stopped) e

-- what is claimed of a best plan and a bound
module _ (n : Net) (o : Orders) (s : Searched) where
  claimed : (best : Option Written) (bound : Option ℤ) → s.best ≡ best → tree_bound n s.tree ≡ bound → end_of o (cert_of n s) ≡ end_by o.gap o.nodes (length s.tree.splits) (claim_of n best bound)
  claimed best bound e f = ap₂ (λ (x : Option Written) (y : Option ℤ). end_by o.gap o.nodes (length s.tree.splits) (claim_of n x y)) e f

  none-claimed : (best : Option Written) → end_by o.gap o.nodes (length s.tree.splits) (claim_of n best None) ≡ statuses.Infeasible
  none-claimed None = refl
  none-claimed (Some w) = refl

  some-of : {X : Type 0} (x : Option X) → x ≢ None → (y : X) × (x ≡ Some y)
  some-of None h = absurd (h refl)
  some-of (Some y) h = (y, refl)

  open-told : (few : Bool) → tree_bound n s.tree ≢ None → ¬ IsClosed n o.gap s → s.best ≢ None → nat_lt (length s.tree.splits) o.nodes ≡ few
      → end_of o (cert_of n s) ≡ (if few then statuses.Stuck else statuses.Stopped)
  open-told few bounded wide plan e =
      let (w, best) = some-of s.best plan in
      let (z, bound) = some-of (tree_bound n s.tree) bounded in
      claimed (Some w) (Some z) best bound ∙ far-open n o (length s.tree.splits) w z few (λ near. wide record { plan = w; best = best; least = z; bounded = bound; near = near }) e

  lt_false : (a b : ℕ) → b ≤ a → nat_lt a b ≡ false
  lt_false a b h = grind (arith, nat_tests)

  lt_true : (a b : ℕ) → a < b → nat_lt a b ≡ true
  lt_true a b h = grind (arith, nat_tests)

  pub end-told : (ended : Ended) → IsEnd n o s ended → status_of ended ≡ end_of o (cert_of n s)
  end-told ends.Infeasible end = sym (claimed s.best None refl end.1 ∙ none-claimed s.best)
  end-told ends.Closed end = sym (claimed (Some end.1.plan) (Some end.1.least) end.1.best end.1.bounded ∙ near-closed n o (length s.tree.splits) end.1.plan end.1.least end.1.near)
  end-told ends.Stopped end = sym (open-told false end.0.apart.bounded end.0.apart.wide end.2 (lt_false (length s.tree.splits) o.nodes end.1))
  end-told ends.Stuck end = sym (open-told true end.0.apart.bounded end.0.apart.wide end.3 (lt_true (length s.tree.splits) o.nodes end.1))
  end-told ends.Undecided end =
      let (z, bound) = some-of (tree_bound n s.tree) end.0.apart.bounded in
      sym (claimed None (Some z) end.2 bound)

  pub end-held : (ended : Ended) → IsEnd n o s ended → IsHeld n o s (status_of ended)
  end-held ends.Infeasible end = record { stuck = λ e. absurd (cc); undecided = λ e. absurd (cc) }
  end-held ends.Closed end = record { stuck = λ e. absurd (cc); undecided = λ e. absurd (cc) }
  end-held ends.Stopped end = record { stuck = λ e. absurd (cc); undecided = λ e. absurd (cc) }
  end-held ends.Stuck end = record { stuck = λ e. end.2; undecided = λ e. absurd (cc) }
  end-held ends.Undecided end = record { stuck = λ e. absurd (cc); undecided = λ e. end.1 }

-- ---- near enough

-- a cost over a base, a bound below another cost over a base of its own, and a gap that is small enough
near-cost : (cost bound gap asked other : ℤ) (base d : ℕ) → gap ≡ cost -ℤ bound *ℤ pos base → gap ≤ℤ (asked *ℤ pos base) → (bound *ℤ pos d) ≤ℤ other
    → (cost *ℤ pos d) ≤ℤ ((other +ℤ asked *ℤ pos d) *ℤ pos base)
near-cost cost bound gap asked other base d is small below =
    let within = le-mul (pos d) (cost -ℤ bound *ℤ pos base) (asked *ℤ pos base) (omega (arith, linear)) (subst (λ g. g ≤ℤ (asked *ℤ pos base)) is small) in
    let under = le-mul (pos base) (bound *ℤ pos d) other (omega (arith, linear)) below in
    let split : (pos d *ℤ (cost -ℤ bound *ℤ pos base)) ≡ (cost *ℤ pos d -ℤ pos base *ℤ (bound *ℤ pos d)) = simp sorted (omega (arith, additive)) in
    let both : ((other +ℤ asked *ℤ pos d) *ℤ pos base) ≡ (pos base *ℤ other +ℤ pos d *ℤ (asked *ℤ pos base)) = simp sorted (omega (arith, additive)) in
    omega (arith, additive, within, under, split, both)

le_of : (a b : ℤ) → int_le a b ≡ true → a ≤ℤ b
le_of a b h = search rules

-- closed is told by the gap alone
closed-by : (near few : Bool) → (if near then statuses.Closed else (if few then statuses.Stuck else statuses.Stopped)) ≡ statuses.Closed → near ≡ true
closed-by true few e = refl
closed-by false true e = absurd (cc)
closed-by false false e = absurd (cc)

near-enough : (n : Net) (asked : ℤ) (nodes splits : ℕ) (claim : Claimed) → Follows n claim → end_by asked nodes splits claim ≡ statuses.Closed → IsNearEnough n asked claim
near-enough n asked nodes splits (with_gap plan cost base bound gap) follows e =
    let small = le_of gap (asked *ℤ pos base) (closed-by (int_le gap (asked *ℤ pos base)) (nat_lt splits nodes) e) in
    λ p obeys. near-cost cost bound gap asked (cost_of n p) base p.base follows.gap_is small (follows.bound_holds p obeys)
near-enough n asked nodes splits (with_bound bound) follows e = absurd (cc)
near-enough n asked nodes splits no_plan follows e = absurd (cc)

-- ---- the certificate

pub solved-from : (n : Net) (o : Orders) (begun found : Searched) (ended : Ended) (c : Cert) → IsLimited n → IsRun n o begun found ended → IsFound n o begun found ended
    → c ≡ cert_of n found → IsValid n c → IsSolutionFrom n o begun (status_of ended) c
solved-from n o begun found ended c limited run search is valid = record {
  found = found;
  ended = ended;
  is = is;
  valid = valid;
  follows = valid-follows n c limited valid;
  run = run;
  search = search;
  told = refl;
  ends = end-told n o found ended run.end ∙ ap (λ (x : Cert). end_of o x) (sym is);
  near = λ closed. near-enough n o.gap o.nodes (length c.splits) c.claim (valid-follows n c limited valid)
      (sym (end-told n o found ended run.end ∙ ap (λ (x : Cert). end_of o x) (sym is)) ∙ closed);
  held = end-held n o found ended run.end;
  short = λ asked there.
      let grown = few_rows-grown n (length found.tree.splits) o.nodes (length begun.tree.splits) search.grown.few asked there in
      let few : HasFewRows n (length c.splits) = subst (λ (x : Cert). HasFewRows n (length x.splits)) (sym is) grown in
      record { few = few; text = λ held. short_enough n c limited held valid few };
}

pub solved : (n : Net) (o : Orders) (begun found : Searched) (ended : Ended) (c : Cert) → IsLimited n → begun ≡ start → IsRun n o begun found ended → IsFound n o begun found ended
    → c ≡ cert_of n found → IsValid n c → IsSolution n o (status_of ended) c
solved n o begun found ended c limited from run search is valid =
    solved-from n o start found ended c limited (subst (λ (x : Searched). IsRun n o x found ended) from run) (subst (λ (x : Searched). IsFound n o x found ended) from search) is valid
