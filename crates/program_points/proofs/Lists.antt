-- From the lists of a point to its numbers.
use Rattle.std.proofs.Common.{◌≡◌, ℕ, ◌+◌, ◌*◌, ◌%◌, ◌<◌, ◌≤◌, ◌^◌, List, length, get_or, map, ℤ, pos, ◌*ℤ◌, arith, sym, ap, ◌∙◌}
use Rattle.std.proofs.Math.Nat.{mul-le-mul}
use Rattle.std.proofs.lemmas.List.{length-map, get_or-map}
use Rattle.std.proofs.lemmas.Nat.{div-mul-add, mod-mul-add}
use Rattle.integers.specs.Numbers.{tabulate}
use Rattle.integers.proofs.Tabulate.{length-tabulate, get_or-tabulate, same-tabulate}
use Rattle.integers.proofs.Grids.{grid-below}
use Rattle.pool_model.specs.Network.{Net, IsLimited}
use Rattle.pool_model.specs.Plan.{Written, IsWritten, plan_of, Obeys, written_out}
use Rattle.row_model.specs.Variables.{path_count}
use Rattle.program_model.specs.Points.{SameFlows, SameCost, proportion_flows, quality_flows}
use Rattle.std.specs.Prelude.{Result, Ok, Err, IfOk}
use Rattle.program_model.proofs.FormQ.{point_of_q-point_of_pq}
use Rattle.program_model.proofs.SameFlows.{cost-same}
use Rattle.plan_core.specs.Weighed.{weighed}
use Rattle.program_points.specs.declared.points.PropPoint.{PropPoint}
use Rattle.program_points.specs.declared.points.QualPoint.{QualPoint}
use Rattle.program_points.specs.Views.{shown_prop, shown_qual}
use Rattle.program_points.specs.Held.{IsHeldOfQ, IsHeldOfPq, IsHeldOfP}
use Rattle.program_points.specs.Written.{written_path_flow, quality_of, mixed_of, written_proportions, written_qualities, ArePropsOf, AreQualsOf}
use Rattle.program_points.proofs.SamePoints.{AreEqualProportions, AreEqualQualities, equal-same, point_of_q-equal, point_of_p-equal}
use Rattle.program_points.proofs.WrittenQ.{written-point_of_q}
use Rattle.program_points.proofs.WrittenP.{written-point_of_p}

-- ---- lists

-- a place of a list that is a table
place : {X : Type 0} (xs : List X) (f : ℕ → X) (n i : ℕ) (d : X) → xs ≡ tabulate f n → i < n → get_or xs i d ≡ f i
place {X} xs f n i d e lt = ap (λ (ys : List X). get_or ys i d) e ∙ get_or-tabulate f n i d lt

long : {X : Type 0} (xs : List X) (f : ℕ → X) (n : ℕ) → xs ≡ tabulate f n → length xs ≡ n
long {X} xs f n e = ap (λ (ys : List X). length ys) e ∙ length-tabulate f n

-- each number of a list times a factor, as a table
pub times-table : (factor : ℕ) (xs : List ℕ) (n : ℕ) → length xs ≡ n → map (λ x. factor * x) xs ≡ tabulate (λ i. factor * get_or xs i 0) n
times-table factor xs n e =
    same-tabulate (map (λ (x : ℕ). factor * x) xs) (λ i. factor * get_or xs i 0) n 0 (length-map xs (λ (x : ℕ). factor * x) ∙ e)
    (λ i lt. get_or-map (λ (x : ℕ). factor * x) xs i 0 0 (omega arith))

-- both bases are within their limits
bases-small : (d r b : ℕ) → d ≤ 65536 → r ≤ 1048576 → b ≡ d * r → b ≤ 2 ^ 36
bases-small d r b hd hr e = omega (arith, mul-le-mul hd hr)

-- ---- points of Q

props-equal : (n : Net) (w : Written) (q : PropPoint) → ArePropsOf n w q → AreEqualProportions n (written_proportions n w) (shown_prop q)
props-equal n w q h = record {
  flows = record {
    base = sym h.base;
    feed = λ e lt. sym (place q.x.items (plan_of n w).feed n.feeds e 0 h.x lt);
    out = λ o lt. sym (place q.y.items (plan_of n w).out n.outs o 0 h.y lt);
    direct = λ e lt. sym (place q.z.items (plan_of n w).direct n.directs e 0 h.z lt);
  };
  prop_base = sym h.prop_base;
  proportion = λ e lt. sym (ap (λ (xs : List ℕ). get_or xs e 0) h.props);
  path = λ a lt. sym (place q.w.items (written_path_flow n w) (path_count n) a 0 h.along lt);
}

pub props-held : (n : Net) (w : Written) (q : PropPoint) → IsLimited n → IsWritten n w → Obeys n (plan_of n w) → ArePropsOf n w q → IsHeldOfQ n q
props-held n w q lim written o h = record {
  shape = record {
    base = bases-small w.flow_base w.base q.base written.flow_base.1 written.base.1 h.base;
    prop_base = omega (arith, h.prop_base, written.base);
    props = ap (λ (xs : List ℕ). length xs) h.props ∙ written.weights;
    x = long q.x.items (plan_of n w).feed n.feeds h.x;
    y = long q.y.items (plan_of n w).out n.outs h.y;
    z = long q.z.items (plan_of n w).direct n.directs h.z;
    w = long q.w.items (written_path_flow n w) (path_count n) h.along;
  };
  point = point_of_q-equal n (written_proportions n w) (shown_prop q) lim (props-equal n w q h) (written-point_of_q n w lim written o);
}

pub props-flows : (n : Net) (w : Written) (q : PropPoint) → ArePropsOf n w q → SameFlows n (proportion_flows (shown_prop q)) (plan_of n w)
props-flows n w q h = equal-same n (proportion_flows (shown_prop q)) (plan_of n w) record {
  base = h.base;
  feed = λ e lt. place q.x.items (plan_of n w).feed n.feeds e 0 h.x lt;
  out = λ o lt. place q.y.items (plan_of n w).out n.outs o 0 h.y lt;
  direct = λ e lt. place q.z.items (plan_of n w).direct n.directs e 0 h.z lt;
}

pub props-cost : (n : Net) (w : Written) (q : PropPoint) → ArePropsOf n w q → SameCost n (proportion_flows (shown_prop q)) (plan_of n w)
props-cost n w q h = cost-same n (proportion_flows (shown_prop q)) (plan_of n w) (props-flows n w q h)

-- ---- points of P

quality-place : (n : Net) (w : Written) (xs : List ℤ) (l k : ℕ) → xs ≡ tabulate (quality_of n w) (n.pools * n.qualities) → l < n.pools → k < n.qualities
    → get_or xs (l * n.qualities + k) (pos 0) ≡ weighed n w l k
quality-place n w xs l k e lt lk =
    place xs (quality_of n w) (n.pools * n.qualities) (l * n.qualities + k) (pos 0) e (grid-below n.pools n.qualities l k lt lk)
    ∙ ap (λ i. weighed n w i ((l * n.qualities + k) % n.qualities)) (div-mul-add l n.qualities k lk)
    ∙ ap (λ i. weighed n w l i) (mod-mul-add l n.qualities k lk)

mixed-place : (n : Net) (w : Written) (xs : List ℤ) (o k : ℕ) → xs ≡ tabulate (mixed_of n w) (n.outs * n.qualities) → o < n.outs → k < n.qualities
    → get_or xs (o * n.qualities + k) (pos 0) ≡ weighed n w (n.out_pool o) k *ℤ pos (written_out w o)
mixed-place n w xs o k e lt lk =
    place xs (mixed_of n w) (n.outs * n.qualities) (o * n.qualities + k) (pos 0) e (grid-below n.outs n.qualities o k lt lk)
    ∙ ap (λ i. weighed n w (n.out_pool i) ((o * n.qualities + k) % n.qualities) *ℤ pos (written_out w i)) (div-mul-add o n.qualities k lk)
    ∙ ap (λ i. weighed n w (n.out_pool o) i *ℤ pos (written_out w o)) (mod-mul-add o n.qualities k lk)

quals-equal : (n : Net) (w : Written) (q : QualPoint) → AreQualsOf n w q → AreEqualQualities n (written_qualities n w) (shown_qual n q)
quals-equal n w q h = record {
  flows = record {
    base = sym h.base;
    feed = λ e lt. sym (place q.x.items (plan_of n w).feed n.feeds e 0 h.x lt);
    out = λ o lt. sym (place q.y.items (plan_of n w).out n.outs o 0 h.y lt);
    direct = λ e lt. sym (place q.z.items (plan_of n w).direct n.directs e 0 h.z lt);
  };
  qual_base = sym h.qual_base;
  quality = λ l k lt lk. sym (quality-place n w q.quals.items l k h.quals lt lk);
  mixed = λ o k lt lk. sym (mixed-place n w q.mix.items o k h.mix lt lk);
}

pub quals-held : (n : Net) (w : Written) (q : QualPoint) → IsLimited n → IsWritten n w → Obeys n (plan_of n w) → AreQualsOf n w q → IsHeldOfP n q
quals-held n w q lim written o h = record {
  shape = record {
    base = bases-small w.flow_base w.base q.base written.flow_base.1 written.base.1 h.base;
    qual_base = omega (arith, h.qual_base, written.base);
    quals = long q.quals.items (quality_of n w) (n.pools * n.qualities) h.quals;
    x = long q.x.items (plan_of n w).feed n.feeds h.x;
    y = long q.y.items (plan_of n w).out n.outs h.y;
    z = long q.z.items (plan_of n w).direct n.directs h.z;
    mix = long q.mix.items (mixed_of n w) (n.outs * n.qualities) h.mix;
  };
  point = point_of_p-equal n (written_qualities n w) (shown_qual n q) lim (quals-equal n w q h) (written-point_of_p n w lim written o);
}

pub quals-flows : (n : Net) (w : Written) (q : QualPoint) → AreQualsOf n w q → SameFlows n (quality_flows (shown_qual n q)) (plan_of n w)
quals-flows n w q h = equal-same n (quality_flows (shown_qual n q)) (plan_of n w) record {
  base = h.base;
  feed = λ e lt. place q.x.items (plan_of n w).feed n.feeds e 0 h.x lt;
  out = λ o lt. place q.y.items (plan_of n w).out n.outs o 0 h.y lt;
  direct = λ e lt. place q.z.items (plan_of n w).direct n.directs e 0 h.z lt;
}

pub quals-cost : (n : Net) (w : Written) (q : QualPoint) → AreQualsOf n w q → SameCost n (quality_flows (shown_qual n q)) (plan_of n w)
quals-cost n w q h = cost-same n (quality_flows (shown_qual n q)) (plan_of n w) (quals-flows n w q h)

-- a point of Q is one of Pq
pub held-further : {E : Type 0} (n : Net) (r : Result PropPoint E) → IsLimited n → IfOk r (IsHeldOfQ n) → IfOk r (IsHeldOfPq n)
held-further n (Ok q) lim h = record { shape = h.shape; point = point_of_q-point_of_pq n (shown_prop q) lim h.point }
held-further n (Err e) lim h = h
