-- The lines of a program mean the exact program of its form, and the pooling problem.
use Rattle.std.proofs.Common.{◌≡◌, ℕ, ◌*◌, ◌<◌, ◌≤◌, ◌↔◌, ℤ, pos, ◌*ℤ◌, ◌≤ℤ◌, unsigned_abs, arith, refl, sym, ap, ◌∙◌}
use Rattle.integers.specs.Sums.{int_sum_below, product_below}
use Rattle.integers.proofs.Ring.{linear}
use Rattle.pool_model.specs.Network.{Net, IsLimited}
use Rattle.pool_model.specs.Plan.{Plan, Obeys, cost_of, factor}
use Rattle.row_model.specs.Boxes.{root}
use Rattle.row_model.specs.Variables.{variables, by_number, dot, costs, highs, path_count, path_out}
use Rattle.row_model.specs.Lift.{lift, lift_base}
use Rattle.box_space.specs.declared.coordinates.Form.{Form}
use Rattle.box_space.specs.declared.coordinates.Form.TheVariants.{P, Q, Pq}
use Rattle.program_model.specs.Points.{ProportionPoint, QualityPoint, SameFlows, proportion_flows, quality_flows}
use Rattle.program_model.specs.Lifted.{proportion_point, quality_point}
use Rattle.program_model.specs.Programs.{IsPointOfP, IsPointOfQ, IsPointOfPq}
use Rattle.program_model.specs.Rows.{proportion_values, quality_values, SolvesP, SolvesQ, SolvesPq}
use Rattle.program_text.specs.Programs.{program_text}
use Rattle.printed_program.specs.Numbers.{Numbers, IsPointOf, cost_at}
use Rattle.printed_program.specs.Printed.{program_lines}
use Rattle.printed_program.specs.Points.{AreFlows, AreProportions, flows_at, quality_point_at, proportion_point_at, quality_numbers, proportion_numbers}
use Rattle.printed_program.specs.Meaning.{IsProgramOfP, IsProgramOfProportions, IsProgramOf, HasPoint, IsTheProblem}
use Rattle.printed_program.proofs.Scaling.{costs-times, plain, plain-cost}
use Rattle.printed_program.proofs.Terms.{numbers_of, numbers-named, over-named}
use Rattle.printed_program.proofs.Ends.{unsigned}
use Rattle.printed_program.proofs.Parts.{to_parts, cost-dot, feed-signed, out-signed, direct-signed, path-signed, proportion-signed, has-feeds, has-outs, has-directs}
use Rattle.printed_program.proofs.PointsOfP.{lines-solve_p}
use Rattle.printed_program.proofs.PointsOfQ.{HasPaths, q-paths, pq-paths, lines-solve_q, lines-solve_pq}
use Rattle.printed_program.proofs.LinesOfP.{point-keeps_p}
use Rattle.printed_program.proofs.LinesOfQ.{point-keeps_q, point-keeps_pq}
use Rattle.printed_program.proofs.Texts.{text-same}
use Rattle.printed_program.proofs.ReadBack.{one-text}
use Rattle.printed_program.proofs.ShortLines.{program-short}

-- what the laws of the crates below say of a network
pub record AreLaws (n : Net) : Type 0 where
  pub limited : IsLimited n
  pub few : path_count n ≤ 512
  -- at the point of a plan that obeys no variable passes its end
  pub fits : (p : Plan) → Obeys n p → (v : ℕ) → v < variables n → by_number n (lift n p) v ≤ℤ (by_number n (highs n (root n)) v *ℤ pos (lift_base n p))
  pub cost : (p : Plan) → int_sum_below (λ v. by_number n (costs n) v *ℤ by_number n (lift n p) v) (variables n) ≡ pos (product_below (factor n p) n.pools) *ℤ cost_of n p
  -- the programs by their rows
  pub rows_p : (q : QualityPoint) → IsPointOfP n q ↔ SolvesP n q
  pub rows_q : (q : ProportionPoint) → IsPointOfQ n q ↔ SolvesQ n q
  pub rows_pq : (q : ProportionPoint) → IsPointOfPq n q ↔ SolvesPq n q
  -- flows of points obey
  pub obeys_p : (q : QualityPoint) → IsPointOfP n q → Obeys n (quality_flows q)
  pub obeys_q : (q : ProportionPoint) → IsPointOfQ n q → Obeys n (proportion_flows q)
  -- the points of a plan
  pub point_p : (p : Plan) → Obeys n p → IsPointOfP n (quality_point n p)
  pub point_q : (p : Plan) → Obeys n p → IsPointOfQ n (proportion_point n p)
  pub point_pq : (p : Plan) → Obeys n p → IsPointOfPq n (proportion_point n p)
  pub flows_p : (p : Plan) → SameFlows n (quality_flows (quality_point n p)) p
  pub flows_q : (p : Plan) → SameFlows n (proportion_flows (proportion_point n p)) p
  -- how large the numbers of a point are
  pub paths : (q : ProportionPoint) (a : ℕ) → IsPointOfQ n q → a < path_count n → q.path a ≤ q.out (path_out n a)
  pub proportions : (q : ProportionPoint) (e : ℕ) → IsPointOfQ n q → e < n.feeds → q.proportion e ≤ q.prop_base

longer : (m f d g c : ℕ) → f * d ≡ g * c → m * f * d ≡ g * (c * m)
longer m f d g c e = omega (arith, ap (λ z. m * z) e)

module _ (n : Net) (laws : AreLaws n) where
  -- ---- exact programs

  pub program-p : IsProgramOfP n (program_lines n P)
  program-p = record {
    from_lines = λ q h. (laws.rows_p (quality_point_at n q)).1 (lines-solve_p n q h);
    to_lines = λ q h. point-keeps_p n laws.limited q ((laws.rows_p q).0 h) (laws.fits (quality_flows q) (laws.obeys_p q h));
    cost = λ q.
        cost-dot n P (quality_numbers n q) (quality_values q) (over-named n (quality_values q) (q.base * q.qual_base))
        ∙ costs-times n (pos q.qual_base) (quality_values q) (quality_flows q) (λ e lt. refl) (λ o lt. refl) (λ e lt. refl)
        ∙ ap (λ z. pos q.qual_base *ℤ z) (plain-cost n (quality_flows q) (laws.cost (quality_flows q)));
  }

  proportions-cost : (form : Form) (q : ProportionPoint) → cost_at (program_lines n form) (proportion_numbers n q) ≡ pos q.prop_base *ℤ cost_of n (proportion_flows q)
  proportions-cost form q =
      cost-dot n form (proportion_numbers n q) (proportion_values q) (over-named n (proportion_values q) (q.base * q.prop_base))
      ∙ costs-times n (pos q.prop_base) (proportion_values q) (proportion_flows q) (λ e lt. refl) (λ o lt. refl) (λ e lt. refl)
      ∙ ap (λ z. pos q.prop_base *ℤ z) (plain-cost n (proportion_flows q) (laws.cost (proportion_flows q)))

  proportions-signed : (form : Form) → HasPaths form → (q : Numbers) → IsPointOf (program_lines n form) q → AreProportions n q
  proportions-signed form has q h =
      let kept = (to_parts n form q h.keeps).variables in
      record { proportion = λ e lt. proportion-signed n form q kept e lt has.proportion; path = λ a lt. path-signed n form q kept a lt has.path }

  pub program-q : IsProgramOfProportions n (IsPointOfQ n) (program_lines n Q)
  program-q = record {
    signed = proportions-signed Q q-paths;
    from_lines = λ q h. (laws.rows_q (proportion_point_at q)).1 (lines-solve_q n q h);
    to_lines = λ q h.
        point-keeps_q n laws.limited q h (laws.fits (proportion_flows q) (laws.obeys_q q h)) (λ a lt. laws.paths q a h lt) (λ e lt. laws.proportions q e h lt) ((laws.rows_q q).0 h).rows;
    cost = proportions-cost Q;
  }

  pub program-pq : IsProgramOfProportions n (IsPointOfPq n) (program_lines n Pq)
  program-pq = record {
    signed = proportions-signed Pq pq-paths;
    from_lines = λ q h. (laws.rows_pq (proportion_point_at q)).1 (lines-solve_pq n q h);
    to_lines = λ q h.
        point-keeps_pq n laws.limited q h.of_q (laws.fits (proportion_flows q) (laws.obeys_q q h.of_q))
        (λ a lt. laws.paths q a h.of_q lt) (λ e lt. laws.proportions q e h.of_q lt) ((laws.rows_pq q).0 h).rows;
    cost = proportions-cost Pq;
  }

  pub program-form : (form : Form) → IsProgramOf n form (program_lines n form)
  program-form P = program-p
  program-form Q = program-q
  program-form Pq = program-pq

  -- ---- the pooling problem

  flows-signed : (form : Form) (q : Numbers) → IsPointOf (program_lines n form) q → AreFlows n q
  flows-signed form q h =
      let kept = (to_parts n form q h.keeps).variables in
      record {
        feed = λ e lt. feed-signed n form q kept e lt (has-feeds form);
        out = λ o lt. out-signed n form q kept o lt (has-outs form);
        direct = λ e lt. direct-signed n form q kept e lt (has-directs form);
      }

  flows-obey : (form : Form) (q : Numbers) → IsPointOf (program_lines n form) q → Obeys n (flows_at q)
  flows-obey P q h = laws.obeys_p (quality_point_at n q) (program-p.from_lines q h)
  flows-obey Q q h = laws.obeys_q (proportion_point_at q) (program-q.from_lines q h)
  flows-obey Pq q h = laws.obeys_q (proportion_point_at q) (program-pq.from_lines q h).of_q

  flows-cost : (form : Form) (q : Numbers) → IsPointOf (program_lines n form) q → cost_at (program_lines n form) q ≡ cost_of n (flows_at q)
  flows-cost form q h =
      let kept = (to_parts n form q h.keeps).variables in
      let v = numbers_of n q.value in
      cost-dot n form q v (numbers-named n q.value)
      ∙ costs-times n (pos 1) v (flows_at q)
      (λ e lt. once (v.x e) (unsigned_abs (v.x e)) (unsigned (v.x e) (feed-signed n form q kept e lt (has-feeds form))))
      (λ o lt. once (v.y o) (unsigned_abs (v.y o)) (unsigned (v.y o) (out-signed n form q kept o lt (has-outs form))))
      (λ e lt. once (v.z e) (unsigned_abs (v.z e)) (unsigned (v.z e) (direct-signed n form q kept e lt (has-directs form))))
      ∙ alone (dot n (costs n) (plain (flows_at q)))
      ∙ plain-cost n (flows_at q) (laws.cost (flows_at q))
    where
      alone : (z : ℤ) → pos 1 *ℤ z ≡ z
      alone z = omega (arith, linear)

      once : (z : ℤ) (m : ℕ) → pos m ≡ z → z ≡ pos 1 *ℤ pos m
      once z m e = sym e ∙ sym (alone (pos m))

  plan-point : (form : Form) (p : Plan) → Obeys n p → HasPoint n (program_lines n form) p
  plan-point P p ob =
      let q = quality_point n p in
      let same = laws.flows_p p in
      record {
        numbers = quality_numbers n q;
        point = program-p.to_lines q (laws.point_p p ob);
        flows = record {
          feed = λ e lt. longer q.qual_base (q.feed e) p.base (p.feed e) q.base (same.feed e lt);
          out = λ o lt. longer q.qual_base (q.out o) p.base (p.out o) q.base (same.out o lt);
          direct = λ e lt. longer q.qual_base (q.direct e) p.base (p.direct e) q.base (same.direct e lt);
        };
      }
  plan-point Q p ob =
      let q = proportion_point n p in
      let same = laws.flows_q p in
      record {
        numbers = proportion_numbers n q;
        point = program-q.to_lines q (laws.point_q p ob);
        flows = record {
          feed = λ e lt. longer q.prop_base (q.feed e) p.base (p.feed e) q.base (same.feed e lt);
          out = λ o lt. longer q.prop_base (q.out o) p.base (p.out o) q.base (same.out o lt);
          direct = λ e lt. longer q.prop_base (q.direct e) p.base (p.direct e) q.base (same.direct e lt);
        };
      }
  plan-point Pq p ob =
      let q = proportion_point n p in
      let same = laws.flows_q p in
      record {
        numbers = proportion_numbers n q;
        point = program-pq.to_lines q (laws.point_pq p ob);
        flows = record {
          feed = λ e lt. longer q.prop_base (q.feed e) p.base (p.feed e) q.base (same.feed e lt);
          out = λ o lt. longer q.prop_base (q.out o) p.base (p.out o) q.base (same.out o lt);
          direct = λ e lt. longer q.prop_base (q.direct e) p.base (p.direct e) q.base (same.direct e lt);
        };
      }

  pub the_problem : (form : Form) → IsTheProblem n form (program_text n form)
  the_problem form = record {
    lines = program_lines n form;
    spelled = sym (text-same n form);
    only = λ others short e. one-text others (program_lines n form) (program_text n form) short (program-short n laws.limited laws.few form) e (sym (text-same n form));
    exact = program-form form;
    pooling = record { signed = flows-signed form; obeys = flows-obey form; cost = flows-cost form; point = plan-point form };
  }
