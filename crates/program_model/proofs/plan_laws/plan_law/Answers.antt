use Rattle.std.proofs.Common.{arith}
use Rattle.pool_model.specs.Plan.{plan_of}
use Rattle.program_model.specs.Points.{proportion_flows, quality_flows}
use Rattle.program_model.proofs.FormP.{point_of_p-obeys}
use Rattle.program_model.proofs.FormQ.{point_of_q-obeys}
use Rattle.program_model.proofs.SameFlows.{cost-same}
use Rattle.program_model.proofs.PlanFlows.{plan-same, plan-obeys, proportions-parts, proportions-written, qualities-parts, qualities-written}
use Rattle.program_model.proofs.plan_laws.plan_law.Goals as goal

pub returns : goal.returns
returns c = record {
  q_written = proportions-written;
  q_flows = λ n q w lim point h. plan-same n (proportion_flows q) w h.flows (proportions-parts n q w lim point h);
  q_cost = λ n q w lim point h. cost-same n (plan_of n w) (proportion_flows q) (plan-same n (proportion_flows q) w h.flows (proportions-parts n q w lim point h));
  q_obeys = λ n q w lim point h.
      plan-obeys n (proportion_flows q) w lim (point_of_q-obeys n q lim point) (omega (arith, h.base, point.prop_base)) h.flows (proportions-parts n q w lim point h);
  p_written = qualities-written;
  p_flows = λ n q w lim point h. plan-same n (quality_flows q) w h.flows (qualities-parts n q w lim point h);
  p_cost = λ n q w lim point h. cost-same n (plan_of n w) (quality_flows q) (plan-same n (quality_flows q) w h.flows (qualities-parts n q w lim point h));
  p_obeys = λ n q w lim point h. plan-obeys n (quality_flows q) w lim (point_of_p-obeys n q lim point) h.base.positive h.flows (qualities-parts n q w lim point h);
}
