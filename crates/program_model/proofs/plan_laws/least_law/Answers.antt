use Rattle.program_model.specs.Points.{proportion_flows, quality_flows}
use Rattle.program_model.proofs.Least.{written-whole_flows, written-whole_parts}
use Rattle.program_model.proofs.plan_laws.least_law.Goals as goal

pub returns : goal.returns
returns c = record {
  q_flow_base = λ n q w other h written same. (h.flows.flow_base.whole other.flow_base).0 (written-whole_flows n (proportion_flows q) other written same);
  p_flow_base = λ n q w other h written same. (h.flows.flow_base.whole other.flow_base).0 (written-whole_flows n (quality_flows q) other written same);
  p_base = λ n q w other h written same. (h.base.whole other.base).0 (written-whole_parts n (quality_flows q) other written same);
}
