use Rattle.box_space.proofs.ViewSteps.{viewed}
use Rattle.box_space.proofs.boxes.BoxEnds.view.Goals as goal

pub returns-clause-proper : goal.returns-clause-proper
returns-clause-proper c = λ n h. viewed n c.args.self.now _ c.as_slice.ensures.value c.as_slice-2.ensures.value h
