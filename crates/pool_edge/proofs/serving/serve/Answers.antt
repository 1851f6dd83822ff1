use Rattle.pool_edge.proofs.serving.serve.Goals as goal

pub answer-status-requires : goal.answer-status-requires
answer-status-requires g c = record { shelf = c.requires.shelf; disk = c.requires.disk }

pub returns : goal.returns
returns g c = record {
  served = record {
    status = c.answer-status.result;
    answers = c.answer-status.ensures;
    code_is = c.end_with.ensures.code;
    line = c.end_with.ensures.line;
  };
}
