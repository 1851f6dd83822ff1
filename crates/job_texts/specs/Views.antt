-- Jobs, answers and places in a text, without where they lie in memory.
use Rattle.std.specs.Prelude.{List, Vec, map}
use Rattle.std.specs.declared.alloc.Global.{Global}
use Rattle.box_space.specs.Views.{shown_split}
use Rattle.cert_text.specs.Reading.{At}
use Rattle.cert_text.specs.declared.source.SliceSource.{SliceSource}
use Rattle.work_units.specs.Units as units
use Rattle.work_units.specs.Views.{shown_answer}
use Rattle.work_units.specs.declared.answer.Answer.{Answer}
use Rattle.job_texts.specs.Texts.{Jobs}
use Rattle.job_texts.specs.declared.jobs.JobsText.{JobsText}

-- jobs
abbrev pub shown_jobs : JobsText → Jobs
shown_jobs t = record { shape = t.shape; splits = map shown_split t.splits.items; jobs = t.jobs.items }

-- answers
abbrev pub shown_answers : Vec Answer Global → List units.Answer
shown_answers v = map shown_answer v.items

-- where a text that lies in memory goes on
abbrev pub place_of : SliceSource → At
place_of s = record { line = s.line; rest = s.rest.now }
