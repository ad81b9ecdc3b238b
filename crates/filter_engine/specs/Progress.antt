-- What an evaluation under way means.
use Rattle.std.specs.Prelude.{unwrap_or}
use Rattle.attr_model.specs.declared.attrs.Attrs.{Attrs}
use Rattle.filter_engine.specs.declared.evaluation.Progress.{Progress}
use Rattle.filter_engine.specs.Verdict.{Course}

-- attributes to which no set was applied are those of the route
abbrev pub course_of : Attrs → Progress → Course
course_of route progress = record { attrs = unwrap_or progress.changed route; hop = progress.hop; passes = progress.passes }
