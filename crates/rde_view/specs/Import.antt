-- Candidates without numbers.
use Rattle.attr_model.specs.declared.attrs.Attrs.{Attrs}
use Rattle.decision.specs.declared.candidate.Candidate.{Candidate}
use Rattle.decision.specs.declared.candidate.Found.{Found}
use Rattle.filter_engine.specs.declared.verdict.Hop.{Hop}
use Rattle.route_world.specs.Import.{with_given}

-- what was found, as a candidate
abbrev pub as_candidate : Found → Candidate
as_candidate found = record {
  from = found.from;
  attrs = record { number = 0; attrs = found.attrs };
  eligible = found.eligible;
  bgp_id = found.bgp_id;
  own_as = found.own_as;
}

-- the attributes with the next hop that was given
abbrev pub given : Attrs × Hop → Attrs
given passed = with_given passed.0 passed.1
