-- Of hardware that a described predictor guides there are the marks of one path.
use Rattle.std.proofs.Common.{◌∙◌, ℕ, ◌+◌, List, ap, sym}
use Rattle.rv_isa.specs.declared.lines.Arrival.{Arrival}
use Rattle.rv_passage.proofs.OneRun.{one_run}
use Rattle.rv_path.specs.Marking.{IsMarked, marks_of_run}
use Rattle.rv_path.specs.Run.{HasOneAnswer}

-- of a run of described hardware the path has the marks of one list
pub one_marking : (arrivals : List Arrival) (from cycles : ℕ) →
    HasOneAnswer (from + cycles) (IsMarked arrivals from cycles)
one_marking arrivals from cycles h predictor new new' marks marks' within is is' =
    let same = one_run within is.run is'.run in
    is.marks_are ∙ ap (marks_of_run from h) same.moments_are ∙ sym is'.marks_are
