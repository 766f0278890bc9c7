-- The instructions that leave the hardware in a run.
use Rattle.std.specs.Prelude.{List, [], ◌∷◌, ◌++◌, filter}
use Rattle.rv_hardware.specs.Hardware.{Hardware}
use Rattle.rv_hardware.specs.History.{Moment}
use Rattle.rv_passage.specs.Table.{still_open}
use Rattle.rv_passage.specs.Walk.{FollowedCycle, passages_after, walk}
use Rattle.rv_passage.specs.declared.passage.Passage.{Passage}
use Rattle.rv_counts.specs.Passing.{has_left}

-- the passages that left the hardware in some cycles, those of the latest cycle first
abbrev pub left_in : List FollowedCycle → List Passage
left_in [] = []
left_in (cycle ∷ cycles) = left_in cycles ++ filter has_left cycle.passages.rows

-- in a run from some hardware on
abbrev pub left_after : Hardware → List Moment → List Passage
left_after first moments = left_in (walk still_open first moments)

-- all passages of a run: those of the instructions in flight at its end, and those that left the hardware in it
abbrev pub passages_of_run : Hardware → List Moment → List Passage
passages_of_run first moments = (passages_after still_open first moments).rows ++ left_after first moments
