use Rattle.rv_states.specs.Predictor.{place_line}
use Rattle.rv_text.proofs.Writing.{texts_below}
use Rattle.rv_text.specs.Said.{Says}
use Rattle.rv_states.proofs.predictor.write_place_lines.Given as goal

-- the lines so far are said
abbrev pub invariant-loop-place : goal.invariant-loop-place
invariant-loop-place g l = Says g.W.Write.contents l.initial.out l.out (texts_below (place_line l.tables) l.place)
