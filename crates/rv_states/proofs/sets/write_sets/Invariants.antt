use Rattle.rv_states.specs.Sets.{set_line}
use Rattle.rv_text.proofs.Writing.{texts_below}
use Rattle.rv_text.specs.Said.{Says}
use Rattle.rv_states.proofs.sets.write_sets.Given as goal

-- the lines so far are said
abbrev pub invariant-loop-set : goal.invariant-loop-set
invariant-loop-set g l = Says g.W.Write.contents l.initial.out l.out (texts_below (set_line l.hardware) l.set)
