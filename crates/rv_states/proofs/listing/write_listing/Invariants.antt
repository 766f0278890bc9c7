use Rattle.rv_states.specs.Listing.{numbered_line}
use Rattle.rv_text.proofs.Writing.{texts_below}
use Rattle.rv_text.specs.Said.{Says}
use Rattle.rv_states.proofs.listing.write_listing.Given as goal

-- the lines so far are said
abbrev pub invariant-loop-number : goal.invariant-loop-number
invariant-loop-number g l =
    Says g.W.Write.contents l.initial.out l.out (texts_below (numbered_line l.listing l.values.ram_base) l.number)
