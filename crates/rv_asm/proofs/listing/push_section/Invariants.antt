use Rattle.std.proofs.Common.{◌≡◌, ◌++◌, length}
use Rattle.rv_asm.specs.Listing.{words_in}
use Rattle.rv_asm.specs.Symbols.{kept_in}
use Rattle.rv_asm.proofs.listing.push_section.Given as goal

-- the words of the rest complete those of all records
abbrev pub invariant-loop-rest : goal.invariant-loop-rest
invariant-loop-rest l =
    record l.listing { words = l.listing.words ++ words_in l.section l.layout.reach (kept_in l.rest) }
    ≡ record l.initial.listing {
      words = l.initial.listing.words
          ++ words_in l.section l.layout.reach (kept_in l.layout.records.items);
    }

abbrev pub decreases-loop-rest : goal.decreases-loop-rest
decreases-loop-rest l = length l.rest
