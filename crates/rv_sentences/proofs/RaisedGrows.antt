-- Since when the interrupt lines are high, with one cycle more.
use Rattle.std.proofs.Common.{◌≡◌, List, [], ◌∷◌, ◌++◌, refl}
use Rattle.rv_isa.specs.declared.lines.Arrival.{Arrival}
use Rattle.rv_hardware.specs.Guided.{GuidedHardware}
use Rattle.rv_hardware.specs.History.{History, Moment, cycled, ended}
use Rattle.rv_sentences.specs.Untaken.{none_raised, raised_from, raised_of, raised_with}
use Rattle.rv_sentences.specs.declared.raised.Raised.{Raised}

raised_from-push : {arrivals : List Arrival} {old now : GuidedHardware} {moments : List Moment} (raised : Raised)
    (moment : Moment) → History arrivals old moments now
    → raised_from raised old.hardware (moments ++ moment ∷ [])
    ≡ raised_with now.hardware.cycle moment.after.lines (raised_from raised old.hardware moments)
raised_from-push raised moment ended = refl
raised_from-push {old = old} raised moment (cycled {moment = first} cycle rest) =
    raised_from-push (raised_with old.hardware.cycle first.after.lines raised) moment rest

-- since when the lines are high, with one cycle more
pub raised-push : {arrivals : List Arrival} {old now : GuidedHardware} {moments : List Moment} (moment : Moment) →
    History arrivals old moments now
    → raised_of old.hardware (moments ++ moment ∷ []) ≡ raised_with now.hardware.cycle moment.after.lines
    (raised_of old.hardware moments)
raised-push moment passes = raised_from-push none_raised moment passes
