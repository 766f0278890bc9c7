-- Each instruction passes through the stages in order.
use Rattle.rv_hardware.proofs.Words.{List, All, Values, Hardware, HasOrderedStamps, rows_of, Step, All-Each}
use Rattle.rv_hardware.proofs.Words.{Each-weaker, arith}
use Rattle.rv_hardware.proofs.Marks.History.{History, history_is_sound}

-- the field `stamps_in_order` of `Laws`, over every history
pub law_of_stamps_in_order : {v : Values} {steps : List Step} {h : Hardware} → History v steps h →
    All HasOrderedStamps (rows_of steps)
law_of_stamps_in_order given holds history = grind (arith, All-Each, Each-weaker, history_is_sound)
