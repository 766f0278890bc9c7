-- Each row that used a unit took one of the described costs.
use Rattle.rv_hardware.proofs.Words.{List, All, Values, Hardware, HasCost, rows_of, Step, All-Each, Each-weaker, arith}
use Rattle.rv_hardware.proofs.Marks.History.{History, history_is_sound}

-- the field `costs` of `Laws`, over every history
pub law_of_costs : {v : Values} {steps : List Step} {h : Hardware} → History v steps h → All (HasCost v) (rows_of steps)
law_of_costs given holds history = grind (arith, All-Each, Each-weaker, history_is_sound)
