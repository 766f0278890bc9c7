-- Where nothing ran before, an instruction that comes first is fetched in cycle 0 and dispatched in cycle 1.
use Rattle.rv_hardware.proofs.Words.{◌≡◌, List, ◌∷◌, arith, Values, Hardware, IsFirst, Row, Step, Retired}
use Rattle.rv_hardware.proofs.Marks.Cited.{History, history_is_sound}
use Rattle.rv_hardware.proofs.Laws.HeadsDoNotWait.Ahead.{all_follow}

-- the field `first_row` of `Laws`, over every history
pub law_of_first_row : {v : Values} {steps : List Step} {h : Hardware} → History v steps h →
    (row : Row) (rest : List Step) → steps ≡ Retired row ∷ rest → IsFirst row
law_of_first_row {v} {steps} {h} history row rest at = grind (arith, all_follow, history_is_sound)
