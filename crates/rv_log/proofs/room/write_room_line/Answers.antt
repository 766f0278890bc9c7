use Rattle.std.proofs.Common.{◌∙◌, ◌++◌, codes}
use Rattle.rv_log.specs.Room.{room_line}
use Rattle.rv_text.proofs.Saying.{says_same}
use Rattle.rv_log.proofs.room.write_room_line.Goals as goal

pub returns : goal.returns
unfolding room_line
returns g c =
    let id = c.as_bytes-id.ensures.value ∙ c.format.ensures.text in
    let cycle = c.as_bytes-cycle.ensures.value ∙ c.format-2.ensures.text in
    says_same (λ i. codes "L\t"
    ++ (id i ++ (codes "\t1\t"
    ++ (c.room_name.ensures i ++ (codes " from cycle " ++ (cycle i ++ codes "; \n")))))) c.put_all.ensures
