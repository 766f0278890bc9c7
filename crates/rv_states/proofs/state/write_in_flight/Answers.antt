use Rattle.std.specs.Prelude.{◌++◌, codes, map, List, ℕ}
use Rattle.rv_front.specs.FetchBuffer.{FetchBuffer}
use Rattle.rv_rob.specs.ReorderBuffer.{ReorderBuffer}
use Rattle.rv_watch.specs.Registers.{values_in}
use Rattle.rv_states.specs.Entries.{entries_json}
use Rattle.rv_states.specs.Fetched.{fetched_json, next_fetch_text}
use Rattle.rv_states.specs.Json.{also, array}
use Rattle.rv_states.specs.State.{in_flight_text}
use Rattle.rv_text.proofs.Saying.{says_both, says_same}
use Rattle.rv_states.proofs.state.write_in_flight.Goals as goal

pub returns : goal.returns
unfolding in_flight_text
returns g c =
    let words = λ (f : FetchBuffer). also (codes "fetch_buffer") (array (map fetched_json f.entries))
    ++ next_fetch_text f in
    let entries = λ (registers : List ℕ) (rob : ReorderBuffer).
    also (codes "reorder_buffer") (array (entries_json (values_in registers) rob.retired rob.entries)) in
    says_both
    (says_same (λ i. entries (c.observe.ensures.registers i) (c.reorder_buffer-buffer.ensures i))
    c.write_array_member.ensures)
    (says_same (λ i. words (c.front.ensures i)) c.write_fetch_buffer.ensures)
