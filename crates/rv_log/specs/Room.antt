-- What a log says of the fetched words that wait for room: what the oldest of them waits for, from the first cycle on
-- in which it does.
use Rattle.std.specs.Prelude.{ℕ, ◌&&◌, not, Bool, true, false, if◌then◌else◌, is_none}
use Rattle.std.specs.Prelude.{List, [], ◌++◌, codes, decimal, Option, Some, None}
use Rattle.std.specs.{List.find, Option.option_map}
use Rattle.rv_hardware.specs.Report.{is_same_stall}
use Rattle.rv_hardware.specs.declared.report.Stall.{Stall}
use Rattle.rv_hardware.specs.declared.report.Stall.TheVariants as stall
use Rattle.rv_drawing.specs.Room.{room_text}
use Rattle.rv_passage.specs.Passage.{is_in_flight}
use Rattle.rv_passage.specs.declared.passage.Passage.{Passage}
use Rattle.rv_log.specs.declared.room.Stalled.{Stalled}

-- an instruction is in the fetch buffer
abbrev pub is_fetched_word : Passage → Bool
is_fetched_word p = is_in_flight p && is_none p.dispatched

-- the number of the oldest of these, if there is one
abbrev pub oldest_fetched : List Passage → Option ℕ
oldest_fetched rows = option_map (λ (p : Passage). p.number) (find is_fetched_word rows)

-- words wait for room, and not that there are any
abbrev pub is_for_room : Stall → Bool
is_for_room stall.Fetch = false
is_for_room _ = true

-- the cycle before had the same reason
abbrev pub is_as_before : Stall → Option Stall → Bool
is_as_before reason None = false
is_as_before reason (Some before) = is_same_stall reason before

-- the label (L) of the pane of details; more text may come after it there
unfoldable pub room_line : ℕ → Stall → ℕ → List ℕ
room_line cycle reason number =
    codes "L\t" ++ (decimal number
    ++ (codes "\t1\t" ++ (room_text (Some reason) ++ (codes " from cycle " ++ (decimal cycle ++ codes "; \n")))))

-- that of the oldest fetched word, where there is one
unfoldable pub room_of : ℕ → Stall → Option ℕ → List ℕ
room_of cycle reason None = []
room_of cycle reason (Some oldest) = room_line cycle reason oldest

-- that where a cycle dispatched nothing for want of room, and the cycle before not for the same reason
unfoldable pub room_for : ℕ → Option Stall → Option Stall → Option ℕ → List ℕ
room_for cycle before None oldest = []
room_for cycle before (Some reason) oldest =
    if is_for_room reason && not (is_as_before reason before) then room_of cycle reason oldest else []

-- that among the instructions at the end of the cycle
unfoldable pub room_at : ℕ → Stalled → List Passage → List ℕ
room_at cycle stalled rows = room_for cycle stalled.before stalled.reason (oldest_fetched rows)
