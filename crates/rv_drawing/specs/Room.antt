-- What a fetched word waits for until its dispatch, as a tip says it.
use Rattle.std.specs.Prelude.{ℕ, ◌&&◌, Bool, if◌then◌else◌, nat_lt, List, codes, Option, Some, None}
use Rattle.std.specs.List.{list_any}
use Rattle.rv_hardware.specs.declared.report.Stall.{Stall}
use Rattle.rv_hardware.specs.declared.report.Stall.TheVariants as stall
use Rattle.rv_passage.specs.declared.passage.Passage.{Passage}
use Rattle.rv_drawing.specs.Cell.{cell_of, is_dispatch_wait, name_of, shows}
use Rattle.rv_drawing.specs.declared.cell.Cell.TheVariants as cell

-- an older one than an instruction waits in a cycle for its dispatch
abbrev pub is_older_wait : ℕ → ℕ → Passage → Bool
is_older_wait number cycle older = nat_lt older.number number && shows is_dispatch_wait (cell_of older cycle)

-- one of some instructions does
abbrev pub has_older_wait : List Passage → ℕ → ℕ → Bool
has_older_wait passages number cycle = list_any (is_older_wait number cycle) passages

-- what the oldest fetched word waits for; where a cycle dispatched something, that is not known
unfoldable pub room_text : Option Stall → List ℕ
room_text (Some stall.Rob) = codes "wait for room in the reorder buffer"
room_text (Some stall.Station) = codes "wait for a station of its kind"
room_text (Some stall.Store) = codes "wait for room in the store queue"
room_text (Some stall.Serial) = codes "wait for a serialising instruction"
room_text (Some stall.Fetch) = name_of cell.DispatchWait
room_text None = name_of cell.DispatchWait

-- what a fetched word waits for in a cycle among others: for the older ones where these wait too
unfoldable pub dispatch_wait : List Passage → Option Stall → ℕ → ℕ → List ℕ
dispatch_wait passages reason number cycle =
    if has_older_wait passages number cycle then codes "wait for older ones to dispatch" else room_text reason
