-- Of the results that are ready the oldest is broadcast first.
pub mod Bus
use Rattle.rv_hardware.proofs.Words.{◌+◌, ◌≤◌, List, IfSome, Some, None, Option, AllPairs, arith, Values, Hardware}
use Rattle.rv_hardware.proofs.Words.{IsBroadcastFirst, rows_of, Execution, Step, AllPairs-EveryPair}
use Rattle.rv_hardware.proofs.Laws.OldestResultFirst.Bus.{OldestFirst, ReadyFirst, history_has_bus_order}
use Rattle.rv_hardware.proofs.Marks.Cited.{History, start_of_execution, broadcast_of_execution, row_pairs}

oldest_by : (x y : Option Execution) →
    IfSome (broadcast_of_execution y) (λ b. ReadyFirst (start_of_execution x) (broadcast_of_execution x) b) →
    IfSome x (λ s. IfSome y (λ t. s.issued + s.cost ≤ t.broadcast → s.broadcast ≤ t.broadcast))
oldest_by x y h = grind arith

-- the field `oldest_result_first` of `Laws`, over every history
pub law_of_oldest_result_first : {v : Values} {steps : List Step} {h : Hardware} → History v steps h →
    AllPairs IsBroadcastFirst (rows_of steps)
law_of_oldest_result_first {v} {steps} {h} history =
    AllPairs-EveryPair _ _
    (row_pairs OldestFirst (λ a b p. oldest_by a.execution b.execution p) steps h
    (history_has_bus_order history).oldest_first)
