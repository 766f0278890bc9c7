-- A load issues after the broadcasts of all older stores.
use Rattle.rv_hardware.proofs.Words.{◌≡◌, ℕ, ◌<◌, Bool, true, false, List, [], map, IfSome, Some, None, Option}
use Rattle.rv_hardware.proofs.Words.{AllPairs, sym, refl, ◌∙◌, true≢false, is_load, Instr, Values, Each, Hardware}
use Rattle.rv_hardware.proofs.Words.{LoadsAfterStore, instruction_of_row, is_load_row, is_store_row, rows_of, Execution}
use Rattle.rv_hardware.proofs.Words.{Row, Step, Each-weaker, Each-unmap, AllPairs-EveryPair, EveryAfter-weaker}
use Rattle.rv_hardware.proofs.Words.{EveryPair-EveryAfter, arith, Each-all}
use Rattle.rv_hardware.proofs.Marks.Cited.{IsBefore, History, mark_of_row, start_of_execution, broadcast_of_execution}
use Rattle.rv_hardware.proofs.Marks.Cited.{rows_start_after}
use Rattle.rv_hardware.proofs.Laws.Operands.Known.{Found, StartsAfter}

store_by : (c : ℕ) (x : Option Execution) → IsBefore c (broadcast_of_execution x) → IfSome x (λ s. s.broadcast < c)
store_by c x h = grind arith

both_executed : (x y : Option Execution) → IfSome y (λ t. IfSome x (λ s. s.broadcast < t.issued)) →
    IfSome x (λ s. IfSome y (λ t. s.broadcast < t.issued))
both_executed x y h = grind arith

load_by : (a : Row) (i : Option Instr) (before : List Row) (y : Option Execution) →
    IfSome (start_of_execution y) (λ s. Found (map mark_of_row before) i s.cycle) → is_load i ≡ true →
    IfSome y (λ t. Each (λ a. is_store_row a ≡ true → IfSome a.execution (λ s. s.broadcast < t.issued)) before)
load_by a i before y h load = grind (arith, Each-weaker, store_by, Each-unmap)

loads_by : (before : List Row) (row : Row) → StartsAfter (map mark_of_row before) (mark_of_row row) →
    Each (λ a. LoadsAfterStore a row) before
loads_by before row h = by_load (is_load_row row) refl
  where
    by_execution : (y : Option Execution) →
        IfSome y (λ t. Each (λ a. is_store_row a ≡ true → IfSome a.execution (λ s. s.broadcast < t.issued)) before) →
        Each (λ a. is_store_row a ≡ true → IfSome a.execution (λ s. IfSome y (λ t. s.broadcast < t.issued))) before
    by_execution None g = Each-all _ (λ a store. both_executed a.execution None tt) before
    by_execution (Some t) g = g

    by_load : (b : Bool) → is_load_row row ≡ b → Each (λ a. LoadsAfterStore a row) before
    by_load true is =
        Each-weaker _ _ (λ a f store load. f store) before
        (by_execution row.execution (load_by row (instruction_of_row row) before row.execution h is))
    by_load false is = Each-all _ (λ a store load. absurd (true≢false (sym load ∙ is))) before

-- the field `loads_after_stores` of `Laws`, over every history
pub law_of_loads_after_stores : {v : Values} {steps : List Step} {h : Hardware} → History v steps h →
    AllPairs LoadsAfterStore (rows_of steps)
law_of_loads_after_stores {v} {steps} history =
    AllPairs-EveryPair _ _ (EveryPair-EveryAfter _ [] _ (EveryAfter-weaker loads_by [] _ (rows_start_after history)))
