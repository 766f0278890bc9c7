use Rattle.std.proofs.Common.{◌≡◌, ◌+◌, drop}
use Rattle.std.specs.List.{position_from}
use Rattle.toml.specs.View.{table_view}
use Rattle.rv_describe.specs.Fault.{is_fault, key_fault}
use Rattle.rv_describe.proofs.faults.first_among.Given as goal

abbrev pub invariant-loop-key : goal.invariant-loop-key
invariant-loop-key l =
    (l.place ≡ l.key-index + 1)
    × (position_from (λ key. is_fault (key_fault (table_view l.table) key) l.fault) (l.key-index + 1)
    (drop l.key-index l.keys)
    ≡ position_from (λ key. is_fault (key_fault (table_view l.table) key) l.fault) 1 l.fn.keys)
