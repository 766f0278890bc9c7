use Rattle.std.proofs.Common.{◌≡◌, Some, drop}
use Rattle.std.specs.{List.list_any}
use Rattle.rv_isa.specs.Key.{key_place}
use Rattle.rv_describe.specs.Unknown.{same_table}
use Rattle.rv_describe.proofs.unknown.is_table.Given as goal

-- no key so far is in the table
abbrev pub invariant-loop-key : goal.invariant-loop-key
invariant-loop-key l =
    list_any (λ key. same_table (key_place key).table (Some l.name)) l.key-items
    ≡ list_any (λ key. same_table (key_place key).table (Some l.name)) (drop l.key-index l.key-items)
