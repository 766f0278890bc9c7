use Rattle.std.proofs.Common.{◌≡◌, ◌++◌, drop, map, None, option_copied}
use Rattle.rv_refusal.specs.KeyNames.{tables_from}
use Rattle.rv_refusal.proofs.key_names.add_tables.Given as goal

-- the tables so far, and those of the other keys
abbrev pub invariant-loop-key : goal.invariant-loop-key
invariant-loop-key l =
    map (λ name. name.now) l.initial.names.items ++ tables_from None l.fn.keys
    ≡ map (λ name. name.now) l.names.items ++ tables_from (option_copied l.last) (drop l.key-index l.keys)
