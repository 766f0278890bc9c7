use Rattle.std.proofs.Common.{◌≡◌, ◌&&◌, drop}
use Rattle.std.specs.{List.list_any, Option.option_copied, Str.bytes_eq}
use Rattle.rv_isa.specs.Key.{key_place}
use Rattle.rv_describe.specs.Unknown.{same_table}
use Rattle.rv_describe.proofs.unknown.is_key.Given as goal

-- no key so far is the one
abbrev pub invariant-loop-key : goal.invariant-loop-key
invariant-loop-key l =
    list_any (λ key. same_table (key_place key).table (option_copied l.table) && bytes_eq
    (key_place key).name l.name) l.key-items
    ≡ list_any (λ key. same_table (key_place key).table (option_copied l.table) && bytes_eq (key_place key).name l.name)
    (drop l.key-index l.key-items)
