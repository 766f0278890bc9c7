use Rattle.std.proofs.Common.{◌≡◌, ◌++◌, map, take}
use Rattle.rv_refusal.specs.KeyHint.{each_name}
use Rattle.rv_refusal.proofs.key_hint.add_each_name.Given as goal

-- the names so far are appended
abbrev pub invariant-loop-name : goal.invariant-loop-name
invariant-loop-name l = l.out.items ≡ l.initial.out.items
    ++ each_name (map (λ name. name.now) (take l.name-index l.names))
