use Rattle.std.proofs.Common.{◌≡◌, ◌++◌, map, take}
use Rattle.rv_refusal.specs.Near.{other_names}
use Rattle.rv_refusal.proofs.near.add_others.Given as goal

-- the names so far are appended
abbrev pub invariant-loop-name : goal.invariant-loop-name
invariant-loop-name l = l.out.items ≡ l.initial.out.items
    ++ other_names (map (λ name. name.now) (take l.name-index l.names))
