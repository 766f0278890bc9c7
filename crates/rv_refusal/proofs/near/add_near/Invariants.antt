use Rattle.std.proofs.Common.{◌≡◌, ◌++◌, map, take}
use Rattle.std.specs.List.{filter}
use Rattle.rv_describe.specs.Near.{is_near}
use Rattle.rv_refusal.proofs.near.add_near.Given as goal

-- those of the names so far are added
abbrev pub invariant-loop-other : goal.invariant-loop-other
invariant-loop-other l = map (λ other. other.now) l.found.items
    ≡ map (λ other. other.now) l.initial.found.items
    ++ filter (is_near l.distance l.name) (map (λ other. other.now) (take l.other-index l.known))
