use Rattle.std.proofs.Common.{◌≡◌, ◌++◌, take}
use Rattle.rv_describe.specs.Near.{near_keys}
use Rattle.rv_describe.proofs.near.add_near.Given as goal

-- those of the keys so far are added
abbrev pub invariant-loop-key : goal.invariant-loop-key
invariant-loop-key l = l.found.items ≡ l.initial.found.items ++ near_keys l.distance l.name (take l.key-index l.keys)
