use Rattle.std.proofs.Common.{◌≡◌, map, take}
use Rattle.rv_isa.specs.Key.{order}
use Rattle.rv_refusal.specs.KeyNames.{keys_named}
use Rattle.rv_refusal.proofs.key_names.keys_named.Given as goal

-- those of the keys so far
abbrev pub invariant-loop-key : goal.invariant-loop-key
invariant-loop-key l = map (λ name. name.now) l.names.items ≡ keys_named l.name (take l.key-index order)
