use Rattle.std.proofs.Common.{◌≡◌, ◌++◌, map, take}
use Rattle.rv_isa.specs.Key.{text_of}
use Rattle.rv_refusal.proofs.key_names.add_keys.Given as goal

-- the keys so far
abbrev pub invariant-loop-key : goal.invariant-loop-key
invariant-loop-key l = map (λ name. name.now) l.names.items ≡ map (λ name. name.now) l.initial.names.items
    ++ map text_of (take l.key-index l.keys)
