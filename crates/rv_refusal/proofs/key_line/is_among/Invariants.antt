use Rattle.std.proofs.Common.{◌≡◌, map, drop}
use Rattle.std.specs.{List.list_any, Str.bytes_eq}
use Rattle.rv_refusal.proofs.key_line.is_among.Given as goal

-- none so far is the name
abbrev pub invariant-loop-other : goal.invariant-loop-other
invariant-loop-other l =
    list_any (bytes_eq l.name) (map (λ other. other.now) l.names)
    ≡ list_any (bytes_eq l.name) (map (λ other. other.now) (drop l.other-index l.names))
