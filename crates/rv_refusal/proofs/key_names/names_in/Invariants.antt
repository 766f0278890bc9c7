use Rattle.std.proofs.Common.{◌≡◌, map, option_copied, take}
use Rattle.rv_isa.specs.Key.{order}
use Rattle.rv_refusal.specs.KeyNames.{names_in}
use Rattle.rv_refusal.proofs.key_names.names_in.Given as goal

-- those of the keys so far
abbrev pub invariant-loop-key : goal.invariant-loop-key
invariant-loop-key l = map (λ name. name.now) l.names.items ≡ names_in (option_copied l.table) (take l.key-index order)
