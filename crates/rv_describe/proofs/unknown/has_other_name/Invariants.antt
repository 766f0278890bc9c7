use Rattle.std.proofs.Common.{◌≡◌, map}
use Rattle.toml.specs.View.{members_view}
use Rattle.rv_describe.specs.Unknown.{has_other_name}
use Rattle.rv_describe.proofs.unknown.has_other_name.Given as goal

-- no name so far is another
abbrev pub invariant-loop-name : goal.invariant-loop-name
invariant-loop-name l =
    has_other_name (map (λ name. name.now) l.names) (members_view l.name-iterator)
    ≡ has_other_name (map (λ name. name.now) l.names) (members_view l.table.entries)
