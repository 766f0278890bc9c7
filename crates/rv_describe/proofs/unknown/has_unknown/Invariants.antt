use Rattle.std.proofs.Common.{◌≡◌}
use Rattle.toml.specs.View.{members_view}
use Rattle.rv_describe.specs.Unknown.{any_member, unknown_at_top}
use Rattle.rv_describe.proofs.unknown.has_unknown.Given as goal

abbrev pub invariant-loop-name : goal.invariant-loop-name
invariant-loop-name l =
    any_member unknown_at_top (members_view l.name-iterator) ≡ any_member unknown_at_top (members_view l.table.entries)
