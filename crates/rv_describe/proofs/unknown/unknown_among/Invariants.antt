use Rattle.std.proofs.Common.{◌≡◌, not, Some}
use Rattle.toml.specs.View.{members_view}
use Rattle.rv_describe.specs.Unknown.{any_member, is_key}
use Rattle.rv_describe.proofs.unknown.unknown_among.Given as goal

abbrev pub invariant-loop-inner : goal.invariant-loop-inner
invariant-loop-inner l =
    any_member (λ inner value. not (is_key (Some l.name) inner)) (members_view l.inner-iterator)
    ≡ any_member (λ inner value. not (is_key (Some l.name) inner)) (members_view l.table.entries)
