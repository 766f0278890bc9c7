use Rattle.std.proofs.Common.{◌≡◌, ◌+◌, drop}
use Rattle.std.specs.List.{position_or_len}
use Rattle.rv_job.specs.Parts.{is_line_feed}
use Rattle.rv_job.proofs.parts.count_before_line_feed.Given as goal

-- no line feed yet
abbrev pub invariant-loop-count : goal.invariant-loop-count
invariant-loop-count l = position_or_len is_line_feed l.text ≡ l.count
    + position_or_len is_line_feed (drop l.count l.text)
