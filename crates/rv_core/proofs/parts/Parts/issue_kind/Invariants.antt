use Rattle.rv_core.proofs.Words.{◌≡◌, ◌-◌, issue_kind, issue_turn, repeated}
use Rattle.rv_core.specs.Passed.{NoneIssues}
use Rattle.rv_core.proofs.parts.Parts.issue_kind.Given as goal

-- what is still to come from here leads to the same, and the next search passes by what it may
abbrev pub invariant-loop : goal.invariant-loop
invariant-loop l =
    (repeated (issue_turn l.kind) (l.end - l.counter) l.self ≡ issue_kind l.kind l.fn.self)
    × NoneIssues l.kind l.passed l.self
