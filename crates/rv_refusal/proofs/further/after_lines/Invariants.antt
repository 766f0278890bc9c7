use Rattle.std.proofs.Common.{◌≡◌, ◌+◌, ◌≤◌, ◌==◌, drop, length, IfSome}
use Rattle.std.specs.List.{slice_split}
use Rattle.rv_asm.specs.Kept.{lines_left}
use Rattle.rv_refusal.proofs.further.after_lines.Given as goal

-- so many lines are passed
abbrev pub invariant-loop-passed : goal.invariant-loop-passed
invariant-loop-passed l = record {
  lines : lines_left l.rest ≡ drop l._passed (slice_split (λ byte. byte == 10) l.fn.text);
  shorter : IfSome l.rest (λ rest. l._passed + length rest.now ≤ length l.fn.text);
}
