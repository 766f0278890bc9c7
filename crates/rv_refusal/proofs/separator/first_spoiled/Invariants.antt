use Rattle.std.proofs.Common.{◌≡◌, ◌+◌, ◌≤◌, ◌==◌, length, IfSome}
use Rattle.std.specs.List.{slice_split}
use Rattle.std.specs.Option.{option_map_or}
use Rattle.rv_asm.specs.Kept.{lines_left}
use Rattle.rv_refusal.specs.Separator.{first_spoiled}
use Rattle.rv_refusal.proofs.separator.first_spoiled.Given as goal

-- what is left of the text has the line
abbrev pub invariant-loop-rest : goal.invariant-loop-rest
invariant-loop-rest l = record {
  numbered : IfSome l.rest (λ rest. l.number + length rest.now ≤ length l.text + 1);
  first : first_spoiled 1 (slice_split (λ byte. byte == 10) l.text) ≡ first_spoiled l.number (lines_left l.rest);
}

abbrev pub decreases-loop-rest : goal.decreases-loop-rest
decreases-loop-rest l = option_map_or (λ text. length text.now + 1) l.rest 0
