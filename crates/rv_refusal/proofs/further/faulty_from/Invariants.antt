use Rattle.std.proofs.Common.{◌≡◌, ◌+◌, ◌-◌, ◌≤◌, ◌++◌, ◌==◌, ◌^◌, length, take, IfSome}
use Rattle.std.specs.List.{slice_split}
use Rattle.std.specs.Option.{option_map_or}
use Rattle.rv_asm.specs.Kept.{lines_left}
use Rattle.rv_refusal.specs.Further.{faulty_from}
use Rattle.rv_refusal.proofs.further.faulty_from.Given as goal

-- what is left of the text gives the others
abbrev pub invariant-loop-rest : goal.invariant-loop-rest
invariant-loop-rest l = record {
  numbered : IfSome l.rest (λ text. l.number + length text.now ≤ 2 ^ 63);
  few : l.faults.count ≤ l.number;
  shown : take 20 (faulty_from l.fn.number (slice_split (λ byte. byte == 10) l.fn.text))
      ≡ l.faults.shown.items ++ take (20 - l.faults.count) (faulty_from l.number (lines_left l.rest));
  counted : length (faulty_from l.fn.number (slice_split (λ byte. byte == 10) l.fn.text))
      ≡ l.faults.count + length (faulty_from l.number (lines_left l.rest));
}

abbrev pub decreases-loop-rest : goal.decreases-loop-rest
decreases-loop-rest l = option_map_or (λ text. length text.now + 1) l.rest 0
