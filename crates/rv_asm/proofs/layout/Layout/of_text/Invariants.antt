use Rattle.std.proofs.Common.{◌≡◌, ◌+◌, ◌≤◌, ◌++◌, ◌==◌, length, map, IfSome}
use Rattle.std.specs.List.{slice_split}
use Rattle.std.specs.Option.{option_map_or}
use Rattle.rv_asm.specs.Faults.{earliest, first_fault_of, first_faults}
use Rattle.rv_asm.specs.Kept.{kept, lines_left}
use Rattle.rv_asm.specs.Layout.{laid, layout, line_in, lines_of, unlaid}
use Rattle.rv_asm.specs.Symbols.{layout_of, kept_in}
use Rattle.rv_asm.proofs.layout.Layout.of_text.Given as goal

-- what is left of the text gives what all of it gives
abbrev pub invariant-loop-rest : goal.invariant-loop-rest
invariant-loop-rest l = record {
  numbered : IfSome l.rest (λ text. l.number + length text.now ≤ length l.text + 1);
  faults : first_fault_of (lines_of l.text)
      ≡ earliest l.number (first_faults (layout_of l.layout) (map line_in (lines_left l.rest)));
  whole : layout (lines_of l.text) ≡ laid (layout_of l.layout) (map line_in (lines_left l.rest));
  places : kept 1 unlaid (slice_split (λ byte. byte == 10) l.text)
      ≡ kept_in l.layout.records.items ++ kept l.number (layout_of l.layout) (lines_left l.rest);
}

abbrev pub decreases-loop-rest : goal.decreases-loop-rest
decreases-loop-rest l = option_map_or (λ text. length text.now + 1) l.rest 0
