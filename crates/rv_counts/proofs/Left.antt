-- What leaves the hardware in a run, with one cycle more.
use Rattle.std.proofs.Common.{◌≡◌, ◌∙◌, ◌+◌, ◌*◌, ◌≤◌, List, [], ◌∷◌, ◌++◌, length, filter}
use Rattle.std.proofs.Common.{ap, sym, arith, append_assoc, append-nil, length-append}
use Rattle.rv_isa.specs.declared.lines.Arrival.{Arrival}
use Rattle.rv_hardware.specs.Guided.{GuidedHardware}
use Rattle.rv_hardware.specs.History.{History, Moment}
use Rattle.rv_passage.specs.Table.{still_open}
use Rattle.rv_passage.specs.Walk.{FollowedCycle, walk}
use Rattle.rv_passage.specs.declared.passage.Passage.{Passage}
use Rattle.rv_passage.proofs.Walk.{last_cycle, walk-push}
use Rattle.rv_counts.specs.Left.{left_after, left_in}
use Rattle.rv_counts.specs.Passing.{has_left}
use Rattle.rv_counts.proofs.Rooms.{filter-le}

left_in-push : (cycles : List FollowedCycle) (last : FollowedCycle) →
    left_in (cycles ++ last ∷ []) ≡ filter has_left last.passages.rows ++ left_in cycles
left_in-push [] last = sym (append-nil (filter has_left last.passages.rows))
left_in-push (cycle ∷ cycles) last = grind (arith, append_assoc, left_in-push cycles last)

-- one more cycle, with these passages at its end
module _ {arrivals : List Arrival} {first now : GuidedHardware} {moments : List Moment}
    (passes : History arrivals first moments now) (last : Moment)
    {rows : List Passage} (rows_are : rows ≡ (last_cycle still_open passes last).passages.rows) where
  -- those that left the hardware in it come first
  pub left-push : left_after first.hardware (moments ++ last ∷ []) ≡ filter has_left rows
      ++ left_after first.hardware moments
  left-push =
      ap left_in (walk-push still_open passes last)
      ∙ left_in-push (walk still_open first.hardware moments) (last_cycle still_open passes last)
      ∙ ap (λ ps. filter has_left ps ++ left_after first.hardware moments) (sym rows_are)

  -- no cycle lets more leave than were in flight before it and fetched in it
  pub some_left-push : length rows ≤ 576 → last.after.cycle ≡ now.hardware.cycle + 1 →
      length (left_after first.hardware moments) ≤ 576 * now.hardware.cycle
      → length (left_after first.hardware (moments ++ last ∷ [])) ≤ 576 * last.after.cycle
  some_left-push few one_more some_left = grind (arith, filter-le, left-push, length-append)
