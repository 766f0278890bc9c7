use Rattle.std.proofs.Common.{◌≡◌, ◌≤◌, length, take, vec_capacity}
use Rattle.rv_causes.specs.Numbering.{number_by}
use Rattle.rv_path.specs.Marking.{marks_of}
use Rattle.rv_path.proofs.marks.marks_of.Given as goal

-- those of the events so far
abbrev pub invariant-loop-event : goal.invariant-loop-event
invariant-loop-event l = record {
  marks : l.marks.items ≡ marks_of l.from (number_by l.numbering.numbers.items l.numbering.fetched)
      (take l.event-index l.path);
  few : length l.marks.items ≤ l.event-index;
  room : length l.path ≤ vec_capacity l.marks;
}
