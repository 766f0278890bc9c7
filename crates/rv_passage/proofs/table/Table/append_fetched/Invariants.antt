use Rattle.std.proofs.Common.{◌≡◌, ◌≤◌, ◌+◌, drop, length, vec_capacity}
use Rattle.rv_passage.specs.Passage.{in_buffers}
use Rattle.rv_passage.specs.Table.{passages_of, with_fetched}
use Rattle.rv_passage.proofs.table.Table.append_fetched.Given as goal

-- the instructions so far are appended, and there is room for the others
abbrev pub invariant-loop-place : goal.invariant-loop-place
invariant-loop-place l =
    let now = in_buffers l.rob l.front in
    record {
      appended : with_fetched (drop l.place now) (passages_of l.self)
          ≡ with_fetched (drop l.fn.from now) (passages_of l.fn.self);
      room : length l.self.rows.items + length (drop l.place now) ≤ vec_capacity l.self.rows;
      capacity : vec_capacity l.self.rows ≡ vec_capacity l.fn.self.rows;
      interrupts : l.self.interrupts ≡ l.fn.self.interrupts;
    }
