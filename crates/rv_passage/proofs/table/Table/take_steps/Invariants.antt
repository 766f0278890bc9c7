use Rattle.std.proofs.Common.{◌≡◌, ◌+◌, ◌≤◌, drop, length, vec_capacity}
use Rattle.rv_passage.specs.Table.{passages_of, with_steps}
use Rattle.rv_passage.proofs.table.Table.take_steps.Given as goal

-- the steps from here on are left, and those so far noted no more than one thing each
abbrev pub invariant-loop-place : goal.invariant-loop-place
invariant-loop-place l = record {
  left : with_steps (drop l.place l.steps) l.next (passages_of l.self)
      ≡ with_steps l.steps l.next (passages_of l.fn.self);
  retired : l.self.retired ≤ l.fn.self.retired + l.place;
  noted : length l.self.interrupts.items ≤ length l.fn.self.interrupts.items + l.place;
  len : length l.self.rows.items ≡ length l.fn.self.rows.items;
  rows : vec_capacity l.self.rows ≡ vec_capacity l.fn.self.rows;
  interrupts : vec_capacity l.self.interrupts ≡ vec_capacity l.fn.self.interrupts;
}
