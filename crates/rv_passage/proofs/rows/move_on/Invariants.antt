use Rattle.std.proofs.Common.{◌≡◌, ◌≤◌, ℕ, [], ◌++◌, take, drop}
use Rattle.rv_passage.specs.Passage.{in_buffers}
use Rattle.rv_passage.specs.Shown.{AreStill}
use Rattle.rv_passage.specs.Table.{buffers_from, moved_on}
use Rattle.rv_passage.specs.declared.rows.RowsAre.TheVariants.{Current}
use Rattle.rv_passage.proofs.rows.move_on.Given as goal

-- the passages so far are moved on, and what is left of those in flight is for the others
abbrev pub invariant-loop-place : goal.invariant-loop-place
invariant-loop-place l = record {
  moved : (number : ℕ) → moved_on l.cycle number [] l.fn.rows (in_buffers l.rob l.front) ≡
      take l.place l.rows
      ++ moved_on l.cycle number (take l.place l.rows) (drop l.place l.rows) (buffers_from l.next l.rob l.front);
  no_further : l.next ≤ l.place;
  still : l.rows_are ≡ Current → AreStill l.cycle (drop l.place l.rows) (buffers_from l.next l.rob l.front);
}
