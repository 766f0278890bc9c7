use Rattle.std.proofs.Common.{◌≡◌, ◌≤◌, ◌==◌, filter, length, map, take, vec_capacity}
use Rattle.rv_report.specs.Speculation.{prediction_of_word}
use Rattle.rv_report.proofs.speculation.note_fetched.Given as goal

-- the words so far are looked at
abbrev pub invariant-loop-place : goal.invariant-loop-place
invariant-loop-place l = record {
  items : l.latest.items ≡ map prediction_of_word (filter (λ f. f.cycle == l.cycle) (take l.place l.front.entries));
  few : length l.latest.items ≤ l.place;
  capacity : vec_capacity l.fn.latest ≤ vec_capacity l.latest;
}
