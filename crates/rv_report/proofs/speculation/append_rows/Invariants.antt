use Rattle.std.proofs.Common.{◌≡◌, ◌++◌, map, take}
use Rattle.circular_buffer.specs.Buffer.{buffer}
use Rattle.rv_passage.specs.Prediction.{prediction_of}
use Rattle.rv_report.proofs.speculation.append_rows.Given as goal

-- those so far are appended
abbrev pub invariant-loop-row : goal.invariant-loop-row
invariant-loop-row l =
    l.predictions ≡ buffer (l.fn.predictions.items ++ map prediction_of (take l.row-index l.rows))
    l.fn.predictions.capacity
