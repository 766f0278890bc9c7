use Rattle.std.proofs.Common.{◌+◌, ◌≤◌, ◌-◌, vec_len}
use Rattle.std.specs.Io.KnownBytes.{Consumes}
use Rattle.rv_job.specs.Input.{most_bytes}
use Rattle.rv_job.proofs.input.read_input.Given as goal

-- what is held was read
abbrev pub invariant-loop-chunk : goal.invariant-loop-chunk
invariant-loop-chunk g l =
    record {
      in_range : vec_len l.input ≤ most_bytes + 1;
      consumed : Consumes (g.R.Read.remaining l.initial.reader) (g.R.Read.remaining l.reader) l.input.items;
    }

abbrev pub decreases-loop-chunk : goal.decreases-loop-chunk
decreases-loop-chunk g l = (most_bytes + 1) - vec_len l.input
