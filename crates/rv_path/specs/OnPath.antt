-- What a path reads of a cycle that is shown, and that it is the path of the cycles so far.
use Rattle.std.specs.Prelude.{◌-◌}
use Rattle.rv_watch.specs.Watching.{Watched}
use Rattle.rv_view.specs.Viewing.{cycles_seen}
use Rattle.rv_view.specs.declared.shown_cycle.ShownCycle.{ShownCycle}
use Rattle.rv_causes.specs.Keeping.{IsKnown}
use Rattle.rv_causes.specs.Path.{known_of}
use Rattle.rv_causes.specs.Reading.{CycleRead, read_of}
use Rattle.rv_causes.specs.declared.path.Path.{Path}

-- what is read of a cycle that is shown
abbrev pub read_by : ShownCycle → CycleRead
read_by cycle = record {
  number = cycle.number;
  elapsed = cycle.progress.now.cycles - 1;
  values = cycle.hardware.now.values;
  rows = cycle.rows.now;
  steps = cycle.steps.now;
  after = read_of cycle.hardware.now;
}

-- a path is that of the cycles so far
abbrev pub IsOnPath : Path → Watched → Type 0
IsOnPath path seen = IsKnown path (known_of seen.first.hardware (cycles_seen seen))
