-- What a marker has of the path of a run, of which a window is marked.
use Rattle.std.specs.Prelude.{◌≡◌, ◌+◌, ◌*◌, ◌≤◌, length, take}
use Rattle.rv_watch.specs.Watching.{Watched}
use Rattle.rv_passage.specs.Table.{still_open}
use Rattle.rv_passage.specs.Walk.{passages_after}
use Rattle.rv_view.specs.Viewing.{cycles_seen}
use Rattle.rv_causes.specs.Path.{known_of}
use Rattle.rv_causes.specs.WindowFrom.{HasAllMarked, IsNumbering}
use Rattle.rv_path.specs.OnPath.{IsOnPath}
use Rattle.rv_path.specs.declared.marking.Marker.{Marker}

-- A marker is on the path of the cycles so far, has all events that are marked in its window, and numbers instructions
-- as they are in flight when the window begins, or so far where it did not begin yet.
pub record IsMarking (marker : Marker) (seen : Watched) : Type 0 where
  pub path : IsOnPath marker.path seen
  pub cycles : marker.cycles ≡ length seen.moments
  pub events : HasAllMarked marker.from marker.path.window (known_of seen.first.hardware (cycles_seen seen)).events
  pub numbering : IsNumbering marker.numbering
      (passages_after still_open seen.first.hardware (take marker.from seen.moments))
  pub few : marker.numbering.fetched ≤ 576 * (length seen.moments + 1)
