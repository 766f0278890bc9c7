-- Which event of a run one is.
use Rattle.std.specs.Prelude.{ℕ, ◌==◌, ◌&&◌, Bool}
use Rattle.rv_causes.specs.declared.point.{Point.Point, Stage.Stage}
use Rattle.rv_causes.specs.declared.point.Stage.TheVariants as stage

-- the place of a stage among all
abbrev pub stage_place : Stage → ℕ
stage_place stage.Begin = 0
stage_place stage.Fetch = 1
stage_place stage.Dispatch = 2
stage_place stage.Issue = 3
stage_place stage.Broadcast = 4
stage_place stage.Commit = 5
stage_place stage.Drain = 6
stage_place stage.Lines = 7
stage_place stage.Interrupt = 8
stage_place stage.End = 9

-- two are the same event
abbrev pub is_point : Point → Point → Bool
is_point one other = stage_place one.stage == stage_place other.stage && one.number == other.number
