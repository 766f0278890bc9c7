-- The picture of a window of a run.
use Rattle.std.specs.Prelude.{◌≡◌, ℕ, ◌+◌, List, Option}
use Rattle.rv_isa.specs.declared.lines.Arrival.{Arrival}
use Rattle.rv_hardware.specs.Guided.{GuidedHardware}
use Rattle.rv_hardware.specs.History.{Moment}
use Rattle.rv_hardware.specs.declared.report.Stall.{Stall}
use Rattle.rv_passage.specs.EndedRun.{IsEndedRun}
use Rattle.rv_passage.specs.Table.{Passages, without_squashed}
use Rattle.rv_source.specs.Listing.{Listed}
use Rattle.rv_picture.specs.Recording.{Recorded, recorded_after}
use Rattle.rv_drawing.specs.Over.{over_of}
use Rattle.rv_drawing.specs.SvgPicture.{svg_picture}
use Rattle.rv_drawing.specs.TextPicture.{text_picture}
use Rattle.rv_drawing.specs.declared.{mark.Mark.Mark, window.Window.Window}
use Rattle.rv_picture.specs.declared.picture.{Form.Form, Rows.Rows, RunEnd.RunEnd, View.View}
use Rattle.rv_picture.specs.declared.picture.Form.TheVariants.{Text, Svg}
use Rattle.rv_picture.specs.declared.picture.Rows.TheVariants.{All, Unsquashed}

-- a table with the rows that a picture has
abbrev pub with_rows : Rows → Passages → Passages
with_rows All table = table
with_rows Unsquashed table = without_squashed table

-- the picture of a table in a form, with what each cycle waited for, which may have marks
abbrev pub picture_of : Form → Passages → List (Option Stall) → Option (List Mark) → Listed → Window → List ℕ
picture_of Text table stalls marks listing window = text_picture table.rows table.interrupts marks listing window
picture_of Svg table stalls marks listing window = svg_picture table.rows table.interrupts stalls marks listing window

-- the picture of a view, by what was recorded
abbrev pub view_text : View → Option (List Mark) → Listed → Recorded → List ℕ
view_text view marks listing kept =
    picture_of view.form (with_rows view.rows kept.table) kept.stalls marks listing kept.window

-- a text is the picture of the cycles in view of a run that ended so, which may have been before them
pub record IsPicture (arrivals : List Arrival) (view : View) (marks : Option (List Mark)) (listing : Listed)
    (old new : GuidedHardware) (end : RunEnd) (text : List ℕ) : Type 0 where
  pub moments : List Moment
  pub run : IsEndedRun arrivals (view.from + view.cycles) old moments new end.stop
  pub over_is : end.over ≡ over_of (recorded_after view.from old.hardware moments end.stop).window
  pub text_is : text ≡ view_text view marks listing (recorded_after view.from old.hardware moments end.stop)
