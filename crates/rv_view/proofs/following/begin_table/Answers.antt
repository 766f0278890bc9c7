use Rattle.std.proofs.Common.{◌∙◌, refl, subst}
use Rattle.std.specs.Prelude.{IfOk}
use Rattle.rv_passage.proofs.InFlight.{short_buffers}
use Rattle.rv_view.specs.Following.{BeginsAt}
use Rattle.rv_view.proofs.Begun.{begins_at}
use Rattle.rv_watch.specs.Shown.{hardware_shown}
use Rattle.rv_view.proofs.following.begin_table.Goals as goal

pub begin-requires : goal.begin-requires
begin-requires g c = short_buffers c.hardware.invariant.reached refl refl

pub returns : goal.returns
returns g c =
    subst (λ h. IfOk c.begin.result (BeginsAt h)) (c.hardware.view_is ∙ c.shown-hardware.ensures)
    (begins_at (hardware_shown c.hardware.inside) c.begin.result c.begin.ensures.table
    c.begin.ensures.few c.begin.ensures.room c.begin.ensures.rows c.begin.ensures.interrupts)
