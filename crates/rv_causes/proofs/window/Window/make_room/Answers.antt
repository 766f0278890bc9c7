use Rattle.std.proofs.Common.{◌∙◌, List, ap, sym, subst, arith}
use Rattle.std.specs.Prelude.{slice_get}
use Rattle.rv_causes.specs.Window.{IsWindow}
use Rattle.rv_causes.specs.declared.{point.Point.Point, window.Window.Window}
use Rattle.rv_causes.proofs.Windows.{pass_alike, pass_met, window_alike, window_met}
use Rattle.rv_causes.proofs.window.Window.make_room.Goals as goal
use Rattle.rv_causes.proofs.window.Window.make_room.Goals.{then-len-le1+in_ok-move_root, else-len-le1}

pub returns-clause-window : goal.returns-clause-window
returns-clause-window c = λ pass all is.
    let old = c.args.self.now in
    window_alike c.if-len-le1.self c.reserve.new.self all c.reserve.ensures.alike
    (elim c.if-len-le1.branch [
      | then-len-le1+in_ok-move_root w ↦
          let root = w.only.ensures ∙ ap (λ (points : List Point). slice_get points 0)
          w.as_slice-then-len-le1.ensures.value in
          subst (λ (window : Window). IsWindow window all) (sym w.self-is)
          (window_met old w.move_root.new.self c.as_slice.result.now c.meet-place.result w.only.result
          c.meet-place.new.wanted.items c.args.live.now.items c.as_slice.ensures.value root
          w.in_ok-move_root.ensures.moved all c.meet-place.ensures.come pass is)
      | else-len-le1 w ↦ subst (λ (window : Window). IsWindow window all) (sym w.self-is) is
    ])

pub returns-clause-pass : goal.returns-clause-pass
returns-clause-pass c = grind (arith, pass_alike, pass_met, else-len-le1)
