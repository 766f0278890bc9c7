use Rattle.std.proofs.Common.{subst}
use Rattle.rv_program.specs.Answer.{IsAnswer}
use Rattle.rv_program.specs.RunView.{IsViewOf}
use Rattle.rv_program.proofs.Answered.{answered_from}
use Rattle.rv_program.proofs.OneView.{one_view_of}
use Rattle.rv_program.proofs.Viewed.{view_of}
use Rattle.rv_program.proofs.run_view.show.Goals as goal

pub returns-clause-view : goal.returns-clause-view
returns-clause-view g c =
    let listed = c.args.listed.now in
    let before = g.W.Write.contents c.args.writer.now in
    let after = g.W.Write.contents c.write_view-written.new.writer in
    let ended = answered_from (IsViewOf listed _ c.args.view.now) c.write_view-written.result before after
    c.write_view-written.ensures
    c.answer.ensures (λ ended text is. view_of listed _ c.args.view.now c.in-Ok.ensures.made is) in
    -- the box is lent
    subst (λ lent. IsAnswer (IsViewOf listed ((goal.Predictor-dyn g lent).known lent.1) c.args.view.now) c.answer.result
    before after) c.deref_box_mut-1.ensures.value.1 ended

-- whatever was written
pub returns-clause-one_view : goal.returns-clause-one_view
returns-clause-one_view g c p = one_view_of c.args.listed.now p c.args.view.now

pub returns-in_default-clause-one_view : goal.returns-in_default-clause-one_view
returns-in_default-clause-one_view g c p = one_view_of c.args.listed.now p c.args.view.now
