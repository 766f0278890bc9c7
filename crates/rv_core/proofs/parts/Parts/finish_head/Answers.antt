use Rattle.std.proofs.Common.{arith}
use Rattle.rv_core.proofs.Words.{◌≡◌, ◌∷◌, [], ℕ, Some, None, option_map, sym, ap, ◌∙◌, subst, Hardware, IsHead}
use Rattle.rv_core.proofs.Words.{committing, row_of, flushed, turn_ended, turn_left}
use Rattle.rv_hardware.specs.Retirement.{written_of}
use Rattle.rv_core.specs.Steps.{Takes}
use Rattle.rv_core.specs.declared.head.HeadTurn.TheVariants as turn
use Rattle.rv_core.proofs.Retired.Roles.{ended_as, first_is_head, retires_last, retires_on, traps_by, turn_ends}
use Rattle.rv_core.proofs.Retired.Roles.{turn_finishes}
use Rattle.rv_core.proofs.Retired.Taught.{learns_at}
use Rattle.rv_core.proofs.parts.Parts.finish_head.Goals as goal
use Rattle.rv_core.proofs.parts.Parts.finish_head.Goals.{After-take_row, In-Some}
use Rattle.rv_core.proofs.parts.Parts.finish_head.Given.{Over}

head : (g : Over) (c : In-Some g) → IsHead c.args.self.now c.in-Some.head.now
head g c = grind (arith, first_is_head)

pub retire-requires-clause-head : goal.retire-requires-clause-head
retire-requires-clause-head g c = head g (goal.at.retire-requires-clause-head g c).In-Some

pub returns-in_default-message_of-clause-turn : goal.returns-in_default-message_of-clause-turn
returns-in_default-message_of-clause-turn g c =
    let e = c.in-Some.head.now in
    let at = head g (goal.at.returns-in_default-message_of-clause-turn g c).In-Some in
    turn_ends c.args.self.now c.args.steps.now _ None (λ steps.
    turn_finishes c.args.self.now e steps None at (c.requires.fresh e at) (c.requires.plain e at)
    (sym c.message_of.ensures ∙ c.in_default-message_of.is))

pub returns-in-Some-fault-clause-turn : goal.returns-in-Some-fault-clause-turn
returns-in-Some-fault-clause-turn g c =
    let h = c.args.self.now in
    let e = c.in-Some.head.now in
    let m = c.in-Some-message_of.message in
    let step = c.trap-step.result in
    let at = head g (goal.at.returns-in-Some-fault-clause-turn g c).In-Some in
    record {
      step = step;
      left = λ steps.
          turn_finishes h e steps (Some m) at (c.requires.fresh e at) (c.requires.plain e at)
          (sym c.message_of.ensures ∙ c.in-Some-message_of.is)
          ∙ traps_by e m c.in-Some-fault.fault (committing h steps) c.in-Some-fault.is
          ∙ sym (λ i. turn_ended (c.trap-step.ensures.hardware i) steps (c.trap-step.ensures.step i))
          ∙ ended_as c.trap-step.new.self steps step
          ∙ ap (turn_left c.trap-step.new.self steps step) (sym c.end_with.ensures.end);
      taken = c.end_with.ensures.taken;
      learns = learns_at _ _ step _ _ (ap (λ (x : Hardware). x.pc) c.self-in-Some-fault.view_is)
          c.end_with.ensures.taught;
    }

-- the step that is appended
row : (g : Over) (c : After-take_row g) →
    row_of c.in-Some.head.now
    (option_map (λ (register : ℕ). (register, c.in-Some-message_of.message.value)) c.target-target.result)
    c.self.inside.cycle
    ≡ row_of c.in-Some.head.now (written_of c.in-Some.head.now c.in-Some-message_of.message) c.args.self.now.cycle
row g c = grind arith

pub returns-then-message-entry-clause-turn : goal.returns-then-message-entry-clause-turn
returns-then-message-entry-clause-turn g c =
    let h = c.args.self.now in
    let e = c.in-Some.head.now in
    let m = c.in-Some-message_of.message in
    let step = Some (row_of e (written_of e m) h.cycle) in
    let at = goal.at.returns-then-message-entry-clause-turn g c in
    let is_head = head g at.In-Some in
    record {
      step = step;
      left = λ steps.
          turn_finishes h e steps (Some m) is_head (c.requires.fresh e is_head) (c.requires.plain e is_head)
          (sym c.message_of.ensures ∙ c.in-Some-message_of.is)
          ∙ retires_on e m h steps c.in_default-fault.is c.if-message-entry.true
          ∙ sym (ap (λ x. turn_left x steps step turn.GoesOn) c.retire.ensures);
      taken = subst (λ s. Takes c.args.steps.now c.take_row.new.self (s ∷ []))
          (row g at.After-take_row) c.take_row.ensures;
      learns = learns_at ((goal.Predictor-dyn g c.args.predictor.now).known c.args.predictor.now.1) _ step _ _
          (sym (ap (λ (x : Hardware). x.pc) c.retire.ensures))
          (rw (← c.unwrap_or.ensures) c.learn.ensures);
    }

pub returns-clause-turn : goal.returns-clause-turn
returns-clause-turn g c =
    let h = c.args.self.now in
    let e = c.in-Some.head.now in
    let m = c.in-Some-message_of.message in
    let step = Some (row_of e (written_of e m) h.cycle) in
    let at = goal.at.returns-clause-turn g c in
    let is_head = head g at.In-Some in
    let flushed_is = c.flush.ensures ∙ ap flushed c.retire.ensures in
    record {
      step = step;
      left = λ steps.
          turn_finishes h e steps (Some m) is_head (c.requires.fresh e is_head) (c.requires.plain e is_head)
          (sym c.message_of.ensures ∙ c.in-Some-message_of.is)
          ∙ retires_last e m h steps c.in_default-fault.is c.if-message-entry.false
          ∙ sym (ap (λ x. turn_left x steps step (turn.Ends None)) flushed_is);
      taken = subst (λ s. Takes c.args.steps.now c.take_row.new.self (s ∷ []))
          (row g at.After-take_row) c.take_row.ensures;
      learns = learns_at ((goal.Predictor-dyn g c.args.predictor.now).known c.args.predictor.now.1) _ step _ _
          (sym (ap (λ (x : Hardware). x.pc) flushed_is))
          (rw (← c.unwrap_or.ensures) c.learn.ensures);
    }
