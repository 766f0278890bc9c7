use Rattle.rv_core.proofs.Words.{◌≡◌, ◌+◌, sym, refl, ap, ◌∙◌, subst, arith, IsLegal, broadcast, commit, IsCycle}
use Rattle.rv_core.proofs.Words.{commit_with, execute, with_lines, dispatch, stall_of, Hardware, Reachable, hardware_of}
use Rattle.rv_core.proofs.Words.{IsCommitStop, report_with}
use Rattle.std.specs.FinSet as set
use Rattle.rv_hardware.specs.Drain.{drain}
use Rattle.rv_hardware.specs.Issue.{issue}
use Rattle.rv_core.proofs.Phases.Cycle.{committing-now, cycle-done, dispatched-now}
use Rattle.rv_core.proofs.Phases.Steps.{Commits}
use Rattle.rv_core.proofs.Phases.Numbered.{sound-numbered}
use Rattle.rv_core.specs.Steps.{Takes}
use Rattle.rv_core.proofs.Retired.Taught.{executed_here, taught_as}
use Rattle.rv_core.proofs.parts.Parts.advance.Goals as goal
use Rattle.rv_core.proofs.parts.Parts.advance.Goals.{After-self-2}
use Rattle.rv_core.proofs.parts.Parts.advance.Given.{Over}

legal : (g : Over) (c : After-self-2 g) → IsLegal c.args.self.now.values
legal g c = subst (λ (h : Hardware). IsLegal h.values) c.self.view_is c.self.invariant.sound.legal

-- what the commit phase left
commits : (g : Over) (c : After-self-2 g) →
    c.commit-stop.new.self ≡ (commit_with set.contains c.args.lines c.args.self.now).hardware
commits g c = c.commit-stop.ensures.hardware
    ∙ ap (λ h. (commit set.contains (with_lines c.args.lines h)).hardware) c.self.view_is

stops : (g : Over) (c : After-self-2 g) →
    c.commit-stop.result ≡ (commit_with set.contains c.args.lines c.args.self.now).stop
stops g c = c.commit-stop.ensures.stop ∙ ap (λ h. (commit set.contains (with_lines c.args.lines h)).stop) c.self.view_is

counted : (g : Over) (c : After-self-2 g) →
    Commits c.args.self.now.cycle c.args.self.now.values.commit_width
    (commit_with set.contains c.args.lines c.args.self.now)
counted g c = committing-now c.args.lines c.args.self.now c.commit-stop.new.self
    (legal g c).pipeline.commit_width.0 (commits g c)

-- what the phases up to dispatch left
broadcast_left : (g : Over) (c : After-self-2 g) →
    c.broadcast.new.self ≡ broadcast (issue (drain c.commit-stop.new.self))
broadcast_left g c = c.broadcast.ensures ∙ ap broadcast (c.issue.ensures ∙ ap issue c.drain.ensures)

executed : (g : Over) (c : After-self-2 g) → c.dispatch-dispatched.new.self ≡ (execute c.commit-stop.new.self).hardware
executed g c = c.dispatch-dispatched.ensures.hardware ∙ ap (λ h. (dispatch h).hardware) (broadcast_left g c)

-- the cycle's number is still that of before
here : (g : Over) (c : After-self-2 g) → c.self-2.inside.cycle ≡ c.self.inside.cycle
here g c =
    ap (λ (h : Hardware). h.cycle) (c.self-2.view_is ∙ c.fetch.ensures.others)
    ∙ dispatched-now c.args.lines c.args.self.now c.commit-stop.new.self (legal g c).pipeline.commit_width.0
    (commits g c) c.dispatch-dispatched.new.self (executed g c)
    ∙ sym (ap (λ (h : Hardware). h.cycle) c.self.view_is)

pub invariant_of-self-2 : goal.invariant_of-self-2
invariant_of-self-2 g c =
    let before = rw (← c.self.view_is) at c.requires.cycles in
    sound-numbered c.self-2.inside c.self-2.invariant c.self-2.inside.lines (c.self.inside.cycle + 1)
    (omega (arith, here g (goal.at.invariant_of-self-2 g c).After-self-2)) (omega (arith, before))

pub returns-clause-cycle : goal.returns-clause-cycle
returns-clause-cycle g c =
    let at = (goal.at.returns-clause-cycle g c).After-self-2 in
    let old = c.args.self.now in
    let lines = c.args.lines in
    let steps = subst (Takes c.args.steps.now c.commit-stop.new.steps)
    (ap (λ h. (commit set.contains (with_lines lines h)).steps) c.self.view_is) c.commit-stop.ensures.steps in
    let done =
    cycle-done lines old c.commit-stop.new.self (legal g at).pipeline.commit_width.0
    (commits g at) c.dispatch-dispatched.new.self (executed g at) _ c.fetch.new.self c.fetch.result
    c.dispatch-dispatched.result.0 c.dispatch-dispatched.result.1 c.commit-stop.result
    (c.dispatch-dispatched.ensures.dispatched ∙ ap (λ h. (dispatch h).dispatched) (broadcast_left g at))
    (c.dispatch-dispatched.ensures.stall ∙ ap (λ h. stall_of (dispatch h)) (broadcast_left g at)) (stops g at)
    c.fetch.ensures.fetched c.fetch.ensures.others in
    let report = report_with (commit_with set.contains lines old).steps
    (record {
      dispatched = c.dispatch-dispatched.result.0;
      stall = c.dispatch-dispatched.result.1;
      stop = c.commit-stop.result;
    }) in
    let new : record c.fetch.new.self { cycle = old.cycle + 1 } ≡ _ =
    λ i. record (sym c.self-2.view_is i) { cycle = (sym c.self.view_is i).cycle + 1 } in
    let same = ap (λ h. (commit set.contains (with_lines lines h)).steps) c.self.view_is in
    let here = ap (λ (h : Hardware). h.pc) (c.self-2.view_is ∙ c.fetch.ensures.others)
    ∙ ap (λ (h : Hardware). h.pc) (executed g at)
    ∙ executed_here lines old c.commit-stop.new.self c.requires.reached (commits g at) in (
      (commit_with set.contains lines old).steps,
      steps,
      omega (arith, (counted g at).steps, (legal g at).pipeline.commit_width.1),
      record {
        learns =
            taught_as ((goal.Predictor-dyn g c.args.predictor.now).known c.args.predictor.now.1)
            ((goal.Predictor-dyn g (c.args.predictor.now.0, c.commit-stop.new.predictor)).known
            c.commit-stop.new.predictor)
            _ (commit_with set.contains lines old).steps _ _ same (sym here) c.commit-stop.ensures.taught;
        cycle = subst (IsCycle _ lines old report) new done;
      },
    )

pub returns-clause-numbers : goal.returns-clause-numbers
returns-clause-numbers g c =
    omega (arith, c.self-2.invariant.sound.entries.numbers, here g (goal.at.returns-clause-numbers g c).After-self-2)

pub returns-clause-stop : goal.returns-clause-stop
returns-clause-stop g c =
    let at = (goal.at.returns-clause-stop g c).After-self-2 in
    subst IsCommitStop (sym (stops g at)) (counted g at).stop

pub commit-stop-requires-clause-reached : goal.commit-stop-requires-clause-reached
commit-stop-requires-clause-reached g c = record {
  before = hardware_of c.self.inside;
  reached = subst Reachable (sym c.self.view_is) c.requires.reached;
  lines = c.args.lines;
  begun = refl;
}
