use Rattle.rv_core.proofs.Words.{◌≡◌, ℕ, ◌+◌, Bool, true, false, cond, predicting, cut_from, redirected, ◌&&◌, [], Some}
use Rattle.rv_core.proofs.Words.{None, sym, ap, ◌∙◌, subst, arith, and_parts, finished, changed, is_mispredicted}
use Rattle.rv_core.proofs.Words.{mends_early, with_recovery, Hardware, Ends, GoesOn, find, is_ready_result, IsSound}
use Rattle.rv_core.proofs.Words.{hardware_of, Inside}
use Rattle.rv_core.proofs.Ties.Broadcast.{grant, sent_parts, sent-goes_on, sent-is, sent-recovers, sent-sound, sent_to}
use Rattle.rv_core.proofs.Ties.Broadcast.{unsent, unsent_bus}
use Rattle.rv_core.proofs.Ties.Bus.{IsGranted}
use Rattle.rv_core.proofs.Ties.Entries.{entry_of-changed, with_entry-alike}
use Rattle.rv_core.proofs.Ties.Queue.{queued_are_others}
use Rattle.rv_rob.specs.Entry.{broadcast_in, ended}
use Rattle.rv_core.proofs.parts.Parts.broadcast_one.Goals as goal
use Rattle.rv_core.proofs.parts.Parts.broadcast_one.Goals.{After-finish, In_default}

-- nothing is ready
none : (c : In_default) → find (is_ready_result c.self.inside.cycle) c.self.inside.bus.results ≡ None
none c = sym c.grant_one.ensures.lowest_ready ∙ c.in_default.is

pub invariant_of-self : goal.invariant_of-self
invariant_of-self c = grind (arith, unsent_bus, none)

pub returns-in_default : goal.returns-in_default
returns-in_default c = rw (← c.self.view_is)
    (unsent c.self.inside c.self.invariant (none (goal.at.returns-in_default c).In_default))

-- an instruction that is no store has no place in the queue
pub send-goes_on-requires : goal.send-goes_on-requires
send-goes_on-requires c = grind (arith, queued_are_others)

-- the parts once the oldest result was sent
abbrev left : After-finish → Inside
left c = record c.self.inside {
  bus = c.grant_one.new.self;
  rob = c.finish.new.self;
  stations = c.send-goes_on.new.stations;
  stores = c.send-goes_on.new.stores;
}

found : (c : After-finish) → find (is_ready_result c.self.inside.cycle) c.self.inside.bus.results
    ≡ Some c.in-Some.pending
found c = sym c.grant_one.ensures.lowest_ready ∙ c.in-Some.is

abbrev sent : (c : After-finish) →
    IsGranted c.self.inside.cycle c.self.inside.rob.retired [] c.self.inside.rob.entries c.in-Some.pending
sent c = grant c.self.inside c.self.invariant c.in-Some.pending (found c)

left-is : (c : After-finish) → left c ≡ sent_parts c.self.inside c.self.invariant c.in-Some.pending (found c)
left-is c = grind (arith, finished, ended, with_entry-alike)

left-sound : (c : After-finish) → IsSound (left c)
left-sound c = subst IsSound (sym (left-is c)) (sent-sound c.self.inside c.self.invariant c.in-Some.pending (found c))

left-view : (c : After-finish) →
    hardware_of (left c) ≡ sent_to c.self.inside c.self.invariant c.in-Some.pending (found c)
left-view c = ap hardware_of (left-is c) ∙ sent-is c.self.inside c.self.invariant c.in-Some.pending (found c)

-- whether a wrong prediction is mended
abbrev mends : After-finish → Bool
mends c = mends_early c.self.inside.values.recovery && is_mispredicted (sent c).entry (sent c).message

goes_on : (c : After-finish) → c.send-goes_on.result ≡ cond (mends c) (Some (sent c).message.next_pc) None
goes_on c = grind arith

none-mends : (mends : Bool) (next_pc : ℕ) → cond mends (Some next_pc) None ≡ None → mends ≡ false
none-mends mends next_pc is = grind arith

some-mends : (mends : Bool) (next_pc found : ℕ) → cond mends (Some next_pc) None ≡ Some found → (mends ≡ true) ×
    (found ≡ next_pc)
some-mends mends next_pc found is = (grind arith, grind arith)

mended : (c : After-finish) (next_pc : ℕ) → c.send-goes_on.result ≡ Some next_pc →
    (mends c ≡ true) × (next_pc ≡ (sent c).message.next_pc)
mended c next_pc is = some-mends (mends c) (sent c).message.next_pc next_pc (sym (goes_on c) ∙ is)

pub invariant_of-self-in_default-goes_on : goal.invariant_of-self-in_default-goes_on
invariant_of-self-in_default-goes_on c = left-sound (goal.at.invariant_of-self-in_default-goes_on c).After-finish

pub invariant_of-self-2 : goal.invariant_of-self-2
invariant_of-self-2 c = left-sound (goal.at.invariant_of-self-2 c).After-finish

pub recover-requires-clause-early : goal.recover-requires-clause-early
recover-requires-clause-early c =
    let at = (goal.at.recover-requires-clause-early c).After-finish in
    (and_parts _ _ (mended at _ c.in-Some-goes_on.is).0).0

pub recover-requires-clause-jump : goal.recover-requires-clause-jump
recover-requires-clause-jump c =
    let p = c.self.inside in
    let r = c.in-Some.pending in
    let at = (goal.at.recover-requires-clause-jump c).After-finish in
    let s = sent at in
    let astray = (and_parts _ _ (mended at _ c.in-Some-goes_on.is).0).1 in
    let jump = (and_parts _ _ (and_parts _ _ astray).0).0 in
    rw c.finish.ensures (
      broadcast_in p.cycle s.entry,
      entry_of-changed (broadcast_in p.cycle) r.seq p.rob.retired p.rob.entries s.entry s.held,
      jump,
    )

pub returns : goal.returns
returns c =
    let r = c.in-Some.pending in
    let at = (goal.at.returns c).After-finish in
    let is = mended at _ c.in-Some-goes_on.is in
    let left-hardware = hardware_of (left at) in
    let to =
    c.recover.ensures
    ∙ ap (λ next_pc. record left-hardware {
      rob = cut_from (r.seq + 1) (changed (predicting next_pc) r.seq left-hardware.rob);
      front = redirected next_pc left-hardware.front;
    }) is.1
    ∙ ap {A = Hardware} (with_recovery r.seq (sent at).message) (left-view at) in
    rw (← c.self.view_is) (sent-recovers c.self.inside c.self.invariant r (found at) is.0 ∙ ap Ends (sym to))

pub returns-in_default-goes_on : goal.returns-in_default-goes_on
returns-in_default-goes_on c =
    let at = (goal.at.returns-in_default-goes_on c).After-finish in
    let straight = none-mends (mends at) _ (sym (goes_on at) ∙ c.in_default-goes_on.is) in
    rw (← c.self.view_is) (sent-goes_on c.self.inside c.self.invariant c.in-Some.pending (found at) straight
    ∙ ap GoesOn (sym (left-view at)))
