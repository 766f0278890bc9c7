-- The turn that a head has by its role is the definition's, and keeps what no turn changes.
use Rattle.rv_core.proofs.Words.{◌≡◌, arith, Guide, IsKept, IsTurn, false, true, Stop, Message, stop_after}
use Rattle.rv_core.proofs.Words.{turn_ended, turn_left, flushed, with_result, eq-eqb, ne_eqb, ◌≢◌, row_of, List, []}
use Rattle.rv_core.proofs.Words.{◌∷◌, slice_get, Some, None, Option, nat_cmp, refl, ap, ◌∙◌, is_serialising, Instr}
use Rattle.rv_core.proofs.Words.{word_of, Entry, Committing, commit_turn, commit_turn_of, finish_broadcast, head_turn}
use Rattle.rv_core.proofs.Words.{Hardware, broadcast_of, Ends, Step, IsHead, committing, role_of, WaitsForResult}
use Rattle.std.specs.FinSet as set
use Rattle.rv_core.specs.declared.steps.Steps.{Steps}
use Rattle.rv_core.proofs.Taken.{takes_none}
use Rattle.rv_isa.specs.declared.causes.Fault.{Fault}
use Rattle.rv_hardware.specs.Commit.{finish_head, with_fault}
use Rattle.rv_hardware.specs.Retirement.{written_of}
use Rattle.rv_rob.specs.ReorderBuffer.{ReorderBuffer}
use Rattle.rv_core.specs.declared.head.HeadTurn.TheVariants as head

first_of : (entries : List Entry) (e : Entry) → slice_get entries 0 ≡ Some e →
    (younger : List Entry) × (entries ≡ e ∷ younger)
first_of [] e is = absurd (cc)
first_of (x ∷ xs) e is = (xs, ap (λ l. l ∷ xs) cc)

none_of : (entries : List Entry) → slice_get entries 0 ≡ None → entries ≡ []
none_of [] none = refl
none_of (e ∷ entries) none = absurd (cc)

-- a turn that ends the phase, takes no step and changes nothing
pub turn_ends : (h : Hardware) (steps : Steps) (known : Guide) (why : Option Stop) →
    ((before : List Step) → commit_turn set.contains (committing h before)
    ≡ Ends (record { hardware = h; steps = before; stop = why })) →
    IsTurn h h steps steps known known (head.Ends why)
turn_ends h steps known why left = record { step = None; left = left; taken = takes_none steps; learns = refl }

-- with nothing in flight the phase ends
pub ends_with_none : (h : Hardware) (steps : List Step) → slice_get h.rob.entries 0 ≡ None →
    commit_turn set.contains (committing h steps) ≡ Ends (committing h steps)
ends_with_none h steps none = ap (λ l. commit_turn_of set.contains l (committing h steps)) (none_of h.rob.entries none)

-- what no turn changes, by what the turn leaves
pub kept : (h : Hardware) → IsKept h h
kept h = record { values = refl; cycle = refl; retired = omega arith }

-- a change that leaves values, cycle and reorder buffer as they are keeps what no turn changes
pub kept_as : (h next : Hardware) → next.values ≡ h.values → next.cycle ≡ h.cycle → next.rob ≡ h.rob → IsKept h next
kept_as h next values cycle rob =
    record { values = values; cycle = cycle; retired = omega (arith, ap (λ (r : ReorderBuffer). r.retired) rob) }

-- the first entry is the head
pub first_is_head : (h : Hardware) (e : Entry) → slice_get h.rob.entries 0 ≡ Some e → IsHead h e
first_is_head h e is = first_of h.rob.entries e is

-- a fresh head has its turn
pub turn_of_head : (h : Hardware) (e : Entry) (steps : List Step) → IsHead h e →
    set.contains {R = nat_cmp} h.stale (word_of e.pc) ≡ false →
    commit_turn set.contains (committing h steps) ≡ head_turn e e.instruction (committing h steps)
turn_of_head h e steps head fresh = grind arith

-- there is one head
pub heads_agree : (h : Hardware) (a b : Entry) → IsHead h a → IsHead h b → a ≡ b
heads_agree h a b first second = grind arith

-- a head that does not serialise finishes by its result
pub turn_not_serialising : (e : Entry) (instruction : Option Instr) (c : Committing) →
    is_serialising instruction ≡ false →
    head_turn e instruction c ≡ finish_broadcast e (broadcast_of e.stage) c
turn_not_serialising e instruction c is = grind arith

-- a fresh head that does not serialise finishes by its result
pub turn_finishes : (h : Hardware) (e : Entry) (steps : List Step) (result : Option Message) → IsHead h e →
    set.contains {R = nat_cmp} h.stale (word_of e.pc) ≡ false → is_serialising e.instruction ≡ false →
    broadcast_of e.stage ≡ result →
    commit_turn set.contains (committing h steps) ≡ finish_broadcast e result (committing h steps)
turn_finishes h e steps result head fresh plain known = grind (arith, turn_of_head, turn_not_serialising)

-- a result with a fault is a trap
pub traps_by : (e : Entry) (m : Message) (fault : Fault) (c : Committing) → m.fault ≡ Some fault →
    finish_broadcast e (Some m) c ≡ Ends (with_fault e fault.cause fault.value c)
traps_by e m fault c is = ap (λ f. finish_head e m f c) is

-- a result without one retires: the phase goes on where the program goes on as predicted, else everything is flushed
pub retires_on : (e : Entry) (m : Message) (h : Hardware) (steps : List Step) → m.fault ≡ None →
    m.next_pc ≡ e.predicted_next →
    finish_broadcast e (Some m) (committing h steps)
    ≡ turn_left (with_result e m h) steps (Some (row_of e (written_of e m) h.cycle)) head.GoesOn
retires_on e m h steps none foreseen = ap (λ f. finish_head e m f (committing h steps)) none
    ∙ rw (eq-eqb m.next_pc e.predicted_next foreseen) refl

-- a result without a fault that goes on elsewhere than predicted retires, flushes everything and ends the phase
pub retires_last : (e : Entry) (m : Message) (h : Hardware) (steps : List Step) → m.fault ≡ None →
    m.next_pc ≢ e.predicted_next →
    finish_broadcast e (Some m) (committing h steps)
    ≡ turn_left (flushed (with_result e m h)) steps (Some (row_of e (written_of e m) h.cycle)) (head.Ends None)
retires_last e m h steps none elsewhere = ap (λ f. finish_head e m f (committing h steps)) none
    ∙ rw (ne_eqb m.next_pc e.predicted_next elsewhere) refl

-- a turn that ends the phase, as any turn
pub ended_as : (h : Hardware) (steps : List Step) (step : Option Step) →
    turn_ended h steps step ≡ turn_left h steps step (head.Ends (stop_after step))
ended_as h steps step = grind arith

-- a serialising head waits for no result
pub serialising_waits_not : (instruction : Option Instr) → role_of instruction ≡ WaitsForResult →
    is_serialising instruction ≡ true → ⊥
serialising_waits_not instruction is serial = grind arith
