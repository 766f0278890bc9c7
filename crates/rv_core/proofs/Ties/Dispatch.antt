-- A dispatch keeps the ties of the parts and the soundness of the hardware.
use Rattle.rv_core.proofs.Words.{◌≡◌, ℕ, suc, ◌-◌, ◌<◌, Bool, false, ◌&&◌, List, [], ◌∷◌, ◌++◌, length, IfSome, nat_le}
use Rattle.rv_core.proofs.Words.{slice_get, Some, None, All, Option, AllPairs, sym, refl, ap, ◌∙◌, arith, length-append}
use Rattle.rv_core.proofs.Words.{leb-false, All-cons, list_any, is_branch_or_jump, is_serialising, is_store}
use Rattle.rv_core.proofs.Words.{kind_of_word, target_of_word, Instr, Lines, Kind, PerKind, Values, Layout, State}
use Rattle.rv_core.proofs.Words.{pushed, Entry, Finished, Fetched, mends_early, entry_of_fetched, has_full_stations}
use Rattle.rv_core.proofs.Words.{reason_of, stage_by, Hardware, result_of_word, layout_of, state_after, stores_after}
use Rattle.rv_core.proofs.Words.{or-false, All-push, all_pairs_push, at_kind-by_kind, Queue, Pool, Pending, Renaming}
use Rattle.rv_core.proofs.Words.{next_number, are_full_for, with_instruction, with_jump, with_store, with_target}
use Rattle.rv_core.proofs.Words.{IsDecoded, IsLegalWrite, IsSoundEntry, IsSoundHardware, message_of, AreTied}
use Rattle.rv_core.proofs.Words.{stations_of, status_after, values_in}
use Rattle.rv_rob.specs.ReorderBuffer.{youngest}
use Rattle.rv_core.proofs.Phases.InFlight.{sound_in_flight}
use Rattle.rv_core.proofs.Ties.Bus.{bus-push}
use Rattle.rv_core.proofs.Ties.Entries.{pairs-tail}
use Rattle.rv_core.proofs.Ties.Queue.{stores-push}
use Rattle.rv_core.proofs.Ties.Renaming.{renaming-push}
use Rattle.rv_core.proofs.Ties.Stations.{stations-push, waiting-count}

-- ---- the reasons to wait
-- where an instruction does not wait, each reason fails
pub record Goes (h : Hardware) (fetched : Fetched) : Type 0 where
  pub serial : list_any (λ e. is_serialising e.instruction) h.rob.entries ≡ false
  pub room : nat_le h.rob.capacity (length h.rob.entries) ≡ false
  pub station : has_full_stations h (kind_of_word fetched.instruction) ≡ false
  pub queue : (is_store fetched.instruction && nat_le h.values.store_queue (length (stores_after h h.rob.entries)))
      ≡ false

-- what holds where nothing has a fetched word wait
pub goes : (h : Hardware) (fetched : Fetched) → reason_of h fetched ≡ None → Goes h fetched
goes h fetched none = grind arith

-- a serialising instruction in flight is the youngest
abbrev pub serial_in : Option Entry → Bool
serial_in None = false
serial_in (Some e) = is_serialising e.instruction

abbrev IsLast : List Entry → Type 0
IsLast es = AllPairs (λ older younger. is_serialising older.instruction ≡ false) es

-- one of them serialises where the youngest does
pub serial-youngest : (es : List Entry) → IsLast es → list_any (λ e. is_serialising e.instruction) es
    ≡ serial_in (youngest es)
serial-youngest [] last = refl
serial-youngest (e ∷ []) last = or-false (is_serialising e.instruction)
serial-youngest (e ∷ d ∷ es) last =
    let before : is_serialising e.instruction ≡ false = last 0 1 e (omega arith) (omega arith) in
    let others = pairs-tail (λ older younger. is_serialising older.instruction ≡ false) e (d ∷ es) last in
    let place : suc (length (d ∷ es) - 1) ≡ length (e ∷ d ∷ es) - 1 = omega arith in
    rw before (serial-youngest (d ∷ es) others ∙ ap (λ i. serial_in (slice_get (e ∷ d ∷ es) i)) place)

-- the stations of a kind are full where as many instructions wait as there are stations
pub full-is : (h : Hardware) (o : Option Kind) → are_full_for o (stations_of h.values h.registers h.rob)
    ≡ has_full_stations h o
full-is h o = grind (arith, at_kind-by_kind, waiting-count)

-- ---- the entry
first-legal : (values : Values) (layout : Layout) (s : State) (lines : Lines) (cycle : ℕ)
    (word : Option ℕ) (o : Option Instr)
    → IfSome (message_of (stage_by (kind_of_word o) (is_serialising o)
    (Finished None cycle (result_of_word layout s lines word o))))
    (λ message. IsLegalWrite values (is_store o) message.fault message.store)
first-legal values layout s lines cycle word o = grind arith

module _ (h : Hardware) (fetched : Fetched) where
  abbrev new_entry : Entry
  new_entry = entry_of_fetched h fetched

  abbrev entered_hardware : Hardware
  entered_hardware = record h { rob = pushed new_entry h.rob }

  sound-entry : IsDecoded fetched → IfSome (target_of_word fetched.instruction) (λ register. register < 32) →
      IsSoundEntry h.values new_entry
  sound-entry decoded target = grind (arith, first-legal)

  all_fail : (es : List Entry) → list_any (λ e. is_serialising e.instruction) es ≡ false →
      All (λ (e : Entry). is_serialising e.instruction ≡ false) es
  all_fail [] none = λ k d lt. absurd (omega arith)
  all_fail (e ∷ es) none = grind (arith, All-cons, all_fail es)

  -- the hardware is as sound with the instruction as without it
  pub sound-dispatched : IsSoundHardware h → reason_of h fetched ≡ None → IsDecoded fetched →
      IfSome (target_of_word fetched.instruction) (λ register. register < 32)
      → IsSoundHardware entered_hardware
  sound-dispatched sound none decoded target =
      let fails = goes h fetched none in
      let room = leb-false h.rob.capacity (length h.rob.entries) fails.room in
      sound_in_flight h (h.rob.entries ++ new_entry ∷ []) h.front sound
      (omega (arith, room, sound.entries.capacity, length-append h.rob.entries (new_entry ∷ [])))
      (All-push (IsSoundEntry h.values) h.rob.entries new_entry sound.entries.each (sound-entry decoded target))
      (all_pairs_push (λ (older younger : Entry). is_serialising older.instruction
      ≡ false) h.rob.entries new_entry sound.entries.serial (all_fail h.rob.entries fails.serial))
      sound.fetched

  -- the parts are tied to the hardware with the instruction
  pub tied-dispatched : (rename : Renaming) (stations : PerKind Pool) (bus : Pending) (queue : Queue) →
      AreTied h rename stations bus queue
      → AreTied entered_hardware
      (with_jump (mends_early h.values.recovery && is_branch_or_jump fetched.instruction) (next_number h.rob)
      (with_target (next_number h.rob) (target_of_word fetched.instruction) rename))
      (with_instruction (status_after (values_in h.registers) h.rob.retired h.rob.entries)
      (next_number h.rob) fetched.pc fetched.instruction stations)
      bus
      (with_store (is_store fetched.instruction) (next_number h.rob) queue)
  tied-dispatched rename stations bus queue tied =
      let n = next_number h.rob in
      let message = result_of_word (layout_of h.values)
      (state_after h h.rob.entries fetched.pc) h.lines fetched.word fetched.instruction in
      record {
        renamed =
            ap (λ m. with_jump (mends_early h.values.recovery && is_branch_or_jump fetched.instruction) n
            (with_target n (target_of_word fetched.instruction) m)) tied.renamed ∙
            sym (renaming-push h.values h.rob new_entry);
        stationed =
            ap (with_instruction (status_after
            (values_in h.registers) h.rob.retired h.rob.entries) n fetched.pc fetched.instruction) tied.stationed ∙
            sym (stations-push h.values h.registers h.rob new_entry (is_serialising fetched.instruction)
            h.cycle message refl);
        pending = tied.pending ∙ sym
            (bus-push h.values h.rob new_entry (kind_of_word fetched.instruction)
            (is_serialising fetched.instruction) h.cycle message refl);
        queued =
            ap (with_store (is_store fetched.instruction) n) tied.queued ∙
            sym (stores-push h.committed h.values.store_queue h.rob new_entry
            (is_serialising fetched.instruction) h.cycle message refl);
      }
