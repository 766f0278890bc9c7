-- The parts with a dispatched instruction are sound and stand for the hardware with it, by the definition's turns.
use Rattle.rv_core.proofs.Words.{◌≡◌, ◌<◌, ◌&&◌, List, [], ◌∷◌, drop}
use Rattle.rv_core.proofs.Words.{IfSome, slice_get, Some, None, All, refl, All-head, is_branch_or_jump, is_store}
use Rattle.rv_core.proofs.Words.{target_of_word, pushed, FetchBuffer, Fetched, mends_early, entry_of_fetched, reason_of}
use Rattle.rv_core.proofs.Words.{Hardware, All-drop, next_number, with_instruction, with_jump, with_store, with_target}
use Rattle.rv_core.proofs.Words.{IsSound, hardware_of, IsDecoded, status_after, values_in, Inside}
use Rattle.rv_core.proofs.Ties.Closed.{closed-is, closed-sound}
use Rattle.rv_core.proofs.Phases.Fetched.{sound_with_front}
use Rattle.rv_core.proofs.Ties.Dispatch.{sound-dispatched, tied-dispatched}

-- the fetched words without the oldest
pub decoded-first : (fs : List Fetched) (f : Fetched) → slice_get fs 0 ≡ Some f → All IsDecoded fs → IsDecoded f
decoded-first [] f first each = absurd (cc)
decoded-first (g ∷ fs) f first each =
    let same : g ≡ f = cc in rw (← same) (All-head IsDecoded g fs each)

-- the parts without the oldest fetched word are sound
pub sound-taken : (p : Inside) (front : FetchBuffer) → IsSound p →
    front ≡ record p.front { entries = drop 1 p.front.entries } →
    IsSound (record p { front = front })
sound-taken p front is rest =
    sound_with_front p front is (rw rest (All-drop IsDecoded 1 p.front.entries is.sound.fetched))

module _ {p : Inside} (f : Fetched) (is : IsSound p) (waits_not : reason_of (hardware_of p) f ≡ None)
    (decoded : IsDecoded f)
    (target : IfSome (target_of_word f.instruction) (λ register. register < 32)) where
  -- the parts with the instruction of a fetched word
  abbrev pub entered_parts : Inside
  entered_parts = record p {
    stores = with_store (is_store f.instruction) (next_number p.rob) p.stores;
    stations = with_instruction (status_after (values_in p.registers) p.rob.retired p.rob.entries)
        (next_number p.rob) f.pc f.instruction p.stations;
    rename = with_jump (mends_early p.values.recovery && is_branch_or_jump f.instruction) (next_number p.rob)
        (with_target (next_number p.rob) (target_of_word f.instruction) p.rename);
    rob = pushed (entry_of_fetched (hardware_of p) f) p.rob;
  }

  -- the hardware with it
  abbrev pub entered_to : Hardware
  entered_to = record (hardware_of p) { rob = pushed (entry_of_fetched (hardware_of p) f) p.rob }

  -- the parts with it stand for the hardware with it
  pub entered-is : hardware_of entered_parts ≡ entered_to
  entered-is =
      closed-is entered_parts entered_to refl
      (tied-dispatched (hardware_of p) f p.rename p.stations p.bus p.stores is.tied)
      (sound-dispatched (hardware_of p) f is.sound waits_not decoded target)

  -- and are sound
  pub entered-sound : IsSound entered_parts
  entered-sound =
      closed-sound entered_parts entered_to refl
      (tied-dispatched (hardware_of p) f p.rename p.stations p.bus p.stores is.tied)
      (sound-dispatched (hardware_of p) f is.sound waits_not decoded target) is.stale_base is.stale_size
