-- After the start of an instruction the parts are still what the instructions in flight determine.
use Rattle.rv_core.proofs.Words.{◌≡◌, ℕ, ◌+◌, ◌^◌, ◌<◌, ◌≤◌, false, ◌∷◌, ◌++◌, length, All, subst, arith}
use Rattle.rv_core.proofs.Words.{All-head, is_serialising, is_store, at_kind, with_kind, Message, Issue, Kind, PerKind}
use Rattle.rv_core.proofs.Words.{Memory, Contents, UnitPool, started, ReorderBuffer, changed, Entry, Hardware}
use Rattle.rv_core.proofs.Words.{stores_of, All-right, Queue, Ready, Pool, taken_from, Pending, holds}
use Rattle.rv_core.proofs.Words.{Renaming, AreSoundEntries, IsDescribedCache, IsLegalWrite, IsSoundEntry}
use Rattle.rv_core.proofs.Words.{IsSoundHardware, AreTied, bus_of, stations_of}
use Rattle.rv_hardware.proofs.Oldest.{with_entry-at}
use Rattle.rv_units.specs.Bus.{with_result}
use Rattle.rv_core.proofs.Issued.Found.{Leaving, test_of}
use Rattle.rv_core.proofs.Issued.Started.{All_started, others_started, pending_absent, pending_room, pending_started}
use Rattle.rv_core.proofs.Issued.Started.{stores_started}
use Rattle.rv_core.proofs.Ties.Entries.{length-with_entry, pairs-with_entry}
use Rattle.rv_core.proofs.Ties.Renaming.{renaming-same}

module _ {h : Hardware} {kind : Kind} {ready : Ready} (leaving : Leaving h kind ready) where
  abbrev e : Entry
  e = leaving.entry

  abbrev n : ℕ
  n = ready.seq

  -- it is one of the sound instructions in flight
  pub entry_sound : All (IsSoundEntry h.values) h.rob.entries → IsSoundEntry h.values e
  entry_sound each =
      All-head (IsSoundEntry h.values) e leaving.rest
      (All-right (IsSoundEntry h.values) leaving.before (e ∷ leaving.rest)
      (subst (All (IsSoundEntry h.values)) leaving.split each))

  -- there is room on the bus, which does not hold the number
  pub room_on_bus : {bus : Pending} → bus ≡ bus_of h.values h.rob → length h.rob.entries ≤ h.values.rob →
      length bus.results < bus.capacity
  room_on_bus tied within = grind (arith, pending_room)

  -- an instruction that waits has no result on the bus
  pub absent_from_bus : {bus : Pending} → bus ≡ bus_of h.values h.rob → holds n bus.results ≡ false
  absent_from_bus tied = grind (arith, pending_absent)

  module _ (issue : Issue) (message : Message) where
    abbrev pub rob_started : ReorderBuffer
    rob_started = changed (started issue message) n h.rob

    entries_started : rob_started.entries ≡ leaving.before ++ started issue message e ∷ leaving.rest
    entries_started = grind (arith, with_entry-at)

    stationed : (stations : PerKind Pool) → stations ≡ stations_of h.values h.registers h.rob →
        with_kind kind (taken_from (test_of h kind) (at_kind kind stations)) stations
        ≡ stations_of h.values h.registers rob_started
    stationed stations tied = grind (arith, entries_started, others_started)

    pending : (bus : Pending) → bus ≡ bus_of h.values h.rob →
        with_result n (issue.cycle + issue.cost) bus ≡ bus_of h.values rob_started
    pending bus tied = grind (arith, pending_started, entries_started)

    stores_same : stores_of h.rob.retired h.rob.entries ≡ stores_of h.rob.retired rob_started.entries
    stores_same = grind (arith, stores_started, entries_started)

    module _ (cache : Contents Memory) (port_free : ℕ) (units : PerKind UnitPool) where
      -- the hardware after the start, whatever became of cache, port and units
      abbrev pub hardware_started : Hardware
      hardware_started = record h { cache = cache; port_free = port_free; units = units; rob = rob_started }

      -- the parts of which it has left the stations are tied to the hardware that has started it
      pub tied_started : {rename : Renaming} {stations : PerKind Pool} {bus : Pending} {queue : Queue} →
          AreTied h rename stations bus queue →
          AreTied hardware_started rename
          (with_kind kind (taken_from (test_of h kind) (at_kind kind stations)) stations)
          (with_result n (issue.cycle + issue.cost) bus) queue
      tied_started {stations = stations} {bus = bus} tied =
          grind (arith, renaming-same, stationed, pending, stores_same)

      entries_sound : AreSoundEntries h.values h.cycle h.rob →
          IsLegalWrite h.values (is_store e.instruction) message.fault message.store →
          AreSoundEntries h.values h.cycle rob_started
      entries_sound sound legal =
          let each : All (IsSoundEntry h.values) (leaving.before ++ e ∷ leaving.rest) =
          rw (← leaving.split) sound.each in
          let own = entry_sound sound.each in
          record {
            capacity = sound.capacity;
            within = omega (
              arith,
              sound.within,
              length-with_entry (started issue message) n
                  h.rob.retired h.rob.entries,
            );
            numbers = sound.numbers;
            each = rw entries_started
                (All_started issue message e leaving.rest (IsSoundEntry h.values) leaving.before
                (record { decoded = own.decoded; target = own.target; writes = legal }) each);
            serial = pairs-with_entry (λ a b. is_serialising a.instruction ≡ false) (started issue message) (λ a b r. r)
                (λ a b r. r) n h.rob.retired h.rob.entries sound.serial;
          }

      -- which is sound
      pub sound_started : IsSoundHardware h → IsDescribedCache h.values cache → port_free ≤ 2 ^ 43 →
          IsLegalWrite h.values (is_store e.instruction) message.fault message.store → IsSoundHardware hardware_started
      sound_started sound described port legal = grind (arith, entries_sound)
