-- A broadcast and the squash after a wrong prediction keep the ties of the parts and the soundness of the hardware.
use Rattle.rv_core.proofs.Words.{◌≡◌, ℕ, ◌+◌, true, false, ◌&&◌, [], ◌++◌, map, Some, None, sym, refl, ap, ◌∙◌, arith}
use Rattle.rv_core.proofs.Words.{is_branch_or_jump, is_serialising, for_each, finished, predicting, ReorderBuffer}
use Rattle.rv_core.proofs.Words.{changed, entries_below, with_entry, Entry, broadcast_turn, is_mispredicted}
use Rattle.rv_core.proofs.Words.{mends_early, with_broadcast, with_recovery, Hardware, broadcast_of, is_waiting}
use Rattle.rv_core.proofs.Words.{store_of_message, Ends, GoesOn, redirected, find, Queue, older_than, answered}
use Rattle.rv_core.proofs.Words.{squashed_pool, woken_pool, granted_one, is_ready_result, squashed_bus, PendingResult}
use Rattle.rv_core.proofs.Words.{restored, cut_from, entry_of, broadcast_entry, IsSound, hardware_of, IsSoundEntry}
use Rattle.rv_core.proofs.Words.{IsSoundHardware, AreTied, bus_of, Inside}
use Rattle.rv_core.proofs.Ties.Closed.{closed-is, closed-sound}
use Rattle.rv_core.proofs.Phases.InFlight.{sound_in_flight}
use Rattle.rv_core.proofs.Ties.Bus.{IsGranted, bus-predicting, bus-squashed, granted, granted-none, without-none}
use Rattle.rv_core.proofs.Ties.Entries.{All-entries_below, All-with_entry, entry_of-changed, entry_of-from}
use Rattle.rv_core.proofs.Ties.Entries.{length-entries_below, length-with_entry, pairs-entries_below, pairs-with_entry}
use Rattle.rv_core.proofs.Ties.Queue.{queue-answered, queue-squashed, stores-predicting}
use Rattle.rv_core.proofs.Ties.Renaming.{renaming-restored, renaming-same}
use Rattle.rv_core.proofs.Ties.Stations.{stations-predicting, stations-squashed, stations-woken}

-- ---- nothing to send
module _ (p : Inside) (is : IsSound p) (none : find (is_ready_result p.cycle) p.bus.results ≡ None) where
  -- the turn ends and changes nothing
  pub unsent : broadcast_turn (hardware_of p) ≡ Ends (hardware_of p)
  unsent = grind (arith, granted-none)

  -- nor does the bus change
  pub unsent_bus : granted_one p.cycle p.bus ≡ p.bus
  unsent_bus = ap (λ results. record p.bus { results = results }) (without-none p.cycle p.bus.results none)

-- ---- a result is sent
module _ (p : Inside) (is : IsSound p) (r : PendingResult)
    (found : find (is_ready_result p.cycle) p.bus.results ≡ Some r) where
  -- it is the result of an instruction in flight
  pub grant : IsGranted p.cycle p.rob.retired [] p.rob.entries r
  grant = grind (arith, granted)

  pub sent-turn : broadcast_turn (hardware_of p) ≡ broadcast_entry (hardware_of p) r.seq grant.entry grant.message
  sent-turn = grind (arith, grant)

  -- where the prediction was wrong and is mended early, the turn squashes what is younger
  pub sent-recovers : (mends_early p.values.recovery && is_mispredicted grant.entry grant.message) ≡ true →
      broadcast_turn (hardware_of p)
      ≡ Ends (with_recovery r.seq grant.message (with_broadcast r.seq grant.message (hardware_of p)))
  sent-recovers astray = sent-turn ∙ rw astray refl

  -- elsewhere it sends the result
  pub sent-goes_on : (mends_early p.values.recovery && is_mispredicted grant.entry grant.message) ≡ false →
      broadcast_turn (hardware_of p) ≡ GoesOn (with_broadcast r.seq grant.message (hardware_of p))
  sent-goes_on straight = sent-turn ∙ rw straight refl

  -- the parts that have sent it
  abbrev pub sent_parts : Inside
  sent_parts = record p {
    bus = granted_one p.cycle p.bus;
    rob = changed (finished grant.message p.cycle) r.seq p.rob;
    stations = for_each (woken_pool r.seq grant.message.value) p.stations;
    stores = record p.stores { stores = map (answered r.seq (store_of_message grant.message.store)) p.stores.stores };
  }

  -- the hardware that has sent it
  abbrev pub sent_to : Hardware
  sent_to = with_broadcast r.seq grant.message (hardware_of p)

  silent : broadcast_of grant.entry.stage ≡ None
  silent = ap broadcast_of grant.running

  busy : is_waiting grant.entry.stage ≡ false
  busy = ap is_waiting grant.running

  sent-entry : (e : Entry) → entry_of r.seq p.rob.retired p.rob.entries ≡ Some e → IsSoundEntry p.values e →
      IsSoundEntry p.values (finished grant.message p.cycle e)
  sent-entry e held one = grind (arith, grant)

  sent_sound : IsSoundHardware sent_to
  sent_sound =
      let h = hardware_of p in
      let s = h.rob.retired in
      let es = h.rob.entries in
      let f = finished grant.message p.cycle in
      sound_in_flight h (with_entry f r.seq s es) h.front is.sound
      (omega (arith, length-with_entry f r.seq s es, is.sound.entries.within))
      (All-with_entry (IsSoundEntry h.values) f r.seq s es sent-entry is.sound.entries.each)
      (pairs-with_entry (λ older younger. is_serialising older.instruction ≡ false) f (λ d e one. one)
      (λ d e one. one) r.seq s es is.sound.entries.serial)
      is.sound.fetched

  sent_tied : AreTied sent_to sent_parts.rename sent_parts.stations sent_parts.bus sent_parts.stores
  sent_tied =
      let h = hardware_of p in
      let rob = h.rob in
      record {
        renamed = is.tied.renamed ∙ sym (renaming-same (finished grant.message p.cycle) (λ e. refl) r.seq h.values rob);
        stationed =
            ap (for_each (woken_pool r.seq grant.message.value)) is.tied.stationed ∙
            stations-woken h.values h.registers rob r.seq p.cycle grant.message grant.entry grant.held busy silent;
        pending =
            ap (granted_one p.cycle) is.tied.pending ∙
            ap (λ results. record (bus_of h.values rob) { results = results }) grant.rest;
        queued =
            ap (λ (q : Queue). record q {
              stores = map
                  (answered r.seq (store_of_message grant.message.store)) q.stores;
            }) is.tied.queued ∙
            ap (λ stores. record { stores = stores; capacity = h.values.store_queue })
            (queue-answered r.seq p.cycle grant.message h.committed rob.retired rob.entries
            grant.entry is.sound.stores.older
            grant.held silent);
      }

  -- the parts that have sent it stand for the hardware that has
  pub sent-is : hardware_of sent_parts ≡ sent_to
  sent-is = closed-is sent_parts sent_to refl sent_tied sent_sound

  -- and are sound
  pub sent-sound : IsSound sent_parts
  sent-sound = closed-sound sent_parts sent_to refl sent_tied sent_sound is.stale_base is.stale_size

-- ---- what is younger than a branch or a jump is squashed
module _ (p : Inside) (is : IsSound p) (seq next_pc : ℕ) (e : Entry) (early : mends_early p.values.recovery ≡ true)
    (held : entry_of seq p.rob.retired p.rob.entries ≡ Some e) (jump : is_branch_or_jump e.instruction ≡ true) where
  abbrev mended : ReorderBuffer
  mended = changed (predicting next_pc) seq p.rob

  -- the parts without what is younger
  abbrev pub recovered_parts : Inside
  recovered_parts = record p {
    rob = cut_from (seq + 1) (changed (predicting next_pc) seq p.rob);
    stations = for_each (squashed_pool (seq + 1)) p.stations;
    bus = squashed_bus (seq + 1) p.bus;
    stores = record p.stores { stores = older_than (seq + 1) p.stores.stores };
    rename = restored seq p.rename;
    front = redirected next_pc p.front;
  }

  -- the hardware without it
  abbrev pub recovered_to : Hardware
  recovered_to =
      record (hardware_of p) {
        rob = cut_from (seq + 1) (changed (predicting next_pc) seq p.rob);
        front = redirected next_pc p.front;
      }

  recovered_sound : IsSoundHardware recovered_to
  recovered_sound =
      let h = hardware_of p in
      let s = h.rob.retired in
      let es = h.rob.entries in
      let f = predicting next_pc in
      let mended_entries = with_entry f seq s es in
      let P : Entry → Entry → Type 0 = λ older younger. is_serialising older.instruction ≡ false in
      sound_in_flight h (entries_below (seq + 1) s mended_entries) (redirected next_pc h.front) is.sound
      (omega (
        arith,
        length-entries_below (seq + 1) s mended_entries,
        length-with_entry f seq s es,
        is.sound.entries.within,
      ))
      (All-entries_below (IsSoundEntry h.values) (seq + 1) s mended_entries
      (All-with_entry (IsSoundEntry h.values) f seq s es
      (λ d here one. record { decoded = one.decoded; target = one.target; writes = one.writes }) is.sound.entries.each))
      (pairs-entries_below P (seq + 1) s mended_entries
      (pairs-with_entry P f (λ d e one. one) (λ d e one. one) seq s es is.sound.entries.serial))
      (λ k d lt. absurd (omega arith))

  recovered_tied : AreTied recovered_to recovered_parts.rename recovered_parts.stations recovered_parts.bus
      recovered_parts.stores
  recovered_tied =
      let h = hardware_of p in
      let rob = h.rob in
      let s = rob.retired in
      let es = rob.entries in
      let from = (entry_of-from seq s es e held).0 in
      record {
        renamed =
            ap (restored seq) (is.tied.renamed ∙ sym (renaming-same (predicting next_pc) (λ d. refl) seq h.values rob))
            ∙
            renaming-restored h.values mended seq (predicting next_pc e) early
            (entry_of-changed (predicting next_pc) seq s es e held) jump;
        stationed =
            ap (for_each (squashed_pool (seq + 1)))
            (is.tied.stationed ∙ sym (stations-predicting h.values h.registers rob seq next_pc)) ∙
            stations-squashed h.values h.registers mended (seq + 1);
        pending =
            ap (squashed_bus (seq + 1)) (is.tied.pending ∙ sym (bus-predicting h.values rob seq next_pc)) ∙
            bus-squashed h.values mended (seq + 1);
        queued =
            ap (λ (q : Queue). record q { stores = older_than (seq + 1) q.stores }) is.tied.queued ∙
            ap (λ stores. record { stores = stores; capacity = h.values.store_queue }) (
            ap (λ ss. older_than (seq + 1) (h.committed ++ ss)) (sym (stores-predicting next_pc seq s es)) ∙
            queue-squashed (seq + 1) h.committed s (with_entry (predicting next_pc) seq s es)
            (omega (arith, from)) is.sound.stores.older
            );
      }

  -- the parts without it stand for the hardware without it
  pub recovered-is : hardware_of recovered_parts ≡ recovered_to
  recovered-is = closed-is recovered_parts recovered_to refl recovered_tied recovered_sound

  -- and are sound
  pub recovered-sound : IsSound recovered_parts
  recovered-sound =
      closed-sound recovered_parts recovered_to refl recovered_tied recovered_sound is.stale_base is.stale_size
