-- What the parts answer to a search in the stations is what the definition's turn finds and starts.
use Rattle.std.proofs.Common.{arith}
use Rattle.rv_core.proofs.Words.{◌≡◌, ℕ, ◌+◌, ◌<◌, Bool, true, false, List, [], length, nat_le, Some, None}
use Rattle.rv_core.proofs.Words.{Option, option_and_then, sym, ap, ◌∙◌, subst, at_kind, with_kind, Kind, PerKind}
use Rattle.rv_core.proofs.Words.{UnitPool, is_free, started, ReorderBuffer, changed, Entry, Hardware, is_ready_entry}
use Rattle.rv_core.proofs.Words.{issue_oldest, issue_turn, oldest, Ends, GoesOn, stores_after, with_kind-back, Queue}
use Rattle.rv_core.proofs.Words.{Pool, taken_from, oldest_ready, ready_of, without_oldest_ready, Ready, Station}
use Rattle.rv_core.proofs.Words.{Pending, holds, started_unit, goes, IsSound, hardware_of, IsSoundHardware, AreTied}
use Rattle.rv_core.proofs.Words.{Inside}
use Rattle.rv_units.specs.Bus.{with_result}
use Rattle.rv_core.proofs.Issued.Executed.{Execution, is_issued, is_sound, is_tied, started_hardware}
use Rattle.rv_core.proofs.Issued.Found.{Leaving, leaves, nothing_leaves, stationed_now, test_of}
use Rattle.rv_stations.specs.Waiting.{ArePassedBy}
use Rattle.rv_core.specs.Passed.{NoneIssues}
use Rattle.rv_core.proofs.Issued.Passed.{passed_later}
use Rattle.rv_core.proofs.Issued.Tied.{absent_from_bus, room_on_bus}

-- the test that the code asks is the definition's
test_in_code : {parts : Inside} → IsSound parts → (kind : Kind) {idle : Bool} →
    idle ≡ nat_le parts.port_free parts.cycle →
    goes kind parts.cache.backing.layout parts.stores.stores idle ≡ test_of (hardware_of parts) kind
test_in_code sound kind port = λ j. goes kind (sound.sound.cache.layout j) (sound.tied.queued j).stores (port j)

-- the stations hold what the instructions in flight determine
waiting_in_stations : {parts : Inside} → IsSound parts → (kind : Kind) →
    (at_kind kind parts.stations).waiting ≡ stationed_now (hardware_of parts) kind
waiting_in_stations {parts = parts} sound kind = grind arith

module _ {parts : Inside} (sound : IsSound parts) {old : Hardware} (view : hardware_of parts ≡ old)
    (kind : Kind) {idle : Bool}
    (port : idle ≡ nat_le old.port_free old.cycle) where
  abbrev h : Hardware
  h = hardware_of parts

  -- the test that the code asks
  abbrev code_test : Station → Bool
  code_test = goes kind parts.cache.backing.layout parts.stores.stores idle

  is_idle : idle ≡ nat_le parts.port_free parts.cycle
  is_idle = port ∙ ap (λ (x : Hardware). nat_le x.port_free x.cycle) (sym view)

  same_test : code_test ≡ test_of h kind
  same_test = test_in_code sound kind is_idle

  same_waiting : (at_kind kind parts.stations).waiting ≡ stationed_now h kind
  same_waiting = waiting_in_stations sound kind

  -- where a unit is free, a turn goes by what the definition finds
  turn_of_found : {found : Option (List Entry × Entry)} → is_free parts.cycle (at_kind kind parts.units) ≡ true →
      oldest (is_ready_entry h kind) h.rob.entries ≡ found → issue_oldest kind h found ≡ issue_turn kind old
  turn_of_found free is = grind arith

  module _ {result : Option Ready}
      (answer : result ≡ option_and_then ready_of (oldest_ready code_test (at_kind kind parts.stations).waiting)) where
    answered : result ≡ option_and_then ready_of (oldest_ready (test_of h kind) (stationed_now h kind))
    answered = answer ∙ (λ j. option_and_then ready_of (oldest_ready (same_test j) (same_waiting j)))

    -- where nothing leaves
    pub turn_ends : is_free parts.cycle (at_kind kind parts.units) ≡ true → result ≡ None → Ends h ≡ issue_turn kind old
    turn_ends free is = turn_of_found free (nothing_leaves h kind sound.sound answered is).0

    -- the parts, of which the stations stay, are sound
    pub sound_still : result ≡ None → {stations : PerKind Pool} →
        stations ≡ with_kind kind (taken_from code_test (at_kind kind parts.stations)) parts.stations →
        IsSound (record parts { stations = stations })
    sound_still is left =
        let pool = at_kind kind parts.stations in
        let same : without_oldest_ready code_test pool.waiting ≡ pool.waiting =
        (λ j. without_oldest_ready (same_test j) (same_waiting j)) ∙ (nothing_leaves h kind sound.sound answered is).1
        ∙ sym same_waiting in
        let stay = left ∙ ap (λ (ws : List Station). with_kind kind (record pool { waiting = ws }) parts.stations) same
        ∙ with_kind-back kind parts.stations in
        subst (λ (ps : PerKind Pool). IsSound (record parts { stations = ps })) (sym stay) sound

    -- the parts once an instruction has started
    module _ {ready : Ready} (is : result ≡ Some ready) where
      leaving : Leaving h kind ready
      leaving = leaves h kind sound.sound answered is

      -- the bus has room for its result
      pub room : length parts.bus.results < parts.bus.capacity
      room = room_on_bus leaving sound.tied.pending sound.sound.entries.within

      -- which is not there yet
      pub absent : holds ready.seq parts.bus.results ≡ false
      absent = absent_from_bus leaving sound.tied.pending

      module _ (x : Execution h kind parts.stores ready)
          {units : PerKind UnitPool} {rob : ReorderBuffer} {stations : PerKind Pool} {bus : Pending}
          (held : units ≡ with_kind kind (started_unit x.cost parts.cycle (at_kind kind parts.units)) parts.units)
          (changes : rob ≡ changed
          (started (record { cycle = parts.cycle; cost = x.cost }) x.message) ready.seq parts.rob)
          (left : stations ≡ with_kind kind (taken_from code_test (at_kind kind parts.stations)) parts.stations)
          (accepted : bus ≡ with_result ready.seq (parts.cycle + x.cost) parts.bus) where
        abbrev after : Inside
        after = record parts {
          cache = x.cache;
          port_free = x.port_free;
          units = units;
          stations = stations;
          bus = bus;
          rob = rob;
        }

        queued : parts.stores.stores ≡ stores_after h h.rob.entries
        queued = ap (λ (q : Queue). q.stores) sound.tied.queued

        abbrev started_now : Hardware
        started_now = started_hardware sound.sound leaving x queued

        seen : started_now ≡ hardware_of after
        seen = λ j. record h { cache = x.cache; port_free = x.port_free; units = sym held j; rob = sym changes j }

        tied : AreTied started_now parts.rename stations bus parts.stores
        tied = rw (accepted, left, same_test) (is_tied sound.sound leaving x queued sound.tied)

        -- the parts that have started it are sound
        pub sound_after : IsSound after
        sound_after = record {
          sound = subst IsSoundHardware seen (is_sound sound.sound leaving x queued);
          tied = subst (λ (y : Hardware). AreTied y parts.rename stations bus parts.stores) seen tied;
          stale_base = sound.stale_base;
          stale_size = sound.stale_size;
        }

        still_idle : nat_le x.port_free parts.cycle ≡ true → idle ≡ true
        still_idle is = grind arith

        -- those that this search passed by, the next one may pass by
        pub passed_after : (n : ℕ) → ArePassedBy code_test n (at_kind kind stations).waiting →
            NoneIssues kind n (hardware_of after)
        passed_after n passed = grind (arith, sound_after, passed_later, still_idle)

        -- the hardware that they stand for is what the definition's turn goes on with
        pub turn_after : is_free parts.cycle (at_kind kind parts.units) ≡ true →
            GoesOn (hardware_of after) ≡ issue_turn kind old
        turn_after free =
            ap (λ (y : Hardware). GoesOn y) (sym seen ∙ is_issued sound.sound leaving x queued)
            ∙ turn_of_found free leaving.found

  -- where no instruction of the kind has its operands, a turn ends the phase and changes nothing
  pub turn_unready : ((test : Station → Bool) → oldest_ready test (at_kind kind parts.stations).waiting ≡ None) →
      Ends h ≡ issue_turn kind old
  turn_unready none = grind (arith, turn_ends)

  -- and so where none waits
  pub turn_empty : (at_kind kind parts.stations).waiting ≡ [] → Ends h ≡ issue_turn kind old
  turn_empty empty = turn_unready (λ test. ap (oldest_ready test) empty)
