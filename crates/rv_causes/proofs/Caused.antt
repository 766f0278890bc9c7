-- All events of a run waited for older ones, as their causes say.
use Rattle.std.proofs.Common.{ℕ, ◌-◌, List, [], ◌∷◌, length, refl, inl, arith}
use Rattle.std.specs.List.{fold}
use Rattle.rv_hardware.specs.History.{Moment}
use Rattle.rv_passage.specs.Table.{still_open, table_at}
use Rattle.rv_passage.specs.Walk.{Standing, next_cycle, standing_after, standing_at, walk_from}
use Rattle.rv_causes.specs.Causes.{AreCaused, CausesAreSo, HasEvent}
use Rattle.rv_causes.specs.Event.{nothing_yet}
use Rattle.rv_causes.specs.Path.{Known, known_after, known_at, setting_in}
use Rattle.rv_causes.specs.Reading.{read_of}
use Rattle.rv_causes.specs.Way.{way_from}
use Rattle.rv_causes.specs.Within.{AreKnown}
use Rattle.rv_causes.specs.declared.event.Event.{Event}
use Rattle.rv_causes.proofs.Cycles.{cycle_keeps}
use Rattle.rv_causes.proofs.EventLists.{replicate_have}
use Rattle.rv_causes.proofs.News.{IsKept, IsNew}

-- an event is among all, which are caused
abbrev pub IsAmong : List Event → Event → Type 0
IsAmong all event = AreCaused all × HasEvent event.at event.cycle all

-- with a new one
put : (cycles : ℕ) (all : List Event) (event : Event) → IsNew (IsAmong all) cycles event → AreCaused (event ∷ all)
put cycles all event new = grind arith

among_kept : (cycles : ℕ) → IsKept cycles IsAmong
among_kept cycles = grind (arith, put)

-- the cycles of a run, one after another
walk_caused : (standing : Standing) (known : Known) (moments : List Moment) → AreKnown (IsAmong known.events) known
    → AreCaused (fold known_after known (walk_from still_open standing moments)).events
walk_caused standing known [] are = are.before.left.0
walk_caused standing known (moment ∷ moments) are =
    let cycle = next_cycle standing moment in
    let s = setting_in cycle.number (length cycle.reports - 1) cycle.passages.rows cycle.after known in
    walk_caused (standing_after still_open cycle) (known_after known cycle) moments
    (cycle_keeps s IsAmong (among_kept s.elapsed) known.events known.ways cycle.report.steps (read_of cycle.after)
    are.holds are.before are.ways)

-- each event of a run waited for an older one as its cause says
pub causes_are_so : CausesAreSo
causes_are_so first moments =
    let begins : IsAmong (nothing_yet ∷ []) nothing_yet = (refl, inl (refl, refl)) in
    walk_caused (standing_at first) (known_at first) moments (record {
      ways = replicate_have (IsAmong (nothing_yet ∷ [])) (length (table_at first).rows) (way_from nothing_yet)
          (record { fetch = begins; dispatch = tt; issue = tt; broadcast = tt });
      holds = tt;
      before = record { left = begins; port = tt; drain = tt };
    })
