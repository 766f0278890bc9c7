-- A tally begins with what is in flight: no step is counted, no event, and no place.
use Rattle.std.proofs.Common.{◌≡◌, ℕ, ◌≤◌, List, [], length, Option, ap, arith}
use Rattle.rv_isa.specs.declared.lines.Arrival.{Arrival}
use Rattle.rv_hardware.specs.Draining.{drain_end}
use Rattle.rv_hardware.specs.Guided.{GuidedHardware}
use Rattle.rv_hardware.specs.Hardware.{Hardware}
use Rattle.rv_watch.specs.Watching.{watched}
use Rattle.rv_counts.specs.declared.run_places.RunPlaces.{RunPlaces}
use Rattle.rv_report.specs.Events.{events_so_far, no_events}
use Rattle.rv_report.specs.Shown.{places_shown}
use Rattle.rv_report.specs.Speculation.{Speculated, speculated_at}
use Rattle.rv_report.specs.Tally.{HasPlaced, IsTallied}
use Rattle.rv_report.specs.declared.{events.EventCounter.EventCounter, totals.StepCounts.StepCounts}
use Rattle.rv_report.specs.declared.shown.{Columns.Columns, Shown.Shown}
use Rattle.rv_report.proofs.Counts.{counts_nothing}
use Rattle.rv_report.proofs.Placed.{placed_nothing}
use Rattle.rv_report.proofs.Tallied.{tallied_nothing}

-- the reorder buffer of hardware holds few instructions, by how many were counted of what is lent of it
pub few_in_buffer : {lent first : Hardware} {count : ℕ} → lent ≡ first → count ≡ length lent.rob.entries → count ≤ 256 →
    length first.rob.entries ≤ 256
few_in_buffer same counted few = omega (arith, counted, ap (λ (h : Hardware). length h.rob.entries) same, few)

-- the tally of no cycle, by what is lent of the hardware and what that holds inside
pub begins_tallied : (arrivals : List Arrival) (first : GuidedHardware) (shown : Columns (Option Shown))
    {inside lent : Hardware} {counts : StepCounts} {s : Speculated} {events : EventCounter}
    {places : Option RunPlaces} →
    inside ≡ lent → lent ≡ first.hardware →
    (counts.retired ≡ 0) × ((counts.traps ≡ 0) × (counts.interrupts ≡ 0)) →
    s ≡ speculated_at inside → s.fetched ≤ 288 → events ≡ events_so_far lent.values (drain_end lent) no_events →
    places ≡ places_shown shown lent [] lent → length first.hardware.rob.entries ≤ 256 →
    IsTallied counts s events (watched arrivals first [] first)
    × HasPlaced places places (watched arrivals first [] first)
begins_tallied arrivals first shown {inside} {lent} {counts} {s} {events} {places} inside_is lent_is zeros speculated few_fetched happened placed few =
    grind (arith, tallied_nothing, counts_nothing, placed_nothing)
