-- Where the oldest instruction waits for a unit or the port, a cycle brings them nearer, or it leaves.
use Rattle.rv_hardware.proofs.Words.{◌≡◌, ℕ, ◌+◌, ◌-◌, ◌*◌, ◌<◌, ◌≤◌, Bool, true, false, cond, [], nat_le, Some, Option}
use Rattle.rv_hardware.proofs.Words.{sym, refl, ap, ◌∙◌, subst, arith, nat_tests, is_load, is_serialising, kind_of_word}
use Rattle.rv_hardware.proofs.Words.{at_kind, Instr, Kind, Values, Pool, is_free, started, Stage, FetchBuffer}
use Rattle.rv_hardware.proofs.Words.{broadcast, execute, drain, Hardware, issue}
use Rattle.rv_hardware.proofs.Gap.Bound.{free_time-most, no_more, unit_time-most}
use Rattle.rv_hardware.proofs.Marks.Cited.{IsKeptByBroadcast, broadcast-keeps, IsKeptByDispatch, dispatch-keeps}
use Rattle.rv_hardware.proofs.Marks.Cited.{drain-same, longest_execution, IsKeptByIssue, issue-keeps, AreEnding, EndsBy}
use Rattle.rv_hardware.proofs.Marks.Cited.{HasSizes, AreHeld}
use Rattle.rv_hardware.proofs.Gap.Drained.{Drains, next_port_time}
use Rattle.rv_hardware.proofs.Gap.Execute.{begun-patience, begun_closed, begun_stage, execute-same, later}
use Rattle.rv_hardware.proofs.Gap.Execute.{plain-patience, same-longest, waits_closed, anywhere_closed, head-executed}
use Rattle.rv_hardware.proofs.Gap.Head.{HasBegun, HeadIs, Waits, head-change, head-weaken, IsAnywhere}
use Rattle.rv_hardware.proofs.Gap.Patience.{free_time, patience, port_time, stage_time, unit_time, waiting_time}
use Rattle.rv_hardware.proofs.Gap.Ready.{CanGo, cache_access}
use Rattle.rv_hardware.proofs.Gap.UnitTime.{unit_time-held}
use Rattle.rv_hardware.proofs.Gap.Waiting.{CanStart, IsAfterIssue, after_issue}

-- ---- there is a unit of each kind
some_units : (h : Hardware) (k : Kind) → HasSizes h → 1 ≤ (at_kind k h.values.kinds).units
some_units h k sizes = (sizes.legal.kinds k).units.0

-- ---- times
no_port : (load : Bool) (port : ℕ) → (load ≡ true → port ≡ 0) → cond load port 0 ≡ 0
no_port load port given = grind arith

free_time-least : (port next unit longest : ℕ) → next + 1 ≤ unit → unit ≤ longest →
    next + 1 ≤ free_time port unit longest
free_time-least port next unit longest falls most = grind arith

free_time-port : (port unit longest : ℕ) → 1 ≤ port → free_time port unit longest ≡ port + longest
free_time-port port unit longest some = grind arith

idle_time : (h : Hardware) → h.committed ≡ [] → h.port_free ≤ h.cycle → next_port_time h ≡ 0
idle_time h given idle = grind arith

module _ (h : Hardware) (front : FetchBuffer) (instruction : Option Instr) {k : Kind}
    (of_kind : kind_of_word instruction ≡ Some k) (plain : is_serialising instruction ≡ false)
    (head : HeadIs instruction Waits h.rob.entries) (sizes : HasSizes h) where
  abbrev issued : Hardware
  issued = issue (drain h)

  abbrev new : Hardware
  new = later front (execute h).hardware

  -- ---- it left
  begun : HeadIs instruction HasBegun issued.rob.entries → HeadIs instruction HasBegun new.rob.entries
  begun left = head-executed instruction h (begun_closed h.cycle) left

  fall_begun : HeadIs instruction HasBegun issued.rob.entries → AreEnding new → longest_execution h + 2 ≤ patience h →
      patience new + 1 ≤ patience h
  fall_begun left ending old =
      omega (arith, begun-patience new instruction plain (begun left) ending, same-longest h front, old)

  -- ---- it waits for a unit
  abbrev pool : Pool
  pool = at_kind k h.units

  -- the time until a unit is free, and the port for a load, and the patience where it waits for them
  abbrev time_here : ℕ
  time_here =
      free_time (cond (is_load instruction) (port_time h) 0) (unit_time h.cycle pool.starts) (longest_execution h)

  abbrev IsPatient : Type 0
  IsPatient = patience h ≡ time_here + longest_execution h + 2

  abbrev Keeps : Hardware → Type 0
  Keeps g = (at_kind k g.units ≡ pool) × (is_load instruction ≡ true → next_port_time g ≡ 0)

  keeps_broadcast : IsKeptByBroadcast Keeps
  keeps_broadcast = grind arith

  keeps_dispatch : IsKeptByDispatch Keeps
  keeps_dispatch = record { dispatches = λ g fetched rest keeps first none. keeps }

  port_when : (g : Hardware) → CanGo instruction g → is_load instruction ≡ true → next_port_time g ≡ 0
  port_when g given load = grind (arith, idle_time)

  waiting_is : (g : Hardware) →
      waiting_time g (is_load instruction) (kind_of_word instruction) ≡
      free_time (cond (is_load instruction) (port_time g) 0) (unit_time g.cycle (at_kind k g.units).starts)
      (longest_execution g) + longest_execution g + 2
  waiting_is g = ap (waiting_time g (is_load instruction)) of_kind

  still_waits : (stage : Stage) → Waits stage → Keeps (execute h).hardware →
      stage_time new instruction stage ≤ unit_time (h.cycle + 1) pool.starts + longest_execution h + 2
  still_waits stage given keeps = grind (arith, no_port, execute-same, waiting_is, same-longest)

  fall_held : CanStart instruction of_kind pool h.cycle issued → is_free h.cycle pool ≡ false → AreEnding new →
      unit_time h.cycle pool.starts ≤ longest_execution h → IsPatient → patience new + 1 ≤ patience h
  fall_held can held ending most is =
      let waits : HeadIs instruction Waits new.rob.entries = head-executed instruction h (waits_closed h.cycle) can.0 in
      let keeps : Keeps (execute h).hardware =
      dispatch-keeps keeps_dispatch (broadcast issued)
      (broadcast-keeps keeps_broadcast issued (can.1, port_when issued can.3)) in
      let patient = plain-patience new instruction Waits (unit_time (h.cycle + 1) pool.starts + longest_execution h + 2)
      (new.cycle + longest_execution new) plain
      (λ stage waiting ends. still_waits stage waiting keeps) waits ending in
      let some : 1 ≤ pool.units = omega (arith, some_units h k sizes, sizes.units k) in
      let falls = unit_time-held h.cycle pool some held in
      let least = free_time-least (cond (is_load instruction) (port_time h) 0) (unit_time (h.cycle + 1) pool.starts)
      (unit_time h.cycle pool.starts) (longest_execution h) falls most in
      omega (arith, patient, least, is)

  -- ---- it waits for the port
  abbrev Busy : ℕ → Hardware → Type 0
  Busy time g = HeadIs instruction IsAnywhere g.rob.entries × (g.cycle < g.port_free) × (next_port_time g ≡ time)

  not_idle : (a b : ℕ) → nat_le a b ≡ true → b < a → ⊥
  not_idle a b idle busy = grind (arith, nat_tests)

  busy_by_issue : (time : ℕ) (j : Kind) → IsKeptByIssue (Busy time) j
  busy_by_issue time j = record {
    accesses = λ g older younger e address busy split ready by.
        absurd (not_idle g.port_free g.cycle (cache_access g j older e address ready by).idle busy.1);
    starts = λ g older younger e cost message busy split waits is_kind result costs. (
      head-change instruction IsAnywhere older younger e
          (started (record { cycle = g.cycle; cost = cost }) message e) refl (λ same before. tt)
          (subst (HeadIs instruction IsAnywhere) split busy.0),
      busy.1,
      busy.2,
    );
  }

  abbrev Lasts : ℕ → Hardware → Type 0
  Lasts time g = next_port_time g ≡ time

  lasts_broadcast : (time : ℕ) → IsKeptByBroadcast (Lasts time)
  lasts_broadcast time = grind arith

  lasts_dispatch : (time : ℕ) → IsKeptByDispatch (Lasts time)
  lasts_dispatch time = record { dispatches = λ g fetched rest lasts first none. lasts }

  still_busy : (stage : Stage) → EndsBy (new.cycle + longest_execution new) stage → AreHeld new →
      stage_time new instruction stage ≤ port_time new + 2 * longest_execution new + 2
  still_busy stage ends held = grind (arith, unit_time-most, free_time-most, waiting_is, no_more, begun_stage)

  fall_busy : h.cycle < (drain h).port_free → next_port_time (drain h) ≤ port_time h - 1 → 1 ≤ port_time h →
      is_load instruction ≡ true → AreEnding new → AreHeld new → IsPatient → patience new + 1 ≤ patience h
  fall_busy busy falls some load ending held is =
      let time : ℕ = next_port_time (drain h) in
      let same = drain-same h in
      let anywhere : HeadIs instruction IsAnywhere h.rob.entries =
      head-weaken instruction Waits (λ stage waits. tt) h.rob.entries head in
      let before : Busy time (drain h) = (
        subst (λ r. HeadIs instruction IsAnywhere r.entries) (sym same.rob) anywhere,
        omega (arith, busy, same.cycle),
        refl,
      ) in
      let after : Busy time issued = issue-keeps (Busy time) (busy_by_issue time) (drain h) before in
      let lasts : port_time new ≡ time =
      dispatch-keeps (lasts_dispatch time) (broadcast issued) (broadcast-keeps (lasts_broadcast time) issued after.2) in
      let there : HeadIs instruction IsAnywhere new.rob.entries =
      head-executed instruction h (anywhere_closed) after.0 in
      let patient = plain-patience new instruction IsAnywhere (port_time new + 2 * longest_execution new + 2)
      (new.cycle + longest_execution new) plain
      (λ stage waiting ends. still_busy stage ends held) there ending in
      let port : cond (is_load instruction) (port_time h) 0 ≡ port_time h = rw load refl in
      let free : time_here ≡
      port_time h + longest_execution h =
      ap (λ n. free_time n (unit_time h.cycle pool.starts) (longest_execution h)) port ∙
      free_time-port (port_time h) (unit_time h.cycle pool.starts) (longest_execution h) some in
      omega (arith, patient, lasts, same-longest h front, falls, some, free, is)

  -- ---- in all
  by_start : AreEnding new → AreHeld h → IsPatient → IsAfterIssue instruction of_kind pool h.cycle issued →
      patience new + 1 ≤ patience h
  by_start ending held is given = grind (arith, fall_held, unit_time-most, fall_begun)

  fall_ready : CanGo instruction (drain h) → AreEnding new → AreHeld h → IsPatient → patience new + 1 ≤ patience h
  fall_ready can ending held is =
      let same = drain-same h in
      let start : CanStart instruction of_kind pool h.cycle (drain h) = (
        subst (λ r. HeadIs instruction Waits r.entries) (sym same.rob) head,
        ap (at_kind k) same.units,
        same.cycle,
        can,
        subst (λ (v : Values). 1 ≤ (at_kind k v.kinds).units) (sym same.values) (some_units h k sizes),
      ) in
      by_start ending held is (after_issue instruction k of_kind pool h.cycle (drain h) start)

  -- where the oldest waits for a unit or the port, a cycle lowers the patience
  pub fall_waiting : Drains h (drain h) → AreEnding new → AreHeld h → AreHeld new →
      patience h ≡ waiting_time h (is_load instruction) (kind_of_word instruction) → patience new + 1 ≤ patience h
  fall_waiting drained ending held holding is = grind (arith, waiting_is, fall_ready, fall_busy, drain-same)
