-- The issue phase leaves no pipelined unit idle, and the other phases keep it so.
use Rattle.rv_hardware.proofs.Words.{◌≡◌, ℕ, suc, ◌+◌, ◌<◌, ◌≤◌, true, false, List, [], ◌∷◌, ◌++◌, map, length, Some}
use Rattle.rv_hardware.proofs.Words.{None, sym, refl, ap, ◌∙◌, subst, append_assoc, append-nil, arith, ltb-false}
use Rattle.rv_hardware.proofs.Words.{at_kind-for_each, with_kind-each, with_kind-other, with_kind-own, IsLegal}
use Rattle.rv_hardware.proofs.Words.{is_of_kind, at_kind, for_each, with_kind, Issue, Lines, Kind, PerKind, Values}
use Rattle.rv_hardware.proofs.Words.{Each, Pool, free_pool, holding, holds_unit, started, Entry, with_lines, Hardware}
use Rattle.rv_hardware.proofs.Words.{cost_of, is_ready, issue, issue_kind, issue_turn, issued, path, Turn, Report}
use Rattle.rv_hardware.proofs.Words.{rows_of, Step, Each-append, Each-left, Each-all, Each-filter, EveryAfter, count}
use Rattle.rv_hardware.proofs.Words.{count-set-one_more, EveryAfter-append, EveryAfter-right, EveryAfter-moved}
use Rattle.rv_hardware.proofs.Words.{EveryAfter-all, EveryAfter-weaker, Leads, turns_within, length-filter}
use Rattle.rv_hardware.proofs.Words.{count-count_by, count-length, each_then}
use Rattle.std.specs.FinSet as set
use Rattle.rv_isa.specs.declared.operations.Kind.TheVariants as kind
use Rattle.rv_units.specs.Pool.{started as started_unit}
use Rattle.rv_hardware.proofs.Marks.Cited.{broadcast-keeps, commit-keeps, dispatch-keeps, drain-same, ready-parts}
use Rattle.rv_hardware.proofs.Marks.Cited.{issue-by, issue_kind-keeps, InCycle, starts_in_cycle, IsBefore, Starts}
use Rattle.rv_hardware.proofs.Marks.Cited.{Anything, anything_is_kept, History, began, went_on, Passed}
use Rattle.rv_hardware.proofs.Marks.Cited.{history_is_legal, committing, drained, issued_all, sent_all, dispatching}
use Rattle.rv_hardware.proofs.Marks.Cited.{history_passes, IssueTurn, issue_turn_is, access_keeps, message_at}
use Rattle.rv_hardware.proofs.Marks.Cited.{started_entries, Mark, mark_of_row, mark_of_entry, mark_of_fetched, marks}
use Rattle.rv_hardware.proofs.Marks.Cited.{marks_in, marks_at_entry, Issues, issue_turn_keeps, issue_kind_keeps}
use Rattle.rv_hardware.proofs.Marks.Cited.{start_is, with_marks, before_broadcast, before_dispatch, broadcast_keeps}
use Rattle.rv_hardware.proofs.Marks.Cited.{dispatch_keeps, AreSerialLast, cut_serial, instructions_of, SoundEntry}
use Rattle.rv_hardware.proofs.Marks.Cited.{older_marks, IsKnownMark}
use Rattle.rv_hardware.proofs.Laws.NoIdleUnit.Marks.{MayStart, BusyUnits, may_back, busy_units_are_kept}
use Rattle.rv_hardware.proofs.Laws.NoIdleUnit.Marks.{rows_do_not_start, words_do_not_start, entries_do_not_start}
use Rattle.rv_hardware.proofs.Laws.OtherUnits.Rows.{begins_mark}
use Rattle.rv_hardware.proofs.Laws.OtherUnits.Phases.{issued_units}

-- every start of a pipelined kind was over by a cycle
abbrev pub Over : ℕ → Pool → Type 0
Over now pool = Each (λ s. s.cycle + s.cost ≤ now) pool.starts

none_holds : (now : ℕ) (starts : List Issue) → Each (λ s. s.cycle + s.cost ≤ now) starts → holding now starts ≡ []
none_holds now [] h = refl
none_holds now (s ∷ ss) h = grind (arith, none_holds now ss h.1)

fewer_held : (now : ℕ) (xs : List Issue) → length (holding now (holding now xs)) ≤ length (holding now xs)
fewer_held now xs =
    let held : List Issue = holding now xs in
    let passing = length-filter (holds_unit now) held ∙ sym (count-count_by (holds_unit now) held) in
    let most = count-length (holds_unit now) held in
    omega (arith, passing, most)

filter-append_length : (now : ℕ) (xs : List Issue) (s : Issue) →
    length (holding now (xs ++ s ∷ [])) ≤ suc (length (holding now xs))
filter-append_length now [] s = grind arith
filter-append_length now (x ∷ xs) s = grind (arith, filter-append_length now xs s)

module _ {v : Values} (legal : IsLegal v) (now : ℕ) (steps : List Step) (k : Kind) where
  abbrev units_here : ℕ
  units_here = (at_kind k v.kinds).units

  -- what is known of the phase, and that where one could start but does not, so many that are older did
  abbrev IsSound : Hardware → Type 0
  IsSound = Issues legal (anything_is_kept v now) steps

  abbrev AreBusy : ℕ → Hardware → Type 0
  AreBusy j h = EveryAfter (BusyUnits k j now) [] (marks_in steps h)

  abbrev MayNot : List Mark → Mark → Type 0
  MayNot before m = MayStart k now before m → ⊥

  -- after so many turns as many units at most hold an instruction
  abbrev Busy : ℕ → Hardware → Type 0
  Busy j h = IsSound h × AreBusy j h × (length (holding now (at_kind k h.units).starts) ≤ j)

  never_busy : (j : ℕ) (before xs : List Mark) → EveryAfter MayNot before xs → EveryAfter (BusyUnits k j now) before xs
  never_busy j before xs h = EveryAfter-weaker (λ b m never may. absurd (never may)) before xs h

  none_started : (j : ℕ) (h : Hardware) → IsSound h →
      EveryAfter (λ b e. is_ready h k b e ≡ false) [] h.rob.entries → AreBusy j h
  none_started j h p none =
      let rows : List Mark = map mark_of_row (rows_of steps) in
      let es : List Mark = map mark_of_entry h.rob.entries in
      EveryAfter-append _ [] rows _ (never_busy j [] rows (rows_do_not_start v k now (now + 1) [] _ p.basics.rows))
      (EveryAfter-append _ rows es _
      (never_busy j rows es
      (subst (λ l. EveryAfter MayNot l es) (append-nil rows)
      (entries_do_not_start v k now now (now + 1) now
      (rows_of steps) h [] _ tt p.basics.entries p.basics.always.last none)))
      (never_busy j _ _ (words_do_not_start v k now (rows ++ es) h.front.entries)))

  module _ (j : ℕ) (h : Hardware) (older younger : List Entry) (e : Entry) (at : h.rob.entries ≡ older ++ e ∷ younger)
      (is : is_ready h k older e ≡ true)
      (none : EveryAfter (λ before x. is_ready h k before x ≡ false) [] older) (p : Busy j h) where
    abbrev begun : Entry
    begun = started (record { cycle = h.cycle; cost = cost_of h k (path h older e) }) (message_at h older e) e

    -- the marks before it, its mark, and its mark once it has begun
    abbrev xs : List Mark
    xs = older_marks steps older

    abbrev m : Mark
    m = mark_of_entry e

    abbrev n : Mark
    n = mark_of_entry begun

    evidence : Starts v now xs m n
    evidence = start_is legal (anything_is_kept v now) steps k h older younger e at is p.0

    has_begun : n.start ≡ None → ⊥
    has_begun none' = absurd (cc)

    is_known : IsKnownMark now n → IsKnownMark now m
    is_known known some = subst (IsBefore now) (ap (λ x. x.broadcast) evidence.becomes) (known some)

    -- what is younger and could start now could start before
    may_before : (mid : List Mark) (z : Mark) → MayStart k now ((xs ++ n ∷ []) ++ mid) z →
        MayStart k now ((xs ++ m ∷ []) ++ mid) z
    may_before mid z may =
        subst (λ l. MayStart k now l z) (sym (append_assoc xs (m ∷ []) mid))
        (may_back now m n refl is_known k xs mid z
        (subst (λ l. MayStart k now l z) (append_assoc xs (n ∷ []) mid) may))

    -- and has one more before it that did
    one_more : (mid : List Mark) →
        count (begins_mark k now) ((xs ++ n ∷ []) ++ mid) ≡ suc (count (begins_mark k now) ((xs ++ m ∷ []) ++ mid))
    one_more mid = grind (arith, append_assoc, count-set-one_more, ready-parts)

    after_start : AreBusy (suc j) (issued k h older e)
    after_start =
        let rows : List Mark = map mark_of_row (rows_of steps) in
        let ys : List Mark = map mark_of_entry younger ++ map mark_of_fetched h.front.entries in
        let front = ap (λ r. r.entries) (access_keeps (path h older e) h).front in
        let olders = Each-left _ older _ (subst (Each (SoundEntry v now (now + 1) now)) at p.0.basics.entries) in
        let split = ap (λ es. marks steps es h.front.entries) at ∙
        marks_at_entry steps older younger e h.front.entries in
        let old = EveryAfter-right _ [] xs _ (subst (EveryAfter (BusyUnits k j now) []) split p.1) in
        let serial = cut_serial older (e ∷ younger)
        (subst (λ l. AreSerialLast (instructions_of l)) at p.0.basics.always.last) in
        rw (started_entries k h older younger e at, front, marks_at_entry steps older younger begun h.front.entries)
        (EveryAfter-append _ [] xs _
        (EveryAfter-append _ [] rows _
        (never_busy (suc j) [] rows (rows_do_not_start v k now (now + 1) [] _ p.0.basics.rows))
        (never_busy (suc j) rows _
        (subst (λ l. EveryAfter MayNot l (map mark_of_entry older)) (append-nil rows)
        (entries_do_not_start v k now now (now + 1) now (rows_of steps) h [] older tt olders serial none)))) (
          (λ may. absurd (has_begun may.not_yet)),
          EveryAfter-moved _ _ _ _
              (λ mid z busy may. omega (arith, busy (may_before mid z may), one_more mid)) ys old.1,
        ))

  held_after : (j : ℕ) (h : Hardware) (older : List Entry) (e : Entry) → h.cycle ≡ now →
      length (holding now (at_kind k h.units).starts) ≤ j →
      length (holding now (at_kind k (issued k h older e).units).starts) ≤ suc j
  held_after j h older e cycle le = grind (arith, issued_units, with_kind-own, filter-append_length, fewer_held)

  busy_leads : (j : ℕ) {h : Hardware} {t : Turn Hardware} → j < units_here → IssueTurn k h t → Busy j h →
      Leads IsSound IsSound t → Leads (Busy (suc j)) (AreBusy units_here) t
  busy_leads j lt given p goes = grind (arith, ltb-false, none_started, after_start, held_after)

  pub kind_is_busy : (h : Hardware) → IsSound h → Over now (at_kind k h.units) → AreBusy units_here (issue_kind k h)
  kind_is_busy h p over =
      let none = ap (λ l. length l) (none_holds now _ over) in
      turns_within units_here Busy (AreBusy units_here) (issue_turn k)
      (λ j g lt q.
      busy_leads j lt (issue_turn_is k g) q
      (issue_turn_keeps legal (anything_is_kept v now) steps (issue_turn_is k g) q.0))
      (λ g q. q.1) (at_kind k h.values.kinds).units 0 h
      (let same = ap (λ (w : Values). (at_kind k w.kinds).units) p.basics.always.sizes.values in omega (arith, same)) (
        p,
        EveryAfter-all (λ b m u may. omega arith) [] (marks_in steps h)
            (Each-all (λ m. Unit {0}) (λ m. tt) (marks_in steps h)),
        omega (arith, none),
      )

-- the other phases leave the units as they are

abbrev AreUnits : PerKind Pool → Hardware → Type 0
AreUnits u h = h.units ≡ u

begin_units : (lines : Lines) (old : Hardware) → (drained lines old).units ≡ old.units
begin_units lines old =
    (drain-same (committing lines old).hardware).units ∙
    commit-keeps {P = AreUnits old.units} (record {
      empties = λ h s retired same. same;
      retires = λ h e es s message same split known faultless. same;
      writes_back = λ h same drained. same;
    }) set.contains (with_lines lines old) refl

end_units : (lines : Lines) (old : Hardware) → (dispatching lines old).hardware.units ≡ (issued_all lines old).units
end_units lines old =
    let u : PerKind Pool = (issued_all lines old).units in
    dispatch-keeps {P = AreUnits u} (record { dispatches = λ h f rest same first nothing. same }) (sent_all lines old)
    (broadcast-keeps {P = AreUnits u} (record {
      broadcasts = λ h older younger e message same split gives. same;
      mends = λ h older younger e next same split. same;
    }) (issued_all lines old) refl)

-- the starts of a pipelined kind are over in the next cycle

module _ (v : Values) (legal : IsLegal v) (now : ℕ) (steps : List Step) (k : Kind)
    (pipelined : (at_kind k v.kinds).pipelined ≡ true) where
  abbrev Timely : Hardware → Type 0
  Timely h = InCycle v now h × Over (now + 1) (at_kind k h.units)

  -- of a start of some kind
  over_by : (j : Kind) (cost : ℕ) (u : PerKind Pool) → (at_kind k u).is_pipelined ≡ true →
      Over (now + 1) (at_kind k u) → Over (now + 1) (at_kind k (with_kind j (started_unit cost now (at_kind j u)) u))
  over_by j cost u = grind (arith, with_kind-each, Each-append, Each-filter)

  timely_issue : (h : Hardware) → Timely h → Timely (issue h)
  timely_issue h p =
      issue-by Timely (λ j h older younger e p at is free. (
        starts_in_cycle v now j h older younger e p.0 at is free,
        subst (λ u. Over (now + 1) (at_kind k u)) (sym (issued_units j h older e))
            (subst (λ n.
            Over (now + 1)
            (at_kind k (with_kind j (started_unit (cost_of h j (path h older e)) n (at_kind j h.units)) h.units)))
            (sym p.0.1)
            (over_by j (cost_of h j (path h older e)) h.units (p.0.0.pipelined k ∙ pipelined) p.1)),
      )) h p

  -- another kind's starts leave the pool
  abbrev Apart : Pool → Hardware → Type 0
  Apart pool h = at_kind k h.units ≡ pool

  apart_kind : (pool : Pool) (j : Kind) (h : Hardware) → is_of_kind k (Some j) ≡ false → Apart pool h →
      Apart pool (issue_kind j h)
  apart_kind pool j h other p =
      issue_kind-keeps {P = Apart pool} j (λ h older younger e p at is free.
      ap (at_kind k) (issued_units j h older e) ∙
      with_kind-other j (started_unit (cost_of h j (path h older e)) h.cycle (at_kind j h.units)) h.units k other ∙ p)
      h p

  -- what a kind's phase leaves is kept by the others
  abbrev BusyNow : List Mark → Type 0
  BusyNow = EveryAfter (BusyUnits k (at_kind k v.kinds).units now) []

  abbrev KeepsBusy : Hardware → Type 0
  KeepsBusy h = Issues legal (busy_units_are_kept k (at_kind k v.kinds).units v now) steps h

  plain : {h : Hardware} → Issues legal (anything_is_kept v now) steps h → (j : Kind) →
      Issues legal (anything_is_kept v now) steps (issue_kind j h)
  plain {h} p j = issue_kind_keeps legal (anything_is_kept v now) steps j p

  on : {h : Hardware} → KeepsBusy h → (j : Kind) → KeepsBusy (issue_kind j h)
  on {h} p j = issue_kind_keeps legal (busy_units_are_kept k (at_kind k v.kinds).units v now) steps j p

  here : (h : Hardware) → Issues legal (anything_is_kept v now) steps h → Over now (at_kind k h.units) →
      KeepsBusy (issue_kind k h)
  here h p over = with_marks BusyNow (kind_is_busy legal now steps k h p over) (plain p k)

-- the issue phase of all kinds
module _ {v : Values} (legal : IsLegal v) {now : ℕ} {steps : List Step} {h : Hardware}
    (p : Issues legal (anything_is_kept v now) steps h) where
  abbrev IsPipelined : Kind → Type 0
  IsPipelined k = (at_kind k v.kinds).pipelined ≡ true

  -- after the phase of its own kind another one keeps the units of a kind busy
  keep : (k : Kind) (line : IsPipelined k) (j : Kind) {g : Hardware} → KeepsBusy v legal now steps k line g →
      KeepsBusy v legal now steps k line (issue_kind j g)
  keep k line j busy = on v legal now steps k line busy j

  -- before it another one leaves the pool of a kind over
  leave : (k : Kind) (line : IsPipelined k) (j : Kind) (g : Hardware) → is_of_kind k (Some j) ≡ false →
      Over now (at_kind k g.units) → Over now (at_kind k (issue_kind j g).units)
  leave k line j g other over =
      subst (Over now) (sym (apart_kind v legal now steps k line (at_kind k g.units) j g other refl)) over

  sound : {g : Hardware} → Issues legal (anything_is_kept v now) steps g → (j : Kind) →
      Issues legal (anything_is_kept v now) steps (issue_kind j g)
  sound q j = issue_kind_keeps legal (anything_is_kept v now) steps j q

  pub issue_is_busy : (k : Kind) → (at_kind k v.kinds).pipelined ≡ true → Over now (at_kind k h.units) →
      EveryAfter (BusyUnits k (at_kind k v.kinds).units now) [] (marks_in steps (issue h))
  issue_is_busy kind.Alu line over =
      let own = here v legal now steps kind.Alu line h p over in
      (keep kind.Alu line kind.Mem (keep kind.Alu line kind.Div (keep kind.Alu line kind.Mul own))).marks
  issue_is_busy kind.Mul line over =
      let a = issue_kind kind.Alu h in
      let over_a = leave kind.Mul line kind.Alu h refl over in
      let own = here v legal now steps kind.Mul line a (sound p kind.Alu) over_a in
      (keep kind.Mul line kind.Mem (keep kind.Mul line kind.Div own)).marks
  issue_is_busy kind.Div line over =
      let a = issue_kind kind.Alu h in
      let m = issue_kind kind.Mul a in
      let over_m = leave kind.Div line kind.Mul a refl (leave kind.Div line kind.Alu h refl over) in
      let own = here v legal now steps kind.Div line m (sound (sound p kind.Alu) kind.Mul) over_m in
      (keep kind.Div line kind.Mem own).marks
  issue_is_busy kind.Mem line over =
      let a = issue_kind kind.Alu h in
      let m = issue_kind kind.Mul a in
      let d = issue_kind kind.Div m in
      let over_m = leave kind.Mem line kind.Mul a refl (leave kind.Mem line kind.Alu h refl over) in
      let over_d = leave kind.Mem line kind.Div m refl over_m in
      (here v legal now steps kind.Mem line d (sound (sound (sound p kind.Alu) kind.Mul) kind.Div) over_d).marks

-- in every history

over_at_reset : (v : Values) (k : Kind) → Over 0 (at_kind k (for_each free_pool v.kinds))
over_at_reset v k = rw (at_kind-for_each free_pool v.kinds k) tt

pub over_of_history : {v : Values} (k : Kind) → (at_kind k v.kinds).pipelined ≡ true →
    {steps : List Step} {h : Hardware} → History v steps h → Over h.cycle (at_kind k h.units)
over_of_history {v} k line (began image start legal) = over_at_reset v k
over_of_history {v} k line (went_on {earlier} {old} {new} {lines} {report} before is) =
    let legal = history_is_legal before in
    let passed = history_passes v before is in
    let begins = subst (λ u. Over old.cycle (at_kind k u)) (sym (begin_units lines old))
    (over_of_history k line before) in
    let later = each_then (λ s le. omega (arith, le)) _ begins in
    let issues = timely_issue v legal old.cycle (earlier ++ report.steps) k line (drained lines old)
    ((passed.drains.basics.always.sizes, passed.drains.basics.cycle), later) in
    let next : new.cycle ≡ old.cycle + 1 = ap (λ (h : Hardware). h.cycle) passed.others_stay in
    let units : new.units ≡ (issued_all lines old).units =
    ap (λ (h : Hardware). h.units) passed.others_stay ∙ end_units lines old in
    rw next (subst (λ u. Over (old.cycle + 1) (at_kind k u)) (sym units) issues.1)

-- at the end of a cycle
pub units_are_busy : {v : Values} (k : Kind) → (at_kind k v.kinds).pipelined ≡ true →
    {earlier : List Step} {lines : Lines} {old new : Hardware} {report : Report} {R : List Mark → Type 0} →
    History v earlier old → Passed v R earlier lines old report new →
    EveryAfter (BusyUnits k (at_kind k v.kinds).units old.cycle) [] (marks_in (earlier ++ report.steps) new)
units_are_busy {v} k line {earlier} {lines} {old} {report} {R} before passed =
    let legal = history_is_legal before in
    let now : ℕ = old.cycle in
    let all : List Step = earlier ++ report.steps in
    let n : ℕ = (at_kind k v.kinds).units in
    let begins = subst (λ u. Over now (at_kind k u)) (sym (begin_units lines old)) (over_of_history k line before) in
    let busy = issue_is_busy legal (with_marks Anything tt passed.drains) k line begins in
    let i : Hardware = issued_all lines old in
    let s : Hardware = sent_all lines old in
    let issued = before_broadcast (with_marks (EveryAfter (BusyUnits k n now) []) busy passed.issues) in
    let sent = broadcast_keeps (busy_units_are_kept k n v now) all issued in
    let dispatched = dispatch_keeps (busy_units_are_kept k n v now) all (before_dispatch sent) in
    rw (passed.new_marks) (EveryAfter-append _ [] _ _ dispatched.marks
    (EveryAfter-weaker (λ b m never may. absurd (never may)) _ _
    (words_do_not_start v k now (marks_in all (dispatching lines old).hardware) passed.fetches.added)))
