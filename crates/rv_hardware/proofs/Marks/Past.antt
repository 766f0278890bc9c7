-- What each cycle obeys at its end is so of the marks as they stood then, ever after.
use Rattle.rv_hardware.proofs.Words.{◌≡◌, ℕ, ◌+◌, ◌<◌, ◌≤◌, List, [], ◌∷◌, ◌++◌, map, IfSome, Some, Option, sym, refl}
use Rattle.rv_hardware.proofs.Words.{ap, subst, inl, inr, arith, le-leb, cases_lt, Instr, Lines, Values, Each, Entry}
use Rattle.rv_hardware.proofs.Words.{Stage, Fetched, Hardware, Report, rows_of, Execution, Row, Step, Beginning}
use Rattle.rv_hardware.proofs.Words.{IsBetween, each_image, Each-append, EveryAfter, Beginning-EveryAfter}
use Rattle.rv_hardware.proofs.Marks.Basics.{Basics}
use Rattle.rv_hardware.proofs.Marks.Advance.{extends_kept}
use Rattle.rv_hardware.proofs.Marks.History.{dispatching, Passed, History, began, went_on, cycle_passes}
use Rattle.rv_hardware.proofs.Marks.History.{history_is_legal, history_is_sound}
use Rattle.rv_hardware.proofs.Marks.List.{Mark, Start, mark_of_row, mark_of_entry, mark_of_fetched, marks, marks_in}
use Rattle.rv_hardware.proofs.Marks.List.{at_end, as_of, as_of-append, until, start_until, start_of_execution}
use Rattle.rv_hardware.proofs.Marks.List.{broadcast_of_execution, start_of_stage, broadcast_of_stage, Extends}
use Rattle.rv_hardware.proofs.Marks.List.{Extends-self, Extends-trans, Extends-more, until_by}
use Rattle.rv_hardware.proofs.Marks.Row.{SoundRow}
use Rattle.rv_hardware.proofs.Marks.Sound.{SoundEntry, SoundFetched, SoundStage}

-- nothing of a mark is later than a cycle
abbrev pub Settled : ℕ → Mark → Type 0
Settled now m = (m.fetched ≤ now) × (at_end now m ≡ m)

start_past : (now : ℕ) (s : Start) → s.cycle ≤ now → start_until now (Some s) ≡ Some s
start_past now s le = rw (le-leb s.cycle now le) refl

settled_keep : (now : ℕ) (m : Mark) (ms : List Mark) → Settled now m → as_of now ms ≡ ms → as_of now (m ∷ ms) ≡ m ∷ ms
settled_keep now m ms settled rest = rw (le-leb m.fetched now settled.0) (λ i. settled.1 i ∷ rest i)

-- marks of which nothing is later stand at the end of a cycle as they are
pub as_of_now : (now : ℕ) (ms : List Mark) → Each (Settled now) ms → as_of now ms ≡ ms
as_of_now now [] settled = refl
as_of_now now (m ∷ ms) settled = settled_keep now m ms settled.0 (as_of_now now ms settled.1)

execution_settled : (now D C : ℕ) (x : Option Execution) → C ≤ now → IfSome x (IsBetween D C) →
    (start_until now (start_of_execution x) ≡ start_of_execution x) ×
    (until now (broadcast_of_execution x) ≡ broadcast_of_execution x)
execution_settled now D C x le h = grind (arith, start_past, until_by)

pub row_settled : {v : Values} (now : ℕ) (row : Row) → SoundRow v (now + 1) row → Settled now (mark_of_row row)
row_settled now row sound = grind (arith, execution_settled, until_by)

stage_settled : (v : Values) (i : Option Instr) (D now : ℕ) (st : Stage) → SoundStage v i D (now + 1) (now + 1) st →
    (start_until now (start_of_stage st) ≡ start_of_stage st) ×
    (until now (broadcast_of_stage st) ≡ broadcast_of_stage st)
stage_settled v i D now st h = grind (arith, start_past, until_by)

entry_settled : {v : Values} (now : ℕ) (e : Entry) → SoundEntry v (now + 1) (now + 1) (now + 1) e →
    Settled now (mark_of_entry e)
entry_settled now e sound = grind (arith, stage_settled, until_by)

fetched_settled : (now : ℕ) (f : Fetched) → SoundFetched (now + 1) f → Settled now (mark_of_fetched f)
fetched_settled now f sound = (omega (arith, sound.0), refl)

-- between two cycles nothing of a mark is later than the last
pub marks_settled : (v : Values) (now : ℕ) (steps : List Step) (es : List Entry) (fs : List Fetched) →
    Each (SoundRow v (now + 1)) (rows_of steps) → Each (SoundEntry v (now + 1) (now + 1) (now + 1)) es →
    Each (SoundFetched (now + 1)) fs → Each (Settled now) (marks steps es fs)
marks_settled v now steps es fs rows entries words =
    Each-append _ _ _ (each_image _ (row_settled now) _ rows)
    (Each-append _ _ _ (each_image _ (entry_settled now) _ entries) (each_image _ (fetched_settled now) _ words))

-- what the marks of each past cycle obey
abbrev pub Past : (ℕ → List Mark → Type 0) → List Step → Hardware → Type 0
Past P steps h = (c : ℕ) → c < h.cycle → P c (as_of c (marks_in steps h))

-- a beginning of what obeys it does
abbrev pub IsKeptByBeginnings : (ℕ → List Mark → Type 0) → Type 0
IsKeptByBeginnings P = (c : ℕ) (xs ys : List Mark) → Beginning xs ys → P c ys → P c xs

-- at the end of each cycle it holds of all marks
abbrev pub HoldsAtEnds : Values → (ℕ → List Mark → Type 0) → Type 0
HoldsAtEnds v P =
    (earlier : List Step) (old new : Hardware) (lines : Lines) (report : Report) → History v earlier old →
    History v (earlier ++ report.steps) new →
    Passed v (Extends old.cycle (marks_in earlier old)) earlier lines old report new →
    P old.cycle (marks_in (earlier ++ report.steps) new)

module _ (v : Values) (P : ℕ → List Mark → Type 0) (closed : IsKeptByBeginnings P) where
  past_goes_on : {earlier : List Step} {old new : Hardware} {lines : Lines} {report : Report} →
      Passed v (Extends old.cycle (marks_in earlier old)) earlier lines old report new →
      P old.cycle (marks_in (earlier ++ report.steps) new) → Past P earlier old → Past P (earlier ++ report.steps) new
  past_goes_on {earlier} {old} {new} {lines} {report} passed own past c lt =
      let next : new.cycle ≡ old.cycle + 1 = ap (λ (h : Hardware). h.cycle) passed.others_stay in
      let ends = subst (λ n. Basics v n n n n n n (earlier ++ report.steps) new) next passed.ends in
      let d : Hardware = (dispatching lines old).hardware in
      let words : Each (λ m. old.cycle ≤ m.fetched) (map mark_of_fetched passed.fetches.added) =
      each_image _ (λ f w. omega (arith, w.0)) _ passed.fetches.are_new in
      let goes = subst (Extends old.cycle (marks_in earlier old)) (sym passed.new_marks)
      (Extends-trans (marks_in earlier old) (marks_in (earlier ++ report.steps) d)
      (marks_in (earlier ++ report.steps) d ++ map mark_of_fetched passed.fetches.added) passed.dispatches.marks
      (Extends-more old.cycle (marks_in (earlier ++ report.steps) d) _ words)) in
      elim (cases_lt c old.cycle) [
        | inl before ↦ closed c (as_of c (marks_in (earlier ++ report.steps) new)) (as_of c (marks_in earlier old))
            (goes c before) (past c before)
        | inr since ↦
            let same : c ≡ old.cycle = omega (arith, next) in
            rw (
              same,
              as_of_now old.cycle (marks_in (earlier ++ report.steps) new)
                  (marks_settled v old.cycle (earlier ++ report.steps) _ _ ends.rows ends.entries ends.fetched),
            )
            own
      ]

  module _ (own : HoldsAtEnds v P) where
    pub history_obeys : {steps : List Step} {h : Hardware} → History v steps h → Past P steps h
    history_obeys (began image start legal) = λ c lt. absurd (omega arith)
    history_obeys (went_on {earlier} {old} {new} {lines} {report} before is) =
        let passed = cycle_passes (history_is_legal before) lines new report
        (extends_kept v old.cycle (marks_in earlier old)) (history_is_sound before)
        (Extends-self old.cycle (marks_in earlier old)) is in
        past_goes_on passed (own earlier old new lines report before (went_on before is) passed) (history_obeys before)

    -- the rows are a beginning of the marks
    pub rows_obey : {steps : List Step} {h : Hardware} → History v steps h → (c : ℕ) → c < h.cycle →
        P c (as_of c (map mark_of_row (rows_of steps)))
    rows_obey {steps} {h} history c lt =
        closed c (as_of c (map mark_of_row (rows_of steps))) (as_of c (marks_in steps h)) (
          as_of c (map mark_of_entry h.rob.entries ++ map mark_of_fetched h.front.entries),
          as_of-append c (map mark_of_row (rows_of steps))
              (map mark_of_entry h.rob.entries ++ map mark_of_fetched h.front.entries),
        )
        (history_obeys history c lt)

-- what holds then of each mark after those before it holds of the rows' marks as they stood at the end of each cycle
pub rows_obey_after : (v : Values) {steps : List Step} {h : Hardware} (P : ℕ → List Mark → Mark → Type 0) →
    HoldsAtEnds v (λ c ms. EveryAfter (P c) [] ms) → History v steps h → (c : ℕ) → c < h.cycle →
    EveryAfter (P c) [] (as_of c (map mark_of_row (rows_of steps)))
rows_obey_after v P own history c lt =
    rows_obey v (λ n ms. EveryAfter (P n) [] ms) (λ n xs ys b h. Beginning-EveryAfter (P n) xs ys b h) own history c lt
