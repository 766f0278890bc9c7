-- A run under way whose states are written: no cycle yet, one more cycle of it, and its end.
use Rattle.std.proofs.Common.{◌≡◌, ◌∙◌, ℕ, ◌+◌, ◌<◌, ◌≤◌, ◌==◌, nat_lt, if◌then◌else◌, true, false, List, [], ◌∷◌, ◌++◌}
use Rattle.std.proofs.Common.{length, map, vec_capacity, Option, refl, sym, ap, arith, inl, inr, append_assoc}
use Rattle.std.proofs.Common.{append-nil, length-append, ltb-true}
use Rattle.std.specs.Prelude.{Bool, codes}
use Rattle.std.specs.List.{flat_map, fold}
use Rattle.std.proofs.lemmas.Bool.{cases_Bool}
use Rattle.std.proofs.lemmas.List.Sums.{fold_push}
use Rattle.rv_isa.specs.declared.lines.Arrival.{Arrival}
use Rattle.rv_arch.specs.declared.outcome.Stop.{Stop}
use Rattle.rv_watch.specs.Progress.{progress_of}
use Rattle.rv_watch.specs.Watching.{IsShown, Watched, watched, with_shown}
use Rattle.rv_watch.specs.declared.progress.Progress.{Progress}
use Rattle.rv_watch.proofs.Shown.{cycle_counts}
use Rattle.rv_front.specs.declared.predictors.DescribedPredictor.{DescribedPredictor}
use Rattle.rv_hardware.specs.Guided.{GuidedHardware}
use Rattle.rv_hardware.specs.Hardware.{Hardware}
use Rattle.rv_hardware.specs.History.{Moment, reports_of}
use Rattle.rv_hardware.specs.Lessons.{lessons_of}
use Rattle.rv_hardware.specs.declared.step.Step.{Step}
use Rattle.rv_passage.specs.EndedRun.{IsEndedRun}
use Rattle.rv_passage.specs.Numbers.{Numbers, numbers_in_flight, numbers_of, plain, plainly}
use Rattle.rv_passage.specs.Passage.{is_in_flight}
use Rattle.rv_passage.specs.Table.{Passages, after_cycle, passages_of, still_open, table_at}
use Rattle.rv_passage.specs.Walk.{FollowedCycle, walk}
use Rattle.rv_passage.specs.declared.passage.Passage.{Passage}
use Rattle.rv_passage.specs.declared.table.Table.{Table}
use Rattle.rv_passage.proofs.EndedRun.{length-reports_of}
use Rattle.rv_passage.proofs.Followed.{followed_nothing}
use Rattle.rv_passage.proofs.Numbers.{numbers_now, numbers_on, plain_by_numbers}
use Rattle.rv_passage.proofs.Plain.{plain_on}
use Rattle.rv_passage.proofs.Walk.{passages_after-push}
use Rattle.rv_source.specs.Listing.{Listed}
use Rattle.rv_text.specs.Said.{Extends}
use Rattle.rv_text.proofs.Saying.{extends_both, extends_nothing, extends_same, extends_whole}
use Rattle.rv_states.specs.Cycle.{cycle_line, json_in_flight, start_line}
use Rattle.rv_states.specs.Instruction.{ended_text, instruction_json, passage_text}
use Rattle.rv_states.specs.Json.{Json, begins, numeral}
use Rattle.rv_states.specs.Page.{after_lines, before_lines}
use Rattle.rv_states.specs.Predictor.{after_lessons, untaught_predictor}
use Rattle.rv_states.specs.Showing.{IsFollowing, IsShowing, kept_of}
use Rattle.rv_states.specs.States.{WritesStates, begun_text, cycle_text, cycles_text, head_text, lines_text, shown_text}
use Rattle.rv_states.specs.States.{states_text, taught_by, window_text}
use Rattle.rv_states.specs.Stop.{stop_line}
use Rattle.rv_states.specs.declared.form.Form.{Form}
use Rattle.rv_states.proofs.JsonStates.{states_are}
use Rattle.rv_view.specs.Following.{BeginsAt, CanFollowCycle, IsFollowedOn, IsNumberedOn}
use Rattle.rv_view.specs.Viewing.{cycle_shown, cycles_seen}
use Rattle.rv_view.proofs.EndedView.{cycles_seen-push}

-- what is shown of one more cycle
shown-more : (from : ℕ) (untaught : DescribedPredictor) (cycles : List FollowedCycle) (last : FollowedCycle) →
    let known = taught_by (fold taught_by untaught cycles) last in
    cycles_text from untaught (cycles ++ last ∷ []) ≡ cycles_text from untaught cycles ++ cycle_text from last known
shown-more from untaught [] last = append-nil (cycle_text from last (taught_by untaught last))
shown-more from untaught (cycle ∷ cycles) last =
    let after = taught_by untaught cycle in
    let added = cycle_text from last (taught_by (fold taught_by after cycles) last) in
    ap (λ l. cycle_text from cycle after ++ l) (shown-more from after cycles last)
    ∙ sym (append_assoc (cycle_text from cycle after) (cycles_text from after cycles) added)

-- the whole text, from its parts
parts-whole : (around head cycles stopped after : List ℕ) →
    (around ++ head) ++ (cycles ++ (stopped ++ after)) ≡ around ++ (((head ++ cycles) ++ stopped) ++ after)
parts-whole around head cycles stopped after = simp append_assoc

-- ---- what is shown of the rows

-- of an instruction nothing is shown of what was predicted and whose results it waits for
json-plain : (rows : List Passage) → map instruction_json rows ≡ map instruction_json (map plain rows)
unfolding instruction_json ended_text passage_text
json-plain [] = refl
json-plain (p ∷ rows) = ap (λ l. instruction_json p ∷ l) (json-plain rows)

-- of those in flight their numbers alone
abbrev number_json : ℕ → Json
number_json number = begins (codes "number") (numeral number) ++ codes "}"

number-alone : (p : Passage) → is_in_flight p ≡ true → instruction_json p ≡ number_json p.number
unfolding instruction_json
number-alone p flies =
    ap (λ b. begins (codes "number") (numeral p.number) ++ ((if b then [] else ended_text p) ++ codes "}")) flies

json-numbers : (rows : List Passage) → flat_map json_in_flight rows ≡ map number_json (numbers_in_flight rows)
json-numbers [] = refl
json-numbers (p ∷ rows) = elim (cases_Bool (is_in_flight p)) [
  | inl flies ↦ rw flies (λ i. number-alone p flies i ∷ json-numbers rows i)
  | inr ended ↦ rw ended (json-numbers rows)
]

module _ (from : ℕ) (rows rows' : List Passage) (after : Hardware) (progress : Progress)
    (predictor : DescribedPredictor) where
  line-plain : (cycle : ℕ) (steps : List Step) → map plain rows ≡ map plain rows' →
      cycle_line cycle rows steps after progress predictor ≡ cycle_line cycle rows' steps after progress predictor
  unfolding cycle_line
  line-plain cycle steps same = grind (arith, json-plain)

  shown-plain : (cycle : ℕ) (steps : List Step) →
      (nat_lt from progress.cycles ≡ true → map plain rows ≡ map plain rows') →
      let text = λ (shown : List Passage). shown_text from cycle shown steps after progress predictor in
      text rows ≡ text rows'
  shown-plain cycle steps same = grind (arith, line-plain)

  begun-numbers : numbers_in_flight rows ≡ numbers_in_flight rows' →
      begun_text from rows after progress predictor ≡ begun_text from rows' after progress predictor
  unfolding window_text start_line
  begun-numbers same = grind (arith, json-numbers)

-- of a cycle before the window nothing is shown
shown-early : (from cycles : ℕ) (line window : List ℕ) → cycles < from →
    (if nat_lt from cycles then line else []) ++ (if cycles == from then window else []) ≡ []
shown-early from cycles line window early = grind arith

-- ---- no cycle yet

-- before the first cycle nothing is shown
pub showing_nothing : {arrivals : List Arrival} {h : GuidedHardware} {table : Table}
    (from : ℕ) (untaught : DescribedPredictor) (failed : Bool) (held : Option (List ℕ)) → BeginsAt h.hardware table
    → IsShowing from from untaught untaught table failed failed (watched arrivals h [] h) held held
showing_nothing {h = h} {table = table} from untaught failed held begins =
    let nothing = followed_nothing still_open h.hardware (passages_of table) begins.passages begins.few in
    record {
      same = refl;
      known = refl;
      followed = record {
        numbers = ap numbers_of begins.passages;
        others = λ late. ap plainly begins.passages;
        fetched = nothing.fetched;
        retired = nothing.retired;
        few = begins.few;
        room = begins.room;
      };
      said = extends_nothing failed held;
    }

-- ---- one more cycle

module _ {seen : Watched} {cycle : ℕ} {steps : List Step} {after : Hardware} {progress : Progress}
    (shown : IsShown seen cycle steps after progress)
    {from from' : ℕ} {untaught predictor : DescribedPredictor} {table : Table} {was failed : Bool}
    {before mid : Option (List ℕ)}
    (showing : IsShowing from from' untaught predictor table was failed seen before mid) where
  -- the table can follow it
  pub can_follow : CanFollowCycle steps table
  can_follow = grind arith

  abbrev last : FollowedCycle
  last = cycle_shown seen shown

  abbrev moment : Moment
  moment = record { report = shown.report; after = after }

  abbrev had : Passages
  had = passages_of table

  abbrev seen_now : Watched
  seen_now = with_shown seen shown

  -- what the cycles before it showed
  abbrev so_far : List ℕ
  so_far = cycles_text from untaught (cycles_seen seen)

  -- the passages at its end, where such were kept before it
  abbrev ended : Passages → Passages
  ended passages = after_cycle cycle steps after passages

  -- so many cycles there are now
  so_many : progress.cycles ≡ length seen.moments + 1
  so_many = grind (arith, length-append, length-reports_of)

  longer : length (seen.moments ++ moment ∷ []) ≡ length seen.moments + 1
  longer = length-append seen.moments (moment ∷ [])

  -- the passages at its end
  ended_there : last.passages ≡ ended (kept_of seen)
  ended_there = λ i. after_cycle (sym shown.number i) (sym shown.steps_are i) after (kept_of seen)

  -- and those that are kept after it
  kept-next : kept_of seen_now ≡ still_open (ended (kept_of seen))
  kept-next = passages_after-push still_open shown.passes moment ∙ ap still_open ended_there

  -- of a table that knew the numbers before it
  numbers_then : numbers_of (ended had) ≡ numbers_of last.passages
  numbers_then = grind (arith, numbers_now, ended_there)

  kept_then : numbers_of (still_open (ended had)) ≡ numbers_of (kept_of seen_now)
  kept_then = grind (arith, numbers_on, kept-next)

  others_then : plainly (still_open (ended had)) ≡ plainly (kept_of seen_now)
  others_then = grind (arith, plain_by_numbers, kept-next)

  -- of one that knew the rest, too
  plain_then : from ≤ length seen.moments → plainly (ended had) ≡ plainly last.passages
  plain_then late = grind (arith, plain_on, ended_there)

  -- a table that knows the numbers then, and the rest from the window's beginning on
  following_on : (table' : Table) → numbers_of (passages_of table') ≡ numbers_of (still_open (ended had))
      → (from ≤ length seen.moments + 1 → plainly (passages_of table') ≡ plainly (kept_of seen_now))
      → table'.fetched ≤ table.fetched + 288 → table'.retired ≤ table.retired + 8
      → length (passages_of table').rows ≤ 288 → length (passages_of table').interrupts ≡ 0
      → vec_capacity table.rows ≤ vec_capacity table'.rows
      → vec_capacity table.interrupts ≤ vec_capacity table'.interrupts → IsFollowing from table' seen_now
  following_on table' numbers others fetched retired few quiet rows interrupts =
      grind (arith, cycle_counts, kept_then, longer)

  -- the predictor learns its lessons
  module _ (taught : DescribedPredictor) (pc : ℕ) (pc_is : pc ≡ after.pc)
      (learns : taught ≡ after_lessons predictor (lessons_of steps pc)) where
    knows : taught ≡ taught_by (fold taught_by untaught (cycles_seen seen)) last
    knows = learns ∙ (λ i. after_lessons (showing.known i) (lessons_of (shown.steps_are i) (pc_is i)))

    known_on : taught ≡ fold taught_by untaught (cycles_seen seen_now)
    known_on =
        knows ∙ sym (fold_push taught_by untaught (cycles_seen seen) last)
        ∙ ap (fold taught_by untaught) (sym (cycles_seen-push seen shown))

    -- its text
    text_on : (more : List ℕ) → more ≡ cycle_text from last taught →
        so_far ++ more ≡ cycles_text from untaught (cycles_seen seen_now)
    text_on more is =
        ap (λ l. so_far ++ l) (is ∙ ap (cycle_text from last) knows)
        ∙ sym (shown-more from untaught (cycles_seen seen) last)
        ∙ ap (cycles_text from untaught) (sym (cycles_seen-push seen shown))

    -- before the window
    pub showing_early : (table' : Table) → progress.cycles < from' → IsNumberedOn cycle steps after table table' →
        IsShowing from from' untaught taught table' was failed seen_now before mid
    unfolding cycle_text
    showing_early table' early on =
        let counts = progress_of last.reports in
        let line = cycle_line last.number last.passages.rows last.report.steps last.after counts taught in
        let window = window_text last.passages.rows last.after counts taught in
        let count = ap (λ (p : Progress). p.cycles) shown.progress_is in
        let is_early : counts.cycles < from = omega (arith, early, showing.same, count) in
        let nothing : [] ≡ cycle_text from last taught = sym (shown-early from counts.cycles line window is_early) in
        let never =
        λ (late : from ≤ length seen.moments + 1). absurd (omega (arith, late, early, showing.same, so_many)) in
        record {
          same = showing.same;
          known = known_on;
          followed = following_on table' on.followed never on.fetched on.retired on.few on.quiet
              (omega (arith, on.rows)) (omega (arith, on.interrupts));
          said = extends_same (sym (append-nil so_far) ∙ text_on [] nothing) showing.said;
        }

    -- what is shown of rows
    abbrev shown_of : ℕ → ℕ → List Passage → List Step → Progress → List ℕ
    shown_of start number rows taken counts =
        shown_text start number rows taken after counts taught ++ begun_text start rows after counts taught

    -- from its beginning on
    pub showing_on : (full kept : Table) (failed' : Bool) (held : Option (List ℕ)) (rows_now : List Passage) →
        IsFollowedOn cycle steps after table full → rows_now ≡ (passages_of full).rows →
        passages_of kept ≡ still_open (passages_of full) →
        vec_capacity kept.rows ≡ vec_capacity full.rows → vec_capacity kept.interrupts ≡ vec_capacity full.interrupts →
        Extends failed failed' mid held (shown_of from' cycle rows_now steps progress) →
        IsShowing from from' untaught taught kept was failed' seen_now before held
    unfolding cycle_text
    showing_on full kept failed' held rows_now on rows_are opened rows interrupts says =
        let all = (passages_of full).rows in
        let same_numbers = ap (λ (ns : Numbers). ns.in_flight) (ap numbers_of on.followed ∙ numbers_then) in
        let same_rows : nat_lt from progress.cycles ≡ true → map plain all ≡ map plain last.passages.rows =
        λ late. ap (λ (t : Passages). t.rows)
        (ap plainly on.followed ∙ plain_then (omega (arith, ltb-true from progress.cycles late, so_many))) in
        let shown_plain = shown-plain from all last.passages.rows after progress taught cycle steps same_rows in
        let begun_plain = begun-numbers from all last.passages.rows after progress taught same_numbers in
        let text : shown_of from' cycle rows_now steps progress ≡ cycle_text from last taught =
        (λ i. shown_of (showing.same i) cycle (rows_are i) steps progress) ∙ (λ i. shown_plain i ++ begun_plain i)
        ∙ (λ i. shown_of from (shown.number i) last.passages.rows (shown.steps_are i) (shown.progress_is i)) in
        let left = opened ∙ ap still_open on.followed in
        record {
          same = showing.same;
          known = known_on;
          followed = following_on kept (ap numbers_of left) (λ late. ap plainly left ∙ others_then)
              (omega (arith, on.fetched, ap (λ (t : Passages). t.fetched) opened))
              (omega (arith, on.retired, ap (λ (t : Passages). t.retired) opened))
              (omega (arith, on.few, ap (λ (t : Passages). length t.rows) opened))
              (ap (λ (t : Passages). length t.interrupts) opened)
              (omega (arith, on.rows, rows)) (omega (arith, on.interrupts, interrupts));
          said = extends_same (text_on _ text) (extends_both showing.said says);
        }

-- the states of a run that ended
pub shown_to_the_end : {arrivals : List Arrival} {from limit : ℕ} {listing : Listed} {old new : GuidedHardware}
    {moments : List Moment} {stop : Stop} {untaught : DescribedPredictor} {rows : List Passage} {cycles : ℕ}
    {begun failed ended : Bool} {before mid held now : Option (List ℕ)} (form : Form)
    → IsEndedRun arrivals limit old moments new stop → untaught ≡ untaught_predictor old.hardware.values
    → rows ≡ (table_at old.hardware).rows → cycles ≡ length (reports_of moments)
    → Extends false begun before mid (before_lines form ++ head_text from listing rows old.hardware untaught)
    → Extends begun failed mid held (cycles_text from untaught (walk still_open old.hardware moments))
    → Extends failed ended held now (stop_line cycles stop ++ after_lines form)
    → WritesStates arrivals from limit form listing old new stop ended before now
unfolding states_text lines_text
shown_to_the_end {from = from} {listing = listing} {old = old} {moments = moments} {stop = stop} {untaught = untaught}
    {rows = rows} form run untaught_is rows_are cycles_are begin goes_on ends =
    let known = untaught_predictor old.hardware.values in
    let head = head_text from listing (table_at old.hardware).rows old.hardware known in
    let seen = walk still_open old.hardware moments in
    let text = states_text from listing old.hardware moments stop in
    let begun : before_lines form ++ head_text from listing rows old.hardware untaught ≡ before_lines form ++ head =
    λ i. before_lines form ++ head_text from listing (rows_are i) old.hardware (untaught_is i) in
    let same_cycles = ap (λ (predictor : DescribedPredictor). cycles_text from predictor seen) untaught_is in
    let stopped = ap (λ (n : ℕ). stop_line n stop ++ after_lines form) (cycles_are ∙ length-reports_of moments) in
    let rest = extends_both (extends_same same_cycles goes_on) (extends_same stopped ends) in
    let written = extends_both (extends_same begun begin) rest in
    let last = stop_line (length moments) stop in
    let whole = parts-whole (before_lines form) head (cycles_text from known seen) last (after_lines form) in
    let lines = states_are from listing old.hardware moments stop in (
      before_lines form ++ (text ++ after_lines form),
      record {
        moments = moments;
        run = run;
        json = lines.is;
        no_markup = lines.plain;
        text_is = refl;
      },
      extends_whole (extends_same whole written),
    )
