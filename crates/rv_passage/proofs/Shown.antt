-- The rows of a table that follows a run show what is in flight, so through the next cycle most of each stays.
use Rattle.std.proofs.Common.{◌≡◌, ◌∙◌, ℕ, ◌+◌, nat_lt, true, false, List, [], ◌∷◌, ◌++◌, filter, map, drop, Option}
use Rattle.std.proofs.Common.{Some, None, refl, sym, ap, subst, arith, inl, inr, slice_get}
use Rattle.std.proofs.lemmas.Bool.{cases_Bool, false≢true}
use Rattle.rv_hardware.proofs.Words.{Each}
use Rattle.rv_isa.specs.declared.lines.Arrival.{Arrival}
use Rattle.rv_isa.specs.declared.lines.Lines.{Lines}
use Rattle.rv_front.specs.FetchBuffer.{Answers}
use Rattle.rv_front.specs.declared.fetched.Fetched.{Fetched}
use Rattle.rv_rob.specs.Entry.{issue_of}
use Rattle.rv_rob.specs.declared.entry.Entry.{Entry}
use Rattle.rv_rob.specs.declared.entry.Stage.TheVariants.{Waiting}
use Rattle.rv_hardware.specs.Cycle.{IsCycle}
use Rattle.rv_hardware.specs.Guided.{GuidedHardware, IsGuidedCycle}
use Rattle.rv_hardware.specs.Hardware.{Hardware}
use Rattle.rv_hardware.specs.History.{History, Moment, cycled, ended as no_cycle}
use Rattle.rv_hardware.specs.Lessons.{first_pc}
use Rattle.rv_hardware.specs.Onward.{Flight, GoOn, IsFetchedIn, fetched_now, flights, goes_on, left_by}
use Rattle.rv_hardware.specs.Onward.{of_entry as flight_of_entry, of_fetched as flight_of_fetched}
use Rattle.rv_hardware.specs.Report.{Report}
use Rattle.rv_hardware.specs.declared.step.Step.{Step}
use Rattle.rv_hardware.specs.declared.step.Step.TheVariants as step
use Rattle.rv_hardware.proofs.Onward.{cycle-goes_on}
use Rattle.rv_passage.specs.Followed.{HasFollowed, HasOpen}
use Rattle.rv_passage.specs.Passage.{broadcast_of, in_flight, is_in_flight, is_running, nothing_awaited}
use Rattle.rv_passage.specs.Passage.{of_entry, of_fetched, retired_by, trapped_by}
use Rattle.rv_passage.specs.Producers.{standing_at}
use Rattle.rv_passage.specs.Shown.{AreStill, IsStill, IsStillNext, KeepsOpen, Show, Shows, more, nothing}
use Rattle.rv_passage.specs.Shown.{rows_in_flight}
use Rattle.rv_passage.specs.Table.{Passages, after_cycle, left_after, next_before, numbered_from, passages_of}
use Rattle.rv_passage.specs.Table.{still_open, with_oldest, with_step, with_steps}
use Rattle.rv_passage.specs.Walk.{Standing, next_cycle, standing_after, standing_after_all}
use Rattle.rv_passage.specs.declared.passage.Ending.TheVariants as ending
use Rattle.rv_passage.specs.declared.passage.Passage.{Passage}
use Rattle.rv_passage.specs.declared.table.Table.{Table}
use Rattle.rv_passage.proofs.Moving.{drop-at}
use Rattle.rv_passage.proofs.MovesOn.{MovesOn, fetched, moves_on, squashed, stands, stays}
use Rattle.rv_passage.proofs.Numbers.{open-again}

-- ---- the buffers show what is in flight

-- what is made of an instruction in flight, with any prediction, shows it
made-shows : (f : Flight) (predicted : Option ℕ) → (f.dispatched ≡ None → f.stage ≡ Waiting) →
    Shows f (record {
      number = 0;
      pc = f.pc;
      word = f.word;
      instruction = f.instruction;
      predicted = predicted;
      fetched = f.fetched;
      dispatched = f.dispatched;
      producers = nothing_awaited;
      issue = issue_of f.stage;
      broadcast = broadcast_of f.stage;
      ending = ending.InFlight;
    })
made-shows f predicted waits = grind arith

words-show : (words : List Fetched) → Show (map flight_of_fetched words) (map of_fetched words)
words-show [] = nothing
words-show (w ∷ words) =
    more (made-shows (flight_of_fetched w) (of_fetched w).predicted (λ none. refl)) (words-show words)

buffers-show : (entries : List Entry) (words : List Fetched) →
    Show (map flight_of_entry entries ++ map flight_of_fetched words) (map of_entry entries ++ map of_fetched words)
buffers-show [] words = words-show words
buffers-show (e ∷ entries) words =
    more (made-shows (flight_of_entry e) (of_entry e).predicted (λ none. absurd (cc))) (buffers-show entries words)

pub hardware-shows : (h : Hardware) → Show (flights h) (in_flight h)
hardware-shows h = buffers-show h.rob.entries h.front.entries

-- what shows an instruction in flight is in flight
pub shown-flies : {f : Flight} {p : Passage} → Shows f p → is_in_flight p ≡ true
shown-flies shows = ap is_running shows.ending

-- what shows them shows them under numbers
pub numbered-show : (number : ℕ) {fs : List Flight} {ps : List Passage} → Show fs ps →
    Show fs (filter is_in_flight (numbered_from number ps))
numbered-show number nothing = nothing
numbered-show number (more shows rest) = rw (shown-flies shows) (more (record {
  ending = shows.ending;
  pc = shows.pc;
  word = shows.word;
  instruction = shows.instruction;
  fetched = shows.fetched;
  dispatched = shows.dispatched;
  issue = shows.issue;
  broadcast = shows.broadcast;
  buffered = shows.buffered;
}) (numbered-show (number + 1) rest))

-- ---- the steps of a cycle

module _ (change : Passage → Passage) (ends : (p : Passage) → is_in_flight (change p) ≡ false) where
  -- where the oldest in flight ends, the others stay
  pub open-with_oldest : (ps : List Passage) →
      filter is_in_flight (with_oldest change ps) ≡ drop 1 (filter is_in_flight ps)
  open-with_oldest [] = refl
  open-with_oldest (p ∷ ps) = grind (arith, open-with_oldest ps)

-- what the steps of a cycle leave of the rows in flight
pub open-steps : (steps : List Step) (next : ℕ) (t : Passages) →
    filter is_in_flight (with_steps steps next t).rows ≡ left_by steps (rows_in_flight t)
open-steps [] next t = refl
open-steps (step.Retired row ∷ steps) next t =
    open-steps steps next (with_step (step.Retired row) (first_pc steps next) t)
    ∙ ap (left_by steps) (open-with_oldest (retired_by row t.retired (first_pc steps next)) (λ p. refl) t.rows)
open-steps (step.Trap pc cause value cycle ∷ steps) next t =
    open-steps steps next (with_step (step.Trap pc cause value cycle) (first_pc steps next) t)
    ∙ ap (left_by steps) (open-with_oldest (trapped_by cause cycle) (λ p. refl) t.rows)
open-steps (step.Interrupt pc cause cycle ∷ steps) next t =
    open-steps steps next (with_step (step.Interrupt pc cause cycle) (first_pc steps next) t)

drop-show : {fs : List Flight} {ps : List Passage} → Show fs ps → Show (drop 1 fs) (drop 1 ps)
drop-show nothing = nothing
drop-show (more shows rest) = rest

-- and that shows what they leave in flight
pub left-show : (steps : List Step) {fs : List Flight} {ps : List Passage} → Show fs ps →
    Show (left_by steps fs) (left_by steps ps)
left-show [] show = show
left-show (step.Retired row ∷ steps) show = left-show steps (drop-show show)
left-show (step.Trap pc cause value cycle ∷ steps) show = left-show steps (drop-show show)
left-show (step.Interrupt pc cause cycle ∷ steps) show = left-show steps show

-- ---- the end of a cycle

module _ (cycle : ℕ) where
  left-ended : (now : List Passage) (p : Passage) → is_in_flight p ≡ false → left_after cycle now p ≡ now
  left-ended now p ended = rw ended refl

  left-none : (now : List Passage) (p : Passage) → is_in_flight p ≡ true → next_before cycle now ≡ None →
      left_after cycle now p ≡ now
  left-none now p flies none = rw (flies, none) refl

  next-here : (n : Passage) (now : List Passage) → nat_lt n.fetched cycle ≡ true → next_before cycle (n ∷ now) ≡ Some n
  next-here n now before = rw before refl

  left-next : (n : Passage) (now : List Passage) (p : Passage) → is_in_flight p ≡ true → nat_lt n.fetched cycle ≡ true →
      left_after cycle (n ∷ now) p ≡ now
  left-next n now p flies before = rw (flies, before) refl

  -- where nothing in flight was fetched before the cycle, no row stands
  still-none : (ps now : List Passage) → next_before cycle now ≡ None → AreStill cycle ps now
  still-none [] now none = tt
  still-none (p ∷ ps) now none =
      let rest = still-none ps now none in
      let left : left_after cycle now p ≡ now = elim (cases_Bool (is_in_flight p)) [
        | inl flies ↦ left-none now p flies none
        | inr ended ↦ left-ended now p ended
      ] in
      ((λ flies. subst (IsStillNext p) (sym none) tt), subst (AreStill cycle ps) (sym left) rest)

  none-before : {fs : List Flight} {now : List Passage} → Each (IsFetchedIn cycle) fs → Show fs now →
      next_before cycle now ≡ None
  none-before new nothing = refl
  none-before new (more {p = n} {ps = now} shows rest) = grind arith

  -- where the rows before show what is in flight and that goes on, each is still what it was
  abbrev Stills : List Passage → Type 0
  Stills ps =
      (olds news : List Flight) (now : List Passage) → Show olds (filter is_in_flight ps) → GoOn cycle olds news →
      Show news now → AreStill cycle ps now

  one-still : (p : Passage) (ps now : List Passage) {olds news : List Flight} → Stills ps → is_in_flight p ≡ true →
      Show olds (p ∷ filter is_in_flight ps) → GoOn cycle olds news → Show news now → AreStill cycle (p ∷ ps) now
  one-still p ps now others flies show (fetched_now new) here = still-none (p ∷ ps) now (none-before new here)
  one-still p ps [] others flies (more was rest) (goes_on later goes) here = elim here [ ]
  one-still p ps (n ∷ now) others flies (more was rest) (goes_on later goes) (more is here) = grind (arith, still-none)

  are-still : (ps : List Passage) → Stills ps
  are-still [] olds news now show goes here = tt
  are-still (p ∷ ps) olds news now show goes here = elim (cases_Bool (is_in_flight p)) [
    | inl flies ↦
        let first : Show olds (p ∷ filter is_in_flight ps) = rw flies at show in
        one-still p ps now (are-still ps) flies first goes here
    | inr ended ↦
        let rest : Show olds (filter is_in_flight ps) = rw ended at show in (
          (λ flies. absurd (false≢true (sym ended ∙ flies))),
          subst (AreStill cycle ps) (sym (left-ended now p ended)) (are-still ps olds news now rest goes here),
        )
  ]

  stands-shown : (older : List Passage) {f : Flight} {p n : Passage} → IsStill p n → Shows f n →
      Shows f (standing_at older n p)
  stands-shown older {p = p} {n} still is = grind arith

  -- and the rows then show what is in flight
  moves-show : {number : ℕ} {ps now rows : List Passage} {news : List Flight} → MovesOn cycle number ps now rows →
      AreStill cycle ps now → Show news now → Show news (filter is_in_flight rows)
  moves-show {number} (fetched {now}) still here = numbered-show number here
  moves-show (stays {p} {ps} {now} ended moves) still here =
      rw ended (moves-show moves (subst (AreStill cycle ps) (left-ended now p ended) still.1) here)
  moves-show (squashed {p} {ps} {now} flies none moves) still here =
      moves-show moves (subst (AreStill cycle ps) (left-none now p flies none) still.1) here
  moves-show (stands {p} {n} older {ps} {now} flies before moves) still (more is here) =
      let stays : IsStill p n = subst (IsStillNext p) (next-here n now before) (still.0 flies) in
      let rest = moves-show moves (subst (AreStill cycle ps) (left-next n now p flies before) still.1) here in
      rw (shown-flies is) (more (stands-shown older stays is) rest)

-- the one at a place is, where it and those after it are, and those after it are in what is left
pub still-here : (cycle : ℕ) (rows now : List Passage) (place : ℕ) (p : Passage) → slice_get rows place ≡ Some p →
    AreStill cycle (drop place rows) now →
    (is_in_flight p ≡ true → IsStillNext p (next_before cycle now)) ×
    AreStill cycle (drop (place + 1) rows) (left_after cycle now p)
still-here cycle rows now place p there still = subst (λ ps. AreStill cycle ps now) (drop-at rows place p there) still

-- ---- a whole cycle

module _ {answers : Answers} {lines : Lines} {old new : Hardware} {report : Report}
    (passes : IsCycle answers lines old report new) {cycle : ℕ} (number : cycle ≡ old.cycle) (t : Passages)
    (show : Show (flights old) (rows_in_flight t)) where
  -- once its steps were taken, each row is still what it stands as at its end
  pub cycle-still : AreStill cycle (with_steps report.steps new.pc t).rows (in_flight new)
  cycle-still =
      let goes =
      subst (λ n. GoOn n (left_by report.steps (flights old)) (flights new)) (sym number) (cycle-goes_on passes) in
      let left =
      subst (Show (left_by report.steps (flights old))) (sym (open-steps report.steps new.pc t))
      (left-show report.steps show) in
      are-still cycle (with_steps report.steps new.pc t).rows _ _ (in_flight new) left goes (hardware-shows new)

  -- and the rows then show what is in flight
  pub cycle-shows : Show (flights new) (rows_in_flight (after_cycle cycle report.steps new t))
  cycle-shows =
      let rows = (with_steps report.steps new.pc t).rows in
      let from = (with_steps report.steps new.pc t).fetched in
      moves-show cycle (moves_on cycle from [] rows (in_flight new)) cycle-still (hardware-shows new)

-- ---- a run

module _ (keep : Passages → Passages) (keeps : KeepsOpen keep) where
  after-shows : {arrivals : List Arrival} {old now : GuidedHardware} {moments : List Moment} →
      History arrivals old moments now →
      (standing : Standing) → standing.number ≡ old.hardware.cycle →
      Show (flights old.hardware) (rows_in_flight standing.kept) →
      Show (flights now.hardware) (rows_in_flight (standing_after_all keep standing moments).kept)
  after-shows no_cycle standing number show = show
  after-shows (cycled {moment = moment} first rest) standing number show =
      let after = next_cycle standing moment in
      let shows = cycle-shows first.cycle number standing.kept show in
      after-shows rest (standing_after keep after) refl
      (subst (Show (flights moment.after)) (sym (keeps after.passages)) shows)

  -- of a table that follows a run and keeps what is in flight, the rows in flight show it
  pub followed-shows : {arrivals : List Arrival} {first now : GuidedHardware} {moments : List Moment}
      {table : Passages} →
      History arrivals first moments now → HasFollowed keep first.hardware moments now.hardware table →
      Show (flights now.hardware) (rows_in_flight table)
  followed-shows {first = first} {now} passes followed = grind (arith, numbered-show, hardware-shows, after-shows)

-- So in the next cycle, once its steps were taken, each row in flight is still what it stands as at its end.
module _ {arrivals : List Arrival} {lines : Lines} {first now after : GuidedHardware} {moments : List Moment}
    {report : Report} (passes : History arrivals first moments now) (guided : IsGuidedCycle lines now report after)
    {cycle : ℕ} {steps : List Step} (number : cycle ≡ now.hardware.cycle) (steps_are : steps ≡ report.steps) where
  -- of a table that follows the run and keeps what is in flight
  pub followed-still : (keep : Passages → Passages) → KeepsOpen keep → {table : Passages} →
      HasFollowed keep first.hardware moments now.hardware table →
      AreStill cycle (with_steps steps after.hardware.pc table).rows (in_flight after.hardware)
  followed-still keep keeps {table} followed =
      subst (λ ss. AreStill cycle (with_steps ss after.hardware.pc table).rows (in_flight after.hardware))
      (sym steps_are) (cycle-still guided.cycle number table (followed-shows keep keeps passes followed))

  -- of one that forgets what left the hardware, too
  pub open-still : {table : Table} → HasOpen first.hardware moments now.hardware table →
      AreStill cycle (with_steps steps after.hardware.pc (passages_of table)).rows (in_flight after.hardware)
  open-still so_far = followed-still still_open (λ t. open-again t.rows) so_far.followed
