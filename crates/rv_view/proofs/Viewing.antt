-- A run under way that a view is shown: no cycle yet, and one cycle more.
use Rattle.std.proofs.Common.{◌≡◌, ◌∙◌, ℕ, ◌≤◌, List, [], ◌∷◌, ◌++◌, length, vec_capacity, Option, sym, ap, arith}
use Rattle.std.specs.Prelude.{Bool}
use Rattle.rv_isa.specs.declared.lines.Arrival.{Arrival}
use Rattle.rv_watch.specs.Watching.{IsShown, Watched, watched, with_shown}
use Rattle.rv_watch.specs.declared.progress.Progress.{Progress}
use Rattle.rv_watch.proofs.Shown.{cycle_counts}
use Rattle.rv_hardware.specs.Guided.{GuidedHardware}
use Rattle.rv_hardware.specs.Hardware.{Hardware}
use Rattle.rv_hardware.specs.History.{Moment}
use Rattle.rv_hardware.specs.declared.step.Step.{Step}
use Rattle.rv_passage.specs.Passage.{in_flight}
use Rattle.rv_passage.specs.Shown.{AreStill}
use Rattle.rv_passage.specs.Table.{Passages, passages_of, still_open, with_steps}
use Rattle.rv_passage.specs.Walk.{FollowedCycle}
use Rattle.rv_passage.specs.declared.passage.Passage.{Passage}
use Rattle.rv_passage.specs.declared.table.Table.{Table}
use Rattle.rv_passage.proofs.Followed.{can_count, few_rows, full_is, open_nothing, open_on}
use Rattle.rv_passage.proofs.Shown.{open-still}
use Rattle.rv_passage.proofs.Walk.{walk-push}
use Rattle.rv_text.specs.Said.{Extends}
use Rattle.rv_text.proofs.Saying.{extends_both, extends_nothing, extends_same}
use Rattle.rv_view.specs.Following.{CanFollowCycle, FollowsFrom, IsFollowedOn}
use Rattle.rv_view.specs.Viewing.{IsViewing, Saying, Seeing, cycle_shown, cycles_seen}
use Rattle.rv_view.specs.declared.following.Following.{Following}

module _ {V : Type 0} (has_seen : Seeing V) (text : Saying V) where
  -- a view under way: as it was at first and is now, whether a write had failed and has, the table, and the text
  abbrev Viewing : V → V → Bool → Bool → Table → Watched → Option (List ℕ) → Option (List ℕ) → Type 0
  Viewing start view was failed table seen before now =
      IsViewing has_seen text start view was failed table seen before now

  -- no cycle yet
  pub viewing_nothing : {arrivals : List Arrival} {h : GuidedHardware} {view : V} {following : Following}
      (failed : Bool) (held : Option (List ℕ)) → FollowsFrom h.hardware following →
      has_seen view view (watched arrivals h [] h) → text view h.hardware [] ≡ [] →
      Viewing view view failed failed following.table (watched arrivals h [] h) held held
  viewing_nothing {h = h} {following = following} failed held follows ready nothing = record {
    sees = ready;
    kept = open_nothing h.hardware following.table follows.table.passages follows.table.room follows.table.few;
    said = extends_same (sym nothing) (extends_nothing failed held);
  }

  -- the view made room
  pub viewing_still : {start view view' : V} {was failed : Bool} {table : Table} {seen : Watched}
      {before now : Option (List ℕ)} → (has_seen start view seen → has_seen start view' seen) →
      Viewing start view was failed table seen before now → Viewing start view' was failed table seen before now
  viewing_still still viewing = record { sees = still viewing.sees; kept = viewing.kept; said = viewing.said }

  module _ {seen : Watched} {cycle : ℕ} {steps : List Step} {after : Hardware} {progress : Progress}
      (shown : IsShown seen cycle steps after progress) {start view : V} {was failed : Bool} {table : Table}
      {before mid : Option (List ℕ)} (viewing : Viewing start view was failed table seen before mid) where
    -- the table can follow it
    pub can_follow : CanFollowCycle steps table
    can_follow = record {
      room = viewing.kept.room.room;
      countable = can_count viewing.kept.followed (omega (arith, shown.number, shown.counted));
      few = shown.few;
    }

    -- each of its rows is still what it stands as at the end of the next cycle
    pub still_on : AreStill cycle (with_steps steps after.pc (passages_of table)).rows (in_flight after)
    still_on = open-still shown.passes shown.cycled shown.number shown.steps_are viewing.kept

    abbrev last : Moment
    last = record { report = shown.report; after = after }

    abbrev next : FollowedCycle
    next = cycle_shown seen shown

    -- its text of cycles
    abbrev text_of : List FollowedCycle → List ℕ
    text_of = text start seen.first.hardware

    -- one more cycle, which the table follows
    module _ {full : Table} (on : IsFollowedOn cycle steps after table full) where
      -- its rows are those of the next cycle
      pub rows_now : (rows : List Passage) → rows ≡ (passages_of full).rows → rows ≡ next.passages.rows
      rows_now rows are =
          let full = full_is shown.passes viewing.kept.followed last shown.number shown.steps_are on.followed in
          are ∙ ap (λ (t : Passages). t.rows) full

      -- and are few
      pub few_now : (rows : List Passage) → rows ≡ (passages_of full).rows → length rows ≤ 576
      few_now rows are =
          let few = few_rows viewing.kept cycle steps after full on.followed on.fetched in
          omega (arith, ap length are, few)

      -- and whose text is said
      pub viewing_on : {kept : Table} {view' : V} {failed' : Bool} {now : Option (List ℕ)} {more : List ℕ} →
          passages_of kept ≡ still_open (passages_of full) → vec_capacity full.rows ≤ vec_capacity kept.rows →
          vec_capacity full.interrupts ≤ vec_capacity kept.interrupts → has_seen start view' (with_shown seen shown) →
          Extends failed failed' mid now more →
          text_of (cycles_seen seen ++ next ∷ []) ≡ text_of (cycles_seen seen) ++ more →
          Viewing start view' was failed' kept (with_shown seen shown) before now
      viewing_on {kept = kept} opened rows interrupts sees extends text_is =
          let one_more = cycle_counts shown.cycled in
          let room = viewing.kept.room in
          record {
            sees = sees;
            kept = open_on shown.passes viewing.kept last shown.number shown.steps_are full on.followed one_more kept
                opened on.fetched on.retired on.few (omega (arith, room.rows, on.rows, rows))
                (omega (arith, room.interrupts, on.interrupts, interrupts));
            said = extends_same (sym text_is ∙ ap text_of (sym (walk-push still_open shown.passes last)))
                (extends_both viewing.said extends);
          }
