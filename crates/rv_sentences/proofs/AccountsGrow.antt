-- What the cycles of a run are on account of, with one cycle more.
use Rattle.std.proofs.Common.{◌≡◌, ◌∙◌, ℕ, suc, List, [], ◌∷◌, ◌++◌, length, count_by, Option, None, refl, sym, ap}
use Rattle.std.proofs.Common.{arith}
use Rattle.std.proofs.lemmas.List.Sums.{sum_by-append}
use Rattle.rv_isa.specs.declared.lines.Arrival.{Arrival}
use Rattle.rv_isa.specs.declared.values.Values.{Values}
use Rattle.rv_hardware.specs.Guided.{GuidedHardware}
use Rattle.rv_hardware.specs.Hardware.{Hardware}
use Rattle.rv_hardware.specs.History.{History, Moment}
use Rattle.rv_passage.specs.Table.{still_open}
use Rattle.rv_passage.specs.Walk.{FollowedCycle, Standing, next_cycle, standing_after, standing_at, walk, walk_from}
use Rattle.rv_passage.specs.declared.passage.Passage.{Passage}
use Rattle.rv_passage.proofs.Walk.{last_cycle, walk-push}
use Rattle.rv_counts.specs.Counts.{one_more}
use Rattle.rv_sentences.specs.Head.{account_of, accounts_from, accounts_of, last_flusher, flusher_in, flusher_of}
use Rattle.rv_sentences.specs.Head.{is_idle, itself}
use Rattle.rv_sentences.specs.WordCount.{count_at, with_one}
use Rattle.rv_sentences.specs.WordNotes.{notes_of}
use Rattle.rv_sentences.proofs.CountsGrow.{with_last_at}

last_flusher-push : (before : Option ℕ) (cycles : List FollowedCycle) (last : FollowedCycle) →
    last_flusher before (cycles ++ last ∷ []) ≡ flusher_in last.after last.passages.rows (last_flusher before cycles)
last_flusher-push before [] last = refl
last_flusher-push before (cycle ∷ cycles) last =
    last_flusher-push (flusher_in cycle.after cycle.passages.rows before) cycles last

accounts_from-push : (before : Option ℕ) (cycles : List FollowedCycle) (last : FollowedCycle)
    → accounts_from before (cycles ++ last ∷ [])
    ≡ accounts_from before cycles ++ account_of last.after last.passages.rows (last_flusher before cycles) ∷ []
accounts_from-push before [] last = refl
accounts_from-push before (cycle ∷ cycles) last =
    ap (λ rest. account_of cycle.after cycle.passages.rows before ∷ rest)
    (accounts_from-push (flusher_in cycle.after cycle.passages.rows before) cycles last)

-- one more cycle, with these passages at its end
module _ {arrivals : List Arrival} {old now : GuidedHardware} {moments : List Moment} (moment : Moment)
    (passes : History arrivals old moments now)
    {rows : List Passage} (rows_are : rows ≡ (last_cycle still_open passes moment).passages.rows) where
  -- the line that flushed last, with one cycle more
  pub flusher-push : flusher_in moment.after rows (flusher_of old.hardware moments)
      ≡ flusher_of old.hardware (moments ++ moment ∷ [])
  flusher-push =
      sym (
      ap (last_flusher None) (walk-push still_open passes moment)
      ∙ last_flusher-push None (walk still_open old.hardware moments) (last_cycle still_open passes moment)
      ∙ ap (λ ps. flusher_in moment.after ps (flusher_of old.hardware moments)) (sym rows_are)
      )

  accounts-push : accounts_of old.hardware (moments ++ moment ∷ [])
      ≡ accounts_of old.hardware moments ++ account_of moment.after rows (flusher_of old.hardware moments) ∷ []
  accounts-push =
      ap (accounts_from None) (walk-push still_open passes moment)
      ∙ accounts_from-push None (walk still_open old.hardware moments) (last_cycle still_open passes moment)
      ∙ ap (λ ps. accounts_of old.hardware moments
      ++ account_of moment.after ps (flusher_of old.hardware moments) ∷ []) (sym rows_are)

  -- the words that the cycles are on account of
  pub heads-push : (values : Values) →
      with_one (account_of moment.after rows (flusher_of old.hardware moments))
      (notes_of values (count_at itself (accounts_of old.hardware moments)))
      ≡ notes_of values (count_at itself (accounts_of old.hardware (moments ++ moment ∷ [])))
  heads-push values =
      with_last_at values itself (accounts_of old.hardware moments)
      (account_of moment.after rows (flusher_of old.hardware moments))
      ∙ ap (λ all. notes_of values (count_at itself all)) (sym accounts-push)

  -- the cycles that are on account of none
  pub idle-push : one_more (is_idle (account_of moment.after rows (flusher_of old.hardware moments)))
      (count_by is_idle (accounts_of old.hardware moments))
      ≡ count_by is_idle (accounts_of old.hardware (moments ++ moment ∷ []))
  idle-push = grind (arith, is_idle, accounts-push, sum_by-append, one_more)

-- each cycle is on account of one
length-accounts_from : (before : Option ℕ) (cycles : List FollowedCycle) →
    length (accounts_from before cycles) ≡ length cycles
length-accounts_from before [] = refl
length-accounts_from before (cycle ∷ cycles) =
    ap suc (length-accounts_from (flusher_in cycle.after cycle.passages.rows before) cycles)

-- a walk has a cycle for each
pub length-walk_from : (standing : Standing) (moments : List Moment) →
    length (walk_from still_open standing moments) ≡ length moments
length-walk_from standing [] = refl
length-walk_from standing (moment ∷ moments) =
    ap suc (length-walk_from (standing_after still_open (next_cycle standing moment)) moments)

-- and each is on one account
pub length-accounts : (h : Hardware) (moments : List Moment) → length (accounts_of h moments) ≡ length moments
length-accounts h moments = length-accounts_from None (walk still_open h moments)
    ∙ length-walk_from (standing_at h) moments
