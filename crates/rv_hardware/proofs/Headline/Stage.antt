-- A new stage of an instruction in flight leaves all else as it is, where it holds the result.
use Rattle.rv_hardware.proofs.Words.{◌≡◌, ◌%◌, List, [], ◌∷◌, ◌++◌, Layout, State, Entry, Stage, FetchBuffer, arith}
use Rattle.rv_hardware.proofs.Headline.Fold.{result_at, executed, after_entries, IsResult, IsInFlight, AreInFlight}
use Rattle.rv_hardware.proofs.Headline.Invariant.{FollowsProgram}
use Rattle.rv_hardware.proofs.Headline.Split.{after_entries-append, AreInFlight-older, AreInFlight-younger}
use Rattle.rv_hardware.proofs.Headline.Split.{AreInFlight-append}

module _ (layout : Layout) (s : State) where
  -- pcs are multiples of 4
  pub after_aligned : (now : State) (es : List Entry) (start : State) → AreInFlight layout now start es →
      start.pc % 4 ≡ 0 → (after_entries layout es start).pc % 4 ≡ 0
  after_aligned now [] start all aligned = aligned
  after_aligned now (e ∷ es) start all aligned = after_aligned now es (executed layout e start) all.1 all.0.aligned

  module _ (older : List Entry) (e : Entry) (younger : List Entry) where
    pub after_entries-staged : (stage : Stage) →
        after_entries layout (older ++ record e { stage = stage } ∷ younger) s ≡
        after_entries layout (older ++ e ∷ younger) s
    after_entries-staged stage = grind (arith, after_entries-append)

    -- an instruction among those in flight follows the program at its place
    pub here_in_flight : AreInFlight layout s s (older ++ e ∷ younger) →
        IsInFlight layout s (after_entries layout older s) e
    here_in_flight all = (AreInFlight-younger layout s s older (e ∷ younger) all).0

    pub AreInFlight-staged : (stage : Stage) → AreInFlight layout s s (older ++ e ∷ younger) →
        IsResult (result_at layout (after_entries layout older s) e) stage →
        AreInFlight layout s s (older ++ record e { stage = stage } ∷ younger)
    AreInFlight-staged stage all result = grind (arith, AreInFlight-younger, AreInFlight-append, AreInFlight-older)

    -- a new stage that holds the right result leaves all that is in flight as the program has it
    pub FollowsProgram-staged : (stage : Stage) {front : FetchBuffer} {entries now : List Entry} →
        entries ≡ older ++ e ∷ younger → now ≡ older ++ record e { stage = stage } ∷ younger →
        IsResult (result_at layout (after_entries layout older s) e) stage → FollowsProgram layout s entries front →
        FollowsProgram layout s now front
    FollowsProgram-staged stage were are result given = grind (arith, after_entries-staged, AreInFlight-staged)
