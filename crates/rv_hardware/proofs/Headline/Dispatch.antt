-- The dispatch phase changes nothing that programs see.
use Rattle.rv_hardware.proofs.Words.{◌≡◌, ℕ, Bool, false, List, [], ◌∷◌, ◌++◌, None, Option, subst, true≢false}
use Rattle.rv_hardware.proofs.Words.{no_lines, is_load, is_serialising, kind_of_word, sources_of_word, Instr, Kind}
use Rattle.rv_hardware.proofs.Words.{Values, Layout, State, pushed, Entry, Finished, Fetched, dispatch}
use Rattle.rv_hardware.proofs.Words.{entry_of_fetched, stage_by, Hardware, result_of_word, layout_of, seen, state_after}
use Rattle.rv_hardware.proofs.Words.{arith}
use Rattle.rv_hardware.proofs.Turns.KeptByDispatch.{dispatch-keeps}
use Rattle.rv_hardware.proofs.Headline.Fold.{after_entries, IsResult}
use Rattle.rv_hardware.proofs.Headline.Invariant.{FollowsProgram, IsSoundAt, with_other_program}
use Rattle.rv_hardware.proofs.Headline.Result.{ReadsSame, same_result}
use Rattle.rv_hardware.proofs.Headline.Split.{after_entries-append, AreInFlight-append}

-- an instruction that uses no unit reads neither registers nor memory
record ReadsNothing (s t : State) (i : Option Instr) : Type 0 where
  pub reads : ReadsSame s t (sources_of_word i)
  pub no_load : is_load i ≡ false

reads_nothing : (s t : State) (i : Option Instr) → kind_of_word i ≡ None → is_serialising i ≡ false → ReadsNothing s t i
reads_nothing s t i given plain = grind (arith, true≢false)

module _ (h : Hardware) (fetched : Fetched) where
  abbrev layout : Layout
  layout = layout_of h.values

  abbrev s : State
  s = seen h

  abbrev e : Entry
  e = entry_of_fetched h fetched

  abbrev now : State
  now = after_entries layout h.rob.entries s

  -- what is finished at once has its result
  stage_result : (k : Option Kind) (serialising : Bool) → kind_of_word fetched.instruction ≡ k →
      is_serialising fetched.instruction ≡ serialising → fetched.pc ≡ now.pc →
      IsResult (result_of_word layout now no_lines fetched.word fetched.instruction)
      (stage_by k serialising
      (Finished None h.cycle
      (result_of_word layout (state_after h h.rob.entries fetched.pc) h.lines fetched.word fetched.instruction)))
  stage_result k serialising is_kind is_serial here = grind (arith, reads_nothing, same_result, true≢false)

  dispatched_program : (rest : List Fetched) →
      FollowsProgram layout s h.rob.entries (record h.front { entries = fetched ∷ rest }) →
      FollowsProgram layout s (h.rob.entries ++ e ∷ []) (record h.front { entries = rest })
  dispatched_program rest given = grind (arith, e, stage_result, AreInFlight-append, after_entries-append)

module _ (values : Values) (cycle : ℕ) (state : State) where
  -- the dispatch phase keeps the hardware sound, with the same state seen
  pub dispatch_kept : {h : Hardware} → IsSoundAt values cycle state h →
      IsSoundAt values cycle state (dispatch h).hardware
  dispatch_kept {h} is =
      dispatch-keeps {P = IsSoundAt values cycle state} (record {
        dispatches = λ h fetched rest is first none.
            with_other_program is h.units (pushed (entry_of_fetched h fetched) h.rob)
            (dispatched_program h fetched rest
            (subst (λ (es : List Fetched).
            FollowsProgram (layout_of h.values) (seen h) h.rob.entries (record h.front { entries = es }))
            first is.sound.program));
      }) h is
