-- The broadcast phase changes nothing that programs see, and fetch goes on where the program does.
use Rattle.rv_hardware.proofs.Words.{◌≡◌, ℕ, ◌+◌, ◌%◌, true, false, List, [], ◌∷◌, ◌++◌, length, is_none, Option, sym}
use Rattle.rv_hardware.proofs.Words.{ap, ◌∙◌, subst, and_parts, false≢true, is_branch_or_jump, is_serialising, Message}
use Rattle.rv_hardware.proofs.Words.{StoreAccess, Instr, Issue, Lines, Values, Layout, Effect, effect, State, finished}
use Rattle.rv_hardware.proofs.Words.{issue_of, predicting, ReorderBuffer, changed, Entry, Finished, broadcast}
use Rattle.rv_hardware.proofs.Words.{broadcast_turn, is_mispredicted, mends_early, with_broadcast, with_recovery}
use Rattle.rv_hardware.proofs.Words.{Hardware, Turn, effect_message, result_of_word, layout_of, seen, Leaves}
use Rattle.rv_hardware.proofs.Words.{kept_by_turns, arith}
use Rattle.rv_hardware.proofs.Headline.Fold.{result_at, after_entries, IsResult, AreInFlight}
use Rattle.rv_hardware.proofs.Headline.Invariant.{FollowsProgram, IsSoundAt, with_other_program}
use Rattle.rv_hardware.proofs.Headline.Retires.{IsRecorded, effect_recorded}
use Rattle.rv_hardware.proofs.Headline.Split.{after_entries-append, AreInFlight-older, AreInFlight-append}
use Rattle.rv_hardware.proofs.Headline.Stage.{after_aligned, here_in_flight, FollowsProgram-staged}
use Rattle.rv_hardware.proofs.Turns.Broadcast.{BroadcastTurn, Sends, no_result, sends, mends, broadcast_turn_is}
use Rattle.rv_hardware.proofs.Turns.Broadcast.{sent_entries, mended_entries}

-- ---- the pc after an instruction that does not fault is a multiple of 4
aligned_effect : (layout : Layout) (s : State) (target : Option ℕ) (access : Option StoreAccess) (effect : Effect) →
    IsRecorded layout s target access effect → is_none (effect_message access effect).fault ≡ true →
    (effect_message access effect).next_pc % 4 ≡ 0
aligned_effect layout s target access effect recorded given = grind (arith, false≢true)

pub aligned_result : (layout : Layout) (s : State) (lines : Lines) (word : Option ℕ) (i : Option Instr) → s.pc % 4 ≡ 0 →
    is_serialising i ≡ false → is_none (result_of_word layout s lines word i).fault ≡ true →
    (result_of_word layout s lines word i).next_pc % 4 ≡ 0
aligned_result layout s lines word i here plain given = grind (arith, aligned_effect, effect_recorded, false≢true)

plain_jump : (i : Option Instr) → is_branch_or_jump i ≡ true → is_serialising i ≡ false
plain_jump i jumps = grind (arith, false≢true)

module _ (values : Values) (cycle : ℕ) (state : State) (h : Hardware) (is : IsSoundAt values cycle state h)
    (older younger : List Entry) (e : Entry)
    (issue : Issue) (message : Message) (sent : Sends h older younger e issue message) where
  abbrev layout : Layout
  layout = layout_of h.values

  abbrev s : State
  s = seen h

  abbrev seq : ℕ
  seq = h.rob.retired + length older

  abbrev known : Entry
  known = finished message h.cycle e

  all : AreInFlight layout s s (older ++ e ∷ younger)
  all = subst (AreInFlight layout s s) sent.place is.sound.program.in_flight

  -- what is broadcast was in execution
  result : message ≡ result_at layout (after_entries layout older s) e
  result = subst (IsResult (result_at layout (after_entries layout older s) e)) sent.runs
      (here_in_flight layout s older e younger all).result

  program_known : FollowsProgram layout s (with_broadcast seq message h).rob.entries h.front
  program_known =
      FollowsProgram-staged layout s older e younger (Finished (issue_of e.stage) h.cycle message) sent.place
      (sent_entries h older younger e message sent.place) result is.sound.program

  broadcast_one : IsSoundAt values cycle state (with_broadcast seq message h)
  broadcast_one = with_other_program is h.units (changed (finished message h.cycle) seq h.rob) program_known

  -- ---- early recovery: fetch begins anew where the instruction goes on
  abbrev mended : Entry
  mended = predicting message.next_pc known

  recovered_one : message.next_pc % 4 ≡ 0 →
      IsSoundAt values cycle state (with_recovery seq message (with_broadcast seq message h))
  recovered_one aligned =
      let after = mended_entries h older younger e message sent.place in
      let both : AreInFlight layout s s (older ++ known ∷ younger) =
      subst (AreInFlight layout s s) (sent_entries h older younger e message sent.place) program_known.in_flight in
      let here = here_in_flight layout s older known younger both in
      let now : AreInFlight layout s s (older ++ mended ∷ []) =
      AreInFlight-append layout s s older (mended ∷ []) (AreInFlight-older layout s s older (known ∷ younger) both) (
        record {
          pc = here.pc;
          word = here.word;
          instruction = here.instruction;
          aligned = aligned;
          result = here.result;
        },
        tt,
      ) in
      let rob : ReorderBuffer = (with_recovery seq message (with_broadcast seq message h)).rob in
      with_other_program is h.units rob (record {
        in_flight = subst (AreInFlight layout s s) (sym after) now;
        buffered = sym
            (ap (λ (es : List Entry). (after_entries layout es s).pc) after ∙
            ap (λ (t : State). t.pc) (after_entries-append layout older (mended ∷ []) s));
        aligned = aligned;
      })

  aligned_next : is_mispredicted e message ≡ true → message.next_pc % 4 ≡ 0
  aligned_next wrong = grind (arith, and_parts, after_aligned, AreInFlight-older, result, aligned_result, plain_jump)

module _ (values : Values) (cycle : ℕ) (state : State) where
  turn_kept : {h : Hardware} {t : Turn Hardware} → BroadcastTurn h t → IsSoundAt values cycle state h →
      Leaves (IsSoundAt values cycle state) t
  turn_kept (no_result none) is = is
  turn_kept {h} (sends older younger e issue message sent late) is =
      broadcast_one values cycle state h is older younger e issue message sent
  turn_kept {h} (mends older younger e issue message sent early) is =
      let wrong = (and_parts (mends_early h.values.recovery) (is_mispredicted e message) early).1 in
      recovered_one values cycle state h is older younger e issue message sent
      (aligned_next values cycle state h is older younger e issue message sent wrong)

  -- the broadcast phase keeps the hardware sound, with the same state seen
  pub broadcast_kept : {h : Hardware} → IsSoundAt values cycle state h → IsSoundAt values cycle state (broadcast h)
  broadcast_kept {h} is =
      kept_by_turns (IsSoundAt values cycle state) broadcast_turn
      (λ now. turn_kept (broadcast_turn_is now)) h.values.bus_width h is
