-- An execution is over within the longest one's time.
use Rattle.rv_hardware.proofs.Words.{ℕ, ◌+◌, ◌≤◌, Bool, ◌∷◌, ◌++◌, None, Option, subst, arith, Message, Kind, Each}
use Rattle.rv_hardware.proofs.Words.{Entry, Stage, Finished, Running, stage_by, Hardware, Each-left, Each-right}
use Rattle.rv_hardware.proofs.Words.{Each-push, Each-change, each_then}
use Rattle.rv_hardware.proofs.Turns.Cited.{IsKept, phases-kept, IsKeptByChanges, all_squashed, head_retires, one_starts}
use Rattle.rv_hardware.proofs.Turns.Cited.{one_sent, one_mended, one_enters, longest_execution}

-- where it executes, it is over by a cycle
abbrev pub EndsBy : ℕ → Stage → Type 0
EndsBy limit (Running issue message) = issue.cycle + issue.cost ≤ limit
EndsBy limit _ = Unit {0}

-- an instruction in flight that executes is over by a cycle
abbrev pub Ending : ℕ → Entry → Type 0
Ending limit e = EndsBy limit e.stage

-- each execution is over within the longest one's time
abbrev pub AreEnding : Hardware → Type 0
AreEnding h = Each (Ending (h.cycle + longest_execution h)) h.rob.entries

one_later : (limit more : ℕ) (stage : Stage) → limit ≤ more → EndsBy limit stage → EndsBy more stage
one_later limit more stage past ends = grind arith

dispatched_by : (limit : ℕ) (kind : Option Kind) (serialising : Bool) (cycle : ℕ) (message : Message) →
    EndsBy limit (stage_by kind serialising (Finished None cycle message))
dispatched_by limit kind serialising cycle message = grind arith

ending_changes : IsKeptByChanges AreEnding
ending_changes h _ (all_squashed s retired) ends = tt
ending_changes h _ (head_retires e es s message split known faultless) ends = grind arith
ending_changes h _ (one_starts k older younger e cost message split waits of_kind result costs) ends =
    let limit : ℕ = h.cycle + longest_execution h in
    let over : h.cycle + cost ≤ limit = omega arith in
    Each-change _ older younger e _ (λ before. over) (subst (Each (Ending limit)) split ends)
ending_changes h _ (one_sent older younger e message split gives) ends =
    let limit : ℕ = h.cycle + longest_execution h in
    Each-change _ older younger e _ (λ before. tt) (subst (Each (Ending limit)) split ends)
ending_changes h _ (one_mended older younger e next split) ends =
    let limit : ℕ = h.cycle + longest_execution h in
    let all : Each (Ending limit) (older ++ e ∷ younger) = subst (Each (Ending limit)) split ends in
    Each-push _ older _ (Each-right _ older _ all).0 (Each-left _ older _ all)
ending_changes h _ (one_enters fetched rest first none) ends = grind (arith, Each-push, dispatched_by)
ending_changes h _ _ ends = ends

-- every cycle keeps it
pub ending-kept : IsKept AreEnding
ending-kept = record {
  phases = phases-kept ending_changes;
  fetch = λ ram cycle h front stop ends fetches.
      let limit : ℕ = h.cycle + longest_execution h in
      let more : ℕ = h.cycle + 1 + longest_execution h in
      let past : limit ≤ more = omega arith in
      each_then (λ e before. one_later limit more e.stage past before) _ ends;
}
