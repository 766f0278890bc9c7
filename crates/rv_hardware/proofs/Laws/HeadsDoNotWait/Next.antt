-- The next instruction of the program, in flight or in the fetch buffer, keeps its reason not to have retired.
use Rattle.rv_hardware.proofs.Words.{◌≡◌, ℕ, ◌+◌, ◌≤◌, Bool, true, false, ◌&&◌, ◌⊎◌, List, [], ◌∷◌, ◌++◌, Some, None}
use Rattle.rv_hardware.proofs.Words.{Option, nat_cmp, ap, subst, inr, arith, is_fence_i, is_serialising, is_store}
use Rattle.rv_hardware.proofs.Words.{Message, Instr, Kind, word_of, issue_of, Entry, Stage, Finished, Running, Waiting}
use Rattle.rv_hardware.proofs.Words.{Fetched, broadcast, execute, stage_by, drain, Hardware, issue}
use Rattle.std.specs.FinSet as set
use Rattle.rv_hardware.proofs.Marks.Cited.{HasRun, IsKeptByBroadcast, broadcast-keeps, IsKeptByDispatch, dispatch-keeps}
use Rattle.rv_hardware.proofs.Marks.Cited.{IsKeptByDrain, drain-keeps, IsKeptByIssue, issue-keeps}

-- by the stage, an instruction that was dispatched in D was not known before the cycle ahead of n
abbrev pub IsKnownSince : ℕ → Option Instr → ℕ → Stage → Type 0
IsKnownSince n i D Waiting = is_serialising i ≡ true → n ≤ D + 1
IsKnownSince n i D (Running issue message) = Unit {0}
IsKnownSince n i D (Finished None cycle message) = n ≤ D + 1
IsKnownSince n i D (Finished (Some issue) cycle message) = n ≤ cycle + 1

-- why the oldest has not retired before cycle n, where the last step was in s
abbrev pub HasReason : ℕ → ℕ → set.FinSet nat_cmp → Entry → Type 0
HasReason n s stale e =
    (n ≤ s + 1) ⊎ (set.contains stale (word_of e.pc) ≡ true) ⊎ (is_fence_i e.instruction ≡ true) ⊎
    IsKnownSince n e.instruction e.dispatched e.stage

-- the oldest in flight was fetched and dispatched in time, and has a reason not to have retired
pub record NextEntry (n s : ℕ) (store_waits : Bool) (stale : set.FinSet nat_cmp) (e : Entry) : Type 0 where
  pub fetched : e.fetched ≤ s
  pub dispatched : (store_waits && is_store e.instruction) ≡ false → e.dispatched ≤ s + 1
  pub reason : HasReason n s stale e

-- the next instruction, not retired before cycle n, nor dispatched before cycle m; a store may wait
-- for the queue, where one may have retired
abbrev pub Next : ℕ → ℕ → ℕ → Bool → set.FinSet nat_cmp → List Entry → List Fetched → Type 0
Next n m s store_waits stale (e ∷ es) fs = NextEntry n s store_waits stale e
Next n m s store_waits stale [] (f ∷ fs) = (f.cycle ≤ s) × ((store_waits && is_store f.instruction) ≡ false → m ≤ s + 1)
Next n m s store_waits stale [] [] = m ≤ s

module _ (n m s : ℕ) (store_waits : Bool) (stale : set.FinSet nat_cmp) where
  next-change : (older younger others : List Entry) {old new : Entry} (fs gs : List Fetched) →
      (NextEntry n s store_waits stale old → NextEntry n s store_waits stale new) →
      Next n m s store_waits stale (older ++ old ∷ younger) fs → Next n m s store_waits stale (older ++ new ∷ others) gs
  next-change [] younger others fs gs goes next = goes next
  next-change (o ∷ older) younger others fs gs goes next = next

  next-push : (es : List Entry) (e : Entry) (f : Fetched) (rest : List Fetched) →
      ((f.cycle ≤ s) × ((store_waits && is_store f.instruction) ≡ false → m ≤ s + 1) →
      NextEntry n s store_waits stale e) →
      Next n m s store_waits stale es (f ∷ rest) → Next n m s store_waits stale (es ++ e ∷ []) rest
  next-push es e f rest goes next = grind arith

-- ---- the phases of cycle `now`
module _ (now s : ℕ) (store_waits : Bool) where
  -- what is known of the next instruction after the commit phase of cycle `now`
  abbrev pub HasNext : Hardware → Type 0
  HasNext h = (h.cycle ≡ now) × Next (now + 1) now s store_waits h.stale h.rob.entries h.front.entries

  known_now : {cycle : ℕ} (D : ℕ) (i : Option Instr) {message : Message} {st : Stage} → cycle ≡ now →
      HasRun cycle st message → IsKnownSince (now + 1) i D (Finished (issue_of st) cycle message)
  known_now D i at gives = rw (ap issue_of gives.runs) (omega (arith, at))

  known_at_dispatch : (cycle : ℕ) (i : Option Instr) (message : Message) (kind : Option Kind) (serial : Bool) →
      cycle ≡ now → IsKnownSince (now + 1) i cycle (stage_by kind serial (Finished None cycle message))
  known_at_dispatch cycle i message kind serial given = grind arith

  -- what comes next, where these are in flight
  abbrev NextIn : Hardware → List Entry → Type 0
  NextIn h es = Next (now + 1) now s store_waits h.stale es h.front.entries

  next_drained : IsKeptByDrain HasNext
  next_drained = record { leaves = λ h has idle. has; drains = λ h access has idle is. has }

  next_issued : (k : Kind) → IsKeptByIssue HasNext k
  next_issued k = record {
    accesses = λ h older younger e address has split ready by. has;
    starts = λ h older younger e cost message has split waits of_kind result costs. (
      has.0,
      next-change (now + 1) now s store_waits h.stale older younger younger h.front.entries h.front.entries
          (λ next. record { fetched = next.fetched; dispatched = next.dispatched; reason = inr (inr (inr tt)) })
          (subst (NextIn h) split has.1),
    );
  }

  next_broadcast : IsKeptByBroadcast HasNext
  next_broadcast = record {
    broadcasts = λ h older younger e message has split gives. (
      has.0,
      next-change (now + 1) now s store_waits h.stale older younger younger h.front.entries h.front.entries
          (λ next. record {
            fetched = next.fetched;
            dispatched = next.dispatched;
            reason = inr (inr (inr (known_now e.dispatched e.instruction has.0 gives)));
          })
          (subst (NextIn h) split has.1),
    );
    mends = λ h older younger e next has split. (
      has.0,
      next-change (now + 1) now s store_waits h.stale older younger [] h.front.entries []
          (λ is. record { fetched = is.fetched; dispatched = is.dispatched; reason = is.reason })
          (subst (NextIn h) split has.1),
    );
  }

  next_dispatched : IsKeptByDispatch HasNext
  next_dispatched = grind (arith, next-push, known_at_dispatch)

  -- the phases from drain to dispatch keep it
  pub next_executed : (h : Hardware) → HasNext h → HasNext (execute h).hardware
  next_executed h has =
      dispatch-keeps next_dispatched (broadcast (issue (drain h)))
      (broadcast-keeps next_broadcast (issue (drain h))
      (issue-keeps HasNext next_issued (drain h) (drain-keeps next_drained h has)))
