-- The oldest instruction in flight stays the oldest in the phases after commit, whatever becomes of younger ones.
use Rattle.rv_hardware.proofs.Words.{◌≡◌, true, false, List, [], ◌∷◌, ◌++◌, Option, sym, ◌∙◌, subst, Instr, Entry}
use Rattle.rv_hardware.proofs.Words.{Stage, is_waiting, arith}

-- the oldest is this instruction, in such a stage
abbrev pub HeadIs : Option Instr → (Stage → Type 0) → List Entry → Type 0
HeadIs instruction R [] = ⊥
HeadIs instruction R (e ∷ es) = (e.instruction ≡ instruction) × R e.stage

module _ (instruction : Option Instr) (R : Stage → Type 0) where
  -- the oldest stays what it was where an instruction in flight changes
  pub head-change : (older younger : List Entry) (old new : Entry) → new.instruction ≡ old.instruction →
      (old.instruction ≡ instruction → R old.stage → R new.stage) → HeadIs instruction R (older ++ old ∷ younger) →
      HeadIs instruction R (older ++ new ∷ younger)
  head-change [] younger old new same keeps head = (same ∙ head.0, keeps head.0 head.1)
  head-change (o ∷ older) younger old new same keeps head = head

  -- the oldest stays what it was where what is younger than one is cut
  pub head-cut : (older younger : List Entry) (old new : Entry) → new.instruction ≡ old.instruction →
      new.stage ≡ old.stage → HeadIs instruction R (older ++ old ∷ younger) → HeadIs instruction R (older ++ new ∷ [])
  head-cut [] younger old new same stage head = (same ∙ head.0, subst R (sym stage) head.1)
  head-cut (o ∷ older) younger old new same stage head = head

  -- the oldest stays what it was where one more is dispatched
  pub head-push : (es : List Entry) (e : Entry) → HeadIs instruction R es → HeadIs instruction R (es ++ e ∷ [])
  head-push es e head = grind arith

  -- what follows from the stage of the oldest holds of it
  pub head-weaken : {Q : Stage → Type 0} → ((stage : Stage) → R stage → Q stage) → (es : List Entry) →
      HeadIs instruction R es → HeadIs instruction Q es
  head-weaken weaker es head = grind arith

-- it waits, or it has begun its execution
abbrev pub Waits : Stage → Type 0
Waits stage = is_waiting stage ≡ true

-- it has begun its execution, or needs none
abbrev pub HasBegun : Stage → Type 0
HasBegun stage = is_waiting stage ≡ false

-- it is in any stage
abbrev pub IsAnywhere : Stage → Type 0
IsAnywhere stage = Unit {0}
