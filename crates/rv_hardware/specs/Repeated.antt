-- A phase of a cycle takes turns, up to a width.
use Rattle.std.specs.Prelude.{ℕ, zero, suc}

-- what a turn leaves, and whether the phase may take another
pub data Turn (S : Type 0) : Type 0 where
  GoesOn : S → Turn S
  Ends : S → Turn S

-- what a turn leaves, after the turns that follow it
abbrev pub followed_by : {S : Type 0} → (S → S) → Turn S → S
followed_by rest (GoesOn s) = rest s
followed_by rest (Ends s) = s

-- at most so many turns, until one ends the phase
abbrev pub repeated : {S : Type 0} → (S → Turn S) → ℕ → S → S
repeated turn zero s = s
repeated turn (suc width) s = followed_by (repeated turn width) (turn s)
