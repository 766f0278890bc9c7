use Rattle.std.specs.Prelude.{ℕ, ◌≤◌, Bool, true, false, List, [], ◌∷◌, length, filter, nat_le, All}
use Rattle.std.specs.List.Sorted.{IsNonDecreasingBy}
use Rattle.rv_isa.specs.declared.lines.{Line.Line, Lines.Lines, Arrival.Arrival}
use Rattle.rv_isa.specs.declared.lines.Line.TheVariants.{Software, Timer, External}

-- at most 100,000 arrivals, none after cycle 1,000,000, in the order of their cycles
pub record IsLegalArrivals (arrivals : List Arrival) : Type 0 where
  pub count : length arrivals ≤ 100000
  pub last : All (λ a. a.cycle ≤ 1000000) arrivals
  pub order : IsNonDecreasingBy (λ a. a.cycle) arrivals

-- whether two lines are the same
abbrev pub is_line : Line → Line → Bool
is_line Software Software = true
is_line Timer Timer = true
is_line External External = true
is_line _ _ = false

-- the level of the last of some arrivals, and the level before where there is none
abbrev pub last_level : Bool → List Arrival → Bool
last_level before [] = before
last_level before (a ∷ later) = last_level a.level later

-- a line's level in a cycle: that of its last arrival in the list with a cycle at most this one
abbrev pub level_at : Line → List Arrival → ℕ → Bool
level_at line arrivals cycle =
    last_level false (filter (λ a. is_line line a.line) (filter (λ a. nat_le a.cycle cycle) arrivals))

-- the levels of the three lines in a cycle
abbrev pub lines_at : List Arrival → ℕ → Lines
lines_at arrivals cycle =
    record {
      software = level_at Software arrivals cycle;
      timer = level_at Timer arrivals cycle;
      external = level_at External arrivals cycle;
    }

-- all three interrupt lines are low
abbrev pub no_lines : Lines
no_lines = record { software = false; timer = false; external = false }
