-- How the picture of a window numbers instructions: those that are in flight when the window begins from 0 on, and then
-- those that are fetched.
use Rattle.std.specs.Prelude.{◌≡◌, ℕ, ◌+◌, ◌-◌, nat_lt, List, count_by, filter, length, map}
use Rattle.rv_passage.specs.Passage.{is_in_flight}
use Rattle.rv_passage.specs.Table.{Passages}
use Rattle.rv_passage.specs.declared.passage.Passage.{Passage}

-- the numbers that instructions have in a run
abbrev pub row_numbers : List Passage → List ℕ
row_numbers rows = map (λ p. p.number) rows

-- those of the ones in flight
abbrev pub numbers_in_flight : List Passage → List ℕ
numbers_in_flight rows = row_numbers (filter is_in_flight rows)

-- the number in the picture: how many that are in flight are older, and how many that were fetched since
abbrev pub number_by : List ℕ → ℕ → ℕ → ℕ
number_by numbers fetched number = count_by (λ other. nat_lt other number) numbers + (number - fetched)

abbrev pub number_in : Passages → ℕ → ℕ
number_in kept number = number_by (row_numbers kept.rows) kept.fetched number

-- these numbers of the ones in flight and this count of those fetched are such after a cycle, of which these are the rows
pub record IsOneLater (rows : List Passage) (numbers : List ℕ) (fetched : ℕ) (numbers' : List ℕ)
    (fetched' : ℕ) : Type 0 where
  pub numbers_are : numbers' ≡ numbers_in_flight rows
  pub fetched_are : fetched' ≡ fetched + (length rows - length numbers)
