-- The instructions up to the youngest that left the hardware.
use Rattle.std.specs.Prelude.{◌≡◌, ◌-◌, false, List, [], ◌++◌, length, slice_get, MatchOption}
use Rattle.std.specs.List.{AllPass}
use Rattle.rv_passage.specs.Passage.{is_in_flight}
use Rattle.rv_passage.specs.declared.passage.Passage.{Passage}

-- the first of some instructions, of which the last one left the hardware; those after it are in flight
pub record IsUpToYoungestLeft (rows kept : List Passage) : Type 0 where
  pub others : List Passage
  pub rows_are : rows ≡ kept ++ others
  pub in_flight : AllPass is_in_flight others
  pub youngest : MatchOption (slice_get kept (length kept - 1)) (kept ≡ []) (λ p. is_in_flight p ≡ false)
