-- The passages at the end of a cycle, and what the hardware holds then.
use Rattle.std.specs.Prelude.{◌≡◌, ℕ, ◌+◌, ◌-◌, not, true, List, drop, filter, length}
use Rattle.std.specs.List.{list_all}
use Rattle.rv_hardware.specs.Hardware.{Hardware}
use Rattle.rv_passage.specs.Passage.{is_in_flight}
use Rattle.rv_passage.specs.declared.passage.Passage.{Passage}
use Rattle.rv_sentences.specs.Stay.{is_staying}

-- as many are in flight as the buffers hold, and of the last ones, as many as words wait in the fetch buffer, none
-- stays in the cycle
pub record AreAtEnd (cycle : ℕ) (after : Hardware) (rows : List Passage) : Type 0 where
  pub counted : length (filter is_in_flight rows) ≡ length after.rob.entries + length after.front.entries
  pub waiting :
      list_all (λ p. not (is_staying cycle p)) (drop (length rows - length after.front.entries) rows) ≡ true
