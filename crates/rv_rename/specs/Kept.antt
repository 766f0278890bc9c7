-- How a rename map is kept: the producers, a table of the youngest of each register, and the checkpoints' numbers.
use Rattle.std.specs.Prelude.{◌≡◌, ℕ, ◌+◌, ◌<◌, ◌≤◌, List, length, Option, None, slice_index_or}
use Rattle.rv_isa.specs.Numbered.{below, IsInOrder}
use Rattle.rv_rename.specs.declared.producer.Producer.{Producer}
use Rattle.rv_rename.specs.Renaming.{Checkpoint, youngest}

-- the checkpoint of number n has the producers up to n
abbrev pub checkpoint_of : List Producer → ℕ → Checkpoint
checkpoint_of ps n = record { seq = n; producers = below (λ p. p.seq) (n + 1) ps }

-- the table has a place for each register, with its youngest producer
pub record IsTable (table : List (Option ℕ)) (ps : List Producer) : Type 0 where
  pub places : length table ≡ 32
  pub producers : (r : ℕ) → r < 32 → slice_index_or table r None ≡ youngest r ps

-- what holds of the fields
pub record IsKept (capacity : ℕ) (ps : List Producer) (table : List (Option ℕ)) (numbers : List ℕ)
    (room : ℕ) : Type 0 where
  pub in_order : IsInOrder (λ p. p.seq) ps
  pub table_ok : IsTable table ps
  pub numbers_fit : length numbers ≤ capacity
  pub room_ok : capacity ≤ room
