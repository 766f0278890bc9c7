-- What a predictor is taught.
use Rattle.std.specs.Prelude.{ℕ}

-- the instruction with a word, at a pc, retired and went on at `next`
pub record Lesson : Type 0 where
  pub pc : ℕ
  pub word : ℕ
  pub next : ℕ
