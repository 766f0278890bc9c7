-- What holds of the fields of a cache: where the line of a byte is not dirty, memory has the byte that a program sees.
use Rattle.std.specs.Prelude.{◌≡◌, ℕ, ◌+◌, ◌/◌, ◌%◌, ◌^◌, ◌≤◌, ◌<◌, false}
use Rattle.std.specs.Prelude.{List, [], length, slice_index, slice_index_or}
use Rattle.rv_isa.specs.declared.values.CacheValues.{CacheValues}
use Rattle.rv_isa.specs.Description.{IsLegalCache}
use Rattle.rv_cache.specs.declared.line.CacheLine.{CacheLine}
use Rattle.rv_cache.specs.Line.{is_dirty}
use Rattle.rv_cache.specs.WriteBack.{AreInside, Each}

-- how long the lines are and where they begin
pub record IsDivided (base : ℕ) (values : CacheValues) (size : ℕ) : Type 0 where
  pub legal : IsLegalCache values
  pub words : values.line % 4 ≡ 0
  pub base_aligned : base % values.line ≡ 0
  pub whole_lines : size % values.line ≡ 0
  pub reach : base + size ≤ 2 ^ 32

-- the sets have room for their lines, which lie in memory
pub record AreFilled (base : ℕ) (values : CacheValues) (size : ℕ) (sets : List (List CacheLine)) : Type 0 where
  pub count : length sets ≡ values.sets
  pub room : Each (λ lines. length lines ≤ values.ways) sets
  pub inside : Each (AreInside base values.line size) sets

-- a byte whose line is not dirty is the same in memory
abbrev pub IsInStep : ℕ → CacheValues → List ℕ → List (List CacheLine) → List ℕ → Type 0
IsInStep base values bytes sets memory =
    (i : ℕ) → i < length bytes →
    is_dirty ((base + i) / values.line) (slice_index_or sets ((base + i) / values.line % values.sets) []) ≡ false →
    slice_index memory i ≡ slice_index bytes i

-- the cache holds what a program sees, and memory lacks only what dirty lines hold
pub record IsConsistent (base : ℕ) (values : CacheValues) (bytes : List ℕ) (sets : List (List CacheLine))
    (memory : List ℕ) : Type 0 where
  pub divided : IsDivided base values (length bytes)
  pub filled : AreFilled base values (length bytes) sets
  pub size : length memory ≡ length bytes
  pub in_step : IsInStep base values bytes sets memory
