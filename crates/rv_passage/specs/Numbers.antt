-- The instructions in flight by their numbers alone, and what of a passage the hardware at the end of a cycle says by itself.
use Rattle.std.specs.Prelude.{ℕ, zero, suc, if◌then◌else◌, List, drop, filter, is_some, map, None}
use Rattle.rv_passage.specs.Passage.{is_in_flight, nothing_awaited}
use Rattle.rv_passage.specs.Table.{Passages, next_before}
use Rattle.rv_passage.specs.declared.passage.Passage.{Passage}

-- the numbers of those in flight, in order of fetch
abbrev pub numbers_in_flight : List Passage → List ℕ
numbers_in_flight rows = map (λ (p : Passage). p.number) (filter is_in_flight rows)

-- what a table knows by numbers: which instructions are in flight, and how many were fetched and how many retired
pub record Numbers : Type 0 where
  pub in_flight : List ℕ
  pub fetched : ℕ
  pub retired : ℕ

-- that of some passages
abbrev pub numbers_of : Passages → Numbers
numbers_of t = record { in_flight = numbers_in_flight t.rows; fetched = t.fetched; retired = t.retired }

-- How many of so many instructions in flight before a cycle go on through it, where `now` is in flight at its end: as many as were
-- fetched before it.
abbrev pub kept_through : ℕ → List Passage → ℕ → ℕ
kept_through cycle now zero = 0
kept_through cycle now (suc count) =
    if is_some (next_before cycle now) then suc (kept_through cycle (drop 1 now) count) else 0

-- a passage without what was noted at its fetch and its dispatch alone: what was predicted, and whose results it waits for
abbrev pub plain : Passage → Passage
plain p = record p { predicted = None; producers = nothing_awaited }

-- all passages so
abbrev pub plainly : Passages → Passages
plainly t = record t { rows = map plain t.rows }
