-- The lines of a table, one after the other.
use Rattle.std.proofs.Common.{◌≡◌, ℕ, ◌+◌, ◌<◌, List, [], length, take, get_or, Option, arith}
use Rattle.std.specs.List.{enumerate_from, flat_map}
use Rattle.std.proofs.lemmas.List.{take_all}
use Rattle.std.proofs.lemmas.List.FromFn.{get_or-enumerate_from, length-enumerate_from}
use Rattle.rv_report.specs.Comparison.{row_of, table_row}
use Rattle.rv_report.specs.declared.losses.ComparedRun.{ComparedRun}
use Rattle.rv_report.specs.declared.shown.{Columns.Columns, Shown.Shown}
use Rattle.rv_text.specs.Said.{Says}
use Rattle.rv_text.specs.declared.sink.Sink.{Sink}
use Rattle.rv_text.proofs.Saying.{says_at, says_same}

module _ (shown : Columns (Option Shown)) (names : List (List ℕ)) (runs : List ComparedRun) (place : ℕ)
    (below : place < length runs) (other : ComparedRun) where
  abbrev run : ComparedRun
  run = get_or runs place other

  abbrev here : ℕ × ComparedRun
  here = (0, other)

  within : place < length (enumerate_from 1 runs)
  within = omega (arith, length-enumerate_from 1 runs, below)

  line_is : table_row shown (1 + place) (get_or names place []) run
      ≡ row_of shown names (get_or (enumerate_from 1 runs) place here)
  line_is = grind (arith, get_or-enumerate_from)

  -- one more line
  pub row_said : {W : Type 0} {contents : W → Option (List ℕ)} {a b c : Sink W} →
      Says contents a b (flat_map (row_of shown names) (take place (enumerate_from 1 runs)))
      → Says contents b c (table_row shown (1 + place) (get_or names place []) run) →
      Says contents a c (flat_map (row_of shown names) (take (place + 1) (enumerate_from 1 runs)))
  row_said front last = says_at (row_of shown names) (enumerate_from 1 runs) place here within front
      (says_same line_is last)

-- the lines of all runs
pub all_rows : (shown : Columns (Option Shown)) (names : List (List ℕ)) (runs : List ComparedRun) (place : ℕ) →
    place ≡ length runs →
    flat_map (row_of shown names) (take place (enumerate_from 1 runs))
    ≡ flat_map (row_of shown names) (enumerate_from 1 runs)
all_rows shown names runs place is = grind (arith, take_all, length-enumerate_from)
