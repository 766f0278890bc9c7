-- What a table shows besides its counts: registers and words of memory as a run left them, and what became of its
-- places for dispatch.
use Rattle.std.specs.Prelude.{ℕ, Bool, true, false, ◌||◌, if◌then◌else◌, List, []}
use Rattle.std.specs.Prelude.{◌++◌, codes, decimal, slice_index, Option, Some, None}
use Rattle.std.specs.List.{flat_map}
use Rattle.rv_counts.specs.Places.{place_counts, run_places}
use Rattle.rv_counts.specs.declared.run_places.RunPlaces.{RunPlaces}
use Rattle.rv_hardware.specs.Hardware.{Hardware}
use Rattle.rv_hardware.specs.History.{Moment}
use Rattle.rv_hardware.specs.Seen.{layout_of, seen}
use Rattle.rv_passage.specs.Names.{register_name}
use Rattle.rv_report.specs.Memory.{memory_text, word_seen}
use Rattle.rv_report.specs.declared.shown.{Columns.Columns, Shown.Shown}
use Rattle.rv_report.specs.declared.shown.Shown.TheVariants.{Register, Word, Places}
use Rattle.rv_text.specs.Line.{word_text}

-- the word that is shown; none where no word is, or where it lies outside RAM
abbrev pub word_of : Option Shown → Hardware → Option ℕ
word_of None h = None
word_of (Some (Register register)) h = Some (slice_index h.registers register)
word_of (Some (Word address)) h = word_seen (layout_of h.values) (seen h).ram address
word_of (Some Places) h = None

-- those of all columns
abbrev pub words_of : Columns (Option Shown) → Hardware → Columns (Option ℕ)
words_of shown h = record {
  first = word_of shown.first h;
  second = word_of shown.second h;
  third = word_of shown.third h;
  fourth = word_of shown.fourth h;
}

-- a column has the places
abbrev pub is_places : Option Shown → Bool
is_places (Some Places) = true
is_places _ = false

-- one of the columns has them
abbrev pub shows_places : Columns (Option Shown) → Bool
shows_places shown =
    is_places shown.first || (is_places shown.second || (is_places shown.third || is_places shown.fourth))

-- what became of the places of a run, where a table shows it
abbrev pub places_shown : Columns (Option Shown) → Hardware → List Moment → Hardware → Option RunPlaces
places_shown shown first moments last = if shows_places shown then Some (run_places first moments last) else None

-- what the columns of the places are called, each after a tab
unfoldable pub places_head : List ℕ
places_head =
    codes "\tplaces_retired\tplaces_trapped\tplaces_squashed_predictions\tplaces_squashed_serialising\tplaces_squashed_traps" ++
    (codes "\tplaces_squashed_interrupts\tplaces_in_flight\tplaces_lost_fetch\tplaces_lost_serial\tplaces_lost_rob" ++
    codes "\tplaces_lost_alu\tplaces_lost_mul\tplaces_lost_div\tplaces_lost_mem\tplaces_lost_store")

-- what a column is called, after a tab: the register by its name in the calling convention, or the address
abbrev pub name_text : Shown → List ℕ
name_text (Register register) = codes "\t" ++ register_name register
name_text (Word address) = codes "\t0x" ++ word_text address
name_text Places = places_head

-- the name of a column, if there is one
unfoldable pub head_text : Option Shown → List ℕ
head_text None = []
head_text (Some shown) = name_text shown

-- those of all columns
unfoldable pub heads_text : Columns (Option Shown) → List ℕ
heads_text shown =
    head_text shown.first ++ (head_text shown.second ++ (head_text shown.third ++ head_text shown.fourth))

-- a count, after a tab
abbrev pub count_cell : ℕ → List ℕ
count_cell count = codes "\t" ++ decimal count

-- what became of the places, where it was counted
unfoldable pub places_cells : Option RunPlaces → List ℕ
places_cells None = []
places_cells (Some p) = flat_map count_cell (place_counts p.in_flight p.places)

-- the word in a column, after a tab, hyphens outside RAM; or what became of the places
unfoldable pub cell_text : Option RunPlaces → Option Shown → Option ℕ → List ℕ
cell_text places None word = []
cell_text places (Some (Register register)) word = codes "\t" ++ memory_text word
cell_text places (Some (Word address)) word = codes "\t" ++ memory_text word
cell_text places (Some Places) word = places_cells places

-- those of all columns
unfoldable pub cells_text : Columns (Option Shown) → Columns (Option ℕ) → Option RunPlaces → List ℕ
cells_text shown words places =
    cell_text places shown.first words.first ++ (cell_text places shown.second words.second ++
    (cell_text places shown.third words.third ++ cell_text places shown.fourth words.fourth))
