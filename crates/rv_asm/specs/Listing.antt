-- Which line of a text each word of its image comes from.
use Rattle.std.specs.Prelude.{ℕ, ◌+◌, ◌-◌, ◌*◌, ◌/◌, List, [], ◌∷◌, ◌++◌, map, length, take, drop, replicate}
use Rattle.std.specs.Prelude.{◌&&◌, ◌==◌, nat_le, nat_lt, if◌then◌else◌, get_or, Option, Some, None}
use Rattle.std.specs.{Char.is_ascii_whitespace, List.before_first, List.prefix_len}
use Rattle.std.specs.{List.suffix_len, List.range_with_len, List.slice_split}
use Rattle.rv_source.specs.Listing as source
use Rattle.rv_source.specs.Listing.{Listed}
use Rattle.rv_asm.specs.Kept.{Kept}
use Rattle.rv_asm.specs.Layout.{Layout, extended, layout, line_in, lines_of, offset_in, unlaid}
use Rattle.rv_asm.specs.Meaning.{round_up}
use Rattle.rv_asm.specs.declared.{operation.Section.Section, reach.Reach.Reach}
use Rattle.rv_asm.specs.declared.operation.Section.TheVariants.{Text, Data}

-- bytes from the first on that is no white space up to the last one
abbrev pub trimmed : List ℕ → List ℕ
trimmed bytes =
    let rest = drop (prefix_len is_ascii_whitespace bytes) bytes in
    take (length rest - suffix_len is_ascii_whitespace rest) rest

-- a comment for those who read a listing: one that begins with a number sign and a colon, after a blank and without
-- white space at its end
abbrev pub noted : List ℕ → List ℕ
noted comment = if get_or comment 1 0 == 58 then 32 ∷ trimmed comment else []

-- a line that a listing shows: its number, and its statement, which a number sign ends, without white space at its
-- ends, and such a comment
abbrev pub shown : ℕ → List ℕ → source.Line
shown number bytes =
    let size = length (before_first (λ byte. byte == 35) bytes) in
    record { number = number; text = trimmed (take size bytes) ++ noted (drop size bytes) }

-- the first line whose bytes hold an offset of a section, of lines after a layout, numbered from here on: they begin
-- where the section had come before the line, and end where it has come after it
abbrev pub line_holding : Section → ℕ → Layout → List (List ℕ) → ℕ → Option source.Line
line_holding part number before [] offset = None
line_holding part number before (bytes ∷ others) offset =
    let after = extended before (line_in bytes) in
    if nat_le (offset_in part before.reach) offset && nat_lt offset (offset_in part after.reach)
    then Some (shown number bytes)
    else line_holding part (number + 1) after others offset

-- how many words hold so many bytes
abbrev pub word_count : ℕ → ℕ
word_count size = (size + 3) / 4

-- the lines of the words of a section that has so many bytes, each by the offset of its first byte
abbrev pub section_lines : Section → ℕ → List (List ℕ) → List (Option source.Line)
section_lines part size lines = map (λ i. line_holding part 1 unlaid lines (4 * i)) (range_with_len 0 (word_count size))

-- what stands after the words of the text: the zero bytes up to the data, which come from no line, and the data, if there are any
abbrev pub lines_after_text : ℕ → ℕ → List (Option source.Line) → List (Option source.Line)
lines_after_text text_size data_size lines =
    if data_size == 0 then [] else (replicate (word_count (round_up text_size) - word_count text_size) None ++ lines)

-- the lines of the words of the image
abbrev pub image_lines : Reach → List (List ℕ) → List (Option source.Line)
image_lines end lines =
    section_lines Text end.text_size lines
    ++ lines_after_text end.text_size end.data_size (section_lines Data end.data_size lines)

-- the listing of a text at a base; a line feed ends a line
abbrev pub listing_of : ℕ → List ℕ → Listed
listing_of base text =
    record { base = base; words = image_lines (layout (lines_of text)).reach (slice_split (λ byte. byte == 10) text) }

-- how many words of a section begin between two points of a text
abbrev pub words_between : Section → Reach → Reach → ℕ
words_between part before after = word_count (offset_in part after) - word_count (offset_in part before)

-- how far the text has come before lines that the program keeps, where it comes as far as this after them
abbrev pub reach_before : Reach → List Kept → Reach
reach_before end [] = end
reach_before end (line ∷ others) = line.place.reach

-- the words of a section, from the lines that the program keeps; no public clause names these
abbrev pub words_in : Section → Reach → List Kept → List (Option source.Line)
words_in part end [] = []
words_in part end (line ∷ others) =
    replicate (words_between part line.place.reach (reach_before end others)) (Some (shown line.number line.bytes))
    ++ words_in part end others

-- the words of the image, from the lines that the program keeps
abbrev pub words_of_kept : Reach → List Kept → List (Option source.Line)
words_of_kept end lines =
    words_in Text end lines ++ lines_after_text end.text_size end.data_size (words_in Data end lines)

-- the listing of a text at a base, from the lines that the program keeps
abbrev pub listing_of_kept : ℕ → Reach → List Kept → Listed
listing_of_kept base end lines = record { base = base; words = words_of_kept end lines }
