-- How a listing holds its lines; no public clause names these.
use Rattle.std.specs.Prelude.{ℕ, ◌<◌, List, map, Option, All, IfSome, length, option_and_then}
use Rattle.std.specs.List.{slice_get}
use Rattle.rv_source.specs.Listing.{Line}

-- the line at a place, if there is a place
abbrev pub line_in : List Line → Option ℕ → Option Line
line_in lines place = option_and_then (slice_get lines) place

-- the lines of words, each given by its place
abbrev pub lines_at : List Line → List (Option ℕ) → List (Option Line)
lines_at lines places = map (line_in lines) places

-- each place is one of a line
abbrev pub AreWithin : List Line → List (Option ℕ) → Type 0
AreWithin lines places = All (λ place. IfSome place (λ at. at < length lines)) places
