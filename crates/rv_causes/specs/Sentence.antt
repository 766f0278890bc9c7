-- The sentences that say what most cycles of a path are on account of.
use Rattle.std.specs.Prelude.{ℕ, nat_lt, ◌==◌, if◌then◌else◌, List, [], ◌++◌, codes, take, Option, Some, None}
use Rattle.std.specs.List.{flat_map, fold, slice_index_or}
use Rattle.rv_source.specs.Listing.{Listed}
use Rattle.rv_source.specs.PlaceText.{place_text}
use Rattle.rv_causes.specs.Account.{Accounted}
use Rattle.rv_causes.specs.Cause.{cause_name, place_of}
use Rattle.rv_causes.specs.Text.{percent_text, ranked, tenths_of}
use Rattle.rv_causes.specs.declared.{cause.Cause.Cause, text.Share.Share, word_cycles.WordCycles.WordCycles}

-- how many cycles of a word a cause has
abbrev pub cycles_of : Cause → WordCycles → ℕ
cycles_of cause word = slice_index_or word.causes (place_of cause) 0

-- of no word it has none
abbrev pub most_cycles : Cause → Option WordCycles → ℕ
most_cycles cause None = 0
most_cycles cause (Some word) = cycles_of cause word

-- a word, if a cause has more of its cycles than of another word
abbrev pub with_more_of : Cause → Option WordCycles → WordCycles → Option WordCycles
with_more_of cause most word = if nat_lt (most_cycles cause most) (cycles_of cause word) then Some word else most

-- the word of which it has the most, and of equal ones that of the lowest address; none where it has none of any
abbrev pub most_of : Cause → List WordCycles → Option WordCycles
most_of cause words = fold (with_more_of cause) None words

-- the place of that word, if there is one
unfoldable pub most_text : Listed → Option WordCycles → List ℕ
most_text listing None = codes "\n"
most_text listing (Some word) = codes ", most at " ++ place_text listing word.address

-- the sentence of a cause, unless its share rounds to nothing
unfoldable pub sentence : Listed → ℕ → List WordCycles → Share → List ℕ
sentence listing cycles words share =
    if tenths_of share.cycles cycles == 0 then [] else
    codes "On the critical path, " ++ (percent_text share.cycles cycles ++ (codes " % of the cycles: " ++
    (cause_name share.cause ++ most_text listing (most_of share.cause words))))

-- those of the three greatest causes, a line for each that has one
abbrev pub sentences : Listed → Accounted → List ℕ
sentences listing account = flat_map (sentence listing account.cycles account.words) (take 3 (ranked account.causes))
