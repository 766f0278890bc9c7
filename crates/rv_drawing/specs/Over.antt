-- What a picture says where the run ended before its cycles.
use Rattle.std.specs.Prelude.{ℕ, ◌==◌, if◌then◌else◌, List, [], ◌++◌, codes, decimal, Option, None, Some}
use Rattle.rv_drawing.specs.declared.window.Window.{Window}

-- after how many cycles the run ended, where that was before those of a window
abbrev pub over_of : Window → Option ℕ
over_of window = if window.cycles == 0 then Some window.first else None

-- the sentence, between what stands before and after it, for a number of cycles
unfoldable pub over_sentence : List ℕ → List ℕ → List ℕ → List ℕ
over_sentence before cycles after =
    before ++ (codes "The run ended after " ++ (cycles ++ (codes " cycles, before those of this picture." ++ after)))

-- nothing where the run did not end before
unfoldable pub over_text : List ℕ → List ℕ → Option ℕ → List ℕ
over_text before after None = []
over_text before after (Some cycles) = over_sentence before (decimal cycles) after

-- what a picture says of its window
abbrev pub over_note : List ℕ → List ℕ → Window → List ℕ
over_note before after window = over_text before after (over_of window)
