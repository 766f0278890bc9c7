use Rattle.std.proofs.Common.{take}
use Rattle.std.specs.Prelude.{option_copied}
use Rattle.rv_text.specs.Said.{Says}
use Rattle.std.specs.List.{flat_map}
use Rattle.rv_profile.specs.Text.{word_line}
use Rattle.rv_profile.proofs.text.write_words.Given as goal

-- the lines so far are written
abbrev pub invariant-loop-word : goal.invariant-loop-word
invariant-loop-word g l =
    Says g.W.Write.contents l.initial.out l.out
    (flat_map (word_line l.listing (option_copied l.path)) (take l.word-index l.words))
