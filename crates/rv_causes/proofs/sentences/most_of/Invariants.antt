use Rattle.std.proofs.Common.{◌≡◌, None, option_copied, take}
use Rattle.std.specs.List.{fold}
use Rattle.rv_causes.specs.Sentence.{with_more_of}
use Rattle.rv_causes.proofs.sentences.most_of.Given as goal

-- that of the words so far
abbrev pub invariant-loop-word : goal.invariant-loop-word
invariant-loop-word l = option_copied l.most ≡ fold (with_more_of l.cause) None (take l.word-index l.words)
