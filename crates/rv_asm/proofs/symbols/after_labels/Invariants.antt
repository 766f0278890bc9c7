use Rattle.std.proofs.Common.{◌≡◌, ◌||◌, length}
use Rattle.std.specs.List.{list_any}
use Rattle.rv_asm.specs.Layout.{body_of, labels_of}
use Rattle.rv_asm.specs.Placed.{is_start}
use Rattle.rv_asm.specs.Read.{tokens_in}
use Rattle.rv_asm.proofs.symbols.after_labels.Given as goal

-- what is left of the line gives what all of it gives
abbrev pub invariant-loop-name : goal.invariant-loop-name
invariant-loop-name l = record {
  body : body_of (tokens_in l.tokens) ≡ body_of (tokens_in l.rest);
  start : list_any is_start (labels_of (tokens_in l.tokens))
      ≡ (l.starts || list_any is_start (labels_of (tokens_in l.rest)));
}

abbrev pub decreases-loop-name : goal.decreases-loop-name
decreases-loop-name l = length l.rest
