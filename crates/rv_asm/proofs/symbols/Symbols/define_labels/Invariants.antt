use Rattle.std.proofs.Common.{◌≡◌, ◌||◌, length}
use Rattle.std.specs.List.{list_any}
use Rattle.rv_asm.specs.Faults.{label_fault}
use Rattle.rv_asm.specs.Layout.{body_of, labelled, labels_of}
use Rattle.rv_asm.specs.Placed.{is_start}
use Rattle.rv_asm.specs.Read.{tokens_in}
use Rattle.rv_asm.specs.Symbols.{found}
use Rattle.rv_asm.proofs.symbols.Symbols.define_labels.Given as goal

-- what is left of the line gives what all of it gives
abbrev pub invariant-loop-name : goal.invariant-loop-name
invariant-loop-name l = record {
  faults : label_fault (found l.initial.self) l.here (labels_of (tokens_in l.tokens))
      ≡ label_fault (found l.self) l.here (labels_of (tokens_in l.rest));
  labels : labelled (found l.initial.self) l.here (labels_of (tokens_in l.tokens))
      ≡ labelled (found l.self) l.here (labels_of (tokens_in l.rest));
  body : body_of (tokens_in l.tokens) ≡ body_of (tokens_in l.rest);
  start : list_any is_start (labels_of (tokens_in l.tokens))
      ≡ (l.starts || list_any is_start (labels_of (tokens_in l.rest)));
}

abbrev pub decreases-loop-name : goal.decreases-loop-name
decreases-loop-name l = length l.rest
