-- What is said with a number in it, and then said on.
use Rattle.std.proofs.Common.{◌≡◌, ◌∙◌, ℕ, List, ◌++◌, Option, ap, sym, append_assoc, codes}
use Rattle.rv_text.specs.Said.{Says}
use Rattle.rv_text.specs.declared.sink.Sink.{Sink}
use Rattle.rv_text.proofs.Saying.{says_both, says_nothing, says_same}

module _ {W : Type 0} {contents : W → Option (List ℕ)} where
  -- what is said after a number and the text that comes with it
  pub says_after_number : {a b c : Sink W} {rest : List ℕ} (before number after : List ℕ) →
      Says contents a b (before ++ (number ++ after)) → Says contents b c rest →
      Says contents a c (before ++ (number ++ (after ++ rest)))
  says_after_number {rest = rest} before number after one other =
      says_same (append_assoc before (number ++ after) rest
      ∙ ap (λ text. before ++ text) (append_assoc number after rest)) (says_both one other)

-- what is awaited, as its first words and the rest of them
pub wait-words : (before number words rest text : List ℕ) → codes " " ++ text ≡ words ++ rest →
    (before ++ (number ++ words)) ++ rest ≡ (before ++ (number ++ codes " ")) ++ text
wait-words before number words rest text same =
    append_assoc before (number ++ words) rest
    ∙ ap (λ end. before ++ end) (append_assoc number words rest ∙ ap (λ end. number ++ end) (sym same)
    ∙ sym (append_assoc number (codes " ") text))
    ∙ sym (append_assoc before (number ++ codes " ") text)

pub ruleset numbering = (says_nothing, says_both, says_after_number)
