-- The marks of an instruction among fewer marks.
use Rattle.std.proofs.Common.{◌≡◌, ◌≢◌, ◌∙◌, ℕ, ◌+◌, ◌-◌, ◌<◌, ◌==◌, ◌&&◌, ◌||◌, false}
use Rattle.std.proofs.Common.{List, [], ◌∷◌, drop, get_or, length, take, sym, ap, arith}
use Rattle.std.proofs.Math.Bool.{or-false}
use Rattle.std.proofs.lemmas.Bool.{ne_eqb}
use Rattle.std.proofs.lemmas.List.{take_all}
use Rattle.std.proofs.lemmas.List.Folds.{list_any_more}
use Rattle.std.specs.List.{list_any}
use Rattle.rv_drawing.specs.Marked.{is_mark, is_marked}
use Rattle.rv_drawing.specs.declared.mark.Mark.{Mark}

-- without the first one, which is of another instruction
pub is_marked-drop : (marks : List Mark) (number : ℕ) (other : Mark) → 0 < length marks →
    (get_or marks 0 other).number ≢ number
    → is_marked (take (length marks - 1) (drop 1 marks)) number ≡ is_marked marks number
is_marked-drop [] number other some is_other = absurd (omega arith)
is_marked-drop (mark ∷ marks) number other some is_other =
    ap (λ l. is_marked l number) (take_all (length (mark ∷ marks) - 1) marks (omega arith))
    ∙ sym (λ i column. (ne_eqb mark.number number is_other i && mark.column == column)
    || is_marked marks number column)

-- without the last one, which is of another instruction
pub is_marked-take : (marks : List Mark) (number : ℕ) (other : Mark) → 0 < length marks →
    (get_or marks (length marks - 1) other).number ≢ number
    → is_marked (take (length marks - 1) marks) number ≡ is_marked marks number
is_marked-take marks number other some is_other i column = same column i
  where
    last : ℕ
    last = length marks - 1

    same : (column : ℕ) → is_marked (take last marks) number column ≡ is_marked marks number column
    same column =
        let test = is_mark number column in
        let before = list_any test (take last marks) in
        let one_more : list_any test marks ≡ (before || test (get_or marks last other)) =
        ap (list_any test) (sym (take_all (last + 1) marks (omega arith)))
        ∙ list_any_more test marks last other (omega arith) in
        let other_one : (before || test (get_or marks last other)) ≡ (before || false) =
        λ i. before || (ne_eqb _ _ is_other i && (get_or marks last other).column == column) in
        sym (one_more ∙ other_one ∙ or-false before)
