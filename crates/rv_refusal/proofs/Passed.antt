-- The lines after some that are passed.
use Rattle.std.proofs.Common.{◌≡◌, ◌∙◌, ℕ, ◌+◌, ◌-◌, ◌≤◌, List, [], ◌∷◌, ap, arith, drop, length, length-drop, sym}
use Rattle.std.proofs.lemmas.List.{drop-drop, drop_all}

-- where no lines are left after some, none are after more
pub drop_past : (passed count : ℕ) (lines : List (List ℕ)) → [] ≡ drop passed lines → passed ≤ count →
    [] ≡ drop count lines
drop_past passed count lines none more =
    let left : 0 ≡ length lines - passed = ap length none ∙ length-drop passed lines in
    sym (drop_all count lines (omega arith))

-- after one more line stands what follows it
pub drop_next : (passed : ℕ) (lines : List (List ℕ)) (line : List ℕ) (behind : List (List ℕ)) →
    line ∷ behind ≡ drop passed lines → behind ≡ drop (passed + 1) lines
drop_next passed lines line behind left = ap (drop 1) left ∙ drop-drop 1 passed lines
