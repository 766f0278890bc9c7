-- The level of a line after some arrivals is that of the last one that sets it, or as it was before.
use Rattle.std.proofs.Common.{◌≡◌, Bool, true, false, cond, List, [], ◌∷◌, filter, fold, refl, ◌∙◌, ap}
use Rattle.rv_isa.specs.declared.lines.Line.{Line}
use Rattle.rv_isa.specs.declared.lines.Lines.{Lines}
use Rattle.rv_isa.specs.declared.lines.Arrival.{Arrival}
use Rattle.rv_isa.specs.Arrivals.{is_line, last_level}
use Rattle.rv_isa.specs.Levels.{line_set}

-- the arrival at the front counts or does not
last_level-front : (b : Bool) (before : Bool) (a : Arrival) (rest : List Arrival) →
    last_level (cond b a.level before) rest ≡ last_level before (cond b (a ∷ rest) rest)
last_level-front true before a rest = refl
last_level-front false before a rest = refl

-- a line's level after some arrivals
pub level_after : (line : Line) (level : Lines → Bool) →
    ((lines : Lines) (a : Arrival) → level (line_set lines a) ≡ cond (is_line line a.line) a.level (level lines)) →
    (lines : Lines) (xs : List Arrival) →
    level (fold line_set lines xs) ≡ last_level (level lines) (filter (λ a. is_line line a.line) xs)
level_after line level sets lines [] = refl
level_after line level sets lines (a ∷ xs) =
    let rest = filter (λ b. is_line line b.line) xs in
    level_after line level sets (line_set lines a) xs ∙ ap (λ b. last_level b rest) (sets lines a)
    ∙ last_level-front (is_line line a.line) (level lines) a rest
