-- How far a line moves the sections: that in force grows, and the other stays.
use Rattle.std.proofs.Common.{◌≡◌, ◌≤◌, ℕ, List, [], ◌∷◌, Result, true, refl, arith}
use Rattle.rv_asm.specs.Kept.{is_idle}
use Rattle.rv_asm.proofs.Kept.{idle_says_nothing}
use Rattle.rv_asm.specs.Layout.{Line, Unreadable, Readable, Layout, Meanings, after_statement, extended, grow_in, laid}
use Rattle.rv_asm.specs.Layout.{labelled, offset_in, size}
use Rattle.rv_asm.specs.Placed.{place}
use Rattle.rv_asm.specs.Statement.{Statement}
use Rattle.rv_asm.specs.declared.{fault.AsmFault.AsmFault, operation.Section.Section, reach.Reach.Reach}

grow : (part s : Section) (n : ℕ) (reach : Reach) → offset_in part reach ≤ offset_in part (grow_in s n reach)
grow part s n reach = grind arith

after_grows : (part : Section) (m : Meanings) (reach : Reach) (said : Result Statement AsmFault) →
    offset_in part reach ≤ offset_in part (after_statement m reach said).reach
after_grows part m reach said = grind (arith, grow, size)

-- after a line a section is not smaller, nor after many
pub line_grows : (part : Section) (before : Layout) (line : Line) → offset_in part before.reach
    ≤ offset_in part (extended before line).reach
line_grows part before line = grind (arith, after_grows, labelled)

-- a section is not smaller after several lines than before them
pub lines_grow : (part : Section) (before : Layout) (lines : List Line) → offset_in part before.reach
    ≤ offset_in part (laid before lines).reach
lines_grow part before [] = omega arith
lines_grow part before (line ∷ others) =
    omega (arith, line_grows part before line, lines_grow part (extended before line) others)

grow_nothing : (s : Section) (reach : Reach) → grow_in s 0 reach ≡ reach
grow_nothing s reach = grind arith

-- an idle line moves nothing
pub idle_stays : (before : Layout) (line : Line) → is_idle (place before.reach line) ≡ true →
    (extended before line).reach ≡ before.reach
idle_stays before line idle = grind (arith, labelled, idle_says_nothing, place, grow_nothing)

-- a line stands as far along as the text has come before it
pub place_reach : (reach : Reach) (line : Line) → (place reach line).reach ≡ reach
place_reach reach Unreadable = refl
place_reach reach (Readable labels body) = refl
