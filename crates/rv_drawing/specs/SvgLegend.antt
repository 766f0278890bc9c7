-- The legend of an SVG of a picture.
use Rattle.std.specs.Prelude.{ℕ, List, [], ◌++◌, codes, Option, Some, None}
use Rattle.rv_drawing.specs.declared.mark.Mark.{Mark}

-- each letter with its meaning, in lines of four
unfoldable pub svg_letters : List ℕ
svg_letters =
    codes "<g transform='translate(8 8)'>\n" ++ (
    codes "<g transform='translate(0 0)'><g class='p f'><rect width='14' height='18'/><text x='7' y='13'>F</text></g><text x='20' y='13'>fetch</text></g>\n" ++ (
    codes "<g transform='translate(150 0)'><g class='p d'><rect width='14' height='18'/><text x='7' y='13'>D</text></g><text x='20' y='13'>dispatch</text></g>\n" ++ (
    codes "<g transform='translate(300 0)'><g class='p i'><rect width='14' height='18'/><text x='7' y='13'>I</text></g><text x='20' y='13'>issue</text></g>\n" ++ (
    codes "<g transform='translate(450 0)'><g class='p e'><rect width='14' height='18'/><text x='7' y='13'>=</text></g><text x='20' y='13'>execution</text></g>\n" ++ (
    codes "<g transform='translate(0 22)'><g class='p r'><rect width='14' height='18'/><text x='7' y='13'>~</text></g><text x='20' y='13'>wait for the bus</text></g>\n" ++ (
    codes "<g transform='translate(150 22)'><g class='p b'><rect width='14' height='18'/><text x='7' y='13'>B</text></g><text x='20' y='13'>broadcast</text></g>\n" ++ (
    codes "<g transform='translate(300 22)'><g class='p c'><rect width='14' height='18'/><text x='7' y='13'>C</text></g><text x='20' y='13'>retirement</text></g>\n" ++ (
    codes "<g transform='translate(450 22)'><g class='p t'><rect width='14' height='18'/><text x='7' y='13'>T</text></g><text x='20' y='13'>trap</text></g>\n" ++ (
    codes "<g transform='translate(0 44)'><g class='p x'><rect width='14' height='18'/><text x='7' y='13'>x</text></g><text x='20' y='13'>squash</text></g>\n" ++ (
    codes "<g transform='translate(150 44)'><g class='p w'><rect width='14' height='18'/><text x='7' y='13'>.</text></g><text x='20' y='13'>wait</text></g>\n" ++ (
    codes "<g transform='translate(300 44)'><g class='v'><text x='7' y='13'>!</text></g><text x='20' y='13'>interrupt</text></g>\n")))))))))))

-- after them the mark, where a picture has some
unfoldable pub mark_entry : Option (List Mark) → List ℕ
mark_entry None = []
mark_entry (Some marks) =
    codes "<g transform='translate(450 44)'><g class='p f'><rect width='14' height='18'/><path class='m' d='M1 1H13V17H1Z'/><path class='m' d='M2.5 2.5H11.5V15.5H2.5Z'/><text x='7' y='13'>F</text></g><text x='20' y='13'>on the critical path</text></g>\n"

-- the legend, and the begin of what stands below
unfoldable pub svg_legend : Option (List Mark) → List ℕ
svg_legend marks = svg_letters ++ (mark_entry marks ++ codes "</g>\n<g transform='translate(0 76)'>\n")
