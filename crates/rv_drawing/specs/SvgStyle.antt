-- The style of an SVG of a picture.
use Rattle.std.specs.Prelude.{ℕ, List, [], ◌++◌, codes, Option, Some, None}
use Rattle.rv_drawing.specs.declared.mark.Mark.{Mark}

-- fonts, and a colour for each class of cells, on a white ground, and on a dark one where the viewer asks for it; a
-- printed page is as wide as the picture
unfoldable pub svg_style : List ℕ
svg_style =
    codes "<style>\n" ++ (
    codes ".page{fill:#fff}\n" ++ (
    codes "text{font:12px monospace;fill:#111}\n" ++ (
    codes ".n text{font-size:11px;fill:#444}\n" ++ (
    codes ".n path{stroke:#bbb}\n" ++ (
    codes ".out text{fill:#6b6b6b}\n" ++ (
    codes ".trap text{fill:#a00}\n" ++ (
    codes ".stale text{fill:#a00}\n" ++ (
    codes ".v path{stroke:#c00;stroke-dasharray:4 3}\n" ++ (
    codes ".v text{font-size:11px;font-weight:bold;text-anchor:middle;fill:#c00}\n" ++ (
    codes ".a{text-anchor:end}\n" ++ (
    codes ".p rect{stroke:#fff}\n" ++ (
    codes ".p text{font-size:11px;text-anchor:middle;fill:#000}\n" ++ (
    codes ".f rect{fill:#e3eefc}\n" ++ (
    codes ".d rect{fill:#b5d3f5}\n" ++ (
    codes ".i rect{fill:#7fb2ea}\n" ++ (
    codes ".e rect{fill:#fbe3a3}\n" ++ (
    codes ".r rect{fill:#fff;stroke:#b06a00}\n" ++ (
    codes ".b rect{fill:#f0a848}\n" ++ (
    codes ".c rect{fill:#1f7a3d}\n" ++ (
    codes ".t rect{fill:#8c1616}\n" ++ (
    codes ".x rect{fill:#707070}\n" ++ (
    codes ".w rect{fill:#f1f1f1}\n" ++ (
    codes ".c text,.t text,.x text{fill:#fff}\n" ++ (
    codes "@media print{svg{width:100%;height:auto}}\n" ++ (
    codes "@media (prefers-color-scheme:dark){\n" ++ (
    codes ".page{fill:#16181c}\n" ++ (
    codes "text{fill:#e4e4e4}\n" ++ (
    codes ".n text{fill:#aaa}\n" ++ (
    codes ".n path{stroke:#484c54}\n" ++ (
    codes ".out text{fill:#8c8c8c}\n" ++ (
    codes ".trap text{fill:#ff8080}\n" ++ (
    codes ".stale text{fill:#ff8080}\n" ++ (
    codes ".v path{stroke:#ff6060}\n" ++ (
    codes ".v text{fill:#ff6060}\n" ++ (
    codes ".p rect{stroke:#16181c}\n" ++ (
    codes ".p text{fill:#000}\n" ++ (
    codes ".r rect{fill:#16181c;stroke:#f0a848}\n" ++ (
    codes ".r text{fill:#f0a848}\n" ++ (
    codes ".w rect{fill:#2c3038}\n" ++ (
    codes ".w text{fill:#bbb}\n" ++ (
    codes ".c text,.t text,.x text{fill:#fff}\n" ++ (
    codes "}\n" ++ (
    codes "</style>\n" ++ (
    codes "<rect class='page' width='100%' height='100%'/>\n"))))))))))))))))))))))))))))))))))))))))))))

-- rings and a bold letter for the marked cells of a picture that has marks: a white one and a black one, of which one
-- is seen on each colour and on each ground
unfoldable pub mark_style : Option (List Mark) → List ℕ
mark_style None = []
mark_style (Some marks) =
    codes "<style>\n" ++ (
    codes ".m{fill:none;stroke:#fff;stroke-width:1.5}\n" ++ (
    codes ".m+.m{stroke:#000}\n" ++ (
    codes ".m+text{font-weight:bold}\n" ++
    codes "</style>\n")))
