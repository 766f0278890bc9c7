-- What an SVG of a picture begins and ends with.
use Rattle.std.specs.Prelude.{ℕ, List, ◌++◌, codes, decimal}
use Rattle.rv_drawing.specs.Places.{height_of, width_of}

-- the first line of an SVG of a width and a height
unfoldable pub svg_sized : List ℕ → List ℕ → List ℕ
svg_sized width height =
    codes "<svg xmlns='http://www.w3.org/2000/svg' width='" ++ (width ++ (codes "' height='" ++ (height ++
    (codes "' viewBox='0 0 " ++ (width ++ (codes " " ++ (height ++ codes "'>\n")))))))

-- the size of a picture of so many columns and rows
unfoldable pub svg_begin : ℕ → ℕ → List ℕ
svg_begin columns rows = svg_sized (decimal (width_of columns)) (decimal (height_of rows))

-- the end of that, and of the picture
unfoldable pub svg_end : List ℕ
svg_end = codes "</g>\n</svg>\n"
