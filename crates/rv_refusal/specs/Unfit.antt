-- The sizes of an image that does not fit, and of the RAM.
use Rattle.std.specs.Prelude.{ℕ, List, ◌++◌, codes, decimal}

-- the lines on an image of so many bytes, where RAM has so many
unfoldable pub unfit_lines : ℕ → ℕ → List ℕ
unfit_lines image ram =
    codes "the image has " ++ (decimal image ++ (codes " bytes, the RAM that is described " ++ (decimal ram ++
    codes " bytes\nexpected: a shorter program, or a greater ram_size\n")))
