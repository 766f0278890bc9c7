-- The lines of more words, and of the same words where there is a line more.
use Rattle.std.proofs.Common.{◌≡◌, ◌∙◌, ℕ, zero, suc, ◌<◌, List, [], ◌∷◌, ◌++◌, length}
use Rattle.std.proofs.Common.{map, Option, Some, None, replicate, refl, ap, arith}
use Rattle.std.specs.Prelude.{IfSome}
use Rattle.std.specs.List.{slice_get}
use Rattle.std.proofs.lemmas.List.{map-append}
use Rattle.rv_source.specs.Listing.{Line}
use Rattle.rv_source.specs.Places.{line_in, lines_at, AreWithin}

map-replicate : {X Y : Type 0} (f : X → Y) (n : ℕ) (x : X) → map f (replicate n x) ≡ replicate n (f x)
map-replicate f zero x = refl
map-replicate f (suc n) x = ap (λ xs. f x ∷ xs) (map-replicate f n x)

slice_get-append : (lines : List Line) (more : Line) (at : ℕ) → at < length lines →
    slice_get (lines ++ more ∷ []) at ≡ slice_get lines at
slice_get-append [] more at within = absurd (omega arith)
slice_get-append (line ∷ lines) more zero within = refl
slice_get-append (line ∷ lines) more (suc at) within = slice_get-append lines more at (omega arith)

slice_get-last : (lines : List Line) (last : Line) → slice_get (lines ++ last ∷ []) (length lines) ≡ Some last
slice_get-last [] last = refl
slice_get-last (line ∷ lines) last = slice_get-last lines last

line_in-append : (lines : List Line) (more : Line) (place : Option ℕ) → IfSome place (λ at. at < length lines) →
    line_in (lines ++ more ∷ []) place ≡ line_in lines place
line_in-append lines more None within = refl
line_in-append lines more (Some at) within = slice_get-append lines more at within

-- a line more leaves the words that there are as they were
pub lines_at_append : (lines : List Line) (more : Line) (places : List (Option ℕ)) → AreWithin lines places →
    lines_at (lines ++ more ∷ []) places ≡ lines_at lines places
lines_at_append lines more [] within = refl
lines_at_append lines more (place ∷ places) within =
    let first = line_in-append lines more place (within 0 None (omega arith)) in
    let others = lines_at_append lines more places (λ k d below. within (suc k) d (omega arith)) in
    cc

-- words more at one place
pub lines_at-replicate : (lines : List Line) (places : List (Option ℕ)) (count : ℕ) (place : Option ℕ) →
    lines_at lines (places ++ replicate count place) ≡ lines_at lines places ++ replicate count (line_in lines place)
lines_at-replicate lines places count place =
    map-append (line_in lines) places (replicate count place)
    ∙ ap (λ more. lines_at lines places ++ more) (map-replicate (line_in lines) count place)

-- words more of a line more
pub lines_at-pushed : (lines : List Line) (more : Line) (places : List (Option ℕ)) (count : ℕ) →
    AreWithin lines places →
    lines_at (lines ++ more ∷ []) (places ++ replicate count (Some (length lines)))
    ≡ lines_at lines places ++ replicate count (Some more)
lines_at-pushed lines more places count within =
    lines_at-replicate (lines ++ more ∷ []) places count (Some (length lines))
    ∙ ap (λ old. old ++ replicate count (slice_get (lines ++ more ∷ []) (length lines)))
    (lines_at_append lines more places within)
    ∙ ap (λ last. lines_at lines places ++ replicate count last) (slice_get-last lines more)
