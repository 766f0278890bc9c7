-- The rows of an SVG at one of them.
use Rattle.std.proofs.Common.{◌≡◌, ◌∙◌, ℕ, ◌+◌, ◌<◌, List, [], ◌∷◌, ◌++◌, length, get_or, take}
use Rattle.std.proofs.Common.{sym, ap, append_assoc, append-nil, arith, count_by, Option}
use Rattle.std.proofs.lemmas.List.{take_more}
use Rattle.std.proofs.lemmas.List.Sums.{sum_by-append}
use Rattle.rv_hardware.specs.declared.report.Stall.{Stall}
use Rattle.rv_passage.specs.declared.passage.Passage.{Passage}
use Rattle.rv_source.specs.Listing.{Listed}
use Rattle.rv_drawing.specs.Cell.{has_cell}
use Rattle.rv_drawing.specs.SvgPicture.{placed_row, rows_of, svg_rows}
use Rattle.rv_drawing.specs.declared.{mark.Mark.Mark, window.Window.Window}

-- a count with one more in front
count_by-cons : (window : Window) (x : Passage) (xs : List Passage) →
    count_by (has_cell window) (x ∷ xs) ≡ rows_of window x + count_by (has_cell window) xs
count_by-cons window x xs =
    let one : count_by (has_cell window) (x ∷ []) ≡ rows_of window x = omega arith in
    sum_by-append _ (x ∷ []) xs ∙ (λ i. one i + count_by (has_cell window) xs)

module _ (listing : Listed) (window : Window) (all : List Passage) (reasons : List (Option Stall))
    (marks : List Mark) where
  abbrev pub rows_from : ℕ → List Passage → List ℕ
  rows_from place passages = svg_rows listing window all reasons marks place passages

  -- how many rows of the picture some instructions have
  abbrev pub count : List Passage → ℕ
  count passages = count_by (has_cell window) passages

  -- rows one after the other
  svg_rows-append : (place : ℕ) (xs ys : List Passage) → rows_from place (xs ++ ys) ≡ rows_from place xs
      ++ rows_from (place + count xs) ys
  unfolding svg_rows
  svg_rows-append place [] ys = let same : place ≡ place + 0 = omega arith in ap (λ n. rows_from n ys) same
  svg_rows-append place (x ∷ xs) ys =
      let below = place + rows_of window x in
      let same : below + count xs ≡ place + count (x ∷ xs) = omega (arith, count_by-cons window x xs) in
      ap (λ l. placed_row listing window all reasons marks place x ++ l)
      (svg_rows-append below xs ys ∙ ap (λ n. rows_from below xs ++ rows_from n ys) same)
      ∙ sym (append_assoc (placed_row listing window all reasons marks place x) (rows_from below xs)
      (rows_from (place + count (x ∷ xs)) ys))

  module _ (items : List Passage) (index : ℕ) (other : Passage) (here : index < length items) (place : ℕ)
      (below : place ≡ count (take index items)) where
    abbrev pub row : Passage
    row = get_or items index other

    -- the rows with one instruction more
    pub svg_rows-more : rows_from 0 (take (index + 1) items) ≡ rows_from 0 (take index items)
        ++ placed_row listing window all reasons marks place row
    unfolding svg_rows
    svg_rows-more =
        let same : 0 + count (take index items) ≡ place = omega (arith, below) in
        ap (rows_from 0) (take_more items index other here) ∙ svg_rows-append 0 (take index items) (row ∷ [])
        ∙ ap (λ n. rows_from 0 (take index items) ++ rows_from n (row ∷ [])) same
        ∙ ap (λ l. rows_from 0 (take index items) ++ l)
        (append-nil (placed_row listing window all reasons marks place row))

    -- and how many they are
    pub count-more : place + rows_of window row ≡ count (take (index + 1) items)
    count-more =
        let one : count (row ∷ []) ≡ rows_of window row = omega arith in
        let more = ap count (take_more items index other here) ∙ sum_by-append _ (take index items) (row ∷ []) in
        omega (arith, more, one, below)
