-- An instruction in flight adds nothing to what left the hardware.
use Rattle.std.proofs.Common.{◌≡◌, suc, true, List, [], ◌∷◌, filter, refl, arith, append-nil}
use Rattle.std.specs.List.{AllPass}
use Rattle.std.proofs.lemmas.List.Elements.{filter-append}
use Rattle.rv_passage.specs.Left.{IsUpToYoungestLeft}
use Rattle.rv_passage.specs.Passage.{is_in_flight}
use Rattle.rv_passage.specs.declared.passage.Passage.{Passage}
use Rattle.rv_counts.specs.Passing.{has_left}

none_left : (ps : List Passage) → AllPass is_in_flight ps → filter has_left ps ≡ []
none_left [] all = refl
none_left (p ∷ ps) all =
    let here : is_in_flight p ≡ true = all 0 p (omega arith) in
    rw here (none_left ps (λ k d within. all (suc k) d (omega (arith, within))))

-- what left is among the instructions up to the youngest that did
pub left_same : (rows kept : List Passage) → IsUpToYoungestLeft rows kept → filter has_left kept ≡ filter has_left rows
left_same rows kept up = grind (arith, append-nil, none_left, filter-append)
