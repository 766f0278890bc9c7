-- The first lines with a fault, as a loop counts them.
use Rattle.std.proofs.Common.{◌≡◌, ℕ, zero, suc, ◌+◌, ◌-◌, ◌==◌, List, [], ◌∷◌, ◌++◌, append_assoc, ap, arith, drop}
use Rattle.std.proofs.Common.{length, refl, take, Option}
use Rattle.std.specs.List.{flat_map, slice_split}
use Rattle.rv_asm.specs.Layout.{line_in}
use Rattle.rv_asm.specs.declared.fault.AsmFault.{AsmFault}
use Rattle.rv_refusal.specs.Further.{fault_of_line, faulty_by, faulty_from, further_lines, more_line}
use Rattle.rv_refusal.specs.Place.{place_line}
use Rattle.rv_refusal.specs.declared.further.Faulty.{Faulty}

pub take_none : {X : Type 0} (n : ℕ) → take {A = X} n [] ≡ []
take_none zero = refl
take_none (suc n) = refl

-- a line more is read
module _ (number count : ℕ) (line : List ℕ) (lines behind : List (List ℕ)) (lines_are : lines ≡ line ∷ behind) where
  abbrev fault : Option AsmFault
  fault = fault_of_line (line_in line)

  -- the faults that are shown, with those of one line more
  pub shown_next : (all shown : List Faulty) → all ≡ shown ++ take (20 - count) (faulty_from number lines) →
      all ≡ (shown ++ take (20 - count) (faulty_by number fault))
      ++ take (20 - (count + length (faulty_by number fault))) (faulty_from (number + 1) behind)
  shown_next all shown before = grind (arith, append_assoc)

  -- the faults that are counted, with those of one line more
  pub counted_next : (all : ℕ) → all ≡ count + length (faulty_from number lines) →
      all ≡ count + length (faulty_by number fault) + length (faulty_from (number + 1) behind)
  counted_next all before = grind arith

-- the lines of what is left
pub further_is : (before number count : ℕ) (assembly rest : List ℕ) (shown : List Faulty) →
    slice_split (λ byte. byte == 10) rest ≡ drop number (slice_split (λ byte. byte == 10) assembly) →
    shown ≡ take 20 (faulty_from (number + 1) (slice_split (λ byte. byte == 10) rest)) →
    count ≡ length (faulty_from (number + 1) (slice_split (λ byte. byte == 10) rest)) →
    flat_map (λ line. place_line before line.number line.fault) shown ++ more_line count
    ≡ further_lines before number assembly
unfolding further_lines
further_is before number count assembly rest shown lines shown_is count_is = rw (shown_is, count_is, lines) refl
