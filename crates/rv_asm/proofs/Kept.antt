-- What is kept of the lines gives the same image and the same fault as all of them.
use Rattle.std.proofs.Common.{◌≡◌, ◌∙◌, ℕ, ◌+◌, List, [], ◌∷◌, ◌++◌, map, Bool, true, false, cond, Result, Ok, refl, ap}
use Rattle.std.proofs.Common.{◌==◌, arith}
use Rattle.std.specs.List.{slice_split}
use Rattle.std.specs.Option.{option_map, option_or}
use Rattle.rv_asm.specs.Faults.{earliest, second_fault, second_fault_of}
use Rattle.rv_asm.specs.Kept.{Kept, says_nothing, is_idle, kept, places, first_with_fault}
use Rattle.rv_asm.specs.Layout.{Layout, extended, layout, line_in, lines_of, unlaid}
use Rattle.rv_asm.specs.Meaning.{Spells, after_text, contents, image_parts, line_cells, parts_in, section_parts}
use Rattle.rv_asm.specs.Placed.{Placed, place, placed}
use Rattle.rv_asm.specs.Statement.{Statement, Nothing}
use Rattle.rv_asm.specs.declared.{fault.AsmFault.AsmFault, operation.Section.Section}
use Rattle.rv_asm.specs.declared.operation.Section.TheVariants.{Text, Data}

pub nothing_said : (r : Result Statement AsmFault) → says_nothing r ≡ true → r ≡ Ok Nothing
nothing_said (Ok Nothing) is = refl
nothing_said _ is = absurd (cc)

-- an idle line has no statement with an effect, and is not where execution starts
pub record SaysNothing (line : Placed) : Type 0 where
  pub nothing : line.statement ≡ Ok Nothing
  pub starts_not : line.starts ≡ false

-- where the second pass has nothing to do in a line, the line says nothing and does not define _start
pub idle_says_nothing : (line : Placed) → is_idle line ≡ true → SaysNothing line
idle_says_nothing line idle = record { nothing = nothing_said line.statement (grind arith); starts_not = grind arith }

module _ (base : ℕ) (whole : Layout) where
  nothing_in : (part section : Section) → parts_in part section (Ok []) ≡ []
  nothing_in part section = grind arith

  -- some lines have the same parts and the same fault as others
  record Same (lines all : List Kept) : Type 0 where
    pub parts : (part : Section) → contents base whole part (places lines) ≡ contents base whole part (places all)
    pub fault : first_with_fault (second_fault base whole) lines ≡ first_with_fault (second_fault base whole) all

  kept_one : (line : Kept) (others : List Kept) (idle : Bool) → is_idle line.place ≡ idle →
      Same (cond idle [] (line ∷ []) ++ others) (line ∷ others)
  kept_one line others true idle =
      let says = idle_says_nothing line.place idle in
      record {
        parts = λ part. rw (says.nothing, nothing_in part line.place.reach.section) refl;
        fault = rw (says.nothing, says.starts_not) refl;
      }
  kept_one line others false idle = record { parts = λ part. refl; fault = refl }

  module _ (number : ℕ) (layout : Layout) (bytes : List ℕ) (others : List (List ℕ)) where
    one : Same (kept number layout (bytes ∷ others))
        (record { number = number; bytes = bytes; place = place layout.reach (line_in bytes) }
        ∷ kept (number + 1) (extended layout (line_in bytes)) others)
    one = grind (arith, kept_one, place, layout, kept, is_idle)

  -- the parts of a section
  pub kept_contents : (part : Section) (number : ℕ) (layout : Layout) (lines : List (List ℕ)) →
      contents base whole part (places (kept number layout lines))
      ≡ contents base whole part (placed layout (map line_in lines))
  kept_contents part number layout [] = refl
  kept_contents part number layout (bytes ∷ others) =
      let line = place layout.reach (line_in bytes) in
      (one number layout bytes others).parts part
      ∙ ap (λ rest. parts_in part line.reach.section (line_cells base whole line) ++ rest)
      (kept_contents part (number + 1) (extended layout (line_in bytes)) others)

  -- the first fault
  pub kept_fault : (number : ℕ) (layout : Layout) (lines : List (List ℕ)) →
      first_with_fault (second_fault base whole) (kept number layout lines)
      ≡ earliest number (map (second_fault base whole) (placed layout (map line_in lines)))
  kept_fault number layout [] = refl
  kept_fault number layout (bytes ∷ others) =
      (one number layout bytes others).fault
      ∙ ap (option_or
      (option_map (λ found. (found, number)) (second_fault base whole (place layout.reach (line_in bytes)))))
      (kept_fault (number + 1) (extended layout (line_in bytes)) others)

-- of a whole text
module _ (base : ℕ) (text : List ℕ) (whole : Layout) (lines : List Kept) (whole_is : whole ≡ layout (lines_of text))
    (lines_are : lines ≡ kept 1 unlaid (slice_split (λ byte. byte == 10) text)) where
  -- the first fault of the lines that are kept is that of the second pass over the text
  pub same_fault : first_with_fault (second_fault base whole) lines ≡ second_fault_of base (lines_of text)
  same_fault = grind (arith, kept_fault, placed)

  pub same_parts : (part : Section) → contents base whole part (places lines) ≡ section_parts base part (lines_of text)
  same_parts part = grind (arith, places, kept_contents, placed)

  -- bytes that spell the parts of the lines that are kept spell the image of the text
  pub same_image : (bytes : List ℕ) →
      Spells (contents base whole Text (places lines)
      ++ after_text whole.reach.text_size whole.reach.data_size (contents base whole Data (places lines))) bytes →
      Spells (image_parts base (lines_of text)) bytes
  same_image bytes spells = grind (arith, same_parts)
