-- A relation of each two marks gives one of each two rows, and the rows before a row are sound.
use Rattle.rv_hardware.proofs.Words.{◌≡◌, ℕ, ◌≤◌, true, List, [], ◌∷◌, map, None, Option, is_serialising, is_target}
use Rattle.rv_hardware.proofs.Words.{kind_of_word, target_of_word, Instr, Values, Each, Hardware, instruction_of_row}
use Rattle.rv_hardware.proofs.Words.{rows_of, Row, Step, Retired, Each-append, Each-both, EveryPair, EveryAfter}
use Rattle.rv_hardware.proofs.Words.{EveryPair-left, EveryPair-weaker, EveryPair-unmap, EveryAfter-left}
use Rattle.rv_hardware.proofs.Words.{EveryAfter-unmap, EveryAfter-EveryPair, arith}
use Rattle.rv_hardware.proofs.Marks.History.{History, history_is_sound}
use Rattle.rv_hardware.proofs.Marks.List.{Mark, marks_in, mark_of_row}
use Rattle.rv_hardware.proofs.Laws.Operands.Known.{StartsAfter, history_starts_after}
use Rattle.rv_hardware.proofs.Marks.Row.{SoundRow}
use Rattle.rv_hardware.proofs.Laws.StepsInOrder.Steps.{InOrder, history_has_steps}

-- pairs of marks give pairs of rows
pub row_pairs : (R : Mark → Mark → Type 0) {Q : Row → Row → Type 0} →
    ((a b : Row) → R (mark_of_row a) (mark_of_row b) → Q a b) → (steps : List Step) (h : Hardware) →
    EveryPair R (marks_in steps h) → EveryPair Q (rows_of steps)
row_pairs R f steps h pairs = grind (arith, EveryPair-weaker, EveryPair-unmap, EveryPair-left)

-- rows that start after others
pub rows_start_after : {v : Values} {steps : List Step} {h : Hardware} → History v steps h →
    EveryAfter (λ before row. StartsAfter (map mark_of_row before) (mark_of_row row)) [] (rows_of steps)
rows_start_after {v} {steps} {h} history =
    EveryAfter-unmap _ _ [] _ (EveryAfter-left _ [] _ _ (history_starts_after history))

-- an instruction that writes a register and uses no unit serialises
pub writer_serialises : (register : ℕ) (i : Option Instr) → kind_of_word i ≡ None →
    is_target register (target_of_word i) ≡ true → is_serialising i ≡ true
writer_serialises register i kind writes = grind arith

-- what is known of a row that is older than another
pub record Older (v : Values) (bound : ℕ) (row a : Row) : Type 0 where
  pub sound : SoundRow v bound a
  pub serial : is_serialising (instruction_of_row a) ≡ true → a.retired ≤ row.fetched

-- pairs of steps give pairs of rows
abbrev SerialFirst : Row → Row → Type 0
SerialFirst a b = is_serialising (instruction_of_row a) ≡ true → a.retired ≤ b.fetched

rows_after : (a : Row) (steps : List Step) → Each (InOrder (Retired a)) steps → Each (SerialFirst a) (rows_of steps)
rows_after a [] h = tt
rows_after a (Retired row ∷ steps) h = (h.0.anew, rows_after a steps h.1)
rows_after a (step ∷ steps) h = rows_after a steps h.1

rows_in_pairs : (steps : List Step) → EveryPair InOrder steps → EveryPair SerialFirst (rows_of steps)
rows_in_pairs [] h = tt
rows_in_pairs (Retired row ∷ steps) h = (rows_after row steps h.0, rows_in_pairs steps h.1)
rows_in_pairs (step ∷ steps) h = rows_in_pairs steps h.1

-- each row after those that are older, which are sound
every_before : {X : Type 0} (P : X → Type 0) (before xs : List X) → Each P before → Each P xs →
    EveryAfter (λ b x. Each P b) before xs
every_before P before [] h g = tt
every_before P before (x ∷ xs) h g = (h, every_before P _ xs (Each-append P before _ h (g.0, tt)) g.1)

-- what follows from two facts of each element after others holds of each
pub two_after : {X : Type 0} {P Q R : List X → X → Type 0} → ((b : List X) (x : X) → P b x → Q b x → R b x) →
    (before xs : List X) → EveryAfter P before xs → EveryAfter Q before xs → EveryAfter R before xs
two_after f before [] h g = tt
two_after {P} {Q} {R} f before (x ∷ xs) h g = (f before x h.0 g.0, two_after f _ xs h.1 g.1)

-- in every history what is known of older rows holds of all before a row
pub rows_are_older : {v : Values} {steps : List Step} {h : Hardware} → History v steps h →
    EveryAfter (λ before row. Each (Older v h.cycle row) before) [] (rows_of steps)
rows_are_older {v} {steps} {h} history =
    two_after
    (λ before row sounds serials. Each-both _ (λ a s t. record { sound = s; serial = t }) before sounds serials) [] _
    (every_before _ [] _ tt (history_is_sound history).rows)
    (EveryAfter-EveryPair _ [] _ tt (rows_in_pairs steps (history_has_steps history).pairs))
