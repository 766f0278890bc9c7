-- The table as a relation and as a function.
use Rattle.std.proofs.Common.{◌≡◌, ℕ, zero, suc, Bool, true, false, not, inl, inr, ◌&&◌, ◌==◌, List, []}
use Rattle.std.proofs.Common.{◌∷◌, Option, Some, None, bit_and, refl, sym, ap, ◌∙◌, arith, rules, eq-eqb}
use Rattle.std.specs.Prelude.{IfSome, IsNone, ◌↔◌}
use Rattle.std.specs.List.{All, AllPairs, Contains, list_all}
use Rattle.std.proofs.lemmas.Bool.{and_parts, eqb-true, eqb-false, ne_eqb, cases_Bool, not-true}
use Rattle.std.proofs.lemmas.List.Elements.{All-nil, All-cons, All-contains, All-weaker}
use Rattle.std.proofs.lemmas.List.Kept.{AllPairs-cons}
use Rattle.std.proofs.lemmas.List.Sums.{AllPass-from_list_all}
use Rattle.std.proofs.lemmas.Nat.{and_assoc, and_comm}
use Rattle.rv_isa.specs.declared.instructions.Instr.{Instr}
use Rattle.rv_decode.specs.InstructionTable.{Row, table}
use Rattle.rv_decode.specs.Decodes.{Fits, Decodes, IsIllegal, FitsOneRowAtMost, first_fit, instruction_of}

-- what the first row that fits makes is made by some row
first_fit-row : (rows : List Row) (word : ℕ) (instruction : Instr) → first_fit rows word ≡ Some instruction →
    (row : Row) × Contains rows row × Fits word row × (row.instruction word ≡ instruction)
first_fit-row [] word instruction made = cc
first_fit-row (row ∷ rows) word instruction made =
    elim (cases_Bool (bit_and word row.mask == row.fixed)) [
      | inl passes ↦
          let found : first_fit (row ∷ rows) word ≡ Some (row.instruction word) = rw passes refl in
          (row, (0, omega arith, refl), eqb-true (bit_and word row.mask) row.fixed passes, cc)
      | inr fails ↦
          let skipped : first_fit (row ∷ rows) word ≡ first_fit rows word = rw fails refl in
          let later = first_fit-row rows word instruction (sym skipped ∙ made) in
          (later.0, (suc later.1.0, omega (arith, later.1.1), later.1.2), later.2, later.3)
    ]

-- the instruction that the function gives is one that the word decodes to
pub Decodes-instruction_of : (word : ℕ) (instruction : Instr) → instruction_of word ≡ Some instruction →
    Decodes word instruction
unfolding instruction_of
Decodes-instruction_of word instruction is =
    let made = first_fit-row table word instruction is in
    record { row = made.0; listed = made.1; fits = made.2; makes = made.3 }

-- two rows do not agree in the bits that both fix
abbrev differ : Row → Row → Bool
differ row other = not (bit_and row.fixed other.mask == bit_and other.fixed row.mask)

-- no two rows of a list agree there
abbrev are_apart : List Row → Bool
are_apart [] = true
are_apart (row ∷ rows) = list_all (differ row) rows && are_apart rows

-- a word that fits both of two rows makes them agree
not_both : (word : ℕ) (row other : Row) → differ row other ≡ true → ¬ (Fits word row × Fits word other)
not_both word row other apart both =
    eqb-false (bit_and row.fixed other.mask) (bit_and other.fixed row.mask) (not-true _ apart)
    (ap (λ (x : ℕ). bit_and x other.mask) (sym both.0) ∙ and_assoc other.mask word row.mask
    ∙ ap (bit_and word) (and_comm row.mask other.mask)
    ∙ sym (and_assoc row.mask word other.mask) ∙ ap (λ (x : ℕ). bit_and x row.mask) both.1)

one_row : (word : ℕ) (rows : List Row) → are_apart rows ≡ true →
    AllPairs (λ row other. ¬ (Fits word row × Fits word other)) rows
one_row word [] apart = λ i j d below within. absurd (omega arith)
one_row word (row ∷ rows) apart =
    let parts = and_parts (list_all (differ row) rows) (are_apart rows) apart in
    AllPairs-cons (λ row other. ¬ (Fits word row × Fits word other)) row rows
    (All-weaker (λ other. differ row other ≡ true) (λ other. ¬ (Fits word row × Fits word other))
    (λ other. not_both word row other) rows (AllPass-from_list_all (differ row) rows parts.0))
    (one_row word rows parts.1)

-- a word fits one row of the table at most
pub FitsOneRowAtMost-table : (word : ℕ) → FitsOneRowAtMost word
unfolding table
FitsOneRowAtMost-table word = record { not_both = one_row word table refl }

-- where no two rows agree, each row that fits is the first
first_fit-made : (rows : List Row) (word : ℕ) (row : Row) → are_apart rows ≡ true → Contains rows row → Fits word row →
    first_fit rows word ≡ Some (row.instruction word)
first_fit-made [] word row apart (k, within, is) fits = absurd (omega arith)
first_fit-made (first ∷ rows) word row apart (zero, within, is) fits =
    let passes : (bit_and word first.mask == first.fixed) ≡ true =
    eq-eqb (bit_and word first.mask) first.fixed (rw is fits) in
    rw passes (ap (λ (r : Row). Some (r.instruction word)) is)
first_fit-made (first ∷ rows) word row apart (suc k, within, is) fits =
    let parts = and_parts (list_all (differ first) rows) (are_apart rows) apart in
    let later : Contains rows row = (k, omega arith, is) in
    let differs : differ first row ≡ true = All-contains (λ other. differ first other ≡ true) rows row
    (AllPass-from_list_all (differ first) rows parts.0) later in
    let fails : (bit_and word first.mask == first.fixed) ≡ false =
    ne_eqb (bit_and word first.mask) first.fixed
    (λ fits_first. not_both word first row differs (fits_first, fits)) in
    rw fails (first_fit-made rows word row parts.1 later fits)

-- an instruction that the word decodes to is the one that the function gives
pub instruction_of-Decodes : (word : ℕ) (instruction : Instr) → Decodes word instruction →
    instruction_of word ≡ Some instruction
unfolding instruction_of table
instruction_of-Decodes word instruction decodes =
    first_fit-made table word decodes.row refl decodes.listed decodes.fits ∙ ap Some decodes.makes

-- no row fits where there is no first one
none_fits : (rows : List Row) (word : ℕ) → first_fit rows word ≡ None → All (λ row. ¬ Fits word row) rows
none_fits [] word none = All-nil (λ row. ¬ Fits word row)
none_fits (row ∷ rows) word none =
    elim (cases_Bool (bit_and word row.mask == row.fixed)) [
      | inl passes ↦ (let found : first_fit (row ∷ rows) word ≡ Some (row.instruction word) = rw passes refl in cc)
      | inr fails ↦ All-cons (λ row. ¬ Fits word row) row rows (eqb-false (bit_and word row.mask) row.fixed fails)
          (none_fits rows word (let skipped : first_fit (row ∷ rows) word ≡ first_fit rows word = rw fails refl in
          sym skipped ∙ none))
    ]

-- a word for which the function gives no instruction is illegal
pub IsIllegal-instruction_of : (word : ℕ) → instruction_of word ≡ None → IsIllegal word
unfolding instruction_of
IsIllegal-instruction_of word none = record { none_fits = none_fits table word none }

-- what the function gives, if it gives one, is an instruction that the word decodes to
pub IfSome-instruction_of : (word : ℕ) (o : Option Instr) → o ≡ instruction_of word → IfSome o (Decodes word)
IfSome-instruction_of word None is = search rules
IfSome-instruction_of word (Some i) is = Decodes-instruction_of word i (sym is)

-- the function gives no instruction exactly where the word is illegal
pub IsNone-instruction_of : (word : ℕ) (o : Option Instr) → o ≡ instruction_of word → IsNone o ↔ IsIllegal word
IsNone-instruction_of word None is = (λ _. IsIllegal-instruction_of word (sym is), λ _. search rules)
IsNone-instruction_of word (Some i) is =
    let decodes : Decodes word i = Decodes-instruction_of word i (sym is) in (
      λ none. absurd (search (rules, none)),
      λ illegal. absurd
          (All-contains (λ row. ¬ Fits word row) table decodes.row illegal.none_fits decodes.listed decodes.fits),
    )

pub ruleset Decodes_instruction_of = (Decodes-instruction_of)
