-- A word whose opcode is not that of a branch or a jump leads to the next one.
use Rattle.std.proofs.Common.{◌≡◌, ℕ, ◌^◌, ◌<◌, Bool, true, false, inl, inr}
use Rattle.std.proofs.Common.{◌||◌, ◌==◌, List, [], ◌∷◌, refl, sym, ap, arith}
use Rattle.std.specs.List.{list_all, list_any}
use Rattle.std.proofs.lemmas.Bool.{and_parts, cases_Bool}
use Rattle.std.proofs.lemmas.Bool.Decides.{nat_tests}
use Rattle.rv_decode.specs.InstructionTable.{Row, table}
use Rattle.rv_decode.specs.Decodes.{has_fields, by_rows}
use Rattle.rv_decode.specs.Operand.{opcode, funct3, funct7}
use Rattle.rv_decode.proofs.Masks.{and_opcode}
use Rattle.rv_decode.proofs.Rows.{instruction_of-by_rows}
use Rattle.rv_front.specs.declared.flow.Flow.{Flow}
use Rattle.rv_front.specs.declared.flow.Flow.TheVariants.{Sequential, Jump, Branch, Indirect}
use Rattle.rv_front.specs.declared.predictors.DescribedPredictor.{DescribedPredictor}
use Rattle.rv_front.specs.declared.predictors.DescribedPredictor.TheVariants.{NotTaken, BackwardTaken, Bimodal}
use Rattle.rv_front.specs.Predictors.{answer, taught, not_taken, backward_taken, bimodal, learned}
use Rattle.rv_isa.specs.Word.{pc_plus_4}
use Rattle.rv_front.specs.Flow.{flow_of, flow_after, flow_at, codes_elsewhere, leads_elsewhere}

abbrev is_sequential : Flow → Bool
is_sequential Sequential = true
is_sequential (Jump target) = false
is_sequential (Branch target backward) = false
is_sequential Indirect = false

sequential : (flow : Flow) → is_sequential flow ≡ true → flow ≡ Sequential
sequential Sequential is = refl
sequential (Jump target) is = cc
sequential (Branch target backward) is = cc
sequential Indirect is = cc

-- the row has one of the opcodes, or makes an instruction after which the next word is
abbrev stays : ℕ → ℕ → Row → Bool
stays pc word row = list_any (λ code. opcode row.fixed == code) codes_elsewhere || is_sequential
    (flow_of pc (row.instruction word))

flow_after-by_rows : (pc word code third seventh : ℕ) → list_any (λ known. code == known) codes_elsewhere ≡ false →
    (rows : List Row) → list_all (stays pc word) rows ≡ true →
    flow_after pc (by_rows rows word code third seventh) ≡ Sequential
flow_after-by_rows pc word code third seventh elsewhere [] stay = refl
flow_after-by_rows pc word code third seventh elsewhere (row ∷ rows) stay =
    let parts = and_parts (stays pc word row) (list_all (stays pc word) rows) stay in
    elim (cases_Bool (has_fields row word code third seventh)) [
      | inl has ↦ rw has (sequential _ (grind (arith, nat_tests)))
      | inr fails ↦ rw fails (flow_after-by_rows pc word code third seventh elsewhere rows parts.1)
    ]

-- after a word with the opcode of no branch and no jump, the program goes on at the next one
pub flow_at-sequential : (pc word : ℕ) → word < 2 ^ 32 → leads_elsewhere word ≡ false → flow_at pc word ≡ Sequential
unfolding table
flow_at-sequential pc word small elsewhere =
    rw (instruction_of-by_rows word small)
    (flow_after-by_rows pc word (opcode word) (funct3 word) (funct7 word)
    (rw (sym (and_opcode word)) elsewhere) table refl)

-- each described predictor answers the next word
pub answer-sequential : (predictor : DescribedPredictor) (pc word : ℕ) → word < 2 ^ 32 → leads_elsewhere word ≡ false →
    answer predictor pc (flow_at pc word) ≡ pc_plus_4 pc
answer-sequential (NotTaken plain) pc word small elsewhere =
    ap (not_taken pc) (flow_at-sequential pc word small elsewhere)
answer-sequential (BackwardTaken plain) pc word small elsewhere =
    ap (backward_taken pc) (flow_at-sequential pc word small elsewhere)
answer-sequential (Bimodal tables) pc word small elsewhere =
    ap (bimodal tables pc) (flow_at-sequential pc word small elsewhere)

-- and learns nothing
pub taught-sequential : (predictor : DescribedPredictor) (pc word next : ℕ) → word < 2 ^ 32 →
    leads_elsewhere word ≡ false
    → taught predictor (record { pc = pc; word = word; next = next }) ≡ predictor
taught-sequential (NotTaken plain) pc word next small elsewhere = refl
taught-sequential (BackwardTaken plain) pc word next small elsewhere = refl
taught-sequential (Bimodal tables) pc word next small elsewhere =
    ap (λ flow. Bimodal (learned tables pc next flow)) (flow_at-sequential pc word small elsewhere)
