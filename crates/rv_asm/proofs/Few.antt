-- A statement that is no data has three operands at most.
use Rattle.std.proofs.Common.{◌≡◌, ◌≢◌, ◌<◌, ◌≤◌, ◌==◌, ℕ, suc, List, [], ◌∷◌, map, length, Bool, true, false, cond}
use Rattle.std.proofs.Common.{Option, None, Some, Result, Ok, Err, IfErr, ok_or, option_and_then, refl, ap, arith}
use Rattle.std.specs.List.{slice_split}
use Rattle.std.specs.Option.{option_map, option_map_or}
use Rattle.std.specs.Result.{result_err}
use Rattle.rv_asm.specs.Answer.{Follows, RefusedBy}
use Rattle.rv_asm.specs.Faults.{moved}
use Rattle.rv_asm.specs.Layout.{Meanings, advance, unless_too_large}
use Rattle.rv_asm.specs.Operand.{Operand, Value, Number, Symbol, is_comma, operand, operands_in}
use Rattle.rv_asm.specs.Read.{token_of}
use Rattle.rv_asm.specs.Statement.{Instruction, and_then, fill, imply, instruction, is_data, is_implied, jal_places}
use Rattle.rv_asm.specs.Statement.{jalr_places, needed, operands_read, put, statement, takes}
use Rattle.rv_asm.specs.Token as spec
use Rattle.rv_asm.specs.declared.{fault.AsmFault.AsmFault, operation.Fields.Fields, operation.Form.Form}
use Rattle.rv_asm.specs.declared.{operation.Operation.Operation, operation.Place.Place, reach.Reach.Reach}
use Rattle.rv_asm.specs.declared.{token.Token.Token}
use Rattle.rv_asm.specs.declared.fault.AsmFault.TheVariants.{BadOperands, Memory}
use Rattle.rv_asm.specs.declared.operation.Form.TheVariants as form
use Rattle.rv_asm.specs.declared.operation.Operation.TheVariants as operation
use Rattle.rv_isa.specs.declared.operations.Width.{Width}

either : {A : Type 0} (b : Bool) (x y z : A) → x ≡ z → y ≡ z → cond b x y ≡ z
either true x y z first second = first
either false x y z first second = second

fill_past : (places : List Place) (operands : List Operand) (fields : Fields) → length places < length operands →
    fill places operands fields ≡ Err BadOperands
unfolding fill
fill_past [] [] fields more = absurd (omega arith)
fill_past [] (operand ∷ operands) fields more = refl
fill_past (place ∷ places) [] fields more = absurd (omega arith)
fill_past (place ∷ places) (operand ∷ operands) fields more =
    either (is_implied place) _ _ _
    (ap (λ r. and_then r (λ filled. Ok (imply place filled)))
    (fill_past places (operand ∷ operands) fields (omega (arith, more))))
    (either (takes place operand) _ _ _
    (ap (λ r. and_then r (put place operand)) (fill_past places operands fields (omega (arith, more)))) refl)

instruction_past : (operation : Operation) (places : List Place) (operands : List Operand) →
    length places < length operands → instruction operation places operands ≡ Err BadOperands
unfolding instruction
instruction_past operation places operands more =
    ap (λ r. and_then r (λ filled. Ok (Instruction operation filled.0 filled.1))) (fill_past places operands _ more)

shorter : (b : Bool) (x y : List Place) (n : ℕ) → length x ≤ n → length y ≤ n → length (cond b x y) ≤ n
shorter true x y n first second = first
shorter false x y n first second = second

jal_short : (count : ℕ) → length (jal_places count) ≤ 3
jal_short count = shorter (count == 1) _ _ 3 (omega arith) (omega arith)

jalr_short : (count : ℕ) → length (jalr_places count) ≤ 3
jalr_short count = shorter (count == 1) _ _ 3 (omega arith) (shorter (count == 2) _ _ 3 (omega arith) (omega arith))

statement_past : (form : Form) (a b c d : Operand) (rest : List Operand) → is_data form ≡ false →
    statement form (a ∷ b ∷ c ∷ d ∷ rest) ≡ Err BadOperands
unfolding statement
statement_past (form.Instruction operation first second third) a b c d rest other =
    instruction_past operation (first ∷ second ∷ third ∷ []) (a ∷ b ∷ c ∷ d ∷ rest) (omega arith)
statement_past form.Jal a b c d rest other = let operands = a ∷ b ∷ c ∷ d ∷ rest in
    instruction_past operation.Jal _ operands (omega (arith, jal_short (length operands)))
statement_past form.Jalr a b c d rest other = let operands = a ∷ b ∷ c ∷ d ∷ rest in
    instruction_past operation.Jalr _ operands (omega (arith, jalr_short (length operands)))
statement_past form.Global (Value (Symbol name)) b c d rest other = refl
statement_past form.Constant (Value (Symbol name)) (Value (Number number)) c d rest other = refl
statement_past (form.Values width) a b c d rest other = absurd (cc)
statement_past _ a b c d rest other = refl

counted_next : (found : Option Operand) (others : Option (List Operand)) (n : ℕ) → option_map_or length others n ≡ n →
    option_map_or length (option_and_then (λ first. option_map (λ rest. first ∷ rest) others) found) (suc n) ≡ suc n
counted_next found others n is = grind arith

-- as many operands are read as there are pieces
counted : (pieces : List (List spec.Token)) → option_map_or length (operands_in pieces) (length pieces) ≡ length pieces
counted [] = refl
counted (piece ∷ pieces) = counted_next (operand piece) (operands_in pieces) (length pieces) (counted pieces)

few_only : (form : Form) (read : Option (List Operand)) (n : ℕ) → option_map_or length read n ≡ n → 3 < n →
    is_data form ≡ false → and_then (ok_or read BadOperands) (statement form) ≡ Err BadOperands
few_only form None n is many other = refl
few_only form (Some []) n is many other = absurd (omega (arith, is, many))
few_only form (Some (a ∷ [])) n is many other = absurd (omega (arith, is, many))
few_only form (Some (a ∷ b ∷ [])) n is many other = absurd (omega (arith, is, many))
few_only form (Some (a ∷ b ∷ c ∷ [])) n is many other = absurd (omega (arith, is, many))
few_only form (Some (a ∷ b ∷ c ∷ d ∷ rest)) n is many other = statement_past form a b c d rest other

-- more than three pieces are bad operands of every form but data
pub too_many : (tokens : List Token) (form : Form) → 3 < length (slice_split is_comma (map token_of tokens)) →
    is_data form ≡ false → and_then (operands_read (map token_of tokens)) (statement form) ≡ Err BadOperands
too_many [] form many other = absurd (omega arith)
too_many (first ∷ others) form many other = let pieces = slice_split is_comma (map token_of (first ∷ others)) in
    few_only form (operands_in pieces) (length pieces) (counted pieces) many other

-- the fault where operands are not read
fault_read : (found : Option (List Operand)) (fault : AsmFault) → ok_or found BadOperands ≡ Err fault →
    fault ≡ BadOperands
fault_read None fault is = cc
fault_read (Some operands) fault is = absurd (cc)

-- the only fault of reading operands, but for memory, is that they are bad
pub read_fault : {V : Type 0} (meaning : V → List Operand) (r : Result V AsmFault) (found : Option (List Operand)) →
    Follows meaning r (ok_or found BadOperands) → IfErr r (λ fault. fault ≢ Memory → fault ≡ BadOperands)
read_fault meaning (Ok v) found follows = tt
read_fault meaning (Err fault) found follows = λ not_memory. fault_read found fault (follows not_memory)

-- where operands are not read, but for memory, they are bad operands of every form but data
pub read_refused : {V : Type 0} (meaning : V → List Operand) (r : Result V AsmFault) (found : Option (List Operand)) →
    Follows meaning r (ok_or found BadOperands) →
    IfErr r (λ fault. fault ≢ Memory → (form : Form) → is_data form ≡ false →
    and_then (ok_or found BadOperands) (statement form) ≡ Err BadOperands)
read_refused meaning r found follows = grind (arith, statement, fault_read)

module _ (meanings : Meanings) (reach : Reach) where
  -- what has no statement moves nothing
  pub moved_refused : (form : Form) (read : Result (List Operand) AsmFault) →
      and_then read (statement form) ≡ Err BadOperands → and_then read (moved meanings reach form) ≡ Err BadOperands
  moved_refused form read is = grind (arith, either)

  -- data need no symbol
  pub moved_data : (width : Width) (read : Result (List Operand) AsmFault) →
      and_then read (moved meanings reach (form.Values width))
      ≡ and_then (and_then read (statement (form.Values width)))
      (λ said. unless_too_large (advance meanings said reach))
  unfolding needed
  moved_data width (Ok operands) = refl
  moved_data width (Err fault) = refl

-- what is made of a form and its operands
pub read_then : {T : Type 0} (read : Result (List Operand) AsmFault) (form : Form)
    (next : Form → List Operand → Result T AsmFault) →
    and_then {T = Form × List Operand} (and_then read (λ operands. Ok (form, operands))) (λ both. next both.0 both.1)
    ≡ and_then read (next form)
read_then (Ok operands) form next = refl
read_then (Err fault) form next = refl

-- a fault is the one that is defined
pub refused_by : {A B : Type 0} (meaning : A → B) (r : Result A AsmFault) (defined : Result B AsmFault) →
    Follows meaning r defined → RefusedBy (result_err defined) r
refused_by meaning (Ok x) defined follows = tt
refused_by meaning (Err fault) defined follows = λ not_memory. ap result_err (follows not_memory)
