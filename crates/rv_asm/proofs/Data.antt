-- The operands of data, piece by piece.
use Rattle.std.proofs.Common.{◌≡◌, ◌∙◌, ◌<◌, List, [], ◌∷◌, map, length, Bool, true, false, ◌&&◌, Option, None, Some}
use Rattle.std.proofs.Common.{Ok, Err, unwrap_or, pos, option_and_then, refl, ap, arith}
use Rattle.std.specs.List.{list_all, slice_split}
use Rattle.std.specs.Option.{option_map, option_map_or}
use Rattle.rv_isa.specs.declared.operations.Width.{Width}
use Rattle.rv_asm.specs.Operand.{Operand, Value, Number, is_comma, operand, operands_in}
use Rattle.rv_asm.specs.Read.{data_in, datum, is_value, token_of}
use Rattle.rv_asm.specs.Statement.{Values, and_then, operands_read, statement, takes}
use Rattle.rv_asm.specs.Token as spec
use Rattle.rv_asm.specs.declared.{token.Token.Token}
use Rattle.rv_asm.specs.declared.fault.AsmFault.TheVariants.{BadOperands}
use Rattle.rv_asm.specs.declared.operation.Form.TheVariants as form
use Rattle.rv_asm.specs.declared.operation.Place.TheVariants as place

and_false : (b : Bool) → (b && false) ≡ false
and_false true = refl
and_false false = refl

taken_next : (found : Option Operand) (others : Option (List Operand)) →
    option_map_or (list_all (takes place.Value))
    (option_and_then (λ first. option_map (λ rest. first ∷ rest) others) found) false
    ≡ (option_map_or (takes place.Value) found false && option_map_or (list_all (takes place.Value)) others false)
taken_next found others = grind (arith, and_false, takes)

-- each piece is an expression where all are read and each is one
taken : (pieces : List (List spec.Token)) → option_map_or (list_all (takes place.Value)) (operands_in pieces) false
    ≡ list_all is_value pieces
taken [] = refl
taken (piece ∷ pieces) = taken_next (operand piece) (operands_in pieces)
    ∙ ap (λ others. is_value piece && others) (taken pieces)

read_one : (found : Option Operand) → option_map_or (takes place.Value) found false ≡ true →
    found ≡ Some (unwrap_or found (Value (Number (pos 0))))
read_one None is = absurd (cc)
read_one (Some o) is = refl

all_read : (pieces : List (List spec.Token)) → list_all is_value pieces ≡ true →
    operands_in pieces ≡ Some (map datum pieces)
all_read [] all = refl
all_read (piece ∷ pieces) all =
    let here : is_value piece ≡ true = grind arith in
    let others : list_all is_value pieces ≡ true = grind arith in
    ap (λ found. option_and_then (λ first. option_map (λ rest. first ∷ rest) (operands_in pieces)) found)
    (read_one (operand piece) here)
    ∙ ap (option_map (λ rest. datum piece ∷ rest)) (all_read pieces others)

accepted : (width : Width) (operands : List Operand) → 0 < length operands →
    list_all (takes place.Value) operands ≡ true → statement (form.Values width) operands ≡ Ok (Values width operands)
unfolding statement
accepted width [] some_operands is = absurd (omega arith)
accepted width (first ∷ others) some_operands is = rw is refl

-- a piece that is no expression
pub data_refused : (width : Width) (tokens : List Token) →
    list_all is_value (slice_split is_comma (map token_of tokens)) ≡ false →
    and_then (operands_read (map token_of tokens)) (statement (form.Values width)) ≡ Err BadOperands
unfolding statement
data_refused width [] is = refl
data_refused width (first ∷ others) is = grind (arith, taken)

-- all are expressions
pub data_taken : (width : Width) (tokens : List Token) →
    list_all is_value (slice_split is_comma (map token_of tokens)) ≡ true →
    and_then (operands_read (map token_of tokens)) (statement (form.Values width)) ≡ Ok (Values width (data_in tokens))
data_taken width [] all = absurd (cc)
data_taken width (first ∷ others) all = grind (arith, all_read, accepted, taken)
