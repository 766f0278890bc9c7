-- The operands of a statement.
use Rattle.std.specs.Prelude.{ℕ, ℤ, pos, ◌-ℤ◌, List, [], ◌∷◌, Option, Some, None, Bool, true, false, option_and_then}
use Rattle.std.specs.{List.slice_split, Option.option_map, Option.option_or}
use Rattle.rv_asm.specs.Token.{Token}
use Rattle.rv_asm.specs.Token as token

-- a number, a symbol, or a symbol plus or minus a number: an exact whole number
pub data Expression : Type 0 where
  Number : ℤ → Expression
  Symbol : List ℕ → Expression
  Sum : List ℕ → ℤ → Expression

-- an expression, an offset (that may be missing) before a name in parentheses, or a string
pub data Operand : Type 0 where
  Value : Expression → Operand
  Indirect : Option Expression → List ℕ → Operand
  Text : List ℕ → Operand

-- a comma, which separates operands
abbrev pub is_comma : Token → Bool
is_comma token.Comma = true
is_comma _ = false

-- the expression that tokens spell
abbrev pub expression : List Token → Option Expression
expression (token.Number number ∷ []) = Some (Number (pos number))
expression (token.Minus ∷ token.Number number ∷ []) = Some (Number (pos 0 -ℤ pos number))
expression (token.Name symbol ∷ []) = Some (Symbol symbol)
expression (token.Name symbol ∷ token.Plus ∷ token.Number number ∷ []) = Some (Sum symbol (pos number))
expression (token.Name symbol ∷ token.Minus ∷ token.Number number ∷ []) = Some (Sum symbol (pos 0 -ℤ pos number))
expression _ = None

-- the name between two parentheses
abbrev pub in_parentheses : Token → Token → Token → Option (List ℕ)
in_parentheses token.LeftParenthesis (token.Name name) token.RightParenthesis = Some name
in_parentheses _ _ _ = None

-- an expression before a name in parentheses
abbrev pub based : Option Expression → Option (List ℕ) → Option Operand
based (Some offset) (Some name) = Some (Indirect (Some offset) name)
based _ _ = None

-- the operand that tokens spell: a string, an expression, a name in parentheses, or an expression before one
abbrev pub operand : List Token → Option Operand
operand (token.Text bytes ∷ []) = Some (Text bytes)
operand (first ∷ second ∷ third ∷ []) =
    option_or (option_map Value (expression (first ∷ second ∷ third ∷ [])))
    (option_map (Indirect None) (in_parentheses first second third))
operand (first ∷ left ∷ name ∷ right ∷ []) = based (expression (first ∷ [])) (in_parentheses left name right)
operand (first ∷ second ∷ left ∷ name ∷ right ∷ []) =
    based (expression (first ∷ second ∷ [])) (in_parentheses left name right)
operand (first ∷ second ∷ third ∷ left ∷ name ∷ right ∷ []) =
    based (expression (first ∷ second ∷ third ∷ [])) (in_parentheses left name right)
operand tokens = option_map Value (expression tokens)

-- the operands that pieces spell, if each spells one
abbrev pub operands_in : List (List Token) → Option (List Operand)
operands_in [] = Some []
operands_in (piece ∷ pieces) =
    option_and_then (λ first. option_map (λ others. first ∷ others) (operands_in pieces)) (operand piece)

-- the operands of a statement, separated by commas
abbrev pub operands_of : List Token → Option (List Operand)
operands_of [] = Some []
operands_of (first ∷ others) = operands_in (slice_split is_comma (first ∷ others))
