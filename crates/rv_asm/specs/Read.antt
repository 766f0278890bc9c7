-- What the tokens, the operands and the statements of the program stand for.
use denote.Ref.{Bor}
use Rattle.std.specs.Prelude.{Bool, false, List, [], map, Option, None, Some, pos, unwrap_or}
use Rattle.std.specs.{List.slice_split, Option.option_map, Option.option_map_or}
use Rattle.rv_asm.specs.Token as text
use Rattle.rv_asm.specs.Token.{unescaped}
use Rattle.rv_asm.specs.Operand as spec
use Rattle.rv_asm.specs.Operand.{is_comma, operand}
use Rattle.rv_asm.specs.Statement as stated
use Rattle.rv_asm.specs.Statement.{takes}
use Rattle.rv_asm.specs.declared.{token.Token.Token, token.Lexeme.Lexeme, operand.Expression.Expression}
use Rattle.rv_asm.specs.declared.{operand.Operand.Operand, statement.Statement.Statement}
use Rattle.rv_asm.specs.declared.token.Token.TheVariants as read
use Rattle.rv_asm.specs.declared.operand.Expression.TheVariants.{Number, Symbol, Sum}
use Rattle.rv_asm.specs.declared.operand.Operand.TheVariants.{Value, Indirect, Text}
use Rattle.rv_asm.specs.declared.operation.Place.TheVariants as place
use Rattle.rv_asm.specs.declared.statement.Statement.TheVariants.{Nothing, Choice, Constant, Instruction, Values, Bytes}

-- what a token of the program stands for
abbrev pub token_of : Token → text.Token
token_of (read.Name bytes) = text.Name bytes.now
token_of (read.Number n) = text.Number n
token_of read.Comma = text.Comma
token_of read.Colon = text.Colon
token_of read.LeftParenthesis = text.LeftParenthesis
token_of read.RightParenthesis = text.RightParenthesis
token_of read.Plus = text.Plus
token_of read.Minus = text.Minus
token_of (read.Text bytes) = text.Text (unescaped bytes.now)

-- what tokens of the program stand for
abbrev pub tokens_in : List Token → List text.Token
tokens_in tokens = map token_of tokens

-- a lexeme with its token as it stands in the text
abbrev pub lexeme_of : Lexeme → text.Lexeme
lexeme_of found = record { token = option_map token_of found.token; size = found.size }

-- what an expression of the program stands for
abbrev pub expression_of : Expression → spec.Expression
expression_of (Number number) = spec.Number number
expression_of (Symbol symbol) = spec.Symbol symbol.now
expression_of (Sum symbol number) = spec.Sum symbol.now number

-- what an operand of the program stands for
abbrev pub operand_of : Operand → spec.Operand
operand_of (Value expression) = spec.Value (expression_of expression)
operand_of (Indirect offset register) = spec.Indirect (option_map expression_of offset) register.now
operand_of (Text raw) = spec.Text (unescaped raw.now)

-- what operands of the program stand for
abbrev pub operands_in : List Operand → List spec.Operand
operands_in operands = map operand_of operands

-- the pieces that are left, if a comma stood before them
abbrev pub pieces_left : Option (Bor (List Token)) → List (List text.Token)
pieces_left None = []
pieces_left (Some tokens) = slice_split is_comma (tokens_in tokens.now)

-- a piece is an expression
abbrev pub is_value : List text.Token → Bool
is_value piece = option_map_or (takes place.Value) (operand piece) false

-- the operand that a piece is, or 0
abbrev pub datum : List text.Token → spec.Operand
datum piece = unwrap_or (operand piece) (spec.Value (spec.Number (pos 0)))

-- the operands of data that tokens spell
abbrev pub data_in : List Token → List spec.Operand
data_in tokens = map datum (slice_split is_comma (tokens_in tokens))

-- what a statement of the program stands for
abbrev pub statement_of : Statement → stated.Statement
statement_of Nothing = stated.Nothing
statement_of (Choice section) = stated.Choice section
statement_of (Constant name number) = stated.Constant name.now number
statement_of (Instruction operation fields value) = stated.Instruction operation fields (expression_of value)
statement_of (Values width tokens) = stated.Values width (data_in tokens.now)
statement_of (Bytes directive operand) = stated.Bytes directive (operand_of operand)
