-- The tokens of a line of assembly text. Numbers are the codes of ASCII characters, which a comment shows.
use Rattle.std.specs.Prelude.{ℕ, zero, suc, ◌+◌, ◌-◌, ◌==◌, ◌||◌, ◌&&◌, Bool, if◌then◌else◌, nat_lt, List, [], ◌∷◌}
use Rattle.std.specs.Prelude.{◌++◌, length, take, drop, Option, Some, None, unwrap_or, is_some, option_and_then}
use Rattle.std.specs.{List.take_while, List.list_all, Option.option_map, Option.option_to_list}
use Rattle.std.specs.{Char.is_ascii_alphabetic, Char.is_ascii_digit, Char.is_digit, Str.Parse.digits_value}

-- a token: a name by its bytes, a number, the bytes that a string stands for, or a mark
pub data Token : Type 0 where
  Name : List ℕ → Token
  Number : ℕ → Token
  Text : List ℕ → Token
  Comma : Token
  Colon : Token
  LeftParenthesis : Token
  RightParenthesis : Token
  Plus : Token
  Minus : Token

-- space, tab and carriage return separate tokens
abbrev pub is_separator : ℕ → Bool
is_separator byte = byte == 32 || byte == 9 || byte == 13

-- a name begins with a letter, _ . or $
abbrev pub begins_name : ℕ → Bool
begins_name byte = is_ascii_alphabetic byte || byte == 95 || byte == 46 || byte == 36

-- digits may follow
abbrev pub is_name_byte : ℕ → Bool
is_name_byte byte = begins_name byte || is_ascii_digit byte

-- the marks , : ( ) + -
unfoldable pub mark_of : ℕ → Option Token
mark_of byte =
    if byte == 44 then Some Comma
    else (if byte == 58 then Some Colon
    else (if byte == 40 then Some LeftParenthesis
    else (if byte == 41 then Some RightParenthesis
    else (if byte == 43 then Some Plus
    else (if byte == 45 then Some Minus
    else None)))))

-- the number that digits of a base write; none where there is no digit, another byte, or a value past 4294967295
unfoldable pub number_in : ℕ → List ℕ → Option ℕ
number_in base digits =
    if (nat_lt 0 (length digits) && list_all (λ c. is_digit c base) digits)
    && nat_lt (digits_value base digits) 4294967296
    then Some (digits_value base digits)
    else None

-- the number that a word writes: after 0x in hexadecimal, after 0b in binary, else in decimal
unfoldable pub number_of : List ℕ → Option ℕ
number_of (first ∷ second ∷ digits) =
    if first == 48 && second == 120 then number_in 16 digits
    else (if first == 48 && second == 98 then number_in 2 digits
    else number_in 10 (first ∷ second ∷ digits))
number_of digits = number_in 10 digits

-- what a backslash and one of n t \ " 0 stand for
unfoldable pub escape_of : ℕ → Option ℕ
escape_of byte =
    if byte == 110 then Some 10
    else (if byte == 116 then Some 9
    else (if byte == 92 then Some 92
    else (if byte == 34 then Some 34
    else (if byte == 48 then Some 0
    else None))))

-- the bytes from the closing quote on; none where the line ends before it, or where an escape is not known
unfoldable pub from_quote : List ℕ → Option (List ℕ)
from_quote [] = None
from_quote (byte ∷ []) = if byte == 34 then Some (byte ∷ []) else None
from_quote (byte ∷ next ∷ bytes) =
    if byte == 34 then Some (byte ∷ next ∷ bytes)
    else (if byte == 92 then (if is_some (escape_of next) then from_quote bytes else None)
    else from_quote (next ∷ bytes))

-- how many bytes stand before the closing quote
abbrev pub quoted_length : List ℕ → Option ℕ
quoted_length bytes = option_map (λ closing. length bytes - length closing) (from_quote bytes)

-- the bytes between two quotes with their escapes resolved
unfoldable pub unescaped : List ℕ → List ℕ
unescaped [] = []
unescaped (byte ∷ []) = byte ∷ []
unescaped (byte ∷ next ∷ bytes) =
    if byte == 92 then unwrap_or (escape_of next) next ∷ unescaped bytes
    else byte ∷ unescaped (next ∷ bytes)

-- what stands at the front of a line, with how many bytes it has: a token, or a separator or a comment, which give none
pub record Lexeme : Type 0 where
  pub token : Option Token
  pub size : ℕ

-- a word, that is a name or a number, takes all the bytes of names that stand together
unfoldable pub word_lexeme : ℕ → List ℕ → Option Lexeme
word_lexeme first line =
    let word = take_while is_name_byte line in
    if begins_name first then Some (record { token = Some (Name word); size = length word })
    else option_map (λ n. record { token = Some (Number n); size = length word }) (number_of word)

-- a quote begins a string, and another ends it
unfoldable pub string_lexeme : List ℕ → Option Lexeme
string_lexeme others =
    option_map (λ n. record { token = Some (Text (unescaped (take n others))); size = n + 2 }) (quoted_length others)

-- what a line begins with, whose first byte is given; none where that is no token
unfoldable pub first_lexeme : ℕ → List ℕ → Option Lexeme
first_lexeme first line =
    if is_separator first then Some (record { token = None; size = 1 })
    -- # begins a comment
    else (if first == 35 then Some (record { token = None; size = length line })
    else (if is_name_byte first then word_lexeme first line
    else (if first == 34 then string_lexeme (drop 1 line)
    else option_map (λ mark. record { token = Some mark; size = 1 }) (mark_of first))))

-- the tokens of the bytes after so many, which belong to the token before
unfoldable pub tokens_after : List ℕ → ℕ → Option (List Token)
tokens_after [] taken = Some []
tokens_after (byte ∷ bytes) (suc taken) = tokens_after bytes taken
tokens_after (byte ∷ bytes) zero =
    option_and_then
    (λ found. option_map (λ tokens. option_to_list found.token ++ tokens) (tokens_after bytes (found.size - 1)))
    (first_lexeme byte (byte ∷ bytes))

-- the tokens of a line; none where something on it is no token
unfoldable pub tokens_of : List ℕ → Option (List Token)
tokens_of line = tokens_after line 0
