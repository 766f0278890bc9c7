-- What to write in place of bytes that are no token.
use Rattle.std.specs.Prelude.{ℕ, ◌==◌, ◌&&◌, ◌||◌, Bool, false, not, List, [], ◌∷◌, codes, if◌then◌else◌, is_some}
use Rattle.std.specs.Prelude.{length, nat_lt}
use Rattle.std.specs.{Char.is_ascii_digit, List.list_any, List.slice_get, Option.option_map_or}
use Rattle.rv_refusal.specs.Caret.{token_place}
use Rattle.rv_refusal.specs.ForeignName.{stack_hint}
use Rattle.rv_refusal.specs.KeyNames.{is_described}
use Rattle.rv_refusal.specs.NameOn.{begins_with, goes_on_with, key_on, name_after, value_on}
use Rattle.rv_refusal.specs.Names.{registers}
use Rattle.rv_refusal.specs.NameSet.{is_one_of}

-- a byte is one of these characters
abbrev pub is_mark : List ℕ → ℕ → Bool
is_mark marks byte = list_any (λ mark. mark == byte) marks

-- a per cent sign stands there before a name with something in parentheses
abbrev pub is_relocation : List ℕ → ℕ → Bool
is_relocation line byte = byte == 37 && is_mark line 40

-- a bracket stands there, and no directive or number with a dot on its line
abbrev pub is_bracket : List ℕ → ℕ → Bool
is_bracket line byte = is_mark (codes "[{") byte && not (is_mark line 46)

-- a line gives a register a value
abbrev pub sets_register : List ℕ → Bool
sets_register line = option_map_or (λ on. is_one_of registers on.name) (key_on line) false

-- what to write in place of an equals sign on a line that begins with no name before it: one stands before an operand
unfoldable pub value_hint : List ℕ → List ℕ
value_hint line =
    if is_mark line 44 && not (begins_with 61 (value_on line))
    then codes "hint: la loads the address of a symbol, and li a number\n"
    else []

-- what to write in place of an equals sign on a line: it gives a register a value, or a name, or stands elsewhere
unfoldable pub equals_hint : List ℕ → List ℕ
equals_hint line =
    if sets_register line
    then codes "hint: an instruction stands first, and what it writes next, as in add a0, a1, a2\n"
    else (if is_some (key_on line) || goes_on_with 46 line
    then codes "hint: .equ gives a name its number, as in .equ size, 64\n"
    else value_hint line)

-- a line begins with an instruction of other machines that moves registers in braces to the stack, or from it
abbrev pub moves_to_stack : List ℕ → Bool
moves_to_stack line =
    option_map_or (λ on. is_one_of (codes "push" ∷ codes "pop" ∷ codes "PUSH" ∷ codes "POP" ∷ []) on.name)
    (name_after 0 123 line) false

-- what to write in place of a bracket on a line
unfoldable pub bracket_hint : List ℕ → List ℕ
bracket_hint line =
    if moves_to_stack line then stack_hint
    else codes "hint: an address is written as offset(register), as in 8(sp)\n"

-- what to write in place of an operator, a bracket, a quote or a sign of other assemblers on a line
unfoldable pub mark_hint : List ℕ → ℕ → List ℕ
mark_hint line byte =
    if is_mark (codes ";/") byte then codes "hint: a comment begins with #, and a line has one statement\n"
    else (if byte == 39
    then codes "hint: a character is written as its number, as 65 for A, and a string in double quotes\n"
    else (if is_relocation line byte then codes "hint: la loads the address of a symbol, without %hi and %lo\n"
    else (if byte == 34 then codes "hint: a string ends on its line, and after \\ stands one of n t \\ \" 0\n"
    else (if is_mark (codes "*<>&|^~!") byte then codes
    "hint: a symbol and a number may be added or subtracted, as in table+4\n"
    else (if byte == 61 then equals_hint line
    else (if is_bracket line byte then bracket_hint line
    else (if byte == 64 then codes "hint: a line of .type may be left out, and a comment begins with #\n"
    else [])))))))

-- the byte order mark of UTF-8 begins a line
unfoldable pub has_order_mark : List ℕ → Bool
has_order_mark (first ∷ second ∷ third ∷ others) = first == 0xef && (second == 0xbb && third == 0xbf)
has_order_mark others = false

-- the byte order mark of UTF-16 begins a line, in either order
unfoldable pub has_wide_mark : List ℕ → Bool
has_wide_mark (first ∷ second ∷ others) =
    (first == 0xff && second == 0xfe) || (first == 0xfe && second == 0xff)
has_wide_mark others = false

-- what to write in place of a byte that is not ASCII
unfoldable pub foreign_hint : List ℕ → List ℕ
foreign_hint line =
    if has_order_mark line
    then codes "hint: these bytes are a byte order mark: save the text as UTF-8 without one\n"
    else (if has_wide_mark line
    then codes "hint: this text is UTF-16: save it as ASCII, or as UTF-8 without a byte order mark\n"
    else codes "hint: this byte is not ASCII, as a blank, a quote or a minus of a word processor is none\n")

-- what to write in place of what begins with a byte of a line and is no token
unfoldable pub byte_hint : List ℕ → ℕ → List ℕ
byte_hint line byte =
    if is_ascii_digit byte
    then codes "hint: a number is decimal, or has 0x or 0b before it, and is at most 4294967295; no name begins with a digit\n"
    else (if nat_lt 127 byte then foreign_hint line else mark_hint line byte)

-- a line gives a key of a description a value
abbrev pub describes : List ℕ → Bool
describes line = option_map_or (λ on. is_described on.name) (key_on line) false

-- a line reads as a separator or as a heading of a table, or as one of a description where the assembly begins on the
-- job's first line
abbrev pub reads_as_part : ℕ → List ℕ → Bool
reads_as_part before line =
    goes_on_with 37 line || (goes_on_with 91 line || (before == 0 && describes line))

-- what to write in place of the first bytes of a line that are no token; nothing where another part of the job may be meant
unfoldable pub bytes_hint : ℕ → List ℕ → List ℕ
bytes_hint before line =
    if reads_as_part before line then []
    else option_map_or (byte_hint line) (slice_get line (token_place line (length line))) []
