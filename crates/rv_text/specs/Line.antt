-- The lines of a report.
use Rattle.std.specs.Prelude.{ℕ, ◌*◌, ◌/◌, ◌%◌, ◌^◌, ◌==◌, if◌then◌else◌, List, [], ◌∷◌, ◌++◌, codes, decimal}
use Rattle.std.specs.Char.{digit_char}

-- a word as eight hexadecimal digits, the highest first, letters in lower case
unfoldable pub word_text : ℕ → List ℕ
word_text word =
    digit_char (word / 2 ^ 28) ∷
    digit_char (word / 2 ^ 24 % 16) ∷
    digit_char (word / 2 ^ 20 % 16) ∷
    digit_char (word / 2 ^ 16 % 16) ∷
    digit_char (word / 2 ^ 12 % 16) ∷
    digit_char (word / 2 ^ 8 % 16) ∷
    digit_char (word / 2 ^ 4 % 16) ∷
    digit_char (word % 16) ∷
    []

-- a name, a space, what it has, and a line feed
unfoldable pub line_of : List ℕ → List ℕ → List ℕ
line_of name text = name ++ (codes " " ++ (text ++ codes "\n"))

-- a count, in decimal
unfoldable pub count_line : List ℕ → ℕ → List ℕ
count_line name count = line_of name (decimal count)

-- a word
unfoldable pub word_line : List ℕ → ℕ → List ℕ
word_line name word = line_of name (word_text word)

-- a number below 1000 in three digits
unfoldable pub three_digits : ℕ → List ℕ
three_digits number = digit_char (number / 100) ∷ digit_char (number / 10 % 10) ∷ digit_char (number % 10) ∷ []

-- how many of one there are to each of another, rounded down to three digits after the point, or a hyphen to none
unfoldable pub ratio_text : ℕ → ℕ → List ℕ
ratio_text count each =
    if each == 0 then codes "-" else decimal (count / each) ++ (codes "." ++ three_digits (count * 1000 / each % 1000))
