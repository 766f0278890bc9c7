-- Texts that are no JSON by RFC 8259. The grammar cannot say so itself, so a reader stands beside it: it goes from byte
-- to byte by what it waits for, takes each text that the grammar gives, and refuses each row below. So a grammar that
-- allows more than it should is refused here.
use Rattle.std.proofs.Common.{◌≡◌, ◌∙◌, ℕ, ◌==◌, ◌||◌, ◌&&◌, nat_le, Bool, true, false, not, if◌then◌else◌, List, []}
use Rattle.std.proofs.Common.{◌∷◌, ◌++◌, map, codes, Option, Some, None, refl, sym, ap, append_assoc, append-nil, arith}
use Rattle.std.specs.Char.{is_ascii_digit, is_digit}
use Rattle.std.specs.List.{list_all}
use Rattle.std.specs.Option.{option_map_or}
use Rattle.std.proofs.lemmas.Bool.{and_parts}
use Rattle.rv_states.specs.Grammar.{AreCharacters, AreLines, AreMembers, AreValues, IsJson, IsMember, IsNumber}
use Rattle.rv_states.specs.Grammar.{IsString, array, digits, empty_array, escaped, falsehood, further_member}
use Rattle.rv_states.specs.Grammar.{further_value, in_quotes, line, named, no_characters, no_lines, no_members}
use Rattle.rv_states.specs.Grammar.{no_values, number, object, string, truth, unescaped, zero_alone}

-- ---- the reader

-- what it waits for
data Need : Type 0 where
  Byte : ℕ → Need
  Hexadecimal : Need
  -- the characters of a string, up to its quote
  Characters : Need
  Value : Need
  -- further digits of a number, if there are any
  Digits : Need
  -- the first value of an array, or its end
  FirstValue : Need
  FurtherValues : Need
  FurtherMembers : Need
  -- lines, if there are any
  Lines : Need

-- a member of an object
abbrev member_then : List Need → List Need
member_then needs = Byte 34 ∷ Characters ∷ Byte 58 ∷ Value ∷ needs

-- a character that needs no escape
abbrev is_plain : ℕ → Bool
is_plain byte = (nat_le 32 byte && nat_le byte 126) && not ((byte == 34) || (byte == 92))

-- after another byte of a string
abbrev after_other : ℕ → List Need → Option (List Need)
after_other byte needs =
    if byte == 34 then Some needs
    else (if byte == 92 then Some (map Byte (codes "u00")
    ++ (Hexadecimal ∷ Hexadecimal ∷ Characters ∷ needs)) else None)

-- after the first byte of a value that is no number, or is zero
abbrev after_start : ℕ → List Need → Option (List Need)
after_start byte needs =
    if byte == 48 then Some needs
    else (if byte == 34 then Some (Characters ∷ needs)
    else (if byte == 91 then Some (FirstValue ∷ needs)
    else (if byte == 123 then Some (member_then (FurtherMembers ∷ needs))
    else (if byte == 116 then Some (map Byte (codes "rue") ++ needs)
    else (if byte == 102 then Some (map Byte (codes "alse") ++ needs) else None)))))

-- after the first byte of a value
abbrev after_first : ℕ → List Need → Option (List Need)
after_first byte needs = if nat_le 49 byte && nat_le byte 57 then Some (Digits ∷ needs) else after_start byte needs

-- the first of two answers
abbrev either : Option (List Need) → Option (List Need) → Option (List Need)
either None other = other
either (Some needs) other = Some needs

-- what it waits for after a byte, if it may stand there
abbrev after_byte : ℕ → List Need → Option (List Need)
after_byte byte [] = None
after_byte byte (Byte other ∷ needs) = if byte == other then Some needs else None
after_byte byte (Hexadecimal ∷ needs) = if is_digit byte 16 then Some needs else None
after_byte byte (Characters ∷ needs) = if is_plain byte then Some (Characters ∷ needs) else after_other byte needs
after_byte byte (Value ∷ needs) = after_first byte needs
after_byte byte (Digits ∷ needs) = if is_ascii_digit byte then Some (Digits ∷ needs) else after_byte byte needs
after_byte byte (FirstValue ∷ needs) =
    either (after_first byte (FurtherValues ∷ needs)) (if byte == 93 then Some needs else None)
after_byte byte (FurtherValues ∷ needs) =
    if byte == 44 then Some (Value ∷ FurtherValues ∷ needs) else (if byte == 93 then Some needs else None)
after_byte byte (FurtherMembers ∷ needs) =
    if byte == 44 then Some (member_then (FurtherMembers ∷ needs)) else (if byte == 125 then Some needs else None)
after_byte byte (Lines ∷ needs) = after_first byte (Byte 10 ∷ Lines ∷ needs)

-- nothing more has to come
abbrev is_over : List Need → Bool
is_over [] = true
is_over (Digits ∷ needs) = is_over needs
is_over (Lines ∷ needs) = is_over needs
is_over (_ ∷ needs) = false

-- it takes a text to its end
abbrev reads : List Need → List ℕ → Bool
reads needs [] = is_over needs
reads needs (byte ∷ bytes) = option_map_or (λ after. reads after bytes) (after_byte byte needs) false

-- ---- it takes what the grammar gives

-- no digit comes first
abbrev begins_digit : List ℕ → Bool
begins_digit [] = false
begins_digit (byte ∷ bytes) = is_ascii_digit byte

number_ends : (needs : List Need) (rest : List ℕ) → begins_digit rest ≡ false →
    reads (Digits ∷ needs) rest ≡ reads needs rest
number_ends needs [] ends = refl
number_ends needs (byte ∷ bytes) ends = grind arith

reads_digits : (needs : List Need) (ds rest : List ℕ) → list_all is_ascii_digit ds ≡ true → begins_digit rest ≡ false →
    reads (Digits ∷ needs) (ds ++ rest) ≡ reads needs rest
reads_digits needs [] rest all ends = number_ends needs rest ends
reads_digits needs (d ∷ ds) rest all ends =
    let parts = and_parts (is_ascii_digit d) (list_all is_ascii_digit ds) all in
    ap (λ test. option_map_or (λ after. reads after (ds ++ rest))
    (if test then Some (Digits ∷ needs) else after_byte d needs) false) parts.0 ∙
    reads_digits needs ds rest parts.1 ends

reads_number : {text : List ℕ} → IsNumber text → (needs : List Need) (rest : List ℕ) → begins_digit rest ≡ false →
    reads (Value ∷ needs) (text ++ rest) ≡ reads needs rest
reads_number zero_alone needs rest ends = refl
reads_number (digits first others test all) needs rest ends = grind (arith, reads_digits)

reads_characters : {text : List ℕ} → AreCharacters text → (needs : List Need) (rest : List ℕ) →
    reads (Characters ∷ needs) (text ++ (codes "\"" ++ rest)) ≡ reads needs rest
reads_characters no_characters needs rest = refl
reads_characters (unescaped byte others test more) needs rest =
    ap (λ test. option_map_or (λ after. reads after (others ++ (codes "\"" ++ rest)))
    (if test then Some (Characters ∷ needs) else after_other byte needs) false) test ∙
    reads_characters more needs rest
reads_characters (escaped high low others test more) needs rest =
    let parts = and_parts (is_digit high 16) (is_digit low 16) test in
    ap (λ test. option_map_or (λ after. reads after (low ∷ (others ++ (codes "\"" ++ rest))))
    (if test then Some (Hexadecimal ∷ Characters ∷ needs) else None) false) parts.0 ∙
    (ap (λ test. option_map_or (λ after. reads after (others ++ (codes "\"" ++ rest)))
    (if test then Some (Characters ∷ needs) else None) false) parts.1 ∙
    reads_characters more needs rest)

reads_name : {text : List ℕ} → IsString text → (needs : List Need) (rest : List ℕ) →
    reads (Byte 34 ∷ Characters ∷ needs) (text ++ rest) ≡ reads needs rest
reads_name (in_quotes characters are) needs rest =
    ap (reads (Characters ∷ needs)) (append_assoc characters (codes "\"") rest) ∙ reads_characters are needs rest

reads_string : {text : List ℕ} → IsString text → (needs : List Need) (rest : List ℕ) →
    reads (Value ∷ needs) (text ++ rest) ≡ reads needs rest
reads_string (in_quotes characters are) needs rest =
    ap (reads (Characters ∷ needs)) (append_assoc characters (codes "\"") rest) ∙ reads_characters are needs rest

-- further values and members begin with no digit
ends_value : {text : List ℕ} → AreValues text → (rest : List ℕ) → begins_digit (text ++ (codes "]" ++ rest)) ≡ false
ends_value no_values rest = refl
ends_value (further_value value others is are) rest = refl

ends_member : {text : List ℕ} → AreMembers text → (rest : List ℕ) → begins_digit (text ++ (codes "}" ++ rest)) ≡ false
ends_member no_members rest = refl
ends_member (further_member member others is are) rest = refl

-- the first value of an array is read as a value
first_number : {text : List ℕ} → IsNumber text → (needs : List Need) (rest : List ℕ) →
    reads (FirstValue ∷ needs) (text ++ rest) ≡ reads (Value ∷ FurtherValues ∷ needs) (text ++ rest)
first_number zero_alone needs rest = refl
first_number (digits first others test all) needs rest = grind arith

first_string : {text : List ℕ} → IsString text → (needs : List Need) (rest : List ℕ) →
    reads (FirstValue ∷ needs) (text ++ rest) ≡ reads (Value ∷ FurtherValues ∷ needs) (text ++ rest)
first_string (in_quotes characters are) needs rest = refl

first_value : {text : List ℕ} → IsJson text → (needs : List Need) (rest : List ℕ) →
    reads (FirstValue ∷ needs) (text ++ rest) ≡ reads (Value ∷ FurtherValues ∷ needs) (text ++ rest)
first_value truth needs rest = refl
first_value falsehood needs rest = refl
first_value (number text is) needs rest = first_number is needs rest
first_value (string text is) needs rest = first_string is needs rest
first_value empty_array needs rest = refl
first_value (array value others is are) needs rest = refl
first_value (object member others is are) needs rest = refl

inside : (xs ys zs rest : List ℕ) → (xs ++ (ys ++ zs)) ++ rest ≡ xs ++ (ys ++ (zs ++ rest))
inside xs ys zs rest = append_assoc xs (ys ++ zs) rest ∙ ap (λ l. xs ++ l) (append_assoc ys zs rest)

mutual
  reads_json : {text : List ℕ} → IsJson text → (needs : List Need) (rest : List ℕ) → begins_digit rest ≡ false →
      reads (Value ∷ needs) (text ++ rest) ≡ reads needs rest
  reads_json truth needs rest ends = refl
  reads_json falsehood needs rest ends = refl
  reads_json (number text is) needs rest ends = reads_number is needs rest ends
  reads_json (string text is) needs rest ends = reads_string is needs rest
  reads_json empty_array needs rest ends = refl
  reads_json (array value others is are) needs rest ends =
      let after = others ++ (codes "]" ++ rest) in
      ap (reads (FirstValue ∷ needs)) (inside value others (codes "]") rest) ∙
      (first_value is needs after ∙ (reads_json is (FurtherValues ∷ needs) after (ends_value are rest)
      ∙ reads_values are needs rest))
  reads_json (object member others is are) needs rest ends =
      ap (reads (member_then (FurtherMembers ∷ needs))) (inside member others (codes "}") rest) ∙
      (reads_member is (FurtherMembers ∷ needs) (others ++ (codes "}" ++ rest)) (ends_member are rest)
      ∙ reads_members are needs rest)

  reads_values : {text : List ℕ} → AreValues text → (needs : List Need) (rest : List ℕ) →
      reads (FurtherValues ∷ needs) (text ++ (codes "]" ++ rest)) ≡ reads needs rest
  reads_values no_values needs rest = refl
  reads_values (further_value value others is are) needs rest =
      ap (reads (Value ∷ FurtherValues ∷ needs)) (append_assoc value others (codes "]" ++ rest)) ∙
      (reads_json is (FurtherValues ∷ needs) (others ++ (codes "]" ++ rest)) (ends_value are rest)
      ∙ reads_values are needs rest)

  reads_member : {text : List ℕ} → IsMember text → (needs : List Need) (rest : List ℕ) → begins_digit rest ≡ false →
      reads (member_then needs) (text ++ rest) ≡ reads needs rest
  reads_member (named name value is_name is) needs rest ends =
      ap (reads (member_then needs)) (append_assoc name (codes ":" ++ value) rest) ∙
      (reads_name is_name (Byte 58 ∷ Value ∷ needs) (codes ":" ++ (value ++ rest)) ∙ reads_json is needs rest ends)

  reads_members : {text : List ℕ} → AreMembers text → (needs : List Need) (rest : List ℕ) →
      reads (FurtherMembers ∷ needs) (text ++ (codes "}" ++ rest)) ≡ reads needs rest
  reads_members no_members needs rest = refl
  reads_members (further_member member others is are) needs rest =
      ap (reads (member_then (FurtherMembers ∷ needs))) (append_assoc member others (codes "}" ++ rest)) ∙
      (reads_member is (FurtherMembers ∷ needs) (others ++ (codes "}" ++ rest)) (ends_member are rest)
      ∙ reads_members are needs rest)

-- the value of a line is read as a value
line_string : {text : List ℕ} → IsString text → (needs : List Need) (rest : List ℕ) →
    reads (Lines ∷ needs) (text ++ rest) ≡ reads (Value ∷ Byte 10 ∷ Lines ∷ needs) (text ++ rest)
line_string (in_quotes characters are) needs rest = refl

line_number : {text : List ℕ} → IsNumber text → (needs : List Need) (rest : List ℕ) →
    reads (Lines ∷ needs) (text ++ rest) ≡ reads (Value ∷ Byte 10 ∷ Lines ∷ needs) (text ++ rest)
line_number zero_alone needs rest = refl
line_number (digits first others test all) needs rest = refl

line_value : {text : List ℕ} → IsJson text → (needs : List Need) (rest : List ℕ) →
    reads (Lines ∷ needs) (text ++ rest) ≡ reads (Value ∷ Byte 10 ∷ Lines ∷ needs) (text ++ rest)
line_value truth needs rest = refl
line_value falsehood needs rest = refl
line_value (number text is) needs rest = line_number is needs rest
line_value (string text is) needs rest = line_string is needs rest
line_value empty_array needs rest = refl
line_value (array value others is are) needs rest = refl
line_value (object member others is are) needs rest = refl

json_is_read : {text : List ℕ} → IsJson text → reads (Value ∷ []) text ≡ true
json_is_read {text} is = ap (reads (Value ∷ [])) (sym (append-nil text)) ∙ reads_json is [] [] refl

lines_are_read : {text : List ℕ} → AreLines text → reads (Lines ∷ []) text ≡ true
lines_are_read no_lines = refl
lines_are_read (line value others is are) =
    line_value is [] (codes "\n" ++ others)
    ∙ (reads_json is (Byte 10 ∷ Lines ∷ []) (codes "\n" ++ others) refl ∙ lines_are_read are)

no_json : {text : List ℕ} → reads (Value ∷ []) text ≡ false → IsJson text → ⊥
no_json refused is = let taken = json_is_read is in cc

no_line : {text : List ℕ} → reads (Lines ∷ []) text ≡ false → AreLines text → ⊥
no_line refused are = let taken = lines_are_read are in cc

-- ---- the rows

nothing : IsJson [] → ⊥
nothing = no_json refl

two_values : IsJson (codes "true false") → ⊥
two_values = no_json refl

part_of_a_word : IsJson (codes "tru") → ⊥
part_of_a_word = no_json refl

leading_zero : IsJson (codes "01") → ⊥
leading_zero = no_json refl

number_with_a_letter : IsJson (codes "1a") → ⊥
number_with_a_letter = no_json refl

string_that_does_not_end : IsJson (codes "\"a") → ⊥
string_that_does_not_end = no_json refl

quote_in_a_string : IsJson (codes "\"\"\"") → ⊥
quote_in_a_string = no_json refl

backslash_in_a_string : IsJson (codes "\"\\\"") → ⊥
backslash_in_a_string = no_json refl

line_feed_in_a_string : IsJson (codes "\"\n\"") → ⊥
line_feed_in_a_string = no_json refl

escape_of_three_digits : IsJson (codes "\"\\u003\"") → ⊥
escape_of_three_digits = no_json refl

escape_by_another_letter : IsJson (codes "\"\\u003g\"") → ⊥
escape_by_another_letter = no_json refl

comma_after_the_last_value : IsJson (codes "[1,]") → ⊥
comma_after_the_last_value = no_json refl

comma_before_the_first_value : IsJson (codes "[,1]") → ⊥
comma_before_the_first_value = no_json refl

two_values_without_a_comma : IsJson (codes "[[][]]") → ⊥
two_values_without_a_comma = no_json refl

array_that_does_not_end : IsJson (codes "[1") → ⊥
array_that_does_not_end = no_json refl

bracket_too_many : IsJson (codes "[1]]") → ⊥
bracket_too_many = no_json refl

object_that_does_not_end : IsJson (codes "{\"a\":1") → ⊥
object_that_does_not_end = no_json refl

comma_after_the_last_member : IsJson (codes "{\"a\":1,}") → ⊥
comma_after_the_last_member = no_json refl

two_members_without_a_comma : IsJson (codes "{\"a\":1\"b\":2}") → ⊥
two_members_without_a_comma = no_json refl

member_without_a_colon : IsJson (codes "{\"a\"1}") → ⊥
member_without_a_colon = no_json refl

member_without_a_value : IsJson (codes "{\"a\":}") → ⊥
member_without_a_value = no_json refl

name_without_quotes : IsJson (codes "{a:1}") → ⊥
name_without_quotes = no_json refl

name_that_is_a_number : IsJson (codes "{1:1}") → ⊥
name_that_is_a_number = no_json refl

line_without_its_end : AreLines (codes "1") → ⊥
line_without_its_end = no_line refl

empty_line : AreLines (codes "1\n\n") → ⊥
empty_line = no_line refl

two_values_in_a_line : AreLines (codes "[][]\n") → ⊥
two_values_in_a_line = no_line refl
