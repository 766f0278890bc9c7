-- What the texts are made of is JSON, or a part of it.
use Rattle.std.proofs.Common.{◌≡◌, ◌∙◌, ℕ, suc, ◌==◌, Bool, true, false, if◌then◌else◌, List, [], ◌∷◌, ◌++◌, codes}
use Rattle.std.proofs.Common.{refl, sym, ap, subst, append_assoc, append-nil, add-one, arith}
use Rattle.std.specs.List.{flat_map, list_all}
use Rattle.std.proofs.lemmas.Bool.{and_parts}
use Rattle.rv_text.specs.Plain.{plain_byte}
use Rattle.rv_states.specs.Grammar.{AreCharacters, AreLines, AreMembers, AreValues, IsJson, IsMember, IsString}
use Rattle.rv_states.specs.Grammar.{empty_array, escaped, further_member, further_value, is_unescaped, line}
use Rattle.rv_states.specs.Grammar.{named, no_characters, no_lines, no_members, no_values, unescaped}
use Rattle.rv_states.specs.Grammar as grammar
use Rattle.rv_states.specs.Json.{Json, also, array, begins, comma_at, json_byte, key}
use Rattle.rv_states.specs.Json.{numeral, opens, quoted, string, truth, values_from}
use Rattle.rv_states.proofs.Each.{each_of}
use Rattle.rv_states.proofs.Numerals.{numeral_is_number}

-- a number is JSON
pub number : (n : ℕ) → IsJson (numeral n)
number n = grammar.number (numeral n) (numeral_is_number n)

-- and so is a truth value
pub truth_of : (value : Bool) → IsJson (truth value)
unfolding truth
truth_of true = grammar.truth
truth_of false = grammar.falsehood

-- characters that need no escape
plain : (text : List ℕ) → list_all is_unescaped text ≡ true → AreCharacters text
plain [] all = no_characters
plain (byte ∷ bytes) all =
    let parts = and_parts (is_unescaped byte) (list_all is_unescaped bytes) all in
    unescaped byte bytes parts.0 (plain bytes parts.1)

a_string : (text : List ℕ) → list_all is_unescaped text ≡ true → IsString (codes "\"" ++ (text ++ codes "\""))
a_string text all = grammar.in_quotes text (plain text all)

-- they are JSON in quotes
pub in_quotes : (text : List ℕ) → list_all is_unescaped text ≡ true → IsJson (quoted text)
unfolding quoted
in_quotes text all = grammar.string _ (a_string text all)

-- a user's text
both_characters : {xs ys : List ℕ} → AreCharacters xs → AreCharacters ys → AreCharacters (xs ++ ys)
both_characters no_characters after = after
both_characters {ys = ys} (unescaped byte others test more) after =
    unescaped byte (others ++ ys) test (both_characters more after)
both_characters {ys = ys} (escaped high low others test more) after =
    escaped high low (others ++ ys) test (both_characters more after)

one_of : (test : Bool) {xs ys : List ℕ} → (test ≡ true → AreCharacters xs) → (test ≡ false → AreCharacters ys) →
    AreCharacters (if test then xs else ys)
one_of true first second = first refl
one_of false first second = second refl

shown : (byte : ℕ) → (byte == 34) ≡ false → (byte == 92) ≡ false → AreCharacters (plain_byte byte)
unfolding plain_byte
shown byte no_quote no_backslash = grind (arith, plain)

byte_of : (byte : ℕ) → AreCharacters (json_byte byte)
unfolding json_byte
byte_of byte =
    one_of (byte == 34) (λ _. escaped 50 50 [] refl no_characters) (λ no_quote.
    one_of (byte == 38) (λ _. escaped 50 54 [] refl no_characters) (λ _.
    one_of (byte == 60) (λ _. escaped 51 99 [] refl no_characters) (λ _.
    one_of (byte == 62) (λ _. escaped 51 101 [] refl no_characters) (λ _.
    one_of (byte == 92) (λ _. escaped 53 99 [] refl no_characters)
    (λ no_backslash. shown byte no_quote no_backslash)))))

bytes_of : (text : List ℕ) → AreCharacters (flat_map json_byte text)
bytes_of text = each_of AreCharacters no_characters (λ xs ys. both_characters {xs = xs} {ys = ys})
    json_byte byte_of text

-- any text as a string is JSON
pub string_of : (text : List ℕ) → IsJson (string text)
unfolding string
string_of text = grammar.string _ (grammar.in_quotes _ (bytes_of text))

-- the values of an array
abbrev pub AllJson : List Json → Type 0
AllJson [] = Unit {0}
AllJson (value ∷ values) = IsJson value × AllJson values

further_values : (place : ℕ) (values : List Json) → AllJson values → AreValues (values_from (suc place) values)
unfolding comma_at
further_values place [] all = no_values
further_values place (value ∷ values) all =
    subst (λ n. AreValues (codes "," ++ (value ++ values_from n values))) (sym (add-one (suc place)))
    (further_value value (values_from (suc (suc place)) values) all.0 (further_values (suc place) values all.1))

-- an array of JSON is JSON
pub array_of : (values : List Json) → AllJson values → IsJson (array values)
unfolding array comma_at
array_of [] all = empty_array
array_of (value ∷ values) all =
    subst IsJson (ap (λ l. codes "[" ++ l) (sym (append_assoc value (values_from 1 values) (codes "]"))))
    (grammar.array value (values_from 1 values) all.0 (further_values 0 values all.1))

-- members after members are members
pub both : {xs ys : List ℕ} → AreMembers xs → AreMembers ys → AreMembers (xs ++ ys)
both no_members after = after
both {ys = ys} (further_member first others is more) after =
    subst AreMembers (ap (λ l. codes "," ++ l) (sym (append_assoc first others ys)))
    (further_member first (others ++ ys) is (both more after))

-- a member of a name that needs no escape
member_text : List ℕ → List ℕ → List ℕ
member_text name value = (codes "\"" ++ (name ++ codes "\"")) ++ (codes ":" ++ value)

a_member : (name : List ℕ) {value : List ℕ} → list_all is_unescaped name ≡ true → IsJson value →
    IsMember (member_text name value)
unfolding member_text
a_member name {value} all is = named (codes "\"" ++ (name ++ codes "\"")) value (a_string name all) is

-- such a name with a value is one
pub member : (name : List ℕ) {value : List ℕ} → list_all is_unescaped name ≡ true → IsJson value →
    AreMembers (also name value)
unfolding member_text key also
member name {value} all is =
    let same : codes "," ++ (member_text name value ++ []) ≡ also name value = simp (append_assoc, append-nil) in
    subst AreMembers same (further_member (member_text name value) [] (a_member name all is) no_members)

-- the beginning of an object, which stays open
pub record IsOpen (text : List ℕ) : Type 0 where
  pub first : List ℕ
  pub others : List ℕ
  pub is : IsMember first
  pub are : AreMembers others
  pub text_is : text ≡ codes "{" ++ (first ++ others)

-- a brace and a member
pub beginning : (name : List ℕ) {value : List ℕ} → list_all is_unescaped name ≡ true → IsJson value →
    IsOpen (begins name value)
unfolding member_text opens begins
beginning name {value} all is =
    record {
      first = member_text name value;
      others = [];
      is = a_member name all is;
      are = no_members;
      text_is = simp (append_assoc, append-nil);
    }

-- an open object with members more is still open
pub begun : {xs ys : List ℕ} → IsOpen xs → AreMembers ys → IsOpen (xs ++ ys)
begun {ys = ys} front more = record {
  first = front.first;
  others = front.others ++ ys;
  is = front.is;
  are = both front.are more;
  text_is = ap (λ l. l ++ ys) front.text_is ∙ ap (λ l. codes "{" ++ l) (append_assoc front.first front.others ys);
}

-- the rest of an object, with what stands after it
pub record Closes (end text : List ℕ) : Type 0 where
  pub members : List ℕ
  pub are : AreMembers members
  pub text_is : text ≡ members ++ (codes "}" ++ end)

-- a brace closes it
pub closes : {end : List ℕ} → Closes end (codes "}" ++ end)
closes = record { members = []; are = no_members; text_is = refl }

-- and so do members and what closes it
pub more : {end xs ys : List ℕ} → AreMembers xs → Closes end ys → Closes end (xs ++ ys)
more {end = end} {xs = xs} first rest = record {
  members = xs ++ rest.members;
  are = both first rest.are;
  text_is = ap (λ l. xs ++ l) rest.text_is ∙ sym (append_assoc xs rest.members (codes "}" ++ end));
}

-- a last member, whose value and what stands after it are one text
pub last : {end : List ℕ} (name : List ℕ) {value : List ℕ} → list_all is_unescaped name ≡ true → IsJson value →
    Closes end (key name ++ (value ++ (codes "}" ++ end)))
unfolding also
last {end = end} name {value} all is = subst (Closes end) (append_assoc (key name) value (codes "}" ++ end))
    (more (member name all is) closes)

-- a whole object
whole : List ℕ → List ℕ → List ℕ
whole first others = codes "{" ++ (first ++ (others ++ codes "}"))

whole_is : {end xs ys : List ℕ} (front : IsOpen xs) (rest : Closes end ys) →
    whole front.first (front.others ++ rest.members) ++ end ≡ xs ++ ys
unfolding whole
whole_is {end = end} front rest = grind (arith, append_assoc)

whole_json : {end xs ys : List ℕ} (front : IsOpen xs) (rest : Closes end ys) →
    IsJson (whole front.first (front.others ++ rest.members))
unfolding whole
whole_json front rest = grammar.object front.first (front.others ++ rest.members) front.is (both front.are rest.are)

-- an open object and what closes it are JSON
pub object : {xs ys : List ℕ} → IsOpen xs → Closes [] ys → IsJson (xs ++ ys)
object front rest = subst IsJson (sym (append-nil _) ∙ whole_is front rest) (whole_json front rest)

-- and with a line feed after it a line
pub object_line : {xs ys : List ℕ} → IsOpen xs → Closes (codes "\n") ys → AreLines (xs ++ ys)
object_line front rest = subst AreLines (whole_is front rest) (line _ [] (whole_json front rest) no_lines)

-- a value and a line feed are a line
pub one_line : {value : List ℕ} → IsJson value → AreLines (value ++ codes "\n")
one_line {value} is = line value [] is no_lines

-- lines after lines are lines
pub lines_both : {xs ys : List ℕ} → AreLines xs → AreLines ys → AreLines (xs ++ ys)
lines_both no_lines after = after
lines_both {ys = ys} (line value others is more) after =
    subst AreLines (sym (append_assoc value (codes "\n" ++ others) ys))
    (line value (others ++ ys) is (lines_both more after))

-- lines where something holds, else none
pub lines_where : (shown : Bool) {text : List ℕ} → AreLines text → AreLines (if shown then text else [])
lines_where true are = are
lines_where false are = no_lines

-- none where something holds, else lines
pub lines_unless : (hidden : Bool) {text : List ℕ} → AreLines text → AreLines (if hidden then [] else text)
lines_unless true are = no_lines
lines_unless false are = are
