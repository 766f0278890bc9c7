-- No text of JSON has a byte that HTML gives a meaning.
use Rattle.std.proofs.Common.{◌≡◌, ◌∙◌, ℕ, zero, suc, ◌+◌, ◌<◌, ◌==◌, ◌||◌, Bool, true, false, if◌then◌else◌, List, []}
use Rattle.std.proofs.Common.{◌∷◌, ◌++◌, refl, ap, arith}
use Rattle.std.specs.Prelude.{codes, map}
use Rattle.std.specs.Int.Digits.{AllBelowBase, digits_of}
use Rattle.std.specs.List.{list_any}
use Rattle.std.proofs.lemmas.Bool.{or_from}
use Rattle.std.proofs.lemmas.Int.Digits.{all_below_base_digits_of}
use Rattle.std.proofs.lemmas.List.Folds.{list_any-append}
use Rattle.rv_text.specs.Plain.{plain_byte}
use Rattle.rv_states.specs.Json.{Json, also, array, begins, comma_at, json_byte, key}
use Rattle.rv_states.specs.Json.{numeral, opens, quoted, string, truth, values_from}
use Rattle.rv_states.specs.Markup.{HasNoMarkup, is_markup}
use Rattle.rv_states.proofs.Each.{each_of}

-- a text of whose bytes none has one
pub plain : {text : List ℕ} → list_any is_markup text ≡ false → HasNoMarkup text
plain none = record { none = none }

-- one text after another
pub both : {xs ys : List ℕ} → HasNoMarkup xs → HasNoMarkup ys → HasNoMarkup (xs ++ ys)
both {xs = xs} {ys = ys} first second =
    plain (list_any-append is_markup xs ys ∙ ap (λ b. b || list_any is_markup ys) first.none ∙ second.none)

-- one of two texts
pub either : (first : Bool) {xs ys : List ℕ} → HasNoMarkup xs → HasNoMarkup ys → HasNoMarkup (if first then xs else ys)
either true one other = one
either false one other = other

-- a text where something holds, else none
pub chosen : (shown : Bool) {text : List ℕ} → HasNoMarkup text → HasNoMarkup (if shown then text else [])
chosen true none = none
chosen false none = plain refl

-- none where something holds, else a text
pub otherwise : (hidden : Bool) {text : List ℕ} → HasNoMarkup text → HasNoMarkup (if hidden then [] else text)
otherwise true none = plain refl
otherwise false none = none

digit : (d : ℕ) → d < 10 → is_markup (48 + d) ≡ false
digit d below = grind arith

digits : (ds : List ℕ) → AllBelowBase 10 ds → list_any is_markup (map (λ digit. 48 + digit) ds) ≡ false
digits [] below = refl
digits (d ∷ ds) below = or_from _ _ (digit d below.0) (digits ds below.1)

-- a number
pub number : (n : ℕ) → HasNoMarkup (numeral n)
unfolding numeral
number zero = plain refl
number (suc n) = plain (digits (digits_of 10 (suc n)) (all_below_base_digits_of 10 (suc n) (omega arith)))

-- a truth value
pub truth_of : (value : Bool) → HasNoMarkup (truth value)
unfolding truth
truth_of true = plain refl
truth_of false = plain refl

-- a text in quotes
pub in_quotes : {text : List ℕ} → HasNoMarkup text → HasNoMarkup (quoted text)
unfolding quoted
in_quotes none = both {xs = codes "\""} (plain refl) (both none (plain refl))

-- a further name
pub named : (name : List ℕ) → list_any is_markup name ≡ false → HasNoMarkup (key name)
unfolding key
named name none = both {xs = codes ",\""} (plain refl) (both {xs = name} {ys = codes "\":"} (plain none) (plain refl))

-- a member of such a name
pub member : (name : List ℕ) {value : List ℕ} → list_any is_markup name ≡ false → HasNoMarkup value →
    HasNoMarkup (also name value)
unfolding also
member name none value = both (named name none) value

-- the beginning of an object
pub beginning : (name : List ℕ) {value : List ℕ} → list_any is_markup name ≡ false → HasNoMarkup value →
    HasNoMarkup (begins name value)
unfolding opens begins
beginning name none value =
    both (both {xs = codes "{\""} (plain refl) (both {xs = name} {ys = codes "\":"} (plain none) (plain refl))) value

comma : (place : ℕ) → HasNoMarkup (comma_at place)
unfolding comma_at
comma zero = plain refl
comma (suc place) = plain refl

-- the values of an array
abbrev pub AllPlain : List Json → Type 0
AllPlain [] = Unit {0}
AllPlain (value ∷ values) = HasNoMarkup value × AllPlain values

values_of : (place : ℕ) (values : List Json) → AllPlain values → HasNoMarkup (values_from place values)
values_of place [] none = plain refl
values_of place (value ∷ values) none = both (both (comma place) none.0) (values_of (place + 1) values none.1)

-- an array
pub array_of : (values : List Json) → AllPlain values → HasNoMarkup (array values)
unfolding array
array_of values none = both {xs = codes "["} (plain refl) (both (values_of 0 values none) (plain refl))

shown : (byte : ℕ) → (byte == 38) ≡ false → (byte == 60) ≡ false → (byte == 62) ≡ false → HasNoMarkup (plain_byte byte)
unfolding plain_byte
shown byte no_ampersand no_less no_greater = grind arith

byte_of : (byte : ℕ) → HasNoMarkup (json_byte byte)
unfolding json_byte
byte_of byte = grind (arith, shown)

-- any text as a string
pub string_of : (text : List ℕ) → HasNoMarkup (string text)
unfolding string
string_of text =
    let bytes = each_of HasNoMarkup (plain refl) (λ xs ys. both {xs = xs} {ys = ys}) json_byte byte_of text in
    both {xs = codes "\""} (plain refl) (both bytes (plain refl))
