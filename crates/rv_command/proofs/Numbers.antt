-- What `get_one` reads of a number.
use Rattle.std.proofs.Common.{◌≡◌, ◌&&◌, ◌^◌, ℕ, Bool, true, false, List, Option}
use Rattle.std.proofs.Common.{Some, None, Result, Ok, Err, ◌<◌, ◌≤◌, refl, arith}
use Rattle.std.proofs.lemmas.Bool.{le-leb, lt-leb}
use Rattle.std.specs.declared.num.ParseIntError.{ParseIntError}
use Rattle.std.specs.Prelude.{nat_le, nat_lt, if◌then◌else◌, option_and_then}
use Rattle.std.specs.Str.Parse.{ExplainsUnsignedError, HasUnsignedDigitsIfOk}
use Rattle.std.specs.Str.Parse.{ParsesUnsigned, digits_value, without_leading_plus}
use Rattle.clap.specs.ValueTests.{is_numeral}
use Rattle.clap.specs.Words.{ReadsOne, one_text, rows_of}
use Rattle.clap.specs.declared.builder.value_parser.ValueParser.TheVariants as vp
use Rattle.clap.specs.declared.parser.matches.Found.{Found}
use Rattle.clap.proofs.ValueTestLemmas.{Accepts-accepts, accepts-Accepts}
use Rattle.clap.proofs.WalkLemmas.{both, one_text-rows}
use Rattle.rv_command.specs.Command.{number_from, number_in}

-- a number, where it lies from low to high
abbrev pub legal : ℕ → ℕ → Option ℕ → Option ℕ
legal low high = option_and_then (λ n. if nat_le low n && nat_le n high then Some n else None)

-- a number in the range is taken
pub legal_number : (low high : ℕ) (r : Option ℕ) (n : ℕ) → r ≡ Some n → low ≤ n → n ≤ high → legal low high r ≡ Some n
legal_number low high r n is above below = rw (is, le-leb low n above, le-leb n high below) refl

none_either : (n : ℕ) (b : Bool) → (if b && false then Some n else None) ≡ None
none_either n b = grind arith

-- one above it is not
pub legal_over : (low high : ℕ) (r : Option ℕ) (n : ℕ) → r ≡ Some n → high < n → legal low high r ≡ None
legal_over low high r n is over = rw (is, lt-leb n high over) (none_either n (nat_le low n))

-- and one below it is not
pub legal_under : (low high : ℕ) (r : Option ℕ) (n : ℕ) → r ≡ Some n → n < low → legal low high r ≡ None
legal_under low high r n is under = rw (is, lt-leb low n under) refl

number_read : (low high : ℕ) (E : Type 0) (t : List ℕ) (v : ℕ) → ParsesUnsigned {E = E} 64 10 t (Ok v)
    → legal low high (Some v) ≡ number_from low high t
number_read low high E t v parsed =
    let passes = Accepts-accepts false (vp.Unsigned v v) t (parsed.0.0, parsed.0.1, omega arith, omega arith) in
    let ds = without_leading_plus t in
    let n = digits_value 10 ds in
    let numeral : is_numeral ds ≡ true = (both _ _ passes).0 in
    let fits : nat_lt n (2 ^ 64) ≡ true = (both _ _ (both _ _ passes).1).0 in
    rw (numeral, fits, parsed.1) refl

none_read : (low high : ℕ) {E : Type 0} (t : List ℕ) (e : E) → ParsesUnsigned 64 10 t (Err e) →
    None ≡ number_from low high t
none_read low high t e refused = grind (arith, accepts-Accepts false (vp.Unsigned low high) t)

text_read : (low high : ℕ) {E : Type 0} (gives : List ℕ → Result ℕ E → Type 0)
    → ((t : List ℕ) (x : Result ℕ E) → gives t x → ParsesUnsigned 64 10 t x)
    → (t : List ℕ) (r : Option ℕ) → ReadsOne gives t r → legal low high r ≡ number_from low high t
text_read low high {E} gives parses t (Some v) read = number_read low high E t v (parses t (Ok v) read)
text_read low high {E} gives parses t None read = none_read low high t read.0 (parses t (Err read.0) read.1)

-- what `u64` makes of a text
abbrev Reads : List ℕ → Result ℕ ParseIntError → Type 0
Reads t x = ParsesUnsigned 64 10 t x × ExplainsUnsignedError 10 t x × HasUnsignedDigitsIfOk t x

-- what `get_one` answers, where it lies from low to high, is the number that the matches hold
pub number_held : (f : Found) (name : List ℕ) (low high : ℕ) (r : Option ℕ) → (one_text f name ≡ None → r ≡ None)
    → ((t : List ℕ) → one_text f name ≡ Some t → ReadsOne Reads t r)
    → legal low high r ≡ number_in name low high (rows_of f)
number_held f name low high r none value = go (one_text f name) refl
  where
    go : (o : Option (List ℕ)) → one_text f name ≡ o → legal low high r ≡ number_in name low high (rows_of f)
    go None is = rw (← one_text-rows f name, is, none is) refl
    go (Some t) is = rw (← one_text-rows f name, is) (text_read low high Reads (λ u x g. g.0) t r (value t is))
