-- The digits of a number.
use Rattle.std.proofs.Common.{◌≡◌, ℕ, zero, suc, ◌+◌, ◌^◌, ◌<◌, true, List, [], ◌∷◌, decimal, get_or, map, refl, arith}
use Rattle.std.specs.Char.{is_ascii_digit}
use Rattle.std.specs.Int.Digits.{AllBelowBase, digits_of}
use Rattle.std.specs.List.{list_all}
use Rattle.std.proofs.lemmas.Bool.{and_from, le-leb}
use Rattle.std.proofs.lemmas.Fmt.{decimal-digits_of, decimal_digit}
use Rattle.std.proofs.lemmas.Int.Digits.{all_below_base_digits_of, first_digits_of}
use Rattle.rv_states.specs.Grammar.{IsNumber, digits, zero_alone}
use Rattle.rv_states.specs.Json.{numeral}

-- what std writes of a number of 64 bits
pub decimal_is : (n : ℕ) → n < 2 ^ 64 → decimal n ≡ numeral n
unfolding numeral
decimal_is zero small = decimal_digit 0 (omega arith)
decimal_is (suc n) small = decimal-digits_of (suc n) (omega arith) small

further_digits : (ds : List ℕ) → AllBelowBase 10 ds → list_all is_ascii_digit (map (λ digit. 48 + digit) ds) ≡ true
further_digits [] below = refl
further_digits (d ∷ ds) below = grind (arith, further_digits ds below.1)

digits_are : (ds : List ℕ) → 0 < get_or ds 0 0 → AllBelowBase 10 ds → IsNumber (map (λ digit. 48 + digit) ds)
digits_are [] some below = absurd (omega (arith, some))
digits_are (d ∷ ds) some below =
    digits (48 + d) (map (λ digit. 48 + digit) ds)
    (and_from _ _ (le-leb 49 (48 + d) (omega (arith, some))) (le-leb (48 + d) 57 (omega (arith, below.0))))
    (further_digits ds below.1)

-- it is a number of JSON
pub numeral_is_number : (n : ℕ) → IsNumber (numeral n)
unfolding numeral
numeral_is_number zero = zero_alone
numeral_is_number (suc n) =
    digits_are (digits_of 10 (suc n)) (first_digits_of 10 (suc n) (omega arith) (omega arith))
    (all_below_base_digits_of 10 (suc n) (omega arith))
