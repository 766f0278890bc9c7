-- Whether digits write a number, and what std reads of them.
use Rattle.std.proofs.Common.{◌≡◌, ◌≢◌, ℕ, zero, suc, ◌<◌, ◌≤◌, List, [], ◌∷◌, Some, None}
use Rattle.std.proofs.Common.{Result, Err, refl, ap, arith}
use Rattle.std.specs.Bool.{Decides}
use Rattle.std.specs.Char.{is_digit, digit_value}
use Rattle.std.specs.List.{list_all, slice_get, slice_index}
use Rattle.std.specs.Result.{OkIff, result_ok}
use Rattle.std.specs.Str.{IsAscii}
use Rattle.std.specs.Str.Parse.{AllDigits, IsNumeral, digits_value, without_leading_plus}
use Rattle.std.proofs.lemmas.Bool.Decides.{Decides-and, Decides-ltb, nat_tests}
use Rattle.rv_asm.specs.Token.{number_in}

digits_decide : (base : ℕ) (digits : List ℕ) → Decides (list_all (λ c. is_digit c base) digits) (AllDigits base digits)
digits_decide base [] = (λ _. tt, λ _. refl)
digits_decide base (digit ∷ digits) = Decides-and _ _ (Decides-ltb (digit_value digit) base) (digits_decide base digits)

digit_is_ascii : (base digit : ℕ) → base ≤ 36 → digit_value digit < base → digit < 128
digit_is_ascii base digit letters in_base = grind (arith, nat_tests)

-- the digits of a base of 36 at most are ASCII
pub digits_are_ascii : (base : ℕ) (digits : List ℕ) → base ≤ 36 → AllDigits base digits → IsAscii digits
digits_are_ascii base [] letters all i = omega arith
digits_are_ascii base (digit ∷ digits) letters all zero = digit_is_ascii base digit letters all.0
digits_are_ascii base (digit ∷ digits) letters all (suc i) = digits_are_ascii base digits letters all.1 i

-- a byte that is found at place 0 is the one at that index
pub first_is : (digits : List ℕ) (first : ℕ) → Some first ≡ slice_get digits 0 → slice_index digits 0 ≡ first
first_is [] first found = absurd (cc)
first_is (digit ∷ digits) first found = cc

-- a text that does not begin with a plus sign is the same without a leading one
pub without_plus : (digits : List ℕ) → slice_index digits 0 ≢ 43 → without_leading_plus digits ≡ digits
without_plus digits no_plus = grind arith

-- a text that begins with a plus sign is not made of digits of a base of 36 at most
pub plus_is_no_digit : (base : ℕ) (digits : List ℕ) → base ≤ 36 → slice_index digits 0 ≡ 43 → AllDigits base digits → ⊥
plus_is_no_digit base [] letters plus all = absurd (cc)
plus_is_no_digit base (digit ∷ digits) letters plus all = let value : digit_value digit ≡ 36 = ap digit_value plus in
    omega (arith, all.0)

-- what is a number is a numeral that is small
pub number_in-read : {E : Type 0} (base : ℕ) (digits : List ℕ) (r : Result ℕ E) →
    OkIff r (IsNumeral base digits × (digits_value base digits < 4294967296)) (digits_value base digits) →
    result_ok r ≡ number_in base digits
unfolding number_in
number_in-read base digits r read = grind (arith, digits_decide)

-- bytes that are not all digits write no number
pub number_in-none : (base : ℕ) (digits : List ℕ) → (AllDigits base digits → ⊥) → None ≡ number_in base digits
number_in-none base digits others = number_in-read {E = ℕ} base digits (Err 0) (λ h. others h.0.1)

-- where there is no byte, no number is written
pub number_in-empty : (base : ℕ) (digits : List ℕ) → None ≡ slice_get digits 0 → None ≡ number_in base digits
unfolding number_in
number_in-empty base [] none = refl
number_in-empty base (digit ∷ digits) none = absurd (cc)
