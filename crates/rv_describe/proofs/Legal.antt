-- The legal texts: a table has no first error exactly where it is faultless, and then gives values that their keys take.
use Rattle.std.proofs.Common.{◌≡◌, ℕ, zero, suc, ◌+◌, ℤ, Bool, true, false, List, [], ◌∷◌, Option, Some, None, IsNone, IsOk, Ok, Err, Result, unwrap_or, inl, inr, refl, sym, ◌∙◌, ◌↔◌, arith}
use Rattle.std.specs.Option.{option_and_then, option_flatten, option_map, option_or, option_map_or}
use Rattle.std.specs.List.{position_from, slice_get}
use Rattle.std.proofs.lemmas.Bool.{cases_Bool}
use Rattle.std.proofs.lemmas.Option.{same_Some}
use Rattle.toml.specs.Data.{Data, Members, as_integer}
use Rattle.rv_isa.specs.declared.{bounds.Bounds.Bounds, keys.Key.Key, keys.NumberKey.NumberKey, values.Values.Values}
use Rattle.rv_isa.specs.declared.keys.Key.TheVariants.{Number, Recovery, Pipelined, PredictorKind}
use Rattle.rv_isa.specs.declared.keys.NumberKey.TheVariants.{RamSize}
use Rattle.rv_isa.specs.Bounds.{takes}
use Rattle.rv_isa.specs.Key.{ObeysEachKey, key_place, number_of, order, row_of}
use Rattle.rv_isa.specs.Standard.{standard_values}
use Rattle.rv_isa.proofs.LegalKeys.{in_order, number_of-values_with, standard_taken}
use Rattle.rv_describe.specs.declared.{description_error.DescriptionError.DescriptionError, faults.ValueFault.ValueFault}
use Rattle.rv_describe.specs.declared.description_error.DescriptionError.TheVariants as error
use Rattle.rv_describe.specs.declared.faults.ValueFault.TheVariants.{WrongKind, OutOfRange, NotPowerOfTwo}
use Rattle.rv_describe.specs.Description.{IsFaultless, IsLegalText, described, first_error}
use Rattle.rv_describe.specs.Document.{document, held}
use Rattle.rv_describe.specs.Fault.{first_place, is_fault, key_fault, number_fault, value_fault}
use Rattle.rv_describe.specs.Setting.{is_pipelined, number, values_of, word_of}
use Rattle.rv_describe.specs.Unknown.{has_unknown}

-- where there is no first element that passes, none does
none_at : {X : Type 0} (test : X → Bool) (start : ℕ) (xs : List X) (i : ℕ) (x : X) →
    position_from test start xs ≡ None → slice_get xs i ≡ Some x → test x ≡ false
none_at test start [] i x none here = absurd (cc)
none_at test start (y ∷ ys) zero x none here = grind arith
none_at test start (y ∷ ys) (suc i) x none here = grind (arith, none_at test (start + 1) ys i x)

-- where no element passes, there is no first one
nowhere : {X : Type 0} (test : X → Bool) (start : ℕ) (xs : List X) → ((x : X) → test x ≡ false) →
    position_from test start xs ≡ None
nowhere test start [] none = refl
nowhere test start (x ∷ xs) none = rw (none x) (nowhere test (start + 1) xs none)

-- none of the three faults is no fault
no_fault : (found : Option ValueFault) → is_fault found WrongKind ≡ false → is_fault found OutOfRange ≡ false →
    is_fault found NotPowerOfTwo ≡ false → found ≡ None
no_fault found kind range power = grind arith

-- where there is no error there is no place of one
no_places : (kind range power : Option ℕ) →
    IsNone (option_or (option_map error.WrongKind kind)
    (option_or (option_map error.OutOfRange range) (option_map error.NotPowerOfTwo power)))
    → (kind ≡ None) × (range ≡ None) × (power ≡ None)
no_places kind range power none = (grind arith, grind arith, grind arith)

no_key : (t : Members) (fault : ValueFault) (key : Key) → first_place fault t ≡ None →
    is_fault (key_fault t key) fault ≡ false
unfolding first_place
no_key t fault key none =
    let (index, here) = in_order key in
    none_at (λ key. is_fault (key_fault t key) fault) 1 order index key none here

-- a table without a first error is faultless
pub faultless : (t : Members) → IsNone (first_error t) → IsFaultless t
faultless t none =
    elim (cases_Bool (has_unknown t)) [
      | inl unknown ↦ let impossible : true ≡ false = rw unknown at none in absurd (cc)
      | inr known ↦ let places = no_places (first_place WrongKind t) (first_place OutOfRange t)
          (first_place NotPowerOfTwo t) (rw known at none) in record {
            known = known;
            keys =
                λ key. no_fault (key_fault t key) (no_key t WrongKind key places.0) (no_key t OutOfRange key places.1)
                (no_key t NotPowerOfTwo key places.2);
          }
    ]

no_place : (t : Members) (fault : ValueFault) → ((key : Key) → key_fault t key ≡ None) → first_place fault t ≡ None
unfolding first_place
no_place t fault none =
    nowhere (λ key. is_fault (key_fault t key) fault) 1 order (λ key. rw (none key))

first_error-faultless : (t : Members) → IsFaultless t → first_error t ≡ None
first_error-faultless t legal =
    grind (arith, no_place, legal.keys)

-- what is described without an error has none
no_error : (found : Option DescriptionError) (values : Values) →
    IsOk {T = Values} {E = DescriptionError} (option_map_or Err found (Ok values)) → IsNone found
no_error found values ok = grind arith

-- a machine is described exactly where the bytes are a legal text
pub described-legal : (bytes : List ℕ) (t : Members) (answer : Result Values DescriptionError) →
    Some t ≡ document bytes → answer ≡ described t → IsOk answer ↔ IsLegalText bytes
described-legal bytes t answer is_text is = (
  λ ok. (t, sym is_text, faultless t (no_error (first_error t) (values_of t) (rw is at ok))),
  λ legal.
      let same : t ≡ legal.0 = same_Some _ _ (is_text ∙ legal.1) in
      rw (is, same, first_error-faultless legal.0 legal.2),
)

-- the number that is held, or the default, is taken where it has no fault
word_taken : (bounds : Bounds) (size default : ℕ) (word : Option ℕ) → number_fault bounds size (Some word) ≡ None →
    takes bounds size default ≡ true → takes bounds size (unwrap_or word default) ≡ true
word_taken bounds size default word none base = grind arith

integer_taken : (bounds : Bounds) (size default : ℕ) (integer : Option ℤ) →
    number_fault bounds size (option_map word_of integer) ≡ None → takes bounds size default ≡ true
    → takes bounds size (unwrap_or (option_and_then word_of integer) default) ≡ true
integer_taken bounds size default integer none base = grind (arith, word_taken)

held_taken : (key : NumberKey) (size default : ℕ) (found : Option (Option Data)) →
    option_map_or (option_and_then (value_fault (Number key) size)) found (Some WrongKind) ≡ None →
    takes (row_of key).bounds size default ≡ true
    → takes (row_of key).bounds size
    (unwrap_or (option_and_then word_of (option_and_then as_integer (option_flatten found))) default) ≡ true
held_taken key size default found none base = grind (arith, integer_taken)

taken : (t : Members) → IsFaultless t → (key : NumberKey) →
    takes (row_of key).bounds (number t RamSize) (number t key) ≡ true
unfolding key_fault number
taken t legal key =
    held_taken key _ (number_of standard_values key) (held t (key_place (Number key))) (legal.keys (Number key))
    (standard_taken _ key)

-- each value of a faultless table is one that its key takes
pub values_of-legal : (t : Members) → IsFaultless t → ObeysEachKey (values_of t)
values_of-legal t legal (Number key) =
    rw (number_of-values_with (number t) (is_pipelined t) (values_of t).recovery (values_of t).predictor.kind
    key) (taken t legal key)
values_of-legal t legal Recovery = refl
values_of-legal t legal (Pipelined kind) = refl
values_of-legal t legal PredictorKind = refl
