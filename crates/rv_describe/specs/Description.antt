-- What the bytes of a description say, and which are legal.
use Rattle.std.specs.Prelude.{◌≡◌, false, ℕ, List, Option, Some, None, Result, Ok, Err, if◌then◌else◌}
use Rattle.std.specs.Option.{option_map, option_or, option_map_or}
use Rattle.toml.specs.Data.{Members}
use Rattle.rv_isa.specs.declared.{keys.Key.Key, values.Values.Values}
use Rattle.rv_describe.specs.declared.description_error.DescriptionError.{DescriptionError}
use Rattle.rv_describe.specs.declared.description_error.DescriptionError.TheVariants as error
use Rattle.rv_describe.specs.declared.faults.ValueFault.TheVariants.{WrongKind, OutOfRange, NotPowerOfTwo}
use Rattle.rv_describe.specs.Document.{document}
use Rattle.rv_describe.specs.Fault.{first_place, key_fault}
use Rattle.rv_describe.specs.Setting.{values_of}
use Rattle.rv_describe.specs.Unknown.{has_unknown}

-- The first fault of the values: a wrong kind anywhere comes before a number out of range, and that before one that is
-- no power of two. Of one fault the first key is named.
abbrev pub value_error : Members → Option DescriptionError
value_error members =
    option_or (option_map error.WrongKind (first_place WrongKind members))
    (option_or (option_map error.OutOfRange (first_place OutOfRange members))
    (option_map error.NotPowerOfTwo (first_place NotPowerOfTwo members)))

-- An unknown name comes before any fault of a value.
abbrev pub first_error : Members → Option DescriptionError
first_error members = if has_unknown members then Some error.UnknownKey else value_error members

-- the values of a table without fault, or its first fault
abbrev pub described : Members → Result Values DescriptionError
described members = option_map_or Err (first_error members) (Ok (values_of members))

-- what the bytes describe: bytes that give no table are no TOML
unfoldable pub description_of : List ℕ → Result Values DescriptionError
description_of bytes = option_map_or described (document bytes) (Err error.NotToml)

-- every name is known, and no key has a fault
pub record IsFaultless (members : Members) : Type 0 where
  pub known : has_unknown members ≡ false
  pub keys : (key : Key) → key_fault members key ≡ None

-- the bytes are the text of such a table
abbrev pub IsLegalText : List ℕ → Type 0
IsLegalText bytes = (members : Members) × (document bytes ≡ Some members) × IsFaultless members
