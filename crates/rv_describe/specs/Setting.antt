-- The values that a table of TOML gives a machine.
use Rattle.std.specs.Prelude.{ℕ, ℤ, pos, negsuc, Bool, List, Option, Some, None}
use Rattle.std.specs.Prelude.{unwrap_or, option_and_then, nat_lt, if◌then◌else◌}
use Rattle.toml.specs.Data.{Members, as_integer, as_bool, as_str}
use Rattle.rv_isa.specs.PerKind.{at_kind}
use Rattle.rv_isa.specs.declared.{keys.Key.Key, keys.NumberKey.NumberKey, operations.Kind.Kind, values.Values.Values}
use Rattle.rv_isa.specs.declared.keys.Key.TheVariants.{Number, Recovery, Pipelined, PredictorKind}
use Rattle.rv_isa.specs.Choice.{recovery_named, predictor_named}
use Rattle.rv_isa.specs.Key.{number_of, values_with}
use Rattle.rv_isa.specs.Standard.{standard_values}
use Rattle.rv_describe.specs.Document.{value_at}

-- an integer as a word
abbrev pub word_of : ℤ → Option ℕ
word_of (pos number) = if nat_lt number 4294967296 then Some number else None
word_of (negsuc number) = None

-- the number at a key, or else the standard machine's
unfoldable pub number : Members → NumberKey → ℕ
number members key =
    unwrap_or (option_and_then word_of (option_and_then as_integer (value_at members (Number key))))
    (number_of standard_values key)

-- whether the units of a kind are pipelined
unfoldable pub is_pipelined : Members → Kind → Bool
is_pipelined members kind =
    unwrap_or (option_and_then as_bool (value_at members (Pipelined kind)))
    (at_kind kind standard_values.kinds).pipelined

-- the choice at a key that names it, or else the standard machine's
unfoldable pub choice : {X : Type 0} → (List ℕ → Option X) → Key → X → Members → X
choice named key default members =
    unwrap_or (option_and_then named (option_and_then as_str (value_at members key))) default

-- the values that a table gives, where the standard ones are the defaults
abbrev pub values_of : Members → Values
values_of members =
    values_with (number members) (is_pipelined members)
    (choice recovery_named Recovery standard_values.recovery members)
    (choice predictor_named PredictorKind standard_values.predictor.kind members)
