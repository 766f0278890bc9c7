-- Which value a key has where it is missing, and the line on its values.
use Rattle.std.specs.Prelude.{ℕ, Bool, List, ◌++◌, codes, if◌then◌else◌}
use Rattle.rv_isa.specs.declared.keys.Key.{Key}
use Rattle.rv_isa.specs.declared.keys.Key.TheVariants.{Number, Recovery, Pipelined, PredictorKind}
use Rattle.rv_isa.specs.Choice.{predictor_name, recovery_name}
use Rattle.rv_isa.specs.Key.{number_of, text_of}
use Rattle.rv_isa.specs.PerKind.{at_kind}
use Rattle.rv_isa.specs.Standard.{standard_values}
use Rattle.rv_describe.specs.KeyRange.{key_range, number_text, quoted}

-- the word of a truth value
unfoldable pub truth_word : Bool → List ℕ
truth_word value = if value then codes "true" else codes "false"

-- the value of a key that is missing
unfoldable pub key_default : Key → List ℕ
key_default (Number key) = number_text key (number_of standard_values key)
key_default Recovery = quoted (recovery_name standard_values.recovery)
key_default (Pipelined kind) = truth_word (at_kind kind standard_values.kinds).pipelined
key_default PredictorKind = quoted (predictor_name standard_values.predictor.kind)

-- the line on the values that a key takes
unfoldable pub values_line : Key → List ℕ
values_line key =
    codes "expected: "
    ++ (text_of key
    ++ (codes " is " ++ (key_range key ++ (codes ", by default " ++ (key_default key ++ codes "\n")))))
