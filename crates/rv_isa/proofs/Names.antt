-- The words by which a format names things: letters in lower case and underscores.
use Rattle.std.proofs.Common.{◌≡◌, ◌||◌, ◌&&◌, ◌==◌, nat_le, Bool, true, ℕ, List, refl, arith}
use Rattle.std.specs.List.{list_all}
use Rattle.rv_isa.specs.Choice.{predictor_name}
use Rattle.rv_isa.specs.declared.values.PredictorKind.{PredictorKind}

-- a letter in lower case, or an underscore
abbrev pub is_word_byte : ℕ → Bool
is_word_byte byte = (nat_le 97 byte && nat_le byte 122) || (byte == 95)

-- every byte of a text is a letter in lower case, or an underscore
abbrev pub is_word : List ℕ → Bool
is_word text = list_all is_word_byte text

-- the name of each predictor is one
pub predictor_name-word : (kind : PredictorKind) → is_word (predictor_name kind) ≡ true
predictor_name-word kind = grind arith
