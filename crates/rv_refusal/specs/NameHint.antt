-- What to write in place of a statement whose name is unknown or that has none.
use Rattle.std.specs.Prelude.{ℕ, List, [], ◌∷◌, ◌++◌, codes, Bool, true, false, ◌||◌, if◌then◌else◌, is_some}
use Rattle.std.specs.{Option.option_map_or}
use Rattle.rv_asm.specs.Mnemonic.{form_named}
use Rattle.rv_asm.specs.Token.{Token}
use Rattle.rv_asm.specs.Token as token
use Rattle.rv_refusal.specs.Counterpart.{counterpart}
use Rattle.rv_refusal.specs.ForeignName.{foreign_hint}
use Rattle.rv_refusal.specs.NameOn.{begins_with}
use Rattle.rv_refusal.specs.Near.{in_small_letters}
use Rattle.rv_refusal.specs.OrElse.{or_else}
use Rattle.rv_refusal.specs.Statement.{first_name}

-- a name at the front reads as a label without its colon: it stands alone, or a statement follows it
abbrev pub reads_as_label : List Token → Bool
reads_as_label (token.Name name ∷ []) = true
reads_as_label (token.Name name ∷ token.Name next ∷ rest) = is_some (form_named next)
reads_as_label _ = false

-- a name in small letters is known otherwise: from other assemblers, or here
abbrev pub is_known_otherwise : List ℕ → Bool
is_known_otherwise small = is_some (counterpart small) || is_some (form_named small)

-- what to write in place of a statement with an unknown mnemonic, which is so in small letters
unfoldable pub label_hint : List ℕ → List ℕ → List Token → List ℕ
label_hint small name body =
    if is_known_otherwise small then []
    else (if reads_as_label body then codes "hint: a label has a colon after it, as in " ++ (name ++ codes ":\n")
    else [])

-- what to write in place of a statement with a name that no other assembler has, either, which is so in small letters:
-- a directive has no hint
abbrev pub unknown_hint : List ℕ → List Token → List ℕ → List ℕ
unknown_hint small body name = if begins_with 46 name then [] else label_hint small name body

-- what to write in place of a statement with an unknown name: those of other assemblers and machines may have capital
-- letters
abbrev pub name_hint : List Token → List ℕ → List ℕ
name_hint body name =
    or_else (foreign_hint (in_small_letters name)) (unknown_hint (in_small_letters name) body name)

-- what to write in place of a statement whose name is unknown or that has none
unfoldable pub statement_hint : List Token → List ℕ
statement_hint (token.Number number ∷ token.Colon ∷ rest) = codes "hint: a label is a name, as in again:\n"
statement_hint (token.Name name ∷ token.Minus ∷ rest) = codes "hint: a name has letters, digits, _ . and $\n"
statement_hint body = option_map_or (name_hint body) (first_name body) []
