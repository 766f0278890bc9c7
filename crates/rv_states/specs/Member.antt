-- The members of an object after its first one.
use Rattle.std.specs.Prelude.{ℕ, List}
use Rattle.rv_states.specs.Json.{also, also_some, numeral, quoted, truth}
use Rattle.rv_states.specs.declared.json.{Member.Member, Value.Value}
use Rattle.rv_states.specs.declared.json.Value.TheVariants.{Number, Truth, Name, Maybe}

-- a member of a name
abbrev pub with_value : List ℕ → Value → List ℕ
with_value name (Number number) = also name (numeral number)
with_value name (Truth value) = also name (truth value)
with_value name (Name text) = also name (quoted text.now)
with_value name (Maybe number) = also_some name number

-- a member
abbrev pub member_text : Member → List ℕ
member_text member = with_value member.name.now member.value
