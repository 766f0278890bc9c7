-- What the names that the program holds are.
use Rattle.rv_refusal.specs.NameOn.{NameOn}
use Rattle.rv_refusal.specs.declared.name_on.NameOn.{NameOn as Held}

-- the bytes of the name that it holds
abbrev pub name_in : Held → NameOn
name_in held = record { before = held.before; name = held.name.now }
