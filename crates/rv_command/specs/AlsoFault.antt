-- Why a text of `--also` sets no value, in words.
use Rattle.std.specs.Prelude.{◌++◌, codes}
use Rattle.clap.specs.Words.{Text}
use Rattle.rv_describe.specs.KeyRange.{key_range}
use Rattle.rv_isa.specs.Key.{text_of}
use Rattle.rv_isa.specs.declared.keys.Key.{Key}
use Rattle.rv_command.specs.declared.also_fault.Reason.{Reason}
use Rattle.rv_command.specs.declared.also_fault.Reason.TheVariants.{TooMany, UnknownKey, OtherKey}
use Rattle.rv_command.specs.declared.also_fault.Reason.TheVariants.{NoValue, WrongValue, SetTwice}

-- a key, and the values that it takes
abbrev pub range_of : Key → Text
range_of k = text_of k ++ (codes " is " ++ key_range k)

-- why a text sets no value, in words
unfoldable pub reason_text : Reason → Text
reason_text TooMany = codes "--also may be given four times"
reason_text UnknownKey = codes "no key has this name"
reason_text (OtherKey k) = text_of k ++ codes " does not say how fast a program runs"
reason_text (NoValue k) = codes "a value is missing; " ++ range_of k
reason_text (WrongValue k) = range_of k
reason_text SetTwice = codes "its key is set twice"
