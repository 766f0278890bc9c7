-- What is said of the texts of `--also`, where one sets no value.
use Rattle.std.specs.Prelude.{List, [], ◌∷◌, ◌++◌, position, slice_get, take, codes, unwrap_or}
use Rattle.std.specs.{List.flat_map, Option.option_map_or, Result.result_err}
use Rattle.clap.specs.Words.{Row, Text}
use Rattle.rv_describe.specs.Near.{nearest_keys}
use Rattle.rv_isa.specs.Key.{text_of}
use Rattle.rv_isa.specs.declared.keys.Key.{Key}
use Rattle.rv_command.specs.Also.{is_equals, settings_of}
use Rattle.rv_command.specs.AlsoFault.{reason_text}
use Rattle.rv_command.specs.Given.{texts_of}
use Rattle.rv_command.specs.declared.also_fault.{AlsoFault.AlsoFault, Reason.Reason}
use Rattle.rv_command.specs.declared.also_fault.Reason.TheVariants.{UnknownKey}

-- what stands before the first `=` of a text, or the whole text
abbrev pub name_in : Text → Text
name_in text = option_map_or (λ at. take at text) (position is_equals text) text

-- keys, each after a comma and a blank
abbrev pub other_keys : List Key → Text
other_keys keys = flat_map (λ k. codes ", " ++ text_of k) keys

-- the keys that are near, or else some that there are
unfoldable pub near_text : List Key → Text
near_text [] = codes "; keys are those of a description, as rob, cache.line or predictor.kind"
near_text (first ∷ others) = codes "; nearest: " ++ (text_of first ++ other_keys others)

-- what stands after the reason: of a text that begins with no key, the keys that are near its name
unfoldable pub hint_of : Reason → Text → Text
hint_of UnknownKey text = near_text (nearest_keys (name_in text))
hint_of _ text = []

-- the text at fault
abbrev pub text_at_fault : List Text → AlsoFault → Text
text_at_fault texts fault = unwrap_or (slice_get texts fault.place) []

-- what is said of a text, and why
abbrev pub said_of_text : Text → Reason → Text
said_of_text text reason =
    codes "invalid value '"
    ++ (text ++ (codes "' for '--also <KEY=VALUE>': " ++ (reason_text reason ++ hint_of reason text)))

-- what is said of the one at fault
abbrev pub fault_line : List Text → AlsoFault → Text
fault_line texts fault = said_of_text (text_at_fault texts fault) fault.reason

-- what is said of texts, where one is at fault
abbrev pub also_line : List Text → Text
also_line texts = option_map_or (fault_line texts) (result_err (settings_of texts)) []

-- the same of those that the matches hold
abbrev pub line_in : List Row → Text
line_in rows = also_line (texts_of (codes "also") rows)
