-- What `--also` asks for.
use Rattle.std.specs.Prelude.{ℕ, ◌+◌, ◌==◌, nat_lt, Bool, true, false, ◌||◌, if◌then◌else◌}
use Rattle.std.specs.Prelude.{List, drop, length, position, take, slice_get, Option, Some}
use Rattle.std.specs.Prelude.{None, codes, is_some, ok_or, option_and_then, Result, Ok, Err}
use Rattle.std.specs.{Option.option_map, Option.option_map_or, Str.bytes_eq}
use Rattle.clap.specs.Words.{Row, Text}
use Rattle.rv_asm.specs.Statement.{and_then}
use Rattle.rv_asm.specs.Token.{Token, Number}
use Rattle.rv_isa.specs.Choice.{predictor_named, recovery_named}
use Rattle.rv_isa.specs.Key.{order, text_of}
use Rattle.rv_isa.specs.declared.keys.Key.{Key}
use Rattle.rv_isa.specs.declared.keys.Key.TheVariants as key
use Rattle.rv_sensitivity.specs.Setting.{change_of, says_how_fast}
use Rattle.rv_sensitivity.specs.declared.setting.{KeyValue.KeyValue, Setting.Setting, Settings.Settings}
use Rattle.rv_sensitivity.specs.declared.setting.KeyValue.TheVariants as value
use Rattle.rv_command.specs.Given.{texts_of}
use Rattle.rv_command.specs.LoneToken.{lone_token}
use Rattle.rv_command.specs.declared.also_fault.{AlsoFault.AlsoFault, Reason.Reason}
use Rattle.rv_command.specs.declared.also_fault.Reason.TheVariants.{TooMany, UnknownKey, OtherKey}
use Rattle.rv_command.specs.declared.also_fault.Reason.TheVariants.{NoValue, WrongValue, SetTwice}

-- the number that a token is
abbrev pub number_by : Token → Option ℕ
number_by (Number number) = Some number
number_by _ = None

-- the number that a text is, as the assembler reads numbers
abbrev pub number_named : Text → Option ℕ
number_named text = option_and_then number_by (lone_token text)

-- the truth value that a text is
abbrev pub truth_named : Text → Option Bool
truth_named text =
    if bytes_eq text (codes "true") then Some true else (if bytes_eq text (codes "false") then Some false else None)

-- the value that a text is for a key
abbrev pub value_at : Key → Text → Option KeyValue
value_at (key.Number number_key) text = option_map value.Number (number_named text)
value_at key.Recovery text = option_map value.Recovery (recovery_named text)
value_at (key.Pipelined kind) text = option_map value.Truth (truth_named text)
value_at key.PredictorKind text = option_map value.Predictor (predictor_named text)

-- the index of the key with a name
unfoldable pub index_named : Text → Option ℕ
index_named name = position (λ k. bytes_eq (text_of k) name) order

-- a setting, where its key takes the value
abbrev pub taken : Setting → Option Setting
taken setting = if is_some (change_of setting) then Some setting else None

-- the key at an index
unfoldable pub key_at : ℕ → Option Key
key_at index = slice_get order index

-- a key says how fast a program runs
abbrev pub is_tried : Key → Bool
is_tried (key.Number number_key) = says_how_fast number_key
is_tried _ = true

-- a key that says so, by its name, with its index
abbrev pub tried_key : Text → Result (ℕ × Key) Reason
tried_key name =
    and_then (ok_or (index_named name) UnknownKey) (λ index. and_then (ok_or (key_at index) UnknownKey) (λ k.
    if is_tried k then Ok (index, k) else Err (OtherKey k)))

-- the setting of a key to the value that a text is, where the key takes it
abbrev pub made : ℕ → Key → Text → Option Setting
made index k text = option_and_then (λ held. taken (record { index = index; value = held })) (value_at k text)

-- the setting of a key with a name
abbrev pub setting_named : Text → Text → Result Setting Reason
setting_named name text =
    and_then (tried_key name) (λ (found : ℕ × Key). ok_or (made found.0 found.1 text) (WrongValue found.1))

-- a text that has no `=` is a key at most
abbrev pub no_setting : Text → Result Setting Reason
no_setting name = and_then (tried_key name) (λ (found : ℕ × Key). Err (NoValue found.1))

-- a byte is `=`
abbrev pub is_equals : ℕ → Bool
is_equals byte = byte == 61

-- `KEY=VALUE`: what stands before the first `=`, and after it
abbrev pub setting_of : Text → Result Setting Reason
setting_of text =
    option_map_or (λ at. setting_named (take at text) (drop (at + 1) text)) (position is_equals text) (no_setting text)

-- the setting of the text at a place, or why there is none
abbrev pub set_at : ℕ → Result Setting Reason → Result (Option Setting) AlsoFault
set_at place (Ok setting) = Ok (Some setting)
set_at place (Err reason) = Err (record { place = place; reason = reason })

-- the same of the text at a place among others: none where there is no text
abbrev pub column_of : List Text → ℕ → Result (Option Setting) AlsoFault
column_of texts place = option_map_or (λ text. set_at place (setting_of text)) (slice_get texts place) (Ok None)

-- two settings are of one key
abbrev pub is_of_one_key : Option Setting → Option Setting → Bool
is_of_one_key (Some setting) (Some other) = setting.index == other.index
is_of_one_key _ _ = false

-- the place of the first setting whose key one before it sets
abbrev pub repeated : Settings → Option ℕ
repeated settings =
    if is_of_one_key settings.first settings.second then Some 1
    else (if is_of_one_key settings.first settings.third || is_of_one_key settings.second settings.third then Some 2
    else (if is_of_one_key settings.first settings.fourth
    || (is_of_one_key settings.second settings.fourth || is_of_one_key settings.third settings.fourth) then Some 3
    else None))

-- settings, where no key is set twice
abbrev pub set_once : Settings → Result Settings AlsoFault
set_once settings =
    option_map_or (λ place. Err (record { place = place; reason = SetTwice })) (repeated settings) (Ok settings)

-- the settings of at most four texts, or what is wrong with them: that there are more, or else the first text that sets
-- no value, or else the first that sets a key again
abbrev pub settings_of : List Text → Result Settings AlsoFault
settings_of texts =
    if nat_lt 4 (length texts) then Err (record { place = 4; reason = TooMany })
    else and_then (column_of texts 0)
    (λ one. and_then (column_of texts 1)
    (λ two. and_then (column_of texts 2) (λ three. and_then (column_of texts 3) (λ four.
    set_once (record { first = one; second = two; third = three; fourth = four })))))

-- those that the matches hold
abbrev pub also_in : List Row → Result Settings AlsoFault
also_in rows = settings_of (texts_of (codes "also") rows)
