-- A user's own values for keys of a description, and the changes that they make.
use Rattle.std.specs.Prelude.{ℕ, Bool, true, false, ◌&&◌, if◌then◌else◌, List}
use Rattle.std.specs.Prelude.{[], ◌∷◌, Option, Some, None, option_and_then}
use Rattle.std.specs.List.{filter_map, slice_get}
use Rattle.rv_isa.specs.Bounds.{takes}
use Rattle.rv_isa.specs.Key.{order, row_of}
use Rattle.rv_isa.specs.declared.{keys.Key.Key, keys.NumberKey.NumberKey}
use Rattle.rv_isa.specs.declared.keys.Key.TheVariants as key
use Rattle.rv_isa.specs.declared.keys.NumberKey.TheVariants.{RamBase, RamSize, RomBytes}
use Rattle.rv_isa.specs.declared.keys.NumberKey.TheVariants.{ReportDumpAddress, ReportDumpWords}
use Rattle.rv_sensitivity.specs.declared.{change.Change.Change}
use Rattle.rv_sensitivity.specs.declared.{setting.{KeyValue.KeyValue, Setting.Setting, Settings.Settings}}
use Rattle.rv_sensitivity.specs.declared.change.Change.TheVariants as change
use Rattle.rv_sensitivity.specs.declared.setting.KeyValue.TheVariants.{Number, Truth, Recovery, Predictor}

-- the key at an index
unfoldable pub key_at : ℕ → Option Key
key_at index = slice_get order index

-- a number's key says how fast a program runs: all but those of RAM and of reports
abbrev pub says_how_fast : NumberKey → Bool
says_how_fast RamBase = false
says_how_fast RamSize = false
says_how_fast RomBytes = false
says_how_fast ReportDumpAddress = false
says_how_fast ReportDumpWords = false
says_how_fast _ = true

-- the change of the number at a key, where the key takes the number
abbrev pub number_at : NumberKey → ℕ → Option Change
number_at number_key n =
    if says_how_fast number_key && takes (row_of number_key).bounds 0 n then Some (change.Number number_key n) else None

-- the change that a value makes at a key
abbrev pub change_at : Key → KeyValue → Option Change
change_at (key.Number number_key) (Number n) = number_at number_key n
change_at key.Recovery (Recovery recovery) = Some (change.Recovery recovery)
change_at (key.Pipelined kind) (Truth truth) = Some (change.Pipelined kind truth)
change_at key.PredictorKind (Predictor kind) = Some (change.Predictor kind)
change_at _ _ = None

-- the change that a setting makes
abbrev pub change_of : Setting → Option Change
change_of setting = option_and_then (λ k. change_at k setting.value) (key_at setting.index)

-- the change of a setting, where there is one
abbrev pub asked_change : Option Setting → Option Change
asked_change None = None
asked_change (Some setting) = change_of setting

-- the changes that settings make, in their order
abbrev pub changes_of : Settings → List Change
changes_of settings = filter_map asked_change (settings.first ∷ settings.second ∷ settings.third ∷ settings.fourth ∷ [])
