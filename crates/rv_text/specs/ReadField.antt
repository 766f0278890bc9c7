use Rattle.std.specs.Prelude.{ℕ, List, ◌++◌, codes, decimal}
use Rattle.rv_text.specs.Line.{word_text, ratio_text, line_of}
use Rattle.rv_text.specs.declared.fields.{Field.Field, Value.Value}
use Rattle.rv_text.specs.declared.fields.Value.TheVariants.{Count, Word, Ratio}

-- the text of a value
abbrev pub value_text : Value → List ℕ
value_text (Count count) = decimal count
value_text (Word word) = word_text word
value_text (Ratio count each) = ratio_text count each

-- a cell of a table, after which a tab stands
abbrev pub cell_text : Value → List ℕ
cell_text value = value_text value ++ codes "\t"

-- the line of a field
abbrev pub field_line : Field → List ℕ
field_line field = line_of field.name.now (value_text field.value)
