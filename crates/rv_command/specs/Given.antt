-- The texts of an option that may be given more than once.
use Rattle.std.specs.Prelude.{List, [], unwrap_or}
use Rattle.clap.specs.Words.{Row, Text, all_of}

-- those that the matches hold, in their order
abbrev pub texts_of : Text → List Row → List Text
texts_of name rows = unwrap_or (all_of name rows) []
