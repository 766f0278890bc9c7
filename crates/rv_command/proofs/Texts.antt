-- What `get_strs` reads of the texts of an option.
use Rattle.std.proofs.Common.{◌≡◌, ◌∙◌, List, [], Option, ap, sym}
use Rattle.std.specs.Option.{option_map}
use Rattle.std.specs.Prelude.{unwrap_or}
use Rattle.clap.specs.Words.{Text, matched_of, raw_values, rows_of}
use Rattle.clap.specs.declared.parser.matches.Found.{Found}
use Rattle.clap.proofs.WalkLemmas.{raw_values-rows}
use Rattle.rv_command.specs.Given.{texts_of}

-- the texts that it reads, or none where it reads nothing, are those that the matches hold
pub texts_held : {X : Type 0} {read is : Option X} (texts : X → List Text) (f : Found) (name : Text)
    → option_map texts read ≡ option_map raw_values (matched_of f name) → read ≡ is
    → unwrap_or (option_map texts is) [] ≡ texts_of name (rows_of f)
texts_held texts f name held read_is =
    ap (λ r. unwrap_or (option_map texts r) []) (sym read_is) ∙ ap (λ r. unwrap_or r []) (held ∙ raw_values-rows f name)
