-- What `get_one` reads of a flag.
use Rattle.std.proofs.Common.{◌≡◌, ◌≢◌, arith, ℕ, Bool, true, false, List, Option, Some, None, Result, refl, codes}
use Rattle.std.proofs.lemmas.Slice.Eq.{bytes_eq-Decides}
use Rattle.std.specs.declared.str.ParseBoolError.{ParseBoolError}
use Rattle.std.specs.Prelude.{unwrap_or}
use Rattle.std.specs.Bool.{MatchBool}
use Rattle.std.specs.Str.{bytes_eq}
use Rattle.std.specs.Str.Parse.{ParsesBool, true_text, false_text}
use Rattle.clap.specs.Words.{ReadsOne, one_text, rows_of}
use Rattle.clap.specs.declared.parser.matches.Found.{Found}
use Rattle.clap.proofs.WalkLemmas.{one_text-rows}
use Rattle.rv_command.specs.Command.{flag_in}

named : (t : List ℕ) (b : Bool) → MatchBool b (t ≡ true_text) (t ≡ false_text) → b ≡ bytes_eq t (codes "true")
named t true is = rw is refl
named t false is = rw is refl

other : (t : List ℕ) → t ≢ true_text → false ≡ bytes_eq t (codes "true")
other t differs = grind (arith, bytes_eq-Decides t (codes "true"))

-- what `bool` makes of a text
abbrev Reads : List ℕ → Result Bool ParseBoolError → Type 0
Reads t x = ParsesBool t x

text_read : (t : List ℕ) (r : Option Bool) → ReadsOne Reads t r → unwrap_or r false ≡ bytes_eq t (codes "true")
text_read t (Some b) read = named t b read
text_read t None read = other t read.1.0

-- the flag that `get_one` reads is the one that the matches hold
pub flag_read : (f : Found) (name : List ℕ) (r : Option Bool) → (one_text f name ≡ None → r ≡ None)
    → ((t : List ℕ) → one_text f name ≡ Some t → ReadsOne Reads t r)
    → unwrap_or r false ≡ flag_in name (rows_of f)
flag_read f name r none value = grind (arith, one_text-rows f name, text_read)
