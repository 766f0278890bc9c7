-- What a parse of the words of a command line comes to.
use Rattle.std.proofs.Common.{◌≡◌, ◌⊎◌, ◌∙◌, ◌∷◌, [], true, List, None, ap, arith}
use Rattle.std.proofs.Common.{false, length, Result, refl, subst, sym}
use Rattle.std.proofs.lemmas.Bool.{ne_eqb}
use Rattle.std.specs.Prelude.{option_and_then}
use Rattle.clap.specs.Kinds.{or_else}
use Rattle.clap.specs.Walk.{is_empty}
use Rattle.clap.specs.Words.{App, FailsBy, HasKind, HasMatchesOf, IsAmong, Kinds, Text, app_of, fault_of}
use Rattle.clap.specs.Words.{is_simple, is_simple_and_free, kind_of, subcommand_of, subcommand_rows_of}
use Rattle.clap.specs.declared.error.Error.{Error}
use Rattle.clap.specs.declared.error.kind.ErrorKind.TheVariants.{OutOfMemory, ValueValidation}
use Rattle.clap.specs.declared.builder.command.Command.{Command as Parser}
use Rattle.clap.specs.declared.parser.matches.ArgMatches.{ArgMatches}
use Rattle.rv_command.specs.Arguments.{program_arguments}
use Rattle.rv_command.specs.Command.{command_named, command_of, refused_kinds}

arguments_are_simple : is_simple program_arguments ≡ true
arguments_are_simple = refl

arguments_are_free : is_simple_and_free program_arguments ≡ true
arguments_are_free = refl

faulty : (kinds : Kinds) (words : List Text) (e : Error) → fault_of program_arguments words ≡ kinds →
    IsAmong (kind_of e) kinds → command_of words ≡ None
faulty [] words e is among = absurd among
faulty (k ∷ ks) words e is among =
    let some : is_empty (k ∷ ks) ≡ false = ne_eqb (length (k ∷ ks)) 0 (λ none. omega arith) in
    rw (is, some) refl

-- words that are refused, except when out of memory, ask for no command
pub refused_words : (words : List Text) (e : Error) → HasKind (fault_of program_arguments words) e
    → (command_of words ≡ None) ⊎ (kind_of e ≡ OutOfMemory)
refused_words words e has = grind (arith, faulty)

kinds_or_other : (kinds next : Kinds) (e : Error) → HasKind kinds e → HasKind (or_else kinds next) e
kinds_or_other kinds next e has = grind arith

-- words that are refused have an error of a kind that they may have
pub refused_kind : (words : List Text) (e : Error) → HasKind (fault_of program_arguments words) e →
    HasKind (refused_kinds words) e
refused_kind words e has = kinds_or_other (fault_of program_arguments words) (ValueValidation ∷ []) e has

-- words that are taken, and name no command
pub other_kind : (words : List Text) (e : Error) → fault_of program_arguments words ≡ [] →
    HasKind (ValueValidation ∷ []) e
    → HasKind (refused_kinds words) e
other_kind words e none has = subst (λ kinds. HasKind (or_else kinds (ValueValidation ∷ [])) e) (sym none) has

-- what a parse of the words fails by
pub fails_by : (parser : Parser) (words : List Text) (r : Result ArgMatches Error) → app_of parser ≡ program_arguments
    → (is_simple_and_free (app_of parser) ≡ true → FailsBy (fault_of (app_of parser) words) r)
    → FailsBy (fault_of program_arguments words) r
fails_by parser words r is fails =
    subst (λ (a : App). FailsBy (fault_of a words) r) is (fails (ap is_simple_and_free is ∙ arguments_are_free))

-- words that are taken have the subcommand that their matches name
pub taken_rows : (parser : Parser) (words : List Text) (m : ArgMatches) → app_of parser ≡ program_arguments
    → HasMatchesOf (app_of parser) words m
    → subcommand_rows_of m ≡ subcommand_of program_arguments words
taken_rows parser words m is found =
    (found (ap is_simple is ∙ arguments_are_simple)).1 ∙ ap (λ (a : App). subcommand_of a words) is

-- words that are taken ask for the command that their matches name
pub taken_words : (parser : Parser) (words : List Text) (m : ArgMatches) → app_of parser ≡ program_arguments
    → fault_of program_arguments words ≡ [] → HasMatchesOf (app_of parser) words m
    → command_of words ≡ option_and_then command_named (subcommand_rows_of m)
taken_words parser words m is none found = rw (none, taken_rows parser words m is found) refl
