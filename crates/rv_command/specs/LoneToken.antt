-- The token that a text is.
use Rattle.std.specs.Prelude.{◌==◌, if◌then◌else◌, length, get_or, Option, None, option_and_then}
use Rattle.clap.specs.Words.{Text}
use Rattle.rv_asm.specs.Token.{Lexeme, Token, first_lexeme}

-- it, where the text is one token and nothing else, as the assembler reads tokens
abbrev pub lone_token : Text → Option Token
lone_token text =
    if length text == 0 then None
    else option_and_then (λ (lexeme : Lexeme). if lexeme.size == length text then lexeme.token else None)
    (first_lexeme (get_or text 0 0) text)
