-- Reading a line token by token.
use Rattle.std.proofs.Common.{◌≡◌, ℕ, zero, suc, ◌-◌, ◌<◌, List, [], ◌∷◌, ◌++◌, length, drop, get_or, Option, Some}
use Rattle.std.proofs.Common.{None, refl, ap, arith}
use Rattle.std.specs.Prelude.{option_and_then}
use Rattle.std.specs.Option.{option_map, option_to_list}
use Rattle.rv_asm.specs.Token.{Lexeme, first_lexeme, tokens_after, tokens_of}

tokens_after-drop : (bytes : List ℕ) (taken : ℕ) → tokens_after bytes taken ≡ tokens_after (drop taken bytes) 0
unfolding tokens_after
tokens_after-drop [] zero = refl
tokens_after-drop [] (suc taken) = refl
tokens_after-drop (byte ∷ bytes) zero = refl
tokens_after-drop (byte ∷ bytes) (suc taken) = tokens_after-drop bytes taken

drop-size : (byte : ℕ) (bytes : List ℕ) (size : ℕ) → 0 < size → drop (size - 1) bytes ≡ drop size (byte ∷ bytes)
drop-size byte bytes zero positive = absurd (omega arith)
drop-size byte bytes (suc size) positive = ap (λ n. drop n bytes) (omega arith)

tokens_after-first : (byte : ℕ) (bytes : List ℕ) (found : Option Lexeme) → found ≡ first_lexeme byte (byte ∷ bytes) →
    tokens_after (byte ∷ bytes) 0
    ≡ option_and_then
    (λ l. option_map (λ tokens. option_to_list l.token ++ tokens) (tokens_after bytes (l.size - 1))) found
unfolding tokens_after
tokens_after-first byte bytes found found_is = rw found_is refl

-- the first lexeme's token comes first
pub tokens_of-first : (line : List ℕ) (found : Lexeme) → 0 < length line →
    Some found ≡ first_lexeme (get_or line 0 0) line → 0 < found.size →
    tokens_of line ≡ option_map (λ tokens. option_to_list found.token ++ tokens) (tokens_of (drop found.size line))
unfolding tokens_of
tokens_of-first [] found some_bytes found_is positive = absurd (omega arith)
tokens_of-first (byte ∷ bytes) found some_bytes found_is positive =
    grind (arith, tokens_after-first, tokens_after-drop, drop-size)

-- a line that does not begin with a lexeme is not made of tokens
pub tokens_of-none : (line : List ℕ) → 0 < length line → None ≡ first_lexeme (get_or line 0 0) line →
    tokens_of line ≡ None
unfolding tokens_of
tokens_of-none [] some_bytes found_is = absurd (omega arith)
tokens_of-none (byte ∷ bytes) some_bytes found_is = tokens_after-first byte bytes None found_is

-- an empty line has an empty list of tokens
pub tokens_of-empty : (line : List ℕ) → length line ≡ 0 → tokens_of line ≡ Some []
unfolding tokens_of tokens_after
tokens_of-empty [] no_bytes = refl
tokens_of-empty (byte ∷ bytes) no_bytes = absurd (omega arith)
