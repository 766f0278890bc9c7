-- Where a caret stands below a line.
use Rattle.std.specs.Prelude.{ℕ, zero, suc, ◌+◌, ◌-◌, ◌==◌, Bool, List, [], ◌∷◌, ◌++◌, length}
use Rattle.std.specs.Prelude.{replicate, codes, if◌then◌else◌, Option, Some, None, is_some, option_map}
use Rattle.std.specs.Option.{option_map_or}
use Rattle.rv_asm.specs.Token.{Lexeme, Token, first_lexeme}
use Rattle.rv_asm.specs.declared.fault.AsmFault.{AsmFault}
use Rattle.rv_asm.specs.declared.fault.AsmFault.TheVariants.{BadToken}
use Rattle.rv_refusal.specs.Culprit.{culprit_on}

-- How far the token is that so many tokens stand before, given what stands at the front and how far it is after that; nothing is
-- passed over that is no token.
abbrev pub distance_from : Option Lexeme → ℕ → (ℕ → ℕ → ℕ) → ℕ
distance_from None before further = 0
distance_from (Some found) before further =
    if is_some found.token then (if before == 0 then 0 else further found.size (before - 1))
    else further found.size before

-- how many of the bytes after so many, which belong to what stands before them, stand before the token that so many
-- tokens stand before
unfoldable pub distance : List ℕ → ℕ → ℕ → ℕ
distance [] taken before = 0
distance (byte ∷ bytes) (suc taken) before = 1 + distance bytes taken before
distance (byte ∷ bytes) zero before =
    distance_from (first_lexeme byte (byte ∷ bytes)) before (λ size left. 1 + distance bytes (size - 1) left)

-- how many bytes of a line stand before the token that so many tokens stand before, or before the first bytes that are no token
abbrev pub token_place : List ℕ → ℕ → ℕ
token_place line before = distance line 0 before

-- how many bytes of a line with these tokens stand before the one at fault, or before the first bytes that are no token
unfoldable pub fault_place : AsmFault → (List ℕ → Bool) → List ℕ → List Token → Option ℕ
fault_place BadToken defined line tokens = Some (token_place line (length line))
fault_place fault defined line tokens =
    option_map (λ from. token_place line (length tokens - length from)) (culprit_on fault defined tokens)

-- a caret below a byte of a line that is shown
unfoldable pub caret_below : ℕ → List ℕ
caret_below place = codes "    " ++ (replicate place 32 ++ codes "^\n")

-- the line with the caret below the token at fault, where there is one
abbrev pub caret_line : AsmFault → (List ℕ → Bool) → List ℕ → List Token → List ℕ
caret_line fault defined line tokens = option_map_or caret_below (fault_place fault defined line tokens) []
