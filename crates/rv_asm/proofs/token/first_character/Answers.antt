use Rattle.std.proofs.Common.{◌≡◌, ◌≤◌, ◌-◌, ℕ, List, [], ◌∷◌, arith, drop, get_or, length, refl, take, unwrap_or}
use Rattle.std.proofs.lemmas.List.{take_all}
use Rattle.rv_asm.specs.Token.{escape_of, unescaped}
use Rattle.rv_asm.proofs.token.first_character.Goals as goal

-- a backslash and the byte after it stand for one byte
escaped : (raw : List ℕ) → 2 ≤ length raw → get_or raw 0 0 ≡ 92 →
    unescaped raw
    ≡ unwrap_or (escape_of (get_or raw 1 0)) (get_or raw 1 0) ∷ unescaped (take (length raw - 2) (drop 2 raw))
unfolding unescaped
escaped [] long first = absurd (omega arith)
escaped (byte ∷ []) long first = absurd (omega arith)
escaped (byte ∷ next ∷ bytes) long first =
    rw (first, take_all (length (byte ∷ next ∷ bytes) - 2) bytes (omega arith)) refl

pub returns-in-92-clause-character : goal.returns-in-92-clause-character
returns-in-92-clause-character c =
    rw (c.unwrap_or.ensures, c.escape.ensures) (escaped c.args.raw.now (omega arith) (omega arith))
