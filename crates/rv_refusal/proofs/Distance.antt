-- How far a token is from the front of a line.
use Rattle.std.proofs.Common.{◌≡◌, ℕ, zero, suc, ◌+◌, ◌-◌, ◌<◌, ◌≤◌, List, [], ◌∷◌, length, drop, get_or, Some, None}
use Rattle.std.proofs.Common.{refl, ap, ◌∙◌, arith, true}
use Rattle.std.specs.Prelude.{is_some}
use Rattle.rv_asm.specs.Token.{Lexeme, first_lexeme}
use Rattle.rv_refusal.specs.Caret.{distance, distance_from}

-- bytes that belong to what stands before them are passed over
pub distance-taken : (bytes : List ℕ) (taken before : ℕ) → taken ≤ length bytes →
    distance bytes taken before ≡ taken + distance (drop taken bytes) 0 before
unfolding distance
distance-taken [] zero before inside = refl
distance-taken [] (suc taken) before inside = absurd (omega arith)
distance-taken (byte ∷ bytes) zero before inside =
    let no_more : (n : ℕ) → n ≡ 0 + n = λ n. omega arith in no_more (distance (byte ∷ bytes) 0 before)
distance-taken (byte ∷ bytes) (suc taken) before inside =
    ap (λ n. 1 + n) (distance-taken bytes taken before (omega arith)) ∙ omega arith

distance-first : (byte : ℕ) (bytes : List ℕ) (before : ℕ) →
    distance (byte ∷ bytes) 0 before
    ≡ distance_from (first_lexeme byte (byte ∷ bytes)) before (λ size left. 1 + distance bytes (size - 1) left)
unfolding distance
distance-first byte bytes before = refl

distance-size : (byte : ℕ) (bytes : List ℕ) (size left : ℕ) → 0 < size → size ≤ length (byte ∷ bytes) →
    1 + distance bytes (size - 1) left ≡ size + distance (drop size (byte ∷ bytes)) 0 left
distance-size byte bytes zero left positive inside = absurd (omega arith)
distance-size byte bytes (suc size) left positive inside = grind (arith, distance-taken)

-- nothing is passed over that is no token
pub distance_none : (line : List ℕ) (before : ℕ) → 0 < length line → None ≡ first_lexeme (get_or line 0 0) line →
    distance line 0 before ≡ 0
distance_none [] before some_bytes found_is = absurd (omega arith)
distance_none (byte ∷ bytes) before some_bytes found_is = distance-first byte bytes before ∙ rw (← found_is) refl

-- what gives no token is passed over
pub distance_blank : (line : List ℕ) (before : ℕ) (found : Lexeme) → 0 < length line →
    Some found ≡ first_lexeme (get_or line 0 0) line → found.token ≡ None → 0 < found.size → found.size ≤ length line →
    distance line 0 before ≡ found.size + distance (drop found.size line) 0 before
distance_blank [] before found some_bytes found_is blank positive inside = absurd (omega arith)
distance_blank (byte ∷ bytes) before found some_bytes found_is blank positive inside =
    distance-first byte bytes before
    ∙ rw (← found_is) (rw blank (distance-size byte bytes found.size before positive inside))

-- the token that none is passed over for
pub distance_here : (line : List ℕ) (found : Lexeme) → 0 < length line →
    Some found ≡ first_lexeme (get_or line 0 0) line → is_some found.token ≡ true → distance line 0 0 ≡ 0
distance_here [] found some_bytes found_is token = absurd (omega arith)
distance_here (byte ∷ bytes) found some_bytes found_is token = distance-first byte bytes 0
    ∙ rw (← found_is) (rw token refl)

-- a token is passed over
pub distance_token : (line : List ℕ) (before : ℕ) (found : Lexeme) → 0 < length line →
    Some found ≡ first_lexeme (get_or line 0 0) line → is_some found.token ≡ true → 0 < before → 0 < found.size →
    found.size ≤ length line → distance line 0 before ≡ found.size + distance (drop found.size line) 0 (before - 1)
distance_token [] before found some_bytes found_is token more positive inside = absurd (omega arith)
distance_token (byte ∷ bytes) zero found some_bytes found_is token more positive inside = absurd (omega arith)
distance_token (byte ∷ bytes) (suc before) found some_bytes found_is token more positive inside =
    grind (arith, distance-first, distance-size)

-- in no bytes there is nothing to pass over
pub distance_empty : (line : List ℕ) (before : ℕ) → length line ≡ 0 → distance line 0 before ≡ 0
unfolding distance
distance_empty [] before none = refl
distance_empty (byte ∷ bytes) before none = absurd (omega arith)
