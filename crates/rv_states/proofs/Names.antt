-- The names of the format: a word of a format's own is one.
use Rattle.std.proofs.Common.{◌≡◌, ◌&&◌, Bool, true, false, not, ℕ, List, [], ◌∷◌, refl, arith}
use Rattle.std.specs.List.{list_all, list_any}
use Rattle.std.proofs.lemmas.Bool.{and_from, and_parts, not-true, or_from}
use Rattle.rv_isa.proofs.Names.{is_word, is_word_byte}
use Rattle.rv_states.specs.Grammar.{is_unescaped}
use Rattle.rv_states.specs.Markup.{is_markup}

-- a byte that stands for itself in a string of JSON, and that HTML gives no meaning
abbrev pub is_safe_byte : ℕ → Bool
is_safe_byte byte = is_unescaped byte && not (is_markup byte)

-- a safe text has no character that a string escapes
pub unescaped : (name : List ℕ) → list_all is_safe_byte name ≡ true → list_all is_unescaped name ≡ true
unescaped [] safe = refl
unescaped (byte ∷ bytes) safe =
    let parts = and_parts (is_safe_byte byte) (list_all is_safe_byte bytes) safe in
    let here = and_parts (is_unescaped byte) (not (is_markup byte)) parts.0 in
    and_from _ _ here.0 (unescaped bytes parts.1)

-- and none that HTML gives a meaning
pub no_markup : (name : List ℕ) → list_all is_safe_byte name ≡ true → list_any is_markup name ≡ false
no_markup [] safe = refl
no_markup (byte ∷ bytes) safe =
    let parts = and_parts (is_safe_byte byte) (list_all is_safe_byte bytes) safe in
    let here = and_parts (is_unescaped byte) (not (is_markup byte)) parts.0 in
    or_from _ _ (not-true (is_markup byte) here.1) (no_markup bytes parts.1)

byte-unescaped : (byte : ℕ) → is_word_byte byte ≡ true → is_unescaped byte ≡ true
byte-unescaped byte is = grind arith

byte-no_markup : (byte : ℕ) → is_word_byte byte ≡ true → is_markup byte ≡ false
byte-no_markup byte is = grind arith

-- a word of the format is safe
pub word-safe : (word : List ℕ) → is_word word ≡ true → list_all is_safe_byte word ≡ true
word-safe [] is = refl
word-safe (byte ∷ bytes) is =
    let parts = and_parts (is_word_byte byte) (is_word bytes) is in
    let plain = byte-no_markup byte parts.0 in
    and_from _ _ (and_from _ _ (byte-unescaped byte parts.0) (λ i. not (plain i))) (word-safe bytes parts.1)
