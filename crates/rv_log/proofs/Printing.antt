-- The printing characters that a text begins with stand for themselves.
use Rattle.std.proofs.Common.{◌≡◌, ◌∙◌, ℕ, suc, ◌+◌, ◌≤◌, Bool, true, false, cond, List, []}
use Rattle.std.proofs.Common.{◌∷◌, ◌++◌, length, take, drop, refl, sym, ap, append-nil, arith}
use Rattle.std.specs.Prelude.{codes, ◌==◌, if◌then◌else◌}
use Rattle.std.specs.List.{prefix_len}
use Rattle.std.proofs.lemmas.List.{drop_all, take_all}
use Rattle.rv_text.specs.Plain.{plain_byte, plain_text}
use Rattle.rv_log.specs.Statement.{is_printing}

abbrev front-of : ℕ → List ℕ → List ℕ
front-of count text = take count text ++ plain_text (drop count text)

front-cons : (byte : ℕ) (text : List ℕ) (prints : Bool) → is_printing byte ≡ prints →
    front-of (prefix_len is_printing text) text ≡ plain_text text
    → front-of (prefix_len is_printing (byte ∷ text)) (byte ∷ text) ≡ plain_text (byte ∷ text)
unfolding plain_byte
front-cons byte text true prints rest =
    let later : 1 + prefix_len is_printing text ≡ suc (prefix_len is_printing text) = omega arith in
    (λ i. front-of (cond (prints i) (1 + prefix_len is_printing text) 0) (byte ∷ text))
    ∙ ap (λ n. front-of n (byte ∷ text)) later ∙ ap (λ l. byte ∷ l) rest
    ∙ sym (ap (λ b. (cond b (byte ∷ []) (if byte == 9 then codes " " else codes "?")) ++ plain_text text) prints)
front-cons byte text false prints rest =
    ap (λ b. front-of (cond b (1 + prefix_len is_printing text) 0) (byte ∷ text)) prints

-- the printing characters in front are written as they are
pub plain-front : (text : List ℕ) → take (prefix_len is_printing text) text
    ++ plain_text (drop (prefix_len is_printing text) text) ≡ plain_text text
plain-front [] = refl
plain-front (byte ∷ text) = front-cons byte text (is_printing byte) refl (plain-front text)

-- all of it, where it is nothing else
pub plain-whole : (text : List ℕ) → prefix_len is_printing text ≡ length text → plain_text text ≡ text
plain-whole text whole =
    let same : length text ≤ length text = omega arith in
    sym (plain-front text) ∙ ap (λ n. front-of n text) whole
    ∙ (λ i. take_all (length text) text same i ++ plain_text (drop_all (length text) text same i)) ∙ append-nil text
