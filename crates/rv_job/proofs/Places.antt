-- The first separator of a text, looked for place by place.
use Rattle.std.proofs.Common.{◌≡◌, ℕ, ◌+◌, ◌<◌, List, [], ◌∷◌, ◌++◌, length, get_or, take, drop, Option, Some, None}
use Rattle.std.proofs.Common.{refl, sym, ap, ◌∙◌, append_assoc, add-one, option_map, Bool, true, false, arith}
use Rattle.std.specs.Prelude.{if◌then◌else◌}
use Rattle.std.proofs.Math.Seq.{drop-cons}
use Rattle.std.proofs.lemmas.List.{take_more}
use Rattle.rv_job.specs.Parts.{Halves, after_separator, preceded, later_halves, halves_at_front, is_line_feed}

preceded_twice : (before : List ℕ) (byte : ℕ) (found : Option Halves)
    → option_map (preceded before) (option_map (preceded (byte ∷ [])) found)
    ≡ option_map (preceded (before ++ byte ∷ [])) found
preceded_twice before byte None = refl
preceded_twice before byte (Some halves) = grind (arith, append_assoc)

-- no separator stands right after a byte
no_separator : (byte : ℕ) (later : List ℕ) → (if is_line_feed byte then halves_at_front later else None) ≡ None
    → later_halves (byte ∷ later) ≡ option_map (preceded (byte ∷ [])) (later_halves later)
unfolding later_halves
no_separator byte later none = rw none refl

-- no separator stands at the front of a text, whatever stands before it
pub no_separator_at_front : (at_line_feed : Bool) (later : List ℕ) → after_separator later ≡ None
    → (if at_line_feed then halves_at_front later else None) ≡ None
no_separator_at_front true later none = rw none refl
no_separator_at_front false later none = refl

-- a place after which no separator stands
pub next_place : (text : List ℕ) (place : ℕ) → place < length text
    → later_halves text ≡ option_map (preceded (take place text)) (later_halves (drop place text))
    → (if is_line_feed (get_or text place 0) then halves_at_front (drop (place + 1) text) else None) ≡ None
    → later_halves text ≡ option_map (preceded (take (place + 1) text)) (later_halves (drop (place + 1) text))
next_place text place below so_far none =
    let byte = get_or text place 0 in
    let later = drop (place + 1) text in
    let opened : drop place text ≡ byte ∷ later = drop-cons text place 0 below
    ∙ ap (λ n. byte ∷ drop n text) (sym (add-one place)) in
    so_far ∙ ap (λ rest. option_map (preceded (take place text)) (later_halves rest)) opened
    ∙ ap (option_map (preceded (take place text))) (no_separator byte later none)
    ∙ preceded_twice (take place text) byte (later_halves later)
    ∙ ap (λ before. option_map (preceded before) (later_halves later)) (sym (take_more text place 0 below))
