-- What stands after a separator is shorter than the text.
use Rattle.std.proofs.Common.{◌≡◌, ℕ, suc, ◌<◌, List, [], ◌∷◌, length, Option, Some, None, Bool, true, false, subst}
use Rattle.std.proofs.Common.{option_map, arith}
use Rattle.std.specs.Prelude.{if◌then◌else◌, IfSome}
use Rattle.std.specs.Option.{option_or}
use Rattle.std.proofs.lemmas.List.{length-drop}
use Rattle.rv_job.specs.Parts.{Halves, after_separator, halves_at_front, halves_of, later_halves, preceded}

abbrev IsShorter : ℕ → Option Halves → Type 0
IsShorter bound found = IfSome found (λ halves. length halves.after < bound)

either : (bound : ℕ) (one other : Option Halves) → IsShorter bound one → IsShorter bound other →
    IsShorter bound (option_or one other)
either bound None other first second = second
either bound (Some halves) other first second = first

after_byte : (byte bound : ℕ) (found : Option Halves) → IsShorter bound found →
    IsShorter (suc bound) (option_map (preceded (byte ∷ [])) found)
after_byte byte bound None shorter = tt
after_byte byte bound (Some halves) shorter = omega (arith, shorter)

where_tested : (test : Bool) (bound : ℕ) (found : Option Halves) → IsShorter bound found →
    IsShorter bound (if test then found else None)
where_tested true bound found shorter = shorter
where_tested false bound found shorter = tt

at_front : (text : List ℕ) → IsShorter (length text) (halves_at_front text)
unfolding after_separator
at_front [] = tt
at_front (byte ∷ later) = grind (arith, length-drop)

later_shorter : (text : List ℕ) → IsShorter (length text) (later_halves text)
unfolding later_halves
later_shorter [] = tt
later_shorter (byte ∷ later) = grind (arith, after_byte, either, where_tested, at_front, later_shorter later)

shorter : (text : List ℕ) → IsShorter (length text) (halves_of text)
unfolding halves_of
shorter text = either (length text) _ _ (at_front text) (later_shorter text)

-- what stands after the first separator is shorter than the text
pub after_shorter : (text : List ℕ) (halves : Halves) → halves_of text ≡ Some halves → length halves.after < length text
after_shorter text halves is = subst (IsShorter (length text)) is (shorter text)
