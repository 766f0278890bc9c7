-- The oldest instruction that passes a test stands after some that do not, and a change of it changes no other.
use Rattle.rv_hardware.proofs.Words.{◌≡◌, ℕ, ◌+◌, ◌≤◌, Bool, true, false, cond, List, [], ◌∷◌, ◌++◌, length, Some, None}
use Rattle.rv_hardware.proofs.Words.{Option, refl, append_assoc, append-nil, arith, le-ltb, lt-ltb, eq-eqb, ne_eqb}
use Rattle.rv_hardware.proofs.Words.{entries_below, with_entry, Entry, oldest, oldest_from, EveryAfter}
use Rattle.rv_hardware.proofs.Words.{EveryAfter-append}

-- what a search for the oldest finds
abbrev pub Finds : (List Entry → Entry → Bool) → List Entry → Option (List Entry × Entry) → Type 0
Finds test entries None = EveryAfter (λ before e. test before e ≡ false) [] entries
Finds test entries (Some found) =
    (younger : List Entry) × (entries ≡ found.0 ++ found.1 ∷ younger) × (test found.0 found.1 ≡ true) ×
    EveryAfter (λ before e. test before e ≡ false) [] found.0

one_after : (P : List Entry → Entry → Type 0) (before : List Entry) (e : Entry) → EveryAfter P [] before → P before e →
    EveryAfter P [] (before ++ e ∷ [])
one_after P before e h g = EveryAfter-append P [] before _ h (g, tt)

finds_here : (test : List Entry → Entry → Bool) {b : Bool} (before es : List Entry) (e : Entry)
    (rest : Option (List Entry × Entry)) →
    b ≡ test before e → EveryAfter (λ older x. test older x ≡ false) [] before →
    (b ≡ false → Finds test ((before ++ e ∷ []) ++ es) rest) →
    Finds test (before ++ e ∷ es) (cond b (Some (before, e)) rest)
finds_here test before es e rest is given further = grind (arith, append_assoc)

finds_from : (test : List Entry → Entry → Bool) (before es : List Entry) →
    EveryAfter (λ older x. test older x ≡ false) [] before → Finds test (before ++ es) (oldest_from test before es)
finds_from test before [] none = rw (append-nil before) none
finds_from test before (e ∷ es) none =
    finds_here test before es e (oldest_from test (before ++ e ∷ []) es) refl none
    (λ fails. finds_from test _ es (one_after _ before e none fails))

-- what the search for the oldest finds is the oldest that passes, or none passes
pub oldest_finds : (test : List Entry → Entry → Bool) (es : List Entry) → Finds test es (oldest test es)
oldest_finds test es = finds_from test [] es tt

-- a change by sequence number changes the instruction at its place alone
pub with_entry-at : (change : Entry → Entry) (seq first : ℕ) (older younger : List Entry) (e : Entry) →
    seq ≡ first + length older → with_entry change seq first (older ++ e ∷ younger) ≡ older ++ change e ∷ younger
with_entry-at change seq first [] younger e at = rw (eq-eqb seq first (omega arith)) refl
with_entry-at change seq first (o ∷ older) younger e at =
    grind (arith, ne_eqb, with_entry-at change seq (first + 1) older younger e (omega arith))

none_below : (n first : ℕ) (younger : List Entry) → n ≤ first → entries_below n first younger ≡ []
none_below n first [] past = refl
none_below n first (e ∷ younger) past = rw (le-ltb first n past) refl

-- the entries up to a sequence number are those up to its place
pub entries_below-at : (seq first : ℕ) (older younger : List Entry) (e : Entry) → seq ≡ first + length older →
    entries_below (seq + 1) first (older ++ e ∷ younger) ≡ older ++ e ∷ []
entries_below-at seq first [] younger e at = grind (arith, lt-ltb, none_below)
entries_below-at seq first (o ∷ older) younger e at =
    grind (arith, lt-ltb, entries_below-at seq (first + 1) older younger e (omega arith))
