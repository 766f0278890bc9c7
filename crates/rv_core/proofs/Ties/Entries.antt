-- A change of the entry of a number, and a cut at one, keep what holds of the entries.
use Rattle.rv_core.proofs.Words.{◌-◌, ◌≡◌, ℕ, suc, ◌+◌, ◌<◌, ◌≤◌, true, false, cond, List, [], ◌∷◌, length, ◌==◌}
use Rattle.rv_core.proofs.Words.{slice_index_or as get_or, Some, All, AllPairs, refl, inl, inr, arith, eqb-true}
use Rattle.rv_core.proofs.Words.{cases_Bool, All-cons, All-head, All-tail, AllPairs-cons, entries_below, with_entry}
use Rattle.rv_core.proofs.Words.{Entry, entry_of}
use Rattle.std.proofs.lemmas.List.{get_or-take, length-take}
use Rattle.std.proofs.lemmas.List.Elements.{All-take}
use Rattle.rv_rob.proofs.Places.{entries_below-take}

-- the entry of a number is the first one, or stands after it
pub data IsHeld (n s : ℕ) (d : Entry) (es : List Entry) (e : Entry) : Type 0 where
  at_head : (n == s) ≡ true → n ≡ s → d ≡ e → IsHeld n s d es e
  in_tail : (n == s) ≡ false → entry_of n (s + 1) es ≡ Some e → IsHeld n s d es e

-- an entry that is held in a list is its first one, or is held after it
pub held_at : (n s : ℕ) (d : Entry) (es : List Entry) (e : Entry) → entry_of n s (d ∷ es) ≡ Some e → IsHeld n s d es e
held_at n s d es e held = grind arith

-- the number of an entry that is held lies among those of the list
pub entry_of-from : (n s : ℕ) (es : List Entry) (e : Entry) → entry_of n s es ≡ Some e → (s ≤ n) × (n < s + length es)
entry_of-from n s [] e held = absurd (cc)
entry_of-from n s (d ∷ es) e held = grind (arith, eqb-true, entry_of-from n (s + 1) es e)

-- nothing is older than the first
pub entries_below-none : (n s : ℕ) (es : List Entry) → n ≤ s → entries_below n s es ≡ []
entries_below-none n s es le = entries_below-take 0 n s es (omega (arith, le))

-- a change of an entry leaves as many
pub length-with_entry : (f : Entry → Entry) (n s : ℕ) (es : List Entry) → length (with_entry f n s es) ≡ length es
length-with_entry f n s [] = refl
length-with_entry f n s (e ∷ es) = grind (arith, length-with_entry f n (s + 1) es)

-- a cut leaves no more
pub length-entries_below : (n s : ℕ) (es : List Entry) → length (entries_below n s es) ≤ length es
length-entries_below n s [] = omega arith
length-entries_below n s (e ∷ es) = grind (arith, length-entries_below n (s + 1) es)

-- what a change leaves at its number
pub entry_of-changed : (f : Entry → Entry) (n s : ℕ) (es : List Entry) (e : Entry) → entry_of n s es ≡ Some e →
    entry_of n s (with_entry f n s es) ≡ Some (f e)
entry_of-changed f n s [] e held = absurd (cc)
entry_of-changed f n s (d ∷ es) e held = grind (arith, entry_of-changed f n (s + 1) es e)

-- changes that leave the same at its number
pub with_entry-alike : (f g : Entry → Entry) (n s : ℕ) (es : List Entry) (e : Entry) → entry_of n s es ≡ Some e →
    f e ≡ g e →
    with_entry f n s es ≡ with_entry g n s es
with_entry-alike f g n s [] e held alike = refl
with_entry-alike f g n s (d ∷ es) e held alike = grind (arith, with_entry-alike f g n (s + 1) es e)

-- ---- what holds of each entry
module _ (P : Entry → Type 0) where
  -- a change that keeps it of the entry of that number
  pub All-with_entry : (f : Entry → Entry) (n s : ℕ) (es : List Entry) →
      ((e : Entry) → entry_of n s es ≡ Some e → P e → P (f e)) → All P es → All P (with_entry f n s es)
  All-with_entry f n s [] keeps each = each
  All-with_entry f n s (e ∷ es) keeps each = elim (cases_Bool (n == s)) [
    | inl equal ↦
        let held : entry_of n s (e ∷ es) ≡ Some e = rw equal refl in
        rw equal (All-cons P (f e) es (keeps e held (All-head P e es each)) (All-tail P e es each))
    | inr other ↦
        rw other (All-cons P e (with_entry f n (s + 1) es) (All-head P e es each)
        (All-with_entry f n (s + 1) es (λ d held. keeps d (rw other held)) (All-tail P e es each)))
  ]

  -- what holds of each holds of those that a cut leaves
  pub All-entries_below : (n s : ℕ) (es : List Entry) → All P es → All P (entries_below n s es)
  All-entries_below n s es each = rw (entries_below-take (n - s) n s es refl) (All-take P (n - s) es each)

-- ---- what holds of each entry and all later ones
module _ (R : Entry → Entry → Type 0) where
  pairs-head : (e : Entry) (es : List Entry) → AllPairs R (e ∷ es) → All (R e) es
  pairs-head e es pairs k d lt = pairs 0 (suc k) d (omega arith) (omega arith)

  -- what holds of each entry and all later ones holds so without the first
  pub pairs-tail : (e : Entry) (es : List Entry) → AllPairs R (e ∷ es) → AllPairs R es
  pairs-tail e es pairs i j d lt within = pairs (suc i) (suc j) d (omega arith) (omega arith)

  -- what holds of each pair holds of those that a cut leaves
  pub pairs-entries_below : (n s : ℕ) (es : List Entry) → AllPairs R es → AllPairs R (entries_below n s es)
  pairs-entries_below n s es pairs = grind (arith, entries_below-take, length-take, get_or-take)

  -- and of those with a changed entry, where the change keeps it
  pub pairs-with_entry : (f : Entry → Entry) → ((d e : Entry) → R d e → R (f d) e) →
      ((d e : Entry) → R d e → R d (f e)) →
      (n s : ℕ) (es : List Entry) → AllPairs R es → AllPairs R (with_entry f n s es)
  pairs-with_entry f older younger n s [] pairs = pairs
  pairs-with_entry f older younger n s (e ∷ es) pairs =
      elim (n == s) as (λ b. AllPairs R (cond b (f e ∷ es) (e ∷ with_entry f n (s + 1) es))) [
        | true ↦ AllPairs-cons R (f e) es (λ k d lt. older e (get_or es k d) (pairs-head e es pairs k d lt))
            (pairs-tail e es pairs)
        | false ↦ AllPairs-cons R e (with_entry f n (s + 1) es)
            (All-with_entry (R e) f n (s + 1) es (λ d held. younger e d) (pairs-head e es pairs))
            (pairs-with_entry f older younger n (s + 1) es (pairs-tail e es pairs))
      ]
