-- What instructions in flight give, one after another, keeps its numbers, and a cut or a push of them is one of it.
use Rattle.rv_core.proofs.Words.{◌≡◌, ℕ, ◌+◌, ◌≤◌, List, [], ◌∷◌, ◌++◌, length, All, refl, ◌∙◌, inl, inr, append_assoc}
use Rattle.rv_core.proofs.Words.{append-nil, arith, length-append, le-ltb, lt-ltb, cases_lt, All-append, entries_below}
use Rattle.rv_core.proofs.Words.{with_entry, Entry, AreBelow, below, AreBelow-append, below-all, below-append}
use Rattle.rv_core.proofs.Words.{below-none}

-- the state of what needs none
abbrev pub nothing : Unit {0} → ℕ → Entry → Unit {0}
nothing st s e = tt

module _ {S : Type 0} (next : S → ℕ → Entry → S) where
  -- the state after some instructions, the first of which has a sequence number
  abbrev pub after_entries : S → ℕ → List Entry → S
  after_entries st s [] = st
  after_entries st s (e ∷ es) = after_entries (next st s e) (s + 1) es

  module _ {X : Type 0} (own : S → ℕ → Entry → List X) where
    -- what the instructions give, one after another
    abbrev pub gathered : S → ℕ → List Entry → List X
    gathered st s [] = []
    gathered st s (e ∷ es) = own st s e ++ gathered (next st s e) (s + 1) es

    -- one instruction more
    pub gathered-push : (st : S) (s n : ℕ) (es : List Entry) (e : Entry) → n ≡ s + length es →
        gathered st s (es ++ e ∷ []) ≡ gathered st s es ++ own (after_entries st s es) n e
    gathered-push st s n [] e is = grind (arith, append-nil)
    gathered-push st s n (d ∷ es) e is = grind (arith, append_assoc, gathered-push (next st s d) (s + 1) n es e)

    -- a change of one instruction that none of this sees
    pub gathered-same : (f : Entry → Entry) → ((st : S) (s : ℕ) (e : Entry) → own st s (f e) ≡ own st s e) →
        ((st : S) (s : ℕ) (e : Entry) → next st s (f e) ≡ next st s e)
        → (n : ℕ) (st : S) (s : ℕ) (es : List Entry) → gathered st s (with_entry f n s es) ≡ gathered st s es
    gathered-same f own_is next_is n st s [] = refl
    gathered-same f own_is next_is n st s (e ∷ es) =
        grind (arith, own_is, next_is, gathered-same f own_is next_is n (next st s e) (s + 1) es)

    -- an instruction gives one at most
    pub gathered-length : ((st : S) (s : ℕ) (e : Entry) → length (own st s e) ≤ 1) →
        (st : S) (s : ℕ) (es : List Entry) →
        length (gathered st s es) ≤ length es
    gathered-length one st s [] = omega arith
    gathered-length one st s (e ∷ es) =
        omega (
          arith,
          length-append (own st s e) (gathered (next st s e) (s + 1) es),
          one st s e,
          gathered-length one (next st s e) (s + 1) es,
        )

    -- what an instruction gives has its number
    module _ (number : X → ℕ) (at : (st : S) (s : ℕ) (e : Entry) → All (λ x. number x ≡ s) (own st s e)) where
      -- what all give has no smaller number than the first instruction
      pub gathered-from : (m : ℕ) (st : S) (s : ℕ) (es : List Entry) → m ≤ s →
          All (λ x. m ≤ number x) (gathered st s es)
      gathered-from m st s [] le = λ k d lt. absurd (omega arith)
      gathered-from m st s (e ∷ es) le =
          All-append (λ x. m ≤ number x) (own st s e) (gathered (next st s e) (s + 1) es)
          (λ k d lt. omega (arith, at st s e k d lt, le)) (gathered-from m (next st s e) (s + 1) es (omega (arith, le)))

      -- and smaller ones than the next instruction will have
      pub gathered-below : (n : ℕ) (st : S) (s : ℕ) (es : List Entry) → s + length es ≤ n →
          AreBelow number n (gathered st s es)
      gathered-below n st s [] le = λ k d lt. absurd (omega arith)
      gathered-below n st s (e ∷ es) le =
          AreBelow-append number n (own st s e) (gathered (next st s e) (s + 1) es)
          (λ k d lt. omega (arith, at st s e k d lt, le))
          (gathered-below n (next st s e) (s + 1) es (omega (arith, le)))

      -- the instructions below a number
      pub gathered-cut : (n : ℕ) (st : S) (s : ℕ) (es : List Entry) →
          below number n (gathered st s es) ≡ gathered st s (entries_below n s es)
      gathered-cut n st s [] = refl
      gathered-cut n st s (e ∷ es) = elim (cases_lt s n) [
        | inl low ↦
            rw (lt-ltb s n low) (
            below-append number n (own st s e) (gathered (next st s e) (s + 1) es) ∙
            (λ i. below-all number n (own st s e) (λ k d lt. omega (arith, at st s e k d lt, low)) i ++ gathered-cut n
            (next st s e) (s + 1) es i)
            )
        | inr high ↦
            rw (le-ltb s n high) (below-none number n (gathered st s (e ∷ es)) (gathered-from n st s (e ∷ es) high))
      ]
