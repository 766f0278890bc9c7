-- Entry i of a list whose first has the number `oldest` has the number oldest + i.
use Rattle.std.proofs.Common.{◌≡◌, ℕ, zero, suc, ◌+◌, ◌-◌, ◌<◌, ◌≤◌, List, [], ◌∷◌, length, slice_get, slice_set}
use Rattle.std.proofs.Common.{take, None, Some, inl, inr, refl, ap, sym, ◌∙◌, arith, eq-eqb, ne_eqb, lt-ltb, le-ltb}
use Rattle.std.proofs.lemmas.Bool.{cases_lt}
use Rattle.std.proofs.lemmas.Option.{slice_get_past}
use Rattle.rv_rob.specs.declared.entry.Entry.{Entry}
use Rattle.rv_rob.specs.ReorderBuffer.{entry_of, with_entry, entries_below}

-- the place of the entry of number n: its distance from the oldest, or where it is older than all, a place past the youngest
pub record IsPlace (i n oldest : ℕ) (es : List Entry) : Type 0 where
  pub held : oldest ≤ n → i ≡ n - oldest
  pub retired : n < oldest → length es ≤ i

by_place : (P : Type 0) (i n oldest : ℕ) (es : List Entry) → IsPlace i n oldest es → (n ≡ oldest + i → P) →
    (n < oldest → length es ≤ i → P) → P
by_place P i n oldest es place at older =
    elim (cases_lt n oldest) [
      | inl lt ↦ older lt (place.retired lt)
      | inr le ↦ at (omega (arith, place.held le))
    ]

-- an entry is found as far from the oldest as its number is
pub entry_of-distance : (i n oldest : ℕ) (es : List Entry) → n ≡ oldest + i → entry_of n oldest es ≡ slice_get es i
entry_of-distance i n oldest [] e = refl
entry_of-distance zero n oldest (x ∷ es) e = rw (eq-eqb n oldest (omega arith)) refl
entry_of-distance (suc i) n oldest (x ∷ es) e =
    rw (ne_eqb n oldest (omega arith)) (entry_of-distance i n (oldest + 1) es (omega arith))

entry_of-older : (n oldest : ℕ) (es : List Entry) → n < oldest → entry_of n oldest es ≡ None
entry_of-older n oldest [] h = refl
entry_of-older n oldest (x ∷ es) h =
    rw (ne_eqb n oldest (omega arith)) (entry_of-older n (oldest + 1) es (omega arith))

-- the entry of a number is the one at its place
pub entry_of-place : (i n oldest : ℕ) (es : List Entry) → IsPlace i n oldest es → entry_of n oldest es ≡ slice_get es i
entry_of-place i n oldest es place =
    by_place _ i n oldest es place (λ at. entry_of-distance i n oldest es at)
    (λ older past. entry_of-older n oldest es older ∙ sym (slice_get_past es i past))

module _ (change : Entry → Entry) where
  with_entry-distance : (i n oldest : ℕ) (es : List Entry) (x : Entry) → n ≡ oldest + i → slice_get es i ≡ Some x
      → with_entry change n oldest es ≡ slice_set es i (change x)
  with_entry-distance i n oldest [] x e held = cc
  with_entry-distance zero n oldest (y ∷ es) x e held = rw (eq-eqb n oldest (omega arith)) (cc)
  with_entry-distance (suc i) n oldest (y ∷ es) x e held =
      rw (ne_eqb n oldest (omega arith))
      (ap (λ ys. y ∷ ys) (with_entry-distance i n (oldest + 1) es x (omega arith) held))

  with_entry-past : (i n oldest : ℕ) (es : List Entry) → n ≡ oldest + i → slice_get es i ≡ None →
      with_entry change n oldest es ≡ es
  with_entry-past i n oldest [] e none = refl
  with_entry-past zero n oldest (y ∷ es) e none = cc
  with_entry-past (suc i) n oldest (y ∷ es) e none =
      rw (ne_eqb n oldest (omega arith)) (ap (λ ys. y ∷ ys) (with_entry-past i n (oldest + 1) es (omega arith) none))

  with_entry-older : (n oldest : ℕ) (es : List Entry) → n < oldest → with_entry change n oldest es ≡ es
  with_entry-older n oldest [] h = refl
  with_entry-older n oldest (y ∷ es) h =
      rw (ne_eqb n oldest (omega arith)) (ap (λ ys. y ∷ ys) (with_entry-older n (oldest + 1) es (omega arith)))

  -- a change of an entry that is held is a write at its place
  pub with_entry-write : (i n oldest : ℕ) (es : List Entry) (x : Entry) → IsPlace i n oldest es →
      slice_get es i ≡ Some x
      → with_entry change n oldest es ≡ slice_set es i (change x)
  with_entry-write i n oldest es x place held =
      by_place _ i n oldest es place (λ at. with_entry-distance i n oldest es x at held)
      (λ older past. let none = slice_get_past es i past in cc)

  -- a change of an entry that is not held changes nothing
  pub with_entry-none : (i n oldest : ℕ) (es : List Entry) → IsPlace i n oldest es → slice_get es i ≡ None →
      with_entry change n oldest es ≡ es
  with_entry-none i n oldest es place none =
      by_place _ i n oldest es place (λ at. with_entry-past i n oldest es at none)
      (λ older past. with_entry-older n oldest es older)

-- what is below a number is the beginning of the list
pub entries_below-take : (i n oldest : ℕ) (es : List Entry) → i ≡ n - oldest → entries_below n oldest es ≡ take i es
entries_below-take zero n oldest [] e = refl
entries_below-take (suc i) n oldest [] e = refl
entries_below-take zero n oldest (y ∷ es) e = rw (le-ltb oldest n (omega arith)) refl
entries_below-take (suc i) n oldest (y ∷ es) e =
    rw (lt-ltb oldest n (omega arith)) (ap (λ ys. y ∷ ys) (entries_below-take i n (oldest + 1) es (omega arith)))
