-- What is kept for addresses, one thing for each, in increasing order of address.
use Rattle.std.specs.Prelude.{◌≡◌, ℕ, ◌<◌, ◌≤◌, ◌==◌, nat_lt, if◌then◌else◌, List, [], ◌∷◌, length, slice_set}
use Rattle.std.specs.Coded.{×_prop, Unit-prop, le_prop}
use Rattle.std.specs.List.{slice_index_or}

-- all are of addresses above this one
abbrev pub AreAbove : {X : Type 0} → (X → ℕ) → ℕ → List X → Type 0
AreAbove address_of low [] = Unit {0}
AreAbove address_of low (x ∷ xs) = (low < address_of x) × AreAbove address_of low xs

-- each address is below those after it
abbrev pub IsInOrder : {X : Type 0} → (X → ℕ) → List X → Type 0
IsInOrder address_of [] = Unit {0}
IsInOrder address_of (x ∷ xs) = AreAbove address_of (address_of x) xs × IsInOrder address_of xs

pub AreAbove-prop : {X : Type 0} (address_of : X → ℕ) (low : ℕ) (xs : List X) → IsProp (AreAbove address_of low xs)
AreAbove-prop address_of low [] = Unit-prop
AreAbove-prop address_of low (x ∷ xs) = ×_prop le_prop (AreAbove-prop address_of low xs)

pub IsInOrder-prop : {X : Type 0} (address_of : X → ℕ) (xs : List X) → IsProp (IsInOrder address_of xs)
IsInOrder-prop address_of [] = Unit-prop
IsInOrder-prop address_of (x ∷ xs) = ×_prop (AreAbove-prop address_of (address_of x) xs) (IsInOrder-prop address_of xs)

-- what stands at a place is that of an address
pub record IsPlaceOf {X : Type 0} (address_of : X → ℕ) (address place : ℕ) (xs : List X) : Type 0 where
  pub within : place < length xs
  pub before : (k : ℕ) (x : X) → k < place → address_of (slice_index_or xs k x) < address
  pub there : (x : X) → address_of (slice_index_or xs place x) ≡ address

-- there is none of an address, and those before a place are of lower ones, those from it on of higher ones
pub record IsPlaceFor {X : Type 0} (address_of : X → ℕ) (address place : ℕ) (xs : List X) : Type 0 where
  pub within : place ≤ length xs
  pub before : (k : ℕ) (x : X) → k < place → address_of (slice_index_or xs k x) < address
  pub after : (k : ℕ) (x : X) → place ≤ k → k < length xs → address < address_of (slice_index_or xs k x)

-- a change of what is kept for an address, which begins where nothing is kept for it yet
abbrev pub with_change : {X : Type 0} → (X → ℕ) → (ℕ → X) → ℕ → (X → X) → List X → List X
with_change address_of nothing_at address change [] = change (nothing_at address) ∷ []
with_change address_of nothing_at address change (x ∷ xs) =
    if address_of x == address then change x ∷ xs
    else (if nat_lt address (address_of x) then change (nothing_at address) ∷ x ∷ xs
    else x ∷ with_change address_of nothing_at address change xs)

-- any change at a place of the new list is that change of what the old one keeps for the address
abbrev pub StandsFor : {X : Type 0} → (X → ℕ) → (ℕ → X) → ℕ → ℕ → List X → List X → Type 0
StandsFor {X} address_of nothing_at address place old new =
    (change : X → X) (x : X) →
    with_change address_of nothing_at address change old ≡ slice_set new place (change (slice_index_or new place x))
