-- A fetch adds new words at the end of the fetch buffer, within its width and its room, or leaves it as it was.
use Rattle.rv_hardware.proofs.Words.{◌≡◌, ℕ, suc, ◌-◌, ◌≤◌, Bool, true, false, ◌⊎◌, List, [], ◌∷◌, ◌++◌, length}
use Rattle.rv_hardware.proofs.Words.{MatchBool, Option, MatchOption, option_and_then, refl, append-nil, arith}
use Rattle.rv_hardware.proofs.Words.{instruction_of, Memory, Each, Answers, EndsFor, FetchBuffer, Fetches, FetchesInto}
use Rattle.rv_hardware.proofs.Words.{is_halted, stop_after, FetchStop, Halted, Fetched}

-- what a fetch adds where the front was not halted
pub record Adds (answers : Answers) (ram : Memory) (cycle : ℕ) (old new : FetchBuffer) (stop : FetchStop) : Type 0 where
  pub added : List Fetched
  pub words : Fetches answers ram cycle old.width (old.capacity - length old.entries) old.next_pc added new.next_pc stop
  pub is : new ≡ record old { entries = old.entries ++ added; next_pc = new.next_pc; halted = is_halted stop }

module _ (answers : Answers) (ram : Memory) (cycle : ℕ) (old new : FetchBuffer) (stop : FetchStop) where
  cases_by : {P : Type 0} {b : Bool} → old.halted ≡ b → (old.halted ≡ true → new ≡ old → P) →
      (old.halted ≡ false → Adds answers ram cycle old new stop → P) →
      MatchBool b ((new ≡ old) × (stop ≡ Halted)) ((added : List Fetched) ×
      Fetches answers ram cycle old.width (old.capacity - length old.entries) old.next_pc added new.next_pc stop ×
      (new ≡ record old { entries = old.entries ++ added; next_pc = new.next_pc; halted = is_halted stop })) → P
  cases_by is halted runs given = grind arith

  -- fetch is halted and nothing changes, or it adds words
  pub fetch-cases : {P : Type 0} → (old.halted ≡ true → new ≡ old → P) →
      (old.halted ≡ false → Adds answers ram cycle old new stop → P) → FetchesInto answers ram cycle old new stop → P
  fetch-cases {P} halted runs fetches = cases_by refl halted runs fetches

-- a word that a fetch adds
abbrev pub IsNew : ℕ → Fetched → Type 0
IsNew cycle f = (f.cycle ≡ cycle) × (f.instruction ≡ option_and_then instruction_of f.word)

-- what some added words are
pub record Added (cycle width room : ℕ) (added : List Fetched) : Type 0 where
  pub are_new : Each (IsNew cycle) added
  pub within_width : length added ≤ width
  pub within_room : length added ≤ room
  pub goes_on : added ≡ [] → (width ≡ 0) ⊎ (room ≡ 0)

ends_with_none : (cycle width room : ℕ) (stop : FetchStop) → EndsFor width room stop → Added cycle width room []
ends_with_none cycle width room stop ends = grind arith

one_more : (cycle width room : ℕ) (f : Fetched) (fs : List Fetched) → IsNew cycle f → Added cycle width room fs →
    Added cycle (suc width) (suc room) (f ∷ fs)
one_more cycle width room f fs new added = grind arith

only_one : (cycle width room : ℕ) (f : Fetched) (fs : List Fetched) → IsNew cycle f → fs ≡ [] →
    Added cycle (suc width) (suc room) (f ∷ fs)
only_one cycle width room f fs new given = grind arith

by_stop : {cycle width room : ℕ} {f : Fetched} {fs : List Fetched} (stop : FetchStop) (next : ℕ) (o : Option FetchStop)
    {Rest : Type 0} →
    IsNew cycle f → (Rest → Added cycle width room fs) →
    MatchOption o Rest (λ reason. (fs ≡ []) × (next ≡ f.predicted) × (stop ≡ reason)) →
    Added cycle (suc width) (suc room) (f ∷ fs)
by_stop stop next o new rest h = grind (arith, one_more, only_one)

fetches_add : (answers : Answers) (ram : Memory) (cycle width room pc : ℕ) (fs : List Fetched) (next : ℕ)
    (stop : FetchStop) →
    Fetches answers ram cycle width room pc fs next stop → Added cycle width room fs
fetches_add answers ram cycle width room pc [] next stop h = ends_with_none cycle width room stop h.0
fetches_add answers ram cycle (suc width) (suc room) pc (f ∷ fs) next stop h =
    by_stop stop next (stop_after f) (h.0.cycle_is, h.0.instruction_is)
    (fetches_add answers ram cycle width room f.predicted fs next stop) h.1
fetches_add answers ram cycle width room pc (f ∷ fs) next stop h = absurd h

-- what the fetch phase leaves
pub record FetchPhase (cycle : ℕ) (old new : FetchBuffer) : Type 0 where
  pub added : List Fetched
  pub entries : new.entries ≡ old.entries ++ added
  pub are_new : Each (IsNew cycle) added
  pub within_width : length added ≤ old.width
  pub within_room : length added ≤ old.capacity - length old.entries
  pub capacity : new.capacity ≡ old.capacity
  pub width : new.width ≡ old.width
  pub goes_on : added ≡ [] → (old.halted ≡ true) ⊎ ((old.width ≡ 0) ⊎ (old.capacity - length old.entries ≡ 0))

-- a fetch adds new words at the end of the fetch buffer, within its width and room
pub fetch_phase : (answers : Answers) (ram : Memory) (cycle : ℕ) (old new : FetchBuffer) (stop : FetchStop) →
    FetchesInto answers ram cycle old new stop → FetchPhase cycle old new
fetch_phase answers ram cycle old new stop fetches = grind (arith, fetch-cases, append-nil, fetches_add)
