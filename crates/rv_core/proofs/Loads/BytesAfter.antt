-- A byte after stores is that of the youngest store which covers it, else the one below.
use Rattle.rv_core.proofs.Words.{◌≡◌, ℕ, ◌+◌, ◌-◌, ◌<◌, ◌≤◌, List, [], ◌∷◌, length, slice_get, slice_index_or as get_or}
use Rattle.rv_core.proofs.Words.{Some, Option, unwrap_or, sym, refl, ap, ◌∙◌, arith, All-head, All-tail, option_or}
use Rattle.rv_core.proofs.Words.{StoreAccess, overwritten, get_or-overwritten_above, get_or-overwritten_below}
use Rattle.rv_core.proofs.Words.{get_or-overwritten_in, length-overwritten, youngest_byte, byte_of_state, written_at}
use Rattle.rv_core.proofs.Words.{Store, StoreState, bytes_after, slice_get-get_or, slice_get_past, LieIn, LiesIn}
use Rattle.rv_hardware.specs.InFlight.{with_store}

unwrap_or-option_or : (a b : Option ℕ) (d : ℕ) → unwrap_or (option_or a b) d ≡ unwrap_or a (unwrap_or b d)
unwrap_or-option_or a b d = grind arith

module _ (base : ℕ) where
  pub length-with_store : (size : ℕ) (state : StoreState) (bytes : List ℕ) → length bytes ≡ size →
      LiesIn base size state →
      length (with_store base state bytes) ≡ size
  length-with_store size state bytes sized inside = grind (arith, length-overwritten)

  get_or-with_access : (size address : ℕ) (access : StoreAccess) (bytes : List ℕ) → length bytes ≡ size →
      base ≤ access.address →
      access.address + length access.bytes ≤ base + size → base ≤ address →
      get_or (overwritten bytes (access.address - base) access.bytes) (address - base) 0
      ≡ unwrap_or (written_at address access) (get_or bytes (address - base) 0)
  get_or-with_access size address access bytes sized low high at =
      grind (
        arith,
        get_or-overwritten_below,
        get_or-overwritten_in,
        get_or-overwritten_above,
        slice_get-get_or,
        slice_get_past,
      )

  get_or-with_store : (size address : ℕ) (state : StoreState) (bytes : List ℕ) → length bytes ≡ size →
      LiesIn base size state →
      base ≤ address → get_or (with_store base state bytes) (address - base) 0
      ≡ unwrap_or (byte_of_state address state) (get_or bytes (address - base) 0)
  get_or-with_store size address state bytes sized inside given = grind (arith, get_or-with_access)

  -- stores within RAM leave as many bytes as there were
  pub length-bytes_after : (size : ℕ) (ss : List Store) (bytes : List ℕ) → length bytes ≡ size → LieIn base size ss →
      length (bytes_after base ss bytes) ≡ size
  length-bytes_after size [] bytes sized inside = sized
  length-bytes_after size (s ∷ ss) bytes sized inside =
      let P : Store → Type 0 = λ t. LiesIn base size t.state in
      length-bytes_after size ss (with_store base s.state bytes)
      (length-with_store size s.state bytes sized (All-head P s ss inside)) (All-tail P s ss inside)

  -- a byte of memory after stores
  pub get_or-bytes_after : (size address : ℕ) (ss : List Store) (bytes : List ℕ) → length bytes ≡ size →
      LieIn base size ss →
      base ≤ address → get_or (bytes_after base ss bytes) (address - base) 0
      ≡ unwrap_or (youngest_byte address ss) (get_or bytes (address - base) 0)
  get_or-bytes_after size address [] bytes sized inside at = refl
  get_or-bytes_after size address (s ∷ ss) bytes sized inside at =
      let P : Store → Type 0 = λ t. LiesIn base size t.state in
      let here = All-head P s ss inside in
      get_or-bytes_after size address ss (with_store base s.state bytes)
      (length-with_store size s.state bytes sized here)
      (All-tail P s ss inside) at
      ∙ ap (unwrap_or (youngest_byte address ss)) (get_or-with_store size address s.state bytes sized here at)
      ∙ sym (unwrap_or-option_or (youngest_byte address ss) (byte_of_state address s.state)
      (get_or bytes (address - base) 0))

  -- the same where there is a byte
  pub slice_get-bytes_after : (size address : ℕ) (ss : List Store) (bytes : List ℕ) → length bytes ≡ size →
      LieIn base size ss →
      base ≤ address → address < base + size →
      slice_get (bytes_after base ss bytes) (address - base)
      ≡ Some (unwrap_or (youngest_byte address ss) (get_or bytes (address - base) 0))
  slice_get-bytes_after size address ss bytes sized inside at within =
      let long = length-bytes_after size ss bytes sized inside in
      slice_get-get_or (bytes_after base ss bytes) (address - base) 0 (omega (arith, long))
      ∙ ap (λ n. Some n) (get_or-bytes_after size address ss bytes sized inside at)
