-- The stores older than an instruction are the same in the queue and in the definition.
use Rattle.rv_core.proofs.Words.{◌≡◌, ℕ, ◌+◌, ◌<◌, ◌≤◌, Bool, true, false, cond, List, [], ◌∷◌, ◌++◌, length, All, refl}
use Rattle.rv_core.proofs.Words.{ap, ◌∙◌, append_assoc, arith, le-ltb, lt-ltb, All-cons, All-head, All-tail, list_all}
use Rattle.rv_core.proofs.Words.{is_store, is_known_store, Store, Entry, Hardware, broadcast_of, store_of_broadcast}
use Rattle.rv_core.proofs.Words.{stores_of, stores_after, AreBelow, AreBelow-append, AreBelow-head, AreBelow-tail}
use Rattle.rv_core.proofs.Words.{AreBelow-weaken, below-split, first_unknown, older_than, is_known_before}

abbrev seq_of : Store → ℕ
seq_of s = s.seq

pub stores_of-append : (n : ℕ) (xs ys : List Entry) → stores_of n (xs ++ ys) ≡ stores_of n xs
    ++ stores_of (n + length xs) ys
stores_of-append n [] ys = ap (λ m. stores_of m ys) (omega arith)
stores_of-append n (e ∷ xs) ys =
    grind (arith, stores_of-append (n + 1) xs ys)

-- a list with one more, where it is a store
pub All-one : (P : Store → Type 0) (b : Bool) (s : Store) (xs : List Store) → P s → All P xs →
    All P (cond b (s ∷ xs) xs)
All-one P true s xs here rest = All-cons P s xs here rest
All-one P false s xs here rest = rest

-- none is after the last entry
pub stores_of-below : (n m : ℕ) (xs : List Entry) → n + length xs ≤ m → AreBelow seq_of m (stores_of n xs)
stores_of-below n m [] le = λ k d within. absurd (omega arith)
stores_of-below n m (e ∷ xs) le =
    All-one (λ s. s.seq < m) (is_store e.instruction)
    (record { seq = n; state = store_of_broadcast (broadcast_of e.stage) })
    (stores_of (n + 1) xs) (omega arith) (stores_of-below (n + 1) m xs (omega arith))

-- none is before the first
pub stores_of-from : (n m : ℕ) (xs : List Entry) → m ≤ n → All (λ s. m ≤ s.seq) (stores_of n xs)
stores_of-from n m [] le = λ k d within. absurd (omega arith)
stores_of-from n m (e ∷ xs) le =
    All-one (λ s. m ≤ s.seq) (is_store e.instruction)
    (record { seq = n; state = store_of_broadcast (broadcast_of e.stage) })
    (stores_of (n + 1) xs) le (stores_of-from (n + 1) m xs (omega arith))

-- whether all are known before a number that stands between two lists of stores

known_from : (m : ℕ) (ys : List Store) → All (λ s. m ≤ s.seq) ys → is_known_before (first_unknown ys) m ≡ true
known_from m [] high = refl
known_from m (y ∷ ys) high =
    grind (
      arith,
      le-ltb y.seq m (All-head (λ s. m ≤ s.seq) y ys high),
      known_from m ys (All-tail (λ s. m ≤ s.seq) y ys high),
    )

known_before : (m : ℕ) (xs ys : List Store) → AreBelow seq_of m xs → All (λ s. m ≤ s.seq) ys →
    is_known_before (first_unknown (xs ++ ys)) m ≡ list_all is_known_store xs
known_before m [] ys low high = known_from m ys high
known_before m (x ∷ xs) ys low high =
    grind (
      arith,
      lt-ltb x.seq m (AreBelow-head seq_of m x xs low),
      known_before m xs ys (AreBelow-tail seq_of m x xs low) high,
    )

module _ (h : Hardware) (retired : AreBelow seq_of h.rob.retired h.committed) (older rest : List Entry) where
  abbrev place : ℕ
  place = h.rob.retired + length older

  split : stores_after h (older ++ rest) ≡ stores_after h older ++ stores_of place rest
  split = grind (arith, stores_of-append, append_assoc)

  low : AreBelow seq_of place (stores_after h older)
  low =
      AreBelow-append seq_of place h.committed (stores_of h.rob.retired older)
      (AreBelow-weaken seq_of h.rob.retired place h.committed (omega arith) retired)
      (stores_of-below h.rob.retired place older (omega arith))

  high : All (λ s. place ≤ s.seq) (stores_of place rest)
  high = stores_of-from place place rest (omega arith)

  -- the queue's stores below an instruction's number are those after the older ones
  pub older_than-stores_after : older_than place (stores_after h (older ++ rest)) ≡ stores_after h older
  older_than-stores_after = ap (older_than place) split
      ∙ below-split seq_of place (stores_after h older) (stores_of place rest) low high

  -- all older stores are known where the first that is not is no older one
  pub is_known_before-stores_after : is_known_before (first_unknown (stores_after h (older ++ rest))) place
      ≡ list_all is_known_store (stores_after h older)
  is_known_before-stores_after = ap (λ l. is_known_before (first_unknown l) place) split
      ∙ known_before place (stores_after h older) (stores_of place rest) low high
