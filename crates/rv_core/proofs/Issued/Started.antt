-- The start of an instruction changes one of a list of entries, and what follows from that list by this one alone.
use Rattle.rv_core.proofs.Words.{◌≡◌, ℕ, ◌+◌, ◌<◌, ◌≤◌, true, false, ◌≢◌, List, [], ◌∷◌, ◌++◌, length, nat_lt, All, sym}
use Rattle.rv_core.proofs.Words.{refl, ap, ◌∙◌, append_assoc, arith, le-ltb, lt-ltb, ne_eqb, cond-true, All-append}
use Rattle.rv_core.proofs.Words.{All-cons, All-head, All-tail, Message, Issue, Kind, started, Entry, Stage, Running}
use Rattle.rv_core.proofs.Words.{is_stationed, is_waiting, stores_of, holds, placed, PendingResult, RegisterStatus}
use Rattle.rv_core.proofs.Words.{pending_from, pending_of, status_with, waiting_from}
use Rattle.rv_core.proofs.Issued.Search.{status_started}

module _ (issue : Issue) (message : Message) (e : Entry) (rest : List Entry) where
  abbrev e' : Entry
  e' = started issue message e

  -- what holds of each, and of the one that started
  pub All_started : (P : Entry → Type 0) (before : List Entry) → P e' → All P (before ++ e ∷ rest) →
      All P (before ++ e' ∷ rest)
  All_started P [] here all = All-cons P e' rest here (All-tail P e rest all)
  All_started P (x ∷ before) here all =
      All-cons P x (before ++ e' ∷ rest) (All-head P x (before ++ e ∷ rest) all)
      (All_started P before here (All-tail P x (before ++ e ∷ rest) all))

  -- the start of an instruction changes no store
  pub stores_started : is_waiting e.stage ≡ true → (n : ℕ) (before : List Entry) →
      stores_of n (before ++ e' ∷ rest) ≡ stores_of n (before ++ e ∷ rest)
  stores_started waits n [] = grind arith
  stores_started waits n (x ∷ before) = grind (arith, stores_started waits (n + 1) before)

  -- the start of an instruction of another kind changes none of these stations
  pub others_started : (kind : Kind) → is_waiting e.stage ≡ true → is_stationed kind e ≡ false →
      (status : RegisterStatus) (n : ℕ) (before : List Entry) →
      waiting_from kind status n (before ++ e' ∷ rest) ≡ waiting_from kind status n (before ++ e ∷ rest)
  others_started kind waits away status n [] =
      grind (arith, status_started status n e issue message waits)
  others_started kind waits away status n (x ∷ before) =
      grind (arith, others_started kind waits away (status_with status n x) (n + 1) before)

-- the results in execution

pending_from-append : (n : ℕ) (xs ys : List Entry) →
    pending_from n (xs ++ ys) ≡ pending_from n xs ++ pending_from (n + length xs) ys
pending_from-append n [] ys = ap (λ m. pending_from m ys) (omega arith)
pending_from-append n (x ∷ xs) ys = grind (arith, append_assoc, pending_from-append (n + 1) xs ys)

All-pending : (P : PendingResult → Type 0) (n : ℕ) (stage : Stage) (rs : List PendingResult) →
    ((r : PendingResult) → r.seq ≡ n → P r) → All P rs → All P (pending_of n stage ++ rs)
All-pending P n (Running issue message) rs here rest = All-cons P _ rs (here _ refl) rest
All-pending P n _ rs here rest = rest

pending-below : (n m : ℕ) (xs : List Entry) → n + length xs ≤ m →
    All (λ (r : PendingResult). r.seq < m) (pending_from n xs)
pending-below n m [] le = λ k d within. absurd (omega arith)
pending-below n m (x ∷ xs) le =
    All-pending (λ r. r.seq < m) n x.stage (pending_from (n + 1) xs) (λ r is. omega (arith, is, le))
    (pending-below (n + 1) m xs (omega arith))

pending-above : (n m : ℕ) (xs : List Entry) → m < n → All (λ (r : PendingResult). m < r.seq) (pending_from n xs)
pending-above n m [] lt = λ k d within. absurd (omega arith)
pending-above n m (x ∷ xs) lt =
    All-pending (λ r. m < r.seq) n x.stage (pending_from (n + 1) xs) (λ r is. omega (arith, is, lt))
    (pending-above (n + 1) m xs (omega arith))

placed-between : (r : PendingResult) (xs ys : List PendingResult) → All (λ (x : PendingResult). x.seq < r.seq) xs →
    All (λ (y : PendingResult). r.seq < y.seq) ys → placed r (xs ++ ys) ≡ xs ++ r ∷ ys
placed-between r [] [] low high = refl
placed-between r [] (y ∷ ys) low high =
    rw (le-ltb y.seq r.seq (omega (arith, All-head (λ (z : PendingResult). r.seq < z.seq) y ys high))) refl
placed-between r (x ∷ xs) ys low high =
    cond-true (nat_lt x.seq r.seq) _ _ (lt-ltb x.seq r.seq (All-head (λ (z : PendingResult). z.seq < r.seq) x xs low))
    ∙ ap (λ l. x ∷ l) (placed-between r xs ys (All-tail (λ (z : PendingResult). z.seq < r.seq) x xs low) high)

holds-apart : (m : ℕ) (rs : List PendingResult) → All (λ (r : PendingResult). r.seq ≢ m) rs → holds m rs ≡ false
holds-apart m [] apart = refl
holds-apart m (r ∷ rs) apart =
    rw (ne_eqb r.seq m (All-head (λ (z : PendingResult). z.seq ≢ m) r rs apart))
    (holds-apart m rs (All-tail (λ (z : PendingResult). z.seq ≢ m) r rs apart))

length-pending_of : (n : ℕ) (stage : Stage) (rs : List PendingResult) →
    length (pending_of n stage ++ rs) ≤ 1 + length rs
length-pending_of n stage rs = grind arith

length-pending : (n : ℕ) (xs : List Entry) → length (pending_from n xs) ≤ length xs
length-pending n [] = omega arith
length-pending n (x ∷ xs) =
    omega (arith, length-pending_of n x.stage (pending_from (n + 1) xs), length-pending (n + 1) xs)

pending_waiting : (n : ℕ) (stage : Stage) → is_waiting stage ≡ true → pending_of n stage ≡ []
pending_waiting n stage waits = grind arith

module _ (e : Entry) (rest : List Entry) (waits : is_waiting e.stage ≡ true) where
  pending_split : (n : ℕ) (before : List Entry) →
      pending_from n (before ++ e ∷ rest) ≡ pending_from n before ++ pending_from (n + length before + 1) rest
  pending_split n before =
      grind (arith, pending_from-append n before (e ∷ rest), pending_waiting (n + length before) e.stage waits)

  -- there is room for the result of an instruction that waits
  pub pending_room : (n : ℕ) (before : List Entry) → length (pending_from n (before ++ e ∷ rest))
      < length (before ++ e ∷ rest)
  pending_room n [] = grind (arith, length-pending)
  pending_room n (x ∷ before) =
      omega (
        arith,
        length-pending_of n x.stage (pending_from (n + 1) (before ++ e ∷ rest)),
        pending_room (n + 1) before,
      )

  module _ (n : ℕ) (before : List Entry) where
    abbrev number : ℕ
    number = n + length before

    -- and none under its number
    pub pending_absent : holds number (pending_from n (before ++ e ∷ rest)) ≡ false
    pending_absent =
        ap (holds number) (pending_split n before)
        ∙ holds-apart number (pending_from n before ++ pending_from (number + 1) rest)
        (All-append (λ (r : PendingResult). r.seq ≢ number) (pending_from n before) (pending_from (number + 1) rest)
        (λ k d within same. omega (arith, pending-below n number before (omega arith) k d within, same))
        (λ k d within same. omega (arith, pending-above (number + 1) number rest (omega arith) k d within, same)))

    -- its result goes to its place
    pub pending_started : (issue : Issue) (message : Message) →
        placed (record { seq = number; ready = issue.cycle + issue.cost }) (pending_from n (before ++ e ∷ rest))
        ≡ pending_from n (before ++ started issue message e ∷ rest)
    pending_started issue message =
        ap (placed (record { seq = number; ready = issue.cycle + issue.cost })) (pending_split n before)
        ∙ placed-between _ (pending_from n before) (pending_from (number + 1) rest)
        (pending-below n number before (omega arith))
        (pending-above (number + 1) number rest (omega arith))
        ∙ sym (pending_from-append n before (started issue message e ∷ rest))
