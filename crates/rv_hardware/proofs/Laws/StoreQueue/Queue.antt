-- The retired stores in the queue are the last store rows, and the access of each earlier one is over.
use Rattle.rv_hardware.proofs.Words.{◌≡◌, ℕ, ◌+◌, ◌≤◌, Bool, true, false, cond, List, [], ◌∷◌, ◌++◌, length, is_some}
use Rattle.rv_hardware.proofs.Words.{filter, Option, sym, refl, ap, ◌∙◌, append_assoc, append-nil, arith, filter-append}
use Rattle.rv_hardware.proofs.Words.{StoreAccess, Each, with_oldest_draining, without_drained, is_draining, Store}
use Rattle.rv_hardware.proofs.Words.{committed_store, is_store_row, Row, Each-weaker, Each-append}

-- row by row, the queue's retired stores; the port is busy until the access is over that one has begun
abbrev pub AreQueued : ℕ → ℕ → List Row → List Store → Type 0
AreQueued hit port [] [] = Unit {0}
AreQueued hit port (row ∷ rows) (s ∷ ss) =
    (is_draining s ≡ true → row.retired + hit ≤ port) × AreQueued hit port rows ss
AreQueued hit port _ _ = ⊥

-- the store rows split into those whose access is over and those whose stores wait in the queue
pub record QueueOk (hit now : ℕ) (rows : List Row) (port : ℕ) (committed : List Store) : Type 0 where
  pub gone : List Row
  pub kept : List Row
  pub split : filter is_store_row rows ≡ gone ++ kept
  pub over : Each (λ row. row.retired + hit ≤ now) gone
  pub by_now : Each (λ row. row.retired ≤ now) kept
  pub queued : AreQueued hit port kept committed

queued_later : (hit p q : ℕ) (rows : List Row) (ss : List Store) → p ≤ q → AreQueued hit p rows ss →
    AreQueued hit q rows ss
queued_later hit p q [] [] le h = tt
queued_later hit p q (row ∷ rows) (s ∷ ss) le h =
    (λ begun. let by = h.0 begun in omega (arith, by, le), queued_later hit p q rows ss le h.1)
queued_later hit p q rows ss le h = absurd h

queued_push : (hit p : ℕ) (rows : List Row) (ss : List Store) (row : Row) (s : Store) → is_draining s ≡ false →
    AreQueued hit p rows ss → AreQueued hit p (rows ++ row ∷ []) (ss ++ s ∷ [])
queued_push hit p [] [] row s waits h = (λ begun. absurd (cc), tt)
queued_push hit p (r ∷ rows) (t ∷ ss) row s waits h = (h.0, queued_push hit p rows ss row s waits h.1)
queued_push hit p rows ss row s waits h = absurd h

-- there are as many of these rows as stores in the queue
pub queued_length : (hit p : ℕ) (rows : List Row) (ss : List Store) → AreQueued hit p rows ss → length rows ≡ length ss
queued_length hit p [] [] h = refl
queued_length hit p (row ∷ rows) (s ∷ ss) h = let rest = queued_length hit p rows ss h.1 in omega (arith, rest)
queued_length hit p rows ss h = absurd h

module _ {hit now : ℕ} {rows : List Row} {port : ℕ} {committed : List Store}
    (ok : QueueOk hit now rows port committed) where
  -- the port is busy for longer
  pub queue_later : (later : ℕ) → port ≤ later → QueueOk hit now rows later committed
  queue_later later le =
      record {
        gone = ok.gone;
        kept = ok.kept;
        split = ok.split;
        over = ok.over;
        by_now = ok.by_now;
        queued = queued_later hit port later ok.kept committed le ok.queued;
      }

  -- the next cycle
  pub queue_next : (next : ℕ) → now ≤ next → QueueOk hit next rows port committed
  queue_next next le = grind (arith, Each-weaker)

  -- a retirement
  pub plain_retires : (row : Row) → is_store_row row ≡ false → QueueOk hit now (rows ++ row ∷ []) port committed
  plain_retires row plain = grind (arith, filter-append, append-nil)

  store_retires : (row : Row) (s : Store) → is_store_row row ≡ true → is_draining s ≡ false → row.retired ≤ now →
      QueueOk hit now (rows ++ row ∷ []) port (committed ++ s ∷ [])
  store_retires row s store waits le = record {
    gone = ok.gone;
    kept = ok.kept ++ row ∷ [];
    split = filter-append is_store_row rows (row ∷ []) ∙
        ap (λ b. filter is_store_row rows ++ cond b (row ∷ []) []) store ∙ ap (λ l. l ++ row ∷ []) ok.split ∙
        append_assoc ok.gone ok.kept (row ∷ []);
    over = ok.over;
    by_now = Each-append _ _ _ ok.by_now (le, tt);
    queued = queued_push hit port ok.kept committed row s waits ok.queued;
  }

  -- a store that retires is the last row and the last in the queue
  pub queue_retires : (row : Row) (seq : ℕ) (access : Option StoreAccess) → is_some access ≡ is_store_row row →
      row.retired ≤ now → QueueOk hit now (rows ++ row ∷ []) port (committed ++ committed_store seq access)
  queue_retires row seq access stored le = grind (arith, append-nil, plain_retires, store_retires)

-- a drain

module _ (hit now : ℕ) (rows : List Row) (port : ℕ) (idle : port ≤ now) where
  leaves_by : (b : Bool) (s : Store) (ss : List Store) (gone kept : List Row) (row : Row) → is_draining s ≡ b →
      filter is_store_row rows ≡ gone ++ row ∷ kept → Each (λ r. r.retired + hit ≤ now) gone →
      Each (λ r. r.retired ≤ now) (row ∷ kept) → AreQueued hit port (row ∷ kept) (s ∷ ss) →
      QueueOk hit now rows port (cond b ss (s ∷ ss))
  leaves_by true s ss gone kept row begun split over by_now queued = record {
    gone = gone ++ row ∷ [];
    kept = kept;
    split = split ∙ sym (append_assoc gone (row ∷ []) kept);
    over = Each-append _ _ _ over (let by = queued.0 begun in omega (arith, by, idle), tt);
    by_now = by_now.1;
    queued = queued.1;
  }
  leaves_by false s ss gone kept row begun split over by_now queued =
      record { gone = gone; kept = row ∷ kept; split = split; over = over; by_now = by_now; queued = queued }

  leaves_from : (gone kept : List Row) (committed : List Store) → filter is_store_row rows ≡ gone ++ kept →
      Each (λ r. r.retired + hit ≤ now) gone → Each (λ r. r.retired ≤ now) kept → AreQueued hit port kept committed →
      QueueOk hit now rows port (without_drained committed)
  leaves_from gone [] [] split over by_now queued =
      record { gone = gone; kept = []; split = split; over = over; by_now = tt; queued = tt }
  leaves_from gone (row ∷ kept) (s ∷ ss) split over by_now queued =
      leaves_by (is_draining s) s ss gone kept row refl split over by_now queued
  leaves_from gone kept committed split over by_now queued = absurd queued

  -- a store whose access is over leaves
  pub queue_leaves : {committed : List Store} → QueueOk hit now rows port committed →
      QueueOk hit now rows port (without_drained committed)
  queue_leaves {committed} ok = leaves_from ok.gone ok.kept committed ok.split ok.over ok.by_now ok.queued

  begins_from : (later : ℕ) → now + hit ≤ later → (kept : List Row) (committed : List Store) →
      Each (λ r. r.retired ≤ now) kept → AreQueued hit port kept committed →
      AreQueued hit later kept (with_oldest_draining committed)
  begins_from later le [] [] by_now queued = tt
  begins_from later le (row ∷ kept) (s ∷ ss) by_now queued =
      (λ begun. omega (arith, by_now.0, le), queued_later hit port later kept ss (omega (arith, idle, le)) queued.1)
  begins_from later le kept committed by_now queued = absurd queued

  -- the oldest begins its access
  pub queue_begins : (later : ℕ) → now + hit ≤ later → {committed : List Store} → QueueOk hit now rows port committed →
      QueueOk hit now rows later (with_oldest_draining committed)
  queue_begins later le ok = grind (arith, begins_from)
