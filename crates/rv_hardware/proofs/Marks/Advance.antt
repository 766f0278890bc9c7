-- A mark goes on by a retirement, a start, a broadcast or a dispatch, and stays what it was in earlier cycles.
use Rattle.rv_hardware.proofs.Words.{◌≡◌, ℕ, ◌+◌, ◌<◌, ◌≤◌, Bool, true, ◌&&◌, List, ◌∷◌, ◌++◌, is_some, is_none, IfSome}
use Rattle.rv_hardware.proofs.Words.{Some, None, Option, arith, is_load, is_of_kind, is_store, is_target, kind_of_word}
use Rattle.rv_hardware.proofs.Words.{sources_of_word, target_of_word, at_kind, Kind, Values, Each, last_that, count, []}
use Rattle.rv_hardware.proofs.Words.{Each-left, Each-set, Each-place, EveryAfter, EveryAfter-left, EveryAfter-set}
use Rattle.rv_hardware.proofs.Marks.List.{Start, Mark, Agree, Extends, Extends-trans, Extends-cut, Extends-change}
use Rattle.rv_hardware.proofs.Marks.List.{at_end, until_now, start_until_now}

-- it was so before a cycle
abbrev pub IsBefore : ℕ → Option ℕ → Type 0
IsBefore now None = ⊥
IsBefore now (Some b) = b < now

-- a mark's instruction writes the register
abbrev pub writes_mark : ℕ → Mark → Bool
writes_mark register m = is_target register (target_of_word m.instruction)

-- what uses a unit was broadcast before a cycle
abbrev pub IsKnownMark : ℕ → Mark → Type 0
IsKnownMark now m = is_some (kind_of_word m.instruction) ≡ true → IsBefore now m.broadcast

-- the producers of some sources are known
abbrev pub OperandsKnown : ℕ → List Mark → List (Option ℕ) → Type 0
OperandsKnown now xs sources =
    Each (λ source. IfSome source (λ register. IfSome (last_that (writes_mark register) xs) (IsKnownMark now))) sources

-- a store was broadcast before a cycle
abbrev pub IsKnownStore : ℕ → Mark → Type 0
IsKnownStore now m = is_store m.instruction ≡ true → IsBefore now m.broadcast

-- a result that is ready was broadcast
abbrev pub IsSentIfReady : ℕ → Mark → Type 0
IsSentIfReady now m = IfSome m.start (λ s. s.cycle + s.cost ≤ now → IsBefore (now + 1) m.broadcast)

-- it was dispatched and has not retired
abbrev pub is_in_flight_mark : Mark → Bool
is_in_flight_mark m = is_some m.dispatched && is_none m.retired

-- it waits in a station of this kind
abbrev pub is_stationed_mark : Kind → Mark → Bool
is_stationed_mark k m = is_of_kind k (kind_of_word m.instruction) && (is_some m.dispatched && is_none m.start)

-- an instruction in flight retires
pub record Retires (now : ℕ) (m n : Mark) : Type 0 where
  pub becomes : n ≡ record m { retired = Some now }
  pub not_yet : m.retired ≡ None
  pub cycle : ℕ
  pub dispatched : m.dispatched ≡ Some cycle
  pub before : cycle < now
  pub known : IsKnownMark now m

-- it starts to execute: its operands are known, and for a load all older stores
pub record Starts (v : Values) (now : ℕ) (xs : List Mark) (m n : Mark) : Type 0 where
  pub start : Start
  pub becomes : n ≡ record m { start = Some start }
  pub now_is : start.cycle ≡ now
  pub positive : 0 < start.cost
  pub not_yet : m.start ≡ None
  pub not_sent : m.broadcast ≡ None
  pub not_retired : m.retired ≡ None
  pub cycle : ℕ
  pub dispatched : m.dispatched ≡ Some cycle
  pub before : cycle < now
  pub operands : OperandsKnown now xs (sources_of_word m.instruction)
  pub stores : is_load m.instruction ≡ true → Each (IsKnownStore now) xs

-- its result is broadcast: it is ready, and none that is older waits
pub record IsSent (now : ℕ) (xs : List Mark) (m n : Mark) : Type 0 where
  pub start : Start
  pub becomes : n ≡ record m { broadcast = Some now }
  pub started : m.start ≡ Some start
  pub ready : start.cycle + start.cost ≤ now
  pub not_yet : m.broadcast ≡ None
  pub not_retired : m.retired ≡ None
  pub oldest : Each (IsSentIfReady now) xs

-- it is dispatched: there is room
pub record Enters (v : Values) (now : ℕ) (xs : List Mark) (m n : Mark) : Type 0 where
  pub becomes : n ≡ record m { dispatched = Some now }
  pub not_yet : m.dispatched ≡ None
  pub not_sent : m.broadcast ≡ None
  pub not_retired : m.retired ≡ None
  pub before : m.fetched < now
  pub in_order : Each (λ x. is_some x.dispatched ≡ true) xs
  pub room : count is_in_flight_mark xs < v.rob
  pub stations : (k : Kind) → is_of_kind k (kind_of_word m.instruction) ≡ true →
      count (is_stationed_mark k) xs < (at_kind k v.kinds).stations

-- a mark goes on in one of four ways: it retires, starts, is broadcast or is dispatched
pub data Advances (v : Values) (now : ℕ) (xs : List Mark) (m n : Mark) : Type 0 where
  mark_retires : Retires now m n → Advances v now xs m n
  mark_starts : Starts v now xs m n → Advances v now xs m n
  mark_is_sent : IsSent now xs m n → Advances v now xs m n
  mark_enters : Enters v now xs m n → Advances v now xs m n

-- what beginnings keep, and marks that go on
pub record Kept (v : Values) (now : ℕ) (R : List Mark → Type 0) : Type 0 where
  pub cut : (xs ys : List Mark) → R (xs ++ ys) → R xs
  pub set : (xs ys : List Mark) (m n : Mark) → Advances v now xs m n → R (xs ++ m ∷ ys) → R (xs ++ n ∷ ys)

-- what holds of each mark, where a mark that goes on keeps it
pub each_is_kept : {v : Values} {now : ℕ} (P : Mark → Type 0) →
    ((xs : List Mark) (m n : Mark) → Advances v now xs m n → P m → P n) → Kept v now (Each P)
each_is_kept P goes = record {
  cut = λ xs ys h. Each-left P xs ys h;
  set = λ xs ys m n a h. Each-set P xs ys m n (goes xs m n a (Each-place P xs ys m h)) h;
}

-- what holds of each mark after others, where a mark that goes on keeps it, and keeps it of those after it
pub after_is_kept : {v : Values} {now : ℕ} (P : List Mark → Mark → Type 0) →
    ((xs : List Mark) (m n : Mark) → Advances v now xs m n → P xs m → P xs n) →
    ((xs : List Mark) (m n : Mark) → Advances v now xs m n → (mid : List Mark) (z : Mark) → P (xs ++ m ∷ mid) z →
    P (xs ++ n ∷ mid) z) →
    Kept v now (EveryAfter P [])
after_is_kept P itself after = record {
  cut = λ xs ys h. EveryAfter-left P [] xs ys h;
  set = λ xs ys m n a h. EveryAfter-set P xs ys m n (itself xs m n a) (after xs m n a) h;
}

agree_by : (now : ℕ) (m n p : Mark) → n ≡ p →
    (m.fetched ≡ p.fetched) × ((c : ℕ) → c < now → at_end c m ≡ at_end c p) → Agree now m n
agree_by now m n p is agree = rw is agree

-- a mark that goes on was the same at the end of every earlier cycle
pub advances_agree : {v : Values} {now : ℕ} {xs : List Mark} {m n : Mark} → Advances v now xs m n → Agree now m n
advances_agree (mark_starts a) = grind (arith, agree_by, start_until_now)
advances_agree given = grind (arith, agree_by, until_now)

-- so the marks go on from those at the start of the cycle
pub extends_kept : (v : Values) (now : ℕ) (from : List Mark) → Kept v now (Extends now from)
extends_kept v now from = record {
  cut = λ xs ys went. Extends-trans from (xs ++ ys) xs went (Extends-cut now xs ys);
  set = λ xs ys m n a went.
      Extends-trans from (xs ++ m ∷ ys) (xs ++ n ∷ ys) went (Extends-change now xs ys m n (advances_agree a));
}
