-- Of the results that are ready the oldest is broadcast first.
use Rattle.rv_hardware.proofs.Words.{◌≡◌, ℕ, ◌+◌, ◌<◌, ◌≤◌, List, [], ◌∷◌, ◌++◌, map, IfSome, Some, None, Option, sym}
use Rattle.rv_hardware.proofs.Words.{ap, ◌∙◌, subst, arith, Values, Each, Fetched, Hardware, Step, Each-left}
use Rattle.rv_hardware.proofs.Words.{Each-right, Each-set, Each-place, Each-all, Each-both, EveryPair, EveryPair-append}
use Rattle.rv_hardware.proofs.Words.{EveryPair-left, EveryPair-right, EveryPair-across, EveryPair-set, Each-images}
use Rattle.rv_hardware.proofs.Words.{each_then, Each-append}
use Rattle.rv_hardware.proofs.Marks.Cited.{IsBefore, Advances, mark_retires, mark_starts, mark_is_sent, mark_enters}
use Rattle.rv_hardware.proofs.Marks.Cited.{Starts, IsSent, KeptMarks, History, marks_of_history, Mark, Start}
use Rattle.rv_hardware.proofs.Marks.Cited.{mark_of_fetched, marks_in}

-- where b was broadcast, an earlier a whose result was ready by then was broadcast by then
abbrev pub ReadyFirst : Option Start → Option ℕ → ℕ → Type 0
ReadyFirst start sent b = IfSome start (λ s. s.cycle + s.cost ≤ b → IsBefore (b + 1) sent)

-- of two marks, where the later was broadcast, the earlier was by then if its result was ready
abbrev pub OldestFirst : Mark → Mark → Type 0
OldestFirst m n = IfSome n.broadcast (λ b. ReadyFirst m.start m.broadcast b)

abbrev pub SentBy : ℕ → Mark → Type 0
SentBy now m = IfSome m.broadcast (λ b. b ≤ now)

pub record BusOrder (now : ℕ) (ms : List Mark) : Type 0 where
  pub oldest_first : EveryPair OldestFirst ms
  pub by_now : Each (SentBy now) ms

-- a mark that keeps its broadcast
pair_second : (m n z : Mark) → n.broadcast ≡ m.broadcast → OldestFirst z m → OldestFirst z n
pair_second m n z same h = subst (λ o. IfSome o (λ b. ReadyFirst z.start z.broadcast b)) (sym same) h

-- a mark that keeps its start and its broadcast
pair_first : (m n z : Mark) → n.start ≡ m.start → n.broadcast ≡ m.broadcast → OldestFirst m z → OldestFirst n z
pair_first m n z start same h = rw (start, same) h

-- one that starts, where others were broadcast by now
started_later : (s : Start) (now : ℕ) (o : Option ℕ) (p : Option ℕ) → s.cycle ≡ now → 0 < s.cost →
    IfSome o (λ b. b ≤ now) → IfSome o (λ b. ReadyFirst (Some s) p b)
started_later s now o p given cost by = grind arith

-- one that is broadcast, where others were broadcast before it was ready
sent_later : (s : Start) (now : ℕ) (o : Option ℕ) → IfSome o (λ b. ReadyFirst (Some s) None b) →
    IfSome o (λ b. ReadyFirst (Some s) (Some now) b)
sent_later s now o h = grind arith

module _ (now : ℕ) (xs ys : List Mark) (m n : Mark) where
  same_bus : n.start ≡ m.start → n.broadcast ≡ m.broadcast → BusOrder now (xs ++ m ∷ ys) → BusOrder now (xs ++ n ∷ ys)
  same_bus start same o = record {
    oldest_first =
        EveryPair-set _ xs ys m n (λ z w. pair_second m n z same w)
        (λ z w. pair_first m n z start same w) o.oldest_first;
    by_now = Each-set _ xs ys m n (rw same (Each-place _ xs ys m o.by_now)) o.by_now;
  }

  started_bus : {v : Values} → Starts v now xs m n → BusOrder now (xs ++ m ∷ ys) → BusOrder now (xs ++ n ∷ ys)
  started_bus a o =
      let same : n.broadcast ≡ m.broadcast = ap (λ x. x.broadcast) a.becomes in
      let start : n.start ≡ Some a.start = ap (λ x. x.start) a.becomes in
      record {
        oldest_first = EveryPair-append _ xs _ (EveryPair-left _ xs _ o.oldest_first) (
          each_then (λ z by.
              subst (λ q. IfSome z.broadcast (λ b. ReadyFirst q n.broadcast b)) (sym start)
              (started_later a.start now z.broadcast n.broadcast a.now_is a.positive by)) _
              (Each-right _ xs _ o.by_now).1,
          (EveryPair-right _ xs _ o.oldest_first).1,
        ) (each_then (λ x w. (pair_second m n x same w.0, w.1)) _ (EveryPair-across _ xs _ o.oldest_first));
        by_now = Each-set _ xs ys m n (rw same (Each-place _ xs ys m o.by_now)) o.by_now;
      }

  sent_bus : IsSent now xs m n → BusOrder now (xs ++ m ∷ ys) → BusOrder now (xs ++ n ∷ ys)
  sent_bus a o =
      let sent : n.broadcast ≡ Some now = ap (λ x. x.broadcast) a.becomes in
      let start : n.start ≡ Some a.start = ap (λ x. x.start) a.becomes ∙ a.started in
      let later = EveryPair-right _ xs _ o.oldest_first in
      record {
        oldest_first = EveryPair-append _ xs _ (EveryPair-left _ xs _ o.oldest_first) (
          each_then (λ z w. rw (start, sent) (sent_later a.start now z.broadcast (rw (a.started, a.not_yet) at w))) _
              later.0,
          later.1,
        )
            (Each-both _ (λ x w ready. (rw sent ready, w.1)) xs (EveryPair-across _ xs _ o.oldest_first) a.oldest);
        by_now = Each-set _ xs ys m n (rw sent (omega arith)) o.by_now;
      }

bus_set : {v : Values} {now : ℕ} (xs ys : List Mark) (m n : Mark) → Advances v now xs m n →
    BusOrder now (xs ++ m ∷ ys) → BusOrder now (xs ++ n ∷ ys)
bus_set {now} xs ys m n (mark_retires a) o =
    same_bus now xs ys m n (ap (λ x. x.start) a.becomes) (ap (λ x. x.broadcast) a.becomes) o
bus_set {v} {now} xs ys m n (mark_starts a) o = started_bus now xs ys m n a o
bus_set {now} xs ys m n (mark_is_sent a) o = sent_bus now xs ys m n a o
bus_set {now} xs ys m n (mark_enters a) o =
    same_bus now xs ys m n (ap (λ x. x.start) a.becomes) (ap (λ x. x.broadcast) a.becomes) o

none_sent : (fs : List Fetched) → EveryPair OldestFirst (map mark_of_fetched fs)
none_sent [] = tt
none_sent (f ∷ fs) = (Each-images _ _ (λ g. tt) fs, none_sent fs)

sent_by_later : (now : ℕ) (m : Mark) (o : Option ℕ) → IfSome o (λ b. b ≤ now) → IfSome o (λ b. b ≤ now + 1)
sent_by_later now m o h = grind arith

pub bus_is_kept : (v : Values) → KeptMarks v BusOrder
bus_is_kept v = record {
  at_reset = record { oldest_first = tt; by_now = tt };
  kept = λ now. record {
    cut = λ xs ys o. grind (arith, EveryPair-left, Each-left);
    set = bus_set;
  };
  more = λ now ms fs words o. record {
    oldest_first = EveryPair-append _ ms _ o.oldest_first (none_sent fs)
        (Each-all _ (λ m. Each-images _ _ (λ g. tt) fs) ms);
    by_now = Each-append _ _ _ (each_then (λ m w. sent_by_later now m m.broadcast w) _ o.by_now)
        (Each-images _ _ (λ g. tt) fs);
  };
}

-- in every history the results were broadcast oldest first
pub history_has_bus_order : {v : Values} {steps : List Step} {h : Hardware} → History v steps h →
    BusOrder h.cycle (marks_in steps h)
history_has_bus_order {v} history = marks_of_history (bus_is_kept v) history
