-- Instructions are fetched and dispatched in order, and buffer and stations hold no more than they have room for.
use Rattle.rv_hardware.proofs.Words.{◌≡◌, ℕ, ◌+◌, ◌≤◌, Bool, true, false, ◌&&◌, List, [], ◌∷◌, ◌++◌, map, is_some}
use Rattle.rv_hardware.proofs.Words.{is_none, IfSome, Some, None, Option, sym, refl, ap, ◌∙◌, subst, arith, and_right}
use Rattle.rv_hardware.proofs.Words.{is_of_kind, kind_of_word, at_kind, Kind, Values, Each, Fetched, Hardware, Step}
use Rattle.rv_hardware.proofs.Words.{and_second, never_both, Each-left, Each-set, Each-place, Each-weaker, Each-all}
use Rattle.rv_hardware.proofs.Words.{Each-both, Each-map, EveryPair, count, Across, EveryPair-append, EveryPair-right}
use Rattle.rv_hardware.proofs.Words.{EveryPair-across, EveryPair-set, count-append, count-none, count-map, count-length}
use Rattle.rv_hardware.proofs.Words.{count-set-same, count-set-less, count-push-most, count-left, Each-images}
use Rattle.rv_hardware.proofs.Words.{each_image, each_then, Each-append, pair_moves, each_moves}
use Rattle.rv_hardware.proofs.Marks.Advance.{IsBefore, Advances, mark_retires, mark_starts, mark_is_sent, mark_enters}
use Rattle.rv_hardware.proofs.Marks.Advance.{Enters, is_in_flight_mark, is_stationed_mark}
use Rattle.rv_hardware.proofs.Marks.History.{NewWords, is_buffered_mark, KeptMarks, History, marks_of_history}
use Rattle.rv_hardware.proofs.Turns.Fetch.{IsNew}
use Rattle.rv_hardware.proofs.Marks.List.{Mark, mark_of_fetched, marks_in}

-- a later instruction was dispatched no earlier
abbrev pub IsDispatchedFirst : Mark → Mark → Type 0
IsDispatchedFirst m n = IfSome n.dispatched (λ d. IsBefore (d + 1) m.dispatched)

abbrev pub DispatchedBy : ℕ → Mark → Type 0
DispatchedBy now m = IfSome m.dispatched (λ d. d ≤ now)

pub record Orderly (v : Values) (now : ℕ) (ms : List Mark) : Type 0 where
  pub fetched : EveryPair (λ m n. m.fetched ≤ n.fetched) ms
  pub dispatched : EveryPair IsDispatchedFirst ms
  pub by_now : Each (DispatchedBy now) ms
  pub buffer : count is_in_flight_mark ms ≤ v.rob
  pub words : count is_buffered_mark ms ≤ v.fetch_buffer
  pub stations : (k : Kind) → count (is_stationed_mark k) ms ≤ (at_kind k v.kinds).stations

module _ (v : Values) (now : ℕ) (xs ys : List Mark) (m n : Mark) where
  -- where its dispatch stays
  stays : n.fetched ≡ m.fetched → n.dispatched ≡ m.dispatched →
      (is_in_flight_mark n ≡ true → is_in_flight_mark m ≡ true) →
      ((k : Kind) → is_stationed_mark k n ≡ true → is_stationed_mark k m ≡ true) → Orderly v now (xs ++ m ∷ ys) →
      Orderly v now (xs ++ n ∷ ys)
  stays fetched dispatched flight station o = record {
    fetched = EveryPair-set _ xs ys m n (λ z w. omega (arith, w, fetched)) (λ z w. omega (arith, w, fetched)) o.fetched;
    dispatched = EveryPair-set _ xs ys m n
        (λ z w. subst (λ x. IfSome x (λ d. IsBefore (d + 1) z.dispatched)) (sym dispatched) w)
        (λ z w. subst (λ x. IfSome z.dispatched (λ d. IsBefore (d + 1) x)) (sym dispatched) w) o.dispatched;
    by_now = Each-set _ xs ys m n
        (subst (λ x. IfSome x (λ d. d ≤ now)) (sym dispatched) (Each-place _ xs ys m o.by_now)) o.by_now;
    buffer = fewer is_in_flight_mark flight v.rob o.buffer;
    words = fewer is_buffered_mark (λ h. rw (dispatched) at h) v.fetch_buffer o.words;
    stations = λ k. fewer (is_stationed_mark k) (station k) (at_kind k v.kinds).stations (o.stations k);
  } where
    by_test : (p : Mark → Bool) (b : Bool) → p n ≡ b → (p n ≡ true → p m ≡ true) →
        count p (xs ++ n ∷ ys) ≤ count p (xs ++ m ∷ ys)
    by_test p true is f = let same = count-set-same p xs ys m n (f is ∙ sym is) in omega (arith, same)
    by_test p false is f = count-set-less p xs ys m n is

    fewer : (p : Mark → Bool) → (p n ≡ true → p m ≡ true) → (bound : ℕ) → count p (xs ++ m ∷ ys) ≤ bound →
        count p (xs ++ n ∷ ys) ≤ bound
    fewer p f bound le = let less = by_test p (p n) refl f in omega (arith, less)

  -- where it is dispatched, what is younger is not
  none_before : (o : Option ℕ) → IfSome o (λ d. ⊥) → o ≡ None
  none_before o h = grind arith

  some_before : (o : Option ℕ) → is_some o ≡ true → IfSome o (λ d. d ≤ now) → IsBefore (now + 1) o
  some_before o is le = grind arith

  module _ (a : Enters v now xs m n) (o : Orderly v now (xs ++ m ∷ ys)) where
    pairs : EveryPair IsDispatchedFirst (m ∷ ys)
    pairs = EveryPair-right _ xs _ o.dispatched

    across : Across IsDispatchedFirst xs (m ∷ ys)
    across = EveryPair-across _ xs _ o.dispatched

    younger : Each (λ y. y.dispatched ≡ None) ys
    younger = grind (arith, each_then, pairs)

    n_dispatched : n.dispatched ≡ Some now
    n_dispatched = ap (λ x. x.dispatched) a.becomes

    olders : Each (λ x. IsBefore (now + 1) x.dispatched) xs
    olders = Each-both _ (λ x is le. some_before x.dispatched is le) xs a.in_order (Each-left _ xs _ o.by_now)

    entered_pairs : EveryPair IsDispatchedFirst (xs ++ n ∷ ys)
    entered_pairs =
        grind (arith, pair_moves, Each-weaker, younger, pairs, Each-both, n_dispatched, across, olders)

    not_in_flight : count is_in_flight_mark ys ≡ 0
    not_in_flight = count-none is_in_flight_mark ys (each_then (λ y none. rw none refl) _ younger)

    not_stationed : (k : Kind) → count (is_stationed_mark k) ys ≡ 0
    not_stationed k =
        count-none (is_stationed_mark k) ys
        (each_then (λ y none. rw none (and_right (is_of_kind k (kind_of_word y.instruction)) false refl)) _ younger)

    station_by : (k : Kind) (b : Bool) → is_of_kind k (kind_of_word m.instruction) ≡ b →
        count (is_stationed_mark k) (xs ++ n ∷ ys) ≤ (at_kind k v.kinds).stations
    station_by k true is =
        omega (arith, count-push-most (is_stationed_mark k) xs ys n, not_stationed k, a.stations k is)
    station_by k false is = grind (arith, count-set-less)

    entered : Orderly v now (xs ++ n ∷ ys)
    entered =
        let same : n.fetched ≡ m.fetched = ap (λ x. x.fetched) a.becomes in
        let more = count-push-most is_in_flight_mark xs ys n in
        record {
          fetched = EveryPair-set _ xs ys m n (λ z w. omega (arith, w, same)) (λ z w. omega (arith, w, same)) o.fetched;
          dispatched = entered_pairs;
          by_now =
              Each-set _ xs ys m n (subst (λ x. IfSome x (λ d. d ≤ now)) (sym n_dispatched) (omega arith)) o.by_now;
          buffer = omega (arith, more, not_in_flight, a.room);
          words = let less = count-set-less is_buffered_mark xs ys m n (ap is_none n_dispatched) in
              omega (arith, less, o.words);
          stations = λ k. station_by k (is_of_kind k (kind_of_word m.instruction)) refl;
        }

orderly_set : {v : Values} {now : ℕ} (xs ys : List Mark) (m n : Mark) → Advances v now xs m n →
    Orderly v now (xs ++ m ∷ ys) → Orderly v now (xs ++ n ∷ ys)
orderly_set {v} {now} xs ys m n (mark_retires a) o =
    stays v now xs ys m n (ap (λ x. x.fetched) a.becomes) (ap (λ x. x.dispatched) a.becomes)
    (λ h. never_both (is_some m.dispatched) (rw (a.becomes) at h)) (λ k h. rw (a.becomes) at h) o
orderly_set {v} {now} xs ys m n (mark_starts a) o =
    stays v now xs ys m n (ap (λ x. x.fetched) a.becomes) (ap (λ x. x.dispatched) a.becomes)
    (λ h. rw (a.becomes) at h) (λ k h. absurd (started k (rw (a.becomes) at h))) o
  where
    started : (k : Kind) → (is_of_kind k (kind_of_word m.instruction) && (is_some m.dispatched && false)) ≡ true → ⊥
    started k h = never_both (is_some m.dispatched)
        (and_second (is_of_kind k (kind_of_word m.instruction)) (is_some m.dispatched && false) h)
orderly_set {v} {now} xs ys m n (mark_is_sent a) o =
    stays v now xs ys m n (ap (λ x. x.fetched) a.becomes) (ap (λ x. x.dispatched) a.becomes) (λ h. rw (a.becomes) at h)
    (λ k h. rw (a.becomes) at h) o
orderly_set {v} {now} xs ys m n (mark_enters a) o = entered v now xs ys m n a o

orderly_cut : {v : Values} {now : ℕ} (xs ys : List Mark) → Orderly v now (xs ++ ys) → Orderly v now xs
orderly_cut xs ys o = grind (arith, pair_moves, each_moves, count-left)

not_there : (p : Mark → Bool) (ms : List Mark) (fs : List Fetched) → ((f : Fetched) → p (mark_of_fetched f) ≡ false) →
    count p (ms ++ map mark_of_fetched fs) ≡ count p ms
not_there p ms fs given = grind (arith, count-append, count-map, count-none, Each-all)

new_in_order : (now : ℕ) (fs : List Fetched) → Each (IsNew now) fs →
    EveryPair (λ x y. x.fetched ≤ y.fetched) (map mark_of_fetched fs)
new_in_order now [] are = tt
new_in_order now (f ∷ fs) are = grind (arith, Each-map, Each-weaker, new_in_order now fs are.1)

none_dispatched : (fs : List Fetched) → EveryPair IsDispatchedFirst (map mark_of_fetched fs)
none_dispatched [] = tt
none_dispatched (f ∷ fs) = (Each-images _ _ (λ g. tt) fs, none_dispatched fs)

orderly_more : {v : Values} (now : ℕ) (ms : List Mark) (fs : List Fetched) → NewWords v now ms fs → Orderly v now ms →
    Orderly v (now + 1) (ms ++ map mark_of_fetched fs)
orderly_more now ms fs words o = record {
  fetched = EveryPair-append _ ms _ o.fetched (new_in_order now fs words.are_new)
      (each_then (λ m le. each_image _ (λ g w. omega (arith, w.0, le)) _ words.are_new) _ words.by_now);
  dispatched = EveryPair-append _ ms _ o.dispatched (none_dispatched fs)
      (Each-all _ (λ m. Each-images _ _ (λ g. tt) fs) ms);
  by_now = Each-append _ _ _ (each_then (λ m w. later m.dispatched w) _ o.by_now) (Each-images _ _ (λ f. tt) fs);
  buffer = let same = not_there is_in_flight_mark ms fs (λ f. refl) in omega (arith, same, o.buffer);
  words =
      let all = count-append is_buffered_mark ms (map mark_of_fetched fs) in
      let more = count-map is_buffered_mark mark_of_fetched fs in
      let most = count-length (λ f. is_buffered_mark (mark_of_fetched f)) fs in
      omega (arith, all, more, most, words.within_room, o.words);
  stations = λ k.
      let same = not_there (is_stationed_mark k) ms fs
      (λ f. and_right (is_of_kind k (kind_of_word f.instruction)) false refl) in
      omega (arith, same, o.stations k);
} where
  later : (x : Option ℕ) → IfSome x (λ d. d ≤ now) → IfSome x (λ d. d ≤ now + 1)
  later None h = tt
  later (Some d) h = omega (arith, h)

pub orderly_is_kept : (v : Values) → KeptMarks v (Orderly v)
orderly_is_kept v = record {
  at_reset = record {
    fetched = tt;
    dispatched = tt;
    by_now = tt;
    buffer = omega arith;
    words = omega arith;
    stations = λ k. omega arith;
  };
  kept = λ now. record { cut = orderly_cut; set = orderly_set };
  more = orderly_more;
}

-- in every history marks are in order and within the room
pub history_is_orderly : {v : Values} {steps : List Step} {h : Hardware} → History v steps h →
    Orderly v h.cycle (marks_in steps h)
history_is_orderly {v} history = marks_of_history (orderly_is_kept v) history
