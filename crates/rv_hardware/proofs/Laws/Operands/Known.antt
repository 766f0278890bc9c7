-- An instruction starts after the broadcasts of its operands' producers, and a load after those of all older stores.
use Rattle.rv_hardware.proofs.Words.{◌≡◌, ℕ, Bool, true, false, cond, List, [], ◌∷◌, ◌++◌, map, is_some, IfSome, Some}
use Rattle.rv_hardware.proofs.Words.{None, Option, sym, ap, subst, is_load, is_store, is_target, kind_of_word}
use Rattle.rv_hardware.proofs.Words.{sources_of_word, target_of_word, Instr, Values, Each, Fetched, Hardware, last_from}
use Rattle.rv_hardware.proofs.Words.{last_that, Step, Each-set, Each-place, EveryAfter, EveryAfter-append, arith}
use Rattle.rv_hardware.proofs.Marks.Advance.{IsBefore, Advances, Starts, writes_mark, IsKnownMark, OperandsKnown}
use Rattle.rv_hardware.proofs.Marks.Advance.{IsKnownStore, after_is_kept}
use Rattle.rv_hardware.proofs.Marks.History.{KeptMarks, History, marks_of_history}
use Rattle.rv_hardware.proofs.Marks.Evidence.{last_from-append}
use Rattle.rv_hardware.proofs.Marks.List.{Mark, mark_of_fetched, marks_in, Start}

-- what a start finds of what is older
pub record Found (before : List Mark) (i : Option Instr) (cycle : ℕ) : Type 0 where
  pub operands : OperandsKnown cycle before (sources_of_word i)
  pub stores : is_load i ≡ true → Each (IsKnownStore cycle) before

-- where a mark started, its operands and, for a load, all older stores were known
abbrev pub StartsAfter : List Mark → Mark → Type 0
StartsAfter before m = IfSome m.start (λ s. Found before m.instruction s.cycle)

-- a mark that goes on keeps its instruction and its broadcast
record GoesOnWith (m n : Mark) : Type 0 where
  instruction : n.instruction ≡ m.instruction
  broadcast : (c : ℕ) → IsBefore c m.broadcast → IsBefore c n.broadcast

not_before : {P : Type 0} (c : ℕ) (o : Option ℕ) → o ≡ None → IsBefore c o → P
not_before c o none h = absurd (subst (IsBefore c) none h)

goes_on : {v : Values} {now : ℕ} {xs : List Mark} {m n : Mark} → Advances v now xs m n → GoesOnWith m n
goes_on given = grind (arith, not_before)

module _ {m n : Mark} (goes : GoesOnWith m n) where
  known_goes_on : (c : ℕ) → IsKnownMark c m → IsKnownMark c n
  known_goes_on c known some =
      goes.broadcast c (known (subst (λ i. is_some (kind_of_word i) ≡ true) goes.instruction some))

  store_goes_on : (c : ℕ) → IsKnownStore c m → IsKnownStore c n
  store_goes_on c known some = goes.broadcast c (known (subst (λ i. is_store i ≡ true) goes.instruction some))

  -- of a list in which it goes on
  either : (c : ℕ) (b : Bool) (z : Mark) (o p : Option Mark) → (IfSome o (IsKnownMark c) → IfSome p (IsKnownMark c)) →
      IfSome (cond b (Some z) o) (IsKnownMark c) → IfSome (cond b (Some z) p) (IsKnownMark c)
  either c b z o p f h = grind arith

  last_more : (c : ℕ) (test : Mark → Bool) (mid : List Mark) (o p : Option Mark) →
      (IfSome o (IsKnownMark c) → IfSome p (IsKnownMark c)) → IfSome (last_from o test mid) (IsKnownMark c) →
      IfSome (last_from p test mid) (IsKnownMark c)
  last_more c test [] o p f h = f h
  last_more c test (z ∷ mid) o p f h =
      last_more c test mid (cond (test z) (Some z) o) (cond (test z) (Some z) p) (either c (test z) z o p f) h

  here : (c : ℕ) (b : Bool) (found : Option Mark) → IfSome (cond b (Some m) found) (IsKnownMark c) →
      IfSome (cond b (Some n) found) (IsKnownMark c)
  here c true found h = known_goes_on c h
  here c false found h = h

  last_goes_on : (c register : ℕ) (xs mid : List Mark) →
      IfSome (last_that (writes_mark register) (xs ++ m ∷ mid)) (IsKnownMark c) →
      IfSome (last_that (writes_mark register) (xs ++ n ∷ mid)) (IsKnownMark c)
  last_goes_on c register xs mid h =
      let found : Option Mark = last_from None (writes_mark register) xs in
      let same : writes_mark register n ≡ writes_mark register m =
      ap (λ i. is_target register (target_of_word i)) goes.instruction in
      rw (last_from-append None (writes_mark register) xs (n ∷ mid))
      (last_more c (writes_mark register) mid (cond (writes_mark register m) (Some m) found)
      (cond (writes_mark register n) (Some n) found)
      (λ k. subst (λ b. IfSome (cond b (Some n) found) (IsKnownMark c)) (sym same)
      (here c (writes_mark register m) found k))
      (rw (last_from-append None (writes_mark register) xs (m ∷ mid)) at h))

  operands_go_on : (c : ℕ) (xs mid : List Mark) (sources : List (Option ℕ)) → OperandsKnown c (xs ++ m ∷ mid) sources →
      OperandsKnown c (xs ++ n ∷ mid) sources
  operands_go_on c xs mid [] h = tt
  operands_go_on c xs mid (None ∷ sources) h = (tt, operands_go_on c xs mid sources h.1)
  operands_go_on c xs mid (Some register ∷ sources) h =
      (last_goes_on c register xs mid h.0, operands_go_on c xs mid sources h.1)

  stores_go_on : (c : ℕ) (xs mid : List Mark) → Each (IsKnownStore c) (xs ++ m ∷ mid) →
      Each (IsKnownStore c) (xs ++ n ∷ mid)
  stores_go_on c xs mid h = Each-set _ xs mid m n (store_goes_on c (Each-place _ xs mid m h)) h

  found_goes_on : (xs mid : List Mark) (z : Mark) (o : Option Start) →
      IfSome o (λ s. Found (xs ++ m ∷ mid) z.instruction s.cycle) →
      IfSome o (λ s. Found (xs ++ n ∷ mid) z.instruction s.cycle)
  found_goes_on xs mid z o h = grind (arith, operands_go_on, stores_go_on)

same_start : (xs : List Mark) (m n : Mark) → n.start ≡ m.start → n.instruction ≡ m.instruction → StartsAfter xs m →
    StartsAfter xs n
same_start xs m n start instruction h = rw (start, instruction) h

none_started : (xs : List Mark) (n : Mark) → n.start ≡ None → StartsAfter xs n
none_started xs n none = rw none tt

starts_now : (v : Values) (now : ℕ) (xs : List Mark) (m n : Mark) → Starts v now xs m n → StartsAfter xs n
starts_now v now xs m n a = grind arith

it_goes_on : {v : Values} {now : ℕ} {xs : List Mark} {m n : Mark} → Advances v now xs m n → StartsAfter xs m →
    StartsAfter xs n
it_goes_on given h = grind (arith, same_start, starts_now)

new_have_not_started : (before : List Mark) (fs : List Fetched) → EveryAfter StartsAfter before (map mark_of_fetched fs)
new_have_not_started before [] = tt
new_have_not_started before (f ∷ fs) = (tt, new_have_not_started (before ++ mark_of_fetched f ∷ []) fs)

pub starts_are_kept : (v : Values) → KeptMarks v (λ now ms. EveryAfter StartsAfter [] ms)
starts_are_kept v = record {
  at_reset = tt;
  kept = λ now.
      after_is_kept StartsAfter (λ xs m n a. it_goes_on a)
      (λ xs m n a mid z k. found_goes_on (goes_on a) xs mid z z.start k);
  more = λ now ms fs words h. EveryAfter-append _ [] ms _ h (new_have_not_started ms fs);
}

-- in every history each mark started after what it waits for
pub history_starts_after : {v : Values} {steps : List Step} {h : Hardware} → History v steps h →
    EveryAfter StartsAfter [] (marks_in steps h)
history_starts_after {v} history = marks_of_history (starts_are_kept v) history
