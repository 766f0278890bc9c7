-- Where fetch is halted, the last word, fetched or in flight, is the one that was not there.
use Rattle.rv_hardware.proofs.Words.{◌≡◌, ℕ, suc, ◌-◌, Bool, true, false, List, [], ◌∷◌, ◌++◌, map, length, Some, None}
use Rattle.rv_hardware.proofs.Words.{Option, MatchOption, sym, refl, ap, ◌∙◌, subst, append_assoc, map-append, Message}
use Rattle.rv_hardware.proofs.Words.{Memory, finished, started, Entry, FetchBuffer, Fetches, FetchesInto, is_halted}
use Rattle.rv_hardware.proofs.Words.{stop_after, stop_for, FetchStop, Halted, Fetched, any_prediction, entry_of_fetched}
use Rattle.rv_hardware.proofs.Words.{Hardware, map-change, arith}
use Rattle.rv_hardware.proofs.Turns.Cited.{IsKept, phases-kept, IsKeptByChanges, all_squashed, head_retires, one_starts}
use Rattle.rv_hardware.proofs.Turns.Cited.{one_sent, one_mended, one_enters, fetch-cases}
use Rattle.rv_hardware.proofs.Always.Entries.{AreShaped, entries_changes, entries-kept, message_at_end}
use Rattle.rv_hardware.proofs.Always.Faults.{HasWordOr}

abbrev word_of_entry : Entry → Option ℕ
word_of_entry e = e.word

abbrev word_of_fetched : Fetched → Option ℕ
word_of_fetched f = f.word

-- the words in flight and in the fetch buffer
abbrev pub words_of : List Entry → List Fetched → List (Option ℕ)
words_of entries fetched = map word_of_entry entries ++ map word_of_fetched fetched

-- the last of some words, after another one
abbrev pub last_of : Option ℕ → List (Option ℕ) → Option ℕ
last_of before [] = before
last_of before (w ∷ ws) = last_of w ws

-- where fetch is halted, the last of some words was not there
abbrev pub HaltsAfter : Bool → List (Option ℕ) → Type 0
HaltsAfter true ws = last_of (Some 0) ws ≡ None
HaltsAfter false ws = Unit {0}

-- where there is no word, fetch is not halted
pub runs-empty : (halted : Bool) → HaltsAfter halted [] → halted ≡ false
runs-empty halted after = grind arith

-- where fetch is halted, the last word, fetched or in flight, was not there
abbrev pub IsHalted : Hardware → Type 0
IsHalted h = AreShaped h × HaltsAfter h.front.halted (words_of h.rob.entries h.front.entries)

last-append : (before : Option ℕ) (xs ys : List (Option ℕ)) → last_of before (xs ++ ys) ≡ last_of (last_of before xs) ys
last-append before [] ys = refl
last-append before (x ∷ xs) ys = last-append x xs ys

-- ---- a retirement
has_word : (word : Option ℕ) (message : Message) → message.fault ≡ None → HasWordOr message.fault word →
    HasWordOr None word
has_word word message faultless has = subst (λ fault. HasWordOr fault word) faultless has

next_last : (halted : Bool) (word : Option ℕ) (ws : List (Option ℕ)) → HasWordOr None word →
    HaltsAfter halted (word ∷ ws) → HaltsAfter halted ws
next_last false word ws has after = tt
next_last true None ws has after = absurd has
next_last true (Some word) [] has after = absurd (cc)
next_last true (Some word) (w ∷ ws) has after = after

-- ---- one among the others is another one with the same word
same_words : (h : Hardware) (older younger : List Entry) (old new : Entry) → new.word ≡ old.word →
    h.rob.entries ≡ older ++ old ∷ younger → HaltsAfter h.front.halted (words_of h.rob.entries h.front.entries) →
    HaltsAfter h.front.halted (words_of (older ++ new ∷ younger) h.front.entries)
same_words h older younger old new same split after = grind (arith, map-change)

-- ---- a dispatch
moved_words : (entries : List Entry) (e : Entry) (f : Fetched) (rest : List Fetched) → e.word ≡ f.word →
    words_of (entries ++ e ∷ []) rest ≡ words_of entries (f ∷ rest)
moved_words entries e f rest same = grind (arith, map-append, append_assoc)

-- ---- a fetch
halted_for : (word : Option ℕ) (straight : Bool) (reason : FetchStop) → stop_for word straight ≡ Some reason →
    reason ≡ Halted → word ≡ None
halted_for word straight reason is halted = grind arith

module _ (ram : Memory) (cycle : ℕ) where
  last_by : (width room : ℕ) (e : Fetched) (es : List Fetched) (next : ℕ) {stop : FetchStop}
      {after_first : Option FetchStop} →
      stop_after e ≡ after_first → stop ≡ Halted →
      (Fetches any_prediction ram cycle width room e.predicted es next stop →
      last_of e.word (map word_of_fetched es) ≡ None) →
      MatchOption after_first (Fetches any_prediction ram cycle width room e.predicted es next stop)
      (λ reason. (es ≡ []) × (next ≡ e.predicted) × (stop ≡ reason)) →
      last_of e.word (map word_of_fetched es) ≡ None
  last_by width room e es next is halted given rest = grind (arith, halted_for)

  last_added : (width room pc : ℕ) (added : List Fetched) (next : ℕ) (stop : FetchStop) →
      Fetches any_prediction ram cycle width room pc added next stop → stop ≡ Halted → (before : Option ℕ) →
      last_of before (map word_of_fetched added) ≡ None
  last_added (suc width) (suc room) pc [] next stop words halted before = absurd words.0
  last_added (suc width) (suc room) pc (e ∷ es) next stop (at, rest) halted before =
      last_by width room e es next refl halted
      (λ on. last_added width room e.predicted es next stop on halted e.word) rest
  last_added width room pc (e ∷ es) next stop words halted before = absurd words
  last_added width room pc [] next stop words halted before = absurd (cc (words.0, halted))

  after_added : (entries : List Entry) (old : FetchBuffer) (added : List Fetched) (next : ℕ) (stop : FetchStop) →
      Fetches any_prediction ram cycle old.width (old.capacity - length old.entries) old.next_pc added next stop →
      HaltsAfter (is_halted stop) (words_of entries (old.entries ++ added))
  after_added entries old added next stop words = grind (arith, map-append, last-append, last_added)

  after_fetched : (entries : List Entry) (old new : FetchBuffer) (stop : FetchStop) →
      FetchesInto any_prediction ram cycle old new stop → HaltsAfter old.halted (words_of entries old.entries) →
      HaltsAfter new.halted (words_of entries new.entries)
  after_fetched entries old new stop fetches after = grind (arith, fetch-cases, after_added)

halted_changes : IsKeptByChanges IsHalted
halted_changes h _ (all_squashed s retired) has = (entries_changes h _ (all_squashed s retired) has.0, tt)
halted_changes h _ (head_retires e es s message split known none) has =
    grind (arith, entries_changes, next_last, has_word, message_at_end)
halted_changes h _ (one_starts k older younger e cost message split waits of_kind result costs) has = (
  entries_changes h _ (one_starts k older younger e cost message split waits of_kind result costs) has.0,
  same_words h older younger e (started (record { cycle = h.cycle; cost = cost }) message e) refl split has.1,
)
halted_changes h _ (one_sent older younger e message split gives) has = (
  entries_changes h _ (one_sent older younger e message split gives) has.0,
  same_words h older younger e (finished message h.cycle e) refl split has.1,
)
halted_changes h _ (one_mended older younger e next split) has =
    (entries_changes h _ (one_mended older younger e next split) has.0, tt)
halted_changes h _ (one_enters f rest first none) has = (
  entries_changes h _ (one_enters f rest first none) has.0,
  subst (HaltsAfter h.front.halted)
      (ap (λ l. words_of h.rob.entries l) first ∙ sym (moved_words h.rob.entries (entry_of_fetched h f) f rest refl))
      has.1,
)
halted_changes h _ _ has = has

-- every cycle keeps it
pub halted-kept : IsKept IsHalted
halted-kept = record {
  phases = phases-kept halted_changes;
  fetch = λ ram cycle h front stop has fetches. (
    entries-kept.fetch ram cycle h front stop has.0 fetches,
    after_fetched ram cycle h.rob.entries h.front front stop fetches has.1,
  );
}
