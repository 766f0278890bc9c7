-- The fetch of the programs is one of the definition, by what their predictor answers.
use Rattle.rv_hardware.proofs.Words.{◌≡◌, ℕ, zero, suc, ◌<◌, ◌^◌, ◌/◌, ◌*◌, nat_lt, Bool, true, false, if◌then◌else◌}
use Rattle.rv_hardware.proofs.Words.{MatchBool, [], ◌∷◌, ◌++◌, length, Option, Some, None, is_none, append-nil, refl}
use Rattle.rv_hardware.proofs.Words.{sym, subst, arith, pc_plus_4, Memory, Answers, FetchBuffer, Fetched, FetchesInto}
use Rattle.rv_hardware.proofs.Words.{◌==◌, stop_for, Prediction, FetchStop, IsFetchedAt, stop_after, Halted, Room}
use Rattle.rv_front.proofs.Fetching.{Fetching, Fetching-all, Fetching-end, Fetching-step}
use Rattle.rv_front.specs.FetchBuffer.{IsPrediction}
use Rattle.rv_front.specs.Guide.{Guide, answers_of, guide_by}
use Rattle.rv_front.specs.Lesson.{Lesson}
use Rattle.rv_front.specs.OneWord.{FetchesOne}
use Rattle.rv_front.specs.declared.fetched.FetchStop.TheVariants.{Width}
use Rattle.rv_hardware.proofs.AnyPrediction.{IntoBy}
use Rattle.rv_hardware_tests.proofs.Programs.{after_fetch, guess_at, next_word, is_last, with_word, with_words}

module _ {S : Type 0} (answered : S → ℕ → ℕ → ℕ) (learned : S → Lesson → S) where
  -- what is known of a predictor in this state
  abbrev pub guide : S → Guide
  guide predictor = guide_by answered learned predictor

  -- what it answers is an address
  abbrev pub AnswersAddresses : S → Type 0
  AnswersAddresses predictor = (pc word : ℕ) → answered predictor pc word < 2 ^ 32

  module _ (predictor : S) (addresses : AnswersAddresses predictor) (ram : Memory) (cycle : ℕ) where
    abbrev answers : Answers
    answers = answers_of (guide predictor)

    abbrev word_after : FetchBuffer → Fetched
    word_after front = next_word answered learned predictor ram cycle front

    abbrev words_after : ℕ → FetchBuffer → FetchBuffer
    words_after width front = with_words answered learned predictor ram cycle width front

    predicts : (pc : ℕ) (word : Option ℕ) →
        IsPrediction answers pc word (guess_at answered learned predictor pc word / 4 * 4)
    predicts pc None = record { guess = pc_plus_4 pc; guessed = refl; fits = omega arith; rounded = refl }
    predicts pc (Some word) =
        record { guess = answered predictor pc word; guessed = refl; fits = addresses pc word; rounded = refl }

    fetched : (front : FetchBuffer) → IsFetchedAt answers ram cycle front.next_pc (word_after front)
    fetched front = record {
      pc_is = refl;
      word_is = refl;
      instruction_is = refl;
      predicted_is = predicts front.next_pc (word_after front).word;
      cycle_is = refl;
    }

    -- the fetch of one word, where there is room
    fetches_one : (front : FetchBuffer) (stop : Option FetchStop) →
        nat_lt (length front.entries) front.capacity ≡ true → stop_after (word_after front) ≡ stop →
        FetchesOne answers ram cycle front (with_word front (word_after front)) stop
    fetches_one front stop room is =
        let next : FetchBuffer = with_word front (word_after front) in
        let One : Bool → Type 0 = λ b. MatchBool b
        ((e : Fetched) × IsFetchedAt answers ram cycle front.next_pc e × (stop ≡ stop_after e)
        × (next ≡ record front { entries = front.entries ++ e ∷ []; next_pc = e.predicted; halted = is_none e.word }))
        ((next ≡ front) × (stop ≡ Some Room)) in
        subst One (sym room) (word_after front, fetched front, sym is, refl)

    -- the fetch of no word, where there is none
    fetches_none : (front : FetchBuffer) → nat_lt (length front.entries) front.capacity ≡ false →
        FetchesOne answers ram cycle front front (Some Room)
    fetches_none front full =
        let One : Bool → Type 0 = λ b. MatchBool b
        ((e : Fetched) × IsFetchedAt answers ram cycle front.next_pc e × (Some Room ≡ stop_after e)
        × (front ≡ record front { entries = front.entries ++ e ∷ []; next_pc = e.predicted; halted = is_none e.word }))
        ((front ≡ front) × (Some Room ≡ Some Room)) in
        subst One (sym full) (refl, refl)

    -- a fetch that leads from one buffer to another, and why it ends
    abbrev Leads : FetchBuffer → FetchBuffer → Type 0
    Leads old new = (stop : FetchStop) × FetchesInto answers ram cycle old new stop

    after_word : (width : ℕ) (old now more : FetchBuffer) (word : Option ℕ) (is_next : Bool) → old.halted ≡ false →
        nat_lt (length now.entries) now.capacity ≡ true → stop_after (word_after now) ≡ stop_for word is_next →
        Fetching answers ram cycle old (suc width) now →
        (Fetching answers ram cycle old width (with_word now (word_after now)) → Leads old more) →
        Leads old (if is_last word is_next then with_word now (word_after now) else more)
    after_word width old now more None is_next runs room is f rest = (
      Halted,
      Fetching-end answers ram cycle old now (with_word now (word_after now)) (suc width) width Halted runs refl
          f (fetches_one now (Some Halted) room is),
    )
    after_word width old now more (Some word) true runs room is f rest =
        rest (Fetching-step answers ram cycle old now (with_word now (word_after now)) (suc width) width refl f
        (fetches_one now None room is))
    after_word width old now more (Some word) false runs room is f rest = (
      Prediction,
      Fetching-end answers ram cycle old now (with_word now (word_after now)) (suc width) width Prediction
          runs refl f (fetches_one now (Some Prediction) room is),
    )

    by_room : (width : ℕ) (old now more : FetchBuffer) (has_room : Bool) → old.halted ≡ false →
        nat_lt (length now.entries) now.capacity ≡ has_room → Fetching answers ram cycle old (suc width) now →
        (Fetching answers ram cycle old width (with_word now (word_after now)) → Leads old more) →
        Leads old
        (if has_room
        then (if is_last (word_after now).word ((word_after now).predicted == pc_plus_4 (word_after now).pc)
        then with_word now (word_after now)
        else more)
        else now)
    by_room width old now more true runs room f rest =
        after_word width old now more (word_after now).word
        ((word_after now).predicted == pc_plus_4 (word_after now).pc) runs room refl f rest
    by_room width old now more false runs full f rest =
        (Room, Fetching-end answers ram cycle old now now (suc width) width Room runs refl f (fetches_none now full))

    fetches_words : (width : ℕ) (old now : FetchBuffer) → old.halted ≡ false →
        Fetching answers ram cycle old width now → Leads old (words_after width now)
    fetches_words zero old now runs f = (Width, Fetching-all answers ram cycle old now zero runs refl f)
    fetches_words (suc width) old now runs f =
        let next : FetchBuffer = with_word now (word_after now) in
        by_room width old now (words_after width next) (nat_lt (length now.entries) now.capacity) runs refl f
        (fetches_words width old next runs)

    by_halted : (front : FetchBuffer) (halted : Bool) → front.halted ≡ halted →
        Leads front (if halted then front else words_after front.width front)
    by_halted front true is = (Halted, subst (λ b. IntoBy answers ram cycle b front front Halted) (sym is) (refl, refl))
    by_halted front false is =
        fetches_words front.width front front is (record {
          added = [];
          entries_are = sym (append-nil front.entries);
          capacity_is = refl;
          width_is = refl;
          halted_is = is;
          rest = λ es next stop more. more;
        })

    -- each fetch of theirs is one of the definition
    pub fetches : (front : FetchBuffer) → (stop : FetchStop) ×
        FetchesInto answers ram cycle front (after_fetch answered learned predictor ram cycle front) stop
    fetches front = by_halted front front.halted refl
