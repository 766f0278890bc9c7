-- What is known of a predictor that guides a fetch: its answers, now and after lessons.
use Rattle.std.specs.Prelude.{◌≡◌, ℕ, List, [], ◌∷◌, Option, Some, None, IfSome}
use Rattle.std.specs.List.{fold}
use Rattle.rv_front.specs.Lesson.{Lesson}

-- What a predictor answers: by the lessons that it is taught before it is asked, the first one first, a pc and the word
-- there; or `None` where that is not known.
abbrev pub Guide : Type 0
Guide = List Lesson → ℕ → ℕ → Option ℕ

-- a predictor of which nothing is known
abbrev pub unknown : Guide
unknown lessons pc word = None

-- a predictor in a state, by what each state answers for the word at a pc, and what a lesson makes of a state
abbrev pub guide_by : {S : Type 0} → (S → ℕ → ℕ → ℕ) → (S → Lesson → S) → S → Guide
guide_by answered learned state lessons pc word = Some (answered (fold learned state lessons) pc word)

-- what a predictor may answer for the word at a pc: its answer as it is, or, where that is not known, anything
abbrev pub answers_of : Guide → ℕ → ℕ → ℕ → Type 0
answers_of guide pc word next = IfSome (guide [] pc word) (λ answer. next ≡ answer)

-- a predictor after a lesson: that lesson comes before any others
abbrev pub after_lesson : Guide → Lesson → Guide
after_lesson guide lesson lessons = guide (lesson ∷ lessons)

-- these lessons, the first one first, lead from what the predictor was to what it is
abbrev pub AreTaught : Guide → List Lesson → Guide → Type 0
AreTaught old lessons new = new ≡ fold after_lesson old lessons
