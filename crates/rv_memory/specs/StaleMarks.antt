-- How a stale map keeps its words, and how they are distinguished; no public clause names these.
use Rattle.std.specs.Prelude.{ℕ, ◌+◌, ◌==◌, Bool, true, false, List, [], ◌∷◌, map, refl}
use Rattle.std.specs.{Coded.Coded, Coded.code_by, Coded.coded×, Coded.coded_ℕ, Ordering.nat_cmp}
use Rattle.std.specs.FinSet as set
use Rattle.rv_memory.specs.Stale.{StaleWords}

-- stale words are distinguished as the tuple of their fields
abbrev pub stale_words_code : Coded StaleWords
stale_words_code =
    code_by (ℕ × (ℕ × set.FinSet nat_cmp)) (coded× coded_ℕ (coded× coded_ℕ (set.code coded_ℕ)))
    (λ s. (s.base, (s.size, s.words))) (λ p. record { base = p.0; size = p.1.0; words = p.1.1 }) (λ _. refl)

-- the numbers of the words that are marked, where the first mark is that of a given word
abbrev pub marked_words : ℕ → List Bool → List ℕ
marked_words first [] = []
marked_words first (true ∷ marks) = first ∷ marked_words (first + 1) marks
marked_words first (false ∷ marks) = marked_words (first + 1) marks

-- the marks of a round
abbrev pub marks_of : ℕ → List ℕ → List Bool
marks_of round rounds = map (λ r. r == round) rounds

-- the words that were marked in a round
abbrev pub words_of : ℕ → ℕ → List ℕ → set.FinSet nat_cmp
words_of first round rounds = set.from_list (marked_words first (marks_of round rounds))
