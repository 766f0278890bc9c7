-- What became of the fetched words, as instructions leave the hardware.
use Rattle.std.proofs.Common.{◌≡◌, ◌∙◌, ℕ, ◌+◌, Bool, false, List, ◌++◌, filter, count_by, refl, ap, arith}
use Rattle.std.proofs.Common.{length-append}
use Rattle.std.specs.Prelude.{is_some, not}
use Rattle.std.proofs.lemmas.List.Sums.{sum_by-append}
use Rattle.rv_passage.specs.Passage.{is_retirement, is_running, is_squash}
use Rattle.rv_passage.specs.Prediction.{is_mispredicted}
use Rattle.rv_passage.specs.declared.passage.{Ending.Ending, Passage.Passage}
use Rattle.rv_counts.specs.Counts.{mispredicted_among}
use Rattle.rv_counts.specs.Load.{is_hit}
use Rattle.rv_counts.specs.Passing.{has_left}
use Rattle.rv_counts.specs.declared.loads.LoadCosts.{LoadCosts}
use Rattle.rv_counts.proofs.Among.{count-among}
use Rattle.rv_counts.proofs.Mispredicted.{mispredicted-all, unretired-right}
use Rattle.rv_sentences.specs.Access.{both}
use Rattle.rv_sentences.specs.Load.{loads_of, retired_load_cost}
use Rattle.rv_sentences.specs.WordCount.{count_at}
use Rattle.rv_sentences.specs.Work.{both_work, is_of, is_retired_branch, word_in, work_of}
use Rattle.rv_sentences.specs.declared.work.Class.{Class}
use Rattle.rv_sentences.specs.declared.work.Class.TheVariants.{Branch, Mispredicted}

-- what did not leave the hardware neither retired nor was squashed
unretired_by : (e : Ending) → not (is_running e) ≡ false → is_retirement e ≡ false
unretired_by e is = grind arith

unsquashed_by : (e : Ending) → not (is_running e) ≡ false → is_squash e ≡ false
unsquashed_by e is = grind arith

-- what did not leave did not retire
pub unretired : (p : Passage) → has_left p ≡ false → is_retirement p.ending ≡ false
unretired p is = unretired_by p.ending is

pub unsquashed : (p : Passage) → has_left p ≡ false → is_squash p.ending ≡ false
unsquashed p is = unsquashed_by p.ending is

loads_left : (costs : LoadCosts) (ps : List Passage) → loads_of costs ps ≡ loads_of costs (filter has_left ps)
loads_left costs ps = grind (arith, count-among, unretired)

-- some more left the hardware
count-appended : (test : Passage → Bool) (new old : List Passage) → count_by test old + count_by test new
    ≡ count_by test (new ++ old)
count-appended test new old = grind (arith, sum_by-append)

-- what became of some and of others
pub work-left : (new old : List Passage) → both_work (work_of old) (work_of new) ≡ work_of (new ++ old)
work-left new old = grind (arith, length-append, count-appended, mispredicted-all)

-- the loads
pub loads-left : (costs : LoadCosts) (rows old : List Passage) →
    both (loads_of costs old) (loads_of costs rows) ≡ loads_of costs (filter has_left rows ++ old)
loads-left costs rows old =
    let all = count-appended (λ p. is_some (retired_load_cost p)) (filter has_left rows) old in
    let quick = count-appended (λ p. is_hit costs (retired_load_cost p)) (filter has_left rows) old in
    ap (both (loads_of costs old)) (loads_left costs rows) ∙ (λ i. record { all = all i; quick = quick i })

-- the words of RAM of those of a class
words-left : (class : Class) (none : (p : Passage) → has_left p ≡ false → is_of class p ≡ false)
    (rows old : List Passage) (word : ℕ)
    → count_at (word_in class) (filter has_left rows ++ old) word ≡ count_at (word_in class) old word
    + count_at (word_in class) rows word
words-left class none rows old word = grind (arith, count-appended, count-among)

-- the branches and jumps at a word
pub branch_words-left : (rows old : List Passage) (word : ℕ)
    → count_at (word_in Branch) (filter has_left rows ++ old) word ≡ count_at (word_in Branch) old word
    + count_at (word_in Branch) rows word
branch_words-left = words-left Branch (λ p is. rw (unretired p is) refl)

-- those that were mispredicted there
pub mispredicted_words-left : (rows old : List Passage) (word : ℕ)
    → count_at (word_in Mispredicted) (filter has_left rows ++ old) word
    ≡ count_at (word_in Mispredicted) old word + count_at (word_in Mispredicted) rows word
mispredicted_words-left = words-left Mispredicted (λ p is. unretired-right p (unretired p is))
