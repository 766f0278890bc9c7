-- What is kept of the instructions that left the hardware, where the last of some is added first.
use Rattle.std.proofs.Common.{◌≡◌, ◌∙◌, ℕ, ◌+◌, ◌≤◌, Bool, true, false, List, [], ◌∷◌, ◌++◌, filter, refl, ap, sym}
use Rattle.std.proofs.Common.{arith, append-nil}
use Rattle.std.proofs.lemmas.List.Elements.{filter-append}
use Rattle.rv_memory.specs.Memory.{word_of}
use Rattle.rv_passage.specs.declared.passage.Passage.{Passage}
use Rattle.rv_counts.specs.Passing.{has_left}
use Rattle.rv_counts.specs.declared.loads.LoadCosts.{LoadCosts}
use Rattle.rv_sentences.specs.Left.{CanAdd}
use Rattle.rv_sentences.specs.Load.{loads_with}
use Rattle.rv_sentences.specs.Outcome.{outcomes_with, with_passages}
use Rattle.rv_sentences.specs.WordCount.{with_one}
use Rattle.rv_sentences.specs.WordNotes.{Notes, with_change}
use Rattle.rv_sentences.specs.Work.{word_in, work_with}
use Rattle.rv_sentences.specs.declared.{accesses.Accesses.Accesses, outcomes.Outcomes.Outcomes, work.Work.Work}
use Rattle.rv_sentences.specs.declared.work.Class.TheVariants.{Branch, Mispredicted}
use Rattle.rv_counts.proofs.Rooms.{one_more-within}
use Rattle.rv_sentences.proofs.CountSums.{sum_with_one}
use Rattle.rv_sentences.proofs.OutcomesGrow.{can_take_fewer, can_take_others, no_load, passages-last}

module _ (costs : LoadCosts) (ps : List Passage) (p : Passage) (notes : Notes Outcomes) where
  by_left : (is : Bool) → has_left p ≡ is →
      with_passages costs (filter has_left ps) (with_change (outcomes_with costs p) notes (word_of p.pc))
      ≡ with_passages costs (filter has_left ps ++ filter has_left (p ∷ [])) notes
  by_left true is = rw is (sym (passages-last costs (filter has_left ps) p notes))
  by_left false is = grind (arith, no_load, append-nil)

  -- the loads in each word, with the last instruction
  pub outcomes-last : with_passages costs (filter has_left ps)
      (with_change (outcomes_with costs p) notes (word_of p.pc))
      ≡ with_passages costs (filter has_left (ps ++ p ∷ [])) notes
  outcomes-last =
      by_left (has_left p) refl ∙ ap (λ l. with_passages costs l notes) (sym (filter-append has_left ps (p ∷ [])))

-- ---- the counts can go on

-- what is counted of the instructions that left
pub record Counts : Type 0 where
  pub work : Work
  pub loads : Accesses
  pub branches : Notes ℕ
  pub mispredicted : Notes ℕ
  pub outcomes : Notes Outcomes

-- those that are counted one by one
abbrev pub counts_of : Work → Accesses → Notes ℕ → Notes ℕ → Notes Outcomes → Counts
counts_of work loads branches mispredicted outcomes = record {
  work = work;
  loads = loads;
  branches = branches;
  mispredicted = mispredicted;
  outcomes = outcomes;
}

-- the same with one more instruction
abbrev pub counts_with : LoadCosts → Passage → Counts → Counts
counts_with costs p counts = record {
  work = work_with p counts.work;
  loads = loads_with costs p counts.loads;
  branches = with_one (word_in Branch p) counts.branches;
  mispredicted = with_one (word_in Mispredicted p) counts.mispredicted;
  outcomes = with_change (outcomes_with costs p) counts.outcomes (word_of p.pc);
}

-- none comes to 2^64 with so many instructions more
abbrev pub CanCount : Counts → ℕ → Type 0
CanCount counts more = CanAdd counts.work counts.loads counts.branches counts.mispredicted counts.outcomes more

-- room for more is room for fewer
pub can_add_fewer : (counts : Counts) (fewer more : ℕ) → fewer ≤ more → CanCount counts more → CanCount counts fewer
can_add_fewer counts fewer more under can = grind (arith, can_take_fewer)

-- with one more by so many fewer
module _ (costs : LoadCosts) (p : Passage) (counts : Counts) (fewer more : ℕ) (under : fewer + 1 ≤ more)
    (can : CanCount counts more) where
  -- after one instruction there is room for the others
  pub can_add_others : CanCount (counts_with costs p counts) fewer
  can_add_others = grind (arith, one_more-within, sum_with_one, can_take_others)
