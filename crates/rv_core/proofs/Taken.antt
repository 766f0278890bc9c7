-- What takes steps, through some and some more of them: what it lists, and the room that is left.
use Rattle.rv_core.proofs.Words.{◌≡◌, ℕ, Bool, ◌+◌, ◌≤◌, true, is_some, List, [], ◌++◌, length, ap, ◌∙◌, append_assoc}
use Rattle.rv_core.proofs.Words.{append-nil, arith, length-append, count_by-le-length, Step}
use Rattle.std.proofs.lemmas.List.Sums.{sum_by-append}
use Rattle.std.specs.Prelude.{count_by}
use Rattle.rv_core.specs.Steps.{HasRoom, Takes, listed}
use Rattle.rv_core.specs.declared.steps.Steps.{Steps}

count_by-append : (p : Step → Bool) (some more : List Step) → count_by p (some ++ more)
    ≡ count_by p some + count_by p more
count_by-append p some more = sum_by-append _ some more

-- no step
pub takes_none : (steps : Steps) → Takes steps steps []
takes_none steps = grind (arith, append-nil)

module _ {old now : Steps} where
  -- some, and some more
  pub takes_more : {new : Steps} (some more : List Step) → Takes old now some → Takes now new more →
      Takes old new (some ++ more)
  takes_more some more first then = grind (arith, length-append, count_by-append, append_assoc)

  module _ {some : List Step} (taken : Takes old now some) where
    -- the room that is left
    pub room_left : {all more : ℕ} → HasRoom old all → length some + more ≤ all → HasRoom now more
    room_left room fits = grind (arith, count_by-le-length, length-append)

    -- after none, those that were taken are all that are listed
    pub listed_anew : is_some old.list ≡ true → listed old ≡ [] → listed now ≡ some
    listed_anew is none = taken.lists is ∙ ap (λ l. l ++ some) none
