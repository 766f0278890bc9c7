-- What a table knows after a further cycle that knew all of each instruction but what was noted at its fetch and its
-- dispatch alone.
use Rattle.std.proofs.Common.{◌≡◌, ℕ, List, [], ◌∷◌, ◌++◌, map, refl, ap, arith}
use Rattle.std.proofs.lemmas.List.{length-map}
use Rattle.rv_front.specs.FetchBuffer.{FetchBuffer}
use Rattle.rv_hardware.specs.declared.step.Step.{Step}
use Rattle.rv_rob.specs.ReorderBuffer.{ReorderBuffer}
use Rattle.rv_passage.specs.Numbers.{plain, plainly}
use Rattle.rv_passage.specs.Passage.{in_buffers, squashed_in}
use Rattle.rv_passage.specs.Producers.{standing_at}
use Rattle.rv_passage.specs.Table.{Passages, after_steps, at_the_end, moved_on, with_oldest, with_step}
use Rattle.rv_passage.specs.declared.passage.Passage.{Passage}
use Rattle.rv_passage.proofs.MovesOn.{MovesOn, fetched, moves_on, squashed, stands, stays}
use Rattle.rv_passage.proofs.View.{same_cycle}

plain-twice : (ps : List Passage) → map plain ps ≡ map plain (map plain ps)
plain-twice [] = refl
plain-twice (p ∷ ps) = ap (λ l. plain p ∷ l) (plain-twice ps)

module _ (change : Passage → Passage) (alike : (p : Passage) → plain (change p) ≡ plain (change (plain p))) where
  plain-with_oldest : (ps : List Passage) →
      map plain (with_oldest change ps) ≡ map plain (with_oldest change (map plain ps))
  plain-with_oldest [] = refl
  plain-with_oldest (p ∷ ps) = grind (arith, plain-twice, plain-with_oldest ps)

step-plain : (s : Step) (next : ℕ) (t : Passages) →
    plainly (with_step s next t) ≡ plainly (with_step s next (plainly t))
step-plain s next t = grind (arith, plain-with_oldest, fetched, plain-twice)

moves-plain : {cycle number : ℕ} {ps now rows : List Passage} → MovesOn cycle number ps now rows →
    (older : List Passage) → map plain rows ≡ map plain (moved_on cycle number older (map plain ps) now)
moves-plain fetched older = refl
moves-plain (stays {p} ended more) older = rw ended (ap (λ l. plain p ∷ l) (moves-plain more (older ++ plain p ∷ [])))
moves-plain {cycle} (squashed {p} flies none more) older =
    let gone = squashed_in cycle (plain p) in
    rw (flies, none) (ap (λ l. plain gone ∷ l) (moves-plain more (older ++ gone ∷ [])))
moves-plain (stands {p} {n} was flies before more) older =
    let on = standing_at older n (plain p) in
    rw (flies, before) (ap (λ l. plain on ∷ l) (moves-plain more (older ++ on ∷ [])))

module _ (cycle : ℕ) (rob : ReorderBuffer) (front : FetchBuffer) where
  abbrev now : List Passage
  now = in_buffers rob front

  end-plain : (t : Passages) → plainly (at_the_end cycle now t) ≡ plainly (at_the_end cycle now (plainly t))
  end-plain t = grind (arith, moves-plain, moves_on, length-map)

  -- after a further cycle all but what is noted once is the same, where it was the same before
  pub plain_on : (steps : List Step) (pc : ℕ) (t t' : Passages) → plainly t ≡ plainly t' →
      plainly (after_steps cycle steps rob front pc t) ≡ plainly (after_steps cycle steps rob front pc t')
  plain_on =
      same_cycle plainly plainly (λ s next t. plainly (with_step s next t)) (λ t. plainly (at_the_end cycle now t))
      step-plain cycle rob front end-plain
