-- A step that a turn of the commit phase takes begins at the committed pc.
use Rattle.rv_hardware.proofs.Words.{◌≡◌, List, [], ◌∷◌, ◌++◌, length, Some, sym, refl, ap, ◌∙◌, arith, length-append}
use Rattle.rv_hardware.proofs.Words.{append_cancel_left, Entry, Committing, commit_turn, Turn, pc_of, Step, Leads}
use Rattle.std.specs.FinSet as set
use Rattle.rv_arch.specs.declared.outcome.Stop.TheVariants as stop
use Rattle.rv_hardware.proofs.Headline.Invariant.{IsSound}
use Rattle.rv_hardware.proofs.Turns.Commit.{CommitTurn, commit_turn_is, written_back, stale_head, fence_writes}
use Rattle.rv_hardware.proofs.Turns.Commit.{fence_retires, executes, serial_faults, traps, retires, retires_last}

-- from one turn to the next: a step begins at the committed pc, which stays where there is none
pub record GoesFrom (c d : Committing) : Type 0 where
  pub begins : (s : Step) → d.steps ≡ c.steps ++ s ∷ [] → pc_of s ≡ c.hardware.pc
  pub stays : d.steps ≡ c.steps → d.hardware.pc ≡ c.hardware.pc

no_step : (c d : Committing) → d.steps ≡ c.steps → d.hardware.pc ≡ c.hardware.pc → GoesFrom c d
no_step c d same stays = record {
  begins = λ s one. absurd (omega (arith, ap length one, ap length same, length-append c.steps (s ∷ [])));
  stays = λ is. stays;
}

one_step : (c d : Committing) (x : Step) → d.steps ≡ c.steps ++ x ∷ [] → pc_of x ≡ c.hardware.pc → GoesFrom c d
one_step c d x is here = record {
  begins = λ s one.
      let same : x ∷ [] ≡ s ∷ [] = append_cancel_left c.steps (x ∷ []) (s ∷ []) (sym is ∙ one) in
      let same_step : s ≡ x = cc in
      ap pc_of same_step ∙ here;
  stays = λ none. absurd (omega (arith, ap length is, ap length none, length-append c.steps (x ∷ [])));
}

module _ (c : Committing) (is : IsSound c.hardware) where
  here : (e : Entry) (es : List Entry) → c.hardware.rob.entries ≡ e ∷ es → e.pc ≡ c.hardware.pc
  here e es place = grind arith

  by_turn : {t : Turn Committing} → CommitTurn set.contains c t → Leads (GoesFrom c) (GoesFrom c) t
  by_turn (stale_head e es at stale) = no_step c (record c { stop = Some (stop.Stale e.pc) }) refl refl
  by_turn (fence_writes e es head fence drained dirty) = no_step c (written_back c) refl refl
  by_turn (fence_retires e es written next head fence drained) = grind (arith, one_step, here)
  by_turn (executes e es written next head serial other) = grind (arith, one_step, here)
  by_turn (serial_faults e es cause value head serial other) = grind (arith, one_step, here)
  by_turn (traps e es issue cycle message fault head plain at faults) = grind (arith, one_step, here)
  by_turn (retires e es issue cycle message head plain at sound) = grind (arith, one_step, here)
  by_turn (retires_last e es issue cycle message head plain at sound) = grind (arith, one_step, here)
  by_turn _ = no_step c c refl refl

  -- the steps that a turn of the commit phase adds begin at the committed pc
  pub turn_goes_from : Leads (GoesFrom c) (GoesFrom c) (commit_turn set.contains c)
  turn_goes_from = by_turn (commit_turn_is set.contains c)
