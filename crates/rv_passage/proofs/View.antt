-- A view of tables that goes through the steps of a cycle, and what its end makes of the view.
use Rattle.std.proofs.Common.{◌≡◌, ◌∙◌, ℕ, List, [], ◌∷◌, sym, ap}
use Rattle.rv_front.specs.FetchBuffer.{FetchBuffer}
use Rattle.rv_hardware.specs.Lessons.{first_pc}
use Rattle.rv_hardware.specs.declared.step.Step.{Step}
use Rattle.rv_rob.specs.ReorderBuffer.{ReorderBuffer}
use Rattle.rv_passage.specs.Passage.{in_buffers}
use Rattle.rv_passage.specs.Table.{Passages, after_steps, at_the_end, with_step, with_steps}

module _ {X Y : Type 0} (view : Passages → X) (seen : Passages → Y) (after : Step → ℕ → X → X) (ending : X → Y)
    (takes : (s : Step) (next : ℕ) (t : Passages) → view (with_step s next t) ≡ after s next (view t))
    (cycle : ℕ) (rob : ReorderBuffer) (front : FetchBuffer)
    (ends : (t : Passages) → seen (at_the_end cycle (in_buffers rob front) t) ≡ ending (view t)) where
  same_steps : (ss : List Step) (next : ℕ) (t t' : Passages) → view t ≡ view t' →
      view (with_steps ss next t) ≡ view (with_steps ss next t')
  same_steps [] next t t' same = same
  same_steps (s ∷ ss) next t t' same =
      let pc = first_pc ss next in
      let one = takes s pc t ∙ ap (after s pc) same ∙ sym (takes s pc t') in
      same_steps ss next (with_step s pc t) (with_step s pc t') one

  -- where the view is the same before a cycle, what its end makes of the view is the same
  pub same_cycle : (ss : List Step) (pc : ℕ) (t t' : Passages) → view t ≡ view t' →
      seen (after_steps cycle ss rob front pc t) ≡ seen (after_steps cycle ss rob front pc t')
  same_cycle ss pc t t' same =
      ends (with_steps ss pc t) ∙ ap ending (same_steps ss pc t t' same) ∙ sym (ends (with_steps ss pc t'))
