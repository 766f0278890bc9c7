use Rattle.std.proofs.Common.{◌≡◌, ◌∙◌, ◌-◌, ap, arith, drop, false, is_some, length, length-drop, refl, sym}
use Rattle.std.proofs.Math.Bool.{or_assoc}
use Rattle.std.proofs.lemmas.List.{take_all}
use Rattle.rv_asm.specs.Symbols.{found}
use Rattle.rv_asm.proofs.symbols.Symbols.define_labels.Goals as goal

pub loop-name-preserved : goal.loop-name-preserved
loop-name-preserved c =
    let rest = c.loop-name.rest.now in
    let before = rw c.in-Some.ensures.labels at c.loop-name.invariant in
    let new : is_some (found c.loop-name.self c.in-Some.name.now) ≡ false = ap is_some (sym c.get.ensures)
    ∙ sym c.is_some.ensures ∙ c.if-is_some.false in
    let others = take_all (length rest - 2) (drop 2 rest) (omega (arith, length-drop 2 rest)) in
    record {
      faults = rw (others, c.in_ok-define.ensures) (before.faults ∙ rw new refl);
      labels = rw (others, c.in_ok-define.ensures) before.labels;
      body = rw others (before.body ∙ c.in-Some.ensures.body);
      start = rw (others, c.is_start-starts.ensures) (before.start ∙ sym (or_assoc c.loop-name.starts _ _));
    }
