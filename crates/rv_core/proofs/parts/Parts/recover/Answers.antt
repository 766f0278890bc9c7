use Rattle.rv_core.proofs.Words.{◌+◌, sym, ap, ◌∙◌, subst, arith, predicting, changed, Hardware, redirected, cut_from}
use Rattle.rv_core.proofs.Words.{IsSound, hardware_of}
use Rattle.rv_core.proofs.Ties.Broadcast.{recovered-is, recovered-sound}
use Rattle.rv_core.proofs.Ties.Entries.{entry_of-from}
use Rattle.rv_core.proofs.parts.Parts.recover.Goals as goal

pub overflow_add-from : goal.overflow_add-from
overflow_add-from c = grind (arith, entry_of-from)

pub invariant_of-self : goal.invariant_of-self
invariant_of-self c =
    let p = c.self.inside in
    let held = rw (← c.self.view_is) at c.requires.jump.1 in
    let rob = c.cut.ensures ∙ ap (cut_from (c.args.seq + 1)) c.correct_prediction.ensures in
    subst IsSound (λ i. record p {
      rob = sym rob i;
      stations = sym c.squash.ensures i;
      bus = sym c.squash-2.ensures i;
      stores = sym c.squash-3.ensures i;
      rename = sym c.restore.ensures i;
      front = sym c.redirect.ensures i;
    })
    (recovered-sound p c.self.invariant c.args.seq c.args.next_pc c.requires.jump.0
    (rw (← c.self.view_is) at c.requires.early) held c.requires.jump.2)

pub returns : goal.returns
returns c =
    let p = c.self.inside in
    let held = rw (← c.self.view_is) at c.requires.jump.1 in
    let rob = c.cut.ensures ∙ ap (cut_from (c.args.seq + 1)) c.correct_prediction.ensures in
    (λ i. hardware_of (record p {
      rob = rob i;
      stations = c.squash.ensures i;
      bus = c.squash-2.ensures i;
      stores = c.squash-3.ensures i;
      rename = c.restore.ensures i;
      front = c.redirect.ensures i;
    })) ∙
    recovered-is p c.self.invariant c.args.seq c.args.next_pc c.requires.jump.0
    (rw (← c.self.view_is) at c.requires.early) held c.requires.jump.2 ∙
    ap {A = Hardware} (λ x. record x {
      rob = cut_from (c.args.seq + 1) (changed (predicting c.args.next_pc) c.args.seq x.rob);
      front = redirected c.args.next_pc x.front;
    }) c.self.view_is
