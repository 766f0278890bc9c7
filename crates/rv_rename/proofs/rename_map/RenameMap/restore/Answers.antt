use Rattle.std.proofs.Common.{◌≡◌, true, false, refl, sym, ◌∙◌, ◌==◌, ◌+◌}
use Rattle.rv_isa.proofs.Numbered.{below-map}
use Rattle.rv_rename.specs.Kept.{checkpoint_of}
use Rattle.rv_rename.proofs.CheckpointLists.{checkpoint_seq, checkpoints-restore, producers_at-held, producers_at-none}
use Rattle.std.specs.List.{list_any}
use Rattle.rv_rename.proofs.rename_map.RenameMap.restore.Goals.{then-contains, else-contains}
use Rattle.rv_rename.proofs.rename_map.RenameMap.restore.Goals as goal

pub returns : goal.returns
returns c =
    elim c.if-contains.branch [
      | then-contains w ↦
          let kept = rw w.self-inside-is at c.keep_up_to.ensures.kept in
          let held : list_any (λ m. m == c.args.seq) c.self.inside.checkpoints.items ≡ true =
          rw c.deref.ensures.value at (sym c.contains.ensures.value ∙ w.if-contains.true) in
          rw (
            w.self-inside-is,
            w.truncate_back.ensures,
            w.table_up_to-kept.ensures.kept,
            ← c.self.view_is,
            kept,
            producers_at-held c.args.seq c.self.inside.checkpoints.items c.self.inside.producers.items
                c.self.inside.producers.items held,
            checkpoints-restore (c.args.seq + 1) c.self.inside.checkpoints.items c.self.inside.producers.items,
          )
      | else-contains w ↦
          let kept = rw w.self-inside-is at c.keep_up_to.ensures.kept in
          let none : list_any (λ m. m == c.args.seq) c.self.inside.checkpoints.items ≡ false =
          rw c.deref.ensures.value at (sym c.contains.ensures.value ∙ w.if-contains.false) in
          rw (
            w.self-inside-is,
            ← c.self.view_is,
            kept,
            producers_at-none c.args.seq c.self.inside.checkpoints.items c.self.inside.producers.items
                c.self.inside.producers.items none,
            below-map (λ m. m) checkpoint_seq (checkpoint_of c.self.inside.producers.items) (λ m. refl)
                (c.args.seq + 1) c.self.inside.checkpoints.items,
          )
    ]
