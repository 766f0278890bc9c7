use Rattle.std.proofs.Common.{◌≡◌, ◌+◌, [], ◌∷◌, drop, take, slice_get, Some}
use Rattle.std.proofs.Common.{sym, ap, ◌∙◌, arith, append-nil, append_assoc}
use Rattle.std.specs.Option.{option_copied}
use Rattle.rv_isa.specs.Numbered.{below}
use Rattle.rv_rename.proofs.Youngest.{IsTable-push}
use Rattle.rv_rename.proofs.Prefixes.{seq_of, take-next, below-next, below-end}
use Rattle.rv_rename.proofs.rename_map.table_up_to.Goals as goal

pub returns-then-producer-seq-clause-kept : goal.returns-then-producer-seq-clause-kept
returns-then-producer-seq-clause-kept c = grind (arith, below-end, append-nil)

pub returns-then-producer-seq-clause-table : goal.returns-then-producer-seq-clause-table
returns-then-producer-seq-clause-table c = grind (arith, below-end, append-nil)

pub loop-i-preserved : goal.loop-i-preserved
loop-i-preserved c =
    let held : slice_get c.args.producers.now.items c.loop-i.i ≡ Some c.in-Some.producer.now = sym c.get.ensures
    ∙ ap option_copied c.in-Some.is in
    let more = take-next c.loop-i.i c.args.producers.now.items c.in-Some.producer.now held in
    let next = below-next (c.args.seq + 1) c.loop-i.i c.args.producers.now.items c.in-Some.producer.now held
    (omega (arith, c.if-producer-seq.false)) in
    rw (more, c.index.ensures.number) (
      c.loop-i.invariant.0
          ∙ rw next (sym
          (append_assoc (take c.loop-i.i c.args.producers.now.items) (c.in-Some.producer.now ∷ [])
          (below seq_of (c.args.seq + 1) (drop (c.loop-i.i + 1) c.args.producers.now.items)))),
      IsTable-push c.loop-i.table (take c.loop-i.i c.args.producers.now.items) c.in-Some.producer.now
          (omega (arith, c.index.ensures)) c.loop-i.invariant.1,
    )
