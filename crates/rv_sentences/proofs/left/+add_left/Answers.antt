use Rattle.std.proofs.Common.{◌≡◌, ◌+◌, List, ◌∷◌, [], length, length-append, ap, arith, subst, sym}
use Rattle.rv_passage.specs.declared.passage.Passage.{Passage}
use Rattle.rv_sentences.proofs.CountsGrow.{with_all-last}
use Rattle.rv_sentences.proofs.LeftGrows.{CanCount, Counts, can_add_fewer, can_add_others, counts_of, outcomes-last}
use Rattle.rv_sentences.proofs.left.+add_left.Goals as goal

pub add_left-requires : goal.add_left-requires
add_left-requires t c =
    let row = c.in-Some.row.now in
    let before : List Passage = c.in-Some.before.now in
    let all = length c.args.rows.now in
    let shorter : all ≡ length before + 1 =
    omega (arith, ap length c.in-Some.ensures.cases.0, length-append before (row ∷ [])) in
    let counts =
    counts_of c.args.work.now c.args.loads.now c.args.branches.now c.args.mispredicted.now c.args.outcomes.now in
    let can = can_add_others c.args.costs.now row counts (length before) all (omega (arith, shorter)) c.requires in
    let added = c.add_row.ensures in (
      omega (arith, shorter),
      subst (λ (counts : Counts). CanCount counts (length before))
          (λ i. counts_of (sym added.work i) (sym added.loads i) (sym added.branches i) (sym added.mispredicted i)
          (sym added.outcomes i))
          can,
    )

pub returns-in-Some-clause-branches : goal.returns-in-Some-clause-branches
returns-in-Some-clause-branches t c = grind (arith, with_all-last)

pub returns-in-Some-clause-mispredicted : goal.returns-in-Some-clause-mispredicted
returns-in-Some-clause-mispredicted t c = grind (arith, with_all-last)

pub returns-in-Some-clause-outcomes : goal.returns-in-Some-clause-outcomes
returns-in-Some-clause-outcomes t c = grind (arith, outcomes-last)
