use Rattle.std.proofs.Common.{◌∙◌, [], ℕ, Vec, Global, drop, filter, length, vec_capacity, ap, arith, length-drop}
use Rattle.rv_passage.specs.Passage.{in_buffers, is_in_flight}
use Rattle.rv_passage.specs.Table.{Passages, at_the_end, passages_of, with_fetched, with_steps}
use Rattle.rv_passage.proofs.Moving.{ended-with, steps-within}
use Rattle.rv_passage.proofs.MovesOn.{moves_on, open-moves}
use Rattle.rv_passage.proofs.table.Table.follow_in_space.Goals as goal

pub append_fetched-requires-clause-countable : goal.append_fetched-requires-clause-countable
append_fetched-requires-clause-countable c = grind (arith, steps-within)

pub returns : goal.returns
returns c =
    let now = in_buffers c.args.rob.now c.args.front.now in
    let taken = passages_of c.take_steps.new.self in
    let middle = with_steps c.args.steps.now c.args.pc (passages_of c.args.self.now) in
    let within = steps-within c.args.steps.now c.args.pc (passages_of c.args.self.now) in
    let moved = c.move_rows_on-fetched in
    let rows = (passages_of moved.new.self).rows in
    let noted = c.append_fetched.ensures.appended ∙ ap (with_fetched (drop moved.result now)) moved.ensures.others in
    let whole =
    noted ∙ ended-with c.args.cycle now taken rows moved.result moved.ensures.rows moved.ensures.kept
    ∙ ap (at_the_end c.args.cycle now) c.take_steps.ensures.taken in
    let interrupts = c.append_fetched.ensures.interrupts ∙ moved.ensures.interrupts in
    let fetched = ap (λ (t : Passages). t.fetched) noted in
    let taken_fetched = ap (λ (t : Passages). t.fetched) c.take_steps.ensures.taken in
    let retired = ap (λ (t : Passages). t.retired) whole in
    let opened = ap (λ (t : Passages). length (filter is_in_flight t.rows)) whole in
    let few = open-moves (moves_on c.args.cycle middle.fetched [] middle.rows now) in
    record {
      followed = whole;
      rows = omega arith;
      interrupts = ap (λ (v : Vec ℕ Global). vec_capacity v) interrupts ∙ c.take_steps.ensures.interrupts;
      fetched = omega (
        arith,
        fetched,
        taken_fetched,
        within.fetched,
        length-drop moved.result now,
        c.append_fetched.ensures.few,
      );
      retired = omega (arith, retired, within.retired, c.requires.few);
      few = omega (arith, opened, few, c.append_fetched.ensures.few);
    }
