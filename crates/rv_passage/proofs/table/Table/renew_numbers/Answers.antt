use Rattle.std.proofs.Common.{◌∙◌, ℕ, List, Vec, Global, drop, filter, length, take, vec_capacity, ap, arith}
use Rattle.std.proofs.Common.{length-append, length-drop, length-take}
use Rattle.std.proofs.lemmas.List.Sums.{count_by-le-length, length-filter}
use Rattle.rv_passage.specs.Numbers.{kept_through, numbers_of}
use Rattle.rv_passage.specs.Passage.{in_buffers, is_in_flight}
use Rattle.rv_passage.specs.Table.{Passages, numbered_from, passages_of, still_open, with_fetched, with_rows}
use Rattle.rv_passage.specs.Table.{with_steps}
use Rattle.rv_passage.specs.declared.passage.Passage.{Passage}
use Rattle.rv_passage.proofs.Moving.{length-numbered_from, steps-within}
use Rattle.rv_passage.proofs.Numbers.{kept-few, numbers_kept}
use Rattle.rv_passage.proofs.table.Table.renew_numbers.Goals as goal

pub clear_space-requires : goal.clear_space-requires
clear_space-requires c =
    let ended = with_steps c.args.steps.now c.args.pc (passages_of c.args.self.now) in
    let within = steps-within c.args.steps.now c.args.pc (passages_of c.args.self.now) in
    let opened = c.drop_ended.ensures.opened ∙ ap still_open c.take_steps.ensures.taken in
    let rows = ap (λ (t : Passages). length t.rows) opened in
    let few = count_by-le-length is_in_flight ended.rows in
    omega (arith, within.rows, rows, length-filter is_in_flight ended.rows, few, c.requires.room.rows)

pub keep-requires : goal.keep-requires
keep-requires c = grind (arith, kept-few)

pub append_fetched-requires-clause-countable : goal.append_fetched-requires-clause-countable
append_fetched-requires-clause-countable c =
    let within = steps-within c.args.steps.now c.args.pc (passages_of c.args.self.now) in
    let opened = c.clear_space.ensures.same ∙ c.drop_ended.ensures.opened ∙ ap still_open c.take_steps.ensures.taken in
    let fetched = ap (λ (t : Passages). t.fetched) c.keep.ensures.kept ∙ ap (λ (t : Passages). t.fetched) opened in
    omega (arith, within.fetched, fetched, c.requires.countable.fetched)

pub returns : goal.returns
returns c =
    let now = in_buffers c.args.rob.now c.args.front.now in
    let ended = with_steps c.args.steps.now c.args.pc (passages_of c.args.self.now) in
    let within = steps-within c.args.steps.now c.args.pc (passages_of c.args.self.now) in
    let rows = filter is_in_flight ended.rows in
    let kept = c.count_kept-kept.result in
    let renewed = λ (k : ℕ) (t : Passages). with_fetched (drop k now) (with_rows (take k t.rows) t) in
    let opened = c.clear_space.ensures.same ∙ c.drop_ended.ensures.opened ∙ ap still_open c.take_steps.ensures.taken in
    let so_many =
    c.count_kept-kept.ensures ∙ ap (λ (l : List Passage). kept_through c.args.cycle now (length l)) c.rows.ensures
    ∙ ap (λ (t : Passages). kept_through c.args.cycle now (length t.rows)) opened in
    let whole =
    c.append_fetched.ensures.appended ∙ ap (with_fetched (drop kept now)) c.keep.ensures.kept
    ∙ ap (renewed kept) opened in
    let capacity = λ (v : Vec ℕ Global). vec_capacity v in
    let interrupts =
    ap capacity (c.append_fetched.ensures.interrupts ∙ c.keep.ensures.interrupts ∙ c.clear_space.ensures.interrupts) in
    let fetched = ap (λ (t : Passages). t.fetched) whole in
    let retired = ap (λ (t : Passages). t.retired) whole in
    let few = kept-few c.args.cycle now (length rows) in
    let added = numbered_from ended.fetched (drop kept now) in
    record {
      followed = ap numbers_of (whole ∙ ap (λ k. renewed k (still_open ended)) so_many)
          ∙ numbers_kept c.args.cycle c.args.rob.now c.args.front.now ended;
      rows = omega arith;
      interrupts = interrupts ∙ c.drop_ended.ensures.interrupts ∙ c.take_steps.ensures.interrupts;
      fetched = omega (arith, fetched, within.fetched, length-drop kept now, c.append_fetched.ensures.few);
      retired = omega (arith, retired, within.retired, c.requires.few);
      few = omega (
        arith,
        ap (λ (t : Passages). length t.rows) whole,
        length-append (take kept rows) added,
        length-numbered_from ended.fetched (drop kept now),
        length-drop kept now,
        length-take kept rows,
        so_many,
        few.1,
        c.append_fetched.ensures.few,
      );
      quiet = ap (λ (t : Passages). length t.interrupts) whole;
    }
