use Rattle.std.proofs.Common.{◌≡◌, inl, inr, refl, rules}
use Rattle.rv_program.proofs.program.run.Goals as goal

pub returns-in-Err : goal.returns-in-Err
returns-in-Err g c = inl (refl, refl, c.in-Err.ensures.lost, c.in-Err.ensures.unread)

pub returns-in-Ok-begin : goal.returns-in-Ok-begin
returns-in-Ok-begin g c =
    let same : c.as_slice.result.now ≡ c.in-Ok.input.items = search rules in
    let silent = c.in-Ok.ensures.nothing_reported in
    let asked = rw same at c.in-Ok-begin.ensures.task in
    let begun = c.in-Ok-begin.ensures.nothing_reported in
    let ended = rw (begun, silent) at c.finish_task-exit.ensures.ended in
    inr (
      c.in-Ok.input.items,
      c.in-Ok.ensures.input,
      c.in-Ok.ensures.taken,
      inr (c.finish_task-exit.ensures.refusal, (c.in-Ok-begin.task, asked, ended)),
    )

pub returns : goal.returns
returns g c =
    let same : c.as_slice.result.now ≡ c.in-Ok.input.items = search rules in
    let silent = c.in-Ok.ensures.nothing_reported in
    let refused = rw (same, silent) at c.in-Err-begin.ensures.refused in
    let again : c.as_slice-in-Err-begin.result.now ≡ c.in-Ok.input.items = search rules in
    let handed = rw again at c.hand_back-output.ensures in
    inr (
      c.in-Ok.input.items,
      c.in-Ok.ensures.input,
      c.in-Ok.ensures.taken,
      inl (c.in-Err-begin.refused.error, refused.0, refused.1, refused.2, handed),
    )
