use Rattle.std.proofs.Common.{◌∙◌, ◌==◌, ◌++◌, [], ◌∷◌, ap, sym, arith, length, length-append}
use Rattle.std.specs.Prelude.{if◌then◌else◌}
use Rattle.rv_report.specs.Speculation.{prediction_of_word}
use Rattle.rv_report.proofs.Speculated.{few-if, picked-more}
use Rattle.rv_report.proofs.speculation.note_fetched.Goals as goal

pub loop-place-preserved : goal.loop-place-preserved
loop-place-preserved c =
    let word = c.word_at.result in
    let one = few-if (word.cycle == c.args.cycle) (prediction_of_word word) in
    let noted = if word.cycle == c.args.cycle then prediction_of_word word ∷ [] else [] in
    let more = ap length c.note_word.ensures.items ∙ length-append c.loop-place.latest.items noted in
    record {
      items =
          c.note_word.ensures.items
          ∙ ap (λ l. l ++ noted) c.loop-place.invariant.items
          ∙ sym (picked-more prediction_of_word (λ f. f.cycle == c.args.cycle) c.args.front.now.entries
          c.loop-place.place word c.word_at.ensures);
      few = omega (arith, more, one, c.loop-place.invariant.few);
      capacity = omega (arith, c.note_word.ensures.capacity, c.loop-place.invariant.capacity);
    }
