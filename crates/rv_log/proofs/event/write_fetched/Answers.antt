use Rattle.std.proofs.Common.{◌∙◌, ◌++◌, List, ℕ, ap, append_assoc, codes, sym}
use Rattle.std.specs.Prelude.{decimal}
use Rattle.rv_log.specs.Command.{appearance_text, introduction_text, letter_of, stage_line}
use Rattle.rv_log.specs.Event.{fetched_text}
use Rattle.rv_log.specs.Statement.{statement_text}
use Rattle.rv_text.proofs.Saying.{says_same}
use Rattle.rv_log.proofs.event.write_fetched.Goals as goal

-- the line of the stage comes after the label
pub returns-in-Some : goal.returns-in-Some
unfolding appearance_text fetched_text letter_of stage_line
returns-in-Some g c =
    let row = c.args.row.now in
    let begin = introduction_text row.number row.pc in
    let shown = statement_text c.args.listing.now row in
    let stage : List ℕ = codes "S\t" ++ (decimal row.number ++ codes "\t0\tF\n") in
    let joined =
    ap (λ (text : List ℕ). begin ++ (text ++ (codes "\n" ++ stage))) c.in-Some.ensures.shown
    ∙ ap (λ (text : List ℕ). begin ++ text) (sym (append_assoc shown (codes "\n") stage))
    ∙ sym (append_assoc begin (shown ++ codes "\n") stage) in
    says_same joined c.write_fetch_label.ensures
