use Rattle.std.proofs.Common.{◌∙◌, ◌++◌, List, ℕ, ap, codes}
use Rattle.std.specs.Prelude.{decimal}
use Rattle.rv_drawing.specs.Title.{trap_title}
use Rattle.rv_text.proofs.Saying.{says_same}
use Rattle.rv_drawing.proofs.title.write_trap.Goals as goal

pub returns : goal.returns
unfolding trap_title
returns g c =
    let code = c.as_bytes-code.ensures.value ∙ c.format.ensures.text ∙ ap decimal c.code.ensures in
    says_same (ap (λ (text : List ℕ). codes "<title>trapped, cause " ++ (text ++ codes "</title>\n"))
    code) c.put_all.ensures
