use Rattle.rv_asm.proofs.Emitted.{appends_more}
use Rattle.rv_asm.proofs.emit.push_words.Goals as goal

pub returns-in_ok-push_word-in-Some : goal.returns-in_ok-push_word-in-Some
returns-in_ok-push_word-in-Some c =
    rw c.in-Some.is (appends_more c.in_ok-push_word.ensures c.in_ok-push_word-in-Some.ensures)
