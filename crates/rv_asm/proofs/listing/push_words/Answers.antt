use Rattle.std.proofs.Common.{append-nil, refl}
use Rattle.rv_asm.proofs.listing.push_words.Goals as goal

pub returns-then-words-eq0 : goal.returns-then-words-eq0
returns-then-words-eq0 c = rw (c.if-words-eq0.true, append-nil) refl
