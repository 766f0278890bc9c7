use Rattle.rv_asm.proofs.Emitted.{appends_bytes}
use Rattle.rv_asm.specs.Token.{unescaped}
use Rattle.rv_asm.proofs.directive.push_string.Goals as goal

pub returns : goal.returns
returns c = appends_bytes (unescaped c.args.raw.now) c.args.out.now.items c.push_text.new.out.items
    c.in_ok-push_text.ensures
