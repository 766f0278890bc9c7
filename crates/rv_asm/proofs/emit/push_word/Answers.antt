use Rattle.std.proofs.Common.{◌∙◌, ◌++◌, ap}
use Rattle.rv_asm.proofs.Emitted.{appends_word}
use Rattle.rv_asm.proofs.emit.push_word.Goals as goal

pub returns : goal.returns
returns c = appends_word c.args.instruction.now c.encode.result c.args.out.now.items c.extend_from_slice.new.self.items
    (record { decodes = c.encode.ensures.decodes; fence = c.encode.ensures.fence; fence_i = c.encode.ensures.fence_i })
    (c.in_ok-extend_from_slice.ensures.items ∙ ap (λ l. c.args.out.now.items ++ l) c.to_le_bytes-bytes.ensures)
