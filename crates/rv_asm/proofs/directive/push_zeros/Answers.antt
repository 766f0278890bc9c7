use Rattle.std.proofs.Common.{◌∙◌, ◌+◌, ap, vec_len, replicate}
use Rattle.rv_asm.proofs.Emitted.{appends_bytes, zeros_after}
use Rattle.rv_asm.proofs.directive.push_zeros.Goals as goal

pub returns : goal.returns
returns c =
    appends_bytes (replicate c.args.count 0) c.args.out.now.items c.resize.new.self.items
    (zeros_after c.args.out.now.items c.resize.new.self.items c.in-Some.size c.args.count
    (vec_len c.args.out.now) c.in_ok-resize.ensures.items
    (c.in-Some.ensures.1 ∙ ap (λ n. n + c.args.count) c.len.ensures) c.args.out.now.ok.0)
