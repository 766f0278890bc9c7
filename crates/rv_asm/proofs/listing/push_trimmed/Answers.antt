use Rattle.std.proofs.Common.{◌∙◌, ◌++◌, ap, refl}
use Rattle.std.proofs.lemmas.Str.Ascii.{trim_ascii_is}
use Rattle.rv_asm.proofs.listing.push_trimmed.Goals as goal

-- src/listing.rt
pub returns : goal.returns
returns c =
    c.in_ok-extend_from_slice.ensures.items
    ∙ ap (λ l. c.args.text.now.items ++ l) (trim_ascii_is c.args.bytes.now c.trim_ascii.result.now _ refl
    c.trim_ascii.ensures.value)
