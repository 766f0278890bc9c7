use Rattle.std.proofs.Common.{arith}
use Rattle.std.proofs.lemmas.Str.{is_utf8-from_IsUtf8, IsUtf8-from_is_utf8}
use Rattle.rv_describe.proofs.document.document.Goals as goal

pub returns-in-Ok-clause-read : goal.returns-in-Ok-clause-read
returns-in-Ok-clause-read c =
    grind (arith, is_utf8-from_IsUtf8)

pub returns-in-Err-2-clause-read : goal.returns-in-Err-2-clause-read
returns-in-Err-2-clause-read c =
    grind (arith, IsUtf8-from_is_utf8)
