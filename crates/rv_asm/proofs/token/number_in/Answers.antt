use Rattle.std.proofs.Common.{arith}
use Rattle.std.proofs.lemmas.Str.{IsUtf8-from_ascii}
use Rattle.rv_asm.proofs.TokenNumbers.{digits_are_ascii, first_is, without_plus, plus_is_no_digit, number_in-read}
use Rattle.rv_asm.proofs.TokenNumbers.{number_in-none, number_in-empty}
use Rattle.rv_asm.proofs.token.number_in.Goals as goal

pub returns-in_err-first : goal.returns-in_err-first
returns-in_err-first c = grind (arith, number_in-empty)

pub returns-then-branch-eq43 : goal.returns-then-branch-eq43
returns-then-branch-eq43 c = grind (arith, first_is, number_in-none, plus_is_no_digit)

pub returns-in-Ok : goal.returns-in-Ok
returns-in-Ok c = grind (arith, first_is, without_plus, number_in-read)

pub returns-in-Err : goal.returns-in-Err
returns-in-Err c =
    number_in-none c.args.base c.args.digits.now
    (λ all. c.in-Err.ensures.cases.0
    (IsUtf8-from_ascii c.args.digits.now (digits_are_ascii c.args.base c.args.digits.now (omega arith) all)))
