use Rattle.std.proofs.Common.{◌∙◌, ◌≡◌, None, ap, rules, sym}
use Rattle.clap.specs.Words.{found_of}
use Rattle.rv_command.proofs.Numbers.{legal, legal_number, legal_over, legal_under, number_held}
use Rattle.rv_command.proofs.command.number_given.Goals as goal
use Rattle.rv_command.proofs.command.number_given.Goals.{else-low-number-via-then-low-number+else-number-high}
use Rattle.rv_command.proofs.command.number_given.Goals.{else-low-number-via-else-low-number}

pub returns-in_err-number-clause-number : goal.returns-in_err-number-clause-number
returns-in_err-number-clause-number c =
    let held = number_held (found_of c.args.given.now) c.args.name.now c.args.low c.args.high c.get_one.result
    c.get_one.ensures.none c.get_one.ensures.value in
    let none : c.get_one.result ≡ None = search rules in
    let answered : c.from_residual.result ≡ None = search rules in
    answered ∙ sym (ap (legal c.args.low c.args.high) none) ∙ held

pub returns-then-number-high-clause-number : goal.returns-then-number-high-clause-number
returns-then-number-high-clause-number c =
    let held = number_held (found_of c.args.given.now) c.args.name.now c.args.low c.args.high c.get_one.result
    c.get_one.ensures.none c.get_one.ensures.value in
    sym (legal_number c.args.low c.args.high c.get_one.result c.in_ok-number.number (search rules) c.if-low-number.true
    c.if-number-high.true) ∙ held

pub returns-else-low-number-clause-number : goal.returns-else-low-number-clause-number
returns-else-low-number-clause-number c =
    let held = number_held (found_of c.args.given.now) c.args.name.now c.args.low c.args.high c.get_one.result
    c.get_one.ensures.none c.get_one.ensures.value in
    elim c.else-low-number.branch [
      | else-low-number-via-then-low-number+else-number-high w ↦
          sym (legal_over c.args.low c.args.high c.get_one.result c.in_ok-number.number (search rules)
          w.if-number-high.false) ∙ held
      | else-low-number-via-else-low-number w ↦
          sym (legal_under c.args.low c.args.high c.get_one.result c.in_ok-number.number (search rules)
          w.if-low-number.false) ∙ held
    ]
