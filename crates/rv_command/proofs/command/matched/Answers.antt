use Rattle.std.proofs.Common.{arith}
use Rattle.std.proofs.Common.{◌∙◌, Err, Ok, map, rules}
use Rattle.rv_command.proofs.Parses.{fails_by, taken_rows, taken_words}
use Rattle.rv_command.proofs.command.matched.Goals as goal

pub returns-clause-command : goal.returns-clause-command
returns-clause-command c =
    let words = map (λ w. w.bytes.items) c.args.words.now in
    let none = fails_by c.args.parser.now words (Ok c.in_ok-matches.matches) c.requires.program
    c.in_ok-matches.ensures.kinds in
    taken_words c.args.parser.now words c.in_ok-matches.matches c.requires.program none c.in_ok-matches.ensures.ok.2
    ∙ c.in_ok-found.ensures.command

pub returns-clause-said : goal.returns-clause-said
returns-clause-said c = grind (arith, taken_rows)

pub returns-clause-kinds : goal.returns-clause-kinds
returns-clause-kinds c =
    fails_by c.args.parser.now (map (λ w. w.bytes.items) c.args.words.now)
    (Ok c.in_ok-matches.matches) c.requires.program
    c.in_ok-matches.ensures.kinds

pub returns-in_err-matches-clause-kinds : goal.returns-in_err-matches-clause-kinds
returns-in_err-matches-clause-kinds c =
    let has = fails_by c.args.parser.now (map (λ w. w.bytes.items) c.args.words.now)
    (Err c.in_err-matches.field-0.0) c.requires.program
    c.in_err-matches.ensures.kinds in
    search rules
