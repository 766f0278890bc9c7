use Rattle.std.proofs.Common.{arith}
use Rattle.std.proofs.lemmas.Grind.{common_steps}
use Rattle.std.proofs.Common.{map, rules}
use Rattle.rv_command.proofs.Parses.{other_kind, refused_kind, refused_words}
use Rattle.rv_command.proofs.command.parse_by.Goals as goal

pub returns-in_err-command-clause-refused : goal.returns-in_err-command-clause-refused
returns-in_err-command-clause-refused c = grind (arith, common_steps, refused_words)

pub returns-in_err-command-clause-kind : goal.returns-in_err-command-clause-kind
returns-in_err-command-clause-kind c =
    let has = refused_kind (map (λ w. w.bytes.items) c.args.words.now) c.in_err-command.field-0.0
    c.in_err-command.ensures.kinds in
    search rules

pub returns-in-Err-clause-kind : goal.returns-in-Err-clause-kind
returns-in-Err-clause-kind c = grind (arith, other_kind)
