use Rattle.std.proofs.Common.{ap, arith}
use Rattle.std.specs.Prelude.{is_some}
use Rattle.std.specs.Option.{option_map}
use Rattle.rv_asm.specs.Read.{lexeme_of, token_of}
use Rattle.rv_refusal.proofs.Distance.{distance_none, distance_blank, distance_here, distance_token}
use Rattle.rv_refusal.proofs.caret.step.Goals as goal

pub returns-in_default-clause-reached : goal.returns-in_default-clause-reached
returns-in_default-clause-reached c = λ _. distance_none c.args.rest.now c.args.before c.requires
    c.in_default.ensures.lexeme

pub returns-in_default-token-clause-further : goal.returns-in_default-token-clause-further
returns-in_default-token-clause-further c =
    distance_blank c.args.rest.now c.args.before (lexeme_of c.in-Some.found) c.requires c.in-Some.ensures.lexeme
    (ap (option_map token_of) c.in_default-token.is) c.in-Some.ensures.size.0 c.in-Some.ensures.size.1

pub returns-then-before-eq0-clause-reached : goal.returns-then-before-eq0-clause-reached
returns-then-before-eq0-clause-reached c = λ _.
    rw c.if-before-eq0.true
    (distance_here c.args.rest.now (lexeme_of c.in-Some.found) c.requires c.in-Some.ensures.lexeme
    (ap (λ token. is_some (option_map token_of token)) c.in-Some-token.is))

pub returns-clause-further : goal.returns-clause-further
returns-clause-further c =
    distance_token c.args.rest.now c.args.before (lexeme_of c.in-Some.found) c.requires c.in-Some.ensures.lexeme
    (ap (λ token. is_some (option_map token_of token)) c.in-Some-token.is)
    (omega (arith, c.if-before-eq0.false)) c.in-Some.ensures.size.0 c.in-Some.ensures.size.1
