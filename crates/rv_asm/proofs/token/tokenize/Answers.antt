use Rattle.std.proofs.Common.{◌++◌, arith, sym, ◌∙◌, ap, drop}
use Rattle.std.specs.Option.{option_map, option_to_list}
use Rattle.std.proofs.lemmas.Bool.Decides.{nat_tests}
use Rattle.rv_asm.specs.Token.{tokens_of}
use Rattle.rv_asm.specs.Read.{lexeme_of, token_of}
use Rattle.rv_asm.proofs.Joined.{joined, joined-nil, joined-push, joined-end}
use Rattle.rv_asm.proofs.TokenLines.{tokens_of-first, tokens_of-none, tokens_of-empty}
use Rattle.rv_asm.proofs.token.tokenize.Goals as goal

pub loop-rest-init : goal.loop-rest-init
loop-rest-init c = rw c.new-tokens.ensures.items (joined-nil token_of _)

pub returns-in_default : goal.returns-in_default
returns-in_default c = grind (arith, tokens_of-none, joined)

pub loop-rest-preserved-in_default-token : goal.loop-rest-preserved-in_default-token
loop-rest-preserved-in_default-token c =
    let first = tokens_of-first c.loop-rest.rest.now (lexeme_of c.in-Some.found) (grind (arith, nat_tests))
    c.in-Some.ensures.lexeme c.in-Some.ensures.size.0 in
    let after = tokens_of (drop c.in-Some.found.size c.loop-rest.rest.now) in
    let none_first = first ∙ ap (λ token. option_map (λ tokens. option_to_list (option_map token_of token) ++ tokens)
    after) c.in_default-token.is ∙ joined-nil token_of after in
    rw c.split_at.ensures.back (ap (joined token_of c.loop-rest.tokens.items) (sym none_first) ∙ c.loop-rest.invariant)

pub loop-rest-preserved : goal.loop-rest-preserved
loop-rest-preserved c =
    let first = tokens_of-first c.loop-rest.rest.now (lexeme_of c.in-Some.found) (grind (arith, nat_tests))
    c.in-Some.ensures.lexeme c.in-Some.ensures.size.0 in
    let after = tokens_of (drop c.in-Some.found.size c.loop-rest.rest.now) in
    let token_first = first ∙ ap (λ token. option_map (λ tokens. option_to_list (option_map token_of token) ++ tokens)
    after) c.in-Some-token.is in
    rw (c.in_ok-push.ensures.items, c.split_at.ensures.back)
    (joined-push token_of c.loop-rest.tokens.items c.in-Some-token.token after
    ∙ ap (joined token_of c.loop-rest.tokens.items) (sym token_first) ∙ c.loop-rest.invariant)

pub returns : goal.returns
returns c = grind (arith, joined, tokens_of-empty, joined-end)
