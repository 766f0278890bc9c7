use Rattle.std.proofs.Common.{◌≡◌, ℕ, ◌+◌, nat_le, nat_lt, List, filter, rules, arith, ◌∙◌}
use Rattle.std.proofs.lemmas.Bool.Decides.{nat_tests}
use Rattle.std.proofs.lemmas.Fn.{filter_same}
use Rattle.rv_isa.specs.Numbered.{below}
use Rattle.rv_rename.proofs.checkpoints.keep_up_to.Goals as goal

le-lt : (m n : ℕ) → nat_le m n ≡ nat_lt m (n + 1)
le-lt m n = grind (arith, nat_tests)

filter-le : (n : ℕ) (xs : List ℕ) → filter (λ x. nat_le x n) xs ≡ below (λ x. x) (n + 1) xs
filter-le n xs i = filter (λ x. le-lt x n i) xs

pub returns-clause-kept : goal.returns-clause-kept
returns-clause-kept c =
    filter_same _ (λ x. nat_le x c.args.seq) _ (λ x b f' k. search rules) _ _ c.retain.ensures.filtered
    ∙ filter-le c.args.seq _
