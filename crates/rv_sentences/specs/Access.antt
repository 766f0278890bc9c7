-- Accesses to memory by what they cost.
use Rattle.std.specs.Prelude.{ℕ, ◌+◌, ◌-◌, List, ◌++◌, codes, decimal}
use Rattle.rv_sentences.specs.declared.accesses.Accesses.{Accesses}

-- some accesses and others
abbrev pub both : Accesses → Accesses → Accesses
both some others = record { all = some.all + others.all; quick = some.quick + others.quick }

-- what they are, how many, and those at the cost that is named; all others are misses
unfoldable pub access_text : List ℕ → List ℕ → Accesses → List ℕ
access_text name quick_cost accesses =
    name ++ (decimal accesses.all ++ (codes ", of them " ++ (decimal accesses.quick ++
    (quick_cost ++ (decimal (accesses.all - accesses.quick) ++ codes " at that of a miss\n")))))
