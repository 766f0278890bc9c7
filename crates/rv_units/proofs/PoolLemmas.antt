-- The starts of a pipelined kind, all of one cycle.
use Rattle.std.proofs.Common.{◌≡◌, ℕ, ◌+◌, length, eqb, zero, suc, true, false, []}
use Rattle.std.proofs.Common.{replicate, inl, inr, refl, arith}
use Rattle.std.proofs.lemmas.List.{length-replicate, replicate_more}
use Rattle.std.proofs.lemmas.Bool.{cases_Bool, eqb-true}
use Rattle.std.proofs.lemmas.Bool.Decides.{nat_tests}
use Rattle.rv_units.specs.Pool.{holding, holds_unit, started}

-- in its own cycle it holds a unit
holds-now : (cycle : ℕ) → holds_unit cycle (record { cycle = cycle; cost = 1 }) ≡ true
holds-now cycle = grind (arith, nat_tests)

-- in another one it does not
holds-then : (cycle latest : ℕ) → (latest ≡ cycle → ⊥) → holds_unit cycle (record { cycle = latest; cost = 1 }) ≡ false
holds-then cycle latest other = grind (arith, nat_tests)

-- starts of a cycle that last for one cycle all hold a unit in it
pub holding-now : (cycle n : ℕ) → holding cycle (replicate n (record { cycle = cycle; cost = 1 }))
    ≡ replicate n (record { cycle = cycle; cost = 1 })
holding-now cycle zero = refl
holding-now cycle (suc n) =
    grind (arith, holds-now, holding-now cycle n)

-- starts of another cycle that last for one cycle hold no unit
pub holding-then : (cycle latest n : ℕ) → (latest ≡ cycle → ⊥) →
    holding cycle (replicate n (record { cycle = latest; cost = 1 })) ≡ []
holding-then cycle latest zero other = refl
holding-then cycle latest (suc n) other =
    grind (arith, holds-then cycle latest other, holding-then cycle latest n other)

-- those that hold a unit are starts of the cycle itself
holding-one_cycle : (cycle latest n : ℕ) →
    holding cycle (replicate n (record { cycle = latest; cost = 1 }))
    ≡ replicate (length (holding cycle (replicate n (record { cycle = latest; cost = 1 }))))
    (record { cycle = cycle; cost = 1 })
holding-one_cycle cycle latest n = elim (cases_Bool (eqb latest cycle)) [
  | inl same ↦ rw (eqb-true latest cycle same) (grind (arith, holding-now cycle n, length-replicate))
  | inr other ↦ grind (arith, nat_tests, holding-then cycle latest n)
]

-- one more start of pipelined units is one more in their count
pub started-pipelined : (units cost cycle latest n : ℕ) →
    (record {
      units = units;
      is_pipelined = true;
      starts = replicate (length (holding cycle (replicate n (record { cycle = latest; cost = 1 }))) + 1)
          (record { cycle = cycle; cost = 1 });
    })
    ≡ started cost cycle
    (record { units = units; is_pipelined = true; starts = replicate n (record { cycle = latest; cost = 1 }) })
started-pipelined units cost cycle latest n =
    grind (arith, replicate_more, holding-one_cycle cycle latest n)
