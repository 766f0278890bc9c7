use Rattle.std.proofs.Common.{◌≡◌, ◌∙◌, ℕ, zero, suc, ◌-◌, ◌<◌, ◌≤◌, Bool, true, false, List, refl, ap, arith}
use Rattle.std.specs.Prelude.{if◌then◌else◌}
use Rattle.rv_refusal.specs.TomlFault.{is_toml_up_to, toml_up_to}
use Rattle.rv_refusal.proofs.toml_fault.toml_up_to.Goals as goal

found : (text : List ℕ) (place : ℕ) → 0 < place → is_toml_up_to text place ≡ true → toml_up_to text place ≡ place
unfolding toml_up_to
found text zero some is = absurd (omega arith)
found text (suc place) some is = ap (λ (b : Bool). if b then suc place else toml_up_to text place) is

further : (text : List ℕ) (place : ℕ) → 0 < place → is_toml_up_to text place ≡ false → toml_up_to text (place - 1)
    ≡ toml_up_to text place
unfolding toml_up_to
further text zero some is = absurd (omega arith)
further text (suc place) some is = grind arith

none : (text : List ℕ) (place : ℕ) → place ≤ 0 → 0 ≡ toml_up_to text place
unfolding toml_up_to
none text zero past = refl
none text (suc place) past = absurd (omega arith)

pub returns-then-branch-clause-place : goal.returns-then-branch-clause-place
returns-then-branch-clause-place c = grind (arith, found)

pub loop-place-preserved : goal.loop-place-preserved
loop-place-preserved c = grind (arith, further)

pub returns-clause-place : goal.returns-clause-place
returns-clause-place c = none c.args.text.now c.loop-place.place c.loop-place-test.false ∙ c.loop-place.invariant.0
