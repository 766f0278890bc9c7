-- Where no instruction begins to hold a unit in a cycle, there is no new hold.
use Rattle.std.proofs.Common.{◌≡◌, ◌∙◌, ◌++◌, ℕ, Bool, true, false, List, [], ◌∷◌, Option, refl, arith}
use Rattle.std.specs.Prelude.{◌&&◌, ◌||◌, if◌then◌else◌, not}
use Rattle.std.specs.Option.{option_map}
use Rattle.std.specs.List.{list_any}
use Rattle.rv_isa.specs.Instruction.{kind_of_word}
use Rattle.rv_isa.specs.declared.{values.Values.Values, operations.Kind.Kind, issues.Issue.Issue}
use Rattle.rv_passage.specs.declared.passage.Passage.{Passage}
use Rattle.rv_causes.specs.Holding.{begins_hold, hold_of, hold_of_kind, is_held, new_holds}
use Rattle.rv_causes.specs.Sought.{is_at}
use Rattle.rv_causes.specs.declared.{before.UnitHold.UnitHold, way.Way.Way}

or-false : (a b : Bool) → (a || b) ≡ false → (a ≡ false) × (b ≡ false)
or-false true b is = absurd cc
or-false false b is = (refl, is)

if-none : (pipelined : Bool) (some : List UnitHold) → not pipelined ≡ false → (if pipelined then [] else some) ≡ []
if-none true some is = refl
if-none false some is = absurd cc

none-of-kind : (values : Values) (p : Passage) (w : Way) (issue : Issue) (o : Option Kind) → is_held values o ≡ false
    → hold_of_kind values p w issue o ≡ []
none-of-kind values p w issue o is = grind (arith, if-none)

none-by : (begun held : Bool) (some : List UnitHold) → (begun && held) ≡ false → (held ≡ false → some ≡ [])
    → (if begun then some else []) ≡ []
none-by true held some is none = none is
none-by false held some is none = refl

no-hold : (number : ℕ) (values : Values) (p : Passage) (w : Way) (o : Option Issue)
    → (is_at number (option_map (λ (issue : Issue). issue.cycle) o) && is_held values (kind_of_word p.instruction))
    ≡ false
    → hold_of number values p w o ≡ []
unfolding hold_of
no-hold number values p w o is = grind (arith, none-by, none-of-kind)

-- where nothing begins to hold a unit, there is no new hold
pub no_new_holds : (number : ℕ) (values : Values) (rows : List Passage) (ways : List Way)
    → list_any (begins_hold number values) rows ≡ false → new_holds number values rows ways ≡ []
no_new_holds number values [] ways none = refl
no_new_holds number values (p ∷ ps) [] none = refl
no_new_holds number values (p ∷ ps) (w ∷ ws) none =
    let parts = or-false (begins_hold number values p) (list_any (begins_hold number values) ps) none in
    (λ i. no-hold number values p w p.issue parts.0 i ++ new_holds number values ps ws)
    ∙ no_new_holds number values ps ws parts.1
