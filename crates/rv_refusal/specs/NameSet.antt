-- Which names a set of them holds.
use Rattle.std.specs.Prelude.{ℕ, Bool, List, is_some}
use Rattle.std.specs.{BTreeMap.get_by, Cmp.Lexicographic.slice_cmp, List.list_any, Ordering.nat_cmp, Str.bytes_eq}
use Rattle.rv_refusal.specs.declared.name_set.NameSet.{NameSet}

-- a name is among those that the program holds
abbrev pub holds : NameSet → List ℕ → Bool
holds set name = is_some (get_by (λ key. slice_cmp nat_cmp name key.now) set.rows)

-- a name is one of these
abbrev pub is_one_of : List (List ℕ) → List ℕ → Bool
is_one_of names name = list_any (bytes_eq name) names
