use Rattle.std.proofs.Common.{◌≡◌, ◌∙◌, ◌||◌, ap, Bool, cond, false, true, is_some, refl, None, Option, Some}
use Rattle.std.specs.{Cmp.Lexicographic.nat_list_eq_equiv, Str.bytes_eq}
use Rattle.std.proofs.lemmas.Map.Text.{btree_map_updates_str}
use Rattle.rv_refusal.specs.NameSet.{holds}
use Rattle.rv_refusal.proofs.name_set.NameSet.add.Goals as goal

-- what stands at a key is there where the key is the one that is set, or where it was
set_there : {X : Type 0} (is_key : Bool) (x : X) (there : Option X) → is_some (cond is_key (Some x) there)
    ≡ (is_some there || is_key)
set_there true x None = refl
set_there true x (Some y) = refl
set_there false x None = refl
set_there false x (Some y) = refl

pub returns : goal.returns
returns c = λ other.
    ap is_some (btree_map_updates_str c.args.name.now c.args.self.now.rows c.insert.new.self _
    c.in_ok-insert.ensures.updates other)
    ∙ set_there (bytes_eq c.args.name.now other) _ _
    ∙ ap (λ is_key. holds c.args.self.now other || is_key) (nat_list_eq_equiv.symm c.args.name.now other)
