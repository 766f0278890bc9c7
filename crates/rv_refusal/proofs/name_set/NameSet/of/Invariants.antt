use Rattle.std.proofs.Common.{◌≡◌, ◌||◌, ℕ, List, drop, map}
use Rattle.rv_refusal.specs.NameSet.{holds, is_one_of}
use Rattle.rv_refusal.proofs.name_set.NameSet.of.Given as goal

-- those so far are there, and those that are left come
abbrev pub invariant-loop-name : goal.invariant-loop-name
invariant-loop-name l =
    (other : List ℕ) → (holds l.set other || is_one_of (map (λ name. name.now) (drop l.name-index l.names)) other)
    ≡ is_one_of (map (λ name. name.now) l.names) other
