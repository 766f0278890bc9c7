use Rattle.std.specs.Prelude.{◌≡◌, ℕ, ◌+◌, ◌<◌, ◌≤◌, Bool, false, ◌==◌, ◌&&◌, not, if◌then◌else◌}
use Rattle.std.specs.Prelude.{List, [], ◌∷◌, ◌++◌, length, drop, map, filter, All, Option, None, Some}
use Rattle.std.specs.Option.{option_or}
use Rattle.rv_isa.specs.Numbered.{below, AreBelow}
use Rattle.rv_rename.specs.declared.producer.Producer.{Producer}

-- the producers that are in flight again if the instruction of this number turns out to be mispredicted
pub record Checkpoint : Type 0 where
  pub seq : ℕ
  pub producers : List Producer

-- the producers defined and neither retired nor cut, in order of numbers, and the checkpoints
pub record Renaming : Type 0 where
  pub capacity : ℕ
  pub producers : List Producer
  pub checkpoints : List Checkpoint

-- no instruction in flight writes a register
abbrev pub empty : ℕ → Renaming
empty capacity = record { capacity = capacity; producers = []; checkpoints = [] }

-- the number of the youngest instruction that writes the register, which is the highest
abbrev pub youngest : ℕ → List Producer → Option ℕ
youngest register [] = None
youngest register (p ∷ ps) = option_or (youngest register ps) (if register == p.register then Some p.seq else None)

-- no producer of the register has a number above n
abbrev pub NoneAbove : ℕ → ℕ → List Producer → Type 0
NoneAbove register n ps = All (λ p. register ≡ p.register → p.seq ≤ n) ps

-- there is room for the instruction of number n, and it is younger than every producer and checkpoint
abbrev pub CanDefine : ℕ → Renaming → Type 0
CanDefine n m =
    (length m.producers < m.capacity) × AreBelow (λ p. p.seq) n m.producers × AreBelow (λ c. c.seq) n m.checkpoints

-- there is room for a checkpoint of number n, and no producer is younger
abbrev pub CanCheckpoint : ℕ → Renaming → Type 0
CanCheckpoint n m = (length m.checkpoints < m.capacity) × AreBelow (λ p. p.seq) (n + 1) m.producers

-- whether this producer is the oldest
abbrev pub is_oldest : ℕ → ℕ → List Producer → Bool
is_oldest register n [] = false
is_oldest register n (p ∷ ps) = (n == p.seq) && (register == p.register)

-- the list without this producer, where it is the oldest
abbrev pub without_oldest : ℕ → ℕ → List Producer → List Producer
without_oldest register n ps = if is_oldest register n ps then drop 1 ps else ps

-- the producers of the checkpoint of number n, or those of now where there is none
abbrev pub producers_at : ℕ → List Checkpoint → List Producer → List Producer
producers_at n [] now = now
producers_at n (c ∷ cs) now = if n == c.seq then c.producers else producers_at n cs now

-- the instruction of number n writes the register
abbrev pub defined : ℕ → ℕ → Renaming → Renaming
defined register n m = record m { producers = m.producers ++ record { register = register; seq = n } ∷ [] }

-- the checkpoint without this producer, where it is the oldest
abbrev pub checkpoint_without_oldest : ℕ → ℕ → Checkpoint → Checkpoint
checkpoint_without_oldest register n c = record c { producers = without_oldest register n c.producers }

-- the oldest producer retires; no checkpoint brings it back
abbrev pub retired : ℕ → ℕ → Renaming → Renaming
retired register n m = record m {
  producers = without_oldest register n m.producers;
  checkpoints = map (checkpoint_without_oldest register n) m.checkpoints;
}

-- nothing is in flight
abbrev pub cleared : Renaming → Renaming
cleared m = record m { producers = []; checkpoints = [] }

-- a further checkpoint, of the producers as they are
abbrev pub checkpointed : ℕ → Renaming → Renaming
checkpointed n m = record m { checkpoints = m.checkpoints ++ record { seq = n; producers = m.producers } ∷ [] }

-- the producers of the checkpoint, and only the checkpoints up to it
abbrev pub restored : ℕ → Renaming → Renaming
restored n m = record m {
  producers = producers_at n m.checkpoints m.producers;
  checkpoints = below (λ c. c.seq) (n + 1) m.checkpoints;
}

-- the checkpoint is no longer needed
abbrev pub without_checkpoint : ℕ → Renaming → Renaming
without_checkpoint n m = record m { checkpoints = filter (λ c. not (n == c.seq)) m.checkpoints }
