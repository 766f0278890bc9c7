-- The checkpoints that a list of numbers stands for, after each change of the producers.
use Rattle.std.proofs.Common.{◌≡◌, ℕ, ◌+◌, ◌<◌, ◌≤◌, Bool, true, false, ◌==◌, if◌then◌else◌, List, [], ◌∷◌, ◌++◌}
use Rattle.std.proofs.Common.{append-nil, map, filter, refl, ap, sym, ◌∙◌, arith, inl, inr}
use Rattle.std.proofs.lemmas.Bool.{cases_lt}
use Rattle.std.specs.List.{list_any}
use Rattle.std.proofs.lemmas.Bool.Decides.{nat_tests}
use Rattle.std.proofs.lemmas.List.Elements.{All-nil}
use Rattle.rv_isa.specs.Numbered.{below, AreBelow, IsInOrder}
use Rattle.rv_isa.proofs.Numbered.{below-append, below-stays, below-goes, below-all, below-none, below-stops}
use Rattle.rv_isa.proofs.Numbered.{below-below, AreBelow-cons, AreBelow-head, AreBelow-tail, IsInOrder-head}
use Rattle.rv_rename.specs.declared.producer.Producer.{Producer}
use Rattle.rv_rename.specs.Renaming.{Checkpoint, is_oldest, without_oldest, checkpoint_without_oldest, producers_at}
use Rattle.rv_rename.specs.Kept.{checkpoint_of}
use Rattle.rv_rename.proofs.Prefixes.{seq_of}

-- the number of a checkpoint
abbrev pub checkpoint_seq : Checkpoint → ℕ
checkpoint_seq c = c.seq

-- a further producer, above every checkpoint
below-define : (n : ℕ) (ps : List Producer) (p : Producer) → n ≤ p.seq →
    below seq_of n (ps ++ p ∷ []) ≡ below seq_of n ps
below-define n ps p h = below-append seq_of n ps (p ∷ [])
    ∙ ap (λ qs. below seq_of n ps ++ qs) (below-goes seq_of n p [] h) ∙ append-nil _

-- a further producer with a number above every checkpoint changes none of them
pub checkpoints-define : (ns : List ℕ) (ps : List Producer) (p : Producer) →
    AreBelow checkpoint_seq p.seq (map (checkpoint_of ps) ns)
    → map (checkpoint_of (ps ++ p ∷ [])) ns ≡ map (checkpoint_of ps) ns
checkpoints-define [] ps p are = refl
checkpoints-define (n ∷ ns) ps p are =
    rw (
      below-define (n + 1) ps p
          (omega (arith, AreBelow-head checkpoint_seq p.seq (checkpoint_of ps n) (map (checkpoint_of ps) ns) are)),
      checkpoints-define ns ps p
          (AreBelow-tail checkpoint_seq p.seq (checkpoint_of ps n) (map (checkpoint_of ps) ns) are),
    ) refl

-- a further checkpoint
pub checkpoints-push : (ns : List ℕ) (n : ℕ) (ps : List Producer) → AreBelow seq_of (n + 1) ps
    → map (checkpoint_of ps) (ns ++ n ∷ []) ≡ map (checkpoint_of ps) ns ++ record { seq = n; producers = ps } ∷ []
checkpoints-push [] n ps are = rw (below-all seq_of (n + 1) ps are) refl
checkpoints-push (m ∷ ns) n ps are = ap (λ cs. checkpoint_of ps m ∷ cs) (checkpoints-push ns n ps are)

-- without a producer, where it is the oldest
oldest-stays : (b : Bool) (n : ℕ) (p : Producer) (ps : List Producer) → p.seq < n
    → (if b then below seq_of n ps else p ∷ below seq_of n ps) ≡ below seq_of n (if b then ps else p ∷ ps)
oldest-stays b n p ps low = grind (arith, below-stays seq_of n p ps low)

oldest-goes : (b : Bool) (n : ℕ) (p : Producer) (ps : List Producer) → IsInOrder seq_of (p ∷ ps) → n ≤ p.seq
    → [] ≡ below seq_of n (if b then ps else p ∷ ps)
oldest-goes true n p ps order high =
    sym (below-none seq_of n ps (λ k d lt. omega (arith, IsInOrder-head seq_of p ps order k d lt)))
oldest-goes false n p ps order high = sym (below-stops seq_of n p ps order high)

without_oldest-below : (register k n : ℕ) (ps : List Producer) → IsInOrder seq_of ps
    → without_oldest register k (below seq_of n ps) ≡ below seq_of n (without_oldest register k ps)
without_oldest-below register k n [] order = refl
without_oldest-below register k n (p ∷ ps) order =
    elim (cases_lt p.seq n) [
      | inl low ↦ ap (without_oldest register k) (below-stays seq_of n p ps low)
          ∙ oldest-stays (is_oldest register k (p ∷ ps)) n p ps low
      | inr high ↦ ap (without_oldest register k) (below-stops seq_of n p ps order high)
          ∙ oldest-goes (is_oldest register k (p ∷ ps)) n p ps order high
    ]

-- a producer taken from each checkpoint where it is the oldest leaves the checkpoints of the others
pub checkpoints-retire : (register k : ℕ) (ns : List ℕ) (ps : List Producer) → IsInOrder seq_of ps
    → map (checkpoint_without_oldest register k) (map (checkpoint_of ps) ns)
    ≡ map (checkpoint_of (without_oldest register k ps)) ns
checkpoints-retire register k [] ps order = refl
checkpoints-retire register k (n ∷ ns) ps order =
    rw (without_oldest-below register k (n + 1) ps order, checkpoints-retire register k ns ps order) refl

-- only the checkpoints below n + 1, over the producers below n + 1 or over all
pub checkpoints-restore : (n : ℕ) (ns : List ℕ) (ps : List Producer)
    → below checkpoint_seq n (map (checkpoint_of ps) ns) ≡ map (checkpoint_of (below seq_of n ps)) (below (λ m. m) n ns)
checkpoints-restore n [] ps = refl
checkpoints-restore n (m ∷ ns) ps =
    grind (arith, nat_tests, below-below seq_of (m + 1) n ps, checkpoints-restore n ns ps)

-- the checkpoints whose numbers pass a test are those of the numbers that pass
pub checkpoints-filter : (test : ℕ → Bool) (ns : List ℕ) (ps : List Producer)
    → filter (λ c. test c.seq) (map (checkpoint_of ps) ns) ≡ map (checkpoint_of ps) (filter test ns)
checkpoints-filter test [] ps = refl
checkpoints-filter test (m ∷ ns) ps =
    grind (arith, checkpoints-filter test ns ps)

-- the producers of a checkpoint that is held
pub producers_at-held : (n : ℕ) (ns : List ℕ) (ps now : List Producer) → list_any (λ m. m == n) ns ≡ true
    → producers_at n (map (checkpoint_of ps) ns) now ≡ below seq_of (n + 1) ps
producers_at-held n [] ps now held = absurd (cc)
producers_at-held n (m ∷ ns) ps now held =
    grind (arith, nat_tests, producers_at-held n ns ps now)

-- with no such checkpoint, they are those of now
pub producers_at-none : (n : ℕ) (ns : List ℕ) (ps now : List Producer) → list_any (λ m. m == n) ns ≡ false
    → producers_at n (map (checkpoint_of ps) ns) now ≡ now
producers_at-none n [] ps now none = refl
producers_at-none n (m ∷ ns) ps now none =
    grind (arith, nat_tests, producers_at-none n ns ps now)

-- the numbers say whether every checkpoint is below n
pub AreBelow-checkpoints : (n : ℕ) (ns : List ℕ) (ps : List Producer)
    → (AreBelow (λ m. m) n ns → AreBelow checkpoint_seq n (map (checkpoint_of ps) ns))
    × (AreBelow checkpoint_seq n (map (checkpoint_of ps) ns) → AreBelow (λ m. m) n ns)
AreBelow-checkpoints n [] ps = (λ are. All-nil (λ c. checkpoint_seq c < n), λ are. All-nil (λ m. m < n))
AreBelow-checkpoints n (m ∷ ns) ps =
    let rest = AreBelow-checkpoints n ns ps in
    let cs = map (checkpoint_of ps) ns in (
      λ are. AreBelow-cons checkpoint_seq n (checkpoint_of ps m) cs (AreBelow-head (λ m. m) n m ns are)
          (rest.0 (AreBelow-tail (λ m. m) n m ns are)),
      λ are. AreBelow-cons (λ m. m) n m ns (AreBelow-head checkpoint_seq n (checkpoint_of ps m) cs are)
          (rest.1 (AreBelow-tail checkpoint_seq n (checkpoint_of ps m) cs are)),
    )
