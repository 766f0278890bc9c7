-- The rename map is what the instructions in flight determine, through a dispatch and a squash.
use Rattle.rv_core.proofs.Words.{◌≡◌, ℕ, ◌+◌, ◌<◌, ◌≤◌, Bool, true, false, cond, ◌&&◌, List, [], ◌∷◌, ◌++◌, length}
use Rattle.rv_core.proofs.Words.{◌==◌, Some, All, Option, sym, refl, ap, ◌∙◌, append_assoc, append-nil, arith, lt-ltb}
use Rattle.rv_core.proofs.Words.{All-cons, is_branch_or_jump, target_of_word, Values, ReorderBuffer, changed}
use Rattle.rv_core.proofs.Words.{entries_below, pushed, with_entry, Entry, mends_early, AreBelow, below}
use Rattle.rv_core.proofs.Words.{AreBelow-append, CanCheckpoint, CanDefine, Checkpoint, Renaming, producers_at}
use Rattle.rv_core.proofs.Words.{restored, Producer, cut_from, entry_of, next_number, with_jump, with_target}
use Rattle.rv_core.proofs.Words.{checkpoints_of, producer_of, producers_of, producers_with, renaming_of}
use Rattle.rv_core.proofs.Ties.Gathered.{nothing, after_entries, gathered, gathered-below, gathered-cut, gathered-from}
use Rattle.rv_core.proofs.Ties.Gathered.{gathered-length, gathered-push, gathered-same}
use Rattle.rv_core.proofs.Ties.Entries.{at_head, entries_below-none, entry_of-from, held_at, in_tail}

-- ---- producers, one after another
abbrev own_producer : Unit {0} → ℕ → Entry → List Producer
own_producer st s e = producer_of s (target_of_word e.instruction)

producers-gathered : (s : ℕ) (es : List Entry) → producers_of s es ≡ gathered nothing own_producer tt s es
producers-gathered s [] = refl
producers-gathered s (e ∷ es) = ap (λ ps. producer_of s (target_of_word e.instruction) ++ ps)
    (producers-gathered (s + 1) es)

producer-at : (s : ℕ) (target : Option ℕ) → All (λ p. p.seq ≡ s) (producer_of s target)
producer-at s target = grind (arith, All-cons)

producer-one : (s : ℕ) (target : Option ℕ) → length (producer_of s target) ≤ 1
producer-one s target = grind arith

pub producers-push : (s n : ℕ) (es : List Entry) (e : Entry) → n ≡ s + length es →
    producers_of s (es ++ e ∷ []) ≡ producers_with (producers_of s es) n e
producers-push s n es e is =
    producers-gathered s (es ++ e ∷ []) ∙ gathered-push nothing own_producer tt s n es e is ∙
    ap (λ ps. ps ++ producer_of n (target_of_word e.instruction)) (sym (producers-gathered s es))

-- producers have numbers below that of the next instruction
pub producers-below : (n s : ℕ) (es : List Entry) → s + length es ≤ n →
    AreBelow (λ (p : Producer). p.seq) n (producers_of s es)
producers-below n s es le =
    rw (producers-gathered s es)
    (gathered-below nothing own_producer (λ p. p.seq)
    (λ st s e. producer-at s (target_of_word e.instruction)) n tt s es le)

-- and none below the first
pub producers-from : (s : ℕ) (es : List Entry) → All (λ (p : Producer). s ≤ p.seq) (producers_of s es)
producers-from s es =
    rw (producers-gathered s es)
    (gathered-from nothing own_producer (λ p. p.seq) (λ st s e. producer-at s (target_of_word e.instruction)) s tt s es
    (omega arith))

pub producers-length : (s : ℕ) (es : List Entry) → length (producers_of s es) ≤ length es
producers-length s es = grind (arith, producers-gathered, gathered-length, nothing, producer-one)

-- a change that keeps the instruction
pub producers-same : (f : Entry → Entry) → ((e : Entry) → (f e).instruction ≡ e.instruction) →
    (n s : ℕ) (es : List Entry) →
    producers_of s (with_entry f n s es) ≡ producers_of s es
producers-same f same n s es = grind (arith, producers-gathered, gathered-same, nothing)

-- ---- checkpoints, one after another
abbrev own_checkpoint : List Producer → ℕ → Entry → List Checkpoint
own_checkpoint older s e =
    cond (is_branch_or_jump e.instruction) (record { seq = s; producers = producers_with older s e } ∷ []) []

checkpoints-gathered : (older : List Producer) (s : ℕ) (es : List Entry) →
    checkpoints_of older s es ≡ gathered producers_with own_checkpoint older s es
checkpoints-gathered older s [] = refl
checkpoints-gathered older s (e ∷ es) = grind (arith, checkpoints-gathered (producers_with older s e) (s + 1) es)

checkpoint-at : (b : Bool) (c : Checkpoint) (s : ℕ) → c.seq ≡ s →
    All (λ (c : Checkpoint). c.seq ≡ s) (cond b (c ∷ []) [])
checkpoint-at b c s is = grind (arith, All-cons)

checkpoint-one : (b : Bool) (c : Checkpoint) → length (cond b (c ∷ []) []) ≤ 1
checkpoint-one b c = grind arith

-- the producers after some instructions
after_entries-producers : (older : List Producer) (s : ℕ) (es : List Entry) →
    after_entries producers_with older s es ≡ older ++ producers_of s es
after_entries-producers older s [] = sym (append-nil older)
after_entries-producers older s (e ∷ es) =
    grind (arith, append_assoc, after_entries-producers (producers_with older s e) (s + 1) es)

checkpoints-push : (s n : ℕ) (es : List Entry) (e : Entry) → n ≡ s + length es →
    checkpoints_of [] s (es ++ e ∷ []) ≡ checkpoints_of [] s es ++ own_checkpoint (producers_of s es) n e
checkpoints-push s n es e is =
    checkpoints-gathered [] s (es ++ e ∷ []) ∙ gathered-push producers_with own_checkpoint [] s n es e is ∙
    (λ i. sym (checkpoints-gathered [] s es) i ++ own_checkpoint (after_entries-producers [] s es i) n e)

pub checkpoints-below : (n s : ℕ) (es : List Entry) → s + length es ≤ n →
    AreBelow (λ (c : Checkpoint). c.seq) n (checkpoints_of [] s es)
checkpoints-below n s es le =
    rw (checkpoints-gathered [] s es)
    (gathered-below producers_with own_checkpoint (λ c. c.seq)
    (λ older s e. checkpoint-at (is_branch_or_jump e.instruction)
    (record { seq = s; producers = producers_with older s e }) s refl) n [] s es le)

pub checkpoints-length : (s : ℕ) (es : List Entry) → length (checkpoints_of [] s es) ≤ length es
checkpoints-length s es = grind (arith, checkpoints-gathered, gathered-length, checkpoint-one)

checkpoints-cut : (n : ℕ) (older : List Producer) (s : ℕ) (es : List Entry) →
    below (λ (c : Checkpoint). c.seq) n (checkpoints_of older s es) ≡ checkpoints_of older s (entries_below n s es)
checkpoints-cut n older s es = grind (arith, below, checkpoints-gathered, gathered-cut, checkpoint-at)

checkpoints-same : (f : Entry → Entry) → ((e : Entry) → (f e).instruction ≡ e.instruction) →
    (n : ℕ) (older : List Producer) (s : ℕ) (es : List Entry) →
    checkpoints_of older s (with_entry f n s es) ≡ checkpoints_of older s es
checkpoints-same f same n older s es = grind (arith, checkpoints-gathered, gathered-same)

-- ---- a change of one instruction that keeps what it is
-- a change of an entry that keeps its instruction leaves the rename map as it is
pub renaming-same : (f : Entry → Entry) → ((e : Entry) → (f e).instruction ≡ e.instruction) →
    (n : ℕ) (values : Values) (rob : ReorderBuffer) → renaming_of values (changed f n rob) ≡ renaming_of values rob
renaming-same f same n values rob = grind (arith, producers-same, checkpoints-same)

-- ---- dispatch
with_target-is : (n : ℕ) (target : Option ℕ) (m : Renaming) →
    with_target n target m ≡ record m { producers = m.producers ++ producer_of n target }
with_target-is n target m = grind (arith, append-nil)

with_jump-is : (early jump : Bool) (n capacity : ℕ) (ps : List Producer) (cs : List Checkpoint) →
    with_jump (early && jump) n (record { capacity = capacity; producers = ps; checkpoints = cond early cs [] })
    ≡ record {
      capacity = capacity;
      producers = ps;
      checkpoints = cond early (cs ++ cond jump (record { seq = n; producers = ps } ∷ []) []) [];
    }
with_jump-is early jump n capacity ps cs = grind (arith, append-nil)

-- what a dispatch makes of the rename map
pub renaming-push : (values : Values) (rob : ReorderBuffer) (e : Entry) →
    renaming_of values (pushed e rob)
    ≡ with_jump (mends_early values.recovery && is_branch_or_jump e.instruction) (next_number rob)
    (with_target (next_number rob) (target_of_word e.instruction) (renaming_of values rob))
renaming-push values rob e = grind (arith, producers-push, checkpoints-push, with_jump-is, with_target-is)

checkpoints_below-early : (early : Bool) (n : ℕ) (cs : List Checkpoint) → AreBelow (λ (c : Checkpoint). c.seq) n cs →
    AreBelow (λ (c : Checkpoint). c.seq) n (cond early cs [])
checkpoints_below-early early n cs are = grind arith

checkpoints_length-early : (early : Bool) (cs : List Checkpoint) → length (cond early cs []) ≤ length cs
checkpoints_length-early early cs = grind arith

-- where the reorder buffer has room, so has the rename map
pub can_define : (values : Values) (rob : ReorderBuffer) → length rob.entries < values.rob →
    CanDefine (next_number rob) (renaming_of values rob)
can_define values rob room =
    grind (arith, producers-length, producers-below, checkpoints_below-early, checkpoints-below)

-- there is room for a checkpoint, where there is room for an instruction
pub can_checkpoint : (values : Values) (rob : ReorderBuffer) (target : Option ℕ) → length rob.entries < values.rob →
    CanCheckpoint (next_number rob) (with_target (next_number rob) target (renaming_of values rob))
can_checkpoint values rob target room =
    let n = next_number rob in
    rw (with_target-is n target (renaming_of values rob)) (
      omega (
        arith,
        room,
        checkpoints_length-early (mends_early values.recovery) (checkpoints_of [] rob.retired rob.entries),
        checkpoints-length rob.retired rob.entries,
      ),
      AreBelow-append (λ (p : Producer). p.seq) (n + 1) (producers_of rob.retired rob.entries) (producer_of n target)
          (producers-below (n + 1) rob.retired rob.entries (omega arith))
          (λ k d lt. omega (arith, producer-at n target k d lt)),
    )

-- ---- early recovery
-- the checkpoint of another instruction is passed by
producers_at-other : (n s : ℕ) (b : Bool) (ps now found : List Producer) (cs : List Checkpoint) → (n == s) ≡ false →
    producers_at n cs now ≡ found → producers_at n (cond b (record { seq = s; producers = ps } ∷ cs) cs) now ≡ found
producers_at-other n s b ps now found cs other later = grind arith

-- the checkpoint of a branch or a jump has the producers up to it
producers_at-jump : (n : ℕ) (now older : List Producer) (s : ℕ) (es : List Entry) (e : Entry) →
    entry_of n s es ≡ Some e →
    is_branch_or_jump e.instruction ≡ true
    → producers_at n (checkpoints_of older s es) now ≡ older ++ producers_of s (entries_below (n + 1) s es)
producers_at-jump n now older s [] e held jump = absurd (cc)
producers_at-jump n now older s (d ∷ es) e held jump = elim (held_at n s d es e held) [
  | at_head equal same one ↦
      let own : is_branch_or_jump d.instruction ≡ true = rw one jump in
      let none : entries_below (n + 1) (s + 1) es ≡ [] =
      rw same (entries_below-none (s + 1) (s + 1) es (omega arith)) in
      rw (own, equal, lt-ltb s (n + 1) (omega (arith, same)))
      (ap (λ ps. older ++ ps) (sym
      (ap (λ l. producer_of s (target_of_word d.instruction) ++ producers_of (s + 1) l) none
      ∙ append-nil (producer_of s (target_of_word d.instruction)))))
  | in_tail other is ↦
      rw (lt-ltb s (n + 1) (omega (arith, (entry_of-from n (s + 1) es e is).0)))
      (producers_at-other n s (is_branch_or_jump d.instruction) _ now _ _ other
      (producers_at-jump n now (producers_with older s d) (s + 1) es e is jump ∙
      append_assoc older (producer_of s (target_of_word d.instruction))
      (producers_of (s + 1) (entries_below (n + 1) (s + 1) es))))
]

-- a squash after a branch or a jump
pub renaming-restored : (values : Values) (rob : ReorderBuffer) (n : ℕ) (e : Entry) →
    mends_early values.recovery ≡ true →
    entry_of n rob.retired rob.entries ≡ Some e → is_branch_or_jump e.instruction ≡ true
    → restored n (renaming_of values rob) ≡ renaming_of values (cut_from (n + 1) rob)
renaming-restored values rob n e early held jump = grind (arith, producers_at-jump, checkpoints-cut)
