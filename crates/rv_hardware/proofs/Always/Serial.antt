-- An instruction that waits to be the oldest is the youngest: nothing younger is in flight beside it.
use Rattle.rv_hardware.proofs.Words.{◌≡◌, true, false, List, [], ◌∷◌, ◌++◌, Option, refl, or_parts, map-append}
use Rattle.rv_hardware.proofs.Words.{is_serialising, Instr, Each, Entry, Hardware, map-change, arith}
use Rattle.rv_hardware.proofs.Turns.Cited.{IsKept, phases-kept, IsKeptByChanges, is_any_serialising}
use Rattle.rv_hardware.proofs.Always.Stores.{instructions_of}

-- where others are younger
abbrev WhereOthers : List (Option Instr) → Type 0 → Type 0
WhereOthers [] claim = Unit {0}
WhereOthers (x ∷ xs) claim = claim

-- of some instructions, each before the last does not serialise
abbrev pub AreSerialLast : List (Option Instr) → Type 0
AreSerialLast [] = Unit {0}
AreSerialLast (x ∷ xs) = WhereOthers xs (is_serialising x ≡ false) × AreSerialLast xs

-- an instruction in flight that serialises is the youngest
abbrev pub IsSerialLast : Hardware → Type 0
IsSerialLast h = AreSerialLast (instructions_of h.rob.entries)

fewer_others : (claim : Type 0) (xs ys : List (Option Instr)) (x : Option Instr) → WhereOthers (xs ++ x ∷ ys) claim →
    WhereOthers (xs ++ x ∷ []) claim
fewer_others claim [] ys x given = given
fewer_others claim (y ∷ xs) ys x given = given

cut_last : (xs ys : List (Option Instr)) (x : Option Instr) → AreSerialLast (xs ++ x ∷ ys) →
    AreSerialLast (xs ++ x ∷ [])
cut_last [] ys x last = (tt, tt)
cut_last (y ∷ xs) ys x last = (fewer_others (is_serialising y ≡ false) xs ys x last.0, cut_last xs ys x last.1)

others : {claim : Type 0} (xs : List (Option Instr)) (x : Option Instr) → claim → WhereOthers (xs ++ x ∷ []) claim
others xs x given = grind arith

push_last : (es : List Entry) (x : Option Instr) → is_any_serialising es ≡ false →
    AreSerialLast (instructions_of es ++ x ∷ [])
push_last [] x none = (tt, tt)
push_last (e ∷ es) x none =
    let parts = or_parts (is_serialising e.instruction) (is_any_serialising es) none in
    (others (instructions_of es) x parts.0, push_last es x parts.1)

-- one among them is another one with the same instruction
changed_last : (es older younger : List Entry) (old new : Entry) → new.instruction ≡ old.instruction →
    es ≡ older ++ old ∷ younger → AreSerialLast (instructions_of es) →
    AreSerialLast (instructions_of (older ++ new ∷ younger))
changed_last es older younger old new same split last = grind (arith, map-change)

-- what is younger is gone
mended_last : (older younger : List Entry) (old new : Entry) → new.instruction ≡ old.instruction →
    AreSerialLast (instructions_of (older ++ old ∷ younger)) → AreSerialLast (instructions_of (older ++ new ∷ []))
mended_last older younger old new same last = grind (arith, map-append, cut_last, map-change)

last_changes : IsKeptByChanges IsSerialLast
last_changes h given holds last = grind (arith, changed_last, mended_last, map-append, push_last)

-- every cycle keeps it
pub last-kept : IsKept IsSerialLast
last-kept = record { phases = phases-kept last_changes; fetch = λ ram cycle h front stop last fetches. last }

-- so one that is the oldest is alone
pub alone : (e : Entry) (es : List Entry) → AreSerialLast (instructions_of (e ∷ es)) →
    is_serialising e.instruction ≡ true → es ≡ []
alone e [] last serial = refl
alone e (f ∷ es) last serial = absurd (cc (serial, last.0))

-- and none that is older than another serialises
pub older_plain : (older younger : List Entry) (e : Entry) → AreSerialLast (instructions_of (older ++ e ∷ younger)) →
    Each (λ x. is_serialising x.instruction ≡ false) older
older_plain [] younger e last = tt
older_plain (x ∷ []) younger e last = (last.0, tt)
older_plain (x ∷ y ∷ older) younger e last = (last.0, older_plain (y ∷ older) younger e last.1)

-- a part of them, from the oldest on, is so too
pub cut_serial : (older younger : List Entry) → AreSerialLast (instructions_of (older ++ younger)) →
    AreSerialLast (instructions_of older)
cut_serial [] younger last = tt
cut_serial (x ∷ []) younger last = (tt, tt)
cut_serial (x ∷ y ∷ older) younger last = (last.0, cut_serial (y ∷ older) younger last.1)
