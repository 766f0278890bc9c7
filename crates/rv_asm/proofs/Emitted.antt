-- What is appended, one part after another.
use Rattle.std.proofs.Common.{◌≡◌, ◌∙◌, ◌+◌, ◌-◌, ◌<◌, ℕ, List, [], ◌∷◌, ◌++◌, map, take, drop, get_or, length, Result}
use Rattle.std.proofs.Common.{Ok, Err, IfOk, OnOk, sym, ap, arith, append_assoc}
use Rattle.std.specs.Prelude.{replicate}
use Rattle.std.proofs.lemmas.List.{append-nil, drop_more, take_all}
use Rattle.std.specs.Int.{to_le_bytes, w32}
use Rattle.rv_asm.specs.Emitted.{Appends, Emits, EmitsOrRefuses}
use Rattle.rv_asm.specs.Meaning.{Cell, Byte', Word', Spells, nothing, byte, word, parts_in, IsWordOf}
use Rattle.rv_asm.specs.Statement.{and_then}
use Rattle.rv_asm.specs.declared.fault.AsmFault.{AsmFault}
use Rattle.rv_asm.specs.declared.operation.Section.{Section}
use Rattle.rv_isa.specs.declared.instructions.Instr.{Instr}

-- parts one after the other are spelled by their bytes one after the other
pub spells_append : {p q : List Cell} {x y : List ℕ} → Spells p x → Spells q y → Spells (p ++ q) (x ++ y)
spells_append nothing s = s
spells_append (byte r) s = byte (spells_append r s)
spells_append {y = y} (word {w = w} {bytes = bytes} is r) s =
    rw (append_assoc (to_le_bytes w32 w) bytes y) (word is (spells_append r s))

-- parts that are appended one after the other are appended together
pub appends_more : {p q : List Cell} {a b c : List ℕ} → Appends p a b → Appends q b c → Appends (p ++ q) a c
appends_more {a = a} r s = grind (arith, spells_append, append_assoc)

pub appends_nothing : (a : List ℕ) → Appends [] a a
appends_nothing a = record { bytes = []; spells = nothing; appended = sym (append-nil a) }

added : {T : Type 0} (section : Section) (r : Result T AsmFault) (meaning : Result (List Cell) AsmFault)
    (a b : List ℕ) → IfOk r (λ _. Emits meaning a b) → OnOk r (Appends (parts_in section section meaning) a b)
added section r meaning a b put = grind arith

-- a line adds what it means to the section that it stands in
pub added_here : {T : Type 0} (section own : Section) (r : Result T AsmFault) (meaning : Result (List Cell) AsmFault)
    (a b : List ℕ) → own ≡ section → IfOk r (λ _. Emits meaning a b) →
    OnOk r (Appends (parts_in section own meaning) a b)
added_here section own r meaning a b is put = rw is (added section r meaning a b put)

-- to another section a line adds nothing
pub nothing_added : {T : Type 0} (part section own : Section) (r : Result T AsmFault)
    (meaning : Result (List Cell) AsmFault) (a : List ℕ) → own ≡ section → parts_in part section meaning ≡ [] →
    OnOk r (Appends (parts_in part own meaning) a a)
nothing_added part section own (Ok x) meaning a is none = rw (is, none) (appends_nothing a)
nothing_added part section own (Err fault) meaning a is none = tt

-- a meaning without parts is emitted where the bytes stay as they are
pub emits_nothing : (meaning : Result (List Cell) AsmFault) (a : List ℕ) → meaning ≡ Ok [] → Emits meaning a a
emits_nothing meaning a means = record { parts = []; means = means; appends = appends_nothing a }

-- where the bytes of an instruction's word are appended, lowest first, the instruction is
pub appends_word : (i : Instr) (w : ℕ) (old new : List ℕ) → IsWordOf i w → new ≡ old ++ to_le_bytes w32 w →
    Appends (Word' i ∷ []) old new
appends_word i w old new is e = grind (arith, word, nothing)

spells_bytes : (bytes : List ℕ) → Spells (map Byte' bytes) bytes
spells_bytes [] = nothing
spells_bytes (b ∷ bytes) = byte (spells_bytes bytes)

-- where bytes are appended, so are parts of one byte each
pub appends_bytes : (bytes old new : List ℕ) → new ≡ old ++ bytes → Appends (map Byte' bytes) old new
appends_bytes bytes old new e = record { bytes = bytes; spells = spells_bytes bytes; appended = e }

-- bytes that are resized to a count more are followed by so many zeros
pub zeros_after : (old new : List ℕ) (size count len : ℕ) → new ≡ take size old ++ replicate (size - len) 0 →
    size ≡ len + count → len ≡ length old → new ≡ old ++ replicate count 0
zeros_after old new size count len e size_is len_is = grind (arith, take_all)

-- what is left of a list begins with the next element
pub rest_is : {X : Type 0} (xs : List X) (i : ℕ) (x : X) → x ≡ get_or xs i x → i < length xs →
    drop i xs ≡ x ∷ drop (i + 1) xs
rest_is xs i x is within = drop_more xs i x within ∙ ap (λ y. y ∷ drop (i + 1) xs) (sym is)

-- what is emitted first, and what the rest gives
pub emits_more : {first : Result (List Cell) AsmFault} (rest : Result (List Cell) AsmFault) {a b : List ℕ} (c : List ℕ)
    (result : Result Unit AsmFault) → Emits first a b → EmitsOrRefuses rest b c result →
    EmitsOrRefuses (and_then first (λ parts. and_then rest (λ others. Ok (parts ++ others)))) a c result
emits_more rest c result put more = grind (arith, appends_more)

-- whatever the rest of the parts spells, after these bytes it spells all of them
abbrev pub Begins : List Cell → List Cell → List ℕ → Type 0
Begins all rest bytes = (more : List ℕ) → Spells rest more → Spells all (bytes ++ more)

-- once the first of the parts that are left are appended, those after them are left
pub begins_more : {all p rest : List Cell} {a b : List ℕ} → Begins all (p ++ rest) a → Appends p a b → Begins all rest b
begins_more {a = a} begin put more spells =
    rw (put.appended, append_assoc a put.bytes more) (begin (put.bytes ++ more) (spells_append put.spells spells))

-- with no parts left, the bytes spell all of them
pub begins_all : {all : List Cell} {bytes : List ℕ} → Begins all [] bytes → Spells all bytes
begins_all begin = simp append-nil at (begin [] nothing)
