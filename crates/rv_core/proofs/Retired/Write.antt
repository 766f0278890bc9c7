-- What a head that retires writes is legal: its target lies in the registers, and its store in RAM.
use Rattle.rv_core.proofs.Words.{◌≡◌, Bool, List, ◌∷◌, IfSome, Some, None, All, Option, subst, arith, All-head}
use Rattle.rv_core.proofs.Words.{is_store, Message, StoreAccess, Fault, Values, Entry, Stage, Hardware, broadcast_of}
use Rattle.rv_core.proofs.Words.{IsTrue, StaleWords, is_covered, IsLegalAccess, IsLegalWrite, IsSoundEntry}
use Rattle.rv_core.proofs.Words.{IsSoundHardware, message_of}

known_message : (stage : Stage) (m : Message) → broadcast_of stage ≡ Some m → message_of stage ≡ Some m
known_message stage m known = grind arith

-- what the head of a sound hardware writes, where it does not fault
pub legal_write : (h : Hardware) (e : Entry) (es : List Entry) (m : Message) → IsSoundHardware h →
    h.rob.entries ≡ e ∷ es →
    broadcast_of e.stage ≡ Some m → m.fault ≡ None → IsLegalWrite h.values (is_store e.instruction) None m.store
legal_write h e es m sound entries known faultless =
    let entry = All-head (IsSoundEntry h.values) e es
    (subst (All (IsSoundEntry h.values)) entries sound.entries.each) in
    let legal : IsLegalWrite h.values (is_store e.instruction) m.fault m.store =
    subst (λ (o : Option Message). IfSome o
    (λ message. IsLegalWrite h.values (is_store e.instruction) message.fault message.store))
    (known_message e.stage m known) entry.writes in
    subst (λ (o : Option Fault). IsLegalWrite h.values (is_store e.instruction) o m.store) faultless legal

access_is_covered : (values : Values) (stale : StaleWords) (access : StoreAccess) → IsLegalAccess values access →
    stale.base ≡ values.ram_base → stale.size ≡ values.ram_size → IsTrue (is_covered stale access.address)
access_is_covered values stale access legal base size = grind arith

-- it lies in the words that may be stale
pub write_is_covered : (values : Values) (stale : StaleWords) (is_store : Bool) (written : Option StoreAccess) →
    IsLegalWrite values is_store None written →
    stale.base ≡ values.ram_base → stale.size ≡ values.ram_size →
    IfSome written (λ a. IsTrue (is_covered stale a.address))
write_is_covered values stale writes written legal base size = grind (arith, access_is_covered)
