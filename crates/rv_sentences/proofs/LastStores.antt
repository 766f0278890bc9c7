-- The last store to each word, as stores retire.
use Rattle.std.proofs.Common.{◌≡◌, ◌∙◌, ℕ, List, [], ◌∷◌, ◌++◌, Some, None, refl, ap, sym, append-nil, append_assoc}
use Rattle.std.proofs.Common.{eq-eqb, ne_eqb, arith}
use Rattle.std.specs.Option.{option_or}
use Rattle.rv_isa.specs.declared.lines.Arrival.{Arrival}
use Rattle.rv_isa.specs.declared.values.Values.{Values}
use Rattle.rv_memory.specs.Memory.{word_of}
use Rattle.rv_hardware.specs.Guided.{GuidedHardware}
use Rattle.rv_hardware.specs.History.{History, Moment, ended, cycled}
use Rattle.rv_sentences.specs.LastStore.{last_store_to, store_to, stores_in, stores_of, with_stores}
use Rattle.rv_sentences.specs.WordNotes.{notes_of}
use Rattle.rv_sentences.specs.declared.stored.Stored.{Stored}
use Rattle.rv_sentences.proofs.Options.{option_or-none}
use Rattle.rv_sentences.proofs.WordTable.{set_one}

-- one more store comes last
last_store_to-push : (stores : List Stored) (store : Stored) (word : ℕ) →
    last_store_to (stores ++ store ∷ []) word ≡ option_or (store_to store word) (last_store_to stores word)
last_store_to-push [] store word = sym (option_or-none (store_to store word))
last_store_to-push (first ∷ stores) store word = grind (arith, last_store_to-push stores store word)

-- a store is one to its own word
store_to-own : (store : Stored) (word : ℕ) → word ≡ word_of store.address → store_to store word ≡ Some store.pc
store_to-own store word is = rw (eq-eqb (word_of store.address) word (sym is)) refl

-- and to no other
store_to-other : (store : Stored) (word : ℕ) → (word ≡ word_of store.address → ⊥) → store_to store word ≡ None
store_to-other store word is_not = rw (ne_eqb (word_of store.address) word (λ is. is_not (sym is))) refl

-- the last store to each word, once more stores retired
pub with_stores_of : (values : Values) (new old : List Stored) →
    with_stores new (notes_of values (last_store_to old)) ≡ notes_of values (last_store_to (old ++ new))
with_stores_of values [] old = ap (λ stores. notes_of values (last_store_to stores)) (sym (append-nil old))
with_stores_of values (store ∷ new) old =
    let own = store_to-own store (word_of store.address) refl in
    let here : last_store_to (old ++ store ∷ []) (word_of store.address) ≡ Some store.pc =
    last_store_to-push old store (word_of store.address)
    ∙ ap (λ last. option_or last (last_store_to old (word_of store.address))) own in
    let others : (w : ℕ) → (w ≡ word_of store.address → ⊥) → last_store_to old w ≡ last_store_to (old ++ store ∷ []) w =
    λ w is_not. sym (last_store_to-push old store w ∙ ap (λ last. option_or last (last_store_to old w))
    (store_to-other store w is_not)) in
    ap (with_stores new)
    (set_one values (last_store_to old) (last_store_to (old ++ store ∷ [])) (word_of store.address) (Some store.pc)
    (sym here) others) ∙
    with_stores_of values new (old ++ store ∷ []) ∙ ap (λ stores. notes_of values (last_store_to stores))
    (append_assoc old (store ∷ []) new)

-- the stores of one cycle more
pub stores_of-push : {arrivals : List Arrival} {old now : GuidedHardware} {moments : List Moment} (moment : Moment) →
    History arrivals old moments now
    → stores_of old.hardware (moments ++ moment ∷ []) ≡ stores_of old.hardware moments
    ++ stores_in now.hardware.registers moment.report.steps
stores_of-push moment ended = append-nil _
stores_of-push {old = old} moment (cycled {moment = first} cycle rest) =
    ap (λ stores. stores_in old.hardware.registers first.report.steps ++ stores) (stores_of-push moment rest)
    ∙ sym (append_assoc (stores_in old.hardware.registers first.report.steps) _ _)
