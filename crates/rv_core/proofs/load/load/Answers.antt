use Rattle.std.proofs.Common.{arith}
use Rattle.rv_core.proofs.Words.{[], ◌∷◌, take, None, sym, ap, ◌∙◌, number_of, bytes_of, is_sign_extended, width_of}
use Rattle.rv_core.proofs.Words.{modulo_word, pc_plus_4, sum, extended, effect_message, fault_message, writes}
use Rattle.rv_core.proofs.Words.{older_than, path_of}
use Rattle.rv_core.proofs.Loads.Message.{from_cache, from_fault, from_stores}
use Rattle.rv_core.proofs.load.load.Goals as goal

pub returns-in-FromStores-clause-message : goal.returns-in-FromStores-clause-message
returns-in-FromStores-clause-message c = λ s at after.
    let cache = c.args.cache.now in
    let stores = older_than c.args.ready.now.seq c.args.queue.now.stores in
    let form = c.args.form in
    let rd = c.args.rd in
    let count = bytes_of (width_of form) in
    let value = c.value_of-value.ensures
    ∙ ap (λ b. extended (is_sign_extended form) count (number_of (take count b))) c.laid_over.ensures in
    c.computed.ensures s at
    ∙ ap (λ v. effect_message None (writes s rd v (pc_plus_4 s.pc))) value
    ∙ from_stores cache stores c.requires.over_ram s after form rd
    (sum c.args.ready.now.first (modulo_word c.args.offset)) c.in-FromStores.overlay (0 ∷ 0 ∷ 0 ∷ 0 ∷ [])
    ((λ j. path_of cache.backing.layout stores (sym c.address-place.ensures j) (bytes_of (sym c.width-width.ensures j)))
    ∙ sym c.path_of.ensures ∙ c.in-FromStores.is)

pub returns-in-FromCache-clause-message : goal.returns-in-FromCache-clause-message
returns-in-FromCache-clause-message c = grind (arith, from_cache)

pub returns-in-Without-clause-message : goal.returns-in-Without-clause-message
returns-in-Without-clause-message c = λ s at after.
    let cache = c.args.cache.now in
    let stores = older_than c.args.ready.now.seq c.args.queue.now.stores in
    c.faulted.ensures
    ∙ ap (fault_message c.in-Without.cause) c.address-place.ensures
    ∙ from_fault cache stores s c.args.form c.args.rd
    (sum c.args.ready.now.first (modulo_word c.args.offset)) c.in-Without.cause
    ((λ j. path_of cache.backing.layout stores (sym c.address-place.ensures j) (bytes_of (sym c.width-width.ensures j)))
    ∙ sym c.path_of.ensures ∙ c.in-Without.is)
