use Rattle.std.proofs.Common.{◌-◌, slice_index_or as get_or, unwrap_or, sym, refl, ap, ◌∙◌}
use Rattle.std.proofs.lemmas.Bool.{false≢true}
use Rattle.rv_watch.proofs.shown_hardware.ShownHardware.byte.Goals as goal

pub returns-then-not-is_cached-clause-seen : goal.returns-then-not-is_cached-clause-seen
returns-then-not-is_cached-clause-seen c =
    rw (← c.self.view_is) (c.self.invariant.bytes.outside c.args.address
    (λ cached. false≢true (c.if-not-is_cached.ensures.1 cached)))

pub returns-in-Some-clause-seen : goal.returns-in-Some-clause-seen
returns-in-Some-clause-seen c =
    let cache = c.self.inside.cache.now in
    rw (← c.self.view_is) (c.self.invariant.bytes.inside c.args.address c.in-Some.byte
    (c.if-not-is_cached.ensures.0 refl)
    (sym (ap (λ o. unwrap_or o (get_or cache.bytes (c.args.address - cache.base) 0))
    (sym c.committed_byte.ensures ∙ c.in-Some.is))))

pub returns-in-None-clause-seen : goal.returns-in-None-clause-seen
returns-in-None-clause-seen c =
    let cache = c.self.inside.cache.now in
    rw (← c.self.view_is) (c.self.invariant.bytes.inside c.args.address c.peek.result
    (c.if-not-is_cached.ensures.0 refl)
    (c.peek.ensures ∙ sym (ap (λ o. unwrap_or o (get_or cache.bytes (c.args.address - cache.base) 0))
    (sym c.committed_byte.ensures ∙ c.in-None.is))))

pub returns-in-Some-clause-none_outside : goal.returns-in-Some-clause-none_outside
returns-in-Some-clause-none_outside c outside =
    absurd (c.self.invariant.bytes.apart c.args.address (c.if-not-is_cached.ensures.0 refl)
    (rw (← c.self.view_is) at outside))

pub returns-in-None-clause-none_outside : goal.returns-in-None-clause-none_outside
returns-in-None-clause-none_outside c outside =
    absurd (c.self.invariant.bytes.apart c.args.address (c.if-not-is_cached.ensures.0 refl)
    (rw (← c.self.view_is) at outside))
