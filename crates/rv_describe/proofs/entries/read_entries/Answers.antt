use Rattle.std.proofs.Common.{◌≡◌, ◌≤◌, ◌∙◌, ap, sym, false, List, length, map, nat_lt, arith}
use Rattle.std.proofs.lemmas.Bool.Decides.{nat_tests}
use Rattle.std.proofs.lemmas.List.{length-map}
use Rattle.toml.specs.View.{view}
use Rattle.toml.specs.declared.value.Value.{Value}
use Rattle.rv_describe.specs.Entries.{arrivals_of, entries_meaning, first_fall}
use Rattle.rv_describe.specs.Entry.{arrival_of}
use Rattle.rv_describe.proofs.LegalArrivals.{legal}
use Rattle.rv_describe.proofs.Mapped.{filter_map-map}
use Rattle.rv_describe.proofs.entries.read_entries.Goals as goal

few : (entries : List Value) → length entries ≤ 100000 → nat_lt 100000 (length (map view entries)) ≡ false
few entries le = simp length-map (grind (arith, nat_tests))

pub returns-in-Some-first_fall-clause-read : goal.returns-in-Some-first_fall-clause-read
unfolding entries_meaning
returns-in-Some-first_fall-clause-read c =
    grind (arith, filter_map-map, few)

pub unwrap-requires : goal.unwrap-requires
unwrap-requires c =
    let same : c.in-Ok.arrivals.items ≡ arrivals_of (map view c.args.entries.now) = c.in-Ok.ensures
    ∙ sym (filter_map-map view arrival_of c.args.entries.now) in
    let sorted = ap (first_fall 1 0) (sym (c.as_slice.ensures.value ∙ same))
    ∙ sym c.first_fall.ensures ∙ c.in-None.is in
    c.new.ensures.legal.1 (rw same
    (legal (map view c.args.entries.now) (simp length-map c.if-entries-gt-MOST_ARRIVALS.false) sorted))

pub returns-in-None-clause-read : goal.returns-in-None-clause-read
unfolding entries_meaning
returns-in-None-clause-read c =
    grind (arith, filter_map-map, few)
