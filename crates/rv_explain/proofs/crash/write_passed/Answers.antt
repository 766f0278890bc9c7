use Rattle.std.proofs.Common.{◌≡◌, ◌∙◌, ◌-◌, true, rules, sym, ap}
use Rattle.rv_explain.specs.Crash.{is_past_code, passed_text}
use Rattle.rv_source.specs.PlaceText.{place_text}
use Rattle.rv_text.proofs.Saying.{says_both, says_same}
use Rattle.rv_explain.proofs.crash.write_passed.Goals as goal

pub returns-then-is_past_code : goal.returns-then-is_past_code
unfolding passed_text
returns-then-is_past_code g c =
    let is : is_past_code c.args.listing.now c.args.address ≡ true = sym c.is_past_code.ensures
    ∙ c.if-is_past_code.true in
    let before : c.saturating_sub.result ≡ c.args.address - 4 = search rules in
    rw is (says_both c.put.ensures (says_same (ap (place_text c.args.listing.now) before) c.write_place.ensures))
