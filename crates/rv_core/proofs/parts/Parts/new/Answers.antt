use Rattle.std.proofs.Common.{arith}
use Rattle.rv_core.proofs.Words.{◌≡◌, ap, ◌∙◌, subst, replicate, IsLegal, StaleWords, reset_hardware, hardware_of}
use Rattle.rv_core.proofs.Words.{Inside, Ok, Values, []}
use Rattle.std.specs.FinSet.{empty}
use Rattle.std.proofs.lemmas.Result.{IfOk-at_ok}
use Rattle.rv_core.proofs.Ties.Reset.{reset-sound}
use Rattle.rv_core.proofs.parts.Parts.new.Goals as goal
use Rattle.rv_core.proofs.parts.Parts.new.Goals.{After-default}

abbrev parts : After-default → Inside
parts c = record {
  values = c.values-values.result;
  pc = c.args.image.now.start;
  registers = replicate 32 0;
  csrs = c.reset.result;
  stale = c.in_ok-front.stale;
  cache = c.in_ok-front.cache;
  stores = c.in_ok-front.stores;
  port_free = 0;
  units = c.in_ok-front.units;
  stations = c.in_ok-front.stations;
  bus = c.in_ok-front.bus;
  rename = c.in_ok-front.rename;
  rob = c.in_ok-front.rob;
  front = c.in_ok-front.front;
  cycle = 0;
  lines = c.default.result;
}

-- each part as it was made
memory : (c : After-default) →
    (c.new.result ≡ Ok c.in_ok-front.front) × (c.cache_at_reset.result ≡ Ok c.in_ok-front.cache)
    × (c.new-2.result ≡ Ok c.in_ok-front.stale)
memory c = IfOk-at_ok _ c.in_ok-front.ensures.made.0 c.all_three-memory.ensures.made

buffers : (c : After-default) →
    (c.new-3.result ≡ Ok c.in_ok-front.rob) × (c.new-4.result ≡ Ok c.in_ok-front.rename)
    × (c.new-5.result ≡ Ok c.in_ok-front.stores)
buffers c = IfOk-at_ok _ c.in_ok-front.ensures.made.1 c.all_three-buffers.ensures.made

execution : (c : After-default) →
    (c.new-6.result ≡ Ok c.in_ok-front.stations) × (c.new-7.result ≡ Ok c.in_ok-front.units)
    × (c.new-8.result ≡ Ok c.in_ok-front.bus)
execution c = IfOk-at_ok _ c.in_ok-front.ensures.made.2 c.all_three-execution.ensures.made

stale : (c : After-default) →
    c.in_ok-front.stale
    ≡ record { base = c.values-values.result.ram_base; size = c.values-values.result.ram_size; words = empty }
stale c = IfOk-at_ok _ (memory c).2 c.new-2.ensures.fresh

stores : (c : After-default) →
    c.in_ok-front.stores ≡ record { stores = []; capacity = c.args.description.now.store_queue }
stores c = IfOk-at_ok _ (buffers c).2 c.new-5.ensures

-- the parts stand for the hardware at reset
view : (c : After-default) →
    hardware_of (parts c) ≡ reset_hardware c.args.description.now c.args.image.now.bytes c.args.image.now.start
view c = grind arith

pub invariant_of-parts : goal.invariant_of-parts
invariant_of-parts c =
    let described = c.values-values.ensures.values in
    reset-sound (parts c) c.args.description.now c.args.image.now.bytes c.args.image.now.start
    (subst IsLegal described c.values-values.ensures.legal) c.requires (view c)
    (IfOk-at_ok _ (buffers c).1 c.new-4.ensures) (IfOk-at_ok _ (execution c).0 c.new-6.ensures)
    (IfOk-at_ok _ (execution c).2 c.new-8.ensures) (stores c)
    (ap (λ (s : StaleWords). s.base) (stale c) ∙ ap (λ (v : Values). v.ram_base) described)
    (ap (λ (s : StaleWords). s.size) (stale c) ∙ ap (λ (v : Values). v.ram_size) described)
