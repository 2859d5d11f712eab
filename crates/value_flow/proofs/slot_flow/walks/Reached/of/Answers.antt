use Rattle.std.proofs.Common.{◌≡◌, ℕ, true, nat_lt, ◌&&◌, refl, sym, subst}
use Rattle.std.specs.Prelude.{◌↔◌}
use Rattle.closure.specs.Facts.{facts_in}
use Rattle.rules.specs.flow_rules.Carrying.{Carried}
use Rattle.value_flow.specs.slot_flow.Facts.{flow_in, number}
use Rattle.value_flow.proofs.lemmas.slot_flow.Exact.{exactly}
use Rattle.value_flow.proofs.slot_flow.walks.Reached.of.Goals as goal

pub returns : goal.returns
returns c =
    let f = c.args.flow.now in
    let bits = c.in_ok-bits.bits in
    record {
      slots = refl;
      count = refl;
      exact = λ at slot s.
          subst (λ (n : ℕ). (nat_lt at n && nat_lt slot f.slots && nat_lt s f.count && facts_in bits (number f.slots f.count at slot s) ≡ true) ↔ Carried ℕ (flow_in f) at slot s)
          (sym c.in_ok-places.ensures) (exactly f c.requires bits c.in_ok-bits.ensures at slot s);
    }
