use Rattle.std.proofs.Common.{arith}
use Rattle.value_flow.proofs.lemmas.slot_flow.Numbers.{place_fits, number_fits}
use Rattle.value_flow.proofs.slot_flow.walks.number_in.Goals as goal

pub overflow_mul-row : goal.overflow_mul-row
overflow_mul-row c = omega (arith, place_fits c.args.places c.args.slots c.args.count c.args.at c.args.slot c.args.source c.requires.at c.requires.slot c.requires.source c.requires.fits)

pub overflow_add-place : goal.overflow_add-place
overflow_add-place c = omega (arith, place_fits c.args.places c.args.slots c.args.count c.args.at c.args.slot c.args.source c.requires.at c.requires.slot c.requires.source c.requires.fits)

pub overflow_mul-first : goal.overflow_mul-first
overflow_mul-first c = omega (arith, number_fits c.args.places c.args.slots c.args.count c.args.at c.args.slot c.args.source c.requires.at c.requires.slot c.requires.source c.requires.fits)

pub overflow_add-result : goal.overflow_add-result
overflow_add-result c = omega (arith, number_fits c.args.places c.args.slots c.args.count c.args.at c.args.slot c.args.source c.requires.at c.requires.slot c.requires.source c.requires.fits)
