use Rattle.std.proofs.Common.{sym, ◌∙◌}
use Rattle.cil_world.proofs.lemmas.world_types.AccessorRows.{under_none, under_other, under_bad, under_one}
use Rattle.cil_world.proofs.world_types.accessors.add_flagged.Goals as goal

pub returns-in_default : goal.returns-in_default
returns-in_default c = under_none c.args.flag c.args.rec.now c.args.k c.args.found.now.items (sym c.in_default.ensures.value)

pub returns-in_default-index_in : goal.returns-in_default-index_in
returns-in_default-index_in c =
    under_bad c.args.flag c.args.rec.now c.args.k c.args.found.now.items c.in-Some.semantics.now (sym c.in-Some.ensures.value) (sym c.if-not-has_flag.ensures) (sym c.in_default-index_in.ensures)

pub returns : goal.returns
returns c =
    c.in_ok-add_owned.ensures
    ∙ under_one c.args.flag c.args.rec.now c.args.k c.args.found.now.items c.in-Some.semantics.now (sym c.in-Some.ensures.value) (sym c.if-not-has_flag.ensures) c.in-Some-index_in.row (sym c.in-Some-index_in.ensures)
