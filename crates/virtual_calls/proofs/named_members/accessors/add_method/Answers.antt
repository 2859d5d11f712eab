use Rattle.std.proofs.Common.{sym, ◌∙◌}
use Rattle.virtual_calls.proofs.lemmas.named_members.AccessorRows.{under_none, under_bad, under_one}
use Rattle.virtual_calls.proofs.named_members.accessors.add_method.Goals as goal

pub returns-in_default : goal.returns-in_default
returns-in_default c = under_none c.args.rec.now c.args.asm c.args.k c.args.found.now.items (sym c.in_default.ensures.value)

pub returns-in_default-index_in : goal.returns-in_default-index_in
returns-in_default-index_in c =
    under_bad c.args.rec.now c.args.asm c.args.k c.args.found.now.items c.in-Some.semantics.now (sym c.in-Some.ensures.value) (sym c.in_default-index_in.ensures)

pub returns : goal.returns
returns c =
    c.in_ok-add_owned.ensures
    ∙ under_one c.args.rec.now c.args.asm c.args.k c.args.found.now.items c.in-Some.semantics.now c.in-Some-index_in.row (sym c.in-Some.ensures.value) (sym c.in-Some-index_in.ensures)
