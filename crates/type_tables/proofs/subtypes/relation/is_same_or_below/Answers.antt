use Rattle.std.proofs.Common.{sym, ◌∙◌}
use Rattle.type_tables.proofs.lemmas.subtypes.Decided.{same_stands}
use Rattle.type_tables.proofs.subtypes.relation.is_same_or_below.Goals as goal

pub returns-then-is_same : goal.returns-then-is_same
returns-then-is_same c =
    same_stands c.subtype_decides.ensures c.args.tables.now.world.now c.requires.world c.args.a.now c.args.b.now (sym c.is_same.ensures ∙ c.if-is_same.true)
