-- The types one step from a type, for the two kinds of steps.
use Rattle.std.specs.Prelude.{List}
use Rattle.il_base.specs.declared.world_model.expr.TypeExpr.{TypeExpr}
use Rattle.il_base.specs.declared.world_model.record.AsmRec.{AsmRec}
use Rattle.rules.specs.type_rules.Subtypes.{interfaces_of, up}
use Rattle.type_tables.specs.declared.subtypes.rounds.Step.{Step}
use Rattle.type_tables.specs.declared.subtypes.rounds.Step.TheVariants.{Up, Interfaces}

abbrev pub next_by : List AsmRec → Step → TypeExpr → List TypeExpr
next_by recs Up e = up recs e
next_by recs Interfaces e = interfaces_of recs e
