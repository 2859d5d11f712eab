-- The parts of a method's signature and locals, by its token.
use Rattle.std.specs.Prelude.{ℕ, List, ◌++◌}
use Rattle.std.specs.List.{flat_map}
use Rattle.il_base.specs.declared.body.Body.{Body}
use Rattle.il_base.specs.declared.world_model.members.MethodDefRow.{MethodDefRow}
use Rattle.il_base.specs.declared.world_model.record.AsmRec.{AsmRec}
use Rattle.rules.specs.mark_rules.Naming.{Part, method_sig_parts}
use Rattle.rules.specs.mark_rules.Bodies.{locals_parts, body_of}

abbrev pub body_locals : List AsmRec → ℕ → AsmRec → ℕ → MethodDefRow → List Part
body_locals recs a rec row m = flat_map (λ (b : Body). locals_parts recs a rec row b.locals) (body_of m)

abbrev pub row_parts : List AsmRec → ℕ → AsmRec → ℕ → MethodDefRow → List Part
row_parts recs a rec row m = method_sig_parts recs a rec row m.signature ++ body_locals recs a rec row m
