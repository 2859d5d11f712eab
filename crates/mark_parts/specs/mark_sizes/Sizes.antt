-- The size of a field's type.
use Rattle.std.specs.Prelude.{ℕ, List, [], ◌∷◌, if◌then◌else◌}
use Rattle.il_base.specs.declared.world_model.members.FieldRow.{FieldRow}
use Rattle.il_base.specs.declared.world_model.record.AsmRec.{AsmRec}
use Rattle.il_base.specs.world_model.Worlds.{known_then, sig_expr}
use Rattle.rules.specs.link_rules.Signatures.{names_at}
use Rattle.rules.specs.link_rules.Cycles.{is_static_field}
use Rattle.rules.specs.mark_rules.Attributes.{expr_size}

-- the size of a field's type in bytes; a static field has none
abbrev pub size_by : List AsmRec → ℕ → AsmRec → FieldRow → List ℕ
size_by recs a rec f = if is_static_field f then [] else expr_size (known_then (sig_expr (names_at recs a rec)) f.signature) ∷ []
