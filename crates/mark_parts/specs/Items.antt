-- The parts of items, in pieces.
use Rattle.std.specs.Prelude.{ℕ, List, [], ◌∷◌, ◌++◌, Option, slice_get, ◌==◌, Bool, true, false, if◌then◌else◌}
use Rattle.std.specs.List.{flat_map}
use Rattle.std.specs.Option.{option_and_then, option_map_or}
use Rattle.il_base.specs.declared.table.TheConstants.{MEMBER_REF, STAND_ALONE_SIG}
use Rattle.il_base.specs.declared.world_model.types.TypeDefRow.{TypeDefRow}
use Rattle.il_base.specs.declared.world_model.members.MethodDefRow.{MethodDefRow}
use Rattle.il_base.specs.declared.world_model.members.StandAloneSigRow.{StandAloneSigRow}
use Rattle.il_base.specs.declared.world_model.record.UserText.{UserText}
use Rattle.il_base.specs.declared.world_model.record.AsmRec.{AsmRec}
use Rattle.il_base.specs.world_model.Tokens.{index_in}
use Rattle.rules.specs.link_rules.Cycles.{listed}
use Rattle.rules.specs.mark_rules.Naming.{Part, type_token_part, method_sig_parts}
use Rattle.rules.specs.mark_rules.Bodies.{is_field_row, is_read, code_parts, body_parts, body_of}
use Rattle.rules.specs.mark_rules.Types.{constraints_of}
use Rattle.mark_parts.specs.declared.methods.Caught.{Caught}
use Rattle.mark_parts.specs.declared.methods.Caught.TheVariants as caught

abbrev pub is_field_ref : AsmRec → ℕ → Bool
is_field_ref rec token = is_field_row (option_and_then (slice_get rec.member_ref) (index_in MEMBER_REF token))

abbrev pub is_text_at : AsmRec → ℕ → Bool
is_text_at rec k = option_map_or (λ (t : UserText). true) (slice_get rec.user k) false

abbrev pub locals_row : AsmRec → ℕ → Option StandAloneSigRow
locals_row rec token = option_and_then (slice_get rec.stand_alone_sig) (index_in STAND_ALONE_SIG token)

-- a method's signature and constraints, where `place` is its token
abbrev pub head_parts : List AsmRec → ℕ → AsmRec → ℕ → MethodDefRow → List Part
head_parts recs a rec place m = method_sig_parts recs a rec place m.signature ++ constraints_of recs a rec place

abbrev pub some_body_parts : List AsmRec → ℕ → AsmRec → ℕ → Caught → MethodDefRow → List Part
some_body_parts recs a rec place caught.Named m = flat_map (body_parts recs a rec place (is_read m.signature)) (body_of m)
some_body_parts recs a rec place caught.Left m = flat_map (code_parts recs a rec place (is_read m.signature)) (body_of m)

-- the part in the Extends of a type in a row, where `place` is its token
abbrev pub extends_parts : List AsmRec → ℕ → AsmRec → ℕ → ℕ → List Part
extends_parts recs a rec k place =
    flat_map (λ (t : TypeDefRow). if t.extends == 0 then [] else type_token_part recs a rec place 0 t.extends ∷ []) (listed (slice_get rec.type_def k))
