-- When a source doesn't have what a site asks for: kinds of members of the type that it stands for, or a known name.
use Rattle.std.specs.Prelude.{ℕ, List, ◌==◌, ◌&&◌, Bool, true, false, not, bit_and, Option, slice_get}
use Rattle.std.specs.List.{list_any}
use Rattle.std.specs.Option.{option_and_then}
use Rattle.il_base.specs.declared.ids.MethodId.{MethodId}
use Rattle.il_base.specs.declared.element.TheConstants.{STRING}
use Rattle.il_base.specs.declared.sig.Sig.{Sig}
use Rattle.il_base.specs.declared.sig.MethodSig.{MethodSig}
use Rattle.il_base.specs.declared.world_model.expr.TypeExpr.{TypeExpr, fold-TypeExpr}
use Rattle.il_base.specs.declared.world_model.expr.TypeExpr.TheOpen.{TypeExpr-F}
use Rattle.il_base.specs.declared.world_model.members.FieldRow.{FieldRow}
use Rattle.il_base.specs.declared.world_model.record.AsmRec.{AsmRec}
use Rattle.il_base.specs.world_model.Worlds.{known_then, sig_expr}
use Rattle.rules.specs.declared.link_rules.row_at.RowAt.{RowAt}
use Rattle.rules.specs.link_rules.Signatures.{names_at}
use Rattle.rules.specs.link_rules.Cycles.{listed}
use Rattle.rules.specs.type_rules.Slots.{method_home}
use Rattle.rules.specs.type_rules.Rows.{rec_at}
use Rattle.rules.specs.mark_rules.Annotations.{good_expr}
use Rattle.rules.specs.declared.flow_rules.source.Source.{Source}
use Rattle.rules.specs.declared.flow_rules.source.Source.TheVariants as source
use Rattle.rules.specs.declared.site_rules.target.Target.{Target}
use Rattle.rules.specs.declared.site_rules.target.Target.TheVariants as target
use Rattle.rules.specs.site_rules.Signatures.{parameter_slot, return_slot, slot_type, any_of}
use Rattle.rules.specs.site_rules.Kinds.{field_home, promised}

-- ---- slots of texts

abbrev pub string_layer : TypeExpr-F Bool → Bool
string_layer (TypeExpr-F.Prim n) = n == STRING
string_layer (TypeExpr-F.Mod required by x) = x
string_layer _ = false

-- System.String, modifiers aside
unfoldable pub is_string : TypeExpr → Bool
is_string = fold-TypeExpr Bool string_layer

abbrev pub takes_string : List AsmRec → MethodId → (MethodSig → Option Sig) → Bool
takes_string recs m slot = any_of is_string (option_and_then (λ at. slot_type recs at slot) (method_home recs m))

abbrev pub field_is_string : List AsmRec → RowAt → AsmRec → Bool
field_is_string recs at rec =
    list_any (λ (f : FieldRow). list_any is_string (good_expr (known_then (sig_expr (names_at recs at.asm rec)) f.signature))) (listed (slice_get rec.field at.row))

-- whether a target is a slot of a text: a known text there is a known name
unfoldable pub is_text_slot : List AsmRec → Target → Bool
is_text_slot recs (target.Param m n) = takes_string recs m (parameter_slot n)
is_text_slot recs (target.Return m) = takes_string recs m return_slot
is_text_slot recs (target.Field f) =
    list_any (λ (at : RowAt). list_any (field_is_string recs at) (listed (rec_at recs at))) (listed (field_home recs f))
is_text_slot recs _ = false

-- ---- failing

-- whether one set of kinds has all of another
abbrev pub has_all : ℕ → ℕ → Bool
has_all flags wanted = bit_and flags wanted == wanted

-- where a name is looked for: anything may be there, or a text without an annotation
abbrev pub fails_name : List AsmRec → MethodId → Source → Bool
fails_name recs m (source.KnownType t) = false
fails_name recs m (source.KnownHandle t) = false
fails_name recs m (source.KnownText x) = false
fails_name recs m source.Null = false
fails_name recs m source.Opaque = true
fails_name recs m s = promised recs m s == 0

-- where members are asked for: nothing is known of the type, or the annotation lacks one of the kinds
abbrev pub fails_kinds : List AsmRec → MethodId → Source → Target → ℕ → Bool
fails_kinds recs m (source.KnownType t) to wanted = false
fails_kinds recs m (source.KnownHandle t) to wanted = not (wanted == 0)
fails_kinds recs m (source.KnownText x) to wanted = not (wanted == 0) && not (is_text_slot recs to)
fails_kinds recs m source.Null to wanted = false
fails_kinds recs m source.Opaque to wanted = not (wanted == 0)
fails_kinds recs m s to wanted = not (has_all (promised recs m s) wanted)

-- whether a source in a slot of the method m fails at a target that asks for these kinds
unfoldable pub fails : List AsmRec → MethodId → Source → Target → ℕ → Bool
fails recs m s (target.Name n) wanted = fails_name recs m s
fails recs m s to wanted = fails_kinds recs m s to wanted
