-- Types whose identity a running program can see, so that they keep their names: those that are made, boxed or named by a handle,
-- and generic arguments; with a type its encloser.
use Rattle.std.specs.Prelude.{ℕ, List, [], ◌∷◌, ◌++◌, map, slice_get, ◌==◌, if◌then◌else◌}
use Rattle.std.specs.List.{flat_map}
use Rattle.il_base.specs.declared.ids.TypeId.{TypeId}
use Rattle.il_base.specs.declared.ids.Item.{Item}
use Rattle.il_base.specs.declared.ids.Item.TheVariants as item
use Rattle.il_base.specs.declared.body.Form.{Form}
use Rattle.il_base.specs.declared.body.Form.TheVariants as form
use Rattle.il_base.specs.declared.body.Operand.{Operand}
use Rattle.il_base.specs.declared.body.Operand.TheVariants as operand
use Rattle.il_base.specs.declared.body.Instr.{Instr}
use Rattle.il_base.specs.declared.opcode.TheConstants.{CONSTRAINED}
use Rattle.il_base.specs.declared.world_model.known.Known.{Known}
use Rattle.il_base.specs.declared.world_model.known.Known.TheVariants.{Good, Bad}
use Rattle.il_base.specs.declared.world_model.expr.TypeExpr.{TypeExpr, fold-TypeExpr}
use Rattle.il_base.specs.declared.world_model.expr.TypeExpr.TheOpen.{TypeExpr-F}
use Rattle.il_base.specs.declared.world_model.expr.MethodUse.{MethodUse}
use Rattle.il_base.specs.declared.world_model.members.MethodDefRow.{MethodDefRow}
use Rattle.il_base.specs.declared.world_model.record.AsmRec.{AsmRec}
use Rattle.il_base.specs.world_model.Worlds.{type_id}
use Rattle.rules.specs.declared.link_rules.row_at.RowAt.{RowAt}
use Rattle.rules.specs.link_rules.Types.{encloser}
use Rattle.rules.specs.link_rules.Signatures.{token_type}
use Rattle.rules.specs.link_rules.Members.{type_home}
use Rattle.rules.specs.link_rules.Cycles.{listed}
use Rattle.rules.specs.type_rules.Rows.{rec_at}
use Rattle.rules.specs.mark_rules.Facts.{Fact}
use Rattle.rules.specs.mark_rules.Facts.Fact.{shown}
use Rattle.rules.specs.mark_rules.Places.{row_of}
use Rattle.rules.specs.mark_rules.Naming.{Named, Part, types_in, method_named}
use Rattle.rules.specs.mark_rules.Naming.Named.{type, method, field}
use Rattle.rules.specs.mark_rules.Types.{parts_of_type, parts_of_field, parts_of_impl}
use Rattle.rules.specs.mark_rules.Calls.{parts_of_method, uncaught_parts, code_of}
use Rattle.rules.specs.mark_rules.Properties.{parts_of_property, parts_of_event}
use Rattle.rules.specs.mark_rules.Bodies.{is_field_token, is_method_token}

-- ---- generic arguments

-- the definitions that a type names, and those of them that are in a generic argument
pub record Within : Type 0 where
  pub all : List TypeId
  pub arguments : List TypeId

abbrev pub nothing_within : Within
nothing_within = record { all = []; arguments = [] }

abbrev pub within_layer : TypeExpr-F Within → Within
within_layer (TypeExpr-F.Prim n) = nothing_within
within_layer (TypeExpr-F.Def t) = record { all = t ∷ []; arguments = [] }
within_layer (TypeExpr-F.Inst t args) = record { all = t ∷ flat_map (λ (w : Within). w.all) args; arguments = flat_map (λ (w : Within). w.all) args }
within_layer (TypeExpr-F.Array x) = x
within_layer (TypeExpr-F.ByRef x) = x
within_layer (TypeExpr-F.Var n) = nothing_within
within_layer (TypeExpr-F.MVar n) = nothing_within
within_layer (TypeExpr-F.Mod required by x) = record { all = by ∷ x.all; arguments = x.arguments }

unfoldable pub within : TypeExpr → Within
within = fold-TypeExpr Within within_layer

-- anywhere in a type, arguments of arguments too, with what their modifiers name
abbrev pub arguments_in : TypeExpr → List TypeId
arguments_in e = (within e).arguments

abbrev pub arguments_of_named : Named → List TypeId
arguments_of_named (type e) = arguments_in e
arguments_of_named (method u) = arguments_in u.owner ++ flat_map types_in u.args
arguments_of_named (field u) = arguments_in u.owner

abbrev pub arguments_of_part : Known Named → List TypeId
arguments_of_part (Good n) = arguments_of_named n
arguments_of_part (Bad why) = []

abbrev pub arguments_of_parts : List Part → List TypeId
arguments_of_parts parts = flat_map (λ (p : Part). arguments_of_part p.named) parts

-- the parts of an item: operands, locals, signatures, constraints, bases, interface rows, and the types that it catches or raises
abbrev pub parts_of_item : List AsmRec → Item → RowAt → List Part
parts_of_item recs (item.Asm a) at = []
parts_of_item recs (item.Typ t) at = parts_of_type recs at
parts_of_item recs (item.Method m) at = parts_of_method recs at
parts_of_item recs (item.Field f) at = parts_of_field recs at
parts_of_item recs (item.Prop p) at = parts_of_property recs at
parts_of_item recs (item.Event e) at = parts_of_event recs at
parts_of_item recs (item.Impl i) at = parts_of_impl recs at

-- the parts whose generic arguments are shown: all but catch types and event types
abbrev pub showing_parts : List AsmRec → Item → RowAt → List Part
showing_parts recs (item.Method m) at = uncaught_parts recs at
showing_parts recs (item.Event e) at = []
showing_parts recs i at = parts_of_item recs i at

-- ---- instructions that show a type: its definition, or for an array that of its elements, and the types of the modifiers around
-- these, which an array's text has

abbrev pub shown_layer : TypeExpr-F (List TypeId) → List TypeId
shown_layer (TypeExpr-F.Prim n) = []
shown_layer (TypeExpr-F.Def t) = t ∷ []
shown_layer (TypeExpr-F.Inst t args) = t ∷ []
shown_layer (TypeExpr-F.Array x) = x
shown_layer (TypeExpr-F.ByRef x) = x
shown_layer (TypeExpr-F.Var n) = []
shown_layer (TypeExpr-F.MVar n) = []
shown_layer (TypeExpr-F.Mod required by x) = by ∷ x

unfoldable pub definitions_in : TypeExpr → List TypeId
definitions_in = fold-TypeExpr (List TypeId) shown_layer

abbrev pub known_types : Known TypeExpr → List TypeId
known_types (Good e) = definitions_in e
known_types (Bad why) = []

abbrev pub made_types : Known MethodUse → List TypeId
made_types (Good u) = definitions_in u.owner
made_types (Bad why) = []

-- `ldtoken` of a field or a method shows nothing
abbrev pub handled : List AsmRec → ℕ → AsmRec → ℕ → List TypeId
handled recs a rec token = if is_field_token rec token then [] else if is_method_token token then [] else known_types (token_type recs a rec token)

abbrev pub shown_by : List AsmRec → ℕ → AsmRec → ℕ → Form → ℕ → List TypeId
shown_by recs a rec opcode form.NewObj token = made_types (method_named recs a rec token)
shown_by recs a rec opcode form.Box token = known_types (token_type recs a rec token)
shown_by recs a rec opcode form.NewArr token = known_types (token_type recs a rec token)
shown_by recs a rec opcode form.LdToken token = handled recs a rec token
shown_by recs a rec opcode form.Prefix token = if opcode == CONSTRAINED then known_types (token_type recs a rec token) else []
shown_by recs a rec opcode _ token = []

abbrev pub shown_in : List AsmRec → ℕ → AsmRec → Instr → Operand → List TypeId
shown_in recs a rec i (operand.Token token) = shown_by recs a rec i.opcode i.form token
shown_in recs a rec i _ = []

abbrev pub shown_code : List AsmRec → ℕ → AsmRec → MethodDefRow → List TypeId
shown_code recs a rec m = flat_map (λ (i : Instr). shown_in recs a rec i i.operand) (code_of rec m)

-- the owner of a `newobj`, the types of `box`, `newarr`, `ldtoken` and `constrained.`; their arguments are shown as parts
abbrev pub shown_by_item : List AsmRec → Item → RowAt → List TypeId
shown_by_item recs (item.Method m) at = flat_map (λ (rec : AsmRec). flat_map (shown_code recs at.asm rec) (listed (slice_get rec.method_def at.row))) (listed (rec_at recs at))
shown_by_item recs _ at = []

-- ---- the rules

abbrev pub shows : List AsmRec → Item → RowAt → List Fact
shows recs i at = map shown (arguments_of_parts (showing_parts recs i at) ++ shown_by_item recs i at)

-- what a marked item shows
unfoldable pub item_shows : List AsmRec → Item → List Fact
item_shows recs i = flat_map (shows recs i) (listed (row_of recs i))

-- A type that is shown shows its encloser.
unfoldable pub encloser_shown : List AsmRec → TypeId → List Fact
encloser_shown recs t =
    flat_map (λ (at : RowAt). flat_map (λ (rec : AsmRec). map (λ k. shown (type_id recs at.asm k)) (listed (encloser rec at.row))) (listed (rec_at recs at))) (listed (type_home recs t))
