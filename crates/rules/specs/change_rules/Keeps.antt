-- Whether all that something names is kept.
use Rattle.std.specs.Prelude.{ℕ, List, Bool, true, false, nat_eq, not, ◌&&◌, ◌||◌, ◌==◌, Option, Some, None}
use Rattle.std.specs.List.{list_all}
use Rattle.il_base.specs.declared.body.Form.{Form}
use Rattle.il_base.specs.declared.body.Form.TheVariants as form
use Rattle.il_base.specs.declared.field_flags.TheConstants.{STATIC}
use Rattle.il_base.specs.declared.opcode.TheConstants.{CONSTRAINED}
use Rattle.il_base.specs.Flags.{has_flag}
use Rattle.il_base.specs.declared.world_model.known.Known.{Known}
use Rattle.il_base.specs.declared.world_model.known.Known.TheVariants.{Good, Bad}
use Rattle.il_base.specs.declared.world_model.expr.TypeExpr.{TypeExpr, fold-TypeExpr, out-TypeExpr}
use Rattle.il_base.specs.declared.world_model.expr.TypeExpr.TheOpen.{TypeExpr-F}
use Rattle.il_base.specs.declared.world_model.expr.MethodUse.{MethodUse}
use Rattle.il_base.specs.declared.world_model.expr.FieldUse.{FieldUse}
use Rattle.il_base.specs.declared.cil_values.value.Value.{Value, fold-Value}
use Rattle.il_base.specs.declared.cil_values.value.Value.TheOpen.{Value-F}
use Rattle.il_base.specs.declared.cil_values.path.Path.{Path}
use Rattle.il_base.specs.declared.cil_values.path.Root.{Root}
use Rattle.il_base.specs.declared.cil_values.path.Root.TheVariants as root
use Rattle.il_base.specs.declared.cil_values.resolved.Use.{Use}
use Rattle.il_base.specs.declared.cil_values.resolved.Instruction.{Instruction}
use Rattle.il_base.specs.declared.cil_values.resolved.Clause.{Clause}
use Rattle.il_base.specs.declared.cil_values.resolved.Code.{Code}
use Rattle.il_base.specs.declared.cil_values.definition.Signature.{Signature}
use Rattle.il_base.specs.declared.cil_values.definition.Method.{Method}
use Rattle.il_base.specs.declared.cil_values.definition.FieldDef.{FieldDef}
use Rattle.il_base.specs.declared.cil_values.layout.Layout.{Layout}
use Rattle.il_base.specs.declared.cil_values.layout.Shape.{Shape}
use Rattle.il_base.specs.declared.cil_values.resolved.Use.TheVariants.{Typ as typ, Method as method, Field as field}
use Rattle.il_base.specs.declared.cil_values.layout.Shape.TheVariants.{Structure as structure}
use Rattle.rules.specs.step_rules.Queries.{Queries}
use Rattle.rules.specs.step_rules.Closing.{plain}
use Rattle.rules.specs.change_rules.Change.{Keep}
use Rattle.rules.specs.change_rules.States.{keeps_cell}

-- ---- types

abbrev pub itself : Bool → Bool
itself b = b

-- two answers on a type: whether all definitions that it names are kept and its generic arguments shown, and whether its text may
-- be printed
pub record Names : Type 0 where
  pub kept : Bool
  pub shown : Bool

abbrev pub both : Names → Bool
both s = s.kept && s.shown

abbrev pub names_layer : Keep → TypeExpr-F Names → Names
names_layer k (TypeExpr-F.Def t) = record { kept = k.typ t.0; shown = k.shown t.0 }
names_layer k (TypeExpr-F.Inst t args) = record { kept = k.typ t.0 && list_all both args; shown = k.shown t.0 && list_all both args }
names_layer k (TypeExpr-F.Array x) = x
names_layer k (TypeExpr-F.ByRef x) = x
names_layer k (TypeExpr-F.Mod required by x) = record { kept = k.typ by.0 && x.kept; shown = k.shown by.0 && x.shown }
names_layer k _ = record { kept = true; shown = true }

unfoldable pub names_of : Keep → TypeExpr → Names
names_of k = fold-TypeExpr Names (names_layer k)

abbrev pub keeps_expr : Keep → TypeExpr → Bool
keeps_expr k e = (names_of k e).kept

-- whether each definition that a type names is kept, in its generic arguments too; these needn't be shown
abbrev pub defined_layer : Keep → TypeExpr-F Bool → Bool
defined_layer k (TypeExpr-F.Def t) = k.typ t.0
defined_layer k (TypeExpr-F.Inst t args) = k.typ t.0 && list_all itself args
defined_layer k (TypeExpr-F.Array x) = x
defined_layer k (TypeExpr-F.ByRef x) = x
defined_layer k (TypeExpr-F.Mod required by x) = k.typ by.0 && x
defined_layer k _ = true

unfoldable pub keeps_defined : Keep → TypeExpr → Bool
keeps_defined k = fold-TypeExpr Bool (defined_layer k)

-- a type that is kept and shown, as each generic argument is
abbrev pub shows_expr : Keep → TypeExpr → Bool
shows_expr k e = both (names_of k e)

-- whether a flag is set for the definition of a type without modifiers; an array and a primitive have no definition and pass, a
-- generic parameter doesn't
abbrev pub definition_passes : (ℕ → Bool) → TypeExpr-F TypeExpr → Bool
definition_passes flag (TypeExpr-F.Def t) = flag t.0
definition_passes flag (TypeExpr-F.Inst t args) = flag t.0
definition_passes flag (TypeExpr-F.Var n) = false
definition_passes flag (TypeExpr-F.MVar n) = false
definition_passes flag _ = true

-- the same, where a generic parameter passes too
abbrev pub parameter_passes : (ℕ → Bool) → TypeExpr-F TypeExpr → Bool
parameter_passes flag (TypeExpr-F.Var n) = true
parameter_passes flag (TypeExpr-F.MVar n) = true
parameter_passes flag x = definition_passes flag x

-- a type of which there can be objects; a generic parameter passes, since no object has it as its type
unfoldable pub makes_expr : Keep → TypeExpr → Bool
makes_expr k e = parameter_passes k.made (out-TypeExpr (plain e))

-- a type of which there can be objects whatever is put in for parameters
unfoldable pub news_expr : Keep → TypeExpr → Bool
news_expr k e = definition_passes k.made (out-TypeExpr (plain e))

unfoldable pub begins_expr : Keep → TypeExpr → Bool
begins_expr k e = definition_passes k.begun (out-TypeExpr (plain e))

-- a type that an object can have: shown, and with objects
abbrev pub keeps_made : Keep → TypeExpr → Bool
keeps_made k e = shows_expr k e && makes_expr k e

-- a method that is kept and can be called
abbrev pub can_call : Keep → ℕ → Bool
can_call k m = k.method m && k.called m

abbrev pub keeps_use : Keep → MethodUse → Bool
keeps_use k u = can_call k u.method.0 && keeps_expr k u.owner && list_all (shows_expr k) u.args

-- what is bad is the same in both worlds
abbrev pub if_good : {A : Type 0} → (A → Bool) → Known A → Bool
if_good test (Good x) = test x
if_good test (Bad why) = true

-- ---- values

abbrev pub keeps_root : Keep → Root → Bool
keeps_root k (root.Field a f) = k.field f.0
keeps_root k (root.Static f owner) = k.field f.0 && keeps_expr k owner
keeps_root k _ = true

abbrev pub keeps_path : Keep → Path → Bool
keeps_path k p = keeps_root k p.root && keeps_expr k p.of

abbrev pub keeps_value_layer : Keep → Value-F Bool → Bool
keeps_value_layer k (Value-F.Pointer p) = keeps_path k p
keeps_value_layer k (Value-F.Struct of cells) = keeps_expr k of && list_all itself cells
keeps_value_layer k (Value-F.Handle e) = shows_expr k e
keeps_value_layer k (Value-F.FieldHandle f) = k.field f.0
keeps_value_layer k _ = true

unfoldable pub keeps_value : Keep → Value → Bool
keeps_value k = fold-Value Bool (keeps_value_layer k)

abbrev pub keeps_values : Keep → List Value → Bool
keeps_values k = list_all (keeps_value k)

-- ---- code

-- whether a type, without the modifiers around it, is of this definition; a type without a definition passes, a generic parameter
-- doesn't
abbrev pub is_of : ℕ → TypeExpr → Bool
is_of n e = definition_passes (nat_eq n) (out-TypeExpr (plain e))

abbrev pub is_of_owner : Option Method → TypeExpr → Bool
is_of_owner None e = true
is_of_owner (Some f) e = is_of f.owner e

-- a method is called on a type of the definition that has it
abbrev pub calls_own : Queries → MethodUse → Bool
calls_own q u = is_of_owner (q.method u.method.0) u.owner

-- a method that is called begins its type
abbrev pub keeps_called : Keep → Queries → MethodUse → Bool
keeps_called k q u = keeps_use k u && begins_expr k u.owner && calls_own q u

abbrev pub is_static : Option FieldDef → Bool
is_static None = false
is_static (Some f) = has_flag f.flags STATIC

-- a static field that is accessed begins its type
abbrev pub keeps_accessed : Keep → Queries → FieldUse → Bool
keeps_accessed k q u = k.field u.field.0 && keeps_expr k u.owner && (not (is_static (q.field u.field.0)) || begins_expr k u.owner)

abbrev pub keeps_operand : Keep → Queries → Use → Bool
keeps_operand k q (typ e) = if_good (keeps_expr k) e
keeps_operand k q (method u) = if_good (keeps_called k q) u
keeps_operand k q (field u) = if_good (keeps_accessed k q) u
keeps_operand k q _ = true

-- The type of an object that an instruction makes is shown, also that of `constrained.`; `newobj` makes an object of its method's
-- owner.
abbrev pub keeps_of_form : Keep → ℕ → Form → Use → Bool
keeps_of_form k opcode form.NewObj (method u) = if_good (λ u. shows_expr k u.owner && news_expr k u.owner) u
keeps_of_form k opcode form.Box (typ e) = if_good (shows_expr k) e
keeps_of_form k opcode form.NewArr (typ e) = if_good (shows_expr k) e
keeps_of_form k opcode form.Prefix (typ e) = not (opcode == CONSTRAINED) || if_good (shows_expr k) e
keeps_of_form k opcode form.LdToken (typ e) = if_good (shows_expr k) e
keeps_of_form k opcode _ _ = true

abbrev pub keeps_instruction : Keep → Queries → Instruction → Bool
keeps_instruction k q i = keeps_operand k q i.operand && keeps_of_form k i.opcode i.form i.operand

-- a type that is caught shows nothing
abbrev pub keeps_clause : Keep → Clause → Bool
keeps_clause k c = if_good (keeps_defined k) c.caught

abbrev pub keeps_code : Keep → Queries → Code → Bool
keeps_code k q c =
    if_good (list_all (keeps_expr k)) c.locals && list_all (keeps_instruction k q) c.code && list_all (keeps_clause k) c.clauses

-- ---- methods and fields

abbrev pub keeps_signature : Keep → Signature → Bool
keeps_signature k s = list_all (keeps_expr k) s.params && keeps_expr k s.ret

abbrev pub keeps_body : Keep → Queries → Option (Known Code) → Bool
keeps_body k q None = true
keeps_body k q (Some body) = if_good (keeps_code k q) body

abbrev pub keeps_method : Keep → Queries → Method → Bool
keeps_method k q m = k.typ m.owner && k.begun m.owner && if_good (keeps_signature k) m.signature && keeps_body k q m.body

abbrev pub keeps_field : Keep → FieldDef → Bool
keeps_field k f = if_good (keeps_expr k) f.typ

abbrev pub keeps_layout : Keep → Layout → Bool
keeps_layout k l = keeps_cell k l.cell && keeps_expr k l.typ && keeps_value k l.zero

abbrev pub keeps_shape : Keep → Shape → Bool
keeps_shape k (structure cells) = list_all (keeps_layout k) cells
keeps_shape k _ = true
