-- The sites of a method: generic arguments in its signature, its locals and its operands; arguments, stores and returns that annotated
-- parameters, fields and returns take; what the members of reflection take, and the names that they look for.
use Rattle.std.specs.Prelude.{ℕ, zero, suc, ◌+◌, ◌-◌, List, [], ◌++◌, Option, None, ◌==◌, ◌&&◌, if◌then◌else◌, slice_get}
use Rattle.std.specs.List.{flat_map}
use Rattle.std.specs.Prelude.{◌∷◌}
use Rattle.il_base.specs.declared.ids.MethodId.{MethodId}
use Rattle.il_base.specs.declared.ids.TypeId.{TypeId}
use Rattle.il_base.specs.declared.body.Body.{Body}
use Rattle.il_base.specs.declared.body.Form.{Form}
use Rattle.il_base.specs.declared.body.Form.TheVariants as form
use Rattle.il_base.specs.declared.body.Instr.{Instr}
use Rattle.il_base.specs.declared.table.TheConstants.{METHOD_DEF}
use Rattle.il_base.specs.declared.world_model.expr.MethodUse.{MethodUse}
use Rattle.il_base.specs.declared.world_model.expr.FieldUse.{FieldUse}
use Rattle.il_base.specs.declared.world_model.members.MethodDefRow.{MethodDefRow}
use Rattle.il_base.specs.declared.world_model.record.AsmRec.{AsmRec}
use Rattle.il_base.specs.world_model.Tokens.{token_of}
use Rattle.rules.specs.declared.link_rules.row_at.RowAt.{RowAt}
use Rattle.rules.specs.link_rules.Cycles.{listed}
use Rattle.rules.specs.mark_rules.Naming.{Part, method_sig_parts}
use Rattle.rules.specs.mark_rules.Bodies.{instruction_parts, locals_parts, body_of}
use Rattle.rules.specs.declared.mark_rules.member_kinds.TheConstants as kind
use Rattle.rules.specs.declared.flow_rules.called.Called.{Called}
use Rattle.rules.specs.flow_rules.Methods.{called_in}
use Rattle.rules.specs.flow_rules.Counts.{one_if}
use Rattle.rules.specs.flow_rules.Moves.{named_use, named_field, is_field_load, is_field_store}
use Rattle.rules.specs.declared.site_rules.target.Target.TheVariants as target
use Rattle.rules.specs.declared.site_rules.site.Site.{Site}
use Rattle.rules.specs.site_rules.Kinds.{parameter_kinds, return_kinds, field_kinds, searched_kinds, is_creation, is_name_search}
use Rattle.rules.specs.site_rules.Values.{Flowed, value_from_top, anything_at, known_names, place_of, site, if_kinds, asking}
use Rattle.rules.specs.site_rules.Arguments.{sites_of_parts}

-- ---- arguments for annotated parameters: parameters from j on, of which there are n in all

abbrev pub argument_site : Flowed → ℕ → MethodId → ℕ → ℕ → List Site
argument_site f offset m n j = asking (place_of f offset) (target.Param m j) (parameter_kinds f.recs m j) (value_from_top f offset (n - j))

abbrev pub arguments_from : Flowed → ℕ → MethodId → ℕ → ℕ → ℕ → List Site
arguments_from f offset m n j zero = []
arguments_from f offset m n j (suc left) = argument_site f offset m n j ++ arguments_from f offset m n (j + 1) left

unfoldable pub of_arguments : Flowed → ℕ → MethodId → Called → List Site
of_arguments f offset m c = arguments_from f offset m c.params 0 c.params

-- ---- members of reflection

-- the name that a method takes as its first parameter
abbrev pub names_of_call : Flowed → ℕ → Called → Option (List (List ℕ))
names_of_call f offset c = if c.params == 0 then None else known_names (value_from_top f offset c.params)

-- a search for members: the type that it is called on
abbrev pub search_sites : Flowed → ℕ → MethodId → Called → List Site
search_sites f offset m c =
    if_kinds (searched_kinds f.recs m)
    (site (place_of f offset) (target.This m) (searched_kinds f.recs m) (names_of_call f offset c) (value_from_top f offset (c.params + one_if c.this)))

-- `Activator.CreateInstance(Type)`
abbrev pub creation_sites : Flowed → ℕ → MethodId → Called → List Site
creation_sites f offset m c =
    if is_creation f.recs m && c.params == 1
    then asking (place_of f offset) (target.Param m 0) kind.PUBLIC_PARAMETERLESS_CONSTRUCTOR (value_from_top f offset 1) else []

-- `Type.GetType`: the name that it looks for
abbrev pub name_sites : Flowed → ℕ → MethodId → Called → List Site
name_sites f offset m c =
    if is_name_search f.recs m
    then site (place_of f offset) (target.Name m) 0 (names_of_call f offset c) (value_from_top f offset c.params) ∷ [] else []

unfoldable pub of_member : Flowed → ℕ → MethodId → Called → List Site
of_member f offset m c = search_sites f offset m c ++ (creation_sites f offset m c ++ name_sites f offset m c)

-- ---- calls

abbrev pub call_sites : Flowed → ℕ → MethodUse → List Site
call_sites f offset u =
    flat_map (λ (c : Called). of_arguments f offset u.method c ++ of_member f offset u.method c) (listed (called_in f.recs u))

abbrev pub creation_call_sites : Flowed → ℕ → MethodUse → List Site
creation_call_sites f offset u = flat_map (of_arguments f offset u.method) (listed (called_in f.recs u))

-- ---- fields and returns

-- a store, or an address, by which anything may be stored
abbrev pub field_sites : Flowed → ℕ → ℕ → FieldUse → List Site
field_sites f offset code u =
    if is_field_store code then asking (place_of f offset) (target.Field u.field) (field_kinds f.recs u.field) (value_from_top f offset 1)
    else if is_field_load code then []
    else asking (place_of f offset) (target.Field u.field) (field_kinds f.recs u.field) (anything_at f offset)

abbrev pub return_sites : Flowed → ℕ → List Site
return_sites f offset = asking (place_of f offset) (target.Return f.method) (return_kinds f.recs f.method) (value_from_top f offset 1)

-- ---- the code

unfoldable pub use_sites : Flowed → Instr → Form → List Site
use_sites f i form.Call = flat_map (call_sites f i.at) (listed (named_use f.recs f.setting i.operand))
use_sites f i form.NewObj = flat_map (creation_call_sites f i.at) (listed (named_use f.recs f.setting i.operand))
use_sites f i form.Field = flat_map (field_sites f i.at i.opcode) (listed (named_field f.recs f.setting i.operand))
use_sites f i form.Ret = return_sites f i.at
use_sites f i _ = []

abbrev pub operand_sites : Flowed → Instr → List Site
operand_sites f i = sites_of_parts f.recs f.at.asm f.owner (instruction_parts f.recs f.at.asm f.setting.rec (token_of METHOD_DEF (suc f.at.row)) i)

abbrev pub instruction_sites : Flowed → Instr → List Site
instruction_sites f i = use_sites f i i.form ++ operand_sites f i

unfoldable pub code_sites : Flowed → List Site
code_sites f = flat_map (instruction_sites f) f.setting.body.code

-- ---- signatures and locals

abbrev pub local_parts_of : List AsmRec → RowAt → AsmRec → Body → List Part
local_parts_of recs at rec b = locals_parts recs at.asm rec (token_of METHOD_DEF (suc at.row)) b.locals

abbrev pub head_parts_of : List AsmRec → RowAt → AsmRec → MethodDefRow → List Part
head_parts_of recs at rec m =
    method_sig_parts recs at.asm rec (token_of METHOD_DEF (suc at.row)) m.signature ++ flat_map (local_parts_of recs at rec) (body_of m)

-- the parts of a method's signature, then of its locals
unfoldable pub head_parts : List AsmRec → RowAt → List Part
head_parts recs at = flat_map (λ (rec : AsmRec). flat_map (head_parts_of recs at rec) (listed (slice_get rec.method_def at.row))) (listed (slice_get recs at.asm))

abbrev pub head_sites : List AsmRec → Option TypeId → RowAt → List Site
head_sites recs owner at = sites_of_parts recs at.asm owner (head_parts recs at)

-- all sites of a method whose values have a flow
unfoldable pub sites_of_body : Flowed → List Site
sites_of_body f = head_sites f.recs f.owner f.at ++ code_sites f
