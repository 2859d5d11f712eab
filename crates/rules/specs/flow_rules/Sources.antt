-- Sources: what is known of where a value comes from, and how a call turns one into another.
use Rattle.std.specs.Prelude.{ℕ, suc, List, length, codes, find, Option, Some, None, ◌==◌, ◌&&◌, Bool, true, false}
use Rattle.std.specs.List.{list_any}
use Rattle.il_base.specs.declared.ids.TypeId.{TypeId}
use Rattle.il_base.specs.declared.ids.MethodId.{MethodId}
use Rattle.il_base.specs.declared.world_model.expr.TypeExpr.{TypeExpr, fold-TypeExpr}
use Rattle.il_base.specs.declared.world_model.expr.TypeExpr.TheOpen.{TypeExpr-F}
use Rattle.il_base.specs.declared.world_model.types.TypeDefRow.{TypeDefRow}
use Rattle.il_base.specs.declared.world_model.members.MethodDefRow.{MethodDefRow}
use Rattle.il_base.specs.declared.world_model.record.UserText.{UserText}
use Rattle.il_base.specs.declared.world_model.record.AsmRec.{AsmRec}
use Rattle.il_base.specs.world_model.Core.{same_name}
use Rattle.il_base.specs.world_model.Worlds.{prim_type}
use Rattle.attr_blobs.specs.declared.name.NameRead.{NameRead}
use Rattle.attr_blobs.specs.declared.name.NameRead.TheVariants as read
use Rattle.attr_blobs.specs.TypeNames.{name_of_units}
use Rattle.rules.specs.declared.link_rules.row_at.RowAt.{RowAt}
use Rattle.rules.specs.link_rules.Members.{array_type}
use Rattle.rules.specs.link_rules.Cycles.{listed}
use Rattle.rules.specs.type_rules.Slots.{method_home, method_row_at, type_of_method}
use Rattle.rules.specs.type_rules.Searches.{find_type}
use Rattle.rules.specs.type_rules.Rows.{type_row_at}
use Rattle.rules.specs.declared.flow_rules.moves.Turning.{Turning}
use Rattle.rules.specs.declared.flow_rules.moves.Turning.TheVariants as turning
use Rattle.rules.specs.declared.flow_rules.source.Source.{Source}
use Rattle.rules.specs.declared.flow_rules.source.Source.TheVariants as source

-- ---- equality

abbrev pub same_source : Source → Source → Bool
same_source (source.KnownType t) (source.KnownType u) = t.0 == u.0
same_source (source.KnownHandle t) (source.KnownHandle u) = t.0 == u.0
same_source (source.KnownText a) (source.KnownText b) = same_name a b
same_source source.Null source.Null = true
same_source (source.Parameter n) (source.Parameter m) = n == m
same_source (source.Return m) (source.Return n) = m.0 == n.0
same_source (source.Field f) (source.Field g) = f.0 == g.0
same_source (source.TypeParam t n) (source.TypeParam u m) = t.0 == u.0 && n == m
same_source (source.MethodParam n) (source.MethodParam m) = n == m
same_source source.Opaque source.Opaque = true
same_source _ _ = false

-- ---- texts

abbrev pub is_token_of : ℕ → UserText → Bool
is_token_of token t = t.token == token

-- the text that `ldstr` names (III.4.16)
abbrev pub text_at : AsmRec → ℕ → Option UserText
text_at rec token = find (is_token_of token) rec.user

abbrev pub type_by : List AsmRec → ℕ → NameRead → Option TypeId
type_by recs from (read.Name n) = find_type recs from n
type_by recs from read.Other = None
type_by recs from read.Malformed = None

-- the type that a name of the code finds from an assembly
abbrev pub type_of_text : List AsmRec → ℕ → List ℕ → Option TypeId
type_of_text recs from text = type_by recs from (name_of_units text)

-- ---- handles (III.4.17)

abbrev pub known_handle : Option TypeId → Source
known_handle None = source.Opaque
known_handle (Some t) = source.KnownHandle t

abbrev pub own_parameter : Option TypeId → ℕ → Source
own_parameter None n = source.Opaque
own_parameter (Some t) n = source.TypeParam t n

abbrev pub handle_layer : List AsmRec → Option TypeId → TypeExpr-F Source → Source
handle_layer recs owner (TypeExpr-F.Prim n) = known_handle (prim_type recs n)
handle_layer recs owner (TypeExpr-F.Def t) = source.KnownHandle t
handle_layer recs owner (TypeExpr-F.Inst t args) = source.KnownHandle t
handle_layer recs owner (TypeExpr-F.Array x) = known_handle (array_type recs)
handle_layer recs owner (TypeExpr-F.ByRef x) = source.Opaque
handle_layer recs owner (TypeExpr-F.Var n) = own_parameter owner n
handle_layer recs owner (TypeExpr-F.MVar n) = source.MethodParam n
handle_layer recs owner (TypeExpr-F.Mod required by x) = x

-- The handle of a type in a method of the type `owner`: an array counts as System.Array, an instance as its definition, a reference
-- isn't known; modifiers are left aside.
unfoldable pub handle_of : List AsmRec → Option TypeId → TypeExpr → Source
handle_of recs owner = fold-TypeExpr Source (handle_layer recs owner)

-- ---- the calls that turn a source

abbrev pub is_called : List AsmRec → List ℕ → RowAt → Bool
is_called recs name at = list_any (λ (m : MethodDefRow). same_name m.name name) (listed (method_row_at recs at))

abbrev pub is_system_type : TypeDefRow → Bool
is_system_type t = same_name t.namespace (codes "System") && same_name t.name (codes "Type")

abbrev pub is_core_type : List AsmRec → RowAt → Bool
is_core_type recs t = suc t.asm == length recs && list_any is_system_type (listed (type_row_at recs t))

abbrev pub is_of_type : List AsmRec → RowAt → Bool
is_of_type recs at = list_any (is_core_type recs) (listed (type_of_method recs at))

-- a member of System.Type of the core library, by its name
abbrev pub is_type_member : List AsmRec → MethodId → List ℕ → Bool
is_type_member recs m name = list_any (λ (at : RowAt). is_called recs name at && is_of_type recs at) (listed (method_home recs m))

abbrev pub from_handle : Source → Source
from_handle (source.KnownHandle t) = source.KnownType t
from_handle (source.TypeParam t n) = source.TypeParam t n
from_handle (source.MethodParam n) = source.MethodParam n
from_handle _ = source.Opaque

abbrev pub known_or_null : Option TypeId → Source
known_or_null None = source.Null
known_or_null (Some t) = source.KnownType t

abbrev pub from_text : List AsmRec → ℕ → Source → Source
from_text recs from (source.KnownText text) = known_or_null (type_of_text recs from text)
from_text recs from (source.Parameter n) = source.Parameter n
from_text recs from (source.Return m) = source.Return m
from_text recs from (source.Field f) = source.Field f
from_text recs from _ = source.Opaque

-- `Type.GetTypeFromHandle`, and `Type.GetType` of a name, called in an assembly
abbrev pub turn : List AsmRec → ℕ → Turning → Source → Source
turn recs from turning.FromHandle s = from_handle s
turn recs from turning.FromText s = from_text recs from s
