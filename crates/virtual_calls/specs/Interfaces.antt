-- What a type has for a slot of an interface instance, as the code looks for it.
use Rattle.std.specs.Prelude.{ℕ, List, Option, Some, None}
use Rattle.il_base.specs.declared.world_model.expr.TypeExpr.{TypeExpr}
use Rattle.il_base.specs.declared.world_model.record.AsmRec.{AsmRec}
use Rattle.rules.specs.declared.link_rules.row_at.RowAt.{RowAt}
use Rattle.rules.specs.link_rules.Types.{or_else}
use Rattle.rules.specs.link_rules.Members.{args_of}
use Rattle.rules.specs.declared.link_rules.member_type.MethodType.{MethodType}
use Rattle.type_tables.specs.declared.member_search.members.Wanted.{Wanted}
use Rattle.type_tables.specs.declared.member_search.members.Wanted.TheVariants.{Method}
use Rattle.type_tables.specs.declared.member_search.members.Among.TheVariants.{PublicVirtual}
use Rattle.type_tables.specs.member_search.Wanted.{look_for}
use Rattle.rules.specs.type_rules.Dispatch as dispatch
use Rattle.rules.specs.type_rules.Dispatch.{impl_in, declares_in}
use Rattle.virtual_calls.specs.declared.interface_slots.Choice.{Choice}

abbrev pub told : Choice → dispatch.Choice
told c = record { of = c.of; instance = c.instance }

abbrev pub public_method : MethodType → Wanted
public_method wanted = Method PublicVirtual wanted

abbrev pub look_for_any : List AsmRec → List ℕ → Option Wanted → TypeExpr → Option RowAt
look_for_any recs name None e = None
look_for_any recs name (Some wanted) e = look_for recs name wanted e

-- `interface_method_in`, with what is looked for as the search of members has it
abbrev pub interface_look : List AsmRec → RowAt → TypeExpr → List ℕ → Option Wanted → TypeExpr → Option RowAt
interface_look recs slot instance name wanted e =
    or_else (impl_in recs (declares_in recs slot instance (args_of e)) e) (look_for_any recs name wanted e)
