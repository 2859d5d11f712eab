-- A virtual method by name and signature is what the search of members looks for.
use Rattle.std.proofs.Common.{◌≡◌, ℕ, List, Option, Some, None, refl, ap}
use Rattle.std.specs.Option.{option_map}
use Rattle.il_base.specs.declared.world_model.expr.TypeExpr.{TypeExpr}
use Rattle.il_base.specs.declared.world_model.record.AsmRec.{AsmRec}
use Rattle.rules.specs.declared.link_rules.row_at.RowAt.{RowAt}
use Rattle.rules.specs.link_rules.Types.{or_else}
use Rattle.rules.specs.link_rules.Members.{args_of}
use Rattle.rules.specs.declared.link_rules.member_type.MethodType.{MethodType}
use Rattle.type_tables.specs.declared.member_search.members.Wanted.TheVariants.{Method}
use Rattle.type_tables.specs.declared.member_search.members.Among.TheVariants.{Virtual, PublicVirtual}
use Rattle.type_tables.specs.member_search.Wanted.{look_for, member_in}
use Rattle.rules.specs.type_rules.Slots.{is_virtual, match_in, nearest}
use Rattle.rules.specs.type_rules.Dispatch.{is_public_virtual, impl_in, declares_in, interface_method_in}
use Rattle.virtual_calls.specs.Interfaces.{interface_look, public_method}

virtual : (recs : List AsmRec) (name : List ℕ) (wanted : MethodType) (e : TypeExpr) → look_for recs name (Method Virtual wanted) e ≡ match_in recs is_virtual name wanted e
unfolding look_for member_in match_in
virtual recs name wanted e = refl

public_virtual : (recs : List AsmRec) (name : List ℕ) (wanted : MethodType) (e : TypeExpr) → look_for recs name (Method PublicVirtual wanted) e ≡ match_in recs is_public_virtual name wanted e
unfolding look_for member_in match_in
public_virtual recs name wanted e = refl

pub nearest_virtual : (recs : List AsmRec) (name : List ℕ) (wanted : MethodType) (es : List TypeExpr)
    → nearest (look_for recs name (Method Virtual wanted)) es ≡ nearest (match_in recs is_virtual name wanted) es
nearest_virtual recs name wanted es = ap (λ (look : TypeExpr → Option RowAt). nearest look es) (λ i e. virtual recs name wanted e i)

public_look : (recs : List AsmRec) (slot : RowAt) (instance : TypeExpr) (name : List ℕ) (wanted : Option MethodType) (e : TypeExpr)
    → interface_look recs slot instance name (option_map public_method wanted) e ≡ interface_method_in recs slot instance name wanted e
public_look recs slot instance name None e = refl
public_look recs slot instance name (Some wanted) e = ap (or_else (impl_in recs (declares_in recs slot instance (args_of e)) e)) (public_virtual recs name wanted e)

pub nearest_public : (recs : List AsmRec) (slot : RowAt) (instance : TypeExpr) (name : List ℕ) (wanted : Option MethodType) (es : List TypeExpr)
    → nearest (interface_look recs slot instance name (option_map public_method wanted)) es ≡ nearest (interface_method_in recs slot instance name wanted) es
nearest_public recs slot instance name wanted es =
    ap (λ (look : TypeExpr → Option RowAt). nearest look es) (λ i e. public_look recs slot instance name wanted e i)
