-- Generic arguments for annotated parameters, in what the parts of an item name: each argument of each constructed type, also of those
-- inside arguments, and the arguments of a method.
use Rattle.std.specs.Prelude.{ℕ, ◌+◌, List, [], ◌∷◌, ◌++◌, map, Option, Some, None}
use Rattle.std.specs.List.{flat_map}
use Rattle.il_base.specs.declared.ids.TypeId.{TypeId}
use Rattle.il_base.specs.declared.ids.Place.{Place}
use Rattle.il_base.specs.declared.world_model.known.Known.{Known}
use Rattle.il_base.specs.declared.world_model.known.Known.TheVariants.{Good, Bad}
use Rattle.il_base.specs.declared.world_model.expr.TypeExpr.{TypeExpr, fold-TypeExpr}
use Rattle.il_base.specs.declared.world_model.expr.TypeExpr.TheOpen.{TypeExpr-F}
use Rattle.il_base.specs.declared.world_model.expr.MethodUse.{MethodUse}
use Rattle.il_base.specs.declared.world_model.record.AsmRec.{AsmRec}
use Rattle.il_base.specs.world_model.Worlds.{prim_type}
use Rattle.rules.specs.link_rules.Members.{array_type}
use Rattle.rules.specs.mark_rules.Naming.{Named, Part}
use Rattle.rules.specs.declared.flow_rules.source.Source.{Source}
use Rattle.rules.specs.declared.flow_rules.source.Source.TheVariants as source
use Rattle.rules.specs.flow_rules.Sources.{own_parameter}
use Rattle.rules.specs.declared.site_rules.target.Target.{Target}
use Rattle.rules.specs.declared.site_rules.target.Target.TheVariants as target
use Rattle.rules.specs.declared.site_rules.site.Site.{Site}
use Rattle.rules.specs.site_rules.Kinds.{type_kinds, method_kinds}
use Rattle.rules.specs.site_rules.Values.{place_at, asking}

-- a type as an argument: the source that it is, and the sites of the arguments in it
pub record Argument : Type 0 where
  pub known : Source
  pub sites : List Site

-- the sites of arguments for parameters from k on, for which these targets ask for these kinds
abbrev pub sites_from : Place → (ℕ → Target) → (ℕ → ℕ) → ℕ → List Argument → List Site
sites_from place to kinds k [] = []
sites_from place to kinds k (a ∷ rest) = (asking place (to k) (kinds k) (a.known ∷ []) ++ a.sites) ++ sites_from place to kinds (k + 1) rest

abbrev pub known_type : Option TypeId → Source
known_type None = source.Opaque
known_type (Some t) = source.KnownType t

abbrev pub argument_layer : List AsmRec → Option TypeId → Place → TypeExpr-F Argument → Argument
argument_layer recs owner place (TypeExpr-F.Prim n) = record { known = known_type (prim_type recs n); sites = [] }
argument_layer recs owner place (TypeExpr-F.Def t) = record { known = source.KnownType t; sites = [] }
argument_layer recs owner place (TypeExpr-F.Inst t args) =
    record { known = source.KnownType t; sites = sites_from place (λ k. target.TypeArg t k) (type_kinds recs t) 0 args }
argument_layer recs owner place (TypeExpr-F.Array x) = record { known = known_type (array_type recs); sites = x.sites }
argument_layer recs owner place (TypeExpr-F.ByRef x) = record { known = source.Opaque; sites = x.sites }
argument_layer recs owner place (TypeExpr-F.Var n) = record { known = own_parameter owner n; sites = [] }
argument_layer recs owner place (TypeExpr-F.MVar n) = record { known = source.MethodParam n; sites = [] }
argument_layer recs owner place (TypeExpr-F.Mod required by x) = x

-- A type in the type `owner`: its definition, an array as System.Array, or the parameter. Modifiers are left aside.
unfoldable pub argument : List AsmRec → Option TypeId → Place → TypeExpr → Argument
argument recs owner place = fold-TypeExpr Argument (argument_layer recs owner place)

unfoldable pub type_argument_sites : List AsmRec → Option TypeId → Place → TypeExpr → List Site
type_argument_sites recs owner place e = (argument recs owner place e).sites

-- ---- what a part names

abbrev pub of_method : List AsmRec → Option TypeId → Place → MethodUse → List Site
of_method recs owner place u =
    type_argument_sites recs owner place u.owner ++ sites_from place (λ k. target.MethodArg u.method k) (method_kinds recs u.method) 0 (map (argument recs owner place) u.args)

abbrev pub of_named : List AsmRec → Option TypeId → Place → Named → List Site
of_named recs owner place (Named.type e) = type_argument_sites recs owner place e
of_named recs owner place (Named.method u) = of_method recs owner place u
of_named recs owner place (Named.field u) = type_argument_sites recs owner place u.owner

abbrev pub of_known : List AsmRec → Option TypeId → Place → Known Named → List Site
of_known recs owner place (Good n) = of_named recs owner place n
of_known recs owner place (Bad why) = []

-- the sites of a part of an item of an assembly, in the type `owner`
abbrev pub part_sites : List AsmRec → ℕ → Option TypeId → Part → List Site
part_sites recs asm owner p = of_known recs owner (place_at asm p.token p.at) p.named

unfoldable pub sites_of_parts : List AsmRec → ℕ → Option TypeId → List Part → List Site
sites_of_parts recs asm owner parts = flat_map (part_sites recs asm owner) parts
