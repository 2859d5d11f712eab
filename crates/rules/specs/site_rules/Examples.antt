-- Examples, as statements.
use Rattle.std.specs.Prelude.{◌≡◌, List, [], ◌∷◌, codes, Bool, true, false, Some, None}
use Rattle.il_base.specs.declared.world_model.known.Known.TheVariants.{Good}
use Rattle.il_base.specs.declared.world_model.expr.TypeExpr.{TypeExpr}
use Rattle.il_base.specs.declared.world_model.expr.TypeExpr.TheVariants as expr
use Rattle.rules.specs.mark_rules.Naming.{Part, type}
use Rattle.rules.specs.declared.mark_rules.member_kinds.TheConstants as kind
use Rattle.rules.specs.declared.flow_rules.source.Source.{Source}
use Rattle.rules.specs.declared.flow_rules.source.Source.TheVariants as source
use Rattle.rules.specs.declared.site_rules.target.Target.TheVariants as target
use Rattle.rules.specs.declared.site_rules.site.Site.{Site}
use Rattle.rules.specs.site_rules.Fails.{fails}
use Rattle.rules.specs.site_rules.Values.{known_names, place_at, site}
use Rattle.rules.specs.site_rules.Arguments.{sites_of_parts}
use Rattle.rules.specs.site_rules.Bodies.{search_sites, name_sites}
use Rattle.rules.specs.site_rules.Sample.{sample, c, g, m, get_method, get_type, flowed, one_name, name_and_flag}

-- ---- names: a name may be null; one that isn't known gives none; no source at all gives the empty list

abbrev pub KnowsNames : Type 0
KnowsNames = known_names (source.Null ∷ source.KnownText (codes "Run") ∷ []) ≡ Some (codes "Run" ∷ [])

abbrev pub KnowsNoName : Type 0
KnowsNoName = known_names (source.KnownText (codes "Run") ∷ source.Opaque ∷ []) ≡ None

abbrev pub HasNoNames : Type 0
HasNoNames = known_names [] ≡ Some []

-- ---- failing, where public methods are asked for, and where a name is looked for

abbrev pub fails_methods : Source → Bool
fails_methods s = fails sample m s (target.This get_method) kind.PUBLIC_METHODS

abbrev pub fails_name : Source → Bool
fails_name s = fails sample m s (target.Name get_type) 0

abbrev pub FailsMethods : Type 0
FailsMethods =
    (fails_methods (source.KnownType c) ≡ false) × (fails_methods source.Null ≡ false) × (fails_methods source.Opaque ≡ true)
    × (fails_methods (source.KnownHandle c) ≡ true) × (fails_methods (source.KnownText (codes "C")) ≡ true) × (fails_methods (source.TypeParam g 0) ≡ true)

abbrev pub FailsName : Type 0
FailsName =
    (fails_name (source.KnownText (codes "C")) ≡ false) × (fails_name source.Null ≡ false) × (fails_name source.Opaque ≡ true)
    × (fails_name (source.KnownType c) ≡ false) × (fails_name (source.TypeParam g 0) ≡ false) × (fails_name (source.TypeParam c 0) ≡ true)

-- ---- generic arguments: G<G<C>> asks for the constructor of G and of C, G<T> in G for that of its own parameter, C[] for none

abbrev pub typed : TypeExpr → Part
typed e = record { token = 0x04000001; at = 0; named = Good (type e) }

abbrev pub asks_new : Source → Site
asks_new s = site (place_at 0 0x04000001 0) (target.TypeArg g 0) kind.PUBLIC_PARAMETERLESS_CONSTRUCTOR None (s ∷ [])

abbrev pub AsksInside : Type 0
AsksInside = sites_of_parts sample 0 (Some c) (typed (expr.Inst g (expr.Inst g (expr.Def c ∷ []) ∷ [])) ∷ []) ≡ asks_new (source.KnownType g) ∷ asks_new (source.KnownType c) ∷ []

abbrev pub AsksOfParameter : Type 0
AsksOfParameter = sites_of_parts sample 0 (Some g) (typed (expr.Inst g (expr.Var 0 ∷ [])) ∷ []) ≡ asks_new (source.TypeParam g 0) ∷ []

abbrev pub AsksNothing : Type 0
AsksNothing = sites_of_parts sample 0 (Some c) (typed (expr.Array (expr.Def c)) ∷ []) ≡ []

-- ---- a search of a parameter's type for a name that is null; where no walk comes there is nothing

abbrev pub searches : List Source → Site
searches sources = site (place_at 0 0x06000001 4) (target.This get_method) kind.PUBLIC_METHODS (Some []) sources

abbrev pub Searches : Type 0
Searches = search_sites (flowed (Some 2)) 4 get_method one_name ≡ searches (source.Parameter 0 ∷ []) ∷ []

abbrev pub SearchesUnreached : Type 0
SearchesUnreached = search_sites (flowed None) 4 get_method one_name ≡ searches [] ∷ []

abbrev pub SearchesNothing : Type 0
SearchesNothing = search_sites (flowed (Some 2)) 4 m one_name ≡ []

-- `Type.GetType` of the parameter, with a flag above it
abbrev pub LooksForName : Type 0
LooksForName = name_sites (flowed (Some 2)) 4 get_type name_and_flag ≡ site (place_at 0 0x06000001 4) (target.Name get_type) 0 None (source.Parameter 0 ∷ []) ∷ []
