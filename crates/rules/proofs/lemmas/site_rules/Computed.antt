-- The examples, computed.
use Rattle.std.proofs.Common.{◌≡◌, List, [], ◌∷◌, ◌++◌, Option, Some, refl, ap, ◌∙◌}
use Rattle.il_base.specs.declared.ids.TypeId.{TypeId}
use Rattle.il_base.specs.declared.ids.Place.{Place}
use Rattle.il_base.specs.declared.world_model.expr.TypeExpr.{TypeExpr}
use Rattle.il_base.specs.declared.world_model.expr.TypeExpr.TheVariants as expr
use Rattle.il_base.specs.declared.world_model.record.AsmRec.{AsmRec}
use Rattle.rules.specs.declared.flow_rules.source.Source.TheVariants as source
use Rattle.rules.specs.declared.site_rules.target.Target.TheVariants as target
use Rattle.rules.specs.declared.site_rules.site.Site.{Site}
use Rattle.rules.specs.site_rules.Kinds.{type_kinds}
use Rattle.rules.specs.site_rules.Values.{place_at}
use Rattle.rules.specs.site_rules.Arguments.{Argument, argument, sites_from}
use Rattle.rules.specs.site_rules.Sample.{sample, c, g}
use Rattle.rules.proofs.lemmas.site_rules.Opened.{opened}
use Rattle.rules.proofs.lemmas.site_rules.Layers.{argument_def, argument_inst, argument_array, argument_var}
use Rattle.rules.specs.site_rules.Examples as example

pub knows_names : example.KnowsNames
unfolding opened
knows_names = refl

pub knows_no_name : example.KnowsNoName
unfolding opened
knows_no_name = refl

pub has_no_names : example.HasNoNames
unfolding opened
has_no_names = refl

pub fails_methods : example.FailsMethods
unfolding opened
fails_methods = (refl, refl, refl, refl, refl, refl)

pub fails_name : example.FailsName
unfolding opened
fails_name = (refl, refl, refl, refl, refl, refl)

here : Place
here = place_at 0 0x04000001 0

-- a type with one argument
with_one : List AsmRec → Place → TypeId → Argument → Argument
with_one recs place t a = record { known = source.KnownType t; sites = sites_from place (λ k. target.TypeArg t k) (type_kinds recs t) 0 (a ∷ []) }

one_argument : (recs : List AsmRec) (owner : Option TypeId) (place : Place) (t : TypeId) (e : TypeExpr) (a : Argument)
    → argument recs owner place e ≡ a → argument recs owner place (expr.Inst t (e ∷ [])) ≡ with_one recs place t a
unfolding with_one
one_argument recs owner place t e a h = argument_inst recs owner place t (e ∷ []) ∙ ap (with_one recs place t) h

all_of : Argument → List Site
all_of a = a.sites ++ []

pub asks_inside : example.AsksInside
unfolding opened here with_one all_of
asks_inside =
    ap all_of (one_argument sample (Some c) here g (expr.Inst g (expr.Def c ∷ [])) _ (one_argument sample (Some c) here g (expr.Def c) _ (argument_def sample (Some c) here c)))

pub asks_of_parameter : example.AsksOfParameter
unfolding opened here with_one all_of
asks_of_parameter = ap all_of (one_argument sample (Some g) here g (expr.Var 0) _ (argument_var sample (Some g) here 0))

pub asks_nothing : example.AsksNothing
unfolding opened here all_of
asks_nothing = ap all_of (argument_array sample (Some c) here (expr.Def c)) ∙ ap all_of (argument_def sample (Some c) here c)

pub searches : example.Searches
unfolding opened
searches = refl

pub searches_unreached : example.SearchesUnreached
unfolding opened
searches_unreached = refl

pub searches_nothing : example.SearchesNothing
unfolding opened
searches_nothing = refl

pub looks_for_name : example.LooksForName
unfolding opened
looks_for_name = refl
