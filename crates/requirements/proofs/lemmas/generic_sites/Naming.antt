-- The sites of what the token of an instruction names go by what it can name.
use Rattle.std.proofs.Common.{◌≡◌, ℕ, ◌++◌, Bool, true, false, if◌then◌else◌, List, [], ◌∷◌, Option, refl, sym, ap, ◌∙◌}
use Rattle.std.specs.List.{list_any}
use Rattle.std.proofs.lemmas.List.{append-nil}
use Rattle.il_base.specs.declared.ids.TypeId.{TypeId}
use Rattle.il_base.specs.declared.body.Form.{Form}
use Rattle.il_base.specs.declared.world_model.known.Known.{Known}
use Rattle.il_base.specs.declared.world_model.known.Known.TheVariants.{Good, Bad}
use Rattle.il_base.specs.declared.world_model.known.BadKind.TheVariants.{Unresolved}
use Rattle.il_base.specs.declared.world_model.expr.TypeExpr.{TypeExpr}
use Rattle.il_base.specs.declared.world_model.expr.MethodUse.{MethodUse}
use Rattle.il_base.specs.declared.world_model.expr.FieldUse.{FieldUse}
use Rattle.il_base.specs.declared.world_model.record.AsmRec.{AsmRec}
use Rattle.il_base.specs.world_model.Worlds.{known_map}
use Rattle.rules.specs.link_rules.Signatures.{token_type}
use Rattle.rules.specs.mark_rules.Naming.{Part, method_named, field_named}
use Rattle.rules.specs.mark_rules.Naming.Named.{type, method, field}
use Rattle.rules.specs.mark_rules.Bodies.{is_field_token, is_method_token, is_text_of, token_parts}
use Rattle.mark_parts.specs.declared.forms.Names.{Names}
use Rattle.mark_parts.specs.declared.forms.Names.TheVariants as names
use Rattle.mark_parts.specs.Forms.{names_of, parts_by}
use Rattle.mark_parts.proofs.FormCases.{by_forms}
use Rattle.rules.specs.flow_rules.Counts.{good_one}
use Rattle.rules.specs.declared.site_rules.site.Site.{Site}
use Rattle.rules.specs.site_rules.Values.{place_at}
use Rattle.rules.specs.site_rules.Arguments.{sites_of_parts}
use Rattle.requirements.specs.declared.generic_sites.arguments.Within.{Within}
use Rattle.requirements.specs.generic_sites.Operands.{method_if, field_if, type_if, sites_by}

module _ (recs : List AsmRec) (a : ℕ) (owner : Option TypeId) (place offset : ℕ) where
  of_method : (k : Known MethodUse) → sites_of_parts recs a owner (record { token = place; at = offset; named = known_map method k } ∷ []) ≡ method_if recs owner (place_at a place offset) (good_one k)
  unfolding sites_of_parts
  of_method (Good u) = append-nil _
  of_method (Bad why) = refl

  of_field : (k : Known FieldUse) → sites_of_parts recs a owner (record { token = place; at = offset; named = known_map field k } ∷ []) ≡ field_if recs owner (place_at a place offset) (good_one k)
  unfolding sites_of_parts
  of_field (Good u) = append-nil _
  of_field (Bad why) = refl

  of_type : (k : Known TypeExpr) → sites_of_parts recs a owner (record { token = place; at = offset; named = known_map type k } ∷ []) ≡ type_if recs owner (place_at a place offset) (good_one k)
  unfolding sites_of_parts
  of_type (Good e) = append-nil _
  of_type (Bad why) = refl

  pick : (b : Bool) (x y : Part) (u v : List Site) → sites_of_parts recs a owner (x ∷ []) ≡ u → sites_of_parts recs a owner (y ∷ []) ≡ v
      → sites_of_parts recs a owner ((if b then x else y) ∷ []) ≡ (if b then u else v)
  pick true x y u v p q = p
  pick false x y u v p q = q

  no_text : (b : Bool) → sites_of_parts recs a owner (if b then [] else record { token = place; at = offset; named = Bad Unresolved } ∷ []) ≡ []
  unfolding sites_of_parts
  no_text true = refl
  no_text false = refl

  by_names : (rec : AsmRec) (token : ℕ) (n : Names) → sites_of_parts recs a owner (parts_by recs a rec place offset n token) ≡ sites_by recs a rec owner (place_at a place offset) n token
  unfolding parts_by sites_by
  by_names rec token names.Method = of_method (method_named recs a rec token)
  by_names rec token names.Field = of_field (field_named recs a rec token)
  by_names rec token names.Any =
      pick (is_field_token rec token) _ _ _ _ (of_field (field_named recs a rec token))
      (pick (is_method_token token) _ _ _ _ (of_method (method_named recs a rec token)) (of_type (token_type recs a rec token)))
  by_names rec token names.Text = no_text (list_any (is_text_of token) rec.user)
  by_names rec token names.Type = of_type (token_type recs a rec token)

pub form_sites : (recs : List AsmRec) (a : ℕ) (rec : AsmRec) (owner : Option TypeId) (place offset token : ℕ) (f : Form) (w : Within) (n : Names) (before after : List Site)
    → w ≡ record { owner = owner; place = place_at a place offset } → n ≡ names_of f
    → after ≡ before ++ sites_by recs a rec w.owner w.place n token
    → after ≡ before ++ sites_of_parts recs a owner (token_parts recs a rec place offset f token)
form_sites recs a rec owner place offset token f w n before after ew en e =
    e
    ∙ ap (λ (v : Within). before ++ sites_by recs a rec v.owner v.place n token) ew
    ∙ ap (λ (m : Names). before ++ sites_by recs a rec owner (place_at a place offset) m token) en
    ∙ ap (λ (xs : List Site). before ++ xs)
    (sym (by_names recs a owner place offset rec token (names_of f)) ∙ ap (sites_of_parts recs a owner) (by_forms recs a rec place offset token f))
