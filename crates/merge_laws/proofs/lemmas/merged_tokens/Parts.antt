-- What a part of a kept item names is marked, and it names something.
use Rattle.std.proofs.Common.{◌≡◌, ◌<◌, ℕ, suc, List, [], ◌∷◌, ◌++◌, length, Bool, true, false, Option, Some, None, refl, sym, ap, subst, ◌∙◌, arith}
use Rattle.std.specs.Prelude.{slice_get, ◌==◌, ◌||◌}
use Rattle.std.specs.List.{Contains, flat_map, list_any}
use Rattle.std.proofs.lemmas.Bool.{ne_eqb}
use Rattle.std.proofs.lemmas.List.Elements.{Contains-append_left, Contains-append_right}
use Rattle.il_base.specs.declared.ids.TypeId.{TypeId}
use Rattle.il_base.specs.declared.ids.Item.{Item}
use Rattle.il_base.specs.declared.ids.Item.TheVariants as item
use Rattle.descriptor_file.specs.declared.root.Root.{Root}
use Rattle.il_base.specs.declared.world_model.known.Known.{Known}
use Rattle.il_base.specs.declared.world_model.known.Known.TheVariants.{Good, Bad}
use Rattle.il_base.specs.declared.world_model.expr.TypeExpr.{TypeExpr, fold-TypeExpr, fold-roll-TypeExpr}
use Rattle.il_base.specs.declared.world_model.expr.TypeExpr.TheOpen.{TypeExpr-F}
use Rattle.il_base.specs.declared.world_model.expr.TypeExpr.TheVariants as expr
use Rattle.il_base.specs.declared.world_model.record.AsmRec.{AsmRec}
use Rattle.il_base.specs.declared.world_model.expr.MethodUse.{MethodUse}
use Rattle.il_base.specs.declared.world_model.known.BadKind.{BadKind}
use Rattle.il_base.specs.world_model.Worlds.{known_map}
use Rattle.rules.specs.declared.link_rules.row_at.RowAt.{RowAt}
use Rattle.rules.specs.link_rules.Cycles.{listed}
use Rattle.rules.specs.link_rules.Signatures.{token_type}
use Rattle.rules.specs.type_rules.Rows.{rec_at}
use Rattle.base_laws.proofs.lemmas.known_laws.Lists.{none_in, first_in, to_flat, to_option}
use Rattle.rules.specs.mark_rules.Facts.{Fact, by_one}
use Rattle.rules.specs.mark_rules.Facts.Fact.{marked}
use Rattle.rules.specs.mark_rules.Places.{row_of, is_core}
use Rattle.rules.specs.mark_rules.Naming.{Part, bad_part, types_layer, types_in, mark_types, of_expr, of_exprs, of_named, of_known, of_parts, type_token_part, method_named, method_token_part}
use Rattle.rules.specs.mark_rules.Naming.Named.{type, method}
use Rattle.rules.specs.mark_rules.Types.{encloser_of, parts_of_type, type_needs, layout_needs, parts_of_field, field_needs, impl_needs}
use Rattle.rules.specs.mark_rules.Calls.{owner_facts, parts_of_method, method_needs, makes, overrides_of, method_starts, field_starts}
use Rattle.rules.specs.mark_rules.Properties.{property_owner, event_owner, parts_of_property, parts_of_event, owned, property_needs, event_needs, accessed}
use Rattle.rules.specs.mark_rules.Attributes.{attribute_needs}
use Rattle.rules.specs.mark_rules.Dependencies.{dependency_needs}
use Rattle.rules.specs.mark_rules.Shown.{parts_of_item, item_shows}
use Rattle.rules.specs.mark_rules.FlowMarks.{flow_marks}
use Rattle.rules.specs.mark_rules.Roots.{waiting_facts}
use Rattle.rules.specs.mark_rules.Marking.{row_needs, one, marking, Marks}
use Rattle.rules.specs.mark_rules.BadItems.{Flaw, flaw, part_flaw, part_flaws, own_flaws, attribute_flaws, flaws_of, of_item, IsFirstFlaw}
use Rattle.rules.specs.merge_rules.Numbers.{Kept}
use Rattle.merge_laws.specs.merged_owners.Laws.{AreMarked}

fold_def : (A : Type 0) (f : TypeExpr-F A → A) (t : TypeId) → fold-TypeExpr A f (expr.Def t) ≡ f (TypeExpr-F.Def t)
fold_def A f t = ap (fold-TypeExpr A f) (sym (expr.rolls-Def t)) ∙ fold-roll-TypeExpr A f (TypeExpr-F.Def t)

types_of_def : (t : TypeId) → types_in (expr.Def t) ≡ t ∷ []
unfolding types_in
types_of_def t = fold_def (List TypeId) types_layer t

module _ (recs : List AsmRec) where
  -- ---- what the parts of a row mark is needed

  parts_needed : (i : Item) (at : RowAt) (f : Fact) → Contains (of_parts (parts_of_item recs i at)) f → Contains (row_needs recs i at) f
  unfolding type_needs field_needs impl_needs method_needs property_needs event_needs
  parts_needed (item.Asm a) at f c = absurd (none_in f c)
  parts_needed (item.Typ t) at f c =
      Contains-append_left (flat_map (encloser_of recs at) (listed (rec_at recs at)) ++ of_parts (parts_of_type recs at)) (layout_needs recs at) f
      (Contains-append_right (flat_map (encloser_of recs at) (listed (rec_at recs at))) (of_parts (parts_of_type recs at)) f c)
  parts_needed (item.Method m) at f c =
      Contains-append_left _ (accessed recs at) f
      (Contains-append_left _ (method_starts recs at) f
      (Contains-append_left _ (overrides_of recs at) f
      (Contains-append_left (owner_facts recs at ++ of_parts (parts_of_method recs at)) (makes recs at) f (Contains-append_right (owner_facts recs at) (of_parts (parts_of_method recs at)) f c))))
  parts_needed (item.Field x) at f c = Contains-append_left _ (field_starts recs at) f (Contains-append_right _ (of_parts (parts_of_field recs at)) f c)
  parts_needed (item.Prop p) at f c = Contains-append_right (owned recs property_owner at) (of_parts (parts_of_property recs at)) f c
  parts_needed (item.Event e) at f c = Contains-append_right (owned recs event_owner at) (of_parts (parts_of_event recs at)) f c
  parts_needed (item.Impl i) at f c = c

  module _ (entry : Option RowAt) (roots : List Root) (kept : Kept) (marks : AreMarked recs entry roots kept) (good : IsFirstFlaw recs entry (Marks recs entry roots) None) (i : Item) (at : RowAt) (rec : AsmRec)
      (home : row_of recs i ≡ Some at) (keeps : kept i ≡ true) (there : slice_get recs at.asm ≡ Some rec) (input : suc at.asm < length recs) where
    needed : (f : Fact) → Contains (of_parts (parts_of_item recs i at)) f → Marks recs entry roots f
    unfolding marking one
    needed f c =
        by_one (marked i) f (marks i keeps)
        (Contains-append_left _ (flow_marks recs i) f
        (Contains-append_left _ (item_shows recs i) f
        (Contains-append_left _ (waiting_facts recs roots i) f
        (Contains-append_left _ (dependency_needs recs i) f
        (Contains-append_left (flat_map (row_needs recs i) (listed (row_of recs i))) (attribute_needs recs i) f (to_option (row_needs recs i) (row_of recs i) at f home (parts_needed i at f c)))))))

    not_core : is_core recs i ≡ false
    unfolding is_core
    not_core =
        ap (λ (x : Option RowAt). list_any (λ (r : RowAt). suc r.asm == length recs) (listed x)) home
        ∙ ap (λ (b : Bool). b || false) (ne_eqb (suc at.asm) (length recs) (λ e. omega (arith, input, e)))

    no_flaw : (f : Flaw) → Contains (part_flaws recs i at) f → ⊥
    unfolding flaws_of
    no_flaw f c =
        good f
        (of_item i f (marks i keeps) not_core
        (to_option (λ (x : RowAt). flat_map (λ (r : AsmRec). part_flaws recs i x ++ own_flaws recs i x r ++ attribute_flaws recs i x r) (listed (rec_at recs x))) (row_of recs i) at f home
        (to_option (λ (r : AsmRec). part_flaws recs i at ++ own_flaws recs i at r ++ attribute_flaws recs i at r) (rec_at recs at) rec f there
        (Contains-append_left (part_flaws recs i at ++ own_flaws recs i at rec) (attribute_flaws recs i at rec) f (Contains-append_left (part_flaws recs i at) (own_flaws recs i at rec) f c)))))

    abbrev part_with : ℕ → ℕ → Known TypeExpr → Part
    part_with place offset x = record { token = place; at = offset; named = known_map type x }

    named_by : (place offset : ℕ) (x : Known TypeExpr) → Contains (parts_of_item recs i at) (part_with place offset x) → (e : TypeExpr) × (x ≡ Good e)
    named_by place offset (Good e) c = (e, refl)
    named_by place offset (Bad why) c =
        absurd
        (no_flaw (flaw at place offset why)
        (to_flat (part_flaw at) (parts_of_item recs i at) (flaw at place offset why) (record { item = part_with place offset (Bad why); there = c; inside = first_in (flaw at place offset why) [] })))

    module _ (place offset token : ℕ) (part : Contains (parts_of_item recs i at) (type_token_part recs at.asm rec place offset token)) where
      pub names_type : (e : TypeExpr) × (token_type recs at.asm rec token ≡ Good e)
      names_type = named_by place offset (token_type recs at.asm rec token) part

      pub type_marked : (t : TypeId) → token_type recs at.asm rec token ≡ Good (expr.Def t) → Marks recs entry roots (marked (item.Typ t))
      type_marked t e =
          needed (marked (item.Typ t))
          (to_flat (λ (p : Part). of_known of_named p.named) (parts_of_item recs i at) (marked (item.Typ t))
          (record {
            item = type_token_part recs at.asm rec place offset token;
            there = part;
            inside =
                subst (λ (x : Known TypeExpr). Contains (of_known of_named (known_map type x)) (marked (item.Typ t))) (sym e)
                (subst (λ (ts : List TypeId). Contains (mark_types ts) (marked (item.Typ t))) (sym (types_of_def t)) (first_in (marked (item.Typ t)) []));
          }))

    -- no part is bad
    pub no_bad : (place : ℕ) (why : BadKind) → Contains (parts_of_item recs i at) (bad_part place why) → ⊥
    no_bad place why c =
        no_flaw (flaw at place 0 why)
        (to_flat (part_flaw at) (parts_of_item recs i at) (flaw at place 0 why) (record { item = bad_part place why; there = c; inside = first_in (flaw at place 0 why) [] }))

    abbrev use_with : ℕ → ℕ → Known MethodUse → Part
    use_with place offset x = record { token = place; at = offset; named = known_map method x }

    method_by : (place offset : ℕ) (x : Known MethodUse) → Contains (parts_of_item recs i at) (use_with place offset x) → (u : MethodUse) × (x ≡ Good u) × Marks recs entry roots (marked (item.Method u.method))
    method_by place offset (Good u) c = (
      u,
      refl,
      needed (marked (item.Method u.method))
          (to_flat (λ (p : Part). of_known of_named p.named) (parts_of_item recs i at) (marked (item.Method u.method))
          (record { item = use_with place offset (Good u); there = c; inside = first_in (marked (item.Method u.method)) (of_expr u.owner ++ of_exprs u.args) })),
    )
    method_by place offset (Bad why) c =
        absurd
        (no_flaw (flaw at place offset why)
        (to_flat (part_flaw at) (parts_of_item recs i at) (flaw at place offset why) (record { item = use_with place offset (Bad why); there = c; inside = first_in (flaw at place offset why) [] })))

    -- a method that a part names is marked
    pub names_method : (place offset token : ℕ) → Contains (parts_of_item recs i at) (method_token_part recs at.asm rec place offset token)
        → (u : MethodUse) × (method_named recs at.asm rec token ≡ Good u) × Marks recs entry roots (marked (item.Method u.method))
    names_method place offset token c = method_by place offset (method_named recs at.asm rec token) c
