-- What a part of a kept item names: it names something, and all that it names is needed.
use Rattle.std.proofs.Common.{◌≡◌, ◌<◌, ℕ, suc, List, [], ◌∷◌, ◌++◌, length, Bool, true, false, Option, Some, None, refl, sym, ap, subst, ◌∙◌, arith}
use Rattle.std.specs.Prelude.{slice_get, ◌==◌, ◌||◌}
use Rattle.std.specs.List.{Contains, flat_map, list_any}
use Rattle.std.proofs.lemmas.Bool.{ne_eqb}
use Rattle.std.proofs.lemmas.List.Elements.{Contains-append_left, Contains-append_right}
use Rattle.il_base.specs.declared.ids.Item.{Item}
use Rattle.il_base.specs.declared.ids.Item.TheVariants as item
use Rattle.il_base.specs.declared.sig.Sig.{Sig}
use Rattle.il_base.specs.declared.sig.MethodSig.{MethodSig}
use Rattle.descriptor_file.specs.declared.root.Root.{Root}
use Rattle.il_base.specs.declared.world_model.known.Known.{Known}
use Rattle.il_base.specs.declared.world_model.known.Known.TheVariants.{Good, Bad}
use Rattle.il_base.specs.declared.world_model.known.BadKind.{BadKind}
use Rattle.il_base.specs.declared.world_model.expr.TypeExpr.{TypeExpr}
use Rattle.il_base.specs.declared.world_model.expr.MethodUse.{MethodUse}
use Rattle.il_base.specs.declared.world_model.expr.FieldUse.{FieldUse}
use Rattle.il_base.specs.declared.world_model.record.AsmRec.{AsmRec}
use Rattle.il_base.specs.world_model.Worlds.{known_map, known_then, sig_expr}
use Rattle.rules.specs.declared.link_rules.row_at.RowAt.{RowAt}
use Rattle.rules.specs.link_rules.Cycles.{listed}
use Rattle.rules.specs.link_rules.Signatures.{names_at, token_type, method_type}
use Rattle.rules.specs.link_rules.Members.{arguments_of}
use Rattle.rules.specs.type_rules.Rows.{rec_at}
use Rattle.base_laws.proofs.lemmas.known_laws.Lists.{none_in, first_in, to_flat, to_map, to_option}
use Rattle.rules.specs.mark_rules.Facts.{Fact, by_one}
use Rattle.rules.specs.mark_rules.Facts.Fact.{marked}
use Rattle.rules.specs.mark_rules.Places.{row_of, is_core}
use Rattle.rules.specs.mark_rules.Naming.{Named, Part, bad_part, good_part, type_parts, of_method_use, of_field_use, of_named, of_known, of_parts, parts_of, sig_parts, sigs_parts, method_type_parts, method_sig_parts, type_token_part, method_named, field_named, method_token_part, field_token_part}
use Rattle.rules.specs.mark_rules.Naming.Named.{type, method, field}
use Rattle.rules.specs.mark_rules.Types.{encloser_of, parts_of_type, type_needs, layout_needs, parts_of_field, field_needs, impl_needs}
use Rattle.rules.specs.mark_rules.Calls.{owner_facts, parts_of_method, method_needs, makes, overrides_of, method_starts, field_starts}
use Rattle.rules.specs.mark_rules.Properties.{property_owner, event_owner, parts_of_property, parts_of_event, owned, property_needs, event_needs, accessed}
use Rattle.rules.specs.mark_rules.Attributes.{attribute_needs}
use Rattle.rules.specs.mark_rules.Dependencies.{dependency_needs}
use Rattle.rules.specs.mark_rules.Shown.{parts_of_item, item_shows}
use Rattle.rules.specs.mark_rules.FlowMarks.{flow_marks}
use Rattle.rules.specs.mark_rules.Roots.{waiting_facts}
use Rattle.rules.specs.mark_rules.Marking.{row_needs, one, marking, Marks}
use Rattle.rules.specs.mark_rules.BadItems.{Flaw, flaw, part_flaw, part_flaws, own_flaws, attribute_flaws, flaws_of, of_item, IsFirstFlaw}
use Rattle.rules.specs.merge_rules.Numbers.{Kept}
use Rattle.rules.specs.merge_rules.Keys.{world_sig, world_sigs, world_method_sig}
use Rattle.rules.specs.merge_rules.Refs.{types_of_sig, types_of_sigs, types_of_method_sig}
use Rattle.merge_laws.specs.merged_owners.Laws.{AreMarked, AreKept}
use Rattle.merge_laws.proofs.lemmas.merged_owners.Every.{Every}
use Rattle.merge_laws.proofs.lemmas.merged_signatures.Reading.{good_map}
use Rattle.trim_laws.proofs.lemmas.marked_mets.Stays.{StayAll, Stay, Needed, expr_stays}
use Rattle.trim_laws.proofs.lemmas.marked_mets.Signatures.{sig_stays, sigs_stay, method_stays}

module _ (recs : List AsmRec) (kept : Kept) (entry : Option RowAt) (roots : List Root) where
  -- ---- what the row of a marked item needs is marked

  pub row_needed : (i : Item) (at : RowAt) → row_of recs i ≡ Some at → Marks recs entry roots (marked i) → (f : Fact) → Contains (row_needs recs i at) f → Marks recs entry roots f
  unfolding marking one
  row_needed i at home m f c =
      by_one (marked i) f m
      (Contains-append_left _ (flow_marks recs i) f
      (Contains-append_left _ (item_shows recs i) f
      (Contains-append_left _ (waiting_facts recs roots i) f
      (Contains-append_left _ (dependency_needs recs i) f
      (Contains-append_left (flat_map (row_needs recs i) (listed (row_of recs i))) (attribute_needs recs i) f (to_option (row_needs recs i) (row_of recs i) at f home c))))))

  pub attributes_needed : (i : Item) → Marks recs entry roots (marked i) → (f : Fact) → Contains (attribute_needs recs i) f → Marks recs entry roots f
  unfolding marking one
  attributes_needed i m f c =
      by_one (marked i) f m
      (Contains-append_left _ (flow_marks recs i) f
      (Contains-append_left _ (item_shows recs i) f
      (Contains-append_left _ (waiting_facts recs roots i) f
      (Contains-append_left _ (dependency_needs recs i) f (Contains-append_right (flat_map (row_needs recs i) (listed (row_of recs i))) (attribute_needs recs i) f c)))))

  parts_needed : (i : Item) (at : RowAt) (f : Fact) → Contains (of_parts (parts_of_item recs i at)) f → Contains (row_needs recs i at) f
  unfolding type_needs field_needs impl_needs method_needs property_needs event_needs
  parts_needed (item.Asm a) at f c = absurd (none_in f c)
  parts_needed (item.Typ t) at f c =
      Contains-append_left (flat_map (encloser_of recs at) (listed (rec_at recs at)) ++ of_parts (parts_of_type recs at)) (layout_needs recs at) f
      (Contains-append_right (flat_map (encloser_of recs at) (listed (rec_at recs at))) (of_parts (parts_of_type recs at)) f c)
  parts_needed (item.Method m) at f c =
      Contains-append_left _ (accessed recs at) f
      (Contains-append_left _ (method_starts recs at) f
      (Contains-append_left _ (overrides_of recs at) f
      (Contains-append_left (owner_facts recs at ++ of_parts (parts_of_method recs at)) (makes recs at) f (Contains-append_right (owner_facts recs at) (of_parts (parts_of_method recs at)) f c))))
  parts_needed (item.Field x) at f c = Contains-append_left _ (field_starts recs at) f (Contains-append_right _ (of_parts (parts_of_field recs at)) f c)
  parts_needed (item.Prop p) at f c = Contains-append_right (owned recs property_owner at) (of_parts (parts_of_property recs at)) f c
  parts_needed (item.Event e) at f c = Contains-append_right (owned recs event_owner at) (of_parts (parts_of_event recs at)) f c
  parts_needed (item.Impl i) at f c = c

  module _ (stays : AreKept recs entry roots kept) (marks : AreMarked recs entry roots kept) (good : IsFirstFlaw recs entry (Marks recs entry roots) None) (i : Item) (at : RowAt) (rec : AsmRec)
      (home : row_of recs i ≡ Some at) (keeps : kept i ≡ true) (there : slice_get recs at.asm ≡ Some rec) (input : suc at.asm < length recs) where
    abbrev pub Parts : List Part
    Parts = parts_of_item recs i at

    abbrev AllNeeded : List Fact → Type 0
    AllNeeded fs = Needed recs kept entry roots stays fs

    not_core : is_core recs i ≡ false
    unfolding is_core
    not_core =
        ap (λ (x : Option RowAt). list_any (λ (r : RowAt). suc r.asm == length recs) (listed x)) home
        ∙ ap (λ (b : Bool). b || false) (ne_eqb (suc at.asm) (length recs) (λ e. omega (arith, input, e)))

    no_flaw : (f : Flaw) → Contains (part_flaws recs i at) f → ⊥
    unfolding flaws_of
    no_flaw f c =
        good f
        (of_item i f (marks i keeps) not_core
        (to_option (λ (x : RowAt). flat_map (λ (r : AsmRec). part_flaws recs i x ++ own_flaws recs i x r ++ attribute_flaws recs i x r) (listed (rec_at recs x))) (row_of recs i) at f home
        (to_option (λ (r : AsmRec). part_flaws recs i at ++ own_flaws recs i at r ++ attribute_flaws recs i at r) (rec_at recs at) rec f there
        (Contains-append_left (part_flaws recs i at ++ own_flaws recs i at rec) (attribute_flaws recs i at rec) f (Contains-append_left (part_flaws recs i at) (own_flaws recs i at rec) f c)))))

    -- a part names something, which is needed
    pub part_names : (place offset : ℕ) (k : Known Named) → Contains Parts (record { token = place; at = offset; named = k }) → (n : Named) × (k ≡ Good n) × AllNeeded (of_named n)
    part_names place offset (Good n) c = (
      n,
      refl,
      λ f d.
          row_needed i at home (marks i keeps) f
          (parts_needed i at f (to_flat (λ (p : Part). of_known of_named p.named) Parts f (record { item = record { token = place; at = offset; named = Good n }; there = c; inside = d }))),
    )
    part_names place offset (Bad why) c =
        absurd
        (no_flaw (flaw at place offset why)
        (to_flat (part_flaw at) Parts (flaw at place offset why) (record { item = record { token = place; at = offset; named = Bad why }; there = c; inside = first_in (flaw at place offset why) [] })))

    pub not_bad : (place : ℕ) (why : BadKind) → Contains Parts (bad_part place why) → ⊥
    not_bad place why c = let n = part_names place 0 (Bad why) c in let e = n.1 in cc

    -- ---- tokens

    pub type_named : (place offset token : ℕ) → Contains Parts (type_token_part recs at.asm rec place offset token) → (e : TypeExpr) × (token_type recs at.asm rec token ≡ Good e) × Stay recs kept e
    type_named place offset token c =
        let n = part_names place offset (known_map type (token_type recs at.asm rec token)) c in
        let g = good_map type (token_type recs at.asm rec token) n.0 n.1 in
        (g.from, g.is, expr_stays recs kept entry roots stays g.from (subst (λ (x : Named). AllNeeded (of_named x)) (sym g.gives) n.2))

    pub method_named_by : (place offset token : ℕ) → Contains Parts (method_token_part recs at.asm rec place offset token) → (u : MethodUse) × (method_named recs at.asm rec token ≡ Good u) × AllNeeded (of_method_use u)
    method_named_by place offset token c =
        let n = part_names place offset (known_map method (method_named recs at.asm rec token)) c in
        let g = good_map method (method_named recs at.asm rec token) n.0 n.1 in
        (g.from, g.is, subst (λ (x : Named). AllNeeded (of_named x)) (sym g.gives) n.2)

    pub field_named_by : (place offset token : ℕ) → Contains Parts (field_token_part recs at.asm rec place offset token) → (u : FieldUse) × (field_named recs at.asm rec token ≡ Good u) × AllNeeded (of_field_use u)
    field_named_by place offset token c =
        let n = part_names place offset (known_map field (field_named recs at.asm rec token)) c in
        let g = good_map field (field_named recs at.asm rec token) n.0 n.1 in
        (g.from, g.is, subst (λ (x : Named). AllNeeded (of_named x)) (sym g.gives) n.2)

    -- ---- signatures

    types_by : (place : ℕ) (es : List TypeExpr) → ((p : Part) → Contains (type_parts place es) p → Contains Parts p) → Every (Stay recs kept) es
    types_by place es h = record {
      each = λ e c.
          let n = part_names place 0 (Good (type e)) (h (good_part place (type e)) (to_map (λ x. good_part place (type x)) es e c)) in
          let same : n.0 ≡ type e = let f = n.1 in cc in
          expr_stays recs kept entry roots stays e (subst (λ (x : Named). AllNeeded (of_named x)) same n.2);
    }

    parts_by : {A : Type 0} (place : ℕ) (f : A → List Part) (k : Known A) → ((p : Part) → Contains (parts_of place f k) p → Contains Parts p) → (x : A) × (k ≡ Good x) × ((p : Part) → Contains (f x) p → Contains Parts p)
    parts_by place f (Good x) h = (x, refl, h)
    parts_by place f (Bad why) h = absurd (not_bad place why (h (bad_part place why) (first_in (bad_part place why) [])))

    pub sig_part : (place : ℕ) (k : Known Sig) (s : Sig) → k ≡ Good s → ((p : Part) → Contains (sig_parts recs at.asm rec place k) p → Contains Parts p) → StayAll recs kept (types_of_sig (world_sig recs at.asm rec s))
    sig_part place k s is h =
        let x = parts_by place (λ e. type_parts place (e ∷ [])) (known_then (sig_expr (names_at recs at.asm rec)) k) h in
        let e : sig_expr (names_at recs at.asm rec) s ≡ Good x.0 = ap (known_then (sig_expr (names_at recs at.asm rec))) (sym is) ∙ x.1 in
        sig_stays recs kept at.asm rec s x.0 e ((types_by place (x.0 ∷ []) x.2).each x.0 (first_in x.0 []))

    pub sigs_part : (place : ℕ) (k : Known (List Sig)) (ss : List Sig) → k ≡ Good ss → ((p : Part) → Contains (sigs_parts recs at.asm rec place k) p → Contains Parts p)
        → StayAll recs kept (types_of_sigs (world_sigs recs at.asm rec ss))
    sigs_part place k ss is h =
        let x = parts_by place (type_parts place) (known_then (arguments_of (names_at recs at.asm rec)) k) h in
        let e : arguments_of (names_at recs at.asm rec) ss ≡ Good x.0 = ap (known_then (arguments_of (names_at recs at.asm rec))) (sym is) ∙ x.1 in
        sigs_stay recs kept at.asm rec ss x.0 e (types_by place x.0 x.2)

    pub method_sig_part : (place : ℕ) (k : Known MethodSig) (s : MethodSig) → k ≡ Good s → ((p : Part) → Contains (method_sig_parts recs at.asm rec place k) p → Contains Parts p)
        → StayAll recs kept (types_of_method_sig (world_method_sig recs at.asm rec s))
    method_sig_part place k s is h =
        let x = parts_by place (method_type_parts place) (known_then (method_type (names_at recs at.asm rec)) k) h in
        let e : method_type (names_at recs at.asm rec) s ≡ Good x.0 = ap (known_then (method_type (names_at recs at.asm rec))) (sym is) ∙ x.1 in
        method_stays recs kept at.asm rec s x.0 e (types_by place (x.0.ret ∷ x.0.params) x.2)
