-- Where exactly what is marked is kept, the type around a kept type is kept, as a marked type marks it (II.22.32).
use Rattle.std.proofs.Common.{◌≡◌, ◌<◌, ◌≤◌, ℕ, suc, List, [], length, map, true, Option, Some, None, ◌⊎◌, inl, inr, refl, sym, ap, subst, ◌∙◌, arith}
use Rattle.std.specs.Prelude.{slice_get}
use Rattle.std.specs.List.{Contains, flat_map}
use Rattle.std.specs.Option.{is_some}
use Rattle.std.proofs.lemmas.Bool.{cases_lt}
use Rattle.std.proofs.lemmas.List.Elements.{Contains-append_left}
use Rattle.il_base.specs.declared.table.TheConstants.{TYPE_DEF}
use Rattle.descriptor_file.specs.declared.root.Root.{Root}
use Rattle.il_base.specs.declared.world_model.record.AsmRec.{AsmRec}
use Rattle.il_base.specs.world_model.Records.{IsRecord}
use Rattle.il_base.specs.world_model.Tokens.{token_of}
use Rattle.il_base.specs.world_model.Worlds.{types_in}
use Rattle.il_base.specs.core_table.Record.{core_record, record_with}
use Rattle.rules.specs.declared.link_rules.row_at.RowAt.{RowAt}
use Rattle.rules.specs.link_rules.CoreNames.{core_with}
use Rattle.rules.specs.link_rules.Types.{at_row, encloser_in, encloser}
use Rattle.rules.specs.link_rules.Cycles.{listed}
use Rattle.rules.specs.type_rules.Rows.{rec_at}
use Rattle.rules.specs.mark_rules.Facts.{Fact, by_one}
use Rattle.rules.specs.mark_rules.Facts.Fact.{marked}
use Rattle.rules.specs.mark_rules.Places.{row_of, marks_type, type_item}
use Rattle.rules.specs.mark_rules.Naming.{of_parts}
use Rattle.rules.specs.mark_rules.Types.{encloser_of, parts_of_type, type_needs, layout_needs}
use Rattle.rules.specs.mark_rules.Attributes.{attribute_needs}
use Rattle.rules.specs.mark_rules.Dependencies.{dependency_needs}
use Rattle.rules.specs.mark_rules.Shown.{item_shows}
use Rattle.rules.specs.mark_rules.FlowMarks.{flow_marks}
use Rattle.rules.specs.mark_rules.Roots.{waiting_facts}
use Rattle.rules.specs.mark_rules.Marking.{row_needs, item_needs, one, marking, Marks}
use Rattle.rules.specs.merged_world_rules.Merge.{Merge, before}
use Rattle.trim_laws.specs.marked_merge_rules.Merges.{IsMarkedMerge}
use Rattle.merge_laws.proofs.lemmas.merged_record.Lists.{first_in}
use Rattle.merge_laws.proofs.lemmas.merged_record.Tokens.{index_row}
use Rattle.merge_laws.proofs.lemmas.merged_loads.Flawless.{to_option, own_home}
use Rattle.merge_laws.proofs.lemmas.merged_links.Enclosers.{encloses, type_there}
use Rattle.merge_laws.proofs.lemmas.merged_places.Rows.{place_within}
use Rattle.merge_laws.proofs.lemmas.merged_places.Worlds.{core_of, core_rec}
use Rattle.merge_laws.proofs.lemmas.merged_rows_move.Members.{record_of}
use Rattle.merge_laws.proofs.lemmas.merged_rows_move.Nesting.{no_encloser}
use Rattle.trim_laws.specs.merged_back.Premises.{KeepsEnclosers}

-- what is around a type of the core library
core_flat : (m : Merge) → (core_of m).nested_class ≡ []
unfolding core_of core_with core_record record_with
core_flat m = refl

flat_none : (rec : AsmRec) (r : ℕ) → rec.nested_class ≡ [] → encloser rec r ≡ None
unfolding encloser
flat_none rec r none = ap (encloser_in (token_of TYPE_DEF (suc r))) none

module _ (m : Merge) (entry : Option RowAt) (roots : List Root) (is : IsMarkedMerge m entry roots) where
  abbrev recs : List AsmRec
  recs = before m

  -- ---- in an input

  module _ (at : RowAt) (rec : AsmRec) (j : ℕ) (here : slice_get recs at.asm ≡ Some rec) (earlier : suc at.asm < length recs) (e : encloser rec at.row ≡ Some j) (keeps : m.kept (type_item recs at) ≡ true) where
    whole : IsRecord rec
    whole = record_of m is.merge at.asm rec here earlier

    below : at.row < length rec.type_def
    below = elim (cases_lt at.row (length rec.type_def)) [
      | inl lt ↦ lt
      | inr ge ↦ absurd (none_some (encloser rec at.row) (no_encloser rec at.row whole ge) e)
    ]
      where
        none_some : (o : Option ℕ) → o ≡ None → o ≡ Some j → ⊥
        none_some None f g = cc
        none_some (Some k) f g = cc

    around_below : j < length rec.type_def
    around_below =
        let r = encloses rec at.row j e in
        let t = type_there rec r.row.enclosing_class (whole.tokens.nested_classes r.place r.row r.there).1 in
        let le = t.2 in
        let i = (index_row TYPE_DEF r.row.enclosing_class j r.enclosing).1 in
        omega (arith, i, le)

    home : row_of recs (type_item recs at) ≡ Some at
    unfolding row_of
    home = own_home types_in recs at rec here below

    around_home : row_of recs (type_item recs (at_row at.asm j)) ≡ Some (at_row at.asm j)
    unfolding row_of
    around_home = own_home types_in recs (at_row at.asm j) rec here around_below

    abbrev fact : Fact
    fact = marked (type_item recs (at_row at.asm j))

    in_encloser : Contains (encloser_of recs at rec) fact
    in_encloser = subst (λ (o : Option ℕ). Contains (map (λ k. marks_type recs (at_row at.asm k)) (listed o)) fact) (sym e) (first_in fact [])

    in_needs : Contains (type_needs recs at) fact
    unfolding type_needs
    in_needs =
        Contains-append_left (flat_map (encloser_of recs at) (listed (rec_at recs at))) (of_parts (parts_of_type recs at)) fact (to_option (encloser_of recs at) (rec_at recs at) rec fact here in_encloser)

    in_item : Contains (item_needs recs roots (type_item recs at)) fact
    in_item =
        Contains-append_left _ (item_shows recs (type_item recs at)) fact
        (Contains-append_left _ (waiting_facts recs roots (type_item recs at)) fact
        (Contains-append_left _ (dependency_needs recs (type_item recs at)) fact
        (Contains-append_left (flat_map (row_needs recs (type_item recs at)) (listed (row_of recs (type_item recs at)))) (attribute_needs recs (type_item recs at)) fact
        (to_option (row_needs recs (type_item recs at)) (row_of recs (type_item recs at)) at fact home
        (Contains-append_left (type_needs recs at) (layout_needs recs at) fact in_needs)))))

    around_marked : Marks recs entry roots fact
    unfolding marking one
    around_marked =
        by_one (marked (type_item recs at)) fact (is.marked (type_item recs at) keeps) (Contains-append_left (item_needs recs roots (type_item recs at)) (flow_marks recs (type_item recs at)) fact in_item)

    around_kept : m.kept (type_item recs (at_row at.asm j)) ≡ true
    around_kept = is.all (type_item recs (at_row at.asm j)) (ap (λ (o : Option RowAt). is_some o) around_home) around_marked

  either : (at : RowAt) (rec : AsmRec) (j : ℕ) → slice_get recs at.asm ≡ Some rec → encloser rec at.row ≡ Some j → m.kept (type_item recs at) ≡ true → (suc at.asm < length recs) ⊎ (length recs ≤ suc at.asm)
      → m.kept (type_item recs (at_row at.asm j)) ≡ true
  either at rec j here e keeps (inl lt) = around_kept at rec j here lt e keeps
  either at rec j here e keeps (inr ge) =
      let asm = place_within recs at.asm rec here in
      let none : encloser rec at.row ≡ None = flat_none rec at.row (ap (λ (r : AsmRec). r.nested_class) (core_rec m at rec here (omega (arith, ge, asm))) ∙ core_flat m) in
      let bad : None ≡ Some j = sym none ∙ e in absurd (cc)

  pub stay : KeepsEnclosers m
  stay at rec j here e keeps = either at rec j here e keeps (cases_lt (suc at.asm) (length recs))
