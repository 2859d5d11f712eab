-- The type of the entry method is left.
use Rattle.std.proofs.Common.{◌≡◌, ◌<◌, ◌≤◌, suc, List, [], ◌∷◌, ◌++◌, length, Bool, true, map, Option, Some, None, refl, sym, ap, subst, arith, eq-eqb}
use Rattle.std.specs.Prelude.{slice_get}
use Rattle.std.specs.List.{Contains, flat_map, list_any}
use Rattle.std.specs.Option.{is_some}
use Rattle.std.proofs.lemmas.Bool.{or_right}
use Rattle.std.proofs.lemmas.List.Elements.{Contains-append_left, Contains-append_right}
use Rattle.il_base.specs.declared.ids.Item.TheVariants as item
use Rattle.il_base.specs.declared.table.TheConstants.{METHOD_DEF}
use Rattle.descriptor_file.specs.declared.root.Root.{Root}
use Rattle.il_base.specs.declared.world_model.known.BadKind.TheVariants.{Unresolved}
use Rattle.il_base.specs.declared.world_model.record.AsmRec.{AsmRec}
use Rattle.il_base.specs.world_model.Tokens.{token_of}
use Rattle.il_base.specs.world_model.Records.{table_sizes}
use Rattle.il_base.specs.world_model.Worlds.{types_in}
use Rattle.rules.specs.declared.link_rules.row_at.RowAt.{RowAt}
use Rattle.rules.specs.link_rules.Types.{at_row}
use Rattle.rules.specs.link_rules.Members.{methods_in}
use Rattle.rules.specs.link_rules.Cycles.{listed}
use Rattle.rules.specs.type_rules.Slots.{type_of_method}
use Rattle.rules.specs.mark_rules.Facts.{Fact, start}
use Rattle.rules.specs.mark_rules.Facts.Fact.{marked}
use Rattle.rules.specs.mark_rules.Places.{row_of, marks_method, type_item, method_item}
use Rattle.rules.specs.mark_rules.Roots.{root_facts, module_facts, entry_facts, start_facts}
use Rattle.rules.specs.mark_rules.Marking.{same_fact, is_core_fact, given, marking, Marks}
use Rattle.rules.specs.mark_rules.BadItems.{Flaw, flaw, IsFirstFlaw}
use Rattle.rules.specs.mark_rules.BadItems.IsFlaw.{of_entry}
use Rattle.rules.specs.merge_rules.Numbers.{Kept, kept_types, kept_methods}
use Rattle.rules.specs.merge_rules.Refs.{Output}
use Rattle.rules.specs.merge_rules.Restricted.{placed_methods, moved_methods, restricted_by, output_of, restricted}
use Rattle.merge_laws.specs.merged_record.Laws.{OwnersAreKept}
use Rattle.merge_laws.proofs.lemmas.merged_record.Lists.{first_in, below_length, map_some, OfInput}
use Rattle.merge_laws.proofs.lemmas.merged_record.Sizes.{left, types}
use Rattle.merge_laws.proofs.lemmas.merged_record.Owned.{to_kept}
use Rattle.merge_laws.specs.merged_owners.Laws.{OwnersStay}
use Rattle.merge_laws.proofs.lemmas.merged_loads.TextsStand.{any_in}
use Rattle.merge_laws.proofs.lemmas.merged_loads.Flawless.{to_option, own_home}
use Rattle.trim_laws.specs.marked_loads.Laws.{EntryTypeIsLeft}

has_some : {A : Type 0} (xs : List A) (x : A) → Contains xs x → 1 ≤ length xs
has_some xs x c = let lt = c.1 in omega arith

module _ (recs : List AsmRec) (roots : List Root) (at : RowAt) (good : IsFirstFlaw recs (Some at) (Marks recs (Some at) roots) None) where
  abbrev fact : Fact
  fact = marks_method recs at

  abbrev no_owner : Flaw
  no_owner = flaw at (token_of METHOD_DEF (suc at.row)) 0 Unresolved

  -- else it would be a flaw
  owner_by : (o : Option RowAt) → type_of_method recs at ≡ o → (t : RowAt) × (type_of_method recs at ≡ Some t)
  owner_by (Some t) e = (t, e)
  owner_by None e =
      absurd (good no_owner (of_entry no_owner
      (to_option (λ (a : RowAt). elim (type_of_method recs a) [ Some t ↦ [] | None ↦ flaw a (token_of METHOD_DEF (suc a.row)) 0 Unresolved ∷ [] ]) (Some at) at no_owner refl
      (subst (λ (o : Option RowAt). Contains (elim o [ Some t ↦ [] | None ↦ no_owner ∷ [] ]) no_owner) (sym e) (first_in no_owner [])))))

  in_entry : Contains (entry_facts recs (Some at)) fact
  in_entry =
      let o = owner_by (type_of_method recs at) refl in
      to_option (λ (a : RowAt). map (λ (t : RowAt). marks_method recs a) (listed (type_of_method recs a))) (Some at) at fact refl
      (subst (λ (o : Option RowAt). Contains (map (λ (t : RowAt). fact) (listed o)) fact) (sym o.1) (first_in fact []))

  in_start : Contains (start_facts recs (Some at) roots) fact
  unfolding start_facts
  in_start =
      Contains-append_left (marked (item.Asm (record { 0 = 0 })) ∷ module_facts recs ++ entry_facts recs (Some at)) (flat_map (root_facts recs) roots) fact
      (Contains-append_right (marked (item.Asm (record { 0 = 0 })) ∷ module_facts recs) (entry_facts recs (Some at)) fact in_entry)

  same_self : same_fact fact fact ≡ true
  same_self = eq-eqb _ _ refl

  entry_marked : Marks recs (Some at) roots fact
  unfolding marking given
  entry_marked = start fact (or_right (is_core_fact recs fact) (list_any (same_fact fact) (start_facts recs (Some at) roots)) (any_in (same_fact fact) (start_facts recs (Some at) roots) fact in_start same_self))

  entry_there : (rec : AsmRec) → slice_get recs at.asm ≡ Some rec → at.row < methods_in rec → row_of recs (method_item recs at) ≡ Some at
  unfolding row_of
  entry_there rec there lt = own_home methods_in recs at rec there lt

module _ (internal : Bool) (o : Output) (primary : AsmRec) where
  some_left : 1 ≤ length (kept_types o.recs o.kept) → 1 ≤ length (left internal o primary).type_def
  unfolding table_sizes
  some_left h = let n = types internal o primary in omega (arith, h, n)

module _ (recs : List AsmRec) (kept : Kept) (at : RowAt) (rec : AsmRec) (input : OfInput recs at.asm rec) (lt : at.row < methods_in rec) where
  method_kept : kept (method_item recs at) ≡ true → Contains (kept_methods recs kept) at
  unfolding kept_methods
  method_kept known = to_kept methods_in (method_item recs) recs kept at rec input lt known

  type_kept : OwnersAreKept recs kept → kept (method_item recs at) ≡ true → 1 ≤ length (kept_types recs kept)
  unfolding kept_types
  type_kept owners known =
      let h = owners.methods at (method_kept known) in
      has_some _ (at_row at.asm h.place)
      (to_kept types_in (type_item recs) recs kept (at_row at.asm h.place) h.rec (record { there = h.there; within = input.within }) (below_length h.rec.type_def h.place h.row h.is) h.kept)

pub entry_type : OwnersStay → EntryTypeIsLeft
unfolding restricted output_of
entry_type owners_stay internal recs at roots kept result rec e records marks all good within there lt =
    let o : Output = output_of recs kept in
    let m = map_some (restricted_by internal o (placed_methods (moved_methods o))) (slice_get recs 0) result e in
    let known : kept (method_item recs at) ≡ true = all (method_item recs at) (ap (λ (x : Option RowAt). is_some x) (entry_there recs roots at good rec there lt)) (entry_marked recs roots at good) in
    subst (λ (r : AsmRec). 1 ≤ length r.type_def) m.2
    (some_left internal o m.0 (type_kept recs kept at rec (record { there = there; within = within }) lt (owners_stay recs (Some at) roots kept records marks all) known))
