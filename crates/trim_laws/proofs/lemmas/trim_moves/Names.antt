-- Types that can be seen keep their names.
use Rattle.std.proofs.Common.{◌≡◌, ◌<◌, suc, Bool, true, List, [], ◌∷◌, ◌++◌, length, Option, Some, None, inl, inr, refl, sym, ap, ◌∙◌}
use Rattle.std.specs.Prelude.{IsTrue, ◌||◌, if◌then◌else◌, Contains}
use Rattle.std.specs.Option.{option_and_then}
use Rattle.std.proofs.lemmas.Bool.{lt-ltb}
use Rattle.il_base.specs.declared.ids.TypeId.{TypeId}
use Rattle.descriptor_file.specs.declared.root.Root.{Root}
use Rattle.il_base.specs.declared.world_model.record.AsmRec.{AsmRec}
use Rattle.il_base.specs.world_model.Records.{IsRecord}
use Rattle.il_base.specs.world_model.Worlds.{types_in, type_id}
use Rattle.rules.specs.declared.link_rules.row_at.RowAt.{RowAt}
use Rattle.rules.specs.link_rules.Linked.{link_fault_of}
use Rattle.base_laws.proofs.lemmas.type_laws.Within.{In}
use Rattle.base_laws.proofs.lemmas.walk_laws.Finds.{contains}
use Rattle.rules.specs.mark_rules.Facts.{Fact}
use Rattle.rules.specs.mark_rules.Facts.Fact.{marked, shown}
use Rattle.rules.specs.mark_rules.Places.{type_item}
use Rattle.mark_numbers.specs.Numbers.{is_there}
use Rattle.rules.specs.merge_rules.Numbers.{kept_types}
use Rattle.rules.specs.merge_rules.Names.{rival, is_public, Collision, or_later, collision_from, collision}
use Rattle.run_laws.proofs.lemmas.marked_laws.Flags.{shown_is}
use Rattle.merge_laws.proofs.lemmas.merged_record.Rows.{IsKept, from_kept}
use Rattle.rules.specs.merged_world_rules.Merge.{Merge, before}
use Rattle.merge_laws.proofs.lemmas.merged_places.Rows.{IsThere, number_below}
use Rattle.merge_laws.specs.merged_rows_move.Premises.{KeepsNames}
use Rattle.trim_laws.specs.marked_merge_rules.Merges.{flags_of}
use Rattle.trim_laws.specs.trim_moves.Laws.{keep_by, IsFlagged, NamesApart}
use Rattle.trim_laws.proofs.lemmas.trim_moves.Flags.{same_tests, type_row, type_home_is, input_plain, flag_is, flag_by}
use Rattle.trim_laws.proofs.lemmas.trim_moves.Enclosers.{enclosers_kept, enclosers_shown, seen_flag}

-- ---- collisions depend on kept types alone

module _ (recs : List AsmRec) (f g : TypeId → Bool) where
  abbrev clash : Bool → RowAt → RowAt → Option Collision
  clash seen at r = if is_public recs at || seen then Some (record { first = r; second = at }) else None

  from_same : (earlier rest : List RowAt) → ((at : RowAt) → In at rest → f (type_id recs at.asm at.row) ≡ g (type_id recs at.asm at.row)) → collision_from recs f earlier rest ≡ collision_from recs g earlier rest
  from_same earlier [] h = refl
  from_same earlier (at ∷ rest) h =
      let here = h at (inl refl) in
      let more = from_same (earlier ++ at ∷ []) rest (λ x i. h x (inr i)) in
      λ i. or_later (option_and_then (clash (here i) at) (rival recs earlier at)) (more i)

  same_collision : (kept : List RowAt) → ((at : RowAt) → In at kept → f (type_id recs at.asm at.row) ≡ g (type_id recs at.asm at.row)) → collision recs f kept ≡ collision recs g kept
  unfolding collision
  same_collision kept h = from_same [] kept h

module _ (m : Merge) (entry : Option RowAt) (roots : List Root) (holds : Fact → Bool) (flagged : IsFlagged m entry roots holds) (names : NamesApart m entry roots) where
  abbrev recs : List AsmRec
  recs = before m

  abbrev has : Fact → Bool
  has = flags_of m holds

  shown_there : (at : RowAt) → IsThere types_in recs at → IsTrue (is_there recs (shown (type_id recs at.asm at.row)))
  unfolding is_there
  shown_there at h = lt-ltb _ _ (number_below types_in recs at h)

  kept_type : (at : RowAt) → Contains (kept_types recs m.kept) at → IsKept types_in (type_item recs) recs m.kept at
  unfolding kept_types
  kept_type at c = from_kept types_in (type_item recs) recs m.kept at c

  seen_by : (at : RowAt) → IsThere types_in recs at → suc at.asm < length recs → m.kept (type_item recs at) ≡ true → (keep_by m holds).shown (type_id recs at.asm at.row).0 ≡ names.seen (type_id recs at.asm at.row)
  seen_by at h lt kept =
      let t : TypeId = type_id recs at.asm at.row in
      let there = shown_there at h in
      let plain = input_plain m t at (type_home_is m at h) lt in
      let flag : has (shown t) ≡ holds (shown t) = flag_by m entry roots holds flagged (shown t) refl there in
      let marks = flag_is m entry roots holds flagged (type_item recs at) at (type_row m at h) plain ∙ kept in
      same_tests ((keep_by m holds).shown t.0) (names.seen t)
      (λ s. (names.exact t there).1 ((flagged.facts (shown t) there).0 (sym flag ∙ seen_flag m entry roots holds flagged at h lt s)))
      (λ s. shown_is recs has t marks (flag ∙ (flagged.facts (shown t) there).1 ((names.exact t there).0 s)))

  seen_kept : (at : RowAt) → In at (kept_types recs m.kept) → (keep_by m holds).shown (type_id recs at.asm at.row).0 ≡ names.seen (type_id recs at.asm at.row)
  seen_kept at i =
      let k = kept_type at (contains (kept_types recs m.kept) at i) in
      seen_by at (record { rec = k.rec; here = k.input.there; below = k.below }) k.input.within k.passes

  pub names_stay : IsRecord m.left → link_fault_of (m.left ∷ []) ≡ None → KeepsNames m (keep_by m holds)
  names_stay is links = record {
    enclosers = λ at rec j here e kept. enclosers_kept m entry roots holds flagged at rec j here e kept;
    shown = λ at rec j here e h. enclosers_shown m entry roots holds flagged at rec j here e h;
    apart = same_collision recs (λ t. (keep_by m holds).shown t.0) names.seen (kept_types recs m.kept) seen_kept ∙ names.none;
    record_left = is;
    links_left = links;
  }
