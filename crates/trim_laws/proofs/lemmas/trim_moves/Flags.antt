-- The flags of rows are what the merge keeps.
use Rattle.std.proofs.Common.{◌≡◌, ◌<◌, ◌≤◌, suc, Bool, true, false, List, length, Option, Some, inl, inr, refl, sym, ap, ◌∙◌, arith}
use Rattle.std.specs.Prelude.{IsTrue, slice_get, nat_le, not, ◌==◌, ◌&&◌, ◌||◌, if◌then◌else◌}
use Rattle.std.specs.List.{list_any}
use Rattle.std.specs.Option.{is_some}
use Rattle.std.proofs.lemmas.Bool.{or_left, ne_eqb, eq-eqb, cases_lt, lt-leb, le-leb}
use Rattle.il_base.specs.declared.ids.TypeId.{TypeId}
use Rattle.il_base.specs.declared.ids.Item.{Item}
use Rattle.il_base.specs.declared.ids.Item.TheVariants as item
use Rattle.descriptor_file.specs.declared.root.Root.{Root}
use Rattle.il_base.specs.declared.world_model.record.AsmRec.{AsmRec}
use Rattle.il_base.specs.world_model.Worlds.{types_in, type_id}
use Rattle.il_base.specs.core_table.Record.{core_record}
use Rattle.il_base.specs.declared.core_table.types.TheConstants.{TYPES}
use Rattle.rules.specs.declared.link_rules.row_at.RowAt.{RowAt}
use Rattle.rules.specs.link_rules.Members.{type_home, methods_in, fields_in}
use Rattle.rules.specs.link_rules.Cycles.{listed}
use Rattle.rules.specs.mark_rules.Facts.{Fact, start}
use Rattle.rules.specs.mark_rules.Facts.Fact.{marked}
use Rattle.rules.specs.mark_rules.Places.{impls_in, type_item, method_item, field_item, impl_item, row_of}
use Rattle.rules.specs.mark_rules.Marking.{is_core_fact, given, marking, Marks}
use Rattle.mark_numbers.specs.Numbers.{is_there}
use Rattle.rules.specs.change_rules.Change.{Keep}
use Rattle.rules.specs.world_change_rules.Places.{keeps_type_row, keeps_method_row, keeps_field_row}
use Rattle.run_laws.specs.marked_laws.Flags.{is_added_row, is_added, keep_of}
use Rattle.run_laws.proofs.lemmas.marked_laws.Places.{last_is_core}
use Rattle.base_laws.proofs.lemmas.world_laws.Inputs.{nesting_kept}
use Rattle.run_laws.proofs.lemmas.marked_laws.Joined.{rows_kept}
use Rattle.run_laws.proofs.lemmas.closed_laws.Runs.{runs_end}
use Rattle.rules.specs.merged_world_rules.Merge.{Merge, before, names_before, names_after}
use Rattle.rules.specs.merged_world_rules.NewNumbers.{type_core}
use Rattle.rules.specs.merged_world_rules.Kept.{HasFlags}
use Rattle.merge_laws.proofs.lemmas.merged_places.Rows.{IsThere, there_home, place_within}
use Rattle.merge_laws.proofs.lemmas.merged_places.Whole.{row_there}
use Rattle.merge_laws.proofs.lemmas.merged_places.CoreRows.{own_goes}
use Rattle.merge_laws.proofs.lemmas.merged_rows_move.Core.{type_count}
use Rattle.trim_laws.specs.marked_merge_rules.Merges.{stays_there, flags_of}
use Rattle.trim_laws.specs.trim_moves.Laws.{keep_by, kept_by, IsFlagged}

-- two tests that pass in the same cases
pub same_tests : (b c : Bool) → (b ≡ true → c ≡ true) → (c ≡ true → b ≡ true) → b ≡ c
same_tests true true f g = refl
same_tests true false f g = sym (f refl)
same_tests false true f g = g refl
same_tests false false f g = refl

or_none : (b : Bool) → (b || false) ≡ b
or_none true = refl
or_none false = refl

module _ (m : Merge) where
  abbrev recs : List AsmRec
  recs = before m

  -- ---- items of rows

  module _ (at : RowAt) where
    pub type_row : IsThere types_in recs at → row_of recs (type_item recs at) ≡ Some at
    unfolding row_of
    type_row h = there_home types_in recs at h

    pub type_home_is : IsThere types_in recs at → type_home recs (type_id recs at.asm at.row) ≡ Some at
    type_home_is h = there_home types_in recs at h

    pub method_row : IsThere methods_in recs at → row_of recs (method_item recs at) ≡ Some at
    unfolding row_of
    method_row h = there_home methods_in recs at h

    pub field_row : IsThere fields_in recs at → row_of recs (field_item recs at) ≡ Some at
    unfolding row_of
    field_row h = there_home fields_in recs at h

    pub impl_row : IsThere impls_in recs at → row_of recs (impl_item recs at) ≡ Some at
    unfolding row_of
    impl_row h = there_home impls_in recs at h

  -- ---- types of inputs, and those of the core library's table, are no names that only modifiers use

  is_added_at : (t : TypeId) (at : RowAt) → type_home recs t ≡ Some at → is_added recs (marked (item.Typ t)) ≡ is_added_row recs at
  is_added_at t at home = ap (λ (o : Option RowAt). list_any (is_added_row recs) (listed o)) home ∙ or_none (is_added_row recs at)

  pub input_plain : (t : TypeId) (at : RowAt) → type_home recs t ≡ Some at → suc at.asm < length recs → is_added recs (marked (item.Typ t)) ≡ false
  input_plain t at home lt =
      is_added_at t at home ∙ ap (λ (b : Bool). b && nat_le (length TYPES) at.row) (ne_eqb (suc at.asm) (length recs) (λ e. absurd (omega (arith, lt, e))))

  and_none : (b : Bool) → (b && false) ≡ false
  and_none true = refl
  and_none false = refl

  table_plain : (t : TypeId) (at : RowAt) → type_home recs t ≡ Some at → at.row < length TYPES → is_added recs (marked (item.Typ t)) ≡ false
  table_plain t at home lt =
      is_added_at t at home ∙ ap (λ (b : Bool). suc at.asm == length recs && b) (lt-leb (length TYPES) at.row lt) ∙ and_none (suc at.asm == length recs)

  added_past : (t : TypeId) (at : RowAt) → type_home recs t ≡ Some at → suc at.asm ≡ length recs → length TYPES ≤ at.row → is_added recs (marked (item.Typ t)) ≡ true
  added_past t at home last le =
      is_added_at t at home ∙ (λ i. eq-eqb (suc at.asm) (length recs) last i && le-leb (length TYPES) at.row le i)

module _ (m : Merge) (entry : Option RowAt) (roots : List Root) (holds : Fact → Bool) (flagged : IsFlagged m entry roots holds) where
  abbrev world : List AsmRec
  world = before m

  abbrev has : Fact → Bool
  has = flags_of m holds

  abbrev keep : Keep
  keep = keep_by m holds

  exact : (i : Item) → IsTrue (is_there world (marked i)) → is_some (row_of world i) ≡ true → holds (marked i) ≡ m.kept i
  exact i there some =
      same_tests (holds (marked i)) (m.kept i) (λ h. flagged.merge.all i some ((flagged.facts (marked i) there).0 h)) (λ h. (flagged.facts (marked i) there).1 (flagged.merge.marked i h))

  fact_there : (i : Item) (at : RowAt) → row_of world i ≡ Some at → IsTrue (is_there world (marked i))
  unfolding is_there
  fact_there i at home = ap is_some home

  pub flag_by : (f : Fact) → is_added world f ≡ false → IsTrue (is_there world f) → has f ≡ holds f
  unfolding flags_of
  flag_by f plain there =
      ap (λ (b : Bool). if b then stays_there m f else not (is_there world f) || holds f) plain ∙ ap (λ (b : Bool). not b || holds f) there

  -- the flag of a row's item
  pub flag_is : (i : Item) (at : RowAt) → row_of world i ≡ Some at → is_added world (marked i) ≡ false → has (marked i) ≡ m.kept i
  flag_is i at home plain = let there = fact_there i at home in flag_by (marked i) plain there ∙ exact i there (ap is_some home)

  added_by : (f : Fact) → is_added world f ≡ true → has f ≡ stays_there m f
  unfolding flags_of
  added_by f added = ap (λ (b : Bool). if b then stays_there m f else not (is_there world f) || holds f) added

  -- ---- the core library

  given_core : (f : Fact) → is_core_fact world f ≡ true → Marks world entry roots f
  unfolding marking given
  given_core f h = start f (or_left (is_core_fact world f) _ h)

  core_kept : (i : Item) (at : RowAt) → row_of world i ≡ Some at → suc at.asm ≡ length world → m.kept i ≡ true
  core_kept i at home last = flagged.merge.all i (ap is_some home) (given_core (marked i) (last_is_core world i at home last))

  -- ---- rows

  abbrev type_flag : RowAt → Bool
  type_flag at = keeps_type_row keep world at

  abbrev method_flag : RowAt → Bool
  method_flag at = keeps_method_row keep world at

  abbrev field_flag : RowAt → Bool
  field_flag at = keeps_field_row keep world at

  type_flag_is : (at : RowAt) → type_flag at ≡ has (marked (type_item world at))
  unfolding keep_of
  type_flag_is at = refl

  method_flag_is : (at : RowAt) → method_flag at ≡ has (marked (method_item world at))
  unfolding keep_of
  method_flag_is at = refl

  field_flag_is : (at : RowAt) → field_flag at ≡ has (marked (field_item world at))
  unfolding keep_of
  field_flag_is at = refl

  pub input_type : (at : RowAt) → IsThere types_in world at → suc at.asm < length world → type_flag at ≡ m.kept (type_item world at)
  input_type at h lt = type_flag_is at ∙ flag_is (type_item world at) at (type_row m at h) (input_plain m (type_id world at.asm at.row) at (type_home_is m at h) lt)

  pub method_kept : (at : RowAt) → IsThere methods_in world at → method_flag at ≡ m.kept (method_item world at)
  method_kept at h = method_flag_is at ∙ flag_is (method_item world at) at (method_row m at h) refl

  field_kept : (at : RowAt) → IsThere fields_in world at → field_flag at ≡ m.kept (field_item world at)
  field_kept at h = field_flag_is at ∙ flag_is (field_item world at) at (field_row m at h) refl

  interface_kept : (at : RowAt) → IsThere impls_in world at → kept_by m holds at ≡ m.kept (impl_item world at)
  interface_kept at h = flag_is (impl_item world at) at (impl_row m at h) refl

  -- of the core library's types
  table_type : (at : RowAt) → IsThere types_in world at → suc at.asm ≡ length world → at.row < length TYPES → type_flag at ≡ is_some ((type_core m).to at.row)
  table_type at h last lt =
      let count = type_count in
      type_flag_is at ∙ flag_is (type_item world at) at (type_row m at h) (table_plain m (type_id world at.asm at.row) at (type_home_is m at h) lt)
      ∙ core_kept (type_item world at) at (type_row m at h) last
      ∙ sym (ap is_some (own_goes (length core_record.type_def) (names_before m) (names_after m) at.row (omega (arith, lt, count))))

  added_type : (at : RowAt) → IsThere types_in world at → suc at.asm ≡ length world → length TYPES ≤ at.row → type_flag at ≡ is_some ((type_core m).to at.row)
  added_type at h last le =
      type_flag_is at ∙ added_by (marked (type_item world at)) (added_past m (type_id world at.asm at.row) at (type_home_is m at h) last le)
      ∙ ap (λ (o : Option RowAt). list_any (λ (x : RowAt). is_some ((type_core m).to x.row)) (listed o)) (type_home_is m at h)
      ∙ or_none (is_some ((type_core m).to at.row))

  core_type : (at : RowAt) → IsThere types_in world at → suc at.asm ≡ length world → type_flag at ≡ is_some ((type_core m).to at.row)
  core_type at h last = elim (cases_lt at.row (length TYPES)) [ inl lt ↦ table_type at h last lt | inr le ↦ added_type at h last le ]

  core_method : (at : RowAt) → IsThere methods_in world at → suc at.asm ≡ length world → IsTrue (method_flag at)
  core_method at h last = method_kept at h ∙ core_kept (method_item world at) at (method_row m at h) last

  core_field : (at : RowAt) → IsThere fields_in world at → suc at.asm ≡ length world → IsTrue (field_flag at)
  core_field at h last = field_kept at h ∙ core_kept (field_item world at) at (field_row m at h) last

  impl_there : (at : RowAt) (rec : AsmRec) → slice_get world at.asm ≡ Some rec → at.row < impls_in rec → IsThere impls_in world at
  impl_there at rec here below = record { rec = rec; here = here; below = below }

  pub flags_say : HasFlags m keep (kept_by m holds)
  flags_say = record {
    types = λ at t lt e. input_type at (row_there (λ rec. rec.type_def) world at t e) lt;
    methods = λ at r e. method_kept at (row_there (λ rec. rec.method_def) world at r e);
    fields = λ at f e. field_kept at (row_there (λ rec. rec.field) world at f e);
    interfaces = λ at rec row here is. interface_kept at (impl_there at rec here (place_within rec.interface_impl at.row row is));
    core_types = λ at t last e. core_type at (row_there (λ rec. rec.type_def) world at t e) last;
    core_methods = λ at r last e. core_method at (row_there (λ rec. rec.method_def) world at r e) last;
    core_fields = λ at f last e. core_field at (row_there (λ rec. rec.field) world at f e) last;
    keeps = rows_kept m.inputs entry roots has flagged.merge.merge.links flagged.marks (runs_end m.inputs flagged.merge.merge.records) (nesting_kept m.inputs flagged.merge.merge.records);
  }
