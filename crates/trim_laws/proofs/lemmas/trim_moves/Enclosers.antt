-- Enclosers of kept types are kept, and those of types that can be seen can be seen (II.22.32).
use Rattle.std.proofs.Common.{◌≡◌, ◌<◌, ◌≤◌, ℕ, suc, Bool, true, false, List, [], length, Option, Some, None, ◌⊎◌, inl, inr, refl, sym, ap, ◌∙◌, arith}
use Rattle.std.specs.Prelude.{IsTrue, slice_get}
use Rattle.std.specs.Option.{option_map, option_and_then}
use Rattle.std.proofs.lemmas.Bool.{cases_lt}
use Rattle.il_base.specs.declared.ids.TypeId.{TypeId}
use Rattle.il_base.specs.declared.table.TheConstants.{TYPE_DEF}
use Rattle.descriptor_file.specs.declared.root.Root.{Root}
use Rattle.il_base.specs.declared.world_model.record.AsmRec.{AsmRec}
use Rattle.il_base.specs.world_model.Tokens.{token_of}
use Rattle.il_base.specs.world_model.Worlds.{types_in, type_id}
use Rattle.il_base.specs.core_table.Record.{core_record, record_with}
use Rattle.rules.specs.declared.link_rules.row_at.RowAt.{RowAt}
use Rattle.rules.specs.link_rules.CoreNames.{core_with}
use Rattle.rules.specs.link_rules.Types.{at_row, encloser_in, encloser}
use Rattle.base_laws.proofs.lemmas.walk_laws.Enclosing.{nested_there, encloser_there}
use Rattle.base_laws.proofs.lemmas.world_laws.Inputs.{nesting_kept}
use Rattle.rules.specs.mark_rules.Facts.{Fact}
use Rattle.rules.specs.mark_rules.Facts.Fact.{marked, shown}
use Rattle.rules.specs.mark_rules.Places.{type_item, marks_type}
use Rattle.rules.specs.world_change_rules.Places.{type_number}
use Rattle.run_laws.specs.marked_laws.Flags.{is_added, NestsWithin}
use Rattle.run_laws.proofs.lemmas.marked_laws.Closing.{row_gives}
use Rattle.run_laws.proofs.lemmas.marked_laws.Enclosers.{input_not_core, outer_needed, shown_flag, enclosers_shown as shown_around}
use Rattle.rules.specs.merged_world_rules.Merge.{Merge, IsMerge, before}
use Rattle.merge_laws.proofs.lemmas.merged_places.Rows.{IsThere, place_within}
use Rattle.merge_laws.proofs.lemmas.merged_places.Worlds.{core_of, core_rec}
use Rattle.trim_laws.specs.marked_merge_rules.Merges.{flags_of}
use Rattle.trim_laws.specs.trim_moves.Laws.{keep_by, IsFlagged}
use Rattle.trim_laws.proofs.lemmas.trim_moves.Flags.{type_row, type_home_is, input_plain, flag_is}

-- ---- enclosers are rows of inputs

module _ (m : Merge) (is : IsMerge m) where
  core_nested : (core_of m).nested_class ≡ []
  unfolding core_of core_with core_record record_with
  core_nested = refl

  flat_encloser : (rec : AsmRec) (r : ℕ) → rec.nested_class ≡ [] → encloser rec r ≡ None
  unfolding encloser
  flat_encloser rec r none = ap (encloser_in (token_of TYPE_DEF (suc r))) none

  -- a type that another encloses
  pub record IsNested (at : RowAt) (rec : AsmRec) (j : ℕ) : Type 0 where
    pub input : suc at.asm < length (before m)
    pub inner : IsThere types_in (before m) at
    pub outer : IsThere types_in (before m) (at_row at.asm j)

  of_input : (at : RowAt) (rec : AsmRec) (j : ℕ) → slice_get (before m) at.asm ≡ Some rec → encloser rec at.row ≡ Some j → suc at.asm < length (before m) → IsNested at rec j
  of_input at rec j here e lt =
      let right = nesting_kept m.inputs is.records at.asm rec here in
      record {
        input = lt;
        inner = record { rec = rec; here = here; below = nested_there rec right at.row j e };
        outer = record { rec = rec; here = here; below = encloser_there rec right at.row j e };
      }

  by_place : (at : RowAt) (rec : AsmRec) (j : ℕ) → slice_get (before m) at.asm ≡ Some rec → encloser rec at.row ≡ Some j → (suc at.asm < length (before m)) ⊎ (length (before m) ≤ suc at.asm) → IsNested at rec j
  by_place at rec j here e (inl lt) = of_input at rec j here e lt
  by_place at rec j here e (inr ge) =
      let asm = place_within (before m) at.asm rec here in
      let none = flat_encloser rec at.row (ap (λ (r : AsmRec). r.nested_class) (core_rec m at rec here (omega (arith, ge, asm))) ∙ core_nested) in
      absurd (cc)

  pub nested_in : (at : RowAt) (rec : AsmRec) (j : ℕ) → slice_get (before m) at.asm ≡ Some rec → encloser rec at.row ≡ Some j → IsNested at rec j
  nested_in at rec j here e = by_place at rec j here e (cases_lt (suc at.asm) (length (before m)))

module _ (m : Merge) (entry : Option RowAt) (roots : List Root) (holds : Fact → Bool) (flagged : IsFlagged m entry roots holds) where
  abbrev recs : List AsmRec
  recs = before m

  abbrev has : Fact → Bool
  has = flags_of m holds

  nests : NestsWithin recs
  nests = nesting_kept m.inputs flagged.merge.merge.records

  outer_plain : (at : RowAt) (rec : AsmRec) (j : ℕ) → IsNested m flagged.merge.merge at rec j → is_added recs (marks_type recs (at_row at.asm j)) ≡ false
  outer_plain at rec j n = input_plain m (type_id recs at.asm j) (at_row at.asm j) (type_home_is m (at_row at.asm j) n.outer) n.input

  outer_flag : (at : RowAt) (rec : AsmRec) (j : ℕ) → slice_get recs at.asm ≡ Some rec → encloser rec at.row ≡ Some j → IsNested m flagged.merge.merge at rec j → IsTrue (has (marked (type_item recs at))) → IsTrue (has (marked (type_item recs (at_row at.asm j))))
  outer_flag at rec j here e n h =
      row_gives recs entry roots has flagged.marks (type_item recs at) at (marks_type recs (at_row at.asm j)) h (type_row m at n.inner) (outer_needed m.inputs entry roots has flagged.marks nests at rec j here e) (outer_plain at rec j n)

  -- ---- so enclosers are kept and shown

  pub enclosers_kept : (at : RowAt) (rec : AsmRec) (j : ℕ) → slice_get recs at.asm ≡ Some rec → encloser rec at.row ≡ Some j → m.kept (type_item recs at) ≡ true → m.kept (type_item recs (at_row at.asm j)) ≡ true
  enclosers_kept at rec j here e kept =
      let n = nested_in m flagged.merge.merge at rec j here e in
      let plain = input_plain m (type_id recs at.asm at.row) at (type_home_is m at n.inner) n.input in
      let h = flag_is m entry roots holds flagged (type_item recs at) at (type_row m at n.inner) plain ∙ kept in
      sym (flag_is m entry roots holds flagged (type_item recs (at_row at.asm j)) (at_row at.asm j) (type_row m (at_row at.asm j) n.outer) (outer_plain at rec j n)) ∙ outer_flag at rec j here e n h

  -- a type of an input that is shown has its flag
  pub seen_flag : (at : RowAt) → IsThere types_in recs at → suc at.asm < length recs → IsTrue ((keep_by m holds).shown (type_number recs at)) → IsTrue (has (shown (type_id recs at.asm at.row)))
  seen_flag at there lt h =
      let t : TypeId = type_id recs at.asm at.row in
      shown_flag m.inputs entry roots has flagged.marks nests t (input_not_core recs t at (type_home_is m at there) lt) h

  pub enclosers_shown : (at : RowAt) (rec : AsmRec) (j : ℕ) → slice_get recs at.asm ≡ Some rec → encloser rec at.row ≡ Some j → IsTrue ((keep_by m holds).shown (type_number recs at))
      → IsTrue ((keep_by m holds).shown (type_number recs (at_row at.asm j)))
  enclosers_shown at rec j here e h =
      (shown_around m.inputs entry roots has flagged.marks nests at (at_row at.asm j) h
      (ap (option_and_then (λ (r : AsmRec). option_map (at_row at.asm) (encloser r at.row))) here ∙ ap (option_map (at_row at.asm)) e)).0
