-- The entry method is kept, and the output's entry token names it.
use Rattle.std.proofs.Common.{◌≡◌, ◌<◌, ◌≤◌, ℕ, zero, suc, ◌+◌, Bool, true, false, List, [], ◌∷◌, ◌++◌, length, map, Option, Some, None, refl, sym, ap, subst, ◌∙◌, arith, eq-eqb}
use Rattle.std.specs.Prelude.{IsTrue, slice_get, unwrap_or, ◌==◌, if◌then◌else◌}
use Rattle.std.specs.List.{Contains, flat_map, list_any, position_from}
use Rattle.std.specs.Option.{is_some, option_map, option_and_then}
use Rattle.std.proofs.lemmas.Bool.{and_from, or_right, ne_eqb, eqb-true}
use Rattle.std.proofs.lemmas.List.Elements.{Contains-append_left, Contains-append_right}
use Rattle.il_base.specs.declared.ids.MethodId.{MethodId}
use Rattle.il_base.specs.declared.ids.Item.TheVariants as item
use Rattle.il_base.specs.declared.table.TheConstants.{METHOD_DEF, METHOD_SPEC}
use Rattle.descriptor_file.specs.declared.root.Root.{Root}
use Rattle.il_base.specs.declared.world_model.known.BadKind.TheVariants.{Unresolved}
use Rattle.il_base.specs.declared.world_model.types.TypeDefRow.{TypeDefRow}
use Rattle.il_base.specs.declared.world_model.record.AsmRec.{AsmRec}
use Rattle.il_base.specs.world_model.Records.{table_sizes, rows_in}
use Rattle.il_base.specs.world_model.Tokens.{token_of, table_of, index_in}
use Rattle.il_base.specs.world_model.Worlds.{rows_before}
use Rattle.rules.specs.declared.link_rules.row_at.RowAt.{RowAt}
use Rattle.rules.specs.link_rules.Types.{at_row}
use Rattle.rules.specs.link_rules.Members.{home_from, methods_in, owns_method}
use Rattle.rules.specs.link_rules.Cycles.{listed}
use Rattle.rules.specs.type_rules.Slots.{type_of_method}
use Rattle.rules.specs.step_rules.Run.{run_from}
use Rattle.rules.specs.view_rules.Answers.{queries_of}
use Rattle.rules.specs.mark_rules.Facts.{Fact, start}
use Rattle.rules.specs.mark_rules.Facts.Fact.{marked}
use Rattle.rules.specs.mark_rules.Places.{row_of, marks_method, method_item}
use Rattle.rules.specs.mark_rules.Roots.{root_facts, module_facts, entry_facts, start_facts}
use Rattle.rules.specs.mark_rules.Marking.{same_fact, is_core_fact, given, marking, Marks}
use Rattle.rules.specs.mark_rules.BadItems.{Flaw, flaw, IsFirstFlaw}
use Rattle.rules.specs.mark_rules.BadItems.IsFlaw.{of_entry}
use Rattle.rules.specs.merge_rules.Numbers.{kept_methods, new_row}
use Rattle.rules.specs.merge_rules.Keys.{MethodKey, own_method, method_key}
use Rattle.rules.specs.merge_rules.Refs.{Output, row_token, kept_token, method_token, instance_token}
use Rattle.rules.specs.merge_rules.Keys.{instance_key}
use Rattle.rules.specs.merge_rules.Moved.{token_or_none, moved_callee}
use Rattle.rules.specs.merge_rules.Restricted.{output_of}
use Rattle.rules.specs.change_rules.Keeps.{can_call}
use Rattle.run_laws.specs.lock_steps.Laws.{move_outcome}
use Rattle.run_laws.proofs.lemmas.marked_laws.Flags.{called_is}
use Rattle.run_laws.proofs.lemmas.marked_laws.Searches.{input_searches_nothing}
use Rattle.run_laws.specs.closed_laws.Laws.{OnlyMarks}
use Rattle.merge_laws.proofs.lemmas.merged_loads.TextsStand.{any_in}
use Rattle.merge_laws.proofs.lemmas.merged_record.Lists.{first_in}
use Rattle.merge_laws.proofs.lemmas.merged_loads.Flawless.{to_option}
use Rattle.rules.specs.merged_world_rules.Merge.{Merge, before, after, output, IsMerge}
use Rattle.rules.specs.merged_world_rules.Numbering.{number_at}
use Rattle.rules.specs.merged_world_rules.NewNumbers.{rho_of, method_core}
use Rattle.merge_laws.proofs.lemmas.merged_places.Ranks.{rank}
use Rattle.merge_laws.proofs.lemmas.merged_places.Rows.{same_some, IsThere, there_home, place_within, input_below}
use Rattle.merge_laws.proofs.lemmas.merged_places.Kept.{keeps, new_row_is}
use Rattle.merge_laws.proofs.lemmas.merged_places.Numbers.{new_kept, rank_below}
use Rattle.merge_laws.proofs.lemmas.merged_places.Worlds.{before_length, before_input, left_is}
use Rattle.merge_laws.proofs.lemmas.merged_places.Tables.{number_method, method_rows, methods_counted}
use Rattle.trim_laws.specs.marked_merge_rules.Merges.{IsMarkedMerge, flags_of}
use Rattle.trim_laws.specs.trim_moves.Laws.{keep_by, IsFlagged, NamesApart, LeftIsRecord}
use Rattle.trim_laws.proofs.lemmas.trim_moves.Flags.{method_kept}
use Rattle.trim_laws.specs.trim_runs.Laws.{IsFollowed, OutputStands, OutputReads}
use Rattle.trim_laws.specs.trim_runs.Entry.{IsEntry, EntryMoves, entry_number, ProgramsRun}
use Rattle.trim_laws.proofs.lemmas.trim_runs.Tokens.{own_table, own_key, row_named}
use Rattle.trim_laws.proofs.lemmas.trim_runs.Runs.{runs_alike}

-- ---- the entry has an owner, else it would be a flaw, and is marked

module _ (recs : List AsmRec) (roots : List Root) (at : RowAt) (good : IsFirstFlaw recs (Some at) (Marks recs (Some at) roots) None) where
  abbrev fact : Fact
  fact = marks_method recs at

  abbrev no_owner : Flaw
  no_owner = flaw at (token_of METHOD_DEF (suc at.row)) 0 Unresolved

  owner_by : (o : Option RowAt) → type_of_method recs at ≡ o → (t : RowAt) × (type_of_method recs at ≡ Some t)
  owner_by (Some t) e = (t, e)
  owner_by None e =
      absurd (good no_owner (of_entry no_owner
      (to_option (λ (a : RowAt). elim (type_of_method recs a) [ Some t ↦ [] | None ↦ flaw a (token_of METHOD_DEF (suc a.row)) 0 Unresolved ∷ [] ]) (Some at) at no_owner refl
      (subst (λ (o : Option RowAt). Contains (elim o [ Some t ↦ [] | None ↦ no_owner ∷ [] ]) no_owner) (sym e) (first_in no_owner [])))))

  has_owner : (t : RowAt) × (type_of_method recs at ≡ Some t)
  has_owner = owner_by (type_of_method recs at) refl

  in_entry : Contains (entry_facts recs (Some at)) fact
  in_entry =
      to_option (λ (a : RowAt). map (λ (t : RowAt). marks_method recs a) (listed (type_of_method recs a))) (Some at) at fact refl
      (subst (λ (o : Option RowAt). Contains (map (λ (t : RowAt). fact) (listed o)) fact) (sym has_owner.1) (first_in fact []))

  in_start : Contains (start_facts recs (Some at) roots) fact
  unfolding start_facts
  in_start =
      Contains-append_left (marked (item.Asm (record { 0 = 0 })) ∷ module_facts recs ++ entry_facts recs (Some at)) (flat_map (root_facts recs) roots) fact
      (Contains-append_right (marked (item.Asm (record { 0 = 0 })) ∷ module_facts recs) (entry_facts recs (Some at)) fact in_entry)

  same_self : same_fact fact fact ≡ true
  same_self = eq-eqb _ _ refl

  entry_marked : Marks recs (Some at) roots fact
  unfolding marking given
  entry_marked = start fact (or_right (is_core_fact recs fact) (list_any (same_fact fact) (start_facts recs (Some at) roots)) (any_in (same_fact fact) (start_facts recs (Some at) roots) fact in_start same_self))

-- ---- a method's type is a row of the types of its assembly

owner_row : (recs : List AsmRec) (at : RowAt) (rec : AsmRec) (t : RowAt) (o : Option ℕ) → position_from (owns_method (suc at.row)) 0 rec.type_def ≡ o → option_map (at_row at.asm) o ≡ Some t
    → (j : ℕ) × (position_from (owns_method (suc at.row)) 0 rec.type_def ≡ Some j)
owner_row recs at rec t None e h = absurd (cc)
owner_row recs at rec t (Some j) e h = (j, e)

owner_there : (recs : List AsmRec) (at : RowAt) (rec : AsmRec) (t : RowAt) → slice_get recs at.asm ≡ Some rec → type_of_method recs at ≡ Some t → (j : ℕ) × (position_from (owns_method (suc at.row)) 0 rec.type_def ≡ Some j)
owner_there recs at rec t here e =
    owner_row recs at rec t (position_from (owns_method (suc at.row)) 0 rec.type_def) refl
    (sym (ap (option_and_then (λ (rec : AsmRec). option_map (at_row at.asm) (position_from (owns_method (suc at.row)) 0 rec.type_def))) here) ∙ e)

method_size : (rec : AsmRec) → rows_in rec METHOD_DEF ≡ methods_in rec
unfolding table_sizes
method_size rec = refl

module _ (m : Merge) (roots : List Root) (k : ℕ) (merge : IsMarkedMerge m (Some (at_row 0 k)) roots) (first : AsmRec) (there : slice_get m.inputs 0 ≡ Some first) (named : index_in METHOD_DEF first.entry ≡ Some k)
    (below : k < length first.method_def) where
  abbrev recs : List AsmRec
  recs = before m

  abbrev at : RowAt
  at = at_row 0 k

  abbrev is : IsMerge m
  is = merge.merge

  input : suc 0 < length recs
  input = let long = before_length m in let some = is.some in omega (arith, long, some)

  here : slice_get recs 0 ≡ Some first
  here = before_input m 0 input ∙ there

  is_row : IsThere methods_in recs at
  is_row = record { rec = first; here = here; below = below }

  row_is : row_of recs (method_item recs at) ≡ Some at
  unfolding row_of
  row_is = there_home methods_in recs at is_row

  pub entry_kept : m.kept (method_item recs at) ≡ true
  entry_kept = merge.all (method_item recs at) (ap is_some row_is) (entry_marked recs roots at merge.good)

  number_is : number_at methods_in recs at ≡ k
  unfolding rows_before
  number_is = omega arith

  abbrev place : ℕ
  place = rank (keeps methods_in recs number_method m.kept) (number_at methods_in recs at)

  new_number_is : (rho_of m).method k ≡ place
  unfolding kept_methods
  new_number_is = ap (rho_of m).method (sym number_is) ∙ new_kept methods_in method_core recs number_method m.kept at is_row input entry_kept

  new_row_at : new_row (kept_methods recs m.kept) at ≡ Some place
  unfolding kept_methods
  new_row_at = new_row_is methods_in recs number_method m.kept at is_row (input_below methods_in recs at is_row input) entry_kept

  low : suc place < 16777216
  low =
      let lt = rank_below methods_in recs number_method m.kept (number_at methods_in recs at) (input_below methods_in recs at is_row input) entry_kept in
      let counted = methods_counted m is in
      let few = is.few METHOD_DEF in
      let size = method_size m.left in
      omega (arith, lt, counted, few, size)

  -- ---- its token

  key_is : method_key recs 0 first first.entry ≡ Some (own_method (record { 0 = rows_before methods_in recs 0 + k }))
  key_is =
      let owner = has_owner recs roots at merge.good in
      let j = owner_there recs at first owner.0 here owner.1 in
      own_key recs 0 first k j.0 j.1 first.entry named below here input

  own_token : method_token (output m) (own_method (record { 0 = rows_before methods_in recs 0 + k })) ≡ row_token METHOD_DEF (Some place)
  unfolding method_token output_of
  own_token =
      ap (kept_token METHOD_DEF (kept_methods recs m.kept)) (there_home methods_in recs at is_row) ∙ ap (row_token METHOD_DEF) new_row_at

  not_spec : (table_of first.entry == METHOD_SPEC) ≡ false
  not_spec =
      let owner = has_owner recs roots at merge.good in
      let j = owner_there recs at first owner.0 here owner.1 in
      let six = eqb-true (table_of first.entry) METHOD_DEF (own_table recs 0 first k j.0 j.1 first.entry named) in
      ne_eqb (table_of first.entry) METHOD_SPEC (λ e. absurd (omega (arith, e, six)))

  moved : moved_callee (output m) 0 first first.entry ≡ row_token METHOD_DEF (Some place)
  unfolding moved_callee output_of
  moved =
      ap (λ (b : Bool). if b then token_or_none (instance_token (output m)) (instance_key recs 0 first first.entry) else token_or_none (method_token (output m)) (method_key recs 0 first first.entry)) not_spec
      ∙ ap (token_or_none (method_token (output m))) key_is ∙ own_token

  entry_is : m.left.entry ≡ moved_callee (output m) 0 first first.entry
  entry_is =
      let l = left_is m is in
      let same : l.primary ≡ first = same_some l.primary first (sym l.first ∙ there) in
      ap (λ (rec : AsmRec). rec.entry) l.is ∙ ap (λ (rec : AsmRec). moved_callee (output m) 0 rec rec.entry) same

  pub entry_moved : index_in METHOD_DEF m.left.entry ≡ Some ((rho_of m).method k)
  entry_moved = ap (index_in METHOD_DEF) (entry_is ∙ moved) ∙ row_named place low ∙ ap Some (sym new_number_is)

  pub entry_below : (rho_of m).method k < length m.left.method_def
  entry_below =
      let lt = rank_below methods_in recs number_method m.kept (number_at methods_in recs at) (input_below methods_in recs at is_row input) entry_kept in
      let counted = methods_counted m is in
      let new = new_number_is in
      omega (arith, lt, counted, new)

pub entry_moves : EntryMoves
entry_moves m entry roots k merge e =
    let marked = subst (λ (o : Option RowAt). IsMarkedMerge m o roots) e.is merge in
    (entry_moved m roots k marked e.first e.there e.names e.below, entry_below m roots k marked e.first e.there e.names e.below)

-- ---- the program

module _ (law : LeftIsRecord) (m : Merge) (entry : Option RowAt) (roots : List Root) (holds : Fact → Bool) (k : ℕ) (flagged : IsFlagged m entry roots holds) (only : OnlyMarks (before m) entry roots (flags_of m holds))
    (followed : IsFollowed m entry roots) (names : NamesApart m entry roots) (stands : OutputStands m) (reads : OutputReads m (keep_by m holds)) (e : IsEntry m entry k) where
  own_number : number_at methods_in (before m) (at_row 0 k) ≡ k
  unfolding rows_before
  own_number = omega arith

  some_input : suc 0 < length (before m)
  some_input = let long = before_length m in let some = flagged.merge.merge.some in omega (arith, long, some)

  entry_row : IsThere methods_in (before m) (at_row 0 k)
  entry_row = record { rec = e.first; here = before_input m 0 some_input ∙ e.there; below = e.below }

  entry_stays : IsTrue ((keep_by m holds).method (number_at methods_in (before m) (at_row 0 k)))
  entry_stays =
      let merge = subst (λ (o : Option RowAt). IsMarkedMerge m o roots) e.is flagged.merge in
      method_kept m entry roots holds flagged (at_row 0 k) entry_row ∙ entry_kept m roots k merge e.first e.there e.names e.below

  -- a method of an input can be called
  entry_called : IsTrue ((keep_by m holds).called (number_at methods_in (before m) (at_row 0 k)))
  entry_called =
      called_is (before m) (flags_of m holds) (number_at methods_in (before m) (at_row 0 k))
      (input_searches_nothing (before m) (number_at methods_in (before m) (at_row 0 k)) (at_row 0 k) (there_home methods_in (before m) (at_row 0 k) entry_row) some_input)

  entry_flag : IsTrue (can_call (keep_by m holds) k)
  entry_flag =
      let i : ℕ = number_at methods_in (before m) (at_row 0 k) in
      subst (λ (i : ℕ). IsTrue (can_call (keep_by m holds) i)) own_number (and_from ((keep_by m holds).method i) ((keep_by m holds).called i) entry_stays entry_called)

  pub program_runs : (bytes : List ℕ) (n : ℕ) → run_from (queries_of (after m)) (entry_number m.left) bytes n ≡ move_outcome (rho_of m) (run_from (queries_of (before m)) k bytes n)
  program_runs bytes n =
      ap (λ (o : Option ℕ). run_from (queries_of (after m)) (unwrap_or o 0) bytes n) (entry_moves m entry roots k flagged.merge e).0
      ∙ runs_alike law m entry roots holds flagged only followed names stands reads k entry_flag bytes n

pub programs_run : LeftIsRecord → ProgramsRun
programs_run law m entry roots holds k flagged only followed names stands reads e bytes n = program_runs law m entry roots holds k flagged only followed names stands reads e bytes n
