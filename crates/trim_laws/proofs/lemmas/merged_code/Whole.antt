-- A kept method moves, whether it is of an input or of the core library; the law.
use Rattle.std.proofs.Common.{◌≡◌, ◌<◌, ℕ, suc, Bool, true, false, List, length, Option, Some, inl, inr, refl, sym, ap, subst, ◌∙◌, arith}
use Rattle.std.specs.Prelude.{IsTrue, slice_get, not, ◌==◌, ◌&&◌, ◌||◌}
use Rattle.std.specs.List.{list_any}
use Rattle.std.specs.Option.{option_map, option_and_then}
use Rattle.std.proofs.lemmas.Bool.{ne_eqb, eq-eqb}
use Rattle.descriptor_file.specs.declared.root.Root.{Root}
use Rattle.il_base.specs.declared.world_model.types.TypeDefRow.{TypeDefRow}
use Rattle.il_base.specs.declared.world_model.members.MethodDefRow.{MethodDefRow}
use Rattle.il_base.specs.declared.world_model.record.AsmRec.{AsmRec}
use Rattle.il_base.specs.world_model.Worlds.{types_in, known_map}
use Rattle.rules.specs.declared.link_rules.row_at.RowAt.{RowAt}
use Rattle.rules.specs.link_rules.Types.{at_row}
use Rattle.rules.specs.link_rules.Members.{methods_in, is_interface_row}
use Rattle.rules.specs.link_rules.Cycles.{listed}
use Rattle.rules.specs.type_rules.Rows.{type_row_at}
use Rattle.rules.specs.type_rules.Slots.{type_of_method}
use Rattle.rules.specs.mark_rules.Places.{type_item}
use Rattle.rules.specs.mark_rules.BadItems.{is_global, is_platform, is_interface_body}
use Rattle.rules.specs.view_rules.Methods.{body_by, is_core_row, body_of, method_at}
use Rattle.rules.specs.merge_rules.Numbers.{kept_methods}
use Rattle.rules.specs.merge_rules.Moved.{moved_method_row}
use Rattle.rules.specs.merge_rules.Restricted.{put_rva}
use Rattle.rules.specs.change_rules.Change.{Keep, Undone}
use Rattle.rules.specs.change_rules.Answers.{move_code, move_method}
use Rattle.rules.specs.world_change_rules.Places.{keeps_method_row}
use Rattle.rules.specs.world_change_rules.Rows.{MethodMoves}
use Rattle.rules.specs.merged_world_rules.Merge.{Merge, before, after, output}
use Rattle.rules.specs.merged_world_rules.Numbering.{number_at}
use Rattle.rules.specs.merged_world_rules.NewNumbers.{rho_of, back_of, change_of, places_of}
use Rattle.rules.specs.merged_world_rules.Kept.{HasFlags}
use Rattle.merge_laws.proofs.lemmas.merged_places.Ranks.{rank}
use Rattle.merge_laws.proofs.lemmas.merged_places.Rows.{IsThere, place_has}
use Rattle.merge_laws.proofs.lemmas.merged_places.Kept.{keeps}
use Rattle.merge_laws.proofs.lemmas.merged_places.Worlds.{core_of, left_core, after_left, after_core, core_at, core_rec}
use Rattle.merge_laws.proofs.lemmas.merged_places.CoreTables.{method_same}
use Rattle.merge_laws.proofs.lemmas.merged_places.Moving.{place_kept}
use Rattle.merge_laws.proofs.lemmas.merged_places.Situations.{place_there, situation, Input, Core}
use Rattle.merge_laws.proofs.lemmas.merged_places.Tables.{number_type, number_method, type_kind, method_kind, method_left}
use Rattle.merge_laws.proofs.lemmas.merged_places.Whole.{row_there, type_stays, method_stays}
use Rattle.merge_laws.proofs.lemmas.merged_rows_move.RowsOf.{type_test, method_like}
use Rattle.merge_laws.proofs.lemmas.merged_rows_move.Whole.{marks, signatures}
use Rattle.merge_laws.specs.merged_standing.Laws.{ReferenceRowsStand}
use Rattle.merge_laws.specs.merged_references.Written.{HasReferenceRows}
use Rattle.trim_laws.specs.marked_merge_rules.Merges.{IsMarkedMerge}
use Rattle.trim_laws.proofs.lemmas.merged_modules.Modules.{stay}
use Rattle.trim_laws.specs.merged_code.Laws.{ReadsCode, MovesMethods}
use Rattle.trim_laws.proofs.lemmas.merged_code.Kept.{IsKept}
use Rattle.trim_laws.proofs.lemmas.merged_code.Flags.{seen_same, no_body_same, platform_same}
use Rattle.trim_laws.proofs.lemmas.merged_code.Flaws.{not_platform, not_interface_body, not_global}
use Rattle.trim_laws.proofs.lemmas.merged_code.Mets.{owner_is}
use Rattle.trim_laws.proofs.lemmas.merged_code.Bodies.{body_moves}
use Rattle.trim_laws.proofs.lemmas.merged_code.Methods.{typ, meth, two, owners, owner_kept, body_left, body_none, no_method, row_moves}

module _ (m : Merge) (entry : Option RowAt) (roots : List Root) (k : Keep) (kept : RowAt → Bool) (is : IsMarkedMerge m entry roots) (flags : HasFlags m k kept) (rows : HasReferenceRows m) (reads : ReadsCode m)
    (at : RowAt) (stays : IsTrue (keeps_method_row k (before m) at)) where
  abbrev new_type : RowAt → RowAt
  new_type t = typ m entry roots k kept is flags rows reads t

  abbrev new_method : RowAt → RowAt
  new_method x = meth m entry roots k kept is flags rows reads x

  abbrev Moves : Type 0
  Moves = method_at (after m) (meth m entry roots k kept is flags rows reads at) ≡ option_map (move_method (rho_of m)) (method_at (before m) at)

  -- the row of an owner
  owner_row : (rec : AsmRec) → slice_get (before m) at.asm ≡ Some rec → (t : RowAt) → type_of_method (before m) at ≡ Some t → (d : TypeDefRow) × (type_row_at (before m) t ≡ Some d) × (at.asm ≡ t.asm)
  owner_row rec there t of =
      let o = owner_is m at rec t there of in (
        o.row,
        subst (λ (x : RowAt). type_row_at (before m) x ≡ Some o.row) o.same (ap (option_and_then (λ (r : AsmRec). slice_get r.type_def o.place)) there ∙ o.is),
        ap (λ (x : RowAt). x.asm) o.same,
      )

  -- ---- a row of an input

  module _ (h : Input m methods_in number_method (method_kind m is.merge) at) (row : MethodDefRow) (is_row : slice_get h.there.rec.method_def at.row ≡ Some row) where
    abbrev rec : AsmRec
    rec = h.there.rec

    abbrev here : RowAt
    here = at_row 0 (rank (keeps methods_in (before m) number_method m.kept) (number_at methods_in (before m) at))

    kept_here : IsKept m at h.there.rec row
    kept_here = record { there = h.there.here; input = h.earlier; is = is_row; keeps = h.keeps_it }

    module _ (rva : ℕ) (t : RowAt) (of : type_of_method (before m) at ≡ Some t) where
      abbrev row' : MethodDefRow
      row' = put_rva rva (moved_method_row (output m) at h.there.rec row)

      owner_there : IsThere types_in (before m) t
      owner_there = let d = owner_row h.there.rec h.there.here t of in row_there (λ r. r.type_def) (before m) t d.0 d.1

      owner_early : suc t.asm < length (before m)
      owner_early = let d = owner_row h.there.rec h.there.here t of in let same = d.2 in let lt = h.earlier in omega (arith, same, lt)

      kept_owner : m.kept (type_item (before m) t) ≡ true
      kept_owner = let d = owner_row h.there.rec h.there.here t of in owner_kept m entry roots k kept is flags rows reads at stays t d.0 of d.1 owner_early

      now_owner : type_of_method (after m) here ≡ Some (new_type t)
      now_owner = ap (type_of_method (after m)) (sym h.moved) ∙ owners m entry roots k kept is flags rows reads at stays ∙ ap (option_map new_type) of

      -- what a type's row says
      interface_same : list_any is_interface_row (listed (type_row_at (after m) (new_type t))) ≡ list_any is_interface_row (listed (type_row_at (before m) t))
      interface_same = type_test m is.merge t is_interface_row (λ x y l. l.interface) (λ there. type_stays m is.merge k kept flags t (flags.keeps.owners at t stays of) there)

      abbrev interfaces : List AsmRec → Option RowAt → Bool
      interfaces recs o = list_any (λ (x : RowAt). list_any is_interface_row (listed (type_row_at recs x))) (listed o)

      owner_same : interfaces (after m) (type_of_method (after m) here) ≡ interfaces (before m) (type_of_method (before m) at)
      owner_same = ap (interfaces (after m)) now_owner ∙ ap (λ (b : Bool). b || false) interface_same ∙ sym (ap (interfaces (before m)) of)

      interface_off : is_interface_body (after m) here row' ≡ false
      interface_off =
          let owner = owner_same in
          let static = (method_like rva (output m) at h.there.rec row).static in
          let none = no_body_same rva (output m) at h.there.rec row in
          (λ i. owner i && (static i || not (none i))) ∙ not_interface_body m entry roots is at h.there.rec row kept_here

      global_before : is_global (before m) (Some t) ≡ false
      global_before = sym (ap (is_global (before m)) of) ∙ not_global m entry roots is at h.there.rec row kept_here

      type_place : new_type t ≡ at_row 0 (rank (keeps types_in (before m) number_type m.kept) (number_at types_in (before m) t))
      type_place = place_there m types_in number_type (type_kind m is.merge) t owner_there ∙ place_kept m types_in number_type (type_kind m is.merge) t owner_there owner_early kept_owner

      global_off : is_global (after m) (type_of_method (after m) here) ≡ false
      global_off =
          ap (is_global (after m)) now_owner
          ∙ ap (λ (x : RowAt). is_global (after m) (Some x)) type_place
          ∙ stay m entry roots is t owner_there owner_early kept_owner global_before

      platform_off : is_platform row' ≡ false
      platform_off = platform_same rva (output m) at h.there.rec row ∙ not_platform m entry roots is at h.there.rec row kept_here

      core_off : is_core_row (after m) here ≡ false
      core_off = let n = two m entry roots k kept is flags rows reads in ne_eqb 1 (length (after m)) (λ e. absurd (omega (arith, e, n)))

      input_off : is_core_row (before m) at ≡ false
      input_off = let lt = h.earlier in ne_eqb (suc at.asm) (length (before m)) (λ e. absurd (omega (arith, e, lt)))

      input_body : body_of (after m) here m.left row' ≡ option_map (known_map (move_code (rho_of m))) (body_of (before m) at h.there.rec row)
      input_body =
          body_left (is_core_row (after m) here) (is_platform row') (is_interface_body (after m) here row') (is_global (after m) (type_of_method (after m) here)) (option_map (body_by (after m) 0 m.left) row'.body) core_off
          platform_off interface_off global_off
          ∙ body_moves m entry roots is rows reads at h.there.rec row kept_here t of kept_owner row.body refl
          ∙ sym (ap (option_map (known_map (move_code (rho_of m))))
          (body_left (is_core_row (before m) at) (is_platform row) (is_interface_body (before m) at row) (is_global (before m) (type_of_method (before m) at)) (option_map (body_by (before m) at.asm h.there.rec) row.body) input_off
          (not_platform m entry roots is at h.there.rec row kept_here) (not_interface_body m entry roots is at h.there.rec row kept_here) (not_global m entry roots is at h.there.rec row kept_here)))

    input_moves : Moves
    input_moves =
        let left = method_left m is.merge at h.there.rec row h.there h.earlier h.keeps_it h.there.here is_row in
        row_moves m entry roots k kept is flags rows reads at stays here h.moved m.left (put_rva left.0 (moved_method_row (output m) at h.there.rec row)) (after_left m) left.1 h.there.rec row h.there.here is_row
        (seen_same row.flags) refl (λ t of. let d = owner_row h.there.rec h.there.here t of in (d.0, d.1)) (λ t of. input_body left.0 t of)

  -- ---- a row of the core library

  core_moves : Core m methods_in number_method (method_kind m is.merge) at → Moves
  core_moves h =
      let row = place_has h.there.rec.method_def at.row h.there.below in
      let e : slice_get (core_of m).method_def at.row ≡ Some row.0 = ap (λ (r : AsmRec). slice_get r.method_def at.row) (sym (core_rec m at h.there.rec h.there.here h.last)) ∙ row.1 in
      let n = two m entry roots k kept is flags rows reads in
      let after_is_core : is_core_row (after m) (at_row 1 h.row) ≡ true = eq-eqb 2 (length (after m)) (sym n) in
      let before_is_core : is_core_row (before m) at ≡ true = eq-eqb (suc at.asm) (length (before m)) h.last in
      row_moves m entry roots k kept is flags rows reads at stays (at_row 1 h.row) h.moved (left_core m) row.0 (after_core m) (method_same m at.row h.row h.goes ∙ e) (core_of m) row.0 (core_at m at h.last) e refl refl
      (λ t of. let d = owner_row (core_of m) (core_at m at h.last) t of in (d.0, d.1))
      (λ t of. body_none (is_core_row (after m) (at_row 1 h.row)) (is_platform row.0) (is_interface_body (after m) (at_row 1 h.row) row.0) (is_global (after m) (type_of_method (after m) (at_row 1 h.row)))
      (option_map (body_by (after m) 1 (left_core m)) row.0.body) after_is_core
      ∙ sym (ap (option_map (known_map (move_code (rho_of m))))
      (body_none (is_core_row (before m) at) (is_platform row.0) (is_interface_body (before m) at row.0) (is_global (before m) (type_of_method (before m) at)) (option_map (body_by (before m) at.asm (core_of m)) row.0.body) before_is_core)))

  -- ---- all

  method_moves : Moves
  method_moves = elim (situation m methods_in number_method (method_kind m is.merge) at (λ there. method_stays m is.merge k kept flags at stays there)) [
    | inl h ↦ (let row = place_has h.there.rec.method_def at.row h.there.below in input_moves h row.0 row.1)
    | inr other ↦ elim other [
      | inl h ↦ core_moves h
      | inr h ↦ no_method (after m) (new_method at) h.none_after ∙ sym (ap (option_map (move_method (rho_of m))) (no_method (before m) at h.none_before))
    ]
  ]

  pub whole : (undone : Undone (back_of m) (rho_of m)) → MethodMoves (change_of m undone k) (places_of m) (after m) (before m) at
  unfolding kept_methods
  whole undone =
      let own = (marks m k kept is.merge flags).methods at stays in
      record { there = own.there; absent = own.absent; signature = signatures m k kept is.merge flags reads.signatures at stays; owner = own.owner; method = method_moves }

pub methods : ReferenceRowsStand → MovesMethods
methods stand m entry roots k kept is flags reads undone at stays = whole m entry roots k kept is flags (stand m is.merge) reads at stays undone
