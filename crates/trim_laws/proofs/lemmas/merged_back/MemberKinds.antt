-- Fields and methods of what is left that are there twice come from such of an input.
use Rattle.std.proofs.Common.{◌≡◌, ◌<◌, ℕ, suc, Bool, true, List, [], ◌∷◌, length, map, Some, refl, ap, nat_eq, ◌&&◌}
use Rattle.std.specs.List.{filter}
use Rattle.std.specs.Prelude.{IsTrue, slice_get}
use Rattle.std.specs.Cmp.Lexicographic.{pointwise}
use Rattle.il_base.specs.declared.table.TheConstants.{FIELD, METHOD_DEF}
use Rattle.il_base.specs.declared.world_model.expr.TypeExpr.{TypeExpr}
use Rattle.il_base.specs.declared.world_model.types.TypeDefRow.{TypeDefRow}
use Rattle.il_base.specs.declared.world_model.members.FieldRow.{FieldRow}
use Rattle.il_base.specs.declared.world_model.members.MethodDefRow.{MethodDefRow}
use Rattle.il_base.specs.declared.world_model.record.AsmRec.{AsmRec}
use Rattle.il_base.specs.world_model.Records.{rows_in}
use Rattle.il_base.specs.world_model.Exprs.{same_bool, same_expr, same_exprs}
use Rattle.il_base.specs.world_model.Worlds.{types_in, known_then, known_map, sig_expr}
use Rattle.rules.specs.declared.link_rules.row_at.RowAt.{RowAt}
use Rattle.rules.specs.declared.link_rules.member_type.MethodType.{MethodType}
use Rattle.rules.specs.link_rules.Signatures.{names_at, method_type, same_method_type}
use Rattle.rules.specs.link_rules.Members.{methods_in, fields_in, is_in_run, is_compiler_controlled}
use Rattle.rules.specs.link_rules.Faults.{same_member_key}
use Rattle.rules.specs.type_rules.Rows.{fields_of_type, methods_of_type}
use Rattle.rules.specs.merge_rules.Numbers.{kept_types, kept_methods, kept_fields}
use Rattle.rules.specs.merge_rules.Moved.{moved_field_row, moved_method_row}
use Rattle.rules.specs.merge_rules.Restricted.{put_rva}
use Rattle.rules.specs.change_rules.Change.{Rho, Keep, Undone}
use Rattle.rules.specs.change_rules.Moves.{move_expr, move_exprs}
use Rattle.base_laws.proofs.lemmas.change_laws.Same.{same_exprs_moved}
use Rattle.rules.specs.world_change_rules.Places.{keeps_type_row, keeps_method_row, keeps_field_row}
use Rattle.rules.specs.world_change_rules.Rows.{move_method_type}
use Rattle.rules.specs.merged_world_rules.Merge.{Merge, IsMerge, before, after, output}
use Rattle.rules.specs.merged_world_rules.Numbering.{number_at}
use Rattle.rules.specs.merged_world_rules.NewNumbers.{rho_of, back_of}
use Rattle.rules.specs.merged_world_rules.Kept.{HasFlags}
use Rattle.merge_laws.specs.merged_links.Repeats.{KeysBack, field_keys, method_keys}
use Rattle.merge_laws.proofs.lemmas.merged_places.Ranks.{rank}
use Rattle.merge_laws.proofs.lemmas.merged_places.Rows.{IsThere}
use Rattle.merge_laws.proofs.lemmas.merged_places.Kept.{keeps}
use Rattle.merge_laws.proofs.lemmas.merged_places.Tables.{number_type, number_field, number_method, field_kind, method_kind, field_left, method_left}
use Rattle.merge_laws.proofs.lemmas.merged_places.Situations.{place}
use Rattle.merge_laws.proofs.lemmas.merged_places.Whole.{there_row}
use Rattle.merge_laws.specs.merged_rows_move.Premises.{ReadsSignatures}
use Rattle.merge_laws.proofs.lemmas.merged_rows_move.Flags.{access_stays}
use Rattle.merge_laws.proofs.lemmas.merged_rows_move.Members.{methods_at, fields_at}
use Rattle.merge_laws.proofs.lemmas.merged_rows_move.Whole.{members}
use Rattle.trim_laws.specs.merged_back.Premises.{ReadsFieldSignatures}
use Rattle.trim_laws.proofs.lemmas.merged_back.Homes.{typ}
use Rattle.trim_laws.proofs.lemmas.merged_back.Rows.{KeptRow}
use Rattle.trim_laws.proofs.lemmas.merged_back.Members.{Member, member, keys_back}

-- ---- moved signatures are the same where the signatures are

module _ (back rho : Rho) (u : Undone back rho) where
  all_moved : (xs ys : List TypeExpr) → pointwise same_expr (move_exprs rho xs) (move_exprs rho ys) ≡ pointwise same_expr xs ys
  all_moved [] [] = refl
  all_moved [] (y ∷ ys) = refl
  all_moved (x ∷ xs) [] = refl
  all_moved (x ∷ xs) (y ∷ ys) = λ i. same_exprs_moved back rho u x y i && all_moved xs ys i

  pub same_methods : (a b : MethodType) → same_method_type (move_method_type rho a) (move_method_type rho b) ≡ same_method_type a b
  unfolding same_method_type same_exprs
  same_methods a b = λ i. same_bool a.this b.this && nat_eq a.generic b.generic && same_exprs_moved back rho u a.ret b.ret i && all_moved a.params b.params i

module _ (m : Merge) (is : IsMerge m) (k : Keep) (kept : RowAt → Bool) (flags : HasFlags m k kept) (undone : Undone (back_of m) (rho_of m)) where
  -- ---- fields

  fields_moved : (at : RowAt) → IsTrue (keeps_type_row k (before m) at)
      → fields_of_type (after m) (typ m is k kept flags at) ≡ map (place m fields_in number_field (field_kind m is)) (filter (keeps_field_row k (before m)) (fields_of_type (before m) at))
  unfolding kept_types kept_fields
  fields_moved at h = (members m k kept is flags at h).fields

  pub left_field : ReadsFieldSignatures m → (at : RowAt) (rec : AsmRec) (f : FieldRow) → IsThere fields_in (before m) at → suc at.asm < length (before m) → m.kept (number_field (number_at fields_in (before m) at)) ≡ true
      → slice_get (before m) at.asm ≡ Some rec → slice_get rec.field at.row ≡ Some f
      → (g : FieldRow) × (slice_get m.left.field (rank (keeps fields_in (before m) number_field m.kept) (number_at fields_in (before m) at)) ≡ Some g)
      × ((is_compiler_controlled g.flags ≡ is_compiler_controlled f.flags) × (g.name ≡ f.name)
      × (known_then (sig_expr (names_at (after m) 0 m.left)) g.signature ≡ known_map (move_expr (rho_of m)) (known_then (sig_expr (names_at (before m) at.asm rec)) f.signature)))
  left_field reads at rec f h lt keeps_it here e =
      (moved_field_row (output m) at rec f, field_left m is at rec f h lt keeps_it here e, (ap (λ (n : ℕ). nat_eq n 0) (access_stays 0x1000 f.flags refl), refl, reads at rec f here e lt keeps_it))

  pub field_member : (p j : ℕ) (o : KeptRow types_in (before m) number_type m.kept p) (t : TypeDefRow) → slice_get m.left.type_def p ≡ Some t → is_in_run t.field_list_first t.field_list_end (suc j) ≡ true → j < length m.left.field
      → Member m (λ rec. rec.field) (λ t. t.field_list_first) (λ t. t.field_list_end) number_field p j o
  field_member p j o t e h low =
      member m is k kept flags (λ rec. rec.field) (λ t. t.field_list_first) (λ t. t.field_list_end) number_field (field_kind m is) fields_of_type (λ recs at rec e t f. fields_at recs at rec e t f)
      (keeps_field_row k (before m)) (λ at h. let row = there_row (λ rec. rec.field) (before m) at h in flags.fields at row.0 row.1) fields_moved (λ rec. rows_in rec FIELD) (λ rec whole. whole.runs.fields) p j o t e h low

  pub fields_back : ReadsFieldSignatures m → KeysBack (same_member_key same_expr) (field_keys (before m)) (field_keys (after m) 0 m.left) m.inputs
  fields_back reads =
      keys_back m is k kept flags (λ rec. rec.field) (λ t. t.field_list_first) (λ t. t.field_list_end) number_field (field_kind m is) fields_of_type (λ recs at rec e t f. fields_at recs at rec e t f)
      (keeps_field_row k (before m)) (λ at h. let row = there_row (λ rec. rec.field) (before m) at h in flags.fields at row.0 row.1) fields_moved (λ rec. rows_in rec FIELD) (λ rec whole. whole.runs.fields)
      (λ f. f.flags) (λ f. f.name) (λ recs a rec f. known_then (sig_expr (names_at recs a rec)) f.signature) (move_expr (rho_of m)) same_expr (same_exprs_moved (back_of m) (rho_of m) undone) (left_field reads)

  -- ---- methods

  methods_moved : (at : RowAt) → IsTrue (keeps_type_row k (before m) at)
      → methods_of_type (after m) (typ m is k kept flags at) ≡ map (place m methods_in number_method (method_kind m is)) (filter (keeps_method_row k (before m)) (methods_of_type (before m) at))
  unfolding kept_types kept_methods
  methods_moved at h = (members m k kept is flags at h).methods

  left_method : ReadsSignatures m → (at : RowAt) (rec : AsmRec) (r : MethodDefRow) → IsThere methods_in (before m) at → suc at.asm < length (before m) → m.kept (number_method (number_at methods_in (before m) at)) ≡ true
      → slice_get (before m) at.asm ≡ Some rec → slice_get rec.method_def at.row ≡ Some r
      → (s : MethodDefRow) × (slice_get m.left.method_def (rank (keeps methods_in (before m) number_method m.kept) (number_at methods_in (before m) at)) ≡ Some s)
      × ((is_compiler_controlled s.flags ≡ is_compiler_controlled r.flags) × (s.name ≡ r.name)
      × (known_then (method_type (names_at (after m) 0 m.left)) s.signature ≡ known_map (move_method_type (rho_of m)) (known_then (method_type (names_at (before m) at.asm rec)) r.signature)))
  left_method reads at rec r h lt keeps_it here e =
      let l = method_left m is at rec r h lt keeps_it here e in
      (put_rva l.0 (moved_method_row (output m) at rec r), l.1, (ap (λ (n : ℕ). nat_eq n 0) (access_stays 0x4000 r.flags refl), refl, reads at rec r here e lt keeps_it))

  pub methods_back : ReadsSignatures m → KeysBack (same_member_key same_method_type) (method_keys (before m)) (method_keys (after m) 0 m.left) m.inputs
  methods_back reads =
      keys_back m is k kept flags (λ rec. rec.method_def) (λ t. t.method_list_first) (λ t. t.method_list_end) number_method (method_kind m is) methods_of_type (λ recs at rec e t f. methods_at recs at rec e t f)
      (keeps_method_row k (before m)) (λ at h. let row = there_row (λ rec. rec.method_def) (before m) at h in flags.methods at row.0 row.1) methods_moved (λ rec. rows_in rec METHOD_DEF) (λ rec whole. whole.runs.methods)
      (λ r. r.flags) (λ r. r.name) (λ recs a rec r. known_then (method_type (names_at recs a rec)) r.signature) (move_method_type (rho_of m)) same_method_type (same_methods (back_of m) (rho_of m) undone) (left_method reads)
