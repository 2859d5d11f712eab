-- Answers that are looked up at one row: of kept types, methods and fields they move.
use Rattle.std.proofs.Common.{◌≡◌, ℕ, Bool, List, Option, Some, None, refl, sym, ap, subst, ◌∙◌}
use Rattle.std.specs.Prelude.{IsTrue}
use Rattle.std.specs.Option.{option_map, option_and_then}
use Rattle.il_base.specs.declared.world_model.record.AsmRec.{AsmRec}
use Rattle.il_base.specs.world_model.Worlds.{types_in}
use Rattle.rules.specs.declared.link_rules.row_at.RowAt.{RowAt}
use Rattle.rules.specs.link_rules.Members.{home_from, methods_in, fields_in, type_home}
use Rattle.rules.specs.view_rules.Methods.{head_at, method_at, field_at, head_query, method_query, field_query}
use Rattle.rules.specs.change_rules.Change.{Change}
use Rattle.rules.specs.change_rules.Answers.{move_method, move_field}
use Rattle.rules.specs.world_change_rules.Places.{Places, type_numbered, keeps_type_row, keeps_method_row, keeps_field_row}
use Rattle.rules.specs.world_change_rules.Rows.{RowsMove}
use Rattle.run_laws.proofs.lemmas.query_laws.Ids.{has_number}

module _ (k : Change) (kept : RowAt → Bool) (p : Places) (after before : List AsmRec) (r : RowsMove k kept p after before) where
  pub type_row_kept : (t : ℕ) (at : RowAt) → IsTrue (k.keep.typ t) → type_home before (type_numbered t) ≡ Some at → IsTrue (keeps_type_row k.keep before at)
  type_row_kept t at h e = subst (λ (n : ℕ). IsTrue (k.keep.typ n)) (sym (has_number types_in before t at e)) h

  pub method_row_kept : (m : ℕ) (at : RowAt) → IsTrue (k.keep.method m) → home_from methods_in 0 before m ≡ Some at → IsTrue (keeps_method_row k.keep before at)
  method_row_kept m at h e = subst (λ (n : ℕ). IsTrue (k.keep.method n)) (sym (has_number methods_in before m at e)) h

  pub field_row_kept : (f : ℕ) (at : RowAt) → IsTrue (k.keep.field f) → home_from fields_in 0 before f ≡ Some at → IsTrue (keeps_field_row k.keep before at)
  field_row_kept f at h e = subst (λ (n : ℕ). IsTrue (k.keep.field n)) (sym (has_number fields_in before f at e)) h

  head_by : (o : Option RowAt) → ((at : RowAt) → o ≡ Some at → IsTrue (keeps_type_row k.keep before at))
      → option_and_then (head_at after) (option_map p.typ o) ≡ option_and_then (head_at before) o
  head_by None h = refl
  head_by (Some at) h = (r.types at (h at refl)).head

  pub head_moved : (t : ℕ) → IsTrue (k.keep.typ t) → head_query after (k.rho.typ t) ≡ head_query before t
  unfolding head_query
  head_moved t h =
      ap (option_and_then (head_at after)) (r.places.type_homes t h) ∙ head_by (type_home before (type_numbered t)) (λ at e. type_row_kept t at h e)

  method_by : (o : Option RowAt) → ((at : RowAt) → o ≡ Some at → IsTrue (keeps_method_row k.keep before at))
      → option_and_then (method_at after) (option_map p.method o) ≡ option_map (move_method k.rho) (option_and_then (method_at before) o)
  method_by None h = refl
  method_by (Some at) h = (r.methods at (h at refl)).method

  pub method_moved : (m : ℕ) → IsTrue (k.keep.method m) → method_query after (k.rho.method m) ≡ option_map (move_method k.rho) (method_query before m)
  unfolding method_query
  method_moved m h =
      ap (option_and_then (method_at after)) (r.places.method_homes m h) ∙ method_by (home_from methods_in 0 before m) (λ at e. method_row_kept m at h e)

  field_by : (o : Option RowAt) → ((at : RowAt) → o ≡ Some at → IsTrue (keeps_field_row k.keep before at))
      → option_and_then (field_at after) (option_map p.field o) ≡ option_map (move_field k.rho) (option_and_then (field_at before) o)
  field_by None h = refl
  field_by (Some at) h = (r.fields at (h at refl)).field

  pub field_moved : (f : ℕ) → IsTrue (k.keep.field f) → field_query after (k.rho.field f) ≡ option_map (move_field k.rho) (field_query before f)
  unfolding field_query
  field_moved f h =
      ap (option_and_then (field_at after)) (r.places.field_homes f h) ∙ field_by (home_from fields_in 0 before f) (λ at e. field_row_kept f at h e)
