-- The first member with a name and a signature in the run of a type, by the rows of the name.
use Rattle.std.proofs.Common.{◌≡◌, ℕ, ◌+◌, ◌-◌, ◌<◌, ◌≤◌, List, length, take, drop, get_or, Bool, true, false, ◌&&◌, not, refl, ap, ◌∙◌, arith, length-drop}
use Rattle.std.proofs.lemmas.List.{take_all}
use Rattle.std.specs.Prelude.{slice_get}
use Rattle.std.specs.List.Sorted.{IsNonDecreasing}
use Rattle.il_base.specs.declared.world_model.expr.TypeExpr.{TypeExpr}
use Rattle.il_base.specs.declared.world_model.members.FieldRow.{FieldRow}
use Rattle.il_base.specs.declared.world_model.members.MethodDefRow.{MethodDefRow}
use Rattle.il_base.specs.declared.world_model.types.TypeDefRow.{TypeDefRow}
use Rattle.il_base.specs.declared.world_model.record.AsmRec.{AsmRec}
use Rattle.il_base.specs.world_model.Worlds.{known_then, sig_expr}
use Rattle.rules.specs.link_rules.Signatures.{names_at, method_type}
use Rattle.rules.specs.link_rules.Members.{is_compiler_controlled, is_method_type, is_field_type, find_in_run}
use Rattle.type_tables.specs.declared.member_search.members.Wanted.{Wanted}
use Rattle.type_tables.specs.declared.member_search.members.Wanted.TheVariants.{Method, Field}
use Rattle.type_tables.specs.declared.member_search.names.Names.{Names}
use Rattle.type_tables.specs.member_search.Names.{first_fitting, is_method_named, is_field_named, AreNames}
use Rattle.type_tables.specs.member_search.Wanted.{allows, run_in, rows_named, fits_at, fits, member_in}
use Rattle.type_tables.proofs.lemmas.member_search.Places.{places_in_order, run_by_places}

pub rows_in_order : (rec : AsmRec) (names : Names) (wanted : Wanted) (name : List ℕ) → AreNames rec names → IsNonDecreasing (rows_named wanted names name)
rows_in_order rec names (Method among w) name are = rw (are.methods name) (places_in_order (is_method_named name) rec.method_def 0)
rows_in_order rec names (Field w) name are = rw (are.fields name) (places_in_order (is_field_named name) rec.field 0)

-- three tests, the last two of them together
pub grouped : (a b c : Bool) → (a && (b && c)) ≡ (a && b && c)
grouped true b c = refl
grouped false b c = refl

-- all that is after a place
pub all_behind : (n : ℕ) (ks : List ℕ) → take (length ks - n) (drop n ks) ≡ drop n ks
all_behind n ks = take_all (length ks - n) (drop n ks) (let e = length-drop n ks in omega (arith, e))

-- where the rows of a name go over from those before a place to those from it on
pub record GoesOver (rows : List ℕ) (s n : ℕ) : Type 0 where
  pub within : n ≤ length rows
  pub before : (k : ℕ) → k < n → get_or rows k 0 < s
  pub behind : (k : ℕ) → n ≤ k → k < length rows → s ≤ get_or rows k 0

module _ (recs : List AsmRec) (a : ℕ) (rec : AsmRec) (names : Names) (are : AreNames rec names) (targs : List TypeExpr) (name : List ℕ) (t : TypeDefRow) where
  pub member_found : (wanted : Wanted) (n : ℕ) → GoesOver (rows_named wanted names name) ((run_in wanted t).first - 1) n
      → first_fitting (fits recs a rec targs wanted) ((run_in wanted t).first - 1 + ((run_in wanted t).end - (run_in wanted t).first)) (drop n (rows_named wanted names name))
      ≡ member_in recs a rec targs name wanted t
  unfolding fits member_in
  member_found (Method among w) n over =
      let rows = are.methods name in
      let start : ℕ = t.method_list_first - 1 in
      let has : MethodDefRow → Bool = λ m. allows among m && is_method_type targs w (known_then (method_type (names_at recs a rec)) m.signature) in
      ap (λ (ks : List ℕ). first_fitting (λ k. fits_at has (slice_get rec.method_def k)) (start + (t.method_list_end - t.method_list_first)) (drop n ks)) rows
      ∙ run_by_places (is_method_named name) has (λ k. fits_at has (slice_get rec.method_def k)) rec.method_def start (t.method_list_end - t.method_list_first) n
      (λ k m e. ap (fits_at has) e) (rw rows at over.within) (rw rows at over.before) (rw rows at over.behind)
  member_found (Field w) n over =
      let rows = are.fields name in
      let start : ℕ = t.field_list_first - 1 in
      let typed : FieldRow → Bool = λ f. is_field_type targs w (known_then (sig_expr (names_at recs a rec)) f.signature) in
      let has : FieldRow → Bool = λ f. not (is_compiler_controlled f.flags) && typed f in
      ap (λ (ks : List ℕ). first_fitting (λ k. fits_at has (slice_get rec.field k)) (start + (t.field_list_end - t.field_list_first)) (drop n ks)) rows
      ∙ run_by_places (is_field_named name) has (λ k. fits_at has (slice_get rec.field k)) rec.field start (t.field_list_end - t.field_list_first) n
      (λ k f e. ap (fits_at has) e) (rw rows at over.within) (rw rows at over.before) (rw rows at over.behind)
      ∙ ap (λ (is : FieldRow → Bool). find_in_run is t.field_list_first t.field_list_end rec.field) (λ i f. grouped (is_field_named name f) (not (is_compiler_controlled f.flags)) (typed f) i)
