-- A method that a token names is named, moved, by the token that its key has in the output.
use Rattle.std.proofs.Common.{◌≡◌, ◌<◌, ℕ, suc, Bool, true, false, List, [], length, Option, Some, None, ◌⊎◌, inl, inr, refl, sym, ap, subst, ◌∙◌, ◌||◌}
use Rattle.std.specs.Prelude.{IsTrue, slice_get, ◌==◌}
use Rattle.std.specs.List.{list_any}
use Rattle.std.specs.Option.{option_and_then, is_some}
use Rattle.std.proofs.lemmas.Bool.{eqb-true}
use Rattle.il_base.specs.declared.ids.TypeId.{TypeId}
use Rattle.il_base.specs.declared.ids.Item.TheVariants as item
use Rattle.il_base.specs.declared.world_model.known.Known.TheVariants.{Good}
use Rattle.il_base.specs.declared.world_model.expr.TypeExpr.{TypeExpr}
use Rattle.il_base.specs.declared.world_model.expr.MethodUse.{MethodUse}
use Rattle.il_base.specs.declared.world_model.members.MethodDefRow.{MethodDefRow}
use Rattle.il_base.specs.declared.world_model.record.AsmRec.{AsmRec}
use Rattle.il_base.specs.world_model.Worlds.{types_in}
use Rattle.rules.specs.declared.link_rules.row_at.RowAt.{RowAt}
use Rattle.rules.specs.declared.link_rules.member_type.MethodType.{MethodType}
use Rattle.rules.specs.link_rules.Members.{type_home, owner_of, args_of, methods_in, Found, find_method, method_of_type, most_levels, method_use, param_count, own_type, with_own_args, owns_method}
use Rattle.rules.specs.link_rules.Members as link
use Rattle.rules.specs.link_rules.Cycles.{listed, home_of}
use Rattle.rules.specs.type_rules.Rows.{methods_of_type}
use Rattle.rules.specs.type_rules.Slots.{method_row_at, type_of_method, type_of_row}
use Rattle.rules.specs.mark_rules.Places.{is_core, row_of}
use Rattle.rules.specs.merge_rules.Numbers.{kept_types}
use Rattle.rules.specs.change_rules.Change.{Keep}
use Rattle.run_laws.specs.query_laws.Laws.{first_at}
use Rattle.rules.specs.world_change_rules.Places.{keeps_type_row, keeps_method_row}
use Rattle.run_laws.proofs.lemmas.marked_code_laws.Owners.{looked_up}
use Rattle.run_laws.proofs.lemmas.closed_laws.Runs.{methods_apart}
use Rattle.rules.specs.merged_world_rules.Merge.{Merge, IsMerge, before}
use Rattle.rules.specs.merged_world_rules.Numbering.{number_at}
use Rattle.rules.specs.merged_world_rules.NewNumbers.{type_core}
use Rattle.merge_laws.proofs.lemmas.merged_places.Rows.{place_has, there_home, home_there, home_number}
use Rattle.merge_laws.proofs.lemmas.merged_places.Kept.{kept_at}
use Rattle.merge_laws.proofs.lemmas.merged_places.Numbers.{new_row_at}
use Rattle.merge_laws.proofs.lemmas.merged_places.Tables.{number_type}
use Rattle.merge_laws.proofs.lemmas.merged_places.Whole.{there_row}
use Rattle.merge_laws.specs.merged_references.Written.{IsWritten, kept_type, core_type}
use Rattle.merge_laws.specs.merged_signatures.Laws.{IsThere as IsTypeThere}
use Rattle.trim_laws.specs.merged_uses.Laws.{Reads}
use Rattle.trim_laws.proofs.lemmas.merged_uses.Leaves.{All}
use Rattle.trim_laws.proofs.lemmas.merged_uses.Owners.{Shape, put_shape, put_owner, looked}
use Rattle.trim_laws.proofs.lemmas.merged_uses.Sound.{Ok, token_ok}
use Rattle.trim_laws.proofs.lemmas.merged_uses.Based.{array_ok, base_ok}
use Rattle.trim_laws.proofs.lemmas.merged_uses.Matches.{first_passes, fits, method_is, fits_from, first_own}
use Rattle.trim_laws.proofs.lemmas.merged_uses.Uses.{ByReference}

pub then_from : {A B : Type 0} (f : A → Option B) (o : Option A) (y : B) → option_and_then f o ≡ Some y → (x : A) × (o ≡ Some x) × (f x ≡ Some y)
then_from f None y e = absurd (cc)
then_from f (Some x) y e = (x, refl, e)

pub either : (a b : Bool) → (a || b) ≡ true → (a ≡ true) ⊎ (b ≡ true)
either true b h = inl refl
either false b h = inr h

module _ (m : Merge) (k : Keep) (kept : RowAt → Bool) (r : Reads m k kept) where
  abbrev is : IsMerge m
  is = r.merge

  -- ---- what is met is kept

  pub any_listed : {A : Type 0} (p : A → Bool) (o : Option A) → list_any p (listed o) ≡ true → (x : A) × (o ≡ Some x) × (p x ≡ true)
  any_listed p None h = absurd (cc)
  any_listed p (Some x) h = (x, refl, or_last (p x) h)
    where
      or_last : (b : Bool) → (b || false) ≡ true → b ≡ true
      or_last true h = refl
      or_last false h = h

  core_last : (at : RowAt) (rec : AsmRec) → slice_get (before m) at.asm ≡ Some rec → at.row < methods_in rec → is_core (before m) (item.Method (record { 0 = number_at methods_in (before m) at })) ≡ true → suc at.asm ≡ length (before m)
  unfolding is_core row_of
  core_last at rec there below h =
      let home = there_home methods_in (before m) at (record { rec = rec; here = there; below = below }) in
      let x = any_listed (λ (x : RowAt). suc x.asm == length (before m)) (row_of (before m) (item.Method (record { 0 = number_at methods_in (before m) at }))) h in
      let same : Some at ≡ Some x.0 = sym home ∙ x.1 in
      let one : at ≡ x.0 = cc in
      subst (λ (y : RowAt). suc y.asm ≡ length (before m)) (sym one) (eqb-true (suc x.0.asm) (length (before m)) x.2)

  pub keeps_method : (at : RowAt) (rec : AsmRec) → slice_get (before m) at.asm ≡ Some rec → at.row < methods_in rec
      → IsTrue (m.kept (item.Method (record { 0 = number_at methods_in (before m) at })) || is_core (before m) (item.Method (record { 0 = number_at methods_in (before m) at }))) → IsTrue (keeps_method_row k (before m) at)
  keeps_method at rec there below h =
      let row = place_has rec.method_def at.row below in
      let e : method_row_at (before m) at ≡ Some row.0 = ap (option_and_then (λ (x : AsmRec). slice_get x.method_def at.row)) there ∙ row.1 in
      by_case row.0 e (either (m.kept (item.Method (record { 0 = number_at methods_in (before m) at }))) (is_core (before m) (item.Method (record { 0 = number_at methods_in (before m) at }))) h)
    where
      by_case : (x : MethodDefRow) → method_row_at (before m) at ≡ Some x → (m.kept (item.Method (record { 0 = number_at methods_in (before m) at })) ≡ true) ⊎ (is_core (before m) (item.Method (record { 0 = number_at methods_in (before m) at })) ≡ true)
          → IsTrue (keeps_method_row k (before m) at)
      by_case x e (inl g) = r.flags.methods at x e ∙ g
      by_case x e (inr g) = r.flags.core_methods at x (core_last at rec there below g) e

  -- a type that is written has its flag
  written_keeps : (t : TypeId) (at : RowAt) → type_home (before m) t ≡ Some at → IsWritten m t → ((x : RowAt) → type_home (before m) t ≡ Some x → suc x.asm ≡ length (before m) → (s : ℕ) × ((type_core m).to x.row ≡ Some s)) → IsTrue (keeps_type_row k (before m) at)
  unfolding kept_types
  written_keeps t at home (kept_type x i e lt new) stays =
      let same : Some x ≡ Some at = sym e ∙ home in
      let one : x ≡ at = cc in
      let in_rows = new_row_at (kept_types (before m) m.kept) x i new in
      let is_kept = (kept_at types_in (before m) number_type m.kept i x in_rows).1 in
      let there = home_there types_in (before m) t.0 x e in
      let row = there_row (λ rec. rec.type_def) (before m) x there in
      subst (λ (y : RowAt). IsTrue (keeps_type_row k (before m) y)) one (r.flags.types x row.0 lt row.1 ∙ is_kept)
  written_keeps t at home (core_type x e last c) stays =
      let same : Some x ≡ Some at = sym e ∙ home in
      let one : x ≡ at = cc in
      let s = stays x e last in
      let there = home_there types_in (before m) t.0 x e in
      let row = there_row (λ rec. rec.type_def) (before m) x there in
      subst (λ (y : RowAt). IsTrue (keeps_type_row k (before m) y)) one (r.flags.core_types x row.0 last row.1 ∙ ap is_some s.1)

  pub keeps_there : (t : TypeId) (at : RowAt) → type_home (before m) t ≡ Some at → IsTypeThere m t → IsTrue (keeps_type_row k (before m) at)
  keeps_there t at home w = written_keeps t at home w.written w.stays

  pub keeps_number : (t : TypeId) (at : RowAt) → type_home (before m) t ≡ Some at → IsTrue (keeps_type_row k (before m) at) → IsTrue (k.typ t.0)
  keeps_number t at home h = ap k.typ (sym (home_number types_in (before m) t.0 at home)) ∙ h

  -- ---- a member reference of an input, in its world

  module _ (a : ℕ) (rec : AsmRec) (there : slice_get (before m) a ≡ Some rec) (input : suc a < length (before m)) where
    -- where the method is, and that it is the first there of its own name and signature
    pub record Searched (e : TypeExpr) (at : RowAt) : Type 0 where
      pub all : All (Ok (before m)) e
      pub shape : Shape e
      pub t : TypeId
      pub owner : owner_of (before m) e ≡ Some t
      pub home : RowAt
      pub is_home : type_home (before m) t ≡ Some home
      pub row : MethodDefRow
      pub row_there : method_row_at (before m) at ≡ Some row
      pub type : MethodType
      pub type_reads : type_of_row (before m) at ≡ Some (Good type)
      pub first : first_at (fits (before m) [] row.name type) (methods_of_type (before m) home) ≡ Some at
      pub has : type_of_method (before m) at ≡ Some home

    abbrev look : List ℕ → MethodType → TypeExpr → Option RowAt
    look name wanted = method_of_type (before m) name wanted

    has_owner : (name : List ℕ) (wanted : MethodType) (y : TypeExpr) (at home : RowAt) → home_of (before m) y ≡ Some home → method_of_type (before m) name wanted y ≡ Some at → type_of_method (before m) at ≡ Some home
    unfolding method_of_type
    has_owner name wanted y at home h e =
        let l = looked_up (before m) (λ t. t.method_list_first) (λ t. t.method_list_end) (λ r. r.method_def) (methods_apart m.inputs is.records)
        (λ x rec. link.is_method (before m) x.asm rec (args_of y) name wanted) y at e in
        let same : Some l.owner ≡ Some home = sym l.home ∙ h in
        l.row.owned ∙ same

    pub searched : (u : MethodUse) (b : ByReference (before m) a rec u) → Searched b.found.owner b.found.at
    unfolding find_method
    searched u b =
        let ok = token_ok (before m) a rec there input b.row.class b.parent b.reads in
        let l = looked (before m) (Ok (before m)) (array_ok m is) (base_ok m is) (look b.row.name b.wanted) b.parent b.found ok b.finds in
        let s = then_from (λ (x : RowAt). first_at (fits (before m) (args_of l.opened) b.row.name b.wanted) (methods_of_type (before m) x)) (home_of (before m) l.opened) b.found.at
        (sym (method_is (before m) b.row.name b.wanted l.opened) ∙ l.looks) in
        let o = then_from (type_home (before m)) (owner_of (before m) l.opened) s.0 s.1 in
        let shape = l.fit.shape o.0 o.1 in
        let f = fits_from (before m) (args_of l.opened) b.row.name b.wanted b.found.at
        (first_passes (fits (before m) (args_of l.opened) b.row.name b.wanted) (methods_of_type (before m) s.0) b.found.at s.2) in
        record {
          all = l.all;
          shape = subst Shape (sym l.owner) (put_shape (args_of b.parent) l.opened shape);
          t = o.0;
          owner = ap (owner_of (before m)) l.owner ∙ put_owner (before m) (args_of b.parent) l.opened shape ∙ o.1;
          home = s.0;
          is_home = o.2;
          row = f.row;
          row_there = f.there;
          type = f.type;
          type_reads = f.reads;
          first = first_own (before m) (args_of l.opened) b.row.name b.wanted (methods_of_type (before m) s.0) b.found.at f s.2;
          has = has_owner b.row.name b.wanted l.opened b.found.at s.0 s.1 l.looks;
        }
