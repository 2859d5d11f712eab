-- The field that a reference of an input names: where it is, and that it is the first there of its own name and type.
use Rattle.std.proofs.Common.{◌≡◌, ◌<◌, ℕ, suc, Bool, true, List, [], length, Option, Some, ◌⊎◌, inl, inr, sym, ap, subst, ◌∙◌, ◌||◌}
use Rattle.std.specs.Prelude.{IsTrue, slice_get, ◌==◌}
use Rattle.std.specs.Option.{option_and_then}
use Rattle.std.proofs.lemmas.Bool.{eqb-true}
use Rattle.il_base.specs.declared.ids.TypeId.{TypeId}
use Rattle.il_base.specs.declared.ids.Item.TheVariants as item
use Rattle.il_base.specs.declared.world_model.known.Known.TheVariants.{Good}
use Rattle.il_base.specs.declared.world_model.expr.TypeExpr.{TypeExpr}
use Rattle.il_base.specs.declared.world_model.expr.FieldUse.{FieldUse}
use Rattle.il_base.specs.declared.world_model.members.FieldRow.{FieldRow}
use Rattle.il_base.specs.declared.world_model.record.AsmRec.{AsmRec}
use Rattle.rules.specs.declared.link_rules.row_at.RowAt.{RowAt}
use Rattle.rules.specs.link_rules.Members.{type_home, owner_of, args_of, fields_in, find_field, field_of_type}
use Rattle.rules.specs.link_rules.Members as link
use Rattle.rules.specs.link_rules.Cycles.{home_of}
use Rattle.rules.specs.type_rules.Rows.{field_row_at, fields_of_type}
use Rattle.rules.specs.mark_rules.Places.{is_core, row_of}
use Rattle.rules.specs.change_rules.Change.{Keep}
use Rattle.rules.specs.link_rules.Members.{owns_field}
use Rattle.run_laws.specs.query_laws.Laws.{first_at}
use Rattle.rules.specs.world_change_rules.Places.{keeps_field_row}
use Rattle.run_laws.proofs.lemmas.marked_code_laws.Owners.{looked_up, run_owner}
use Rattle.run_laws.proofs.lemmas.closed_laws.Runs.{fields_apart}
use Rattle.rules.specs.merged_world_rules.Merge.{Merge, IsMerge, before}
use Rattle.rules.specs.merged_world_rules.Numbering.{number_at}
use Rattle.merge_laws.proofs.lemmas.merged_places.Rows.{place_has, there_home}
use Rattle.trim_laws.specs.merged_uses.Laws.{Reads}
use Rattle.trim_laws.proofs.lemmas.merged_uses.Leaves.{All}
use Rattle.trim_laws.proofs.lemmas.merged_uses.Owners.{Shape, put_shape, put_owner, looked}
use Rattle.trim_laws.proofs.lemmas.merged_uses.Sound.{Ok, token_ok}
use Rattle.trim_laws.proofs.lemmas.merged_uses.Based.{array_ok, base_ok}
use Rattle.trim_laws.proofs.lemmas.merged_uses.Matches.{first_passes}
use Rattle.trim_laws.proofs.lemmas.merged_uses.FieldMatches.{type_of_field, fits, field_is, fits_from, first_own}
use Rattle.trim_laws.proofs.lemmas.merged_uses.FieldUses.{ByReference}
use Rattle.trim_laws.proofs.lemmas.merged_uses.Callees.{then_from, either, any_listed}

module _ (m : Merge) (k : Keep) (kept : RowAt → Bool) (r : Reads m k kept) where
  abbrev is : IsMerge m
  is = r.merge

  -- ---- what is met is kept

  core_last : (at : RowAt) (rec : AsmRec) → slice_get (before m) at.asm ≡ Some rec → at.row < fields_in rec → is_core (before m) (item.Field (record { 0 = number_at fields_in (before m) at })) ≡ true → suc at.asm ≡ length (before m)
  unfolding is_core row_of
  core_last at rec there below h =
      let home = there_home fields_in (before m) at (record { rec = rec; here = there; below = below }) in
      let x = any_listed m k kept r (λ (x : RowAt). suc x.asm == length (before m)) (row_of (before m) (item.Field (record { 0 = number_at fields_in (before m) at }))) h in
      let same : Some at ≡ Some x.0 = sym home ∙ x.1 in
      let one : at ≡ x.0 = cc in
      subst (λ (y : RowAt). suc y.asm ≡ length (before m)) (sym one) (eqb-true (suc x.0.asm) (length (before m)) x.2)

  pub keeps_field : (at : RowAt) (rec : AsmRec) → slice_get (before m) at.asm ≡ Some rec → at.row < fields_in rec
      → IsTrue (m.kept (item.Field (record { 0 = number_at fields_in (before m) at })) || is_core (before m) (item.Field (record { 0 = number_at fields_in (before m) at }))) → IsTrue (keeps_field_row k (before m) at)
  keeps_field at rec there below h =
      let row = place_has rec.field at.row below in
      let e : field_row_at (before m) at ≡ Some row.0 = ap (option_and_then (λ (x : AsmRec). slice_get x.field at.row)) there ∙ row.1 in
      by_case row.0 e (either (m.kept (item.Field (record { 0 = number_at fields_in (before m) at }))) (is_core (before m) (item.Field (record { 0 = number_at fields_in (before m) at }))) h)
    where
      by_case : (x : FieldRow) → field_row_at (before m) at ≡ Some x → (m.kept (item.Field (record { 0 = number_at fields_in (before m) at })) ≡ true) ⊎ (is_core (before m) (item.Field (record { 0 = number_at fields_in (before m) at })) ≡ true)
          → IsTrue (keeps_field_row k (before m) at)
      by_case x e (inl g) = r.flags.fields at x e ∙ g
      by_case x e (inr g) = r.flags.core_fields at x (core_last at rec there below g) e

  -- ---- a member reference of an input, in its world

  module _ (a : ℕ) (rec : AsmRec) (there : slice_get (before m) a ≡ Some rec) (input : suc a < length (before m)) where
    -- where the method is, and that it is the first there of its own name and signature
    pub record Searched (e : TypeExpr) (at : RowAt) : Type 0 where
      pub all : All (Ok (before m)) e
      pub shape : Shape e
      pub t : TypeId
      pub owner : owner_of (before m) e ≡ Some t
      pub home : RowAt
      pub is_home : type_home (before m) t ≡ Some home
      pub row : FieldRow
      pub row_there : field_row_at (before m) at ≡ Some row
      pub type : TypeExpr
      pub type_reads : type_of_field (before m) at ≡ Some (Good type)
      pub first : first_at (fits (before m) [] row.name type) (fields_of_type (before m) home) ≡ Some at
      pub has : run_owner (before m) owns_field at ≡ Some home

    abbrev look : List ℕ → TypeExpr → TypeExpr → Option RowAt
    look name wanted = field_of_type (before m) name wanted

    has_owner : (name : List ℕ) (wanted : TypeExpr) (y : TypeExpr) (at home : RowAt) → home_of (before m) y ≡ Some home → field_of_type (before m) name wanted y ≡ Some at → run_owner (before m) owns_field at ≡ Some home
    unfolding field_of_type
    has_owner name wanted y at home h e =
        let l = looked_up (before m) (λ t. t.field_list_first) (λ t. t.field_list_end) (λ r. r.field) (fields_apart m.inputs is.records)
        (λ x rec. link.is_field (before m) x.asm rec (args_of y) name wanted) y at e in
        let same : Some l.owner ≡ Some home = sym l.home ∙ h in
        l.row.owned ∙ same

    pub searched : (u : FieldUse) (b : ByReference (before m) a rec u) → Searched b.found.owner b.found.at
    unfolding find_field
    searched u b =
        let ok = token_ok (before m) a rec there input b.row.class b.parent b.reads in
        let l = looked (before m) (Ok (before m)) (array_ok m is) (base_ok m is) (look b.row.name b.wanted) b.parent b.found ok b.finds in
        let s = then_from (λ (x : RowAt). first_at (fits (before m) (args_of l.opened) b.row.name b.wanted) (fields_of_type (before m) x)) (home_of (before m) l.opened) b.found.at
        (sym (field_is (before m) b.row.name b.wanted l.opened) ∙ l.looks) in
        let o = then_from (type_home (before m)) (owner_of (before m) l.opened) s.0 s.1 in
        let shape = l.fit.shape o.0 o.1 in
        let f = fits_from (before m) (args_of l.opened) b.row.name b.wanted b.found.at
        (first_passes (fits (before m) (args_of l.opened) b.row.name b.wanted) (fields_of_type (before m) s.0) b.found.at s.2) in
        record {
          all = l.all;
          shape = subst Shape (sym l.owner) (put_shape (args_of b.parent) l.opened shape);
          t = o.0;
          owner = ap (owner_of (before m)) l.owner ∙ put_owner (before m) (args_of b.parent) l.opened shape ∙ o.1;
          home = s.0;
          is_home = o.2;
          row = f.row;
          row_there = f.there;
          type = f.type;
          type_reads = f.reads;
          first = first_own (before m) (args_of l.opened) b.row.name b.wanted (fields_of_type (before m) s.0) b.found.at f s.2;
          has = has_owner b.row.name b.wanted l.opened b.found.at s.0 s.1 l.looks;
        }
