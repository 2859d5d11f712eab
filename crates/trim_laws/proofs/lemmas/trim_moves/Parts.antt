-- The base of a kept type and the interface of a kept row have a reading, since nothing that is marked has a flaw.
use Rattle.std.proofs.Common.{◌≡◌, ◌<◌, ◌≤◌, ℕ, suc, Bool, true, false, List, [], ◌∷◌, ◌++◌, length, Option, Some, None, ◌⊎◌, inl, inr, refl, sym, subst, ◌∙◌}
use Rattle.std.proofs.lemmas.Bool.{cases_lt}
use Rattle.std.specs.Prelude.{IsTrue, slice_get, ◌==◌, if◌then◌else◌}
use Rattle.std.specs.List.{flat_map}
use Rattle.il_base.specs.declared.table.TheConstants.{TYPE_DEF, INTERFACE_IMPL}
use Rattle.descriptor_file.specs.declared.root.Root.{Root}
use Rattle.il_base.specs.declared.world_model.known.Known.TheVariants.{Good}
use Rattle.il_base.specs.declared.world_model.expr.TypeExpr.{TypeExpr}
use Rattle.il_base.specs.declared.world_model.types.TypeDefRow.{TypeDefRow}
use Rattle.il_base.specs.declared.world_model.types.InterfaceImplRow.{InterfaceImplRow}
use Rattle.il_base.specs.declared.world_model.record.AsmRec.{AsmRec}
use Rattle.il_base.specs.world_model.Tokens.{token_of}
use Rattle.il_base.specs.world_model.Worlds.{types_in, type_id}
use Rattle.rules.specs.declared.link_rules.row_at.RowAt.{RowAt}
use Rattle.rules.specs.link_rules.Types.{at_row}
use Rattle.rules.specs.link_rules.Signatures.{token_type}
use Rattle.rules.specs.link_rules.Cycles.{listed}
use Rattle.rules.specs.type_rules.Rows.{rec_at}
use Rattle.base_laws.proofs.lemmas.type_laws.Within.{In, in_front, listed_in, flat_in}
use Rattle.base_laws.proofs.lemmas.walk_laws.Finds.{contains}
use Rattle.rules.specs.mark_rules.Facts.{Fact}
use Rattle.rules.specs.mark_rules.Places.{type_item, impl_item}
use Rattle.rules.specs.mark_rules.Naming.{Part, type_token_part}
use Rattle.rules.specs.mark_rules.Types.{extends_of, constraints_of, parts_of_type, parts_of_impl}
use Rattle.run_laws.specs.marked_laws.Flags.{OfClass}
use Rattle.run_laws.proofs.lemmas.marked_laws.Places.{type_row_of, impl_row_of}
use Rattle.run_laws.proofs.lemmas.marked_laws.Parts.{token_named, part_kept}
use Rattle.run_laws.proofs.lemmas.marked_laws.Rows.{of_impl}
use Rattle.merge_laws.proofs.lemmas.merged_tokens.Parts.{names_type}
use Rattle.rules.specs.merged_world_rules.Merge.{Merge, before}
use Rattle.merge_laws.specs.merged_rows_move.Premises.{GoodInterface, HasGoodInterfaces, HasGoodBases}
use Rattle.merge_laws.proofs.lemmas.merged_places.Rows.{IsThere}
use Rattle.merge_laws.proofs.lemmas.merged_rows_move.Members.{record_of}
use Rattle.merge_laws.proofs.lemmas.merged_rows_move.Nesting.{NamesRow, names_row_is, other_token}
use Rattle.trim_laws.specs.marked_merge_rules.Merges.{IsMarkedMerge, flags_of}
use Rattle.trim_laws.specs.trim_moves.Laws.{keep_by, IsFlagged}
use Rattle.trim_laws.proofs.lemmas.trim_moves.Flags.{type_row, type_home_is, input_plain, flag_is}

module _ (recs : List AsmRec) (at : RowAt) (rec : AsmRec) (here : slice_get recs at.asm ≡ Some rec) where
  abbrev base_part : TypeDefRow → Part
  base_part t = type_token_part recs at.asm rec (token_of TYPE_DEF (suc at.row)) 0 t.extends

  base_in : (t : TypeDefRow) → slice_get rec.type_def at.row ≡ Some t → (t.extends == 0) ≡ false → In (base_part t) (parts_of_type recs at)
  unfolding parts_of_type
  base_in t e some =
      flat_in (λ (rec : AsmRec). extends_of recs at rec ++ constraints_of recs at.asm rec (token_of TYPE_DEF (suc at.row))) (base_part t) rec (listed (rec_at recs at)) (listed_in rec (rec_at recs at) here)
      (in_front (base_part t) (extends_of recs at rec) (constraints_of recs at.asm rec (token_of TYPE_DEF (suc at.row)))
      (flat_in (λ (t : TypeDefRow). if t.extends == 0 then [] else base_part t ∷ []) (base_part t) t (listed (slice_get rec.type_def at.row)) (listed_in t (slice_get rec.type_def at.row) e)
      (subst (λ (b : Bool). In (base_part t) (if b then [] else base_part t ∷ [])) (sym some) (inl refl))))

  abbrev interface_part : InterfaceImplRow → Part
  interface_part row = type_token_part recs at.asm rec (token_of INTERFACE_IMPL (suc at.row)) 0 row.interface

  interface_in : (row : InterfaceImplRow) → slice_get rec.interface_impl at.row ≡ Some row → In (interface_part row) (parts_of_impl recs at)
  unfolding parts_of_impl
  interface_in row e =
      flat_in (λ (rec : AsmRec). flat_map (λ (row : InterfaceImplRow). type_token_part recs at.asm rec (token_of INTERFACE_IMPL (suc at.row)) 0 row.interface ∷ []) (listed (slice_get rec.interface_impl at.row))) (interface_part row) rec
      (listed (rec_at recs at)) (listed_in rec (rec_at recs at) here)
      (flat_in (λ (row : InterfaceImplRow). interface_part row ∷ []) (interface_part row) row (listed (slice_get rec.interface_impl at.row)) (listed_in row (slice_get rec.interface_impl at.row) e) (inl refl))

pub bases_good : (m : Merge) (entry : Option RowAt) (roots : List Root) → IsMarkedMerge m entry roots → HasGoodBases m
bases_good m entry roots merge at rec t here is lt kept some =
    let recs = before m in
    names_type recs entry roots m.kept merge.marked merge.good (type_item recs at) at rec (type_row_of recs at rec here t is) kept here lt (token_of TYPE_DEF (suc at.row)) 0 t.extends
    (contains (parts_of_type recs at) (base_part recs at rec here t) (base_in recs at rec here t is some))

module _ (m : Merge) (entry : Option RowAt) (roots : List Root) (holds : Fact → Bool) (flagged : IsFlagged m entry roots holds) where
  -- the class of a row is a row of types
  class_low : (rec : AsmRec) (row : InterfaceImplRow) (j : ℕ) → NamesRow rec row.class → (row.class == token_of TYPE_DEF (suc j)) ≡ true → (j < length rec.type_def) ⊎ (length rec.type_def ≤ j) → j < length rec.type_def
  class_low rec row j n mine (inl lt) = lt
  class_low rec row j n mine (inr past) =
      let other : (row.class == token_of TYPE_DEF (suc j)) ≡ false = other_token rec row.class n j past in
      let bad : true ≡ false = sym mine ∙ other in
      absurd (cc)

  class_there : (at : RowAt) (rec : AsmRec) (row : InterfaceImplRow) (j : ℕ) → slice_get (before m) at.asm ≡ Some rec → slice_get rec.interface_impl at.row ≡ Some row → suc at.asm < length (before m)
      → (row.class == token_of TYPE_DEF (suc j)) ≡ true → IsThere types_in (before m) (at_row at.asm j)
  class_there at rec row j here is lt mine =
      let n = names_row_is rec row.class ((record_of m flagged.merge.merge at.asm rec here lt).tokens.interface_impls at.row row is).0 in
      record { rec = rec; here = here; below = class_low rec row j n mine (cases_lt j (length rec.type_def)) }

  of_class : (at : RowAt) (rec : AsmRec) (row : InterfaceImplRow) (j : ℕ) → slice_get (before m) at.asm ≡ Some rec → slice_get rec.interface_impl at.row ≡ Some row → suc at.asm < length (before m)
      → (row.class == token_of TYPE_DEF (suc j)) ≡ true → m.kept (type_item (before m) (at_row at.asm j)) ≡ true → OfClass (before m) (flags_of m holds) at
  of_class at rec row j here is lt mine kept =
      let there = class_there at rec row j here is lt mine in
      let home = type_home_is m (at_row at.asm j) there in
      record {
        rec = rec;
        there = here;
        row = row;
        is = is;
        class = j;
        named = mine;
        marks = flag_is m entry roots holds flagged (type_item (before m) (at_row at.asm j)) (at_row at.asm j) (type_row m (at_row at.asm j) there) (input_plain m (type_id (before m) at.asm j) (at_row at.asm j) home lt) ∙ kept;
      }

  interface_good : (at : RowAt) (rec : AsmRec) (row : InterfaceImplRow) (j : ℕ) → slice_get (before m) at.asm ≡ Some rec → slice_get rec.interface_impl at.row ≡ Some row → suc at.asm < length (before m)
      → (row.class == token_of TYPE_DEF (suc j)) ≡ true → m.kept (type_item (before m) (at_row at.asm j)) ≡ true → m.kept (impl_item (before m) at) ≡ true → GoodInterface m (keep_by m holds) at.asm rec row
  interface_good at rec row j here is lt mine class kept =
      let recs : List AsmRec = before m in
      let p : Part = interface_part recs at rec here row in
      let within : In p (parts_of_impl recs at) = interface_in recs at rec here row is in
      let n = names_type recs entry roots m.kept flagged.merge.marked flagged.merge.good (impl_item recs at) at rec (impl_row_of recs at rec here row is) kept here lt (token_of INTERFACE_IMPL (suc at.row)) 0 row.interface
      (contains (parts_of_impl recs at) p within) in
      let marks = flag_is m entry roots holds flagged (impl_item recs at) at (impl_row_of recs at rec here row is) refl ∙ kept in
      record {
        typ = n.0;
        reads = n.1;
        stays =
            part_kept recs entry roots (flags_of m holds) flagged.marks (impl_item recs at) at (of_impl recs entry roots (flags_of m holds) flagged.marks at rec row marks (of_class at rec row j here is lt mine class) here is) p n.0 within
            within (token_named recs at.asm rec (token_of INTERFACE_IMPL (suc at.row)) 0 row.interface n.0 n.1);
      }

  pub interfaces_good : HasGoodInterfaces m (keep_by m holds)
  interfaces_good a i j rec row here is lt mine class kept = interface_good (at_row a i) rec row j here is lt mine class kept
