-- The laws on rows, joined.
use Rattle.std.proofs.Common.{◌≡◌, ℕ, suc, ◌<◌, nat_le, nat_lt, List, length, Option, Some, None, refl, arith}
use Rattle.std.specs.Prelude.{slice_get}
use Rattle.std.specs.Option.{option_map, option_and_then}
use Rattle.std.specs.Cmp.{second_so}
use Rattle.std.proofs.lemmas.Bool.{ltb-true}
use Rattle.il_base.specs.declared.ids.Item.TheVariants as item
use Rattle.il_base.specs.declared.world_model.record.AsmRec.{AsmRec}
use Rattle.rules.specs.declared.link_rules.row_at.RowAt.{RowAt}
use Rattle.rules.specs.link_rules.Types.{at_row}
use Rattle.rules.specs.link_rules.Members.{owns_method}
use Rattle.rules.specs.link_rules.Linked.{assemblies}
use Rattle.rules.specs.type_rules.Slots.{type_of_method, owner_from}
use Rattle.base_laws.proofs.lemmas.walk_laws.Finds.{found}
use Rattle.rules.specs.mark_rules.Places.{method_item, row_of}
use Rattle.run_laws.specs.marked_laws.Flags.{RunsEnd}
use Rattle.run_laws.specs.marked_laws.Laws.{MarkedRows, MarkedInterfaces}
use Rattle.run_laws.proofs.lemmas.marked_laws.Closing.{by_core}
use Rattle.run_laws.proofs.lemmas.marked_laws.Flags.{typ_is, shown_typ, begun_typ}
use Rattle.run_laws.proofs.lemmas.marked_laws.Places.{method_row_below}
use Rattle.run_laws.proofs.lemmas.marked_laws.Added.{prim_not_added}
use Rattle.run_laws.proofs.lemmas.marked_laws.Rows.{bases_kept, interfaces_kept, owner_kept, overridden_kept}
use Rattle.run_laws.proofs.lemmas.marked_laws.Members.{laid_kept, field_types_kept, started_kept, prims_kept, prims_shown, array_is_core, array_not_added}
use Rattle.run_laws.proofs.lemmas.marked_laws.Enclosers.{enclosers_shown}
use Rattle.run_laws.proofs.lemmas.marked_laws.Interfaces.{interfaces_implied}

-- a method that some type's run has is a row, where runs end with their table
module _ (recs : List AsmRec) (ends : RunsEnd recs) where
  below_by : (at : RowAt) (rec : AsmRec) (o : Option ℕ) → slice_get recs at.asm ≡ Some rec → owner_from owns_method at.row rec.type_def ≡ o → (owner : RowAt) → option_map (at_row at.asm) o ≡ Some owner → at.row < length rec.method_def
  below_by at rec None s e owner h = absurd (cc)
  below_by at rec (Some j) s e owner h =
      let f = found (owns_method (suc at.row)) 0 rec.type_def j e in
      let lt = ltb-true (suc at.row) f.item.method_list_end (second_so (nat_le f.item.method_list_first (suc at.row)) (nat_lt (suc at.row) f.item.method_list_end) f.passes) in
      let le = ends at.asm f.place rec f.item s f.there in
      omega (arith, lt, le)

  row_by : (at owner : RowAt) (o : Option AsmRec) → slice_get recs at.asm ≡ o → option_and_then (λ (rec : AsmRec). option_map (at_row at.asm) (owner_from owns_method at.row rec.type_def)) o ≡ Some owner → row_of recs (method_item recs at) ≡ Some at
  row_by at owner None s e = absurd (cc)
  row_by at owner (Some rec) s e = method_row_below recs at rec s (below_by at rec (owner_from owns_method at.row rec.type_def) s refl owner e)

  pub owned_there : (at owner : RowAt) → type_of_method recs at ≡ Some owner → row_of recs (method_item recs at) ≡ Some at
  owned_there at owner e = row_by at owner (slice_get recs at.asm) refl e

pub rows_kept : MarkedRows
rows_kept inputs entry roots has sound m ends nests =
    let recs : List AsmRec = assemblies inputs in
    record {
      prims = λ n t e. prims_kept recs entry roots has m n t e (prim_not_added inputs n t e);
      shown_prims = λ n t e. prims_shown recs entry roots has m n t e (prim_not_added inputs n t e);
      array = λ t e. typ_is recs has t (by_core recs entry roots has m (item.Typ t) (array_is_core inputs t e) (array_not_added inputs t e));
      bases = λ at e h is. bases_kept recs entry roots has m at e h is;
      interfaces = λ at e h c. interfaces_kept recs entry roots has m at e h c;
      laid = λ at h v. laid_kept recs entry roots has m at h v;
      field_types = λ at d h e. field_types_kept recs entry roots has m at d h e;
      shown = λ t h. shown_typ recs has (record { 0 = t }) h;
      enclosers = λ at e h is. enclosers_shown inputs entry roots has m nests at e h is;
      begun = λ t h. begun_typ recs has (record { 0 = t }) h;
      started = λ at i h e. started_kept recs entry roots has m at i h e;
      overridden = λ at b d h r v n e. overridden_kept recs entry roots has m at b d h r v n e;
      owners = λ at owner h e. owner_kept recs entry roots has m at owner h (owned_there recs ends at owner e) e;
    }

pub implied_kept : MarkedInterfaces
implied_kept inputs entry roots has sound m = interfaces_implied inputs sound entry roots has m
