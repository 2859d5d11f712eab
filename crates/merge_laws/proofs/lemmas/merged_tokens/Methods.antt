-- The methods of MethodSpec rows in what is left stand.
use Rattle.std.proofs.Common.{◌≡◌, ◌≤◌, ℕ, List, map, Bool, Option, Some, None, refl, sym, subst}
use Rattle.std.specs.Prelude.{slice_get}
use Rattle.std.specs.List.{Contains, flat_map}
use Rattle.descriptor_file.specs.declared.root.Root.{Root}
use Rattle.il_base.specs.declared.world_model.known.Known.TheVariants.{Good}
use Rattle.il_base.specs.declared.world_model.members.MethodSpecRow.{MethodSpecRow}
use Rattle.il_base.specs.declared.world_model.record.AsmRec.{AsmRec}
use Rattle.rules.specs.declared.link_rules.row_at.RowAt.{RowAt}
use Rattle.base_laws.proofs.lemmas.known_laws.Lists.{none_in, one_is, from_flat, from_map, map_some}
use Rattle.rules.specs.mark_rules.Marking.{Marks}
use Rattle.rules.specs.mark_rules.BadItems.{IsFirstFlaw}
use Rattle.rules.specs.merge_rules.Numbers.{Kept}
use Rattle.rules.specs.merge_rules.Keys.{InstanceKey, same_instance}
use Rattle.rules.specs.merge_rules.Order.{Met, met_type, met_sig, met_method, met_field, met_instance, met_locals}
use Rattle.rules.specs.merge_rules.Refs.{Output, instances_of_met, method_specs, method_spec_rows, method_token, new_sig}
use Rattle.rules.specs.merge_rules.Restricted.{placed_methods, moved_methods, restricted_by, output_of, restricted}
use Rattle.merge_laws.specs.merged_record.Laws.{InputsAreRecords, ReferencesStand, RowsFit}
use Rattle.merge_laws.proofs.lemmas.merged_record.Sizes.{left}
use Rattle.merge_laws.specs.merged_owners.Laws.{AreMarked, AreKept}
use Rattle.merge_laws.specs.merged_tokens.Laws.{MethodsNamed}
use Rattle.merge_laws.proofs.lemmas.merged_tokens.Once.{from_once}
use Rattle.merge_laws.proofs.lemmas.merged_tokens.Interfaces.{contained}
use Rattle.merge_laws.proofs.lemmas.merged_tokens.Callees.{method_stands}
use Rattle.merge_laws.proofs.lemmas.merged_tokens.Instances.{mets_fine}

instance_by : (x : Met) (i : InstanceKey) → Contains (instances_of_met x) i → met_instance i ≡ x
instance_by (met_instance j) i c = let same : j ≡ i = one_is j i c in λ k. met_instance (sym same k)
instance_by (met_type t) i c = absurd (none_in i c)
instance_by (met_sig s) i c = absurd (none_in i c)
instance_by (met_method m) i c = absurd (none_in i c)
instance_by (met_field f) i c = absurd (none_in i c)
instance_by (met_locals ss) i c = absurd (none_in i c)

instance_met : (mets : List Met) (i : InstanceKey) → Contains (method_specs mets) i → Contains mets (met_instance i)
unfolding method_specs
instance_met mets i c =
    let r = from_flat instances_of_met mets i (from_once same_instance (flat_map instances_of_met mets) i c) in
    subst (λ (x : Met). Contains mets x) (sym (instance_by r.item i r.inside)) r.there

spec_from : (o : Output) (row : MethodSpecRow) → Contains (method_spec_rows o) row → (i : InstanceKey) × Contains (method_specs o.mets) i × (method_token o i.method ≡ row.method)
unfolding method_spec_rows
spec_from o row c =
    let m = from_map (λ (i : InstanceKey). record { method = method_token o i.method; instantiation = Good (map (new_sig o) i.args) }) (method_specs o.mets) row c in
    (m.0, m.1, λ k. (m.2 k).method)

left_methods : (internal : Bool) (recs : List AsmRec) (entry : Option RowAt) (roots : List Root) (kept : Kept) (primary : AsmRec) → InputsAreRecords recs → AreMarked recs entry roots kept → AreKept recs entry roots kept
    → IsFirstFlaw recs entry (Marks recs entry roots) None → ReferencesStand (output_of recs kept) (left internal (output_of recs kept) primary) → RowsFit (left internal (output_of recs kept) primary)
    → (k : ℕ) (row : MethodSpecRow) → slice_get (left internal (output_of recs kept) primary).method_spec k ≡ Some row → 1 ≤ row.method
unfolding output_of
left_methods internal recs entry roots kept primary records marks keeps good refs fit k row e =
    let o : Output = output_of recs kept in
    let s = spec_from o row (contained (method_spec_rows o) k row e) in
    let met = instance_met o.mets s.0 s.1 in
    let own = (mets_fine recs kept records entry roots marks keeps good).each (met_instance s.0) met in
    let ge : 1 ≤ method_token o s.0.method = method_stands internal o primary refs fit s.0.method (met_instance s.0) met refl own in
    subst (λ (n : ℕ). 1 ≤ n) s.2 ge

pub methods_named : MethodsNamed
unfolding restricted
methods_named internal recs entry roots kept rec e records marks keeps good refs fit k row there =
    let p = map_some (restricted_by internal (output_of recs kept) (placed_methods (moved_methods (output_of recs kept)))) (slice_get recs 0) rec e in
    left_methods internal recs entry roots kept p.0 records marks keeps good (subst (ReferencesStand (output_of recs kept)) (sym p.2) refs) (subst RowsFit (sym p.2) fit) k row
    (subst (λ (r : AsmRec). slice_get r.method_spec k ≡ Some row) (sym p.2) there)
