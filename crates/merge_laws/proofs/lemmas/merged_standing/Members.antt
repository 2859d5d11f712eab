-- Each member that is referred to has one row.
use Rattle.std.proofs.Common.{◌≡◌, suc, arith, List, [], ◌∷◌, ◌++◌, length, map, Option, Some, refl, sym, ap, ◌∙◌}
use Rattle.std.specs.Prelude.{slice_get, ⊤}
use Rattle.std.specs.List.{Contains, flat_map}
use Rattle.std.proofs.lemmas.List.{length-append}
use Rattle.il_base.specs.declared.sig.Sig.{Sig}
use Rattle.il_base.specs.declared.sig.MethodSig.{MethodSig}
use Rattle.il_base.specs.declared.world_model.members.FieldRow.{FieldRow}
use Rattle.il_base.specs.declared.world_model.members.MethodDefRow.{MethodDefRow}
use Rattle.il_base.specs.declared.world_model.known.Known.{Known}
use Rattle.il_base.specs.declared.world_model.record.AsmRec.{AsmRec}
use Rattle.rules.specs.declared.link_rules.row_at.RowAt.{RowAt}
use Rattle.rules.specs.link_rules.Cycles.{listed}
use Rattle.rules.specs.type_rules.Rows.{rec_at}
use Rattle.base_laws.proofs.lemmas.known_laws.Lists.{map_some}
use Rattle.rules.specs.merge_rules.Numbers.{Kept}
use Rattle.rules.specs.merge_rules.Keys.{MethodKey, own_method, found_method, absent_method, FieldKey, own_field, found_field, world_sig, world_method_sig}
use Rattle.rules.specs.merge_rules.Order.{Met, met_type, met_sig, met_method, met_field, met_instance, met_locals}
use Rattle.rules.specs.merge_rules.Refs.{Output, MemberKey, a_method, a_field, an_absent, same_member, known_list, own_method_sig, own_field_sig, method_at, field_at, member_of_method, member_of_field, members_of_met, member_refs, member_ref_row, member_ref_rows}
use Rattle.rules.specs.merge_rules.Restricted.{moved_methods, placed_methods, restricted_by, output_of, restricted}
use Rattle.merge_laws.proofs.lemmas.merged_record.Lists.{flat_length}
use Rattle.merge_laws.proofs.lemmas.merged_loads.Lists as once
use Rattle.merge_laws.proofs.lemmas.merged_owners.Every.{Every, all_none, all_one, all_flat}
use Rattle.merge_laws.specs.merged_standing.Laws.{MembersStand}
use Rattle.merge_laws.proofs.lemmas.merged_standing.Found.{MethodRow, FieldRowAt, MethodThere, FieldThere, MethodStands, FieldStands, method_stands, field_stands}
use Rattle.merge_laws.proofs.lemmas.merged_standing.Mets.{Holds, mets_hold}

map_length : {A B : Type 0} (f : A → B) (xs : List A) → length (map f xs) ≡ length xs
map_length f [] = refl
map_length f (x ∷ xs) = ap suc (map_length f xs)

-- what one item gives
flat_one : {A B : Type 0} (f : A → List B) (o : Option A) (x : A) → o ≡ Some x → flat_map f (listed o) ≡ f x ++ []
flat_one f o x e = ap (λ p. flat_map f (listed p)) e

flat_one_length : {A B : Type 0} (f : A → List B) (o : Option A) (x : A) → o ≡ Some x → length (f x) ≡ 1 → length (flat_map f (listed o)) ≡ 1
flat_one_length f o x e h = ap length (flat_one f o x e) ∙ length-append (f x) [] ∙ omega (arith, h)

module _ (recs : List AsmRec) where
  abbrev pub Stands : Met → Type 0
  Stands (met_type k) = ⊤
  Stands (met_sig s) = ⊤
  Stands (met_method m) = MethodStands recs m
  Stands (met_field f) = FieldStands recs f
  Stands (met_instance i) = MethodStands recs i.method
  Stands (met_locals ss) = ⊤

  pub all_hold : Holds recs Stands
  all_hold = record {
    types = λ a rec token k there e. tt;
    sigs = λ a rec s there. tt;
    locals = λ a rec ss there. tt;
    methods = λ a rec token m there s e. method_stands recs a rec token m s e;
    fields = λ a rec token f there e. field_stands recs a rec token f e;
    instances = λ a rec token m args there s e. method_stands recs a rec token m s e;
    absents = λ a rec token p name s there e. tt;
  }

  abbrev pub MemberStands : MemberKey → Type 0
  MemberStands (a_method m e) = MethodThere recs m
  MemberStands (a_field f e) = FieldThere recs f
  MemberStands (an_absent p name s) = ⊤

  -- ---- which members

  of_method : (k : MethodKey) → MethodStands recs k → Every MemberStands (member_of_method k)
  of_method (own_method m) h = all_none MemberStands
  of_method (found_method m e) h = all_one MemberStands (a_method m e) h
  of_method (absent_method p name s) h = all_one MemberStands (an_absent p name s) tt

  of_field : (k : FieldKey) → FieldStands recs k → Every MemberStands (member_of_field k)
  of_field (own_field f) h = all_none MemberStands
  of_field (found_field f e) h = all_one MemberStands (a_field f e) h

  of_met : (x : Met) → Stands x → Every MemberStands (members_of_met x)
  of_met (met_type k) h = all_none MemberStands
  of_met (met_sig s) h = all_none MemberStands
  of_met (met_method m) h = of_method m h
  of_met (met_field f) h = of_field f h
  of_met (met_instance i) h = of_method i.method h
  of_met (met_locals ss) h = all_none MemberStands

  pub refs_stand : (mets : List Met) → Every Stands mets → (x : MemberKey) → Contains (member_refs mets) x → MemberStands x
  unfolding member_refs
  refs_stand mets h =
      let all = all_flat MemberStands members_of_met mets (λ x c. of_met x (h.each x c)) in
      once.every_once MemberStands same_member [] (flat_map members_of_met mets) (all_none MemberStands).each all.each

  -- ---- their rows

  own_method_length : (at : RowAt) → MethodRow recs at → length (own_method_sig recs at) ≡ 1
  own_method_length at r =
      flat_one_length (λ (rec : AsmRec). flat_map (λ (m : MethodDefRow). map (world_method_sig recs at.asm rec) (known_list m.signature)) (listed (slice_get rec.method_def at.row))) (rec_at recs at) r.rec r.there
      (flat_one_length (λ (m : MethodDefRow). map (world_method_sig recs at.asm r.rec) (known_list m.signature)) (slice_get r.rec.method_def at.row) r.row r.is
      (map_length (world_method_sig recs at.asm r.rec) (known_list r.row.signature) ∙ ap (λ (s : Known MethodSig). length (known_list s)) r.has))

  own_field_length : (at : RowAt) → FieldRowAt recs at → length (own_field_sig recs at) ≡ 1
  own_field_length at r =
      flat_one_length (λ (rec : AsmRec). flat_map (λ (f : FieldRow). map (world_sig recs at.asm rec) (known_list f.signature)) (listed (slice_get rec.field at.row))) (rec_at recs at) r.rec r.there
      (flat_one_length (λ (f : FieldRow). map (world_sig recs at.asm r.rec) (known_list f.signature)) (slice_get r.rec.field at.row) r.row r.is
      (map_length (world_sig recs at.asm r.rec) (known_list r.row.signature) ∙ ap (λ (s : Known Sig). length (known_list s)) r.has))

  pub row_length : (o : Output) → o.recs ≡ recs → (x : MemberKey) → MemberStands x → length (member_ref_row o x) ≡ 1
  row_length o e (a_method m x) h =
      flat_one_length _ (method_at o.recs m) h.at (ap (λ r. method_at r m) e ∙ h.home)
      (map_length _ (own_method_sig o.recs h.at) ∙ ap (λ r. length (own_method_sig r h.at)) e ∙ own_method_length h.at h.row)
  row_length o e (a_field f x) h =
      flat_one_length _ (field_at o.recs f) h.at (ap (λ r. field_at r f) e ∙ h.home)
      (map_length _ (own_field_sig o.recs h.at) ∙ ap (λ r. length (own_field_sig r h.at)) e ∙ own_field_length h.at h.row)
  row_length o e (an_absent p name s) h = refl

rows_length : (o : Output) → Every (Stands o.recs) o.mets → length (member_ref_rows o) ≡ length (member_refs o.mets)
unfolding member_ref_rows
rows_length o h = flat_length (member_ref_row o) (member_refs o.mets) (λ x c. row_length o.recs o refl x (refs_stand o.recs o.mets h x c))

abbrev MetsStand : Output → Type 0
MetsStand o = Every (Stands o.recs) o.mets

out_stands : (recs : List AsmRec) (kept : Kept) → Every (Stands recs) (output_of recs kept).mets → MetsStand (output_of recs kept)
unfolding output_of
out_stands recs kept h = h

pub members_stand : MembersStand
unfolding restricted
members_stand internal recs kept left e records =
    let o : Output = output_of recs kept in
    let m = map_some (restricted_by internal o (placed_methods (moved_methods o))) (slice_get recs 0) left e in
    ap (λ (r : AsmRec). length r.member_ref) (sym m.2) ∙ rows_length o (out_stands recs kept (mets_hold recs (Stands recs) (all_hold recs) records kept))
