-- Names by rows.
use Rattle.std.proofs.Common.{◌≡◌, ℕ, ◌≤◌, List, [], length, Option, Some, None, refl, sym, ap, ◌∙◌, arith, zero-add}
use Rattle.std.specs.Prelude.{slice_get, unwrap_or}
use Rattle.std.specs.List.{flat_map}
use Rattle.std.proofs.lemmas.List.{append-nil}
use Rattle.std.proofs.lemmas.Option.{slice_get_past}
use Rattle.il_base.specs.declared.ids.TypeId.{TypeId}
use Rattle.il_base.specs.declared.world_model.types.TypeDefRow.{TypeDefRow}
use Rattle.il_base.specs.declared.world_model.record.AsmRec.{AsmRec}
use Rattle.rules.specs.declared.link_rules.row_at.RowAt.{RowAt}
use Rattle.rules.specs.link_rules.Types.{encloser}
use Rattle.rules.specs.link_rules.Cycles.{listed}
use Rattle.rules.specs.link_rules.Members.{type_home}
use Rattle.rules.specs.mark_rules.Roots.{slashed_by, slashed_within, slashed_name, definition_slashed}
use Rattle.descriptor_texts.specs.declared.slashed_names.names.SlashedNames.{SlashedNames}
use Rattle.descriptor_texts.specs.slashed_names.Names.{names_in, names_at, AreNames, text_in, text_at}
use Rattle.descriptor_texts.proofs.lemmas.slashed_names.Ranging.{range_get}

no_name : (rec : AsmRec) (k : ℕ) → length rec.type_def ≤ k → slashed_name rec k ≡ []
unfolding slashed_within
no_name rec k h =
    ap (λ (o : Option TypeDefRow). flat_map (λ (t : TypeDefRow). slashed_by (slashed_within rec (length rec.type_def)) t (encloser rec k)) (listed o)) (slice_get_past rec.type_def k h)

pub name_in : (rec : AsmRec) (k : ℕ) → unwrap_or (slice_get (names_in rec) k) [] ≡ slashed_name rec k
name_in rec k = range_get (slashed_name rec) (length rec.type_def) 0 (λ j h. no_name rec j (omega arith)) k ∙ ap (slashed_name rec) (zero-add k)

listed_name : (o : Option AsmRec) (k : ℕ) → unwrap_or (slice_get (flat_map names_in (listed o)) k) [] ≡ flat_map (λ (rec : AsmRec). slashed_name rec k) (listed o)
listed_name None k = refl
listed_name (Some rec) k =
    ap (λ (names : List (List ℕ)). unwrap_or (slice_get names k) []) (append-nil (names_in rec)) ∙ name_in rec k ∙ sym (append-nil (slashed_name rec k))

no_names : (recs : List AsmRec) (a : ℕ) → length recs ≤ a → names_at recs a ≡ []
no_names recs a h = ap (λ (o : Option AsmRec). flat_map names_in (listed o)) (slice_get_past recs a h)

pub name_at : (recs : List AsmRec) (s : SlashedNames) (at : RowAt) → AreNames recs s → text_in s at ≡ text_at recs at
name_at recs s at are =
    ap (λ (names : List (List (List ℕ))). unwrap_or (slice_get (unwrap_or (slice_get names at.asm) []) at.row) []) are
    ∙ ap (λ (names : List (List ℕ)). unwrap_or (slice_get names at.row) [])
    (range_get (names_at recs) (length recs) 0 (λ j h. no_names recs j (omega arith)) at.asm ∙ ap (names_at recs) (zero-add at.asm))
    ∙ listed_name (slice_get recs at.asm) at.row

pub one_definition : (recs : List AsmRec) (s : SlashedNames) (id : TypeId) (at : RowAt) → AreNames recs s → type_home recs id ≡ Some at → text_in s at ≡ definition_slashed recs (Some id)
one_definition recs s id at are home =
    name_at recs s at are ∙ sym (append-nil (text_at recs at)) ∙ ap (λ (o : Option RowAt). flat_map (λ (at : RowAt). text_at recs at) (listed o)) (sym home)
