-- Rows that are found are there.
use Rattle.std.proofs.Common.{◌≡◌, ℕ, zero, suc, Bool, true, false, List, Option, Some, None, refl, ap, subst, ◌∙◌, arith}
use Rattle.std.specs.Prelude.{IsTrue, slice_get, not, if◌then◌else◌}
use Rattle.std.specs.Option.{option_map, option_and_then}
use Rattle.il_base.specs.declared.ids.TypeId.{TypeId}
use Rattle.il_base.specs.declared.world_model.expr.TypeExpr.{TypeExpr}
use Rattle.il_base.specs.declared.world_model.types.TypeDefRow.{TypeDefRow}
use Rattle.il_base.specs.declared.world_model.members.MethodDefRow.{MethodDefRow}
use Rattle.il_base.specs.declared.world_model.record.AsmRec.{AsmRec}
use Rattle.rules.specs.declared.link_rules.row_at.RowAt.{RowAt}
use Rattle.rules.specs.link_rules.Types.{at_row}
use Rattle.rules.specs.link_rules.Members.{owner_of, type_home, owns_method}
use Rattle.rules.specs.link_rules.Cycles.{home_of}
use Rattle.rules.specs.type_rules.Rows.{type_row_at}
use Rattle.rules.specs.type_rules.Slots.{is_virtual, is_new_slot, method_row_at, type_of_method, owner_from, inherited, slot_by, slot_of_row, slot_within}
use Rattle.base_laws.proofs.lemmas.type_laws.Places.{home_is, place_has}
use Rattle.base_laws.proofs.lemmas.walk_laws.Finds.{found}
use Rattle.rules.specs.change_rules.Change.{Keep}
use Rattle.rules.specs.world_change_rules.Places.{keeps_method_row}
use Rattle.rules.specs.world_change_rules.Kept.{KeepsRows}

module _ (recs : List AsmRec) where
  abbrev pub IsTypeThere : RowAt → Type 0
  IsTypeThere at = (row : TypeDefRow) × (type_row_at recs at ≡ Some row)

  abbrev pub IsMethodThere : RowAt → Type 0
  IsMethodThere at = (row : MethodDefRow) × (method_row_at recs at ≡ Some row)

  row_there : (at : RowAt) (rec : AsmRec) → slice_get recs at.asm ≡ Some rec → (row : TypeDefRow) → slice_get rec.type_def at.row ≡ Some row → IsTypeThere at
  row_there at rec s row e = (row, ap (option_and_then (λ (x : AsmRec). slice_get x.type_def at.row)) s ∙ e)

  home_by : (o : Option TypeId) (at : RowAt) → option_and_then (type_home recs) o ≡ Some at → IsTypeThere at
  home_by None at e = absurd (cc)
  home_by (Some t) at e =
      let s = home_is recs 0 t.0 at e in
      let asm : s.asm ≡ at.asm = omega (arith, s.numbered) in
      let has = place_has s.rec.type_def at.row s.below in
      row_there at s.rec (subst (λ (n : ℕ). slice_get recs n ≡ Some s.rec) asm s.there) has.0 has.1

  pub home_there : (e : TypeExpr) (at : RowAt) → home_of recs e ≡ Some at → IsTypeThere at
  home_there e at is = home_by (owner_of recs e) at is

  owner_by : (at x : RowAt) (rec : AsmRec) → slice_get recs at.asm ≡ Some rec → (o : Option ℕ) → owner_from owns_method at.row rec.type_def ≡ o → option_map (at_row at.asm) o ≡ Some x → IsTypeThere x
  owner_by at x rec s None is e = absurd (cc)
  owner_by at x rec s (Some j) is e =
      let f = found (owns_method (suc at.row)) 0 rec.type_def j is in
      let place : f.place ≡ j = omega (arith, f.is) in
      let same : at_row at.asm j ≡ x = cc in
      subst IsTypeThere same (row_there (at_row at.asm j) rec s f.item (subst (λ (n : ℕ). slice_get rec.type_def n ≡ Some f.item) place f.there))

  owner_rec : (at x : RowAt) (o : Option AsmRec) → slice_get recs at.asm ≡ o
      → option_and_then (λ (rec : AsmRec). option_map (at_row at.asm) (owner_from owns_method at.row rec.type_def)) o ≡ Some x → IsTypeThere x
  owner_rec at x None s e = absurd (cc)
  owner_rec at x (Some rec) s e = owner_by at x rec s (owner_from owns_method at.row rec.type_def) refl e

  pub owner_there : (at x : RowAt) → type_of_method recs at ≡ Some x → IsTypeThere x
  owner_there at x e = owner_rec at x (slice_get recs at.asm) refl e

-- ---- a slot is there, and kept with the methods that have it

module _ (k : Keep) (kept : RowAt → Bool) (recs : List AsmRec) (keeps : KeepsRows k kept recs) where
  pub record IsGoodSlot (s : RowAt) : Type 0 where
    pub stays : IsTrue (keeps_method_row k recs s)
    pub there : IsMethodThere recs s

  slot_step : (above : RowAt → Option RowAt) → ((x s : RowAt) → IsTrue (keeps_method_row k recs x) → above x ≡ Some s → IsGoodSlot s)
      → (at s : RowAt) → IsTrue (keeps_method_row k recs at) → (m : MethodDefRow) → method_row_at recs at ≡ Some m → (b c : Bool) → is_virtual m ≡ b → is_new_slot m ≡ c
      → (if not b then None else if c then Some at else slot_by above at (inherited recs at m)) ≡ Some s → IsGoodSlot s
  slot_step above again at s h m e false c v n is = absurd (cc)
  slot_step above again at s h m e true true v n is = let same : at ≡ s = cc in subst IsGoodSlot same (record { stays = h; there = (m, e) })
  slot_step above again at s h m e true false v n is = by_found (inherited recs at m) refl is
    where
      by_found : (o : Option RowAt) → inherited recs at m ≡ o → slot_by above at o ≡ Some s → IsGoodSlot s
      by_found None g f = let same : at ≡ s = cc in subst IsGoodSlot same (record { stays = h; there = (m, e) })
      by_found (Some b) g f = again b s (keeps.overridden at b m h e v n g) f

  slot_row : (above : RowAt → Option RowAt) → ((x s : RowAt) → IsTrue (keeps_method_row k recs x) → above x ≡ Some s → IsGoodSlot s)
      → (at s : RowAt) → IsTrue (keeps_method_row k recs at) → (o : Option MethodDefRow) → method_row_at recs at ≡ o → option_and_then (slot_of_row recs above at) o ≡ Some s → IsGoodSlot s
  slot_row above again at s h None e is = absurd (cc)
  slot_row above again at s h (Some m) e is = slot_step above again at s h m e (is_virtual m) (is_new_slot m) refl refl is

  pub slot_good : (n : ℕ) (at s : RowAt) → IsTrue (keeps_method_row k recs at) → slot_within recs n at ≡ Some s → IsGoodSlot s
  unfolding slot_within
  slot_good zero at s h is = absurd (cc)
  slot_good (suc n) at s h is = slot_row (slot_within recs n) (λ x t g e. slot_good n x t g e) at s h (method_row_at recs at) refl is
