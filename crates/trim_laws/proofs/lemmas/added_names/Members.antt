-- Signatures of members of inputs and of the core library, over the types of the world.
use Rattle.std.proofs.Common.{◌≡◌, ◌<◌, ℕ, suc, List, [], ◌∷◌, ◌++◌, length, map, Option, Some, ◌⊎◌, inl, inr, refl, sym, ap, subst, ◌∙◌, arith}
use Rattle.std.specs.Prelude.{slice_get}
use Rattle.std.specs.List.{flat_map}
use Rattle.std.proofs.lemmas.Bool.{cases_order}
use Rattle.il_base.specs.declared.sig.Sig.{Sig}
use Rattle.il_base.specs.declared.sig.MethodSig.{MethodSig}
use Rattle.il_base.specs.declared.world_model.known.Known.{Known}
use Rattle.il_base.specs.declared.world_model.known.Known.TheVariants.{Good, Bad}
use Rattle.il_base.specs.declared.world_model.members.FieldRow.{FieldRow}
use Rattle.il_base.specs.declared.world_model.members.MethodDefRow.{MethodDefRow}
use Rattle.il_base.specs.declared.world_model.record.AsmRec.{AsmRec}
use Rattle.il_base.specs.declared.core_table.shape.CoreMethod.{CoreMethod}
use Rattle.il_base.specs.core_table.Record.{sig_of, signature_of, field_row, method_row, core_record}
use Rattle.rules.specs.declared.link_rules.row_at.RowAt.{RowAt}
use Rattle.rules.specs.link_rules.CoreNames.{missing_names, core_with}
use Rattle.rules.specs.link_rules.Cycles.{listed}
use Rattle.rules.specs.link_rules.Linked.{assemblies}
use Rattle.rules.specs.type_rules.Rows.{rec_at}
use Rattle.base_laws.proofs.lemmas.type_laws.Within.{In, in_listed, in_map, in_flat}
use Rattle.base_laws.proofs.lemmas.type_laws.Places.{place_within}
use Rattle.rules.specs.merge_rules.Keys.{world_sig, world_method_sig}
use Rattle.rules.specs.merge_rules.Refs.{known_list, own_method_sig, own_field_sig}
use Rattle.trim_laws.proofs.lemmas.added_names.Modifiers.{IsFine, world_fine}
use Rattle.trim_laws.proofs.lemmas.added_names.Listed.{input_listed}
use Rattle.trim_laws.proofs.lemmas.added_names.Core.{LowMethod, LowField, method_low, field_low, method_fine, field_fine}
use Rattle.trim_laws.proofs.lemmas.added_names.Owners.{core_here}

in_known : {A : Type 0} (k : Known A) (x : A) → In x (known_list k) → k ≡ Good x
in_known (Good y) x (inl e) = ap Good (sym e)
in_known (Good y) x (inr h) = absurd h
in_known (Bad why) x h = absurd h

good_same : {A : Type 0} (x y : A) (k : Known A) → k ≡ Good x → k ≡ Good y → x ≡ y
good_same x y k e f = let g : Good x ≡ Good y = sym e ∙ f in cc

method_row_sig : (m : CoreMethod) → (method_row m).signature ≡ Good (signature_of m)
unfolding method_row
method_row_sig m = refl

module _ (inputs : List AsmRec) where
  abbrev recs : List AsmRec
  recs = assemblies inputs

  pub input_fine : (a : ℕ) (rec : AsmRec) → slice_get recs a ≡ Some rec → suc a < length recs → (s : Sig) → IsFine recs (world_sig recs a rec s)
  input_fine a rec there input s = world_fine recs a rec (input_listed inputs a rec there input) s

  abbrev Ends : ℕ → Type 0
  Ends a = (suc a ≡ length recs) ⊎ ((suc a < length recs) ⊎ (length recs < suc a))

  fine_as : (s w : Sig) → s ≡ w → IsFine recs w → IsFine recs s
  fine_as s w e f = subst (λ (x : Sig). IsFine recs x) (sym e) f

  -- ---- methods

  core_method : (a k : ℕ) (rec : AsmRec) (row : MethodDefRow) (g : MethodSig) (y : Sig) → slice_get recs a ≡ Some rec → suc a ≡ length recs → slice_get rec.method_def k ≡ Some row → row.signature ≡ Good g → In y (g.ret ∷ g.params)
      → IsFine recs (world_sig recs a rec y)
  core_method a k rec row g y there last e f h =
      let same = core_here inputs a rec there last in
      let low : LowMethod (missing_names (inputs ++ core_record ∷ [])) row = method_low (missing_names (inputs ++ core_record ∷ [])) k row (subst (λ (r : AsmRec). slice_get r.method_def k ≡ Some row) same e) in
      let is : g ≡ signature_of low.method = good_same g (signature_of low.method) row.signature f (ap (λ (r : MethodDefRow). r.signature) low.is ∙ method_row_sig low.method) in
      method_fine inputs a rec there low.method y low.low (subst (λ (x : MethodSig). In y (x.ret ∷ x.params)) is h)

  method_by : (a k : ℕ) (rec : AsmRec) (row : MethodDefRow) (g : MethodSig) (y : Sig) → slice_get recs a ≡ Some rec → Ends a → slice_get rec.method_def k ≡ Some row → row.signature ≡ Good g → In y (g.ret ∷ g.params)
      → IsFine recs (world_sig recs a rec y)
  method_by a k rec row g y there (inl last) e f h = core_method a k rec row g y there last e f h
  method_by a k rec row g y there (inr (inl lt)) e f h = input_fine a rec there lt y
  method_by a k rec row g y there (inr (inr gt)) e f h = let lt = place_within recs a rec there in absurd (omega (arith, lt, gt))

  pub own_method_fine : (at : RowAt) (g : MethodSig) (s : Sig) → In g (own_method_sig recs at) → In s (g.ret ∷ g.params) → IsFine recs s
  own_method_fine at g s h i =
      let r = in_flat (λ (rec : AsmRec). flat_map (λ (m : MethodDefRow). map (world_method_sig recs at.asm rec) (known_list m.signature)) (listed (slice_get rec.method_def at.row))) g (listed (rec_at recs at)) h in
      let m = in_flat (λ (m : MethodDefRow). map (world_method_sig recs at.asm r.0) (known_list m.signature)) g (listed (slice_get r.0.method_def at.row)) r.2 in
      let w = in_map (world_method_sig recs at.asm r.0) g (known_list m.0.signature) m.2 in
      let j : In s (map (world_sig recs at.asm r.0) (w.0.ret ∷ w.0.params)) = subst (λ (x : MethodSig). In s (x.ret ∷ x.params)) w.2 i in
      let y = in_map (world_sig recs at.asm r.0) s (w.0.ret ∷ w.0.params) j in
      fine_as s (world_sig recs at.asm r.0 y.0) y.2
      (method_by at.asm at.row r.0 m.0 w.0 y.0 (in_listed r.0 (rec_at recs at) r.1) (cases_order (suc at.asm) (length recs)) (in_listed m.0 (slice_get r.0.method_def at.row) m.1) (in_known m.0.signature w.0 w.1) y.1)

  -- ---- fields

  core_field : (a k : ℕ) (rec : AsmRec) (row : FieldRow) (y : Sig) → slice_get recs a ≡ Some rec → suc a ≡ length recs → slice_get rec.field k ≡ Some row → row.signature ≡ Good y → IsFine recs (world_sig recs a rec y)
  unfolding field_row
  core_field a k rec row y there last e f =
      let same = core_here inputs a rec there last in
      let low : LowField (missing_names (inputs ++ core_record ∷ [])) row = field_low (missing_names (inputs ++ core_record ∷ [])) k row (subst (λ (r : AsmRec). slice_get r.field k ≡ Some row) same e) in
      let is : sig_of low.field.signature ≡ y = good_same (sig_of low.field.signature) y row.signature (ap (λ (r : FieldRow). r.signature) low.is) f in
      subst (λ (x : Sig). IsFine recs (world_sig recs a rec x)) is (field_fine inputs a rec there low.field low.low)

  field_by : (a k : ℕ) (rec : AsmRec) (row : FieldRow) (y : Sig) → slice_get recs a ≡ Some rec → Ends a → slice_get rec.field k ≡ Some row → row.signature ≡ Good y → IsFine recs (world_sig recs a rec y)
  field_by a k rec row y there (inl last) e f = core_field a k rec row y there last e f
  field_by a k rec row y there (inr (inl lt)) e f = input_fine a rec there lt y
  field_by a k rec row y there (inr (inr gt)) e f = let lt = place_within recs a rec there in absurd (omega (arith, lt, gt))

  pub own_field_fine : (at : RowAt) (s : Sig) → In s (own_field_sig recs at) → IsFine recs s
  own_field_fine at s h =
      let r = in_flat (λ (rec : AsmRec). flat_map (λ (f : FieldRow). map (world_sig recs at.asm rec) (known_list f.signature)) (listed (slice_get rec.field at.row))) s (listed (rec_at recs at)) h in
      let f = in_flat (λ (f : FieldRow). map (world_sig recs at.asm r.0) (known_list f.signature)) s (listed (slice_get r.0.field at.row)) r.2 in
      let w = in_map (world_sig recs at.asm r.0) s (known_list f.0.signature) f.2 in
      fine_as s (world_sig recs at.asm r.0 w.0) w.2
      (field_by at.asm at.row r.0 f.0 w.0 (in_listed r.0 (rec_at recs at) r.1) (cases_order (suc at.asm) (length recs)) (in_listed f.0 (slice_get r.0.field at.row) f.1) (in_known f.0.signature w.0 w.1))
