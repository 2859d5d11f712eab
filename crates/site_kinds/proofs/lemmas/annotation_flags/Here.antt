-- What is asked of the assembly in a place, by the assembly that was found there.
use Rattle.std.proofs.Common.{◌≡◌, ℕ, suc, List, map, Bool, true, false, refl, sym, ap, ◌∙◌}
use Rattle.std.specs.Prelude.{Option, Some, slice_get, ◌||◌}
use Rattle.std.specs.List.{flat_map, list_any}
use Rattle.std.proofs.lemmas.List.{append-nil}
use Rattle.il_base.specs.declared.table.TheConstants.{FIELD}
use Rattle.il_base.specs.declared.world_model.record.AsmRec.{AsmRec}
use Rattle.il_base.specs.world_model.Tokens.{token_of}
use Rattle.rules.specs.declared.link_rules.row_at.RowAt.{RowAt}
use Rattle.rules.specs.link_rules.Cycles.{listed}
use Rattle.rules.specs.type_rules.Rows.{rec_at}
use Rattle.rules.specs.mark_rules.Annotations.{or_zero, kinds_at, slot_kinds, field_kinds}
use Rattle.site_kinds.specs.annotation_flags.Slots.{kinds_of_slot}

pub one_listed : {A B : Type 0} (f : A → List B) (o : Option A) (x : A) → Some x ≡ o → flat_map f (listed o) ≡ f x
one_listed f o x e = rw (← e) (append-nil (f x))

or_false : (b : Bool) → (b || false) ≡ b
or_false true = refl
or_false false = refl

pub one_tested : {A : Type 0} (test : A → Bool) (o : Option A) (x : A) → Some x ≡ o → list_any test (listed o) ≡ test x
one_tested test o x e = rw (← e) (or_false (test x))

-- of the same assembly in the same place
pub moved_here : {B : Type 0} (f : List AsmRec → ℕ → AsmRec → B) (own recs : List AsmRec) (a b : ℕ) (rec there : AsmRec) → own ≡ recs → a ≡ b → rec ≡ there → f own a rec ≡ f recs b there
moved_here f own recs a b rec there o p r = ap (λ (xs : List AsmRec). f xs a rec) o ∙ ap (λ (n : ℕ). f recs n rec) p ∙ ap (λ (x : AsmRec). f recs b x) r

module _ (recs : List AsmRec) (at : RowAt) (own : List AsmRec) (a : ℕ) (rec there : AsmRec) (o : own ≡ recs) (p : a ≡ at.asm) (q : rec ≡ there) (h : Some there ≡ slice_get recs at.asm) where
  pub slots_there : (sequence : ℕ) → or_zero (map (kinds_of_slot own a rec sequence) (listed (slice_get rec.method_def at.row))) ≡ slot_kinds recs at sequence
  slots_there sequence =
      moved_here (λ (xs : List AsmRec) (m : ℕ) (r : AsmRec). or_zero (map (kinds_of_slot xs m r sequence) (listed (slice_get r.method_def at.row)))) own recs a at.asm rec there o p q
      ∙ ap or_zero (sym (one_listed (λ (r : AsmRec). map (kinds_of_slot recs at.asm r sequence) (listed (slice_get r.method_def at.row))) (rec_at recs at) there h))

  pub field_there : kinds_at own a rec (token_of FIELD (suc at.row)) ≡ field_kinds recs at
  field_there =
      moved_here (λ (xs : List AsmRec) (m : ℕ) (r : AsmRec). kinds_at xs m r (token_of FIELD (suc at.row))) own recs a at.asm rec there o p q
      ∙ ap (λ (x : Option AsmRec). or_zero (map (λ (r : AsmRec). kinds_at recs at.asm r (token_of FIELD (suc at.row))) (listed x))) h
