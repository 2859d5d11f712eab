-- Flags of each kind are those of the marked set.
use Rattle.std.proofs.Common.{◌≡◌, ℕ, List, length, Bool, true, false, nat_lt, refl, sym, ap, ◌∙◌, arith}
use Rattle.std.specs.Prelude.{slice_get, unwrap_or, IsTrue}
use Rattle.std.specs.Option.{is_some}
use Rattle.std.proofs.lemmas.Bool.{ltb-true, ltb-false}
use Rattle.il_base.specs.declared.bits.Bits.{Bits}
use Rattle.il_base.specs.declared.ids.Item.{Item}
use Rattle.il_base.specs.declared.ids.Item.TheVariants as item
use Rattle.il_base.specs.declared.ids.TypeId.{TypeId}
use Rattle.il_base.specs.declared.world_model.record.AsmRec.{AsmRec}
use Rattle.il_base.specs.world_model.Worlds.{types_in}
use Rattle.rules.specs.link_rules.Members.{methods_in, fields_in}
use Rattle.rules.specs.mark_rules.Facts.Fact.{marked, shown}
use Rattle.rules.specs.mark_rules.Places.{props_in, events_in, impls_in, row_of}
use Rattle.mark_numbers.specs.Numbers.{is_there}
use Rattle.base_laws.specs.world_laws.Homes.{rows_of}
use Rattle.marking.specs.declared.marked.Marked.{Marked}
use Rattle.marking.specs.Holding.{holds}
use Rattle.merge_plan.specs.declared.kept.KeptItems.{KeptItems}
use Rattle.merge_plan.specs.Kept.{has_flag, kept_by}
use Rattle.kept_marks.specs.Flags.{HasFlags}
use Rattle.kept_marks.specs.Keeping.{KeepsMarked, ShowsMarked}
use Rattle.kept_marks.proofs.Flagged.{flag_below, flag_past, there_from, there_asm}

-- a flag is what the test says where a test of a row is true, else false
module _ (test : ℕ → Bool) (count : ℕ) (bits : Bits) (flags : HasFlags count test bits) where
  set : (n : ℕ) → nat_lt n count ≡ true → has_flag bits n ≡ test n
  set n lt = ap (λ (bs : List Bool). unwrap_or (slice_get bs n) false) flags ∙ flag_below test count 0 n n (omega arith) (ltb-true n count lt)

  unset : (n : ℕ) → nat_lt n count ≡ false → has_flag bits n ≡ false
  unset n ge = ap (λ (bs : List Bool). unwrap_or (slice_get bs n) false) flags ∙ flag_past test count 0 n (ltb-false n count ge)

  pub told_there : (n : ℕ) (b : Bool) → b ≡ nat_lt n count → IsTrue b → has_flag bits n ≡ test n
  told_there n true e t = set n (sym e)
  told_there n false e t = absurd cc

  pub told_others : (n : ℕ) (b : Bool) → b ≡ nat_lt n count → b ≡ false → has_flag bits n ≡ false
  told_others n b e f = unset n (sym e ∙ f)

module _ (recs : List AsmRec) (m : Marked) (k : KeptItems)
    (asms : HasFlags (length recs) (λ n. holds m (marked (item.Asm (record { 0 = n })))) k.assemblies)
    (types : HasFlags (rows_of types_in recs) (λ n. holds m (marked (item.Typ (record { 0 = n })))) k.types)
    (methods : HasFlags (rows_of methods_in recs) (λ n. holds m (marked (item.Method (record { 0 = n })))) k.methods)
    (fields : HasFlags (rows_of fields_in recs) (λ n. holds m (marked (item.Field (record { 0 = n })))) k.fields)
    (props : HasFlags (rows_of props_in recs) (λ n. holds m (marked (item.Prop (record { 0 = n })))) k.properties)
    (events : HasFlags (rows_of events_in recs) (λ n. holds m (marked (item.Event (record { 0 = n })))) k.events)
    (impls : HasFlags (rows_of impls_in recs) (λ n. holds m (marked (item.Impl (record { 0 = n })))) k.interfaces)
  where
    kept_there : (i : Item) → IsTrue (is_there recs (marked i)) → kept_by k i ≡ holds m (marked i)
    unfolding is_there row_of
    kept_there (item.Asm a) t = told_there (λ n. holds m (marked (item.Asm (record { 0 = n })))) (length recs) k.assemblies asms a.0 (is_some (row_of recs (item.Asm a))) (there_asm recs a.0) t
    kept_there (item.Typ x) t = told_there (λ n. holds m (marked (item.Typ (record { 0 = n })))) (rows_of types_in recs) k.types types x.0 (is_some (row_of recs (item.Typ x))) (there_from types_in recs 0 x.0) t
    kept_there (item.Method x) t = told_there (λ n. holds m (marked (item.Method (record { 0 = n })))) (rows_of methods_in recs) k.methods methods x.0 (is_some (row_of recs (item.Method x))) (there_from methods_in recs 0 x.0) t
    kept_there (item.Field x) t = told_there (λ n. holds m (marked (item.Field (record { 0 = n })))) (rows_of fields_in recs) k.fields fields x.0 (is_some (row_of recs (item.Field x))) (there_from fields_in recs 0 x.0) t
    kept_there (item.Prop x) t = told_there (λ n. holds m (marked (item.Prop (record { 0 = n })))) (rows_of props_in recs) k.properties props x.0 (is_some (row_of recs (item.Prop x))) (there_from props_in recs 0 x.0) t
    kept_there (item.Event x) t = told_there (λ n. holds m (marked (item.Event (record { 0 = n })))) (rows_of events_in recs) k.events events x.0 (is_some (row_of recs (item.Event x))) (there_from events_in recs 0 x.0) t
    kept_there (item.Impl x) t = told_there (λ n. holds m (marked (item.Impl (record { 0 = n })))) (rows_of impls_in recs) k.interfaces impls x.0 (is_some (row_of recs (item.Impl x))) (there_from impls_in recs 0 x.0) t

    others_not : (i : Item) → is_there recs (marked i) ≡ false → kept_by k i ≡ false
    unfolding is_there row_of
    others_not (item.Asm a) f = told_others (λ n. holds m (marked (item.Asm (record { 0 = n })))) (length recs) k.assemblies asms a.0 (is_some (row_of recs (item.Asm a))) (there_asm recs a.0) f
    others_not (item.Typ x) f = told_others (λ n. holds m (marked (item.Typ (record { 0 = n })))) (rows_of types_in recs) k.types types x.0 (is_some (row_of recs (item.Typ x))) (there_from types_in recs 0 x.0) f
    others_not (item.Method x) f = told_others (λ n. holds m (marked (item.Method (record { 0 = n })))) (rows_of methods_in recs) k.methods methods x.0 (is_some (row_of recs (item.Method x))) (there_from methods_in recs 0 x.0) f
    others_not (item.Field x) f = told_others (λ n. holds m (marked (item.Field (record { 0 = n })))) (rows_of fields_in recs) k.fields fields x.0 (is_some (row_of recs (item.Field x))) (there_from fields_in recs 0 x.0) f
    others_not (item.Prop x) f = told_others (λ n. holds m (marked (item.Prop (record { 0 = n })))) (rows_of props_in recs) k.properties props x.0 (is_some (row_of recs (item.Prop x))) (there_from props_in recs 0 x.0) f
    others_not (item.Event x) f = told_others (λ n. holds m (marked (item.Event (record { 0 = n })))) (rows_of events_in recs) k.events events x.0 (is_some (row_of recs (item.Event x))) (there_from events_in recs 0 x.0) f
    others_not (item.Impl x) f = told_others (λ n. holds m (marked (item.Impl (record { 0 = n })))) (rows_of impls_in recs) k.interfaces impls x.0 (is_some (row_of recs (item.Impl x))) (there_from impls_in recs 0 x.0) f

    pub kept_told : KeepsMarked recs m k
    kept_told = record { there = kept_there; others = others_not }

module _ (recs : List AsmRec) (m : Marked) (bits : Bits) (types : HasFlags (rows_of types_in recs) (λ n. holds m (shown (record { 0 = n }))) bits) where
  shown_there : (t : TypeId) → IsTrue (is_there recs (shown t)) → has_flag bits t.0 ≡ holds m (shown t)
  unfolding is_there
  shown_there x t = told_there (λ n. holds m (shown (record { 0 = n }))) (rows_of types_in recs) bits types x.0 (nat_lt x.0 (rows_of types_in recs)) refl t

  shown_others : (t : TypeId) → is_there recs (shown t) ≡ false → has_flag bits t.0 ≡ false
  unfolding is_there
  shown_others x f = told_others (λ n. holds m (shown (record { 0 = n }))) (rows_of types_in recs) bits types x.0 (nat_lt x.0 (rows_of types_in recs)) refl f

  pub shown_told : ShowsMarked recs m bits
  shown_told = record { there = shown_there; others = shown_others }
