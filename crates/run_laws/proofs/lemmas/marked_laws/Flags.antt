-- The flags, one by one.
use Rattle.std.proofs.Common.{◌≡◌, ℕ, Bool, true, false, List, Option, Some, refl, sym, ap, ◌∙◌}
use Rattle.std.specs.Prelude.{IsTrue, not, ◌||◌}
use Rattle.std.specs.List.{list_any}
use Rattle.std.specs.Cmp.{first_so, second_so}
use Rattle.std.proofs.lemmas.Bool.{and_from, or_left, or_right}
use Rattle.il_base.specs.declared.ids.TypeId.{TypeId}
use Rattle.il_base.specs.declared.ids.MethodId.{MethodId}
use Rattle.il_base.specs.declared.ids.FieldId.{FieldId}
use Rattle.il_base.specs.declared.ids.Item.TheVariants as item
use Rattle.il_base.specs.declared.world_model.record.AsmRec.{AsmRec}
use Rattle.il_base.specs.declared.cil_values.core_call.CoreCall.{CoreCall}
use Rattle.rules.specs.link_rules.Cycles.{listed}
use Rattle.rules.specs.step_rules.CoreSearches.{searches}
use Rattle.rules.specs.view_rules.Members.{core_call}
use Rattle.rules.specs.mark_rules.Facts.{Fact}
use Rattle.rules.specs.mark_rules.Facts.Fact.{marked, instantiated, shown}
use Rattle.run_laws.specs.marked_laws.Flags.{is_core_type, is_absent, begins, searches_at, keep_of}

module _ (recs : List AsmRec) (has : Fact → Bool) where
  pub typ_is : (t : TypeId) → IsTrue (has (marked (item.Typ t))) → IsTrue ((keep_of recs has).typ t.0)
  unfolding keep_of
  typ_is t h = h

  pub typ_has : (t : TypeId) → IsTrue ((keep_of recs has).typ t.0) → IsTrue (has (marked (item.Typ t)))
  unfolding keep_of
  typ_has t h = h

  pub method_is : (m : MethodId) → IsTrue (has (marked (item.Method m))) → IsTrue ((keep_of recs has).method m.0)
  unfolding keep_of
  method_is m h = h

  pub method_has : (m : MethodId) → IsTrue ((keep_of recs has).method m.0) → IsTrue (has (marked (item.Method m)))
  unfolding keep_of
  method_has m h = h

  pub field_is : (f : FieldId) → IsTrue (has (marked (item.Field f))) → IsTrue ((keep_of recs has).field f.0)
  unfolding keep_of
  field_is f h = h

  pub field_has : (f : FieldId) → IsTrue ((keep_of recs has).field f.0) → IsTrue (has (marked (item.Field f)))
  unfolding keep_of
  field_has f h = h

  pub shown_is : (t : TypeId) → IsTrue (has (marked (item.Typ t))) → IsTrue (has (shown t)) → IsTrue ((keep_of recs has).shown t.0)
  unfolding keep_of
  shown_is t h g = and_from (has (marked (item.Typ t))) (is_core_type recs t.0 || has (shown t)) h (or_right (is_core_type recs t.0) (has (shown t)) g)

  pub shown_core : (t : TypeId) → IsTrue (has (marked (item.Typ t))) → is_core_type recs t.0 ≡ true → IsTrue ((keep_of recs has).shown t.0)
  unfolding keep_of
  shown_core t h g = and_from (has (marked (item.Typ t))) (is_core_type recs t.0 || has (shown t)) h (or_left (is_core_type recs t.0) (has (shown t)) g)

  pub shown_typ : (t : TypeId) → IsTrue ((keep_of recs has).shown t.0) → IsTrue ((keep_of recs has).typ t.0)
  unfolding keep_of
  shown_typ t h = first_so (has (marked (item.Typ t))) (is_core_type recs t.0 || has (shown t)) h

  pub begun_is : (t : TypeId) → IsTrue (has (marked (item.Typ t))) → IsTrue (begins recs has t.0) → IsTrue ((keep_of recs has).begun t.0)
  unfolding keep_of
  begun_is t h g = and_from (has (marked (item.Typ t))) (begins recs has t.0) h g

  pub begun_typ : (t : TypeId) → IsTrue ((keep_of recs has).begun t.0) → IsTrue ((keep_of recs has).typ t.0)
  unfolding keep_of
  begun_typ t h = first_so (has (marked (item.Typ t))) (begins recs has t.0) h

  pub begun_begins : (t : TypeId) → IsTrue ((keep_of recs has).begun t.0) → IsTrue (begins recs has t.0)
  unfolding keep_of
  begun_begins t h = second_so (has (marked (item.Typ t))) (begins recs has t.0) h

  pub made_is : (t : TypeId) → IsTrue (has (instantiated t)) → IsTrue ((keep_of recs has).made t.0)
  unfolding keep_of
  made_is t h = or_right (is_core_type recs t.0 || is_absent recs t.0) (has (instantiated t)) h

  pub made_core : (t : TypeId) → is_core_type recs t.0 ≡ true → IsTrue ((keep_of recs has).made t.0)
  unfolding keep_of
  made_core t h = or_left (is_core_type recs t.0 || is_absent recs t.0) (has (instantiated t)) (or_left (is_core_type recs t.0) (is_absent recs t.0) h)

  pub made_absent : (t : TypeId) → is_absent recs t.0 ≡ true → IsTrue ((keep_of recs has).made t.0)
  unfolding keep_of
  made_absent t h = or_left (is_core_type recs t.0 || is_absent recs t.0) (has (instantiated t)) (or_right (is_core_type recs t.0) (is_absent recs t.0) h)

  pub called_is : (n : ℕ) → searches_at recs n ≡ false → IsTrue ((keep_of recs has).called n)
  unfolding keep_of
  called_is n h = ap not h

  pub no_search : (n : ℕ) (c : CoreCall) → IsTrue ((keep_of recs has).called n) → core_call recs n ≡ Some c → searches c ≡ false
  unfolding keep_of
  no_search n c h is = passes (searches c) (sym (ap (λ (o : Option CoreCall). not (list_any searches (listed o))) is) ∙ h)
    where
      passes : (b : Bool) → not (b || false) ≡ true → b ≡ false
      passes true e = absurd (let f : false ≡ true = e in cc)
      passes false e = refl
