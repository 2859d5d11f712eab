-- The numbers of facts by where each kind begins.
use Rattle.std.proofs.Common.{◌≡◌, ℕ, ◌+◌, List, Option, refl, ap, subst, sym, ◌∙◌}
use Rattle.std.specs.Prelude.{IsTrue, ◌↔◌}
use Rattle.il_base.specs.declared.ids.Item.{Item}
use Rattle.il_base.specs.declared.ids.Item.TheVariants as item
use Rattle.il_base.specs.declared.bits.Bits.{Bits}
use Rattle.il_base.specs.declared.world_model.record.AsmRec.{AsmRec}
use Rattle.base_laws.specs.world_laws.Homes.{place_of}
use Rattle.rules.specs.declared.link_rules.row_at.RowAt.{RowAt}
use Rattle.descriptor_file.specs.declared.root.Root.{Root}
use Rattle.closure.specs.Facts.{is_set}
use Rattle.rules.specs.mark_rules.Facts.{Fact}
use Rattle.rules.specs.mark_rules.Facts.Fact.{marked, instantiated, reflected, shown}
use Rattle.rules.specs.mark_rules.Marking.{Marks}
use Rattle.mark_numbers.specs.declared.starts.Starts.{Starts}
use Rattle.mark_numbers.specs.Numbers.{before_reflected, number_of}
use Rattle.mark_numbers.specs.Starts.{AreStarts}
use Rattle.marking.specs.Marks.{IsMarkedSet}
use Rattle.marking.specs.Holding.{place_by, number_by, IsMarked}

module _ (recs : List AsmRec) (s : Starts) (are : AreStarts recs s) where
  same_place : (i : Item) → place_by s i ≡ place_of recs i
  unfolding place_of
  same_place (item.Asm a) = refl
  same_place (item.Typ t) = ap (λ (n : ℕ). n + t.0) are.types
  same_place (item.Method m) = ap (λ (n : ℕ). n + m.0) are.methods
  same_place (item.Field f) = ap (λ (n : ℕ). n + f.0) are.fields
  same_place (item.Prop p) = ap (λ (n : ℕ). n + p.0) are.props
  same_place (item.Event e) = ap (λ (n : ℕ). n + e.0) are.events
  same_place (item.Impl i) = ap (λ (n : ℕ). n + i.0) are.impls

  same_number : (f : Fact) → number_by s f ≡ number_of recs f
  unfolding number_of
  same_number (marked i) = same_place i
  same_number (instantiated t) = ap (λ (n : ℕ). n + t.0) are.items
  same_number (shown t) = ap (λ (n : ℕ). n + t.0) are.shown
  same_number (reflected i) = ap (λ (n : ℕ). n + place_by s i) are.reflected ∙ ap (λ (n : ℕ). before_reflected recs + n) (same_place i)

  pub is_marked : (entry : Option RowAt) (roots : List Root) (set : Bits) → IsMarkedSet recs entry roots set → IsMarked recs entry roots (record { set = set; starts = s })
  is_marked entry roots set h f t = subst (λ (n : ℕ). IsTrue (is_set set.flags n) ↔ Marks recs entry roots f) (sym (same_number f)) (h f t)
