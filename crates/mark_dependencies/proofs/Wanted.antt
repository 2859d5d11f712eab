-- Names of methods with the texts of their parameters, compared.
use Rattle.std.proofs.Common.{◌≡◌, ℕ, List, [], ◌∷◌, Bool, true, false, Option, Some, None, refl, sym, ap, ◌∙◌}
use Rattle.std.specs.Prelude.{◌||◌}
use Rattle.std.specs.List.{list_any}
use Rattle.il_base.specs.declared.world_model.record.AsmRec.{AsmRec}
use Rattle.il_base.specs.world_model.Core.{same_name}
use Rattle.rules.specs.declared.link_rules.row_at.RowAt.{RowAt}
use Rattle.rules.specs.declared.link_rules.member_type.MethodType.{MethodType}
use Rattle.rules.specs.link_rules.Cycles.{listed}
use Rattle.rules.specs.type_rules.Slots.{type_of_row}
use Rattle.rules.specs.mark_rules.Dependencies.{doc_name, good_signatures, has_doc_name}

or_false : (b : Bool) → b ≡ (b || false)
or_false true = refl
or_false false = refl

pub one_wanted : (wanted text : List ℕ) (o : Option (List ℕ)) → o ≡ Some text → same_name wanted text ≡ list_any (same_name wanted) (listed o)
one_wanted wanted text o e = or_false (same_name wanted text) ∙ ap (λ (o : Option (List ℕ)). list_any (same_name wanted) (listed o)) (sym e)

pub none_wanted : (wanted : List ℕ) (o : Option (List ℕ)) → o ≡ None → false ≡ list_any (same_name wanted) (listed o)
none_wanted wanted o e = ap (λ (o : Option (List ℕ)). list_any (same_name wanted) (listed o)) (sym e)

abbrev by_doc : List AsmRec → List ℕ → List ℕ → MethodType → Bool
by_doc recs wanted name m = list_any (same_name wanted) (listed (doc_name recs name m))

pub named_by_one : (recs own : List AsmRec) (wanted : List ℕ) (at : RowAt) (name : List ℕ) (m : MethodType) (is : Bool) → own ≡ recs → m ∷ [] ≡ good_signatures (type_of_row recs at)
    → is ≡ list_any (same_name wanted) (listed (doc_name own name m)) → is ≡ has_doc_name recs wanted at name
named_by_one recs own wanted at name m is e good h =
    h ∙ ap (λ (rs : List AsmRec). by_doc rs wanted name m) e ∙ or_false (by_doc recs wanted name m) ∙ ap (list_any (by_doc recs wanted name)) good

pub named_by_none : (recs : List AsmRec) (wanted : List ℕ) (at : RowAt) (name : List ℕ) → [] ≡ good_signatures (type_of_row recs at) → false ≡ has_doc_name recs wanted at name
named_by_none recs wanted at name good = ap (list_any (by_doc recs wanted name)) good
