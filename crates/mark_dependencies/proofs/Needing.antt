-- What a dependency marks, and what an item needs by all of them.
use Rattle.std.proofs.Common.{◌≡◌, List, [], ◌∷◌, ◌++◌, map, Option, Some, None, sym, ap, ◌∙◌}
use Rattle.std.specs.List.{flat_map}
use Rattle.std.proofs.lemmas.List.{append-nil}
use Rattle.il_base.specs.declared.ids.Item.{Item}
use Rattle.il_base.specs.declared.world_model.record.AsmRec.{AsmRec}
use Rattle.rules.specs.declared.link_rules.row_at.RowAt.{RowAt}
use Rattle.rules.specs.link_rules.Cycles.{listed}
use Rattle.rules.specs.mark_rules.Facts.{Fact}
use Rattle.rules.specs.mark_rules.Annotations.{dependencies}
use Rattle.rules.specs.mark_rules.Places.{row_of}
use Rattle.rules.specs.mark_rules.Dependencies.{sought_in, dependency_facts, dependency_needs}
use Rattle.attribute_values.specs.declared.dependency_forms.dependency.Dependency.{Dependency}
use Rattle.attribute_values.specs.dependency_forms.Told.{sought_told, dependency_told}
use Rattle.mark_dependencies.specs.Lookups.{told_facts, kept_of}
use Rattle.mark_dependencies.proofs.Lists.{flat_told}

pub one_sought : (recs : List AsmRec) (i : Item) (at : RowAt) (d : Dependency) (t : RowAt) (put old : List Fact) → t ∷ [] ≡ sought_in recs i at (sought_told d.sought) → put ≡ old ++ kept_of recs d t → put ≡ old ++ told_facts recs i at d
one_sought recs i at d t put old e p =
    p ∙ ap (λ (fs : List Fact). old ++ fs) (sym (append-nil (kept_of recs d t)) ∙ ap (flat_map (kept_of recs d)) e)

pub none_sought : (recs : List AsmRec) (i : Item) (at : RowAt) (d : Dependency) (old : List Fact) → [] ≡ sought_in recs i at (sought_told d.sought) → old ≡ old ++ told_facts recs i at d
none_sought recs i at d old e = sym (ap (λ (fs : List Fact). old ++ fs) (ap (flat_map (kept_of recs d)) (sym e)) ∙ append-nil old)

pub one_needed : (recs : List AsmRec) (i : Item) (at : RowAt) (ds : List Dependency) (put old : List Fact) → Some at ≡ row_of recs i → map dependency_told ds ≡ dependencies recs i
    → put ≡ old ++ flat_map (told_facts recs i at) ds → put ≡ old ++ dependency_needs recs i
unfolding dependency_needs
one_needed recs i at ds put old e m p =
    p ∙ ap (λ (fs : List Fact). old ++ fs)
    (flat_told (dependency_facts recs i at) dependency_told ds ∙ ap (flat_map (dependency_facts recs i at)) m
    ∙ sym (append-nil (flat_map (dependency_facts recs i at) (dependencies recs i)))
    ∙ ap (λ (o : Option RowAt). flat_map (λ (at : RowAt). flat_map (dependency_facts recs i at) (dependencies recs i)) (listed o)) e)

pub none_needed : (recs : List AsmRec) (i : Item) (old : List Fact) → None ≡ row_of recs i → old ≡ old ++ dependency_needs recs i
unfolding dependency_needs
none_needed recs i old e =
    sym (ap (λ (fs : List Fact). old ++ fs) (ap (λ (o : Option RowAt). flat_map (λ (at : RowAt). flat_map (dependency_facts recs i at) (dependencies recs i)) (listed o)) (sym e)) ∙ append-nil old)
