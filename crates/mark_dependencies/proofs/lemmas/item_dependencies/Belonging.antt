-- The dependencies of an item, by its row and its assembly.
use Rattle.std.proofs.Common.{◌≡◌, ℕ, List, [], ◌∷◌, ◌++◌, map, sym, ap, ◌∙◌}
use Rattle.std.specs.Prelude.{Option, Some, None, slice_get}
use Rattle.std.specs.List.{flat_map}
use Rattle.std.proofs.lemmas.List.{append-nil}
use Rattle.il_base.specs.declared.ids.Item.{Item}
use Rattle.il_base.specs.declared.world_model.record.AsmRec.{AsmRec}
use Rattle.rules.specs.declared.link_rules.row_at.RowAt.{RowAt}
use Rattle.rules.specs.link_rules.Cycles.{listed}
use Rattle.rules.specs.mark_rules.Annotations as rules
use Rattle.rules.specs.mark_rules.Annotations.{dependent_token, dependencies_in, dependencies_at}
use Rattle.attribute_values.specs.declared.dependency_forms.dependency.Dependency.{Dependency}
use Rattle.attribute_values.specs.dependency_forms.Told.{dependency_told}

-- what a row names, put at the end
pub one_put : (old named : List rules.Dependency) (d : Dependency) (o : Option Dependency) → o ≡ Some d → map dependency_told (listed o) ≡ named → old ++ dependency_told d ∷ [] ≡ old ++ named
one_put old named d o e h = ap (λ (ds : List rules.Dependency). old ++ ds) (ap (λ (o : Option Dependency). map dependency_told (listed o)) (sym e) ∙ h)

pub none_put : (old named : List rules.Dependency) (o : Option Dependency) → o ≡ None → map dependency_told (listed o) ≡ named → old ≡ old ++ named
none_put old named o e h =
    sym (append-nil old) ∙ ap (λ (ds : List rules.Dependency). old ++ ds) (ap (λ (o : Option Dependency). map dependency_told (listed o)) (sym e) ∙ h)

module _ (recs : List AsmRec) (a : ℕ) (rec : AsmRec) where
  pub one_token : (old put : List rules.Dependency) (token : ℕ) (tokens : List ℕ) → token ∷ [] ≡ tokens → put ≡ old ++ dependencies_in recs a rec token → put ≡ old ++ flat_map (dependencies_in recs a rec) tokens
  one_token old put token tokens e p =
      p ∙ ap (λ (ds : List rules.Dependency). old ++ ds) (sym (append-nil (dependencies_in recs a rec token)) ∙ ap (flat_map (dependencies_in recs a rec)) e)

  pub no_token : (old : List rules.Dependency) (tokens : List ℕ) → [] ≡ tokens → old ≡ old ++ flat_map (dependencies_in recs a rec) tokens
  no_token old tokens e = sym (append-nil old) ∙ ap (λ (ds : List rules.Dependency). old ++ ds) (ap (flat_map (dependencies_in recs a rec)) e)

-- of the assembly in its place
pub here : (recs : List AsmRec) (i : Item) (at : RowAt) (own : List AsmRec) (a : ℕ) (rec there : AsmRec) → own ≡ recs → a ≡ at.asm → rec ≡ there → slice_get recs at.asm ≡ Some there
    → flat_map (dependencies_in own a rec) (dependent_token i at.row) ≡ dependencies_at recs i at
here recs i at own a rec there o p r h =
    ap (λ (xs : List AsmRec). flat_map (dependencies_in xs a rec) (dependent_token i at.row)) o
    ∙ ap (λ (n : ℕ). flat_map (dependencies_in recs n rec) (dependent_token i at.row)) p
    ∙ ap (λ (x : AsmRec). flat_map (dependencies_in recs at.asm x) (dependent_token i at.row)) r
    ∙ sym (append-nil (flat_map (dependencies_in recs at.asm there) (dependent_token i at.row)))
    ∙ ap (λ (x : Option AsmRec). flat_map (λ (x : AsmRec). flat_map (dependencies_in recs at.asm x) (dependent_token i at.row)) (listed x)) (sym h)
