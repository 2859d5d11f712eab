-- The dependencies of a row, by the rows of CustomAttribute that belong to it.
use Rattle.std.proofs.Common.{◌≡◌, ℕ, suc, List, [], ◌∷◌, ◌++◌, Bool, true, false, refl, sym, ap, ◌∙◌}
use Rattle.std.specs.Prelude.{◌==◌, ◌&&◌, slice_get, if◌then◌else◌}
use Rattle.std.specs.List.{flat_map, filter}
use Rattle.std.specs.Option.{option_map_or}
use Rattle.std.proofs.lemmas.List.Concat.{flat_map-cons}
use Rattle.il_base.specs.declared.world_model.extras.CustomAttributeRow.{CustomAttributeRow}
use Rattle.il_base.specs.declared.world_model.record.AsmRec.{AsmRec}
use Rattle.rules.specs.type_rules.Rows.{each_from}
use Rattle.type_tables.specs.Groups.{is_key}
use Rattle.rules.specs.mark_rules.Annotations.{is_called, dynamic_dependency, is_dependency, dependencies_of_row, dependencies_in}
use Rattle.attribute_values.specs.attribute_rows.Parents.{rows_of_token}
use Rattle.attribute_values.proofs.lemmas.attribute_rows.Numbered.{each_places}
use Rattle.mark_dependencies.specs.item_dependencies.Rows.{if_called}

kept : {A B : Type 0} (test : A → Bool) (g : A → List B) (b : Bool) (x : A) (xs : List A) (rest : List B) → rest ≡ flat_map g (filter test xs)
    → (if b then g x else []) ++ rest ≡ flat_map g (if b then x ∷ filter test xs else filter test xs)
kept test g true x xs rest h = ap (λ (ys : List _). g x ++ ys) h ∙ sym (flat_map-cons g x (filter test xs))
kept test g false x xs rest h = h

each_kept : {A B : Type 0} (test : A → Bool) (g : A → List B) (k : ℕ) (xs : List A) → each_from (λ i x. if test x then g x else []) k xs ≡ flat_map g (filter test xs)
each_kept test g k [] = refl
each_kept test g k (x ∷ xs) = kept test g (test x) x xs (each_from (λ i x. if test x then g x else []) (suc k) xs) (each_kept test g (suc k) xs)

two_tests : {A : Type 0} (b c : Bool) (xs : List A) → (if b && c then xs else []) ≡ (if b then (if c then xs else []) else [])
two_tests true c xs = refl
two_tests false c xs = refl

pub token_rows : (recs : List AsmRec) (a : ℕ) (rec : AsmRec) (token : ℕ)
    → flat_map (λ k. option_map_or (if_called recs a rec) (slice_get rec.custom_attribute k) []) (rows_of_token rec token) ≡ dependencies_in recs a rec token
token_rows recs a rec token =
    each_places (λ (r : CustomAttributeRow). r.parent) (is_key token) (λ k. if_called recs a rec) (λ k row. if is_dependency rec token row then dependencies_of_row recs a rec row else [])
    (λ k row. two_tests (row.parent == token) (is_called rec dynamic_dependency row) (dependencies_of_row recs a rec row)) rec.custom_attribute
    ∙ each_kept (is_dependency rec token) (dependencies_of_row recs a rec) 0 rec.custom_attribute
