-- The owners of rows, by the runs of types.
use Rattle.std.proofs.Common.{◌≡◌, ℕ, suc, ◌+◌, List, [], ◌∷◌, length, map, Bool, cond, Option, Some, refl, ap, ◌∙◌}
use Rattle.std.specs.List.{position_from}
use Rattle.il_base.specs.declared.world_model.record.AsmRec.{AsmRec}
use Rattle.type_tables.specs.declared.member_search.owners.Run.{Run}
use Rattle.type_tables.specs.member_search.Owners.{method_run, field_run, holds, AreOwners, AreMethodOwners, AreFieldOwners}

position_of_map : {A B : Type 0} (p : B → Bool) (f : A → B) (i : ℕ) (xs : List A) → position_from p i (map f xs) ≡ position_from (λ x. p (f x)) i xs
position_of_map p f i [] = refl
position_of_map p f i (x ∷ xs) = ap (cond (p (f x)) (Some i)) (position_of_map p f (i + 1) xs)

pub method_owners : (rec : AsmRec) (runs : List Run) (owners : List (Option ℕ)) → runs ≡ map method_run rec.type_def
    → AreOwners runs (length rec.method_def) owners → AreMethodOwners rec owners
method_owners rec runs owners is are k h =
    are.owned k h ∙ ap (position_from (holds (suc k)) 0) is ∙ position_of_map (holds (suc k)) method_run 0 rec.type_def

pub field_owners : (rec : AsmRec) (runs : List Run) (owners : List (Option ℕ)) → runs ≡ map field_run rec.type_def
    → AreOwners runs (length rec.field) owners → AreFieldOwners rec owners
field_owners rec runs owners is are k h =
    are.owned k h ∙ ap (position_from (holds (suc k)) 0) is ∙ position_of_map (holds (suc k)) field_run 0 rec.type_def
