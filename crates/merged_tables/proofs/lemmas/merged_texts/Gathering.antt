-- Texts that are met item by item.
use Rattle.std.proofs.Common.{◌≡◌, ℕ, List, [], ◌∷◌, ◌++◌, refl, sym, ap, ◌∙◌}
use Rattle.std.specs.List.{flat_map}
use Rattle.std.proofs.lemmas.List.Concat.{flat_map-cons}
use Rattle.rules.specs.file_layout.Interning.{added, added_all}
use Rattle.std.proofs.lemmas.List.{append-nil}
use Rattle.il_base.specs.declared.body.Body.{Body}
use Rattle.il_base.specs.declared.world_model.record.AsmRec.{AsmRec}
use Rattle.rules.specs.merge_rules.Moved.{texts_of_body}
use Rattle.merged_tables.specs.merged_texts.Texts.{gathered, loaded}

pub added_two : (texts xs ys : List (List ℕ)) → added_all (added_all texts xs) ys ≡ added_all texts (xs ++ ys)
unfolding added_all
added_two texts [] ys = refl
added_two texts (x ∷ xs) ys = added_two (added texts x) xs ys

pub gathered_is : {A : Type 0} (f : A → List (List ℕ)) (texts : List (List ℕ)) (xs : List A) → gathered f texts xs ≡ added_all texts (flat_map f xs)
unfolding gathered added_all
gathered_is f texts [] = refl
gathered_is f texts (x ∷ xs) = gathered_is f (added_all texts (f x)) xs ∙ added_two texts (f x) (flat_map f xs) ∙ ap (added_all texts) (sym (flat_map-cons f x xs))

-- the texts of a body
pub body_texts : (rec : AsmRec) (texts : List (List ℕ)) (b : Body) → gathered (loaded rec) texts b.code ≡ added_all texts (texts_of_body rec b ++ [])
body_texts rec texts b = gathered_is (loaded rec) texts b.code ∙ ap (added_all texts) (sym (append-nil (texts_of_body rec b)))
