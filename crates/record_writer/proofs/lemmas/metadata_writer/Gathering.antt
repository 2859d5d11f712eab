-- Items that are put into pools one list after another.
use Rattle.std.proofs.Common.{◌≡◌, ℕ, suc, ◌+◌, ◌<◌, ◌≤◌, List, [], ◌∷◌, ◌++◌, length, drop, get_or, refl, sym, ap, subst, ◌∙◌, add-one, drop-cons}
use Rattle.std.proofs.lemmas.List.{drop_all}
use Rattle.std.specs.List.{flat_map}
use Rattle.rules.specs.declared.file_layout.cell.Cell.{Cell}
use Rattle.rules.specs.file_layout.Interning.{added, added_all}
use Rattle.rules.specs.file_layout.Cells.{texts_of_cell, blobs_of_cell, guids_of_cell}
use Rattle.record_writer.specs.declared.metadata_writer.pools.Pools.{Pools}
use Rattle.record_writer.specs.metadata_writer.Gathered.{Gathers}

pub added_in_turn : (xs ys zs : List (List ℕ)) → added_all xs (ys ++ zs) ≡ added_all (added_all xs ys) zs
unfolding added_all
added_in_turn xs [] zs = refl
added_in_turn xs (y ∷ ys) zs = added_in_turn (added xs y) ys zs

-- what is left of a loop over a list: the items of the elements that are left complete the pools
pub record Left {X : Type 0} (of : (Cell → List (List ℕ)) → X → List (List ℕ)) (xs all : List X) (start now : Pools) : Type 0 where
  pub texts : added_all now.texts (flat_map (of texts_of_cell) xs) ≡ added_all start.texts (flat_map (of texts_of_cell) all)
  pub blobs : added_all now.blobs (flat_map (of blobs_of_cell) xs) ≡ added_all start.blobs (flat_map (of blobs_of_cell) all)
  pub guids : added_all now.guids (flat_map (of guids_of_cell) xs) ≡ added_all start.guids (flat_map (of guids_of_cell) all)

pub left_first : {X : Type 0} (of : (Cell → List (List ℕ)) → X → List (List ℕ)) (xs : List X) (p : Pools) → Left of xs xs p p
left_first of xs p = record { texts = refl; blobs = refl; guids = refl }

stepped : (now next : List (List ℕ)) (ys zs total : List (List ℕ)) → next ≡ added_all now ys → added_all now (ys ++ zs) ≡ total → added_all next zs ≡ total
stepped now next ys zs total e h = ap (λ (p : List (List ℕ)). added_all p zs) e ∙ sym (added_in_turn now ys zs) ∙ h

pub left_step : {X : Type 0} (of : (Cell → List (List ℕ)) → X → List (List ℕ)) (x : X) (xs all : List X) (start now next : Pools)
    → Gathers (λ items. of items x) now next → Left of (x ∷ xs) all start now → Left of xs all start next
left_step of x xs all start now next g h = record {
  texts = stepped now.texts next.texts (of texts_of_cell x) (flat_map (of texts_of_cell) xs) _ g.texts h.texts;
  blobs = stepped now.blobs next.blobs (of blobs_of_cell x) (flat_map (of blobs_of_cell) xs) _ g.blobs h.blobs;
  guids = stepped now.guids next.guids (of guids_of_cell x) (flat_map (of guids_of_cell) xs) _ g.guids h.guids;
}

pub left_done : {X : Type 0} (of : (Cell → List (List ℕ)) → X → List (List ℕ)) (all : List X) (start now : Pools)
    → Left of [] all start now → Gathers (λ items. flat_map (of items) all) start now
unfolding added_all
left_done of all start now h = record { texts = h.texts; blobs = h.blobs; guids = h.guids }

-- one element more
pub left_next : {X : Type 0} (of : (Cell → List (List ℕ)) → X → List (List ℕ)) (all : List X) (i : ℕ) (x : X) (start now next : Pools)
    → i < length all → x ≡ get_or all i x → Gathers (λ items. of items x) now next → Left of (drop i all) all start now → Left of (drop (i + 1) all) all start next
left_next {X = X} of all i x start now next lt is g h =
    let here : drop i all ≡ x ∷ drop (suc i) all = drop-cons all i x lt ∙ ap (λ (y : X). y ∷ drop (suc i) all) (sym is) in
    rw add-one (left_step of x (drop (suc i) all) all start now next g (subst (λ (xs : List X). Left of xs all start now) here h))

-- no elements are left
pub left_end : {X : Type 0} (of : (Cell → List (List ℕ)) → X → List (List ℕ)) (all : List X) (i : ℕ) (start now : Pools)
    → length all ≤ i → Left of (drop i all) all start now → Gathers (λ items. flat_map (of items) all) start now
left_end {X = X} of all i start now le h = left_done of all start now (subst (λ (xs : List X). Left of xs all start now) (drop_all i all le) h)

-- items that are put, known by another term
pub gathers_as : {X : Type 0} (of : (Cell → List (List ℕ)) → X → List (List ℕ)) (x y : X) (now next : Pools) → x ≡ y → Gathers (λ items. of items x) now next → Gathers (λ items. of items y) now next
gathers_as {X = X} of x y now next e g = subst (λ (z : X). Gathers (λ items. of items z) now next) e g
