-- The names and the namespace of a type by its row.
use Rattle.std.proofs.Common.{◌≡◌, ℕ, zero, suc, List, [], ◌∷◌, drop, Bool, true, false, if◌then◌else◌, Option, Some, None, slice_get, nat_lt, ◌-◌, refl, sym, ap, ◌++◌}
use Rattle.std.proofs.lemmas.List.{append-nil}
use Rattle.il_base.specs.declared.ids.TypeId.{TypeId}
use Rattle.il_base.specs.declared.world_model.record.AsmRec.{AsmRec}
use Rattle.il_base.specs.world_model.Worlds.{types_in}
use Rattle.rules.specs.declared.link_rules.row_at.RowAt.{RowAt}
use Rattle.rules.specs.link_rules.Types.{at_row}
use Rattle.rules.specs.link_rules.Members.{home_from}
use Rattle.rules.specs.type_rules.Texts.{definition_text}
use Rattle.rules.specs.type_rules.Labels.{definition_label, definition_space}
use Rattle.type_names.specs.Homes.{row_of, made_of_row, whole_name, outer_space}
use Rattle.type_names.specs.Chains.{bare_name}

first_left : {A : Type 0} (xs : List A) (a : ℕ) (x : A) (rest : List A) → drop a xs ≡ x ∷ rest → slice_get xs a ≡ Some x
first_left [] zero x rest h = cc
first_left [] (suc a) x rest h = cc
first_left (y ∷ ys) zero x rest h = let e : y ≡ x = cc in ap Some e
first_left (y ∷ ys) (suc a) x rest h = first_left ys a x rest h

next_left : {A : Type 0} (xs : List A) (a : ℕ) (x : A) (rest : List A) → drop a xs ≡ x ∷ rest → drop (suc a) xs ≡ rest
next_left [] zero x rest h = cc
next_left [] (suc a) x rest h = cc
next_left (y ∷ ys) zero x rest h = cc
next_left (y ∷ ys) (suc a) x rest h = next_left ys a x rest h

-- what is made of a row by where it is
abbrev made_of : (AsmRec → ℕ → List ℕ) → ℕ → Option AsmRec → List ℕ
made_of f k None = []
made_of f k (Some rec) = f rec k

abbrev made_at_home : (AsmRec → ℕ → List ℕ) → List AsmRec → Option RowAt → List ℕ
made_at_home f recs None = []
made_at_home f recs (Some at) = made_of f at.row (slice_get recs at.asm)

made_from : (f : AsmRec → ℕ → List ℕ) (recs : List AsmRec) (a : ℕ) (rest : List AsmRec) (n : ℕ) → drop a recs ≡ rest → made_at_home f recs (home_from types_in a rest n) ≡ made_of_row f (row_of rest n)
unfolding home_from
made_from f recs a [] n h = refl
made_from f recs a (rec ∷ rest) n h =
    elim (nat_lt n (types_in rec)) as (λ (b : Bool). made_at_home f recs (if b then Some (at_row a n) else home_from types_in (suc a) rest (n - types_in rec)) ≡ made_of_row f (if b then Some (rec, n) else row_of rest (n - types_in rec))) [
      | true ↦ ap (made_of f n) (first_left recs a rec rest h)
      | false ↦ made_from f recs (suc a) rest (n - types_in rec) (next_left recs a rec rest h)
    ]

module _ (recs : List AsmRec) where
  pub name_is : (t : TypeId) → definition_text recs (Some t) ≡ made_of_row whole_name (row_of recs t.0)
  unfolding definition_text
  name_is t = made_from whole_name recs 0 recs t.0 refl

  pub label_none : definition_label recs None ≡ []
  unfolding definition_label
  label_none = refl

  pub label_is : (t : TypeId) → definition_label recs (Some t) ≡ made_of_row bare_name (row_of recs t.0)
  unfolding definition_label
  label_is t = made_from bare_name recs 0 recs t.0 refl

  pub space_none : definition_space recs None ≡ []
  unfolding definition_space
  space_none = refl

  pub space_is : (t : TypeId) → definition_space recs (Some t) ≡ made_of_row outer_space (row_of recs t.0)
  unfolding definition_space
  space_is t = made_from outer_space recs 0 recs t.0 refl

pub unnamed : (recs : List AsmRec) (t : TypeId) (out : List ℕ) → None ≡ row_of recs t.0 → out ≡ out ++ definition_text recs (Some t)
unnamed recs t out h = rw (name_is recs t, ← h) (sym (append-nil out))
