-- What holds of each item of lists that are made of lists, options and rows.
use Rattle.std.proofs.Common.{◌≡◌, ℕ, suc, ◌+◌, List, [], ◌∷◌, ◌++◌, map, Bool, true, false, inl, inr, Option, Some, None, ap, subst}
use Rattle.std.specs.Prelude.{slice_get, if◌then◌else◌}
use Rattle.std.specs.List.{Contains, flat_map, list_any}
use Rattle.std.proofs.lemmas.List.Elements.{Contains-append_cases}
use Rattle.il_base.specs.world_model.Records.{Each}
use Rattle.rules.specs.link_rules.Cycles.{listed}
use Rattle.rules.specs.type_rules.Rows.{each_from}
use Rattle.rules.specs.merge_rules.Refs.{met_once, all_once, first_or}
use Rattle.rules.specs.merge_rules.Moved.{token_or_none}
use Rattle.merge_laws.proofs.lemmas.merged_record.Lists.{none_in, first_in, later_in, one_is, head_or, place_in, from_flat, from_map, from_listed, from_each}

abbrev pub Every : {A : Type 0} → (A → Type 0) → List A → Type 0
Every {A} P xs = (y : A) → Contains xs y → P y

-- by places, and by membership

pub to_place : {A : Type 0} (xs : List A) (x : A) → Contains xs x → (k : ℕ) × (slice_get xs k ≡ Some x)
to_place [] x c = absurd (none_in x c)
to_place (y ∷ xs) x c = elim (head_or y xs x c) [ inl e ↦ (0, ap Some e) | inr t ↦ (let r = to_place xs x t in (suc r.0, r.1)) ]

pub every_row : {A : Type 0} (P : A → Type 0) (xs : List A) → Each P xs → Every P xs
every_row P xs each y c = let p = to_place xs y c in each p.0 y p.1

pub each_row_of : {A : Type 0} (P : A → Type 0) (xs : List A) → Every P xs → Each P xs
each_row_of P xs every k y e = every y (place_in xs k y e)

-- ---- lists

pub every_none : {A : Type 0} (P : A → Type 0) → Every P []
every_none P y c = absurd (none_in y c)

pub every_one : {A : Type 0} (P : A → Type 0) (x : A) → P x → Every P (x ∷ [])
every_one P x h y c = subst P (one_is x y c) h

pub every_join : {A : Type 0} (P : A → Type 0) (xs ys : List A) → Every P xs → Every P ys → Every P (xs ++ ys)
every_join P xs ys g h y c = elim (Contains-append_cases xs ys y c) [ inl t ↦ g y t | inr t ↦ h y t ]

pub every_flat : {A B : Type 0} (P : B → Type 0) (g : A → List B) (xs : List A) → ((x : A) → Contains xs x → Every P (g x)) → Every P (flat_map g xs)
every_flat P g xs h y c = let r = from_flat g xs y c in h r.item r.there y r.inside

pub every_map : {A B : Type 0} (P : B → Type 0) (f : A → B) (xs : List A) → ((x : A) → Contains xs x → P (f x)) → Every P (map f xs)
every_map P f xs h y c = let r = from_map f xs y c in subst P r.2 (h r.0 r.1)

pub every_if : {A : Type 0} (P : A → Type 0) (b : Bool) (xs ys : List A) → Every P xs → Every P ys → Every P (if b then xs else ys)
every_if P true xs ys g h = g
every_if P false xs ys g h = h

pub every_option : {A B : Type 0} (P : B → Type 0) (g : A → List B) (o : Option A) → ((x : A) → o ≡ Some x → Every P (g x)) → Every P (flat_map g (listed o))
every_option P g o h = every_flat P g (listed o) (λ x c. h x (from_listed o x c))

pub every_listed : {A : Type 0} (P : A → Type 0) (o : Option A) → ((x : A) → o ≡ Some x → P x) → Every P (listed o)
every_listed P o h x c = h x (from_listed o x c)

pub every_each : {A B : Type 0} (P : B → Type 0) (f : ℕ → A → List B) (i : ℕ) (xs : List A) → ((k : ℕ) (x : A) → Contains xs x → Every P (f k x)) → Every P (each_from f i xs)
every_each P f i xs h y c = let r = from_each f i xs y c in h (i + r.place) r.item (place_in xs r.place r.item r.there) y r.inside

-- ---- each once

once_by : {A : Type 0} (P : A → Type 0) (b : Bool) (xs : List A) (x : A) → Every P xs → P x → Every P (if b then xs else xs ++ x ∷ [])
once_by P b xs x g h = every_if P b xs (xs ++ x ∷ []) g (every_join P xs (x ∷ []) g (every_one P x h))

pub every_once : {A : Type 0} (P : A → Type 0) (same : A → A → Bool) (xs ys : List A) → Every P xs → Every P ys → Every P (all_once same xs ys)
every_once P same xs [] g h = g
every_once P same xs (y ∷ ys) g h =
    every_once P same (met_once same xs y) ys (once_by P (list_any (same y) xs) xs y g (h y (first_in y ys))) (λ z c. h z (later_in y ys z c))

-- ---- the first, or another

pub first_holds : {A : Type 0} (P : A → Type 0) (xs : List A) (other : A) → Every P xs → P other → P (first_or xs other)
first_holds P [] other g h = h
first_holds P (x ∷ xs) other g h = g x (first_in x xs)

pub option_holds : {A : Type 0} (P : ℕ → Type 0) (token : A → ℕ) (o : Option A) → P 0 → ((x : A) → P (token x)) → P (token_or_none token o)
option_holds P token None z h = z
option_holds P token (Some x) z h = h x
