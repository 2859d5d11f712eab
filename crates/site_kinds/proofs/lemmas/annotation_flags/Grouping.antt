-- The rows of GenericParam and of CustomAttribute by what they belong to.
use Rattle.std.proofs.Common.{◌≡◌, ℕ, suc, ◌+◌, List, [], ◌∷◌, map, Bool, true, false, Some, refl, sym, ap, ◌∙◌, arith, zero-add, add-zero}
use Rattle.std.specs.Prelude.{◌==◌, ◌&&◌, ◌||◌, slice_get, if◌then◌else◌}
use Rattle.std.specs.List.{flat_map, list_any}
use Rattle.std.specs.Option.{option_map_or}
use Rattle.il_base.specs.declared.table.TheConstants.{GENERIC_PARAM, METHOD_DEF}
use Rattle.il_base.specs.declared.world_model.types.GenericParamRow.{GenericParamRow}
use Rattle.il_base.specs.declared.world_model.extras.CustomAttributeRow.{CustomAttributeRow}
use Rattle.il_base.specs.declared.world_model.record.AsmRec.{AsmRec}
use Rattle.il_base.specs.world_model.Tokens.{token_of}
use Rattle.rules.specs.declared.link_rules.row_at.RowAt.{RowAt}
use Rattle.rules.specs.type_rules.Rows.{each_row, rec_at}
use Rattle.type_tables.specs.member_search.Names.{places}
use Rattle.type_tables.specs.declared.groups.Groups.{Groups}
use Rattle.type_tables.specs.Groups.{is_key, rows_with, AreGroups}
use Rattle.rules.specs.mark_rules.Annotations.{or_zero, with_new, kinds_at, generic_kinds_by, generic_kinds, is_called, requires_unreferenced}
use Rattle.mark_parts.specs.mark_tables.Owners.{param_owners}
use Rattle.attribute_values.specs.attribute_rows.Parents.{rows_of_token}
use Rattle.attribute_values.proofs.lemmas.attribute_rows.Numbered.{each_places}
use Rattle.site_kinds.specs.annotation_flags.Slots.{numbered_kinds, numbered_at}
use Rattle.site_kinds.specs.annotation_flags.Unreferenced.{needed_at, needed_in}
use Rattle.site_kinds.proofs.lemmas.annotation_flags.Here.{one_listed, moved_here}

two_tests : {A : Type 0} (b c : Bool) (x : A) → (if b && c then x ∷ [] else []) ≡ (if b then (if c then x ∷ [] else []) else [])
two_tests true c x = refl
two_tests false c x = refl

module _ (recs : List AsmRec) (at : RowAt) (table n : ℕ) where
  abbrev wanted : ℕ
  wanted = token_of table (suc at.row)

  pub generics_there : (own : List AsmRec) (a : ℕ) (rec there : AsmRec) → own ≡ recs → a ≡ at.asm → rec ≡ there → Some there ≡ slice_get recs at.asm
      → (groups : Groups) → AreGroups (param_owners rec) groups → (owner : ℕ) → owner ≡ wanted → (ks : List ℕ) → ks ≡ rows_with groups owner
      → or_zero (flat_map (numbered_at own a rec n) ks) ≡ generic_kinds recs at table n
  generics_there own a rec there o p q h groups are owner w ks r =
      ap (λ (rows : List ℕ). or_zero (flat_map (numbered_at own a rec n) rows)) (r ∙ ap (rows_with groups) w ∙ are wanted)
      ∙ ap or_zero
      (each_places (λ (r : GenericParamRow). r.owner) (is_key wanted) (numbered_kinds own a rec n) (generic_kinds_by own a rec wanted n)
      (λ k row. two_tests (row.owner == wanted) (row.number == n) (with_new row (kinds_at own a rec (token_of GENERIC_PARAM (suc k))))) rec.generic_param)
      ∙ moved_here (λ (xs : List AsmRec) (m : ℕ) (r : AsmRec). or_zero (each_row (generic_kinds_by xs m r wanted n) r.generic_param)) own recs a at.asm rec there o p q
      ∙ ap or_zero (sym (one_listed (λ (r : AsmRec). each_row (generic_kinds_by recs at.asm r wanted n) r.generic_param) (rec_at recs at) there h))

-- whether a row among those with a key passes a test
any_next : (at : ℕ → Bool) (b c : Bool) (i : ℕ) (ks : List ℕ) (rest : Bool) → at i ≡ c → list_any at ks ≡ rest → list_any at (if b then i ∷ ks else ks) ≡ ((b && c) || rest)
any_next at true c i ks rest h r = rw (h, r) refl
any_next at false c i ks rest h r = r

module _ {A : Type 0} (key : A → ℕ) (wanted : ℕ) (test : A → Bool) where
  abbrev At : (ℕ → Bool) → ℕ → List A → Type 0
  At at i xs = (k : ℕ) (x : A) → slice_get xs k ≡ Some x → at (i + k) ≡ test x

  here_at : (at : ℕ → Bool) (i : ℕ) (x : A) (xs : List A) → At at i (x ∷ xs) → at i ≡ test x
  here_at at i x xs h = rw add-zero at (h 0 x refl)

  later_at : (at : ℕ → Bool) (i : ℕ) (x : A) (xs : List A) → At at i (x ∷ xs) → At at (i + 1) xs
  later_at at i x xs h k y e = let n : i + 1 + k ≡ i + suc k = omega arith in rw n (h (suc k) y e)

  any_from : (at : ℕ → Bool) (xs : List A) (i : ℕ) → At at i xs → list_any at (places (is_key wanted) i (map key xs)) ≡ list_any (λ x. key x == wanted && test x) xs
  any_from at [] i h = refl
  any_from at (x ∷ xs) i h =
      any_next at (key x == wanted) (test x) i (places (is_key wanted) (i + 1) (map key xs)) (list_any (λ y. key y == wanted && test y) xs) (here_at at i x xs h)
      (any_from at xs (i + 1) (later_at at i x xs h))

  get_at : (xs : List A) → At (λ k. option_map_or test (slice_get xs k) false) 0 xs
  get_at xs k x e = rw (zero-add, e) refl

  any_places : (rows : List A) → list_any (λ k. option_map_or test (slice_get rows k) false) (places (is_key wanted) 0 (map key rows)) ≡ list_any (λ x. key x == wanted && test x) rows
  any_places rows = any_from (λ k. option_map_or test (slice_get rows k) false) rows 0 (get_at rows)

pub rows_needed : (rec : AsmRec) (row token : ℕ) (ks : List ℕ) → ks ≡ rows_of_token rec token → token ≡ token_of METHOD_DEF (suc row) → list_any (needed_at rec) ks ≡ needed_in rec row
rows_needed rec row token ks e t =
    ap (list_any (needed_at rec)) (e ∙ ap (rows_of_token rec) t)
    ∙ any_places (λ (r : CustomAttributeRow). r.parent) (token_of METHOD_DEF (suc row)) (is_called rec requires_unreferenced) rec.custom_attribute
