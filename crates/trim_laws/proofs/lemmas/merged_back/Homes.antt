-- What stands in the output's world is what stays of the inputs' world: each of its types is the place of one type.
use Rattle.std.proofs.Common.{◌≡◌, ◌<◌, ◌≤◌, ℕ, suc, ◌+◌, ◌-◌, Bool, true, false, nat_lt, List, length, Option, Some, None, ◌⊎◌, inl, inr, refl, sym, ap, subst, ◌∙◌, arith}
use Rattle.std.specs.Prelude.{IsTrue, nat_le, ◌&&◌, unwrap_or, if◌then◌else◌}
use Rattle.std.specs.Option.{is_some, option_map, option_and_then}
use Rattle.std.proofs.lemmas.Bool.{and_parts, and_from, leb-true, cases_lt}
use Rattle.il_base.specs.world_model.Worlds.{types_in}
use Rattle.rules.specs.declared.link_rules.row_at.RowAt.{RowAt}
use Rattle.rules.specs.link_rules.Cycles.{same_row}
use Rattle.rules.specs.link_rules.Members.{home_from, type_home}
use Rattle.rules.specs.merge_rules.Numbers.{kept_types, new_row}
use Rattle.rules.specs.change_rules.Change.{Keep}
use Rattle.rules.specs.world_change_rules.Places.{type_numbered, keeps_type_row}
use Rattle.rules.specs.merged_world_rules.Merge.{Merge, IsMerge, before, after}
use Rattle.rules.specs.merged_world_rules.Numbering.{in_inputs, in_all, has_row, other_number, new_number}
use Rattle.rules.specs.merged_world_rules.NewNumbers.{type_core, rho_of, places_of}
use Rattle.rules.specs.merged_world_rules.Kept.{HasFlags}
use Rattle.merge_laws.proofs.lemmas.merged_places.Rows.{IsThere, place_within, same_some, row_itself, rows_one, home_there, home_number, home_below, input_below, core_number}
use Rattle.merge_laws.proofs.lemmas.merged_places.Kept.{kept_at, those}
use Rattle.merge_laws.proofs.lemmas.merged_places.Numbers.{new_of, new_none, new_row_at}
use Rattle.merge_laws.proofs.lemmas.merged_places.Moving.{Stays, place_of, after_all, homes_move}
use Rattle.merge_laws.proofs.lemmas.merged_places.Situations.{place, place_there, there_has, has_there}
use Rattle.merge_laws.proofs.lemmas.merged_places.Tables.{number_type, type_kind}
use Rattle.merge_laws.proofs.lemmas.merged_places.Whole.{there_row, type_stays, stay_apart}

module _ (m : Merge) (is : IsMerge m) where
  abbrev rows : List RowAt
  rows = those types_in (before m) number_type m.kept

  abbrev new : ℕ → ℕ
  new n = new_of types_in (type_core m) (before m) number_type m.kept n

  abbrev below : ℕ
  below = in_inputs types_in (before m)

  abbrev all : ℕ
  all = in_all types_in (before m)

  -- the type that a type of the output's world is the place of
  pub record Back (t : ℕ) (z : RowAt) : Type 0 where
    pub at : RowAt
    pub home : home_from types_in 0 (before m) t ≡ Some at
    pub there : IsThere types_in (before m) at
    pub stays : Stays m types_in number_type (type_kind m is) at
    pub moved : place m types_in number_type (type_kind m is) at ≡ z

  -- a number past all rows has no row
  none_past : (n k : ℕ) (z : RowAt) → n ≡ length rows + (type_core m).count + k → home_from types_in 0 (after m) n ≡ Some z → ⊥
  none_past n k z e h =
      let low = home_below types_in (after m) n z h in
      let counted = after_all m types_in number_type (type_kind m is) in
      let whole = (type_kind m is).whole in
      omega (arith, low, counted, whole, e)

  back_by : (t : ℕ) (z at : RowAt) → home_from types_in 0 (after m) (new t) ≡ Some z → home_from types_in 0 (before m) t ≡ Some at → IsThere types_in (before m) at
      → Stays m types_in number_type (type_kind m is) at → Back t z
  back_by t z at h home there stays =
      let moves = homes_move m types_in number_type (type_kind m is) t
      (λ x e. let same : at ≡ x = same_some at x (sym home ∙ e) in subst (λ (y : RowAt). Stays m types_in number_type (type_kind m is) y) same stays) in
      let one : Some z ≡ Some (place_of m types_in number_type (type_kind m is) at) = sym h ∙ moves ∙ ap (option_map (place_of m types_in number_type (type_kind m is))) home in
      record { at = at; home = home; there = there; stays = stays; moved = place_there m types_in number_type (type_kind m is) at there ∙ sym (same_some z _ one) }

  -- of a row that isn't a kept one of an input
  new_other : (t : ℕ) (at : RowAt) → home_from types_in 0 (before m) t ≡ Some at → new_row rows at ≡ None → new t ≡ other_number (type_core m) (length rows) below all t
  unfolding new_number
  new_other t at home e =
      ap (λ (o : Option RowAt). unwrap_or (option_and_then (new_row rows) o) (other_number (type_core m) (length rows) below all t)) home
      ∙ ap (λ (o : Option ℕ). unwrap_or o (other_number (type_core m) (length rows) below all t)) e

  core_back : (t : ℕ) (z at : RowAt) (o : Option ℕ) → home_from types_in 0 (after m) (new t) ≡ Some z → home_from types_in 0 (before m) t ≡ Some at → IsThere types_in (before m) at → below ≤ t
      → (type_core m).to (t - below) ≡ o → new t ≡ unwrap_or (option_map (λ (r : ℕ). length rows + r) o) (length rows + (type_core m).count + t) → Back t z
  core_back t z at None h home there ge e is = absurd (none_past (new t) t z is h)
  core_back t z at (Some s) h home there ge e is =
      let number = home_number types_in (before m) t at home in
      let asm = place_within (before m) at.asm there.rec there.here in
      let last : suc at.asm ≡ length (before m) = elim (cases_lt (suc at.asm) (length (before m))) [
        | inl lt ↦ (let low = input_below types_in (before m) at there lt in absurd (omega (arith, low, number, ge)))
        | inr le ↦ omega (arith, le, asm)
      ] in
      let row : t - below ≡ at.row = let c = core_number types_in (before m) at last in omega (arith, c, number) in
      back_by t z at h home there ((λ lt. absurd (omega (arith, lt, last))), (λ l. (s, ap (type_core m).to (sym row) ∙ e)))

  other_back : (t : ℕ) (z at : RowAt) (b : Bool) → home_from types_in 0 (after m) (new t) ≡ Some z → home_from types_in 0 (before m) t ≡ Some at → IsThere types_in (before m) at
      → (nat_le below t && nat_lt t all) ≡ b → new t ≡ unwrap_or (option_map (λ (r : ℕ). length rows + r) (if b then (type_core m).to (t - below) else None)) (length rows + (type_core m).count + t) → Back t z
  other_back t z at false h home there e is = absurd (none_past (new t) t z is h)
  other_back t z at true h home there e is = core_back t z at ((type_core m).to (t - below)) h home there (leb-true below t (and_parts (nat_le below t) (nat_lt t all) e).0) refl is

  row_back : (t : ℕ) (z at : RowAt) (o : Option ℕ) → home_from types_in 0 (after m) (new t) ≡ Some z → home_from types_in 0 (before m) t ≡ Some at → new_row rows at ≡ o → Back t z
  row_back t z at (Some j) h home e =
      let k = kept_at types_in (before m) number_type m.kept j at (new_row_at rows at j e) in
      let lt = k.0.1 in
      back_by t z at h home k.0.0 ((λ l. k.1), (λ last. absurd (omega (arith, lt, last))))
  row_back t z at None h home e =
      other_back t z at (nat_le below t && nat_lt t all) h home (home_there types_in (before m) t at home) refl (new_other t at home e)

  home_back : (t : ℕ) (z : RowAt) (o : Option RowAt) → home_from types_in 0 (after m) (new t) ≡ Some z → home_from types_in 0 (before m) t ≡ o → Back t z
  home_back t z None h e = absurd (none_past (new t) t z (new_none types_in (type_core m) (before m) number_type m.kept t e) h)
  home_back t z (Some at) h e = row_back t z at (new_row rows at) h e refl

  pub found_back : (t : ℕ) (z : RowAt) → type_home (after m) (type_numbered ((rho_of m).typ t)) ≡ Some z → Back t z
  unfolding kept_types
  found_back t z h = home_back t z (home_from types_in 0 (before m) t) h refl

-- ---- types that stay, by their flags

module _ (m : Merge) (k : Keep) where
  -- a kept type that is there
  abbrev pub stands : RowAt → Bool
  stands at = keeps_type_row k (before m) at && has_row types_in (before m) at

  pub stands_keeps : (at : RowAt) → IsTrue (stands at) → IsTrue (keeps_type_row k (before m) at)
  stands_keeps at h = (and_parts (keeps_type_row k (before m) at) (has_row types_in (before m) at) h).0

  pub stands_there : (at : RowAt) → IsTrue (stands at) → IsThere types_in (before m) at
  stands_there at h = has_there types_in (before m) at (and_parts (keeps_type_row k (before m) at) (has_row types_in (before m) at) h).1

module _ (m : Merge) (is : IsMerge m) (k : Keep) (kept : RowAt → Bool) (flags : HasFlags m k kept) where
  abbrev pub typ : RowAt → RowAt
  typ at = place m types_in number_type (type_kind m is) at

  pub place_is : (at : RowAt) → (places_of m).typ at ≡ typ at
  unfolding kept_types
  place_is at = refl

  keeps_by : (at : RowAt) → IsThere types_in (before m) at → Stays m types_in number_type (type_kind m is) at → (suc at.asm < length (before m)) ⊎ (length (before m) ≤ suc at.asm) → IsTrue (keeps_type_row k (before m) at)
  keeps_by at h stays (inl lt) = let row = there_row (λ rec. rec.type_def) (before m) at h in flags.types at row.0 lt row.1 ∙ stays.0 lt
  keeps_by at h stays (inr ge) =
      let asm = place_within (before m) at.asm h.rec h.here in
      let last : suc at.asm ≡ length (before m) = omega (arith, ge, asm) in
      let row = there_row (λ rec. rec.type_def) (before m) at h in
      let goes = stays.1 last in
      flags.core_types at row.0 last row.1 ∙ ap (λ (o : Option ℕ). is_some o) goes.1

  pub stays_stands : (at : RowAt) → IsThere types_in (before m) at → Stays m types_in number_type (type_kind m is) at → IsTrue (stands m k at)
  stays_stands at h stays =
      and_from (keeps_type_row k (before m) at) (has_row types_in (before m) at) (keeps_by at h stays (cases_lt (suc at.asm) (length (before m)))) (there_has types_in (before m) at h)

  pub stands_stays : (at : RowAt) → IsTrue (stands m k at) → Stays m types_in number_type (type_kind m is) at
  stands_stays at h = type_stays m is k kept flags at (stands_keeps m k at h) (stands_there m k at h)

  -- no two have one place
  pub places_one : (x y : RowAt) → IsTrue (stands m k x) → IsTrue (stands m k y) → (places_of m).typ x ≡ (places_of m).typ y → x ≡ y
  places_one x y h g e =
      let a = there_row (λ rec. rec.type_def) (before m) x (stands_there m k x h) in
      let b = there_row (λ rec. rec.type_def) (before m) y (stands_there m k y g) in
      rows_one x y (sym ((stay_apart m is).types x y a.0 b.0 a.1 b.1) ∙ ap (λ (z : RowAt). same_row_with z) e ∙ row_itself ((places_of m).typ y))
    where
      same_row_with : RowAt → Bool
      same_row_with z = same_row z ((places_of m).typ y)

  -- what a number of the output's world that is moved leads to
  pub record Led (t : ℕ) (z : RowAt) : Type 0 where
    pub at : RowAt
    pub home : type_home (before m) (type_numbered t) ≡ Some at
    pub stays : IsTrue (stands m k at)
    pub moved : (places_of m).typ at ≡ z

  pub led_back : (t : ℕ) (z : RowAt) → type_home (after m) (type_numbered ((rho_of m).typ t)) ≡ Some z → Led t z
  led_back t z h =
      let b = found_back m is t z h in
      record { at = b.at; home = b.home; stays = stays_stands b.at b.there b.stays; moved = place_is b.at ∙ b.moved }
