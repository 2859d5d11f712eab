-- The types of the first input keep their names: what is renamed has its name from a kept type of an earlier input.
use Rattle.std.proofs.Common.{◌≡◌, ℕ, Bool, true, false, cond, List, [], ◌∷◌, ◌++◌, map, Option, Some, None, inl, inr, refl, sym, ap, subst, ◌∙◌, arith, eq-eqb}
use Rattle.std.specs.Prelude.{find, not, ◌&&◌, if◌then◌else◌}
use Rattle.std.specs.List.{Contains, filter}
use Rattle.std.proofs.lemmas.List.Elements.{Contains-append_cases}
use Rattle.il_base.specs.declared.world_model.record.AsmRec.{AsmRec}
use Rattle.il_base.specs.world_model.Core.{same_name}
use Rattle.il_base.specs.world_model.Worlds.{types_in}
use Rattle.rules.specs.declared.link_rules.row_at.RowAt.{RowAt}
use Rattle.rules.specs.link_rules.Cycles.{listed, same_row}
use Rattle.rules.specs.mark_rules.Places.{type_item}
use Rattle.rules.specs.merge_rules.Numbers.{Kept, kept_types}
use Rattle.rules.specs.merge_rules.Names.{NewName, is_top_level, old_name, is_rival, rival, fresh_name, named_by, names_from, new_names}
use Rattle.rules.specs.merge_rules.Moved.{is_renamed, written_name}
use Rattle.rules.specs.merge_rules.Refs.{Output, first_or}
use Rattle.merge_laws.proofs.lemmas.merged_record.Lists.{none_in, first_in, later_in, one_is, from_filter}
use Rattle.merge_laws.proofs.lemmas.merged_record.Sorting.{Ordered}
use Rattle.merge_laws.proofs.lemmas.merged_record.Rows.{Before, kept_up}
use Rattle.merge_laws.proofs.lemmas.merged_record.Tokens.{row_is}

-- ---- searches that find nothing

none_by : {A : Type 0} (x : A) (rest : Option A) (b : Bool) → b ≡ false → rest ≡ None → cond b (Some x) rest ≡ None
none_by x rest true e h = absurd (cc)
none_by x rest false e h = h

finds_none : {A : Type 0} (p : A → Bool) (xs : List A) → ((x : A) → Contains xs x → p x ≡ false) → find p xs ≡ None
finds_none p [] h = refl
finds_none p (x ∷ xs) h = none_by x (find p xs) (p x) (h x (first_in x xs)) (finds_none p xs (λ y c. h y (later_in x xs y c)))

more_by : {A : Type 0} (x : A) (rest more : Option A) (b : Bool) → cond b (Some x) rest ≡ None → (rest ≡ None → more ≡ None) → cond b (Some x) more ≡ None
more_by x rest more true e h = absurd (cc)
more_by x rest more false e h = h e

still_none : {A : Type 0} (p : A → Bool) (xs : List A) (y : A) → find p xs ≡ None → p y ≡ false → find p (xs ++ y ∷ []) ≡ None
still_none p [] y none e = none_by y None (p y) e refl
still_none p (x ∷ xs) y none e = more_by x (find p xs) (find p (xs ++ y ∷ [])) (p x) none (λ g. still_none p xs y g e)

module _ (recs : List AsmRec) (kept : List RowAt) (at : RowAt) (first : at.asm ≡ 0) where
  -- ---- no type before it is of another input

  not_rival : (x : RowAt) → x.asm ≡ at.asm → is_rival recs at x ≡ false
  not_rival x e = ap (λ (b : Bool). not b && same_name (old_name recs x) (old_name recs at)) (eq-eqb x.asm at.asm e)

  if_none : (b : Bool) (o : Option RowAt) → o ≡ None → (if b then o else None) ≡ None
  if_none true o e = e
  if_none false o e = refl

  no_rival : (earlier : List RowAt) → ((x : RowAt) → Contains earlier x → Before x at) → rival recs earlier at ≡ None
  no_rival earlier h =
      if_none (is_top_level recs at) (find (is_rival recs at) (filter (is_top_level recs) earlier))
      (finds_none (is_rival recs at) (filter (is_top_level recs) earlier) (λ x c. not_rival x (same_asm x (h x (from_filter (is_top_level recs) earlier x c).0))))
    where
      same_asm : (x : RowAt) → Before x at → x.asm ≡ at.asm
      same_asm x (inl lt) = absurd (omega (arith, lt, first))
      same_asm x (inr e) = e.0

  -- ---- so it is never renamed

  named_step : (names : List NewName) (x : RowAt) (o : Option RowAt) → (x ≡ at → o ≡ None) → find (is_renamed at) names ≡ None → find (is_renamed at) (named_by recs kept names x o) ≡ None
  named_step names x None apart none = none
  named_step names x (Some r) apart none = still_none (is_renamed at) names (record { typ = x; name = fresh_name recs kept names x }) none (by_test (same_row at x) refl)
    where
      by_test : (b : Bool) → same_row at x ≡ b → same_row at x ≡ false
      by_test true e = let bad = apart (sym (row_is at x e)) in absurd (cc)
      by_test false e = e

  never_named : (earlier rest : List RowAt) (names : List NewName) → ((x y : RowAt) → Contains earlier x → Contains rest y → Before x y) → Ordered Before rest → find (is_renamed at) names ≡ None
      → find (is_renamed at) (names_from recs kept earlier names rest) ≡ None
  never_named earlier [] names across up none = none
  never_named earlier (x ∷ rest) names across up none =
      never_named (earlier ++ x ∷ []) rest (named_by recs kept names x (rival recs earlier x)) across_more up.1 (named_step names x (rival recs earlier x) no_name none)
    where
      across_more : (y z : RowAt) → Contains (earlier ++ x ∷ []) y → Contains rest z → Before y z
      across_more y z c d = elim (Contains-append_cases earlier (x ∷ []) y c) [
        | inl e ↦ across y z e (later_in x rest z d)
        | inr e ↦ subst (λ (w : RowAt). Before w z) (one_is x y e) (up.0 z d)
      ]

      no_name : x ≡ at → rival recs earlier x ≡ None
      no_name e = ap (rival recs earlier) e ∙ no_rival earlier (λ y c. subst (λ (z : RowAt). Before y z) e (across y x c (first_in x rest)))

-- a type of the first input isn't renamed
pub first_unnamed : (recs : List AsmRec) (kept : Kept) (at : RowAt) → at.asm ≡ 0 → find (is_renamed at) (new_names recs (kept_types recs kept)) ≡ None
unfolding new_names kept_types
first_unnamed recs kept at first = never_named recs (kept_types recs kept) at first [] (kept_types recs kept) [] (λ x y c d. absurd (none_in x c)) (kept_up types_in (type_item recs) recs kept) refl

-- so it has its name in the output
pub first_written : (o : Output) (at : RowAt) (name : List ℕ) → at.asm ≡ 0 → written_name o at name ≡ name
first_written o at name first = ap (λ (x : Option NewName). first_or (map (λ (n : NewName). n.name) (listed x)) name) (first_unnamed o.recs o.kept at first)
