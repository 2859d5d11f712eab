-- Types that name nothing: the row that each stands for, and its scopes.
use Rattle.std.proofs.Common.{◌≡◌, ◌<◌, ◌≤◌, ℕ, zero, suc, ◌+◌, ◌-◌, List, [], ◌∷◌, length, map, Bool, true, Option, Some, None, inl, inr, refl, sym, ap, subst, ◌∙◌, arith, length-append}
use Rattle.std.specs.Prelude.{slice_get, if◌then◌else◌}
use Rattle.std.specs.List.{Contains, flat_map, range_with_len}
use Rattle.std.specs.Option.{is_some, option_map, option_and_then}
use Rattle.std.proofs.lemmas.Bool.{cases_lt, le-leb}
use Rattle.std.proofs.lemmas.List.FromFn.{length-map-range_with_len}
use Rattle.il_base.specs.declared.ids.TypeId.{TypeId}
use Rattle.il_base.specs.declared.table.TheConstants.{TYPE_REF}
use Rattle.il_base.specs.declared.world_model.assemblies.AssemblyRefRow.{AssemblyRefRow}
use Rattle.il_base.specs.declared.world_model.types.TypeRefRow.{TypeRefRow}
use Rattle.il_base.specs.declared.world_model.record.AsmRec.{AsmRec}
use Rattle.il_base.specs.world_model.Tokens.{index_in}
use Rattle.il_base.specs.world_model.Worlds.{types_in, type_id}
use Rattle.rules.specs.declared.link_rules.row_at.RowAt.{RowAt}
use Rattle.rules.specs.link_rules.Types.{at_row, ref_definition}
use Rattle.rules.specs.link_rules.Members.{type_home}
use Rattle.rules.specs.link_rules.Cycles.{listed}
use Rattle.rules.specs.type_rules.Rows.{rec_at}
use Rattle.base_laws.proofs.lemmas.type_laws.Places.{place_within}
use Rattle.base_laws.proofs.lemmas.known_laws.Lists.{none_in, head_or, from_flat, from_map, and_then_some, map_some}
use Rattle.rules.specs.mark_rules.Places.{type_item}
use Rattle.rules.specs.merge_rules.Absent.{bare, reference_rows, reference_at, definition_of, assembly_scope, reference_scope, reads_same, type_count, first_same, absent_type, absent_row}
use Rattle.rules.specs.merge_rules.Keys.{number_or}
use Rattle.rules.specs.merge_rules.Numbers.{Kept, inputs, rows_of_kind}
use Rattle.rules.specs.merge_rules.Refs.{outer_reference, scope_type_by, scope_type, scope_of, assemblies_of, first_or, own_scope}
use Rattle.merge_laws.proofs.lemmas.merged_record.Lists.{an_input, place_in, from_filter}
use Rattle.merge_laws.proofs.lemmas.merged_record.Owned.{to_kept}
use Rattle.merge_laws.proofs.lemmas.merged_record.Tokens.{position_is}
use Rattle.merge_laws.proofs.lemmas.merged_references.Found.{definition_names}
use Rattle.merge_laws.proofs.lemmas.merged_owners.Homes.{position_some, own_home}
use Rattle.trim_laws.proofs.lemmas.merged_scopes.Chains.{AlwaysStays, one_of, same_rows, reads_up, reads_itself, scope_reads, none_reads, stays_on}

module _ (recs : List AsmRec) (Q : ℕ → Type 0) where
  -- over so many scopes references are compared
  abbrev most : ℕ
  most = length (reference_rows recs)

  pub record StaysAbsent (t : TypeId) : Type 0 where
    pub at : RowAt
    pub is : absent_row recs t ≡ Some at
    pub among : Contains (reference_rows recs) at
    pub itself : reads_same recs most at at ≡ true
    pub stays : AlwaysStays recs Q at

  -- ---- rows of inputs

  listed_input : (at : RowAt) → Contains (reference_rows recs) at → suc at.asm < length recs
  listed_input at c =
      let x = from_flat (λ (x : ℕ × AsmRec). map (at_row x.0) (range_with_len 0 (length x.1.type_ref))) (inputs recs) at c in
      let k = from_map (at_row x.item.0) (range_with_len 0 (length x.item.1.type_ref)) at x.inside in
      let i = an_input recs x.item x.there in
      let lt = i.within in
      let same : x.item.0 ≡ at.asm = ap (λ (r : RowAt). r.asm) k.2 in
      omega (arith, lt, same)

  in_rows : (s : RowAt) (rec : AsmRec) (row : TypeRefRow) → suc s.asm < length recs → slice_get recs s.asm ≡ Some rec → slice_get rec.type_ref s.row ≡ Some row → Contains (reference_rows recs) s
  in_rows s rec row input there is =
      let count : AsmRec → ℕ = λ r. length r.type_ref in
      let all : Kept = λ i. true in
      let c = to_kept count (type_item recs) recs all s rec (record { there = there; within = input }) (place_within rec.type_ref s.row row is) refl in
      (from_filter (λ at. all (type_item recs at)) (rows_of_kind count recs) s c).0

  to_rows : (s : RowAt) (row : TypeRefRow) → suc s.asm < length recs → reference_at recs s ≡ Some row → Contains (reference_rows recs) s
  to_rows s row input e =
      let r = and_then_some (λ (rec : AsmRec). slice_get rec.type_ref s.row) (rec_at recs s) row e in
      in_rows s r.0 row input r.1 r.2

  -- ---- the type of a row that names nothing

  row_behind : (k : ℕ) (at : RowAt) → slice_get (reference_rows recs) k ≡ Some at → absent_row recs (record { 0 = type_count recs + k }) ≡ Some at
  unfolding absent_row
  row_behind k at e =
      let n : type_count recs + k - type_count recs ≡ k = omega arith in
      ap (λ (b : Bool). if b then slice_get (reference_rows recs) (type_count recs + k - type_count recs) else None) (le-leb (type_count recs) (type_count recs + k) (omega arith))
      ∙ ap (slice_get (reference_rows recs)) n ∙ e

  pub absent_stays : (x : RowAt) (t : TypeId) → absent_type recs x ≡ Some t → AlwaysStays recs Q x → StaysAbsent t
  unfolding absent_type
  absent_stays x t e stays =
      let m = map_some (λ k. record { 0 = type_count recs + k }) (first_same recs x) t e in
      let p = position_is (reads_same recs most x) (reference_rows recs) m.0 m.1 in
      subst StaysAbsent m.2 (record {
        at = p.item;
        is = row_behind m.0 p.item p.there;
        among = place_in (reference_rows recs) m.0 p.item p.there;
        itself = reads_itself recs most x p.item p.passes;
        stays = stays_on recs Q most x p.item p.passes stays;
      })

  -- one that reads like itself has such a type

  flat_long : {A B : Type 0} (g : A → List B) (xs : List A) (x : A) → Contains xs x → length (g x) ≤ length (flat_map g xs)
  flat_long g [] x c = absurd (none_in x c)
  flat_long {A} g (y ∷ xs) x c =
      let both = length-append (g y) (flat_map g xs) in
      elim (head_or y xs x c) [
        | inl e ↦ subst (λ (z : A). length (g z) ≤ length (flat_map g (y ∷ xs))) e (omega (arith, both))
        | inr d ↦ (let more = flat_long g xs x d in omega (arith, both, more))
      ]

  rows_long : (at : RowAt) (rec : AsmRec) → slice_get recs at.asm ≡ Some rec → Contains (reference_rows recs) at → length rec.type_ref ≤ most
  rows_long at rec there c =
      let g : ℕ × AsmRec → List RowAt = λ (x : ℕ × AsmRec). map (at_row x.0) (range_with_len 0 (length x.1.type_ref)) in
      let x = from_flat g (inputs recs) at c in
      let k = from_map (at_row x.item.0) (range_with_len 0 (length x.item.1.type_ref)) at x.inside in
      let i = an_input recs x.item x.there in
      let same : x.item.0 ≡ at.asm = ap (λ (r : RowAt). r.asm) k.2 in
      let one : x.item.1 ≡ rec = one_of (slice_get recs at.asm) x.item.1 rec (ap (slice_get recs) (sym same) ∙ i.there) there in
      let size = length-map-range_with_len (at_row x.item.0) 0 (length x.item.1.type_ref) in
      let rows : length x.item.1.type_ref ≡ length rec.type_ref = ap (λ (r : AsmRec). length r.type_ref) one in
      let long : length (map (at_row x.item.0) (range_with_len 0 (length x.item.1.type_ref))) ≤ most = flat_long g (inputs recs) x.item x.there in
      omega (arith, size, rows, long)

  reads_more : (m n : ℕ) (x : RowAt) → n ≤ m → reads_same recs n x x ≡ true → reads_same recs m x x ≡ true
  reads_more zero n x le h = let z : n ≡ 0 = omega arith in subst (λ (k : ℕ). reads_same recs k x x ≡ true) z h
  reads_more (suc m) n x le h =
      elim (cases_lt n (suc m)) [
        | inl lt ↦ reads_up recs m x x (reads_more m n x (omega arith) h)
        | inr ge ↦ (let z : n ≡ suc m = omega arith in subst (λ (k : ℕ). reads_same recs k x x ≡ true) z h)
      ]

  first_there : (o : Option ℕ) → is_some o ≡ true → 1 ≤ number_or (option_map (λ k. record { 0 = type_count recs + k }) o) 0
  first_there None h = absurd (cc)
  first_there (Some k) h = omega arith

  pub there_absent : (a : ℕ) (rec : AsmRec) (k : ℕ) → slice_get recs a ≡ Some rec → suc a < length recs → (row : TypeRefRow) × (slice_get rec.type_ref k ≡ Some row) → reads_same recs (length rec.type_ref) (at_row a k) (at_row a k) ≡ true
      → 1 ≤ number_or (absent_type recs (at_row a k)) 0
  unfolding absent_type
  there_absent a rec k there input row h =
      let at : RowAt = at_row a k in
      let c = in_rows at rec row.0 input there row.1 in
      first_there (first_same recs at) (position_some (reads_same recs most at) (reference_rows recs) at c (reads_more most (length rec.type_ref) at (rows_long at rec there c) h))

  -- ---- its scope

  -- a type of the core library
  pub record OfCore (t : TypeId) : Type 0 where
    pub at : RowAt
    pub home : type_home recs t ≡ Some at
    pub last : suc at.asm ≡ length recs

  pub data IsFine (t : TypeId) : Type 0 where
    of_core : OfCore t → IsFine t
    of_absent : StaysAbsent t → IsFine t

  core_row : (s d : RowAt) → definition_of recs s ≡ Some d → suc d.asm ≡ length recs → OfCore (type_id recs d.asm d.row)
  core_row s d e last =
      let r = and_then_some (λ (rec : AsmRec). ref_definition recs s.asm rec s.row) (rec_at recs s) d e in
      let n = (definition_names recs s.asm r.0 s.row d r.2).stands in
      record { at = d; home = own_home types_in recs d n.rec n.there n.below; last = last }

  module _ (t : TypeId) (a : StaysAbsent t) where
    scope_is : scope_type recs t ≡ option_and_then (outer_reference recs) (reference_scope recs a.at)
    unfolding scope_type
    scope_is = ap (scope_type_by recs t) a.is

    outer_by : (s : RowAt) (u : TypeId) (o : Option RowAt) → reference_scope recs a.at ≡ Some s → definition_of recs s ≡ o → (elim o [ Some def ↦ Some (type_id recs def.asm def.row) | None ↦ absent_type recs s ]) ≡ Some u → IsFine u
    outer_by s u (Some d) at def e =
        let same : type_id recs d.asm d.row ≡ u = cc in
        subst IsFine same (of_core (core_row s d def ((a.stays 1).core s d at def)))
    outer_by s u None at none e = of_absent (absent_stays s u e (λ n. (a.stays (suc n)).outer s at none))

    pub scope_fine : (u : TypeId) → scope_type recs t ≡ Some u → IsFine u
    scope_fine u e =
        let s = and_then_some (outer_reference recs) (reference_scope recs a.at) u (sym scope_is ∙ e) in
        outer_by s.0 u (definition_of recs s.0) s.1 refl s.2

    abbrev behind : ℕ → TypeId
    behind k = record { 0 = type_count recs + k }

    -- a chain of scopes that comes back to a row reads like none
    some_type : (s : RowAt) → Contains (reference_rows recs) s → reads_same recs most s s ≡ true → absent_type recs s ≡ None → ⊥
    unfolding absent_type
    some_type s c h e = by_option (first_same recs s) (position_some (reads_same recs most s) (reference_rows recs) s c h) e
      where
        by_option : (o : Option ℕ) → is_some o ≡ true → option_map behind o ≡ None → ⊥
        by_option None f g = absurd (cc)
        by_option (Some k) f g = absurd (cc)

    row_of_scope : (n : ℕ) (s : RowAt) → reads_same recs n s s ≡ true → (row : TypeRefRow) × (reference_at recs s ≡ Some row)
    row_of_scope zero s h = absurd (none_reads recs s s h)
    row_of_scope (suc n) s h = let r = same_rows recs n s s h in (r.row, r.is)

    same_asm : (s : RowAt) → reference_scope recs a.at ≡ Some s → s.asm ≡ a.at.asm
    same_asm s e =
        let r = and_then_some (λ (row : TypeRefRow). option_map (at_row a.at.asm) (index_in TYPE_REF row.resolution_scope)) (reference_at recs a.at) s e in
        let k = map_some (at_row a.at.asm) (index_in TYPE_REF r.0.resolution_scope) s r.2 in
        ap (λ (x : RowAt). x.asm) (sym k.2)

    none_by : (s : RowAt) (o : Option RowAt) → reference_scope recs a.at ≡ Some s → definition_of recs s ≡ o → (elim o as (λ o. Option TypeId) [ Some def ↦ Some (type_id recs def.asm def.row) | None ↦ absent_type recs s ]) ≡ None → ⊥
    none_by s (Some d) at def e = absurd (cc)
    none_by s None at none e =
        let reads : reads_same recs most s s ≡ true = scope_reads recs most a.at s a.itself at none in
        let row = row_of_scope most s reads in
        let input : suc s.asm < length recs = let lt = listed_input a.at a.among in let same = same_asm s at in omega (arith, lt, same) in
        some_type s (to_rows s row.0 input row.1) reads e

    no_scope : (o : Option RowAt) → reference_scope recs a.at ≡ o → option_and_then (outer_reference recs) o ≡ None → o ≡ None
    no_scope None at e = refl
    no_scope (Some s) at e = absurd (none_by s (definition_of recs s) at refl e)

    no_assembly : (o : Option AssemblyRefRow) → map bare (listed o) ≡ [] → o ≡ None
    no_assembly None e = refl
    no_assembly (Some x) e = absurd (cc)

    assemblies_are : assemblies_of recs t ≡ map bare (listed (assembly_scope recs a.at))
    assemblies_are =
        ap (λ (o : Option RowAt). elim o as (λ o. List AssemblyRefRow) [ Some at ↦ map bare (listed (assembly_scope recs at)) | None ↦ elim (scope_type recs t) [ Some around ↦ [] | None ↦ scope_of recs t ∷ [] ] ]) a.is

    own_row : (row : TypeRefRow) → reference_at recs a.at ≡ Some row → own_scope recs t ≡ row.resolution_scope
    own_row row e =
        ap (λ (o : Option RowAt). first_or (map (λ (r : TypeRefRow). r.resolution_scope) (listed (option_and_then (reference_at recs) o))) 0) a.is
        ∙ ap (λ (o : Option TypeRefRow). first_or (map (λ (r : TypeRefRow). r.resolution_scope) (listed o)) 0) e

    pub own_fine : scope_type recs t ≡ None → assemblies_of recs t ≡ [] → Q (own_scope recs t)
    own_fine e f =
        let row = row_of_scope most a.at a.itself in
        let scope = no_scope (reference_scope recs a.at) refl (sym scope_is ∙ e) in
        let assembly = no_assembly (assembly_scope recs a.at) (sym assemblies_are ∙ f) in
        subst Q (sym (own_row row.0 row.1)) ((a.stays 1).own row.0 row.1 scope assembly)
