-- What is known of an output, and so what the tokens of its types name.
use Rattle.std.proofs.Common.{◌≡◌, ◌<◌, ◌≤◌, ◌+◌, ◌-◌, ℕ, zero, suc, List, [], ◌∷◌, length, Bool, true, Some, None, inl, inr, refl, sym, ap, subst, ◌∙◌, arith}
use Rattle.std.specs.Prelude.{slice_get, if◌then◌else◌}
use Rattle.std.specs.List.{flat_map, filter}
use Rattle.std.proofs.lemmas.List.Quantifiers.{position-Some}
use Rattle.std.specs.Option.{option_map, option_and_then}
use Rattle.std.proofs.lemmas.Bool.{lt-ltb, eq-eqb}
use Rattle.il_base.specs.declared.ids.TypeId.{TypeId}
use Rattle.il_base.specs.declared.world_model.known.Known.TheVariants.{Good}
use Rattle.il_base.specs.declared.world_model.types.TypeDefRow.{TypeDefRow}
use Rattle.il_base.specs.declared.world_model.types.TypeRefRow.{TypeRefRow}
use Rattle.il_base.specs.declared.world_model.record.AsmRec.{AsmRec}
use Rattle.il_base.specs.world_model.Records.{table_sizes, rows_in}
use Rattle.il_base.specs.world_model.Worlds.{types_in, type_id, prim_of}
use Rattle.il_base.specs.declared.core_table.types.TheConstants.{TYPE_COUNT}
use Rattle.il_base.specs.core_table.Record.{core_record}
use Rattle.rules.specs.declared.link_rules.row_at.RowAt.{RowAt}
use Rattle.rules.specs.declared.link_rules.core_type_name.CoreTypeName.{CoreTypeName}
use Rattle.rules.specs.link_rules.Types.{type_in, added_by}
use Rattle.rules.specs.link_rules.Signatures.{definition_expr, known_expr, named_type}
use Rattle.rules.specs.link_rules.Members.{type_home}
use Rattle.rules.specs.link_rules.Faults.{link_fault}
use Rattle.rules.specs.link_rules.Cycles.{listed, same_row}
use Rattle.base_laws.proofs.lemmas.type_laws.Within.{In, in_behind, flat_in}
use Rattle.base_laws.proofs.lemmas.type_laws.Places.{home_is_type}
use Rattle.rules.specs.merge_rules.Numbers.{Kept, kept_types, new_row}
use Rattle.rules.specs.merge_rules.Order.{Met}
use Rattle.rules.specs.merge_rules.Refs.{Output, same_id, is_reference, types_of_met, scope_type, with_scopes, most_scopes, type_refs, type_ref_row, type_token}
use Rattle.rules.specs.change_rules.Change.{Rho}
use Rattle.rules.specs.change_rules.Moves.{move_expr}
use Rattle.rules.specs.world_change_rules.Places.{type_number}
use Rattle.rules.specs.merged_world_rules.Numbering.{CoreRows, new_number}
use Rattle.rules.specs.merged_world_rules.NewNumbers.{place_of_name, core_rows}
use Rattle.merge_laws.proofs.lemmas.merged_references.Lists.{Placed, has_place}
use Rattle.merge_laws.proofs.lemmas.merged_references.Left.{IsLeft, left_refs, left_assemblies}
use Rattle.merge_laws.proofs.lemmas.merged_references.Core.{count, found_by_name, table_row, in_table}
use Rattle.merge_laws.proofs.lemmas.merged_references.Kept.{behind_if}
use Rattle.merge_laws.proofs.lemmas.merged_references.Rows as rows
use Rattle.merge_laws.proofs.lemmas.merged_references.Rows.{IsCoreType, is_core_type}
use Rattle.merge_laws.proofs.lemmas.merged_references.Named.{ids_decide, Writes, core_definition, added_definition, none_added, own_definition, own_not_added, referred}
use Rattle.merge_laws.proofs.lemmas.merged_references.Own.{own_free, types_count, types_stand}
use Rattle.merge_laws.proofs.lemmas.merged_references.Numbers.{kept_number, core_number, input_moved, core_moved}

-- ---- what is met has its references

filter_in : {A : Type 0} (p : A → Bool) (x : A) (xs : List A) → p x ≡ true → In x xs → In x (filter p xs)
filter_in p x [] t h = absurd h
filter_in p x (y ∷ xs) t (inl e) = subst (λ (b : Bool). In x (if b then y ∷ filter p xs else filter p xs)) (sym t ∙ ap p e) (inl e)
filter_in p x (y ∷ xs) t (inr h) = behind_if x y (filter p xs) (p y) (filter_in p x xs t h)

in_scopes : (recs : List AsmRec) (n : ℕ) (t : TypeId) → In t (with_scopes recs n t)
unfolding with_scopes
in_scopes recs zero t = inl refl
in_scopes recs (suc n) t = in_behind t (flat_map (with_scopes recs n) (listed (scope_type recs t))) (t ∷ []) (inl refl)

in_place : {A : Type 0} (xs : List A) (k : ℕ) (x : A) → slice_get xs k ≡ Some x → In x xs
in_place [] k x e = cc
in_place (y ∷ xs) zero x e = inl cc
in_place (y ∷ xs) (suc k) x e = inr (in_place xs k x e)

pub met_referred : (recs : List AsmRec) (mets : List Met) (x : Met) (t : TypeId) → In x mets → In t (types_of_met recs x) → is_reference recs t ≡ true → In t (type_refs recs mets)
unfolding type_refs
met_referred recs mets x t h g r =
    let all : List TypeId = flat_map (with_scopes recs (most_scopes recs)) (filter (is_reference recs) (flat_map (types_of_met recs) mets)) in
    let i : In t all = flat_in (with_scopes recs (most_scopes recs)) t t (filter (is_reference recs) (flat_map (types_of_met recs) mets))
    (filter_in (is_reference recs) t (flat_map (types_of_met recs) mets) r (flat_in (types_of_met recs) t x mets h g)) (in_scopes recs (most_scopes recs) t) in
    let p : Placed (same_id t) (type_refs recs mets) = has_place same_id all t (eq-eqb t.0 t.0 refl) i in
    in_place (type_refs recs mets) p.index t (p.there ∙ ap (λ (u : TypeId). Some u) (sym ((ids_decide t p.item).0 p.passes)))

-- a row of the core library's own table stays where it is
pub table_stays : (names those : List CoreTypeName) (k : ℕ) → k < TYPE_COUNT → (core_rows (length core_record.type_def) names those).to k ≡ Some k
table_stays names those k lt =
    let n = count names in
    ap (λ (b : Bool). if b then Some k else option_map (λ j. length core_record.type_def + j) (option_and_then (place_of_name those) (slice_get names (k - length core_record.type_def))))
    (lt-ltb k (length core_record.type_def) (omega (arith, lt, n)))

-- ---- an output of inputs that link

module _ (internal : Bool) (inputs : List AsmRec) (names those : List CoreTypeName) (kept : Kept) (mets : List Met) (left : AsmRec) where
  abbrev pub core : AsmRec
  core = rows.core inputs names

  abbrev pub recs : List AsmRec
  recs = rows.recs inputs names

  abbrev pub o : Output
  o = record { recs = recs; kept = kept; mets = mets }

  -- the core library of the output's world
  abbrev pub core_after : AsmRec
  core_after = rows.core inputs those

  abbrev pub world : List AsmRec
  world = left ∷ core_after ∷ []

  -- what rows of the core library become
  abbrev pub core_to : CoreRows
  core_to = core_rows (length core_record.type_def) names those

  pub record Premises : Type 0 where
    pub is : IsLeft internal o left
    pub some : 0 < length inputs
    pub links : link_fault recs inputs ≡ None
    pub few : (t : ℕ) → rows_in left t < 16777216
    pub one : (t : TypeId) → In t (type_refs recs mets) → (row : TypeRefRow) × (type_ref_row o t ≡ row ∷ [])

  module _ (p : Premises) where
    pub writes : Writes recs kept mets left
    unfolding table_sizes
    writes = record {
      refs = left_refs internal o left p.is;
      assemblies = left_assemblies internal o left p.is;
      few_types = p.few 2;
      few_refs = p.few 1;
      few_assemblies = p.few 0x23;
      own = own_free internal inputs core kept o left refl p.is p.some p.links;
      types = types_count internal o left p.is;
      one = p.one;
    }

    module _ (r : Rho) (number : (n : ℕ) → r.typ n ≡ new_number types_in core_to recs (kept_types recs kept) n) (t : TypeId) (at : RowAt) (home : type_home recs t ≡ Some at) where
      pub new_below : (k : ℕ) → new_row (kept_types recs kept) at ≡ Some k → k < length left.type_def
      new_below k e =
          let lt = (position-Some (same_row at) (kept_types recs kept) k at e).0 in
          let same = types_count internal o left p.is in
          omega (arith, lt, same)

      pub input_named : suc at.asm < length recs → (k : ℕ) → new_row (kept_types recs kept) at ≡ Some k → named_type world 0 left (type_token o t) ≡ Good (move_expr r (definition_expr recs at))
      unfolding named_type
      input_named lt k new =
          ap (known_expr world) (own_definition inputs names those kept mets left writes t at home lt k new (new_below k new))
          ∙ ap Good (input_moved inputs core core_after left r at k lt (number (type_number recs at) ∙ kept_number core_to recs (kept_types recs kept) (type_number recs at) at (home_is_type recs t at home) k new))

      before : (x : RowAt) → In x (kept_types recs kept) → suc x.asm < length recs
      before x h = (types_stand recs kept x h).before

      pub core_new : suc at.asm ≡ length recs → (s : ℕ) → core_to.to at.row ≡ Some s → r.typ (type_number recs at) ≡ length left.type_def + s
      core_new last s to =
          let n : new_number types_in core_to recs (kept_types recs kept) (type_number recs at) ≡ length (kept_types recs kept) + s =
          core_number core_to recs (kept_types recs kept) (type_number recs at) at (home_is_type recs t at home) before last s to in
          let m = number (type_number recs at) in
          let same = types_count internal o left p.is in
          omega (arith, m, n, same)

      same_row_of : (k : ℕ) (x y : TypeDefRow) → slice_get core.type_def k ≡ Some x → slice_get core.type_def k ≡ Some y → x ≡ y
      same_row_of k x y e f = let g : Some x ≡ Some y = sym e ∙ f in cc

      pub input_not_added : suc at.asm < length recs → (k : ℕ) → new_row (kept_types recs kept) at ≡ Some k → added_by world 0 left (type_token o t) ≡ None
      input_not_added lt k new = own_not_added inputs names those kept mets left writes t at home lt k new (new_below k new)

      module _ (last : suc at.asm ≡ length recs) (h : In t (type_refs recs mets)) where
        abbrev c : IsCoreType inputs names t at
        c = is_core_type inputs names t at home last

        -- a row of the table
        module _ (lt : at.row < TYPE_COUNT) where
          own_row : slice_get core_record.type_def at.row ≡ Some c.row
          own_row =
              let i = in_table names at.row lt in
              i.there ∙ ap (λ (x : TypeDefRow). Some x) (same_row_of at.row i.row c.row i.here c.there)

          table_first : type_in core_after None c.row.namespace c.row.name ≡ Some at.row
          table_first = found_by_name those at.row c.row own_row

          table_to : core_to.to at.row ≡ Some at.row
          table_to = table_stays names those at.row lt

          same_prim : option_and_then prim_of (slice_get core_after.type_def at.row) ≡ option_and_then prim_of (slice_get core.type_def at.row)
          same_prim = ap (option_and_then prim_of) (table_row those at.row c.row own_row ∙ sym c.there)

        pub core_named : at.row < TYPE_COUNT → named_type world 0 left (type_token o t) ≡ Good (move_expr r (definition_expr recs at))
        unfolding named_type
        core_named lt =
            ap (known_expr world) (core_definition inputs names those kept mets left writes t at c h at.row (table_first lt) lt)
            ∙ ap Good (core_moved inputs core core_after left r at last at.row (same_prim lt) (core_new last at.row (table_to lt)))

        pub core_not_added : at.row < TYPE_COUNT → added_by world 0 left (type_token o t) ≡ None
        core_not_added lt = none_added inputs names those kept mets left writes t at c h at.row (table_first lt) lt

        -- a name that modifiers alone find, where the output's world has it, and it is the first of its name there
        pub added_named : (k : ℕ) → TYPE_COUNT ≤ k → (row : TypeDefRow) → slice_get core.type_def at.row ≡ Some row → type_in core_after None row.namespace row.name ≡ Some k
            → added_by world 0 left (type_token o t) ≡ Some (type_id world 1 k)
        added_named k le row there first =
            added_definition inputs names those kept mets left writes t at c h k
            (subst (λ (x : TypeDefRow). type_in core_after None x.namespace x.name ≡ Some k) (same_row_of at.row row c.row there c.there) first) le

    -- ---- what is met is written

    module _ (t : TypeId) (at : RowAt) (home : type_home recs t ≡ Some at) where
      pub core_met : (x : Met) → suc at.asm ≡ length recs → In x mets → In t (types_of_met recs x) → In t (type_refs recs mets)
      core_met x last h g = met_referred recs mets x t h g (referred inputs names those kept mets left writes t at (is_core_type inputs names t at home last))
