-- What the token of a type names in the world of the output: a kept type of an input, its new row; a type of the core library, its row.
use Rattle.std.proofs.Common.{◌≡◌, ◌<◌, ◌≤◌, ℕ, suc, List, [], ◌∷◌, length, Bool, true, false, Option, Some, None, refl, sym, ap, ◌∙◌, arith, eq-eqb, eqb-true}
use Rattle.std.specs.Prelude.{slice_get, position, nat_le, ◌==◌, ◌||◌, if◌then◌else◌}
use Rattle.std.specs.Bool.{Decides}
use Rattle.std.specs.List.{list_any}
use Rattle.std.specs.Option.{option_map, option_and_then}
use Rattle.std.proofs.lemmas.Bool.{lt-leb, lt-ltb, le-leb, ne_eqb, or_right}
use Rattle.il_base.specs.declared.ids.TypeId.{TypeId}
use Rattle.il_base.specs.declared.ids.Item.TheVariants as item
use Rattle.il_base.specs.declared.world_model.types.TypeRefRow.{TypeRefRow}
use Rattle.il_base.specs.declared.world_model.record.AsmRec.{AsmRec}
use Rattle.il_base.specs.world_model.Tokens.{index_in}
use Rattle.il_base.specs.world_model.Core.{is_core_name}
use Rattle.il_base.specs.world_model.Worlds.{row_below, types_in, type_id}
use Rattle.il_base.specs.declared.core_table.types.TheConstants.{TYPE_COUNT}
use Rattle.rules.specs.declared.link_rules.row_at.RowAt.{RowAt}
use Rattle.rules.specs.declared.link_rules.core_type_name.CoreTypeName.{CoreTypeName}
use Rattle.rules.specs.link_rules.Types.{at_row, type_in, ref_at, listed_at, added_at, ref_definition, added_type, definition_at, added_by}
use Rattle.rules.specs.link_rules.Members.{type_home}
use Rattle.rules.specs.link_rules.Faults.{own_name}
use Rattle.rules.specs.link_rules.Cycles.{listed}
use Rattle.base_laws.proofs.lemmas.type_laws.Within.{In, any_in}
use Rattle.rules.specs.mark_rules.Places.{row_of, is_core}
use Rattle.rules.specs.merge_rules.Absent as absent
use Rattle.rules.specs.merge_rules.Numbers.{Kept, kept_types, new_row}
use Rattle.rules.specs.merge_rules.Order.{Met}
use Rattle.rules.specs.merge_rules.Refs.{Output, row_token, kept_token, same_id, is_reference, type_refs, assembly_refs, found_ref, type_ref_row, type_ref_rows, type_token}
use Rattle.merge_laws.proofs.lemmas.merged_references.Lists.{Placed, placed, single_at, single_length}
use Rattle.merge_laws.proofs.lemmas.merged_references.Tokens.{token_table, token_index, token_elsewhere}
use Rattle.merge_laws.proofs.lemmas.merged_references.Rows as rows
use Rattle.merge_laws.proofs.lemmas.merged_references.Rows.{IsCoreType, own_row, row_refers, rows_up_to}
use Rattle.merge_laws.proofs.lemmas.merged_references.Names.{ref_found}

pub ids_decide : (t u : TypeId) → Decides (same_id t u) (t ≡ u)
ids_decide t u = (λ h. ap (λ (n : ℕ). record { 0 = n }) (eqb-true t.0 u.0 h), λ e. eq-eqb t.0 u.0 (ap (λ (v : TypeId). v.0) e))

-- what is known of the output
pub record Writes (recs : List AsmRec) (kept : Kept) (mets : List Met) (left : AsmRec) : Type 0 where
  pub refs : left.type_ref ≡ type_ref_rows (record { recs = recs; kept = kept; mets = mets })
  pub assemblies : left.assembly_ref ≡ assembly_refs recs mets
  pub few_types : length left.type_def < 16777216
  pub few_refs : length left.type_ref < 16777216
  pub few_assemblies : length left.assembly_ref < 16777216
  pub own : is_core_name (own_name left) ≡ false
  pub types : length left.type_def ≡ length (kept_types recs kept)
  -- each type that is referred to has one row
  pub one : (t : TypeId) → In t (type_refs recs mets) → (row : TypeRefRow) × (type_ref_row (record { recs = recs; kept = kept; mets = mets }) t ≡ row ∷ [])

module _ (inputs : List AsmRec) (names those : List CoreTypeName) (kept : Kept) (mets : List Met) (left : AsmRec) where
  abbrev core : AsmRec
  core = rows.core inputs names

  abbrev recs : List AsmRec
  recs = rows.recs inputs names

  abbrev o : Output
  o = record { recs = recs; kept = kept; mets = mets }

  -- the core library of the output's world, which may lack names that modifiers use
  abbrev core_after : AsmRec
  core_after = rows.core inputs those

  abbrev world : List AsmRec
  world = left ∷ core_after ∷ []

  module _ (w : Writes recs kept mets left) where
    -- ---- types of the core library

    module _ (t : TypeId) (at : RowAt) (c : IsCoreType inputs names t at) where
      core_is : is_core recs (item.Typ t) ≡ true
      unfolding is_core row_of
      core_is = ap (λ (o : Option RowAt). list_any (λ (at : RowAt). suc at.asm == length recs) (listed o)) c.home ∙ ap (λ (b : Bool). b || false) (eq-eqb (suc at.asm) (length recs) c.last)

      pub referred : is_reference recs t ≡ true
      referred = or_right (nat_le (absent.type_count recs) t.0) (is_core recs (item.Typ t)) core_is

      module _ (h : In t (type_refs recs mets)) where
        place : Placed (same_id t) (type_refs recs mets)
        place = placed (same_id t) (type_refs recs mets) (any_in same_id ids_decide t (type_refs recs mets) h)

        token : type_token o t ≡ row_token 0x01 (Some place.index)
        unfolding type_token
        token =
            ap (λ (b : Bool). if b then row_token 0x01 (position (same_id t) (type_refs recs mets)) else kept_token 0x02 (kept_types recs kept) (type_home recs t)) referred
            ∙ ap (row_token 0x01) place.is

        low : suc place.index < 16777216
        unfolding type_ref_rows
        low =
            let lt = place.below in
            let same : length left.type_ref ≡ length (type_refs recs mets) = ap length w.refs ∙ single_length (type_ref_row o) (type_refs recs mets) w.one in
            let few = w.few_refs in
            omega (arith, lt, same, few)

        row_there : slice_get left.type_ref place.index ≡ Some (found_ref o t c.row)
        unfolding type_ref_rows
        row_there =
            ap (λ (xs : List TypeRefRow). slice_get xs place.index) w.refs
            ∙ single_at (type_ref_row o) (type_refs recs mets) place.index t (found_ref o t c.row) w.one
            (place.there ∙ ap (λ (u : TypeId). Some u) (sym ((ids_decide t place.item).0 place.passes))) (own_row inputs names t at c kept mets)

        module _ (k : ℕ) (first : type_in core_after None c.row.namespace c.row.name ≡ Some k) where
          ref_here : ref_at world 0 left place.index ≡ Some (at_row 1 k)
          ref_here =
              ref_found left core_after w.own place.index k (found_ref o t c.row) row_there
              (row_refers inputs names t at c kept mets left w.assemblies w.few_assemblies h) first

          pub core_definition : k < TYPE_COUNT → definition_at world 0 left (type_token o t) ≡ Some (at_row 1 k)
          unfolding definition_at ref_definition
          core_definition lt =
              ap (definition_at world 0 left) token
              ∙ ap (λ (n : ℕ). if n == 0x02 then option_map (at_row 0) (row_below (types_in left) (index_in 0x02 (row_token 0x01 (Some place.index)))) else option_and_then (ref_definition world 0 left) (index_in 0x01 (row_token 0x01 (Some place.index))))
              (token_table 0x01 place.index (omega arith) low)
              ∙ ap (option_and_then (ref_definition world 0 left)) (token_index 0x01 place.index (omega arith) low)
              ∙ ap (option_and_then (listed_at world)) ref_here
              ∙ ap (λ (b : Bool). if b then None else Some (at_row 1 k)) (lt-leb TYPE_COUNT k lt)

          pub added_definition : TYPE_COUNT ≤ k → added_by world 0 left (type_token o t) ≡ Some (type_id world 1 k)
          unfolding added_by added_type
          added_definition le =
              ap (added_by world 0 left) token
              ∙ ap (option_and_then (added_type world 0 left)) (token_index 0x01 place.index (omega arith) low)
              ∙ ap (λ (o : Option RowAt). option_map (λ (at : RowAt). type_id world at.asm at.row) (option_and_then (added_at world) o)) ref_here
              ∙ ap (λ (b : Bool). option_map (λ (at : RowAt). type_id world at.asm at.row) (if b then Some (at_row 1 k) else None)) (le-leb TYPE_COUNT k le)

          -- a type that modifiers alone find isn't one that others find, and the other way round
          pub none_added : k < TYPE_COUNT → added_by world 0 left (type_token o t) ≡ None
          unfolding added_by added_type
          none_added lt =
              ap (added_by world 0 left) token
              ∙ ap (option_and_then (added_type world 0 left)) (token_index 0x01 place.index (omega arith) low)
              ∙ ap (λ (o : Option RowAt). option_map (λ (at : RowAt). type_id world at.asm at.row) (option_and_then (added_at world) o)) ref_here
              ∙ ap (λ (b : Bool). option_map (λ (at : RowAt). type_id world at.asm at.row) (if b then Some (at_row 1 k) else None)) (lt-leb TYPE_COUNT k lt)

    -- ---- types of inputs

    module _ (t : TypeId) (at : RowAt) (home : type_home recs t ≡ Some at) (before : suc at.asm < length recs) (k : ℕ) (new : new_row (kept_types recs kept) at ≡ Some k) (below : k < length left.type_def) where
      not_core : is_core recs (item.Typ t) ≡ false
      unfolding is_core row_of
      not_core =
          ap (λ (o : Option RowAt). list_any (λ (at : RowAt). suc at.asm == length recs) (listed o)) home
          ∙ ap (λ (b : Bool). b || false) (ne_eqb (suc at.asm) (length recs) (λ e. omega (arith, before, e)))

      not_referred : is_reference recs t ≡ false
      not_referred = λ i. lt-leb (absent.type_count recs) t.0 (rows_up_to inputs names recs t at home) i || not_core i

      own_token : type_token o t ≡ row_token 0x02 (Some k)
      unfolding type_token
      own_token =
          ap (λ (b : Bool). if b then row_token 0x01 (position (same_id t) (type_refs recs mets)) else kept_token 0x02 (kept_types recs kept) (type_home recs t)) not_referred
          ∙ ap (kept_token 0x02 (kept_types recs kept)) home ∙ ap (row_token 0x02) new

      own_low : suc k < 16777216
      own_low = let few = w.few_types in omega (arith, below, few)

      pub own_definition : definition_at world 0 left (type_token o t) ≡ Some (at_row 0 k)
      unfolding definition_at
      own_definition =
          ap (definition_at world 0 left) own_token
          ∙ ap (λ (n : ℕ). if n == 0x02 then option_map (at_row 0) (row_below (types_in left) (index_in 0x02 (row_token 0x02 (Some k)))) else option_and_then (ref_definition world 0 left) (index_in 0x01 (row_token 0x02 (Some k))))
          (token_table 0x02 k (omega arith) own_low)
          ∙ ap (λ (o : Option ℕ). option_map (at_row 0) (row_below (types_in left) o)) (token_index 0x02 k (omega arith) own_low)
          ∙ ap (λ (b : Bool). option_map (at_row 0) (if b then Some k else None)) (lt-ltb k (length left.type_def) below)

      pub own_not_added : added_by world 0 left (type_token o t) ≡ None
      unfolding added_by
      own_not_added =
          ap (added_by world 0 left) own_token ∙ ap (option_and_then (added_type world 0 left)) (token_elsewhere 0x02 k (omega arith) own_low 0x01 false refl refl)
