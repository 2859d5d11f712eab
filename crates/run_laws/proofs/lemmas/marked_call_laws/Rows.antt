-- The interface row by which a type has an instance of an interface that a marked method is of: it is marked, and it is among
-- those of its class.
use Rattle.std.proofs.Common.{◌≡◌, ℕ, suc, ◌<◌, Bool, true, false, List, [], ◌∷◌, ◌++◌, length, Option, Some, None, ◌⊎◌, inl, inr, refl, sym, ap, subst, ◌∙◌, arith}
use Rattle.std.specs.Prelude.{IsTrue, slice_get, if◌then◌else◌}
use Rattle.std.specs.Option.{option_map, option_and_then}
use Rattle.std.proofs.lemmas.Bool.{true≢false, eqb-true, eq-eqb}
use Rattle.il_base.specs.declared.table.TheConstants.{TYPE_DEF}
use Rattle.il_base.specs.declared.world_model.expr.TypeExpr.{TypeExpr}
use Rattle.il_base.specs.declared.world_model.types.InterfaceImplRow.{InterfaceImplRow}
use Rattle.il_base.specs.declared.world_model.record.AsmRec.{AsmRec}
use Rattle.il_base.specs.world_model.Tokens.{token_of, table_of, row_of, index_from, index_in}
use Rattle.il_base.specs.core_table.Record.{core_record}
use Rattle.rules.specs.declared.link_rules.row_at.RowAt.{RowAt}
use Rattle.rules.specs.declared.link_rules.core_type_name.CoreTypeName.{CoreTypeName}
use Rattle.rules.specs.link_rules.CoreNames.{missing_names, core_with}
use Rattle.rules.specs.link_rules.Types.{at_row}
use Rattle.rules.specs.link_rules.Signatures.{token_type}
use Rattle.rules.specs.link_rules.Members.{good_type}
use Rattle.rules.specs.link_rules.Cycles.{listed, same_row, led_to, home_of, is_row_of, only_interface, interface_of, interfaces_in, interfaces_at, interface_rows}
use Rattle.rules.specs.link_rules.Linked.{assemblies, link_fault_of}
use Rattle.base_laws.proofs.lemmas.type_laws.Within.{In, any_in, in_flat, in_listed}
use Rattle.base_laws.proofs.lemmas.type_laws.CoreRows.{no_interfaces}
use Rattle.base_laws.proofs.lemmas.type_laws.Places.{rows_decide, IsType, type_at}
use Rattle.base_laws.proofs.lemmas.type_laws.Reaching.{Leads, found}
use Rattle.base_laws.proofs.lemmas.walk_laws.Finds.{contains}
use Rattle.base_laws.proofs.lemmas.walk_laws.MethodRuns.{either}
use Rattle.rules.specs.mark_rules.Types.{impl_row_at, impl_type}
use Rattle.rules.specs.mark_rules.Calls.{row_class}
use Rattle.rules.specs.change_rules.Change.{Keep}
use Rattle.rules.specs.world_change_rules.Places.{keeps_type_row}
use Rattle.run_laws.proofs.lemmas.dispatch_laws.There.{IsTypeThere}
use Rattle.run_laws.specs.subtype_laws.Gone.{Goes, KeepsImplied}
use Rattle.run_laws.proofs.lemmas.subtype_laws.Steps.{from_row}
use Rattle.run_laws.specs.marked_call_laws.Laws.{HasFewTypes}

-- ---- a token of a type

index_token : (n : ℕ) → suc n < 16777216 → index_in TYPE_DEF (token_of TYPE_DEF (suc n)) ≡ Some n
index_token n lt =
    let t : ℕ = token_of TYPE_DEF (suc n) in
    let q : table_of t ≡ TYPE_DEF = omega (arith, lt) in
    let r : row_of t ≡ suc n = omega (arith, lt) in
    ap (λ (b : Bool). if b then index_from (row_of t) else None) (eq-eqb (table_of t) TYPE_DEF q) ∙ ap index_from r

in_if : {A : Type 0} (x : A) (b : Bool) (xs : List A) → In x (if b then xs else []) → (b ≡ true) × In x xs
in_if x true xs h = (refl, h)
in_if x false xs h = absurd h

-- ---- the row

module _ (recs : List AsmRec) where
  pub record ImplRow (c : RowAt) (j : TypeExpr) : Type 0 where
    pub rec : AsmRec
    pub there : slice_get recs c.asm ≡ Some rec
    pub number : ℕ
    pub row : InterfaceImplRow
    pub at : slice_get rec.interface_impl number ≡ Some row
    pub gives : In j (interface_of recs c.asm rec (token_of TYPE_DEF (suc c.row)) row)

  pub impl_row : (c : RowAt) (j : TypeExpr) → In j (interfaces_at recs c) → ImplRow c j
  unfolding interfaces_at
  impl_row c j h =
      let m = in_flat (interfaces_in recs c) j (listed (slice_get recs c.asm)) h in
      let r = from_row (interface_of recs c.asm m.0 (token_of TYPE_DEF (suc c.row))) m.0.interface_impl j m.2 in
      record { rec = m.0; there = in_listed m.0 (slice_get recs c.asm) m.1; number = r.number; row = r.row; at = r.there; gives = r.gives }

  module _ (c : RowAt) (j : TypeExpr) (i : ImplRow c j) where
    abbrev pub place : RowAt
    place = at_row c.asm i.number

    parts : (is_row_of (token_of TYPE_DEF (suc c.row)) i.row ≡ true) × In j (only_interface recs (good_type (token_type recs c.asm i.rec i.row.interface)))
    parts = in_if j (is_row_of (token_of TYPE_DEF (suc c.row)) i.row) (only_interface recs (good_type (token_type recs c.asm i.rec i.row.interface))) i.gives

    row_is : impl_row_at recs place ≡ Some i.row
    row_is = ap (option_and_then (λ (rec : AsmRec). slice_get rec.interface_impl i.number)) i.there ∙ i.at

    pub names_interface : In j (only_interface recs (impl_type recs place))
    names_interface =
        subst (λ (o : Option TypeExpr). In j (only_interface recs o))
        (sym
        (ap (option_and_then (λ (rec : AsmRec). option_and_then (λ (row : InterfaceImplRow). good_type (token_type recs c.asm rec row.interface)) (slice_get rec.interface_impl i.number))) i.there
        ∙ ap (option_and_then (λ (row : InterfaceImplRow). good_type (token_type recs c.asm i.rec row.interface))) i.at))
        parts.1

    pub class_is : suc c.row < 16777216 → row_class recs place ≡ Some c
    class_is lt =
        ap (option_and_then (λ (row : InterfaceImplRow). option_map (at_row c.asm) (index_in TYPE_DEF row.class))) row_is
        ∙ ap (λ (t : ℕ). option_map (at_row c.asm) (index_in TYPE_DEF t)) (eqb-true i.row.class (token_of TYPE_DEF (suc c.row)) parts.0)
        ∙ ap (option_map (at_row c.asm)) (index_token c.row lt)

    -- ---- it is kept

    module _ (k : Keep) (kept : RowAt → Bool) (rows : KeepsImplied k kept recs) (kept_c : IsTrue (keeps_type_row k recs c)) (type : IsTypeThere recs c) where
      type_is : slice_get i.rec.type_def c.row ≡ Some type.0
      type_is = sym (ap (option_and_then (λ (rec : AsmRec). slice_get rec.type_def c.row)) i.there) ∙ type.1

      led_kept : (home y : RowAt) (n : ℕ) → home_of recs j ≡ Some home → Leads (interface_rows recs) n home y → IsTrue (keeps_type_row k recs y) → (b : Bool) → kept place ≡ b → b ≡ true
      led_kept home y n is l h true e = refl
      led_kept home y n is l h false e =
          let goes : Goes k recs j = rows.gone c i.rec type.0 i.number i.row j kept_c i.there type_is i.at e (contains (interface_of recs c.asm i.rec (token_of TYPE_DEF (suc c.row)) i.row) j i.gives) in
          let led : In y (led_to same_row (interface_rows recs) n (home ∷ [])) = found same_row rows_decide (interface_rows recs) n n home y (home ∷ []) (omega arith) (inl refl) l in
          let none = goes n home y is (any_in same_row rows_decide y (led_to same_row (interface_rows recs) n (home ∷ [])) led) in
          absurd (true≢false (sym h ∙ none))

      pub place_kept : (home y : RowAt) (n : ℕ) → home_of recs j ≡ Some home → Leads (interface_rows recs) n home y → IsTrue (keeps_type_row k recs y) → kept place ≡ true
      place_kept home y n is l h = led_kept home y n is l h (kept place) refl

-- ---- its class has a token

module _ (inputs : List AsmRec) (sound : link_fault_of inputs ≡ None) (few : HasFewTypes inputs) where
  abbrev recs_of : List AsmRec
  recs_of = assemblies inputs

  none_there : {A : Type 0} (n : ℕ) (x : A) → slice_get [] n ≡ Some x → ⊥
  none_there n x e = cc

  few_by : (a : ℕ) (rec : AsmRec) (n : ℕ) (row : InterfaceImplRow) (names : List CoreTypeName) → slice_get rec.interface_impl n ≡ Some row
      → (slice_get inputs a ≡ Some rec) ⊎ (core_with core_record names ≡ rec) → length rec.type_def < 16777216
  few_by a rec n row names e (inl there) = few a rec there
  few_by a rec n row names e (inr same) =
      absurd (none_there n row (ap (λ (rows : List InterfaceImplRow). slice_get rows n) (sym (no_interfaces names)) ∙ ap (λ (r : AsmRec). slice_get r.interface_impl n) same ∙ e))

  few_in : (a : ℕ) (rec : AsmRec) (n : ℕ) (row : InterfaceImplRow) → slice_get recs_of a ≡ Some rec → slice_get rec.interface_impl n ≡ Some row → length rec.type_def < 16777216
  unfolding assemblies
  few_in a rec n row there e =
      let names : List CoreTypeName = missing_names (inputs ++ core_record ∷ []) in
      few_by a rec n row names e (either inputs (core_with core_record names) a rec there)

  pub has_token : (c : RowAt) (j : TypeExpr) → IsType recs_of c → ImplRow recs_of c j → suc c.row < 16777216
  has_token c j is i =
      let t = type_at recs_of c is in
      let same : t.rec ≡ i.rec = (let f = sym t.there ∙ i.there in cc) in
      let below : c.row < length i.rec.type_def = subst (λ (r : AsmRec). c.row < length r.type_def) same t.below in
      let lt = few_in c.asm i.rec i.number i.row i.there i.at in
      omega (arith, below, lt)
