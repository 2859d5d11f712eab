-- Whether a reference may be copied, one scope at a time.
use Rattle.std.proofs.Common.{◌≡◌, ℕ, suc, ◌+◌, Bool, true, false, List, length, Option, Some, None, refl, sym, ap, ◌∙◌, arith}
use Rattle.std.specs.Prelude.{slice_get, nat_eq, ◌==◌, ◌||◌, if◌then◌else◌}
use Rattle.std.specs.List.{list_any}
use Rattle.std.specs.Option.{option_and_then}
use Rattle.std.proofs.lemmas.Bool.{eqb-true}
use Rattle.il_base.specs.declared.table.TheConstants.{TYPE_REF, ASSEMBLY_REF, MODULE}
use Rattle.il_base.specs.declared.world_model.types.TypeRefRow.{TypeRefRow}
use Rattle.il_base.specs.declared.world_model.record.AsmRec.{AsmRec}
use Rattle.il_base.specs.world_model.Tokens.{table_of, index_in}
use Rattle.rules.specs.declared.link_rules.row_at.RowAt.{RowAt}
use Rattle.rules.specs.link_rules.Types.{at_row, ref_definition}
use Rattle.rules.specs.link_rules.Cycles.{listed}
use Rattle.rules.specs.merge_rules.Absent.{definition_of}
use Rattle.rules.specs.merge_rules.Attributes.{has_row, may_scope, may_refer}
use Rattle.token_keys.specs.declared.copied_attributes.references.Step.{Step}
use Rattle.token_keys.specs.copied_attributes.Steps.{says, other_scope, step_by, step_of_row, step_of, by_definition, by_ref}

or_false : (b : Bool) → (b || false) ≡ b
or_false true = refl
or_false false = refl

-- a scope by its table
abbrev scoped : (ℕ → Bool) → Bool → Option ℕ → Bool → Bool
scoped outer typ row other = if typ then list_any outer (listed row) else other

not_type : (rec : AsmRec) (scope : ℕ) → table_of scope ≡ TYPE_REF → other_scope rec scope ≡ false
not_type rec scope e =
    λ i. if e i == ASSEMBLY_REF then has_row (option_and_then (slice_get rec.assembly_ref) (index_in ASSEMBLY_REF scope)) else e i == MODULE

none_case : (rec : AsmRec) (outer : ℕ → Bool) (scope : ℕ) (b : Bool) → (table_of scope == TYPE_REF) ≡ b → scoped outer b None (other_scope rec scope) ≡ other_scope rec scope
none_case rec outer scope true e = sym (not_type rec scope (eqb-true (table_of scope) TYPE_REF e))
none_case rec outer scope false e = refl

-- a token with a row of a table is that table's
some_case : (scope k : ℕ) (b : Bool) → (table_of scope == TYPE_REF) ≡ b → index_in TYPE_REF scope ≡ Some k → b ≡ true
some_case scope k true e f = refl
some_case scope k false e f = let g : index_in TYPE_REF scope ≡ None = rw e refl in cc

by_scope : (rec : AsmRec) (outer : ℕ → Bool) (scope : ℕ) (o : Option ℕ) → index_in TYPE_REF scope ≡ o → scoped outer (table_of scope == TYPE_REF) o (other_scope rec scope) ≡ says outer (step_by rec scope o)
by_scope rec outer scope None e = none_case rec outer scope (table_of scope == TYPE_REF) refl
by_scope rec outer scope (Some k) e =
    ap (λ (b : Bool). scoped outer b (Some k) (other_scope rec scope)) (some_case scope k (table_of scope == TYPE_REF) refl e) ∙ or_false (outer k)

by_row : (rec : AsmRec) (outer : ℕ → Bool) (row : Option TypeRefRow) → list_any (may_scope rec outer) (listed row) ≡ says outer (step_of_row rec row)
by_row rec outer None = refl
by_row rec outer (Some row) = or_false (may_scope rec outer row) ∙ by_scope rec outer row.resolution_scope (index_in TYPE_REF row.resolution_scope) refl

module _ (recs : List AsmRec) (a : ℕ) (rec : AsmRec) (stands : slice_get recs a ≡ Some rec) where
  definition_is : (k : ℕ) → definition_of recs (at_row a k) ≡ ref_definition recs a rec k
  definition_is k = ap (λ (r : Option AsmRec). option_and_then (λ r. ref_definition recs a r k) r) stands

  -- a row that names a definition
  pub found : (k : ℕ) (def : Option RowAt) (at : RowAt) (n : ℕ) (outer : ℕ → Bool) → def ≡ definition_of recs (at_row a k) → def ≡ Some at → n ≡ length recs
      → nat_eq (at.asm + 1) n ≡ by_ref recs a rec outer k
  found k def at n outer is some long =
      let one : at.asm + 1 ≡ suc at.asm = omega arith in
      (λ i. nat_eq (one i) (long i)) ∙ sym (ap (by_definition recs rec outer k) (sym (definition_is k) ∙ sym is ∙ some))

  -- one that names nothing
  pub not_found : (k : ℕ) (def : Option RowAt) (step : Step) (outer : ℕ → Bool) → def ≡ definition_of recs (at_row a k) → def ≡ None → step ≡ step_of rec k
      → says outer step ≡ by_ref recs a rec outer k
  not_found k def step outer is none says_step =
      ap (says outer) says_step ∙ sym (by_row rec outer (slice_get rec.type_ref k))
      ∙ sym (ap (by_definition recs rec outer k) (sym (definition_is k) ∙ sym is ∙ none))

module _ (recs : List AsmRec) (a : ℕ) (rec : AsmRec) where
  -- one scope more
  def_case : (n k : ℕ) (def : Option RowAt) → (elim def [ Some at ↦ suc at.asm == length recs | None ↦ list_any (may_scope rec (may_refer recs a rec n)) (listed (slice_get rec.type_ref k)) ])
      ≡ by_definition recs rec (may_refer recs a rec n) k def
  def_case n k None = refl
  def_case n k (Some at) = refl

  more : (n k : ℕ) → may_refer recs a rec (suc n) k ≡ by_ref recs a rec (may_refer recs a rec n) k
  unfolding may_refer
  more n k = def_case n k (ref_definition recs a rec k)

  pub step_same : (m n k : ℕ) (step s : Step) → m ≡ suc n → step ≡ s → ((outer : ℕ → Bool) → says outer step ≡ by_ref recs a rec outer k) → says (may_refer recs a rec n) s ≡ may_refer recs a rec m k
  step_same m n k step s e f law = ap (says (may_refer recs a rec n)) (sym f) ∙ law (may_refer recs a rec n) ∙ sym (more n k) ∙ ap (λ (j : ℕ). may_refer recs a rec j k) (sym e)

  none_left : (k : ℕ) → may_refer recs a rec 0 k ≡ false
  unfolding may_refer
  none_left k = refl

  pub no_step : (m k : ℕ) → m ≡ 0 → false ≡ may_refer recs a rec m k
  no_step m k e = sym (ap (λ (j : ℕ). may_refer recs a rec j k) e ∙ none_left k)
