-- References that may stay where they name nothing: what is so of a row's scopes is so of those of a row that reads the same.
use Rattle.std.proofs.Common.{◌≡◌, ℕ, zero, suc, List, length, Bool, true, false, Option, Some, None, refl, sym, ap, subst, ◌∙◌, eqb-true, eq-eqb}
use Rattle.std.specs.Prelude.{slice_get, ⊤, ◌==◌, ◌&&◌, if◌then◌else◌}
use Rattle.std.specs.List.{list_any}
use Rattle.std.specs.Option.{option_map, option_and_then}
use Rattle.std.proofs.lemmas.Bool.{and_parts, and_from}
use Rattle.il_base.specs.declared.table.TheConstants.{MODULE, TYPE_REF, ASSEMBLY_REF}
use Rattle.il_base.specs.declared.world_model.assemblies.AssemblyRefRow.{AssemblyRefRow}
use Rattle.il_base.specs.declared.world_model.types.TypeRefRow.{TypeRefRow}
use Rattle.il_base.specs.declared.world_model.record.AsmRec.{AsmRec}
use Rattle.il_base.specs.world_model.Tokens.{table_of, row_index, index_in}
use Rattle.il_base.specs.world_model.Core.{same_name}
use Rattle.rules.specs.declared.link_rules.row_at.RowAt.{RowAt}
use Rattle.rules.specs.link_rules.Types.{at_row, ref_definition}
use Rattle.rules.specs.link_rules.Cycles.{listed, same_row}
use Rattle.base_laws.proofs.lemmas.type_laws.Places.{rows_decide}
use Rattle.rules.specs.merge_rules.Absent.{same_assembly, reference_at, definition_of, assembly_scope, reference_scope, both, same_outer, same_scope, rows_same, reads_same}
use Rattle.rules.specs.merge_rules.Attributes.{has_row, may_scope, may_refer}
use Rattle.merge_laws.proofs.lemmas.merged_references.Scopes.{name_itself, assembly_itself}
use Rattle.merge_laws.proofs.lemmas.merged_owners.Every.{some_of}

-- two values of one option
pub one_of : {A : Type 0} (o : Option A) (x y : A) → o ≡ Some x → o ≡ Some y → x ≡ y
one_of o x y e f = let g : Some x ≡ Some y = sym e ∙ f in cc

pub not_both : {A : Type 0} (o : Option A) (x : A) → o ≡ Some x → o ≡ None → ⊥
not_both o x e f = let g : Some x ≡ None = sym e ∙ f in cc

module _ (recs : List AsmRec) where
  -- ---- what rows that read the same have

  pub data SameScope (reads : RowAt → RowAt → Bool) (x y : RowAt) (row other : TypeRefRow) : Type 0 where
    in_type : (s t : RowAt) → reference_scope recs x ≡ Some s → reference_scope recs y ≡ Some t → same_outer recs reads s t ≡ true → SameScope reads x y row other
    in_assembly : (a b : AssemblyRefRow) → reference_scope recs x ≡ None → reference_scope recs y ≡ None → assembly_scope recs x ≡ Some a → assembly_scope recs y ≡ Some b → same_assembly a b ≡ true
        → SameScope reads x y row other
    in_none : reference_scope recs x ≡ None → reference_scope recs y ≡ None → assembly_scope recs x ≡ None → assembly_scope recs y ≡ None → row.resolution_scope ≡ other.resolution_scope
        → SameScope reads x y row other

  pub record SameRows (reads : RowAt → RowAt → Bool) (x y : RowAt) : Type 0 where
    pub row : TypeRefRow
    pub is : reference_at recs x ≡ Some row
    pub other : TypeRefRow
    pub there : reference_at recs y ≡ Some other
    pub named : (same_name row.name other.name && same_name row.namespace other.namespace) ≡ true
    pub scope : SameScope reads x y row other

  module _ (reads : RowAt → RowAt → Bool) (x y : RowAt) where
    scope_by : (row other : TypeRefRow) (o p : Option RowAt) (a b : Option AssemblyRefRow) → reference_scope recs x ≡ o → reference_scope recs y ≡ p → assembly_scope recs x ≡ a → assembly_scope recs y ≡ b
        → both (same_outer recs reads) o p (both same_assembly a b (row.resolution_scope == other.resolution_scope)) ≡ true → SameScope reads x y row other
    scope_by row other (Some s) (Some t) a b e f g h r = in_type s t e f r
    scope_by row other (Some s) None a b e f g h r = absurd (cc)
    scope_by row other None (Some t) a b e f g h r = absurd (cc)
    scope_by row other None None (Some a) (Some b) e f g h r = in_assembly a b e f g h r
    scope_by row other None None (Some a) None e f g h r = absurd (cc)
    scope_by row other None None None (Some b) e f g h r = absurd (cc)
    scope_by row other None None None None e f g h r = in_none e f g h (eqb-true row.resolution_scope other.resolution_scope r)

    rows_by : (o p : Option TypeRefRow) → reference_at recs x ≡ o → reference_at recs y ≡ p → rows_same recs reads x y o p ≡ true → SameRows reads x y
    rows_by (Some row) (Some other) e f h =
        let n : Bool = same_name row.name other.name && same_name row.namespace other.namespace in
        let p = and_parts n (same_scope recs reads x y row other) h in
        record {
          row = row;
          is = e;
          other = other;
          there = f;
          named = p.0;
          scope = scope_by row other (reference_scope recs x) (reference_scope recs y) (assembly_scope recs x) (assembly_scope recs y) refl refl refl refl p.1;
        }
    rows_by (Some row) None e f h = absurd (cc)
    rows_by None (Some other) e f h = absurd (cc)
    rows_by None None e f h = absurd (cc)

    scope_again : (row other : TypeRefRow) → SameScope reads x y row other → same_scope recs reads x y row other ≡ true
    scope_again row other (in_type s t e f r) =
        (λ i. both (same_outer recs reads) (e i) (f i) (both same_assembly (assembly_scope recs x) (assembly_scope recs y) (row.resolution_scope == other.resolution_scope))) ∙ r
    scope_again row other (in_assembly a b e f g h r) =
        (λ i. both (same_outer recs reads) (e i) (f i) (both same_assembly (g i) (h i) (row.resolution_scope == other.resolution_scope))) ∙ r
    scope_again row other (in_none e f g h r) =
        (λ i. both (same_outer recs reads) (e i) (f i) (both same_assembly (g i) (h i) (row.resolution_scope == other.resolution_scope))) ∙ eq-eqb row.resolution_scope other.resolution_scope r

    rows_again : SameRows reads x y → rows_same recs reads x y (reference_at recs x) (reference_at recs y) ≡ true
    rows_again r =
        (λ i. rows_same recs reads x y (r.is i) (r.there i))
        ∙ and_from (same_name r.row.name r.other.name && same_name r.row.namespace r.other.namespace) (same_scope recs reads x y r.row r.other) r.named (scope_again r.row r.other r.scope)

  pub same_rows : (n : ℕ) (x y : RowAt) → reads_same recs (suc n) x y ≡ true → SameRows (reads_same recs n) x y
  unfolding reads_same
  same_rows n x y h = rows_by (reads_same recs n) x y (reference_at recs x) (reference_at recs y) refl refl h

  again : (n : ℕ) (x y : RowAt) → SameRows (reads_same recs n) x y → reads_same recs (suc n) x y ≡ true
  unfolding reads_same
  again n x y r = rows_again (reads_same recs n) x y r

  pub none_reads : (x y : RowAt) → reads_same recs zero x y ≡ true → ⊥
  unfolding reads_same
  none_reads x y h = cc

  -- ---- over more scopes

  outer_up : (o p : Option RowAt) (b c : Bool) → (b ≡ true → c ≡ true) → both same_row o p b ≡ true → both same_row o p c ≡ true
  outer_up (Some d) (Some e) b c up h = h
  outer_up (Some d) None b c up h = h
  outer_up None (Some e) b c up h = h
  outer_up None None b c up h = up h

  scope_up : (f g : RowAt → RowAt → Bool) (x y : RowAt) (row other : TypeRefRow) → ((s t : RowAt) → f s t ≡ true → g s t ≡ true) → SameScope f x y row other → SameScope g x y row other
  scope_up f g x y row other up (in_type s t e h r) = in_type s t e h (outer_up (definition_of recs s) (definition_of recs t) (f s t) (g s t) (up s t) r)
  scope_up f g x y row other up (in_assembly a b e h i j r) = in_assembly a b e h i j r
  scope_up f g x y row other up (in_none e h i j r) = in_none e h i j r

  rows_up : (f g : RowAt → RowAt → Bool) (x y : RowAt) → ((s t : RowAt) → f s t ≡ true → g s t ≡ true) → SameRows f x y → SameRows g x y
  rows_up f g x y up r = record { row = r.row; is = r.is; other = r.other; there = r.there; named = r.named; scope = scope_up f g x y r.row r.other up r.scope }

  pub reads_up : (n : ℕ) (x y : RowAt) → reads_same recs n x y ≡ true → reads_same recs (suc n) x y ≡ true
  reads_up zero x y h = absurd (none_reads x y h)
  reads_up (suc n) x y h = again (suc n) x y (rows_up (reads_same recs n) (reads_same recs (suc n)) x y (reads_up n) (same_rows n x y h))

  -- ---- what reads like something reads like itself

  itself_by : (t : RowAt) (o p : Option RowAt) (b c : Bool) → (b ≡ true → c ≡ true) → both same_row o p b ≡ true → both same_row p p c ≡ true
  itself_by t (Some d) (Some e) b c up h = (rows_decide e e).1 refl
  itself_by t (Some d) None b c up h = absurd (cc)
  itself_by t None (Some e) b c up h = absurd (cc)
  itself_by t None None b c up h = up h

  scope_itself : (f : RowAt → RowAt → Bool) (x y : RowAt) (row other : TypeRefRow) → ((s t : RowAt) → f s t ≡ true → f t t ≡ true) → SameScope f x y row other → SameScope f y y other other
  scope_itself f x y row other up (in_type s t e h r) = in_type t t h h (itself_by t (definition_of recs s) (definition_of recs t) (f s t) (f t t) (up s t) r)
  scope_itself f x y row other up (in_assembly a b e h i j r) = in_assembly b b h h j j (assembly_itself b)
  scope_itself f x y row other up (in_none e h i j r) = in_none h h j j refl

  pub reads_itself : (n : ℕ) (x y : RowAt) → reads_same recs n x y ≡ true → reads_same recs n y y ≡ true
  reads_itself zero x y h = absurd (none_reads x y h)
  reads_itself (suc n) x y h =
      let r = same_rows n x y h in
      again n y y (record {
        row = r.other;
        is = r.there;
        other = r.other;
        there = r.there;
        named = and_from (same_name r.other.name r.other.name) (same_name r.other.namespace r.other.namespace) (name_itself r.other.name) (name_itself r.other.namespace);
        scope = scope_itself (reads_same recs n) x y r.row r.other (reads_itself n) r.scope;
      })

  -- so does its scope, where that names nothing
  outer_itself : (f : RowAt → RowAt → Bool) (y s : RowAt) (row other : TypeRefRow) → SameScope f y y row other → reference_scope recs y ≡ Some s → definition_of recs s ≡ None → f s s ≡ true
  outer_itself f y s row other (in_type t u e h r) is none =
      let first : t ≡ s = one_of (reference_scope recs y) t s e is in
      let next : u ≡ s = one_of (reference_scope recs y) u s h is in
      let g : both same_row (definition_of recs s) (definition_of recs s) (f s s) ≡ true = (λ i. both same_row (definition_of recs (sym first i)) (definition_of recs (sym next i)) (f (sym first i) (sym next i))) ∙ r in
      (λ i. both same_row (sym none i) (sym none i) (f s s)) ∙ g
  outer_itself f y s row other (in_assembly a b e h i j r) is none = absurd (not_both (reference_scope recs y) s is e)
  outer_itself f y s row other (in_none e h i j r) is none = absurd (not_both (reference_scope recs y) s is e)

  pub scope_reads : (n : ℕ) (y s : RowAt) → reads_same recs n y y ≡ true → reference_scope recs y ≡ Some s → definition_of recs s ≡ None → reads_same recs n s s ≡ true
  scope_reads zero y s h e none = absurd (none_reads y y h)
  scope_reads (suc n) y s h e none = let r = same_rows n y y h in reads_up n s s (outer_itself (reads_same recs n) y s r.row r.other r.scope e none)

  -- ---- what may stay, and what reads the same

  module _ (Q : ℕ → Type 0) where
    -- Scopes name types of the core library, assemblies, or what may stay; the outermost has a scope that may.
    pub record Ok (next : RowAt → Type 0) (at : RowAt) : Type 0 where
      pub core : (s d : RowAt) → reference_scope recs at ≡ Some s → definition_of recs s ≡ Some d → suc d.asm ≡ length recs
      pub outer : (s : RowAt) → reference_scope recs at ≡ Some s → definition_of recs s ≡ None → next s
      pub own : (row : TypeRefRow) → reference_at recs at ≡ Some row → reference_scope recs at ≡ None → assembly_scope recs at ≡ None → Q row.resolution_scope

    -- over so many scopes
    abbrev pub Stays : ℕ → RowAt → Type 0
    Stays zero at = ⊤
    Stays (suc n) at = Ok (Stays n) at

    abbrev pub AlwaysStays : RowAt → Type 0
    AlwaysStays at = (n : ℕ) → Stays n at

    first_def : (o p : Option RowAt) (d : RowAt) (b : Bool) → both same_row o p b ≡ true → p ≡ Some d → o ≡ Some d
    first_def (Some x) (Some y) d b h e = let same : y ≡ d = cc in ap Some ((rows_decide x y).0 h ∙ same)
    first_def (Some x) None d b h e = absurd (cc)
    first_def None (Some y) d b h e = absurd (cc)
    first_def None None d b h e = absurd (cc)

    first_none : (o p : Option RowAt) (b : Bool) → both same_row o p b ≡ true → p ≡ None → (o ≡ None) × (b ≡ true)
    first_none (Some x) (Some y) b h e = absurd (cc)
    first_none (Some x) None b h e = absurd (cc)
    first_none None (Some y) b h e = absurd (cc)
    first_none None None b h e = (refl, h)

    module _ (f : RowAt → RowAt → Bool) (x y : RowAt) (r : SameRows f x y) (stays : AlwaysStays x) (next : (s t : RowAt) → f s t ≡ true → AlwaysStays s → AlwaysStays t) where
      scope_on : (m : ℕ) → SameScope f x y r.row r.other → Ok (Stays m) y
      scope_on m (in_type s t e h g) = record {
        core = λ u d is def.
            let same : t ≡ u = one_of (reference_scope recs y) t u h is in
            let here : definition_of recs t ≡ Some d = ap (definition_of recs) same ∙ def in
            (stays 1).core s d e (first_def (definition_of recs s) (definition_of recs t) d (f s t) g here);
        outer = λ u is none.
            let same : t ≡ u = one_of (reference_scope recs y) t u h is in
            let here : definition_of recs t ≡ None = ap (definition_of recs) same ∙ none in
            let both_none = first_none (definition_of recs s) (definition_of recs t) (f s t) g here in
            subst (Stays m) same (next s t both_none.1 (λ k. (stays (suc k)).outer s e both_none.0) m);
        own = λ row is none other. absurd (not_both (reference_scope recs y) t h none);
      }
      scope_on m (in_assembly a b e h i j g) = record {
        core = λ u d is def. absurd (not_both (reference_scope recs y) u is h);
        outer = λ u is none. absurd (not_both (reference_scope recs y) u is h);
        own = λ row is none other. absurd (not_both (assembly_scope recs y) b j other);
      }
      scope_on m (in_none e h i j g) = record {
        core = λ u d is def. absurd (not_both (reference_scope recs y) u is h);
        outer = λ u is none. absurd (not_both (reference_scope recs y) u is h);
        own = λ row is none other.
            let same : r.other ≡ row = one_of (reference_at recs y) r.other row r.there is in
            subst Q (g ∙ ap (λ (z : TypeRefRow). z.resolution_scope) same) ((stays 1).own r.row r.is e i);
      }

    pub stays_on : (n : ℕ) (x y : RowAt) → reads_same recs n x y ≡ true → AlwaysStays x → AlwaysStays y
    stays_on n x y h stays zero = tt
    stays_on zero x y h stays (suc m) = absurd (none_reads x y h)
    stays_on (suc n) x y h stays (suc m) = let r = same_rows n x y h in scope_on (reads_same recs n) x y r stays (stays_on n) m r.scope

    -- ---- what a copied attribute may refer to may stay

    module _ (a : ℕ) (rec : AsmRec) (there : slice_get recs a ≡ Some rec) (owns : (k : ℕ) (row : TypeRefRow) → slice_get rec.type_ref k ≡ Some row → (table_of row.resolution_scope == MODULE) ≡ true → Q row.resolution_scope) where
      definition_here : (k : ℕ) → definition_of recs (at_row a k) ≡ ref_definition recs a rec k
      definition_here k = ap (option_and_then (λ (r : AsmRec). ref_definition recs a r k)) there

      module _ (k : ℕ) (row : TypeRefRow) (is : slice_get rec.type_ref k ≡ Some row) where
        row_here : reference_at recs (at_row a k) ≡ Some row
        row_here = ap (option_and_then (λ (r : AsmRec). slice_get r.type_ref k)) there ∙ is

        scope_here : reference_scope recs (at_row a k) ≡ option_map (at_row a) (index_in TYPE_REF row.resolution_scope)
        scope_here = ap (option_and_then (λ (x : TypeRefRow). option_map (at_row a) (index_in TYPE_REF x.resolution_scope))) row_here

        assembly_here : assembly_scope recs (at_row a k) ≡ option_and_then (slice_get rec.assembly_ref) (index_in ASSEMBLY_REF row.resolution_scope)
        assembly_here =
            ap (option_and_then (λ (x : TypeRefRow). option_and_then (λ (r : AsmRec). option_and_then (slice_get r.assembly_ref) (index_in ASSEMBLY_REF x.resolution_scope)) (slice_get recs a))) row_here
            ∙ ap (option_and_then (λ (r : AsmRec). option_and_then (slice_get r.assembly_ref) (index_in ASSEMBLY_REF row.resolution_scope))) there

      last_def : (o : Option RowAt) (d : RowAt) (b : Bool) → o ≡ Some d → (elim o [ Some at ↦ suc at.asm == length recs | None ↦ b ]) ≡ true → suc d.asm ≡ length recs
      last_def None d b e h = absurd (cc)
      last_def (Some at) d b e h = let same : at ≡ d = cc in ap (λ (r : RowAt). suc r.asm) (sym same) ∙ eqb-true (suc at.asm) (length recs) h

      core_def : (n k : ℕ) (d : RowAt) → may_refer recs a rec n k ≡ true → ref_definition recs a rec k ≡ Some d → suc d.asm ≡ length recs
      unfolding may_refer
      core_def zero k d h e = absurd (cc)
      core_def (suc n) k d h e = last_def (ref_definition recs a rec k) d (list_any (may_scope rec (may_refer recs a rec n)) (listed (slice_get rec.type_ref k))) e h

      no_def : (o : Option RowAt) (b : Bool) → o ≡ None → (elim o [ Some at ↦ suc at.asm == length recs | None ↦ b ]) ≡ true → b ≡ true
      no_def None b e h = h
      no_def (Some at) b e h = absurd (cc)

      no_index : (t token : ℕ) → (table_of token == t) ≡ false → index_in t token ≡ None
      no_index t token h = ap (λ (b : Bool). if b then row_index token else None) h

      row_stays : (n k m : ℕ) (row : TypeRefRow) (b c : Bool) → slice_get rec.type_ref k ≡ Some row → (table_of row.resolution_scope == TYPE_REF) ≡ b → (table_of row.resolution_scope == ASSEMBLY_REF) ≡ c
          → (if b then list_any (may_refer recs a rec n) (listed (index_in TYPE_REF row.resolution_scope))
          else if c then has_row (option_and_then (slice_get rec.assembly_ref) (index_in ASSEMBLY_REF row.resolution_scope)) else table_of row.resolution_scope == MODULE) ≡ true
          → ((j : ℕ) → may_refer recs a rec n j ≡ true → ref_definition recs a rec j ≡ None → Stays m (at_row a j)) → Ok (Stays m) (at_row a k)
      row_stays n k m row true c is e f h next =
          let j = some_of (may_refer recs a rec n) (index_in TYPE_REF row.resolution_scope) h in
          let scope : reference_scope recs (at_row a k) ≡ Some (at_row a j.0) = scope_here k row is ∙ ap (option_map (at_row a)) j.1 in
          record {
            core = λ s d at def.
                let same : at_row a j.0 ≡ s = one_of (reference_scope recs (at_row a k)) (at_row a j.0) s scope at in
                core_def n j.0 d j.2 (sym (definition_here j.0) ∙ ap (definition_of recs) same ∙ def);
            outer = λ s at none.
                let same : at_row a j.0 ≡ s = one_of (reference_scope recs (at_row a k)) (at_row a j.0) s scope at in
                subst (Stays m) same (next j.0 j.2 (sym (definition_here j.0) ∙ ap (definition_of recs) same ∙ none));
            own = λ x at none other. absurd (not_both (reference_scope recs (at_row a k)) (at_row a j.0) scope none);
          }
      row_stays n k m row false true is e f h next =
          let scope : reference_scope recs (at_row a k) ≡ None = scope_here k row is ∙ ap (option_map (at_row a)) (no_index TYPE_REF row.resolution_scope e) in
          let r = some_of (λ (x : AssemblyRefRow). true) (option_and_then (slice_get rec.assembly_ref) (index_in ASSEMBLY_REF row.resolution_scope)) h in
          record {
            core = λ s d at def. absurd (not_both (reference_scope recs (at_row a k)) s at scope);
            outer = λ s at none. absurd (not_both (reference_scope recs (at_row a k)) s at scope);
            own = λ x at none other. absurd (not_both (assembly_scope recs (at_row a k)) r.0 (assembly_here k row is ∙ r.1) other);
          }
      row_stays n k m row false false is e f h next =
          let scope : reference_scope recs (at_row a k) ≡ None = scope_here k row is ∙ ap (option_map (at_row a)) (no_index TYPE_REF row.resolution_scope e) in
          record {
            core = λ s d at def. absurd (not_both (reference_scope recs (at_row a k)) s at scope);
            outer = λ s at none. absurd (not_both (reference_scope recs (at_row a k)) s at scope);
            own = λ x at none other.
                let same : row ≡ x = one_of (reference_at recs (at_row a k)) row x (row_here k row is) at in
                subst Q (ap (λ (z : TypeRefRow). z.resolution_scope) same) (owns k row is h);
          }

      pub refers_stays : (n k m : ℕ) → may_refer recs a rec n k ≡ true → ref_definition recs a rec k ≡ None → Stays m (at_row a k)
      unfolding may_refer
      refers_stays n k zero h none = tt
      refers_stays zero k (suc m) h none = absurd (cc)
      refers_stays (suc n) k (suc m) h none =
          let p = some_of (may_scope rec (may_refer recs a rec n)) (slice_get rec.type_ref k) (no_def (ref_definition recs a rec k) (list_any (may_scope rec (may_refer recs a rec n)) (listed (slice_get rec.type_ref k))) none h) in
          row_stays n k m p.0 (table_of p.0.resolution_scope == TYPE_REF) (table_of p.0.resolution_scope == ASSEMBLY_REF) p.1 refl refl p.2 (λ j g e. refers_stays n j m g e)

      -- ---- and it reads like itself

      outer_alike : (s : RowAt) (o : Option RowAt) (b : Bool) → (o ≡ None → b ≡ true) → both same_row o o b ≡ true
      outer_alike s (Some d) b h = (rows_decide d d).1 refl
      outer_alike s None b h = h refl

      scope_alike : (n k : ℕ) (row : TypeRefRow) (b c : Bool) → slice_get rec.type_ref k ≡ Some row → (table_of row.resolution_scope == TYPE_REF) ≡ b → (table_of row.resolution_scope == ASSEMBLY_REF) ≡ c
          → (if b then list_any (may_refer recs a rec n) (listed (index_in TYPE_REF row.resolution_scope))
          else if c then has_row (option_and_then (slice_get rec.assembly_ref) (index_in ASSEMBLY_REF row.resolution_scope)) else table_of row.resolution_scope == MODULE) ≡ true
          → ((j : ℕ) → may_refer recs a rec n j ≡ true → ref_definition recs a rec j ≡ None → reads_same recs n (at_row a j) (at_row a j) ≡ true) → SameScope (reads_same recs n) (at_row a k) (at_row a k) row row
      scope_alike n k row true c is e f h next =
          let j = some_of (may_refer recs a rec n) (index_in TYPE_REF row.resolution_scope) h in
          let s : RowAt = at_row a j.0 in
          let scope : reference_scope recs (at_row a k) ≡ Some s = scope_here k row is ∙ ap (option_map (at_row a)) j.1 in
          in_type s s scope scope (outer_alike s (definition_of recs s) (reads_same recs n s s) (λ none. next j.0 j.2 (sym (definition_here j.0) ∙ none)))
      scope_alike n k row false true is e f h next =
          let scope : reference_scope recs (at_row a k) ≡ None = scope_here k row is ∙ ap (option_map (at_row a)) (no_index TYPE_REF row.resolution_scope e) in
          let r = some_of (λ (x : AssemblyRefRow). true) (option_and_then (slice_get rec.assembly_ref) (index_in ASSEMBLY_REF row.resolution_scope)) h in
          let assembly : assembly_scope recs (at_row a k) ≡ Some r.0 = assembly_here k row is ∙ r.1 in
          in_assembly r.0 r.0 scope scope assembly assembly (assembly_itself r.0)
      scope_alike n k row false false is e f h next =
          let scope : reference_scope recs (at_row a k) ≡ None = scope_here k row is ∙ ap (option_map (at_row a)) (no_index TYPE_REF row.resolution_scope e) in
          let assembly : assembly_scope recs (at_row a k) ≡ None = assembly_here k row is ∙ ap (option_and_then (slice_get rec.assembly_ref)) (no_index ASSEMBLY_REF row.resolution_scope f) in
          in_none scope scope assembly assembly refl

      pub refers_alike : (n k : ℕ) → may_refer recs a rec n k ≡ true → ref_definition recs a rec k ≡ None → reads_same recs n (at_row a k) (at_row a k) ≡ true
      unfolding may_refer
      refers_alike zero k h none = absurd (cc)
      refers_alike (suc n) k h none =
          let p = some_of (may_scope rec (may_refer recs a rec n)) (slice_get rec.type_ref k) (no_def (ref_definition recs a rec k) (list_any (may_scope rec (may_refer recs a rec n)) (listed (slice_get rec.type_ref k))) none h) in
          let here : reference_at recs (at_row a k) ≡ Some p.0 = row_here k p.0 p.1 in
          again n (at_row a k) (at_row a k) (record {
            row = p.0;
            is = here;
            other = p.0;
            there = here;
            named = and_from (same_name p.0.name p.0.name) (same_name p.0.namespace p.0.namespace) (name_itself p.0.name) (name_itself p.0.namespace);
            scope = scope_alike n k p.0 (table_of p.0.resolution_scope == TYPE_REF) (table_of p.0.resolution_scope == ASSEMBLY_REF) p.1 refl refl p.2 (λ j g e. refers_alike n j g e);
          })

      pub refers_row : (n k : ℕ) → may_refer recs a rec n k ≡ true → ref_definition recs a rec k ≡ None → (row : TypeRefRow) × (slice_get rec.type_ref k ≡ Some row)
      unfolding may_refer
      refers_row zero k h none = absurd (cc)
      refers_row (suc n) k h none =
          let p = some_of (may_scope rec (may_refer recs a rec n)) (slice_get rec.type_ref k) (no_def (ref_definition recs a rec k) (list_any (may_scope rec (may_refer recs a rec n)) (listed (slice_get rec.type_ref k))) none h) in
          (p.0, p.1)
