-- What a token names stands in its table, and of the core library in the table of types that it has without added names.
use Rattle.std.proofs.Common.{◌≡◌, ◌<◌, ◌≤◌, ◌+◌, ℕ, zero, suc, List, [], ◌∷◌, length, Bool, true, false, Option, Some, None, refl, sym, ap, subst, ◌∙◌, ◌&&◌, arith, eq-eqb, eqb-true}
use Rattle.std.specs.Prelude.{slice_get, nat_lt, nat_le, ◌==◌, if◌then◌else◌}
use Rattle.std.specs.Option.{option_map, option_and_then}
use Rattle.std.proofs.lemmas.Bool.{ltb-true, leb-true, leb-false, and_parts}
use Rattle.il_base.specs.declared.ids.TypeId.{TypeId}
use Rattle.il_base.specs.declared.world_model.types.TypeDefRow.{TypeDefRow}
use Rattle.il_base.specs.declared.world_model.types.TypeRefRow.{TypeRefRow}
use Rattle.il_base.specs.declared.world_model.record.AsmRec.{AsmRec}
use Rattle.il_base.specs.world_model.Tokens.{table_of, index_in}
use Rattle.il_base.specs.world_model.Core.{same_name}
use Rattle.il_base.specs.world_model.Worlds.{row_below, types_in, type_id}
use Rattle.il_base.specs.declared.core_table.types.TheConstants.{TYPE_COUNT}
use Rattle.rules.specs.declared.link_rules.row_at.RowAt.{RowAt}
use Rattle.base_laws.proofs.lemmas.type_laws.Places.{place_within}
use Rattle.merge_laws.proofs.lemmas.merged_references.Scopes.{names_decide}
use Rattle.rules.specs.link_rules.Types.{or_else, at_row, assembly_at, same_place, encloser, type_from, type_in, forwarded_to, top_type, nested_type, ref_type_by, ref_type, ref_at, is_added, listed_at, added_at, ref_definition, added_type, definition_at, added_by}

-- ---- by cases on options

pub record Mapped {A B : Type 0} (f : A → B) (o : Option A) (y : B) : Type 0 where
  pub from : A
  pub is : o ≡ Some from
  pub gives : f from ≡ y

pub mapped : {A B : Type 0} (f : A → B) (o : Option A) (y : B) → option_map f o ≡ Some y → Mapped f o y
mapped f None y e = cc
mapped f (Some x) y e = record { from = x; is = refl; gives = cc }

pub record Chained {A B : Type 0} (f : A → Option B) (o : Option A) (y : B) : Type 0 where
  pub from : A
  pub is : o ≡ Some from
  pub gives : f from ≡ Some y

pub chained : {A B : Type 0} (f : A → Option B) (o : Option A) (y : B) → option_and_then f o ≡ Some y → Chained f o y
chained f None y e = cc
chained f (Some x) y e = record { from = x; is = refl; gives = e }

-- ---- types by name

-- a row that stands in its table
pub record Stands (recs : List AsmRec) (at : RowAt) : Type 0 where
  pub rec : AsmRec
  pub there : slice_get recs at.asm ≡ Some rec
  pub below : at.row < length rec.type_def

-- a row that is the first of its name and encloser
pub record IsFirst (recs : List AsmRec) (at : RowAt) : Type 0 where
  pub rec : AsmRec
  pub there : slice_get recs at.asm ≡ Some rec
  pub row : TypeDefRow
  pub row_there : slice_get rec.type_def at.row ≡ Some row
  pub around : Option ℕ
  pub placed : same_place (encloser rec at.row) around ≡ true
  pub first : type_in rec around row.namespace row.name ≡ Some at.row

record NamedAt (rec : AsmRec) (around : Option ℕ) (namespace name : List ℕ) (k j : ℕ) (ts : List TypeDefRow) : Type 0 where
  index : ℕ
  is : j ≡ k + index
  row : TypeDefRow
  there : slice_get ts index ≡ Some row
  called : row.name ≡ name
  within : row.namespace ≡ namespace
  placed : same_place (encloser rec j) around ≡ true

module _ (rec : AsmRec) (around : Option ℕ) (namespace name : List ℕ) where
  here_by : (k j : ℕ) (t : TypeDefRow) (ts : List TypeDefRow) (b : Bool) → (same_name t.name name && same_name t.namespace namespace && same_place (encloser rec k) around) ≡ b
      → (type_from rec around namespace name (suc k) ts ≡ Some j → NamedAt rec around namespace name (suc k) j ts)
      → (if b then Some k else type_from rec around namespace name (suc k) ts) ≡ Some j → NamedAt rec around namespace name k j (t ∷ ts)
  here_by k j t ts true e more f =
      let same : k ≡ j = cc in
      let p = and_parts (same_name t.name name && same_name t.namespace namespace) (same_place (encloser rec k) around) e in
      let q = and_parts (same_name t.name name) (same_name t.namespace namespace) p.0 in
      record {
        index = 0;
        is = omega (arith, same);
        row = t;
        there = refl;
        called = (names_decide t.name name).0 q.0;
        within = (names_decide t.namespace namespace).0 q.1;
        placed = subst (λ (n : ℕ). same_place (encloser rec n) around ≡ true) same p.1;
      }
  here_by k j t ts false e more f =
      let m = more f in
      record { index = suc m.index; is = omega (arith, m.is); row = m.row; there = m.there; called = m.called; within = m.within; placed = m.placed }

  from_named : (k j : ℕ) (ts : List TypeDefRow) → type_from rec around namespace name k ts ≡ Some j → NamedAt rec around namespace name k j ts
  from_named k j [] e = cc
  from_named k j (t ∷ ts) e =
      here_by k j t ts (same_name t.name name && same_name t.namespace namespace && same_place (encloser rec k) around) refl (from_named (suc k) j ts) e

  in_named : (j : ℕ) → type_in rec around namespace name ≡ Some j → NamedAt rec around namespace name 0 j rec.type_def
  unfolding type_in
  in_named j e = from_named 0 j rec.type_def e

some_below : (k j n : ℕ) → Some k ≡ Some j → k < n → j < n
some_below k j n e lt = let same : k ≡ j = cc in omega (arith, same, lt)

module _ (recs : List AsmRec) where
  pub first_stands : (at : RowAt) → IsFirst recs at → Stands recs at
  first_stands at f = record { rec = f.rec; there = f.there; below = place_within f.rec.type_def at.row f.row f.row_there }

  first_in : (a j : ℕ) (rec : AsmRec) (around : Option ℕ) (namespace name : List ℕ) (at : RowAt) → slice_get recs a ≡ Some rec → type_in rec around namespace name ≡ Some j → at_row a j ≡ at → IsFirst recs at
  first_in a j rec around namespace name at e f same =
      let n = in_named rec around namespace name j f in
      let index : n.index ≡ j = omega (arith, n.is) in
      subst (IsFirst recs) same (record {
        rec = rec;
        there = e;
        row = n.row;
        row_there = subst (λ (k : ℕ). slice_get rec.type_def k ≡ Some n.row) index n.there;
        around = around;
        placed = n.placed;
        first = (λ i. type_in rec around (n.within i) (n.called i)) ∙ f;
      })

  or_first : (x y : Option RowAt) (at : RowAt) → (x ≡ Some at → IsFirst recs at) → (y ≡ Some at → IsFirst recs at) → or_else x y ≡ Some at → IsFirst recs at
  or_first None y at f g e = g e
  or_first (Some x) y at f g e = f e

  top_first : (n : ℕ) (namespace name : List ℕ) (a : ℕ) (at : RowAt) → top_type recs n namespace name a ≡ Some at → IsFirst recs at
  unfolding top_type
  top_first zero namespace name a at e = cc
  top_first (suc n) namespace name a at e =
      let m = chained (λ (rec : AsmRec). or_else (option_map (at_row a) (type_in rec None namespace name)) (option_and_then (top_type recs n namespace name) (forwarded_to recs rec namespace name))) (slice_get recs a) at e in
      or_first (option_map (at_row a) (type_in m.from None namespace name)) (option_and_then (top_type recs n namespace name) (forwarded_to recs m.from namespace name)) at
      (λ f. let k = mapped (at_row a) (type_in m.from None namespace name) at f in first_in a k.from m.from None namespace name at m.is k.is k.gives)
      (λ f. let k = chained (top_type recs n namespace name) (forwarded_to recs m.from namespace name) at f in top_first n namespace name k.from at k.gives)
      m.gives

  nested_first : (namespace name : List ℕ) (around : Option RowAt) (at : RowAt) → nested_type recs namespace name around ≡ Some at → IsFirst recs at
  nested_first namespace name None at e = cc
  nested_first namespace name (Some around) at e =
      let m = mapped (at_row around.asm) (option_and_then (λ (rec : AsmRec). type_in rec (Some around.row) namespace name) (slice_get recs around.asm)) at e in
      let k = chained (λ (rec : AsmRec). type_in rec (Some around.row) namespace name) (slice_get recs around.asm) m.from m.is in
      first_in around.asm m.from k.from (Some around.row) namespace name at k.is k.gives m.gives

  scope_first : (a : ℕ) (rec : AsmRec) (row : TypeRefRow) (at : RowAt) (b : Bool)
      → (if b then top_type recs (length recs) row.namespace row.name a else option_and_then (top_type recs (length recs) row.namespace row.name) (option_and_then (assembly_at recs rec) (index_in 0x23 row.resolution_scope))) ≡ Some at
      → IsFirst recs at
  scope_first a rec row at true e = top_first (length recs) row.namespace row.name a at e
  scope_first a rec row at false e =
      let m = chained (top_type recs (length recs) row.namespace row.name) (option_and_then (assembly_at recs rec) (index_in 0x23 row.resolution_scope)) at e in
      top_first (length recs) row.namespace row.name m.from at m.gives

  by_first : (a : ℕ) (rec : AsmRec) (row : TypeRefRow) (outer : ℕ → Option RowAt) (scope : Option ℕ) (at : RowAt) → ref_type_by recs a rec row outer scope ≡ Some at → IsFirst recs at
  by_first a rec row outer None at e = scope_first a rec row at (table_of row.resolution_scope == 0x00) e
  by_first a rec row outer (Some j) at e = nested_first row.namespace row.name (outer j) at e

  pub ref_first : (a : ℕ) (rec : AsmRec) (n k : ℕ) (at : RowAt) → ref_type recs a rec n k ≡ Some at → IsFirst recs at
  unfolding ref_type
  ref_first a rec zero k at e = cc
  ref_first a rec (suc n) k at e =
      let m = chained (λ (row : TypeRefRow). ref_type_by recs a rec row (ref_type recs a rec n) (index_in 0x01 row.resolution_scope)) (slice_get rec.type_ref k) at e in
      by_first a rec m.from (ref_type recs a rec n) (index_in 0x01 m.from.resolution_scope) at m.gives

  -- ---- tokens

  pub record Names (at : RowAt) : Type 0 where
    pub stands : Stands recs at
    pub listed : suc at.asm ≡ length recs → at.row < TYPE_COUNT

  not_added : (at : RowAt) (b : Bool) → is_added recs at ≡ b → b ≡ false → suc at.asm ≡ length recs → at.row < TYPE_COUNT
  not_added at b e f last =
      let same : (suc at.asm == length recs) ≡ true = eq-eqb (suc at.asm) (length recs) last in
      let g : nat_le TYPE_COUNT at.row ≡ false = sym (ap (λ (c : Bool). c && nat_le TYPE_COUNT at.row) same) ∙ e ∙ f in
      leb-false TYPE_COUNT at.row g

  listed_by : (x at : RowAt) (b : Bool) → is_added recs x ≡ b → (if b then None else Some x) ≡ Some at → (x ≡ at) × (is_added recs x ≡ false)
  listed_by x at true e f = cc
  listed_by x at false e f = (cc, e)

  pub definition_names : (a : ℕ) (rec : AsmRec) (k : ℕ) (at : RowAt) → ref_definition recs a rec k ≡ Some at → Names at
  unfolding ref_definition
  definition_names a rec k at e =
      let m = chained (listed_at recs) (ref_at recs a rec k) at e in
      let l = listed_by m.from at (is_added recs m.from) refl m.gives in
      record {
        stands = subst (Stands recs) l.0 (first_stands m.from (ref_first a rec (length rec.type_ref) k m.from m.is));
        listed = subst (λ (x : RowAt). suc x.asm ≡ length recs → x.row < TYPE_COUNT) l.0 (not_added m.from false l.1 refl);
      }

  own_below : (n : ℕ) (o : Option ℕ) (k : ℕ) → row_below n o ≡ Some k → k < n
  own_below n None k e = cc
  own_below n (Some j) k e = below_by n j k (nat_lt j n) refl e
    where
      below_by : (n j k : ℕ) (b : Bool) → nat_lt j n ≡ b → (if b then Some j else None) ≡ Some k → k < n
      below_by n j k true t f = some_below j k n f (ltb-true j n t)
      below_by n j k false t f = cc

  own_names : (a : ℕ) (rec : AsmRec) (o : Option ℕ) (at : RowAt) → slice_get recs a ≡ Some rec → suc a < length recs → option_map (at_row a) (row_below (types_in rec) o) ≡ Some at → Names at
  own_names a rec o at e before f =
      let m = mapped (at_row a) (row_below (types_in rec) o) at f in
      subst Names m.gives (record {
        stands = record { rec = rec; there = e; below = own_below (types_in rec) o m.from m.is };
        listed = λ last. omega (arith, last, before);
      })

  token_by : (a : ℕ) (rec : AsmRec) (token : ℕ) (at : RowAt) (b : Bool) → slice_get recs a ≡ Some rec → suc a < length recs
      → (if b then option_map (at_row a) (row_below (types_in rec) (index_in 0x02 token)) else option_and_then (ref_definition recs a rec) (index_in 0x01 token)) ≡ Some at → Names at
  token_by a rec token at true e before f = own_names a rec (index_in 0x02 token) at e before f
  token_by a rec token at false e before f = let m = chained (ref_definition recs a rec) (index_in 0x01 token) at f in definition_names a rec m.from at m.gives

  -- of an input
  pub token_names : (a : ℕ) (rec : AsmRec) (token : ℕ) (at : RowAt) → slice_get recs a ≡ Some rec → suc a < length recs → definition_at recs a rec token ≡ Some at → Names at
  unfolding definition_at
  token_names a rec token at e before f = token_by a rec token at (table_of token == 0x02) e before f

  -- ---- types that modifiers alone find

  pub record Added (t : TypeId) : Type 0 where
    pub at : RowAt
    pub first : IsFirst recs at
    pub last : suc at.asm ≡ length recs
    pub behind : TYPE_COUNT ≤ at.row
    pub is : type_id recs at.asm at.row ≡ t

  added_by_test : (x at : RowAt) (b : Bool) → is_added recs x ≡ b → (if b then Some x else None) ≡ Some at → (x ≡ at) × (is_added recs x ≡ true)
  added_by_test x at true e f = (cc, e)
  added_by_test x at false e f = cc

  pub added_names : (a : ℕ) (rec : AsmRec) (token : ℕ) (t : TypeId) → added_by recs a rec token ≡ Some t → Added t
  unfolding added_by added_type
  added_names a rec token t e =
      let k = chained (added_type recs a rec) (index_in 0x01 token) t e in
      let m = mapped (λ (at : RowAt). type_id recs at.asm at.row) (option_and_then (added_at recs) (ref_at recs a rec k.from)) t k.gives in
      let n = chained (added_at recs) (ref_at recs a rec k.from) m.from m.is in
      let b = added_by_test n.from m.from (is_added recs n.from) refl n.gives in
      let at : is_added recs m.from ≡ true = subst (λ (x : RowAt). is_added recs x ≡ true) b.0 b.1 in
      let p = and_parts (suc m.from.asm == length recs) (nat_le TYPE_COUNT m.from.row) at in
      record {
        at = m.from;
        first = subst (IsFirst recs) b.0 (ref_first a rec (length rec.type_ref) k.from n.from n.is);
        last = eqb-true (suc m.from.asm) (length recs) p.0;
        behind = leb-true TYPE_COUNT m.from.row p.1;
        is = m.gives;
      }
