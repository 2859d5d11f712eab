-- In a linked world a chain of enclosers passes each type of its assembly once.
use Rattle.std.proofs.Common.{◌≡◌, ℕ, zero, suc, ◌/◌, ◌%◌, ◌<◌, ◌≤◌, Bool, true, false, nat_eq, List, [], ◌∷◌, ◌++◌, length, Option, Some, None, ◌⊎◌, inl, inr, refl, sym, ap, ◌∙◌, arith}
use Rattle.std.specs.Prelude.{slice_get, ◌==◌, if◌then◌else◌}
use Rattle.std.proofs.lemmas.Bool.{eqb-true, true≢false}
use Rattle.std.proofs.lemmas.Bool.Decides.{Decides-eqb}
use Rattle.il_base.specs.declared.world_model.types.TypeDefRow.{TypeDefRow}
use Rattle.il_base.specs.declared.world_model.types.NestedClassRow.{NestedClassRow}
use Rattle.il_base.specs.declared.world_model.record.AsmRec.{AsmRec}
use Rattle.il_base.specs.world_model.Tokens.{token_of, index_from, index_in}
use Rattle.il_base.specs.core_table.Record.{core_record, record_with}
use Rattle.rules.specs.declared.link_rules.core_type_name.CoreTypeName.{CoreTypeName}
use Rattle.rules.specs.declared.link_rules.link_error.LinkError.{LinkError}
use Rattle.rules.specs.link_rules.CoreNames.{missing_names, core_with}
use Rattle.rules.specs.link_rules.Types.{or_else, encloser_in, encloser}
use Rattle.rules.specs.link_rules.Cycles.{is_on_cycle, around}
use Rattle.rules.specs.link_rules.Faults.{first_of, duplicate_assembly, cyclic_types, is_cyclic_around, cyclic_nesting_row, cyclic_nesting, duplicate_member, link_fault}
use Rattle.rules.specs.link_rules.Linked.{assemblies, link_fault_of}
use Rattle.rules.specs.type_rules.Texts.{nested_name, part_or_none, row_name}
use Rattle.rules.specs.type_rules.Labels.{own_space, space_around, row_space}
use Rattle.base_laws.specs.walk_laws.Walks.{InLinked, NestsTypes, ByEncloser, SaidWhole, NamesWhole, SpacesWhole}
use Rattle.base_laws.proofs.lemmas.type_laws.Within.{in_listed, listed_in}
use Rattle.base_laws.proofs.lemmas.type_laws.Reaching.{Leads, Walks, cyclic}
use Rattle.base_laws.proofs.lemmas.type_laws.Bounded.{no_walk}
use Rattle.base_laws.proofs.lemmas.type_laws.Ways.{none_first, none_second, none_of}
use Rattle.base_laws.proofs.lemmas.walk_laws.MethodRuns.{either}

-- ---- the row that encloses a type

module _ (k : ℕ) where
  abbrev token : ℕ
  token = token_of 0x02 (suc k)

  record Row (rows : List NestedClassRow) : Type 0 where
    place : ℕ
    row : NestedClassRow
    there : slice_get rows place ≡ Some row
    is : row.nested_class ≡ token

  row_by : (row : NestedClassRow) (rows : List NestedClassRow) (j : ℕ) (b : Bool) → (row.nested_class == token) ≡ b → (encloser_in token rows ≡ Some j → Row rows)
      → (if b then index_in 0x02 row.enclosing_class else encloser_in token rows) ≡ Some j → Row (row ∷ rows)
  row_by row rows j true e more h = record { place = 0; row = row; there = refl; is = eqb-true row.nested_class token e }
  row_by row rows j false e more h = let m = more h in record { place = suc m.place; row = m.row; there = m.there; is = m.is }

  row_of : (rows : List NestedClassRow) (j : ℕ) → encloser_in token rows ≡ Some j → Row rows
  row_of [] j h = cc
  row_of (row ∷ rows) j h = row_by row rows j (row.nested_class == token) refl (row_of rows j) h

  enclosing_by : (row : NestedClassRow) (rows : List NestedClassRow) (j : ℕ) (b : Bool) → (row.nested_class == token) ≡ b
      → (encloser_in token rows ≡ Some j → (place : ℕ) × (r : NestedClassRow) × (slice_get rows place ≡ Some r) × (index_in 0x02 r.enclosing_class ≡ Some j))
      → (if b then index_in 0x02 row.enclosing_class else encloser_in token rows) ≡ Some j
      → (place : ℕ) × (r : NestedClassRow) × (slice_get (row ∷ rows) place ≡ Some r) × (index_in 0x02 r.enclosing_class ≡ Some j)
  enclosing_by row rows j true e more h = (0, row, refl, h)
  enclosing_by row rows j false e more h = let m = more h in (suc m.0, m.1, m.2, m.3)

  enclosing_of : (rows : List NestedClassRow) (j : ℕ) → encloser_in token rows ≡ Some j → (place : ℕ) × (r : NestedClassRow) × (slice_get rows place ≡ Some r) × (index_in 0x02 r.enclosing_class ≡ Some j)
  enclosing_of [] j h = cc
  enclosing_of (row ∷ rows) j h = enclosing_by row rows j (row.nested_class == token) refl (enclosing_of rows j) h

-- the place of the row that a token of TypeDef names
place_by : (t k row : ℕ) (b : Bool) → (t / 16777216 == 2) ≡ b → t % 16777216 ≡ row → (if b then index_from row else None) ≡ Some k → t ≡ token_of 0x02 (suc k)
place_by t k zero true e f h = cc
place_by t k (suc row) true e f h =
    let g : row ≡ k = cc in
    let q : t / 16777216 ≡ 2 = eqb-true (t / 16777216) 2 e in
    omega arith
place_by t k row false e f h = cc

place_of : (t k : ℕ) → index_in 0x02 t ≡ Some k → t ≡ token_of 0x02 (suc k)
place_of t k h = place_by t k (t % 16777216) (t / 16777216 == 2) refl refl h

-- ---- no type of an assembly encloses itself

module _ (rec : AsmRec) (right : NestsTypes rec) where
  -- what a linked world gives of one
  abbrev NoneCyclic : Type 0
  NoneCyclic = (place : ℕ) (row : NestedClassRow) → slice_get rec.nested_class place ≡ Some row → is_cyclic_around rec (index_in 0x02 row.nested_class) ≡ false

  first_step : (n k : ℕ) → Leads (around rec) (suc n) k k → (j : ℕ) × (encloser rec k ≡ Some j)
  first_step n k l = (l.0, in_listed l.0 (encloser rec k) l.1)

  not_on_cycle : (k j : ℕ) → NoneCyclic → k < length rec.type_def → encloser rec k ≡ Some j → is_on_cycle nat_eq (around rec) (length rec.type_def) k ≡ false
  unfolding encloser
  not_on_cycle k j none lt h =
      let r = row_of k rec.nested_class j h in
      let t = (right r.place r.row r.there).0 in
      let same : k ≡ t.0 = (let e = place_of r.row.nested_class t.0 t.1 in let f = r.is in omega arith) in
      let i : index_in 0x02 r.row.nested_class ≡ Some k = t.1 ∙ ap (λ (n : ℕ). Some n) (sym same) in
      ap (is_cyclic_around rec) (sym i) ∙ none r.place r.row r.there

  -- a type that another encloses is there
  pub nested_there : (k j : ℕ) → encloser rec k ≡ Some j → k < length rec.type_def
  unfolding encloser
  nested_there k j h =
      let r = row_of k rec.nested_class j h in
      let t = (right r.place r.row r.there).0 in
      let same : k ≡ t.0 = (let e = place_of r.row.nested_class t.0 t.1 in let f = r.is in omega arith) in
      let lt = t.2 in
      omega arith

  -- an encloser is a type that is there
  pub encloser_there : (k j : ℕ) → encloser rec k ≡ Some j → j < length rec.type_def
  unfolding encloser
  encloser_there k j h =
      let r = enclosing_of k rec.nested_class j h in
      let t = (right r.0 r.1 r.2).1 in
      let same : j ≡ t.0 = (let f : Some j ≡ Some t.0 = sym r.3 ∙ t.1 in cc) in
      let lt = t.2 in
      omega arith

  never : NoneCyclic → (n k : ℕ) → k < length rec.type_def → n ≤ length rec.type_def → Leads (around rec) (suc n) k k → ⊥
  never none n k lt le l =
      let s = first_step n k l in
      true≢false (sym (cyclic nat_eq Decides-eqb (around rec) (length rec.type_def) n k le l) ∙ not_on_cycle k s.0 none lt s.1)

  no_long_walk : NoneCyclic → (k : ℕ) → k < length rec.type_def → Walks (around rec) (length rec.type_def) k → ⊥
  no_long_walk none k lt w =
      no_walk (around rec) (λ (i : ℕ). i < length rec.type_def) (λ i. i) (length rec.type_def) (λ x y p h. encloser_there x y (in_listed y (encloser rec x) h)) (λ x p. p) (λ x y p q e. e)
      (λ n x p le l. never none n x p le l) k lt w

  -- ---- a greater bound

  module _ (said : AsmRec → ℕ → ℕ → List ℕ) (step : (ℕ → List ℕ) → Option ℕ → Option TypeDefRow → List ℕ) (by : ByEncloser said step) where
    grown : (n m k : ℕ) → n ≤ m → (Walks (around rec) n k → ⊥) → said rec m k ≡ said rec n k
    grown zero m k le none = absurd (none tt)
    grown (suc n) zero k le none = absurd (omega arith)
    grown (suc n) (suc m) k le none =
        by.next rec m k
        ∙ by.same (said rec m) (said rec n) (encloser rec k) (slice_get rec.type_def k) (λ j e. grown n m j (omega arith) (λ w. none (j, listed_in j (encloser rec k) e, w)))
        ∙ sym (by.next rec n k)

    pub whole : NoneCyclic → (n k : ℕ) → k < length rec.type_def → length rec.type_def ≤ n → said rec n k ≡ said rec (length rec.type_def) k
    whole none n k lt le = grown (length rec.type_def) n k le (no_long_walk none k lt)

-- ---- names and namespaces

abbrev pub name_step : (ℕ → List ℕ) → Option ℕ → Option TypeDefRow → List ℕ
name_step outer o t = nested_name outer o (part_or_none o t)

same_name : (f g : ℕ → List ℕ) (o : Option ℕ) (t : Option TypeDefRow) → ((j : ℕ) → o ≡ Some j → f j ≡ g j) → name_step f o t ≡ name_step g o t
same_name f g None t h = refl
same_name f g (Some j) t h = ap (λ (name : List ℕ). nested_name (λ i. name) (Some j) (part_or_none (Some j) t)) (h j refl)

pub names_by : ByEncloser row_name name_step
unfolding row_name
names_by = record { none = λ rec k. refl; next = λ rec n k. refl; same = same_name; empty = λ f. refl }

abbrev pub space_step : (ℕ → List ℕ) → Option ℕ → Option TypeDefRow → List ℕ
space_step outer o t = space_around outer o (own_space t)

same_space : (f g : ℕ → List ℕ) (o : Option ℕ) (t : Option TypeDefRow) → ((j : ℕ) → o ≡ Some j → f j ≡ g j) → space_step f o t ≡ space_step g o t
same_space f g None t h = refl
same_space f g (Some j) t h = h j refl

pub spaces_by : ByEncloser row_space space_step
unfolding row_space
spaces_by = record { none = λ rec k. refl; next = λ rec n k. refl; same = same_space; empty = λ f. refl }

none_there : (place : ℕ) (row : NestedClassRow) → slice_get [] place ≡ Some row → ⊥
none_there zero row e = cc
none_there (suc place) row e = cc

-- ---- the assemblies of a linked world

module _ (inputs : List AsmRec) (sound : link_fault_of inputs ≡ None) where
  abbrev names : List CoreTypeName
  names = missing_names (inputs ++ core_record ∷ [])

  no_nesting_fault : cyclic_nesting inputs ≡ None
  unfolding link_fault
  no_nesting_fault =
      let all : List AsmRec = assemblies inputs in
      none_first (cyclic_nesting inputs) (duplicate_member all inputs)
      (none_second (cyclic_types all inputs) (or_else (cyclic_nesting inputs) (duplicate_member all inputs))
      (none_second (duplicate_assembly inputs) (or_else (cyclic_types all inputs) (or_else (cyclic_nesting inputs) (duplicate_member all inputs))) sound))

  no_fault_row : (b : Bool) (x : LinkError) → (if b then Some x else None) ≡ None → b ≡ false
  no_fault_row true x e = cc
  no_fault_row false x e = refl

  of_input : (a : ℕ) (rec : AsmRec) → slice_get inputs a ≡ Some rec → (right : NestsTypes rec) → NoneCyclic rec right
  unfolding cyclic_nesting
  of_input a rec e right place row there =
      no_fault_row (is_cyclic_around rec (index_in 0x02 row.nested_class)) _
      (none_of (cyclic_nesting_row rec a) rec.nested_class place row (none_of (λ i (r : AsmRec). first_of (cyclic_nesting_row r i) 0 r.nested_class) inputs a rec no_nesting_fault e) there)

  core_nests : (core_with core_record names).nested_class ≡ []
  unfolding core_with core_record record_with
  core_nests = refl

  none_cyclic_by : (a : ℕ) (rec : AsmRec) (right : NestsTypes rec) → (slice_get inputs a ≡ Some rec) ⊎ (core_with core_record names ≡ rec) → NoneCyclic rec right
  none_cyclic_by a rec right (inl e) place row there = of_input a rec e right place row there
  none_cyclic_by a rec right (inr e) place row there =
      let f : slice_get (core_with core_record names).nested_class place ≡ Some row = ap (λ (r : AsmRec). slice_get r.nested_class place) e ∙ there in
      let g : slice_get [] place ≡ Some row = ap (λ (rows : List NestedClassRow). slice_get rows place) (sym core_nests) ∙ f in
      absurd (none_there place row g)

  none_cyclic : (a : ℕ) (rec : AsmRec) → slice_get (assemblies inputs) a ≡ Some rec → (right : NestsTypes rec) → NoneCyclic rec right
  unfolding assemblies
  none_cyclic a rec e right = none_cyclic_by a rec right (either inputs (core_with core_record names) a rec e)

pub said_whole : (said : AsmRec → ℕ → ℕ → List ℕ) (step : (ℕ → List ℕ) → Option ℕ → Option TypeDefRow → List ℕ) → ByEncloser said step → InLinked (SaidWhole said)
said_whole said step by inputs sound a n k rec there right lt le = whole rec right said step by (none_cyclic inputs sound a rec there right) n k lt le

pub all_whole : InLinked NamesWhole
all_whole = said_whole row_name name_step names_by

pub spaces_whole : InLinked SpacesWhole
spaces_whole = said_whole row_space space_step spaces_by
