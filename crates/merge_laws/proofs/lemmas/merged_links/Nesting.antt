-- No type of the output encloses itself, and its name isn't the core library's.
use Rattle.std.proofs.Common.{◌≡◌, ◌<◌, ℕ, zero, suc, nat_eq, List, [], ◌∷◌, ◌++◌, length, map, Bool, true, false, Option, Some, None, refl, sym, ap, subst, ◌∙◌, arith}
use Rattle.std.specs.Prelude.{slice_get, if◌then◌else◌}
use Rattle.std.specs.Option.{option_and_then}
use Rattle.std.proofs.lemmas.Bool.{or_parts}
use Rattle.std.proofs.lemmas.Bool.Decides.{Decides-eqb}
use Rattle.std.proofs.lemmas.List.{length-append}
use Rattle.il_base.specs.declared.table.TheConstants.{TYPE_DEF}
use Rattle.il_base.specs.declared.world_model.types.NestedClassRow.{NestedClassRow}
use Rattle.il_base.specs.declared.world_model.assemblies.AssemblyRow.{AssemblyRow}
use Rattle.il_base.specs.declared.world_model.record.AsmRec.{AsmRec}
use Rattle.il_base.specs.world_model.Core.{is_core_name}
use Rattle.il_base.specs.world_model.Tokens.{token_of, table_of, row_of, index_in}
use Rattle.il_base.specs.world_model.Records.{IsRecord}
use Rattle.il_base.specs.core_table.Record.{core_record}
use Rattle.rules.specs.declared.link_rules.core_type_name.CoreTypeName.{CoreTypeName}
use Rattle.rules.specs.declared.link_rules.link_error.LinkError.{LinkError}
use Rattle.rules.specs.declared.link_rules.row_at.RowAt.{RowAt}
use Rattle.rules.specs.link_rules.CoreNames.{missing_names, core_with}
use Rattle.rules.specs.link_rules.Types.{or_else, at_row, encloser}
use Rattle.rules.specs.link_rules.Cycles.{listed, led_to, is_on_cycle, around}
use Rattle.rules.specs.link_rules.Faults.{first_of, own_name, is_taken, taken_from, duplicate_assembly, cyclic_types, is_cyclic_around, cyclic_nesting_row, cyclic_nesting, duplicate_member, link_fault}
use Rattle.rules.specs.link_rules.Linked.{assemblies, link_fault_of}
use Rattle.base_laws.proofs.lemmas.type_laws.Within.{in_any, in_listed, listed_in}
use Rattle.base_laws.proofs.lemmas.type_laws.Reaching.{Leads, Walks, led}
use Rattle.base_laws.proofs.lemmas.type_laws.Ways.{none_first, none_second, none_of}
use Rattle.base_laws.proofs.lemmas.type_laws.CoreRows.{place_front}
use Rattle.rules.specs.merge_rules.Numbers.{kept_types, new_row}
use Rattle.rules.specs.merge_rules.Refs.{Output}
use Rattle.rules.specs.merge_rules.Rows.{all_rows, place_token, token_32, output_rows, kept_row_token}
use Rattle.rules.specs.merge_rules.Restricted.{nested_in, new_nested, placed_methods, moved_methods, moved_assembly, restricted_by, output_of, restricted}
use Rattle.merge_laws.specs.merged_record.Laws.{InputsAreRecords, RowsFit}
use Rattle.merge_laws.proofs.lemmas.merged_record.Lists.{place_in, row_below, from_flat, from_map, from_listed, and_then_some, map_some, OfInput, from_all}
use Rattle.merge_laws.proofs.lemmas.merged_record.Sorting.{sorted_in}
use Rattle.merge_laws.proofs.lemmas.merged_record.Tokens.{position_is, one_row, index_row}
use Rattle.merge_laws.proofs.lemmas.merged_record.Sizes.{left, types}
use Rattle.merge_laws.proofs.lemmas.merged_links.Enclosers.{encloses, encloser_is, index_is, token_is, type_there, no_long_walk}
use Rattle.merge_laws.specs.merged_links.Laws.{NamesAndNestingStay}
use Rattle.rules.specs.link_rules.Cycles.{same_row}

-- ---- enclosers in the output

module _ (internal : Bool) (o : Output) (primary : AsmRec) (records : InputsAreRecords o.recs) (fit : RowsFit (left internal o primary)) where
  abbrev out : AsmRec
  out = left internal o primary

  few : length (kept_types o.recs o.kept) < 16777216
  few = let n = types internal o primary in let f = fit TYPE_DEF in omega arith

  -- the kept row that has a token of TypeDef
  placed_by : (a t token new : ℕ) → t ≡ TYPE_DEF → option_and_then (λ k. place_token t (output_rows o.recs o.kept t) (at_row a k)) (index_in t token) ≡ Some new
      → (place : ℕ) × (n : ℕ) × (row_of token ≡ suc place) × (new_row (kept_types o.recs o.kept) (at_row a place) ≡ Some n) × (token_32 TYPE_DEF n ≡ new)
  placed_by a t token new same e =
      let moved : option_and_then (λ k. place_token TYPE_DEF (kept_types o.recs o.kept) (at_row a k)) (index_in TYPE_DEF token) ≡ Some new =
      subst (λ (u : ℕ). option_and_then (λ k. place_token u (output_rows o.recs o.kept u) (at_row a k)) (index_in u token) ≡ Some new) same e in
      let k = and_then_some (λ k. place_token TYPE_DEF (kept_types o.recs o.kept) (at_row a k)) (index_in TYPE_DEF token) new moved in
      let m = map_some (token_32 TYPE_DEF) (new_row (kept_types o.recs o.kept) (at_row a k.0)) new k.2 in
      (k.0, m.0, (index_row TYPE_DEF token k.0 k.1).1, m.1, m.2)

  placed : (a token new : ℕ) → table_of token ≡ TYPE_DEF → kept_row_token o.recs o.kept a token ≡ Some new
      → (place : ℕ) × (n : ℕ) × (row_of token ≡ suc place) × (new_row (kept_types o.recs o.kept) (at_row a place) ≡ Some n) × (token_32 TYPE_DEF n ≡ new)
  unfolding kept_row_token
  placed a token new same e = placed_by a (table_of token) token new same e

  number_of : (n k : ℕ) → n < 16777215 → token_32 TYPE_DEF n ≡ token_of TYPE_DEF (suc k) → n ≡ k
  number_of n k lt e = omega arith

  number_at : (n new k : ℕ) → n < 16777215 → token_32 TYPE_DEF n ≡ new → row_of new ≡ suc k → n ≡ k
  number_at n new k lt e f = omega arith

  number_below : (at : RowAt) (n : ℕ) → new_row (kept_types o.recs o.kept) at ≡ Some n → n < 16777215
  number_below at n e = let p = position_is (same_row at) (kept_types o.recs o.kept) n e in let lt = p.within in let f = few in omega arith

  -- an encloser in the output is one in an input
  record Outside (k j : ℕ) : Type 0 where
    asm : ℕ
    rec : AsmRec
    input : OfInput o.recs asm rec
    nested : ℕ
    enclosing : ℕ
    from : new_row (kept_types o.recs o.kept) (at_row asm nested) ≡ Some k
    to : new_row (kept_types o.recs o.kept) (at_row asm enclosing) ≡ Some j
    within : nested < length rec.type_def
    is : encloser rec nested ≡ Some enclosing

  outside : (k j : ℕ) → encloser out k ≡ Some j → Outside k j
  outside k j h =
      let e = encloses out k j h in
      let r = from_all (λ rec. rec.nested_class) (new_nested o) o.recs e.row (sorted_in (λ (x : NestedClassRow). x.nested_class) (all_rows (λ rec. rec.nested_class) (new_nested o) o.recs) e.row (place_in out.nested_class e.place e.row e.there)) in
      let n = from_flat (λ nested. map (nested_in nested) (listed (kept_row_token o.recs o.kept r.asm r.row.enclosing_class))) (listed (kept_row_token o.recs o.kept r.asm r.row.nested_class)) e.row r.inside in
      let m = from_map (nested_in n.item) (listed (kept_row_token o.recs o.kept r.asm r.row.enclosing_class)) e.row n.inside in
      let is = records r.asm r.rec r.input.within r.input.there in
      let names = is.tokens.nested_classes r.place r.row r.there in
      let s = type_there r.rec r.row.nested_class names.0 in
      let t = type_there r.rec r.row.enclosing_class names.1 in
      let p = placed r.asm r.row.nested_class n.item s.0 (from_listed (kept_row_token o.recs o.kept r.asm r.row.nested_class) n.item n.there) in
      let q = placed r.asm r.row.enclosing_class m.0 t.0 (from_listed (kept_row_token o.recs o.kept r.asm r.row.enclosing_class) m.0 m.1) in
      let nest : n.item ≡ e.row.nested_class = ap (λ (x : NestedClassRow). x.nested_class) m.2 in
      let around_it : m.0 ≡ e.row.enclosing_class = ap (λ (x : NestedClassRow). x.enclosing_class) m.2 in
      let first : p.1 ≡ k = number_of p.1 k (number_below (at_row r.asm p.0) p.1 p.3) (p.4 ∙ nest ∙ e.nested) in
      let second : q.1 ≡ j = number_at q.1 m.0 j (number_below (at_row r.asm q.0) q.1 q.3) q.4 (ap row_of around_it ∙ (index_row TYPE_DEF e.row.enclosing_class j e.enclosing).1) in
      let row = p.2 in
      let le = s.2 in
      record {
        asm = r.asm;
        rec = r.rec;
        input = r.input;
        nested = p.0;
        enclosing = q.0;
        from = p.3 ∙ ap Some first;
        to = q.3 ∙ ap Some second;
        within = omega arith;
        is = encloser_is r.rec p.0 q.0 r.place r.row is.sorted.nested_classes r.there (token_is r.row.nested_class p.0 s.0 p.2) (index_is r.row.enclosing_class q.0 t.0 q.2);
      }

  -- a chain in the output is one in the input of its first type
  walk : (n k a p : ℕ) (rec : AsmRec) → slice_get o.recs a ≡ Some rec → new_row (kept_types o.recs o.kept) (at_row a p) ≡ Some k → Walks (around out) n k → Walks (around rec) n p
  walk zero k a p rec there from w = tt
  walk (suc n) k a p rec there from w =
      let s = outside k w.0 (in_listed w.0 (encloser out k) w.1) in
      let same = one_row (kept_types o.recs o.kept) (at_row s.asm s.nested) (at_row a p) k s.from from in
      let asm : s.asm ≡ a = ap (λ (x : RowAt). x.asm) same in
      let row : s.nested ≡ p = ap (λ (x : RowAt). x.row) same in
      let here : slice_get o.recs a ≡ Some s.rec = subst (λ (i : ℕ). slice_get o.recs i ≡ Some s.rec) asm s.input.there in
      let it : s.rec ≡ rec = cc in
      let next : encloser rec p ≡ Some s.enclosing = (λ i. encloser (sym it i) (sym row i)) ∙ s.is in
      let to : new_row (kept_types o.recs o.kept) (at_row a s.enclosing) ≡ Some w.0 = subst (λ (i : ℕ). new_row (kept_types o.recs o.kept) (at_row i s.enclosing) ≡ Some w.0) asm s.to in
      (s.enclosing, listed_in s.enclosing (encloser rec p) next, walk n w.0 a s.enclosing rec there to w.2)

  -- what leads to itself leads on without end
  turn : (n m k j : ℕ) → Leads (around out) (suc n) j j → Leads (around out) m k j → (i : ℕ) → Walks (around out) i k
  turn n m k j round l zero = tt
  turn n zero k j round l (suc i) = let r : Leads (around out) (suc n) k j = subst (λ (x : ℕ). Leads (around out) (suc n) x j) (sym l) round in (r.0, r.1, turn n n r.0 j round r.2 i)
  turn n (suc m) k j round l (suc i) = (l.0, l.1, turn n m l.0 j round l.2 i)

  module _ (none : (a : ℕ) (rec : AsmRec) → OfInput o.recs a rec → (place : ℕ) (row : NestedClassRow) → slice_get rec.nested_class place ≡ Some row → is_cyclic_around rec (index_in TYPE_DEF row.nested_class) ≡ false) where
    no_round : (n k : ℕ) → Leads (around out) (suc n) k k → ⊥
    no_round n k l =
        let s = outside k l.0 (in_listed l.0 (encloser out k) l.1) in
        let is = records s.asm s.rec s.input.within s.input.there in
        no_long_walk s.rec is (none s.asm s.rec s.input) s.nested s.within (walk (length s.rec.type_def) k s.asm s.nested s.rec s.input.there s.from (turn n 0 k k l refl (length s.rec.type_def)))

    cycle_by : (n k : ℕ) (b : Bool) → is_on_cycle nat_eq (around out) n k ≡ b → b ≡ false
    unfolding is_on_cycle
    cycle_by n k true e =
        let h = in_any nat_eq Decides-eqb k (led_to nat_eq (around out) n (around out k)) e in
        let r = led nat_eq Decides-eqb (around out) n (around out k) k h in
        absurd (no_round r.steps k (r.from, r.is, r.leads))
    cycle_by n k false e = refl

    no_cycle : (k : Option ℕ) → is_cyclic_around out k ≡ false
    no_cycle None = refl
    no_cycle (Some k) = cycle_by (length out.type_def) k (is_on_cycle nat_eq (around out) (length out.type_def) k) refl

    row_none : (i r : ℕ) (row : NestedClassRow) → cyclic_nesting_row out i r row ≡ None
    row_none i r row = rw (no_cycle (index_in TYPE_DEF row.nested_class)) refl

    rows_none : (i r : ℕ) (rows : List NestedClassRow) → first_of (cyclic_nesting_row out i) r rows ≡ None
    rows_none i r [] = refl
    rows_none i r (row ∷ rows) = rw (row_none i r row) (rows_none i (suc r) rows)

    nesting : cyclic_nesting (out ∷ []) ≡ None
    unfolding cyclic_nesting
    nesting = rw (rows_none 0 0 out.nested_class) refl

-- ---- the inputs

not_some : (b : Bool) (x : LinkError) → (if b then Some x else None) ≡ None → b ≡ false
not_some true x e = cc
not_some false x e = refl

module _ (inputs : List AsmRec) (sound : link_fault_of inputs ≡ None) (are : (a : ℕ) (rec : AsmRec) → slice_get inputs a ≡ Some rec → IsRecord rec) where
  abbrev all : List AsmRec
  all = assemblies inputs

  abbrev names : List CoreTypeName
  names = missing_names (inputs ++ core_record ∷ [])

  names_free : duplicate_assembly inputs ≡ None
  unfolding link_fault
  names_free = none_first (duplicate_assembly inputs) (or_else (cyclic_types all inputs) (or_else (cyclic_nesting inputs) (duplicate_member all inputs))) sound

  no_nesting_fault : cyclic_nesting inputs ≡ None
  unfolding link_fault
  no_nesting_fault =
      none_first (cyclic_nesting inputs) (duplicate_member all inputs)
      (none_second (cyclic_types all inputs) (or_else (cyclic_nesting inputs) (duplicate_member all inputs))
      (none_second (duplicate_assembly inputs) (or_else (cyclic_types all inputs) (or_else (cyclic_nesting inputs) (duplicate_member all inputs))) sound))

  long : length all ≡ suc (length inputs)
  unfolding assemblies
  long = length-append inputs (core_with core_record names ∷ []) ∙ omega arith

  front : (a : ℕ) (rec : AsmRec) → slice_get inputs a ≡ Some rec → slice_get all a ≡ Some rec
  unfolding assemblies
  front a rec e = place_front inputs (core_with core_record names ∷ []) a rec e

  an_input : (a : ℕ) (rec : AsmRec) → suc a < length all → slice_get all a ≡ Some rec → slice_get inputs a ≡ Some rec
  an_input a rec lt e =
      let n = long in
      let r = row_below inputs a (omega arith) in
      let f = front a r.0 r.1 in
      let same : r.0 ≡ rec = cc in
      r.1 ∙ ap Some same

  records : InputsAreRecords all
  records a rec lt e = are a rec (an_input a rec lt e)

  none_cyclic : (a : ℕ) (rec : AsmRec) → OfInput all a rec → (place : ℕ) (row : NestedClassRow) → slice_get rec.nested_class place ≡ Some row → is_cyclic_around rec (index_in TYPE_DEF row.nested_class) ≡ false
  unfolding cyclic_nesting
  none_cyclic a rec i place row there =
      not_some (is_cyclic_around rec (index_in TYPE_DEF row.nested_class)) _
      (none_of (cyclic_nesting_row rec a) rec.nested_class place row (none_of (λ i (r : AsmRec). first_of (cyclic_nesting_row r i) 0 r.nested_class) inputs a rec no_nesting_fault (an_input a rec i.within i.there)) there)

  -- the name of the first input
  free_by : (xs : List AsmRec) (primary : AsmRec) → slice_get xs 0 ≡ Some primary → taken_from [] 0 xs ≡ None → is_core_name (own_name primary) ≡ false
  free_by [] primary e h = absurd (cc)
  free_by (rec ∷ xs) primary e h =
      let same : rec ≡ primary = cc in
      let free : is_taken [] (own_name rec) ≡ false = taken_by (is_taken [] (own_name rec)) (taken_from (own_name rec ∷ []) 1 xs) _ h in
      ap (λ (r : AsmRec). is_core_name (own_name r)) (sym same) ∙ (or_parts (is_core_name (own_name rec)) false free).0
    where
      taken_by : (b : Bool) (rest : Option LinkError) (x : LinkError) → (if b then Some x else rest) ≡ None → b ≡ false
      taken_by true rest x e = absurd (cc)
      taken_by false rest x e = refl

  name_free : (primary : AsmRec) → slice_get inputs 0 ≡ Some primary → is_core_name (own_name primary) ≡ false
  unfolding duplicate_assembly
  name_free primary e = free_by inputs primary e names_free

-- the name stays
same_name_by : (rows : List AssemblyRow) (rec other : AsmRec) → rec.assembly ≡ rows → other.assembly ≡ map moved_assembly rows → own_name other ≡ own_name rec
same_name_by [] rec other e f = rw (e, f) refl
same_name_by (row ∷ rows) rec other e f = rw (e, f) refl

free_alone : (rec : AsmRec) → is_core_name (own_name rec) ≡ false → duplicate_assembly (rec ∷ []) ≡ None
unfolding duplicate_assembly
free_alone rec e = rw e refl

pub stay : NamesAndNestingStay
unfolding restricted output_of
stay internal inputs kept rec e some sound are fit =
    let recs : List AsmRec = assemblies inputs in
    let o : Output = output_of recs kept in
    let m = map_some (restricted_by internal o (placed_methods (moved_methods o))) (slice_get recs 0) rec e in
    let first : slice_get inputs 0 ≡ Some m.0 = an_input inputs sound are 0 m.0 (let n = long inputs sound are in omega arith) m.1 in
    let free = name_free inputs sound are m.0 first in
    subst (λ (r : AsmRec). (duplicate_assembly (r ∷ []) ≡ None) × (cyclic_nesting (r ∷ []) ≡ None)) m.2 (
      free_alone (left internal o m.0) (ap is_core_name (same_name_by m.0.assembly m.0 (left internal o m.0) refl refl) ∙ free),
      nesting internal o m.0 (records inputs sound are) (subst RowsFit (sym m.2) fit) (none_cyclic inputs sound are),
    )
