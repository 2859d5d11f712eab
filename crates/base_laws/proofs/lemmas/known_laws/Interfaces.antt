-- An interface slot is answered only by way of an interface row of the type or of one of its bases, and only for a method of an
-- interface that the row names or implies.
use Rattle.std.proofs.Common.{◌≡◌, ℕ, zero, suc, ◌+◌, ◌-◌, ◌<◌, ◌≤◌, List, [], ◌∷◌, ◌++◌, map, length, take, drop, Bool, true, false, nat_eq, nat_le, nat_lt, inl, inr, Some, None, refl, sym, ap, subst, ◌∙◌, arith}
use Rattle.std.specs.Prelude.{slice_get, ◌==◌, ◌&&◌, ◌/◌, ◌%◌, if◌then◌else◌}
use Rattle.std.specs.List.{Contains, flat_map, list_any, position_from, range_with_len}
use Rattle.std.specs.Option.{option_and_then, option_map}
use Rattle.std.proofs.lemmas.Bool.{and_parts, eqb-true, eq-eqb, ltb-true, leb-true}
use Rattle.std.proofs.lemmas.List.Elements.{Contains-append_cases}
use Rattle.il_base.specs.declared.ids.Item.{Item}
use Rattle.il_base.specs.declared.table.TheConstants.{TYPE_DEF}
use Rattle.il_base.specs.declared.world_model.expr.TypeExpr.{TypeExpr}
use Rattle.il_base.specs.declared.world_model.types.TypeDefRow.{TypeDefRow}
use Rattle.il_base.specs.declared.world_model.types.InterfaceImplRow.{InterfaceImplRow}
use Rattle.il_base.specs.declared.world_model.members.MethodDefRow.{MethodDefRow}
use Rattle.il_base.specs.declared.world_model.record.AsmRec.{AsmRec}
use Rattle.il_base.specs.world_model.Tokens.{token_of, table_of, row_index, index_in, index_from}
use Rattle.rules.specs.declared.link_rules.row_at.RowAt.{RowAt}
use Rattle.rules.specs.link_rules.Types.{at_row}
use Rattle.rules.specs.link_rules.Members.{with_bases, owns_method, run_of}
use Rattle.rules.specs.link_rules.Cycles.{listed, same_row, home_of, only_interface}
use Rattle.rules.specs.type_rules.Slots.{open_type, slot_of, method_row_at, type_of_method}
use Rattle.rules.specs.type_rules.Dispatch.{implied, in_interface, class_dispatch}
use Rattle.rules.specs.type_rules.Rows.{methods_of_type, run_places, rec_at, each_row}
use Rattle.rules.specs.mark_rules.Facts.{Fact}
use Rattle.rules.specs.mark_rules.Places.{marks_method, method_item, impl_item}
use Rattle.rules.specs.mark_rules.Types.{impl_row_at, impl_type}
use Rattle.rules.specs.mark_rules.Calls.{is_own_slot, first_found, found_for, found_first, searched, is_base_of, row_class, interface_answer, interface_runs, interface_fills, answers_abstract}
use Rattle.base_laws.specs.known_laws.Known.{is_known_at, lineage, own_rows, row_of_class, row_methods, methods_implied, row_gives, with_rows}
use Rattle.base_laws.proofs.lemmas.known_laws.Lists.{first_in, later_in, from_flat, to_flat, from_option, to_option, from_listed, from_if, to_if, from_any, from_map, to_map, to_each, and_then_some, map_some}
use Rattle.base_laws.proofs.lemmas.known_laws.Rows.{same_is}
use Rattle.base_laws.proofs.lemmas.known_laws.Slots.{in_lineage, slot_from, slot_to}

-- ---- the methods of a run

range_by : (start n k : ℕ) → start ≤ k → ((start ≡ k → ⊥) → Contains (range_with_len (start + 1) n) k) → (b : Bool) → nat_eq start k ≡ b → Contains (start ∷ range_with_len (start + 1) n) k
range_by start n k le next true e = subst (λ (m : ℕ). Contains (start ∷ range_with_len (start + 1) n) m) (eqb-true start k e) (first_in start (range_with_len (start + 1) n))
range_by start n k le next false e =
    later_in start (range_with_len (start + 1) n) k (next (λ s. let t : nat_eq start k ≡ true = eq-eqb start k s in cc))

range_has : (n start k : ℕ) → start ≤ k → k < start + n → Contains (range_with_len start n) k
range_has zero start k le lt = absurd (omega arith)
range_has (suc n) start k le lt = range_by start n k le (λ ne. range_has n (start + 1) k (omega arith) (omega arith)) (nat_eq start k) refl

take_length : {A : Type 0} (n : ℕ) (xs : List A) (k : ℕ) → k < n → k < length xs → k < length (take n xs)
take_length zero xs k a b = absurd (omega arith)
take_length (suc n) [] k a b = b
take_length (suc n) (x ∷ xs) zero a b = omega arith
take_length (suc n) (x ∷ xs) (suc k) a b = let h : k < length (take n xs) = take_length n xs k (omega arith) (omega arith) in omega (arith, h)

drop_length : {A : Type 0} (n : ℕ) (xs : List A) (k : ℕ) → n + k < length xs → k < length (drop n xs)
drop_length zero xs k a = omega arith
drop_length (suc n) [] k a = absurd (omega arith)
drop_length (suc n) (x ∷ xs) k a = drop_length n xs k (omega arith)

run_has : {A : Type 0} (first end k : ℕ) (rows : List A) → first ≤ suc k → suc k < end → k < length rows → Contains (run_places first end rows) k
run_has first end k rows lo hi lt =
    let d : k - (first - 1) < length (drop (first - 1) rows) = drop_length (first - 1) rows (k - (first - 1)) (omega arith) in
    let t : k - (first - 1) < length (take (end - first) (drop (first - 1) rows)) = take_length (end - first) (drop (first - 1) rows) (k - (first - 1)) (omega arith) d in
    range_has (length (run_of first end rows)) (first - 1) k (omega arith) (omega (arith, t))

record Position {A : Type 0} (p : A → Bool) (i : ℕ) (xs : List A) (k : ℕ) : Type 0 where
  place : ℕ
  item : A
  number : k ≡ i + place
  there : slice_get xs place ≡ Some item
  passes : p item ≡ true

position_by : {A : Type 0} (p : A → Bool) (i : ℕ) (x : A) (xs : List A) (k : ℕ) → (position_from p (i + 1) xs ≡ Some k → Position p (i + 1) xs k) → (b : Bool) → p x ≡ b
    → (if b then Some i else position_from p (i + 1) xs) ≡ Some k → Position p i (x ∷ xs) k
position_by p i x xs k next true s f = let same : i ≡ k = cc in record { place = 0; item = x; number = omega (arith, same); there = refl; passes = s }
position_by p i x xs k next false s f = let r = next f in let e = r.number in record { place = suc r.place; item = r.item; number = omega (arith, e); there = r.there; passes = r.passes }

position_found : {A : Type 0} (p : A → Bool) (i : ℕ) (xs : List A) (k : ℕ) → position_from p i xs ≡ Some k → Position p i xs k
position_found p i [] k e = absurd (cc)
position_found p i (x ∷ xs) k e = position_by p i x xs k (position_found p (i + 1) xs k) (p x) refl e

below_end : {A : Type 0} (xs : List A) (k : ℕ) (x : A) → slice_get xs k ≡ Some x → k < length xs
below_end [] k x e = absurd (cc)
below_end (y ∷ xs) zero x e = omega arith
below_end (y ∷ xs) (suc k) x e = let lt : k < length xs = below_end xs k x e in omega (arith, lt)

-- ---- tokens

index_is : (table token k : ℕ) → index_in table token ≡ Some k → token ≡ token_of table (suc k)
index_is table token k e = by (table_of token == table) refl e
  where
    row_is : (n : ℕ) → index_from n ≡ Some k → n ≡ suc k
    row_is zero f = absurd (cc)
    row_is (suc m) f = let same : m ≡ k = cc in ap suc same

    by : (b : Bool) → (table_of token == table) ≡ b → (if b then row_index token else None) ≡ Some k → token ≡ token_of table (suc k)
    by true s f =
        let t : table_of token ≡ table = eqb-true (table_of token) table s in
        let r : token % 16777216 ≡ suc k = row_is (token % 16777216) f in
        let d : token / 16777216 ≡ table = t in
        omega (arith, r, d)
    by false s f = absurd (cc)

module _ (recs : List AsmRec) where
  -- a method is in the run of its type
  pub method_in_run : (b owner : RowAt) (m : MethodDefRow) → type_of_method recs b ≡ Some owner → method_row_at recs b ≡ Some m → Contains (methods_of_type recs owner) b
  unfolding methods_of_type
  method_in_run b owner m of row =
      let outer = and_then_some (λ (rec : AsmRec). option_map (at_row b.asm) (position_from (owns_method (suc b.row)) 0 rec.type_def)) (slice_get recs b.asm) owner of in
      let rec : AsmRec = outer.0 in
      let k = map_some (at_row b.asm) (position_from (owns_method (suc b.row)) 0 rec.type_def) owner outer.2 in
      let found = position_found (owns_method (suc b.row)) 0 rec.type_def k.0 k.1 in
      let t : TypeDefRow = found.item in
      let n : found.place ≡ k.0 = let e = found.number in omega (arith, e) in
      let inner = and_then_some (λ (rec : AsmRec). slice_get rec.method_def b.row) (slice_get recs b.asm) m row in
      let same : Some inner.0 ≡ Some rec = sym inner.1 ∙ outer.1 in
      let one : inner.0 ≡ rec = cc in
      let there : slice_get rec.method_def b.row ≡ Some m = subst (λ (r : AsmRec). slice_get r.method_def b.row ≡ Some m) one inner.2 in
      let owns = and_parts (nat_le t.method_list_first (suc b.row)) (nat_lt (suc b.row) t.method_list_end) found.passes in
      let run : Contains (run_places t.method_list_first t.method_list_end rec.method_def) b.row =
      run_has t.method_list_first t.method_list_end b.row rec.method_def (leb-true t.method_list_first (suc b.row) owns.0) (ltb-true (suc b.row) t.method_list_end owns.1) (below_end rec.method_def b.row m there) in
      let at : at_row b.asm k.0 ≡ owner = k.2 in
      subst (λ (o : RowAt). Contains (methods_of_type recs o) b) at
      (to_option (λ (rec : AsmRec). flat_map (λ (t : TypeDefRow). map (at_row b.asm) (run_places t.method_list_first t.method_list_end rec.method_def)) (listed (slice_get rec.type_def k.0))) (slice_get recs b.asm) rec b outer.1
      (to_option (λ (t : TypeDefRow). map (at_row b.asm) (run_places t.method_list_first t.method_list_end rec.method_def)) (slice_get rec.type_def k.0) t b (ap (slice_get rec.type_def) (sym n) ∙ found.there)
      (to_map (at_row b.asm) (run_places t.method_list_first t.method_list_end rec.method_def) b.row run)))

  -- an interface row is among those of its class
  row_in_class : (r c : RowAt) → row_class recs r ≡ Some c → Contains (own_rows recs c) r
  unfolding own_rows
  row_in_class r c e =
      let outer = and_then_some (λ (row : InterfaceImplRow). option_map (at_row r.asm) (index_in TYPE_DEF row.class)) (impl_row_at recs r) c e in
      let row : InterfaceImplRow = outer.0 in
      let k = map_some (at_row r.asm) (index_in TYPE_DEF row.class) c outer.2 in
      let inner = and_then_some (λ (rec : AsmRec). slice_get rec.interface_impl r.row) (rec_at recs r) row outer.1 in
      let rec : AsmRec = inner.0 in
      let token : row.class ≡ token_of TYPE_DEF (suc k.0) = index_is TYPE_DEF row.class k.0 k.1 in
      let at : at_row r.asm k.0 ≡ c = k.2 in
      let z : r.row ≡ 0 + r.row = omega arith in
      subst (λ (c : RowAt). Contains (flat_map (λ (rec : AsmRec). each_row (row_of_class c) rec.interface_impl) (listed (rec_at recs c))) r) at
      (to_option (λ (rec : AsmRec). each_row (row_of_class (at_row r.asm k.0)) rec.interface_impl) (slice_get recs r.asm) rec r inner.1
      (to_each (row_of_class (at_row r.asm k.0)) 0 rec.interface_impl r (record {
        place = r.row;
        item = row;
        there = inner.2;
        inside = to_if (row.class == token_of TYPE_DEF (suc k.0)) (at_row r.asm (0 + r.row) ∷ []) r (eq-eqb row.class (token_of TYPE_DEF (suc k.0)) token)
            (subst (λ (n : ℕ). Contains (at_row r.asm n ∷ []) r) z (first_in r []));
      })))

  -- ---- what the search finds

  pub record TriedBy (t b r : RowAt) : Type 0 where
    pub of : RowAt
    pub above : Contains (lineage recs t) of
    pub own : Contains (own_rows recs of) r
    pub method : Contains (row_methods recs r) b

  pub base_in : (t c : RowAt) → is_base_of recs c t ≡ true → Contains (lineage recs t) c
  base_in t c e =
      let r = from_any (λ e. list_any (same_row c) (listed (home_of recs e))) (with_bases recs (open_type recs t)) e in
      let s = from_any (same_row c) (listed (home_of recs r.0)) r.2 in
      let same : c ≡ s.0 = same_is c s.0 s.2 in
      let home : home_of recs r.0 ≡ Some s.0 = from_listed (home_of recs r.0) s.0 s.1 in
      in_lineage recs t c r.0 r.1 (home ∙ ap Some (sym same))

  method_in_row : (b m : RowAt) (c e : TypeExpr) → Contains (found_for recs b c e) m → Contains (methods_implied recs e) b
  method_in_row b m c e h =
      let o = from_option (λ (owner : RowAt). flat_map (λ (row : MethodDefRow). flat_map (found_first recs b c owner row) (implied recs e)) (listed (method_row_at recs b))) (type_of_method recs b) m h in
      let row = from_option (λ (row : MethodDefRow). flat_map (found_first recs b c o.0 row) (implied recs e)) (method_row_at recs b) m o.2 in
      let i = from_flat (found_first recs b c o.0 row.0) (implied recs e) m row.2 in
      let tested = from_if (list_any (same_row o.0) (listed (home_of recs i.item))) _ m i.inside in
      let s = from_any (same_row o.0) (listed (home_of recs i.item)) tested.0 in
      let same : o.0 ≡ s.0 = same_is o.0 s.0 s.2 in
      let home : home_of recs i.item ≡ Some o.0 = from_listed (home_of recs i.item) s.0 s.1 ∙ ap Some (sym same) in
      to_flat (λ i. flat_map (methods_of_type recs) (listed (home_of recs i))) (implied recs e) b
      (record { item = i.item; there = i.there; inside = to_option (methods_of_type recs) (home_of recs i.item) o.0 b home (method_in_run b o.0 row.0 o.1 row.1) })

  found_tried : (t b r m : RowAt) → Contains (first_found recs t b r) m → TriedBy t b r
  unfolding first_found row_methods
  found_tried t b r m h =
      let tested = from_if (is_own_slot recs b && in_interface recs b) (flat_map (searched recs t b r) (listed (row_class recs r))) m h in
      let c = from_option (searched recs t b r) (row_class recs r) m tested.1 in
      let above = from_if (is_base_of recs c.0 t) (flat_map (found_for recs b (open_type recs c.0)) (only_interface recs (impl_type recs r))) m c.2 in
      let e = from_flat (found_for recs b (open_type recs c.0)) (only_interface recs (impl_type recs r)) m above.1 in
      record {
        of = c.0;
        above = base_in t c.0 above.0;
        own = row_in_class r c.0 c.1;
        method = to_flat (methods_implied recs) (only_interface recs (impl_type recs r)) b (record { item = e.item; there = e.there; inside = method_in_row b m (open_type recs c.0) e.item e.inside });
      }

  answer_tried : (t b r m : RowAt) → Contains (interface_answer recs t b r) m → TriedBy t b r
  answer_tried t b r m h =
      let s = from_flat (λ m. listed (option_and_then (class_dispatch recs (open_type recs t)) (slot_of recs m))) (first_found recs t b r) m h in
      found_tried t b r s.item s.there

  pub runs_by : (t b r : RowAt) (f : Fact) → Contains (interface_runs recs t b r) f → TriedBy t b r
  unfolding interface_runs
  runs_by t b r f h =
      let s = from_map (marks_method recs) (first_found recs t b r ++ interface_answer recs t b r) f h in
      elim (Contains-append_cases (first_found recs t b r) (interface_answer recs t b r) s.0 s.1) [
        | inl x ↦ found_tried t b r s.0 x
        | inr x ↦ answer_tried t b r s.0 x
      ]

  pub fills_by : (t b r : RowAt) (f : Fact) → Contains (interface_fills recs t b r) f → TriedBy t b r
  unfolding interface_fills
  fills_by t b r f h =
      let s = from_if (answers_abstract recs t b) (map (marks_method recs) (interface_answer recs t b r)) f h in
      let m = from_map (marks_method recs) (interface_answer recs t b r) f s.1 in
      answer_tried t b r m.0 m.1

  -- ---- all rows that are tried

  module _ (known : Item → Bool) (gives : RowAt → RowAt → RowAt → List Fact) (t : RowAt) (f : Fact) where
    pub record Gives : Type 0 where
      pub slot : RowAt
      pub row : RowAt
      pub slot_known : is_known_at recs known (method_item recs slot) slot ≡ true
      pub row_known : is_known_at recs known (impl_item recs row) row ≡ true
      pub given : Contains (gives t slot row) f

    pub rows_from : Contains (with_rows recs known gives t) f → Gives
    rows_from h =
        let c = from_flat (λ c. flat_map (row_gives recs known (gives t)) (own_rows recs c)) (lineage recs t) f h in
        let r = from_flat (row_gives recs known (gives t)) (own_rows recs c.item) f c.inside in
        let s = from_if (is_known_at recs known (impl_item recs r.item) r.item) _ f r.inside in
        let b = slot_from recs known (λ b. gives t b r.item) (row_methods recs r.item) f s.1 in
        record { slot = b.0; row = r.item; slot_known = b.1; row_known = s.0; given = b.2 }

    pub rows_to : (b r : RowAt) → TriedBy t b r → is_known_at recs known (method_item recs b) b ≡ true → is_known_at recs known (impl_item recs r) r ≡ true → Contains (gives t b r) f
        → Contains (with_rows recs known gives t) f
    rows_to b r tried kb kr h =
        to_flat (λ c. flat_map (row_gives recs known (gives t)) (own_rows recs c)) (lineage recs t) f (record {
          item = tried.of;
          there = tried.above;
          inside = to_flat (row_gives recs known (gives t)) (own_rows recs tried.of) f (record {
            item = r;
            there = tried.own;
            inside = to_if (is_known_at recs known (impl_item recs r) r) _ f kr (slot_to recs known (λ b. gives t b r) (row_methods recs r) b f tried.method kb h);
          });
        })
