-- What rows of marked types, methods and fields name is kept.
use Rattle.std.proofs.Common.{◌≡◌, ℕ, zero, suc, ◌+◌, Bool, true, false, List, [], ◌∷◌, ◌++◌, map, Option, Some, None, ◌⊎◌, inl, inr, refl, sym, ap, subst, arith}
use Rattle.std.specs.Prelude.{IsTrue, slice_get, ◌==◌, ◌&&◌, ◌||◌, not, Contains, if◌then◌else◌}
use Rattle.std.specs.List.{flat_map}
use Rattle.std.specs.Option.{option_and_then}
use Rattle.il_base.specs.declared.table.TheConstants.{TYPE_DEF}
use Rattle.il_base.specs.declared.world_model.known.Known.{Known}
use Rattle.il_base.specs.declared.world_model.known.Known.TheVariants.{Good, Bad}
use Rattle.il_base.specs.declared.world_model.expr.TypeExpr.{TypeExpr}
use Rattle.il_base.specs.declared.world_model.types.TypeDefRow.{TypeDefRow}
use Rattle.il_base.specs.declared.world_model.types.InterfaceImplRow.{InterfaceImplRow}
use Rattle.il_base.specs.declared.world_model.members.MethodDefRow.{MethodDefRow}
use Rattle.il_base.specs.declared.world_model.record.AsmRec.{AsmRec}
use Rattle.il_base.specs.world_model.Tokens.{token_of}
use Rattle.il_base.specs.world_model.Worlds.{type_id}
use Rattle.rules.specs.declared.link_rules.row_at.RowAt.{RowAt}
use Rattle.rules.specs.link_rules.Types.{at_row}
use Rattle.rules.specs.link_rules.Signatures.{token_type}
use Rattle.rules.specs.link_rules.Members.{is_named, only_named, good_type, is_interface_row, base_in, base_at}
use Rattle.rules.specs.link_rules.Cycles.{listed, is_row_of, is_interface, only_interface, interface_of}
use Rattle.rules.specs.type_rules.Slots.{is_virtual, is_new_slot, method_row_at, type_of_method, inherited}
use Rattle.rules.specs.type_rules.Rows.{rec_at, each_from}
use Rattle.base_laws.proofs.lemmas.type_laws.Within.{In, in_front, in_behind, in_parts, in_listed, listed_in, in_flat, flat_in}
use Rattle.descriptor_file.specs.declared.root.Root.{Root}
use Rattle.rules.specs.mark_rules.Facts.{Fact}
use Rattle.rules.specs.mark_rules.Places.{type_item, method_item, impl_item, marks_method, row_of}
use Rattle.rules.specs.mark_rules.Naming.{Part, of_parts, type_token_part}
use Rattle.rules.specs.mark_rules.Types.{encloser_of, extends_of, constraints_of, parts_of_type, type_needs, layout_needs, parts_of_impl, impl_needs}
use Rattle.rules.specs.mark_rules.Calls.{method_needs, makes, overridden, overrides_of, method_starts}
use Rattle.rules.specs.mark_rules.Properties.{accessed}
use Rattle.rules.specs.mark_rules.Marking.{row_needs}
use Rattle.rules.specs.change_rules.Change.{Keep}
use Rattle.rules.specs.change_rules.Keeps.{keeps_expr}
use Rattle.rules.specs.world_change_rules.Places.{keeps_type_row, keeps_method_row}
use Rattle.rules.specs.world_change_rules.Rows.{kept_interface_of, kept_interfaces_in, kept_interfaces_at}
use Rattle.run_laws.specs.marked_laws.Flags.{is_added, OfClass, HasMarks, keep_of, kept_of}
use Rattle.run_laws.proofs.lemmas.marked_laws.Closing.{mapped_in, row_gives}
use Rattle.run_laws.proofs.lemmas.marked_laws.Flags.{typ_has, typ_is, method_has, method_is}
use Rattle.run_laws.proofs.lemmas.marked_laws.Places.{type_row_of, method_row_of, impl_row_of}
use Rattle.run_laws.proofs.lemmas.marked_laws.Parts.{token_named, HasParts, part_kept}

pub contained : (xs : List TypeExpr) (e : TypeExpr) → Contains xs e → In e xs
contained [] e c = absurd (let lt = c.1 in omega arith)
contained (x ∷ xs) e (zero, lt, is) = inl (sym is)
contained (x ∷ xs) e (suc n, lt, is) = inr (contained xs e (n, omega arith, is))

good_is : (k : Known TypeExpr) (e : TypeExpr) → good_type k ≡ Some e → k ≡ Good e
good_is (Good x) e h = let same : x ≡ e = cc in ap Good same
good_is (Bad why) e h = cc

only_is : (o : Option TypeExpr) (e : TypeExpr) → only_named o ≡ Some e → o ≡ Some e
only_is None e h = h
only_is (Some x) e h = named_by x e (is_named x) h
  where
    named_by : (x e : TypeExpr) (b : Bool) → (if b then Some x else None) ≡ Some e → Some x ≡ Some e
    named_by x e true h = h
    named_by x e false h = cc

module _ (recs : List AsmRec) (entry : Option RowAt) (roots : List Root) (has : Fact → Bool) (m : HasMarks recs entry roots has) where
  abbrev k : Keep
  k = keep_of recs has

  -- ---- types

  type_parts_needed : (at : RowAt) (f : Fact) → In f (of_parts (parts_of_type recs at)) → In f (row_needs recs (type_item recs at) at)
  unfolding type_needs
  type_parts_needed at f h =
      in_front f (type_needs recs at) (layout_needs recs at) (in_behind f (flat_map (encloser_of recs at) (listed (rec_at recs at))) (of_parts (parts_of_type recs at)) h)

  pub of_type : (at : RowAt) (rec : AsmRec) (t : TypeDefRow) → IsTrue (keeps_type_row k recs at) → slice_get recs at.asm ≡ Some rec → slice_get rec.type_def at.row ≡ Some t → HasParts recs entry roots has m (type_item recs at) at
  of_type at rec t h s e = record {
    marks = typ_has recs has (type_id recs at.asm at.row) h;
    is = type_row_of recs at rec s t e;
    classed = tt;
    needs = type_parts_needed at;
  }

  -- ---- a base

  base_part : (at : RowAt) (rec : AsmRec) (t : TypeDefRow) → slice_get recs at.asm ≡ Some rec → slice_get rec.type_def at.row ≡ Some t → (t.extends == 0) ≡ false
      → In (type_token_part recs at.asm rec (token_of TYPE_DEF (suc at.row)) 0 t.extends) (parts_of_type recs at)
  unfolding parts_of_type
  base_part at rec t s e z =
      let p : Part = type_token_part recs at.asm rec (token_of TYPE_DEF (suc at.row)) 0 t.extends in
      flat_in (λ (rec : AsmRec). extends_of recs at rec ++ constraints_of recs at.asm rec (token_of TYPE_DEF (suc at.row))) p rec (listed (rec_at recs at)) (listed_in rec (rec_at recs at) s)
      (in_front p (extends_of recs at rec) (constraints_of recs at.asm rec (token_of TYPE_DEF (suc at.row)))
      (flat_in (λ (t : TypeDefRow). if t.extends == 0 then [] else type_token_part recs at.asm rec (token_of TYPE_DEF (suc at.row)) 0 t.extends ∷ []) p t (listed (slice_get rec.type_def at.row)) (listed_in t (slice_get rec.type_def at.row) e)
      (subst (λ (b : Bool). In p (if b then [] else p ∷ [])) (sym z) (inl refl))))

  base_row : (at : RowAt) (rec : AsmRec) (t : TypeDefRow) (e : TypeExpr) (z i : Bool) → IsTrue (keeps_type_row k recs at) → slice_get recs at.asm ≡ Some rec → slice_get rec.type_def at.row ≡ Some t → (t.extends == 0) ≡ z
      → (if z || i then None else only_named (good_type (token_type recs at.asm rec t.extends))) ≡ Some e → IsTrue (keeps_expr k e)
  base_row at rec t e true i h s r z is = absurd (cc)
  base_row at rec t e false true h s r z is = absurd (cc)
  base_row at rec t e false false h s r z is =
      let p : Part = type_token_part recs at.asm rec (token_of TYPE_DEF (suc at.row)) 0 t.extends in
      let within : In p (parts_of_type recs at) = base_part at rec t s r z in
      part_kept recs entry roots has m (type_item recs at) at (of_type at rec t h s r) p e within within
      (token_named recs at.asm rec (token_of TYPE_DEF (suc at.row)) 0 t.extends e (good_is (token_type recs at.asm rec t.extends) e (only_is (good_type (token_type recs at.asm rec t.extends)) e is)))

  base_in_row : (at : RowAt) (rec : AsmRec) (e : TypeExpr) (o : Option TypeDefRow) → IsTrue (keeps_type_row k recs at) → slice_get recs at.asm ≡ Some rec → slice_get rec.type_def at.row ≡ o → option_and_then (base_in recs at.asm rec) o ≡ Some e → IsTrue (keeps_expr k e)
  base_in_row at rec e None h s r is = absurd (cc)
  base_in_row at rec e (Some t) h s r is = base_row at rec t e (t.extends == 0) (is_interface_row t) h s r refl is

  base_by : (at : RowAt) (e : TypeExpr) (o : Option AsmRec) → IsTrue (keeps_type_row k recs at) → slice_get recs at.asm ≡ o → option_and_then (λ (rec : AsmRec). option_and_then (base_in recs at.asm rec) (slice_get rec.type_def at.row)) o ≡ Some e → IsTrue (keeps_expr k e)
  base_by at e None h s is = absurd (cc)
  base_by at e (Some rec) h s is = base_in_row at rec e (slice_get rec.type_def at.row) h s refl is

  pub bases_kept : (at : RowAt) (e : TypeExpr) → IsTrue (keeps_type_row k recs at) → base_at recs at ≡ Some e → IsTrue (keeps_expr k e)
  bases_kept at e h is = base_by at e (slice_get recs at.asm) h refl is

  -- ---- interfaces of kept rows

  impl_needed : (at : RowAt) (f : Fact) → In f (of_parts (parts_of_impl recs at)) → In f (row_needs recs (impl_item recs at) at)
  unfolding impl_needs
  impl_needed at f h = h

  pub of_impl : (at : RowAt) (rec : AsmRec) (row : InterfaceImplRow) → IsTrue (kept_of recs has at) → OfClass recs has at → slice_get recs at.asm ≡ Some rec → slice_get rec.interface_impl at.row ≡ Some row → HasParts recs entry roots has m (impl_item recs at) at
  of_impl at rec row h c s e = record { marks = h; is = impl_row_of recs at rec s row e; classed = c; needs = impl_needed at }

  impl_part : (at : RowAt) (rec : AsmRec) (row : InterfaceImplRow) → slice_get recs at.asm ≡ Some rec → slice_get rec.interface_impl at.row ≡ Some row
      → In (type_token_part recs at.asm rec (token_of 0x09 (suc at.row)) 0 row.interface) (parts_of_impl recs at)
  unfolding parts_of_impl
  impl_part at rec row s e =
      let p : Part = type_token_part recs at.asm rec (token_of 0x09 (suc at.row)) 0 row.interface in
      flat_in (λ (rec : AsmRec). flat_map (λ (row : InterfaceImplRow). type_token_part recs at.asm rec (token_of 0x09 (suc at.row)) 0 row.interface ∷ []) (listed (slice_get rec.interface_impl at.row))) p rec (listed (rec_at recs at)) (listed_in rec (rec_at recs at) s)
      (flat_in (λ (row : InterfaceImplRow). type_token_part recs at.asm rec (token_of 0x09 (suc at.row)) 0 row.interface ∷ []) p row (listed (slice_get rec.interface_impl at.row)) (listed_in row (slice_get rec.interface_impl at.row) e) (inl refl))

  only_by : (x e : TypeExpr) (b : Bool) → In e (if b then x ∷ [] else []) → e ≡ x
  only_by x e true (inl same) = same
  only_by x e true (inr i) = absurd i
  only_by x e false i = absurd i

  only_one : (o : Option TypeExpr) (e : TypeExpr) → In e (only_interface recs o) → o ≡ Some e
  only_one None e i = absurd i
  only_one (Some x) e i = ap Some (sym (only_by x e (is_interface recs x) i))

  pub if_row : (o : Option TypeExpr) (e : TypeExpr) (b : Bool) → In e (if b then only_interface recs o else []) → o ≡ Some e
  if_row o e true i = only_one o e i
  if_row o e false i = absurd i

  of_class : (o : Option TypeExpr) (e : TypeExpr) (b c : Bool) → c ≡ b → In e (if b then only_interface recs o else []) → c ≡ true
  of_class o e true c same i = same
  of_class o e false c same i = absurd i

  -- a kept row names what is kept
  impl_kept : (a n j : ℕ) (rec : AsmRec) (row : InterfaceImplRow) (e : TypeExpr) → IsTrue (kept_of recs has (at_row a n)) → IsTrue (keeps_type_row k recs (at_row a j)) → slice_get recs a ≡ Some rec
      → slice_get rec.interface_impl n ≡ Some row → In e (interface_of recs a rec (token_of TYPE_DEF (suc j)) row) → IsTrue (keeps_expr k e)
  impl_kept a n j rec row e h t s r i =
      let token : ℕ = token_of TYPE_DEF (suc j) in
      let c : OfClass recs has (at_row a n) = record {
        rec = rec;
        there = s;
        row = row;
        is = r;
        class = j;
        named = of_class (good_type (token_type recs a rec row.interface)) e (is_row_of token row) (row.class == token) refl i;
        marks = typ_has recs has (type_id recs a j) t;
      } in
      let p : Part = type_token_part recs a rec (token_of 0x09 (suc n)) 0 row.interface in
      let within : In p (parts_of_impl recs (at_row a n)) = impl_part (at_row a n) rec row s r in
      part_kept recs entry roots has m (impl_item recs (at_row a n)) (at_row a n) (of_impl (at_row a n) rec row h c s r) p e within within
      (token_named recs a rec (token_of 0x09 (suc n)) 0 row.interface e (good_is (token_type recs a rec row.interface) e (if_row (good_type (token_type recs a rec row.interface)) e (is_row_of token row) i)))

  -- the row that gives an item, with its number
  record FromRow (f : ℕ → InterfaceImplRow → List TypeExpr) (i : ℕ) (rows : List InterfaceImplRow) (e : TypeExpr) : Type 0 where
    number : ℕ
    row : InterfaceImplRow
    there : slice_get rows number ≡ Some row
    gives : In e (f (i + number) row)

  from_by : (f : ℕ → InterfaceImplRow → List TypeExpr) (i : ℕ) (x : InterfaceImplRow) (rows : List InterfaceImplRow) (e : TypeExpr) → (In e (each_from f (suc i) rows) → FromRow f (suc i) rows e)
      → In e (f i x) ⊎ In e (each_from f (suc i) rows) → FromRow f i (x ∷ rows) e
  from_by f i x rows e more (inl h) = let z : i + 0 ≡ i = omega arith in record { number = 0; row = x; there = refl; gives = subst (λ (n : ℕ). In e (f n x)) (sym z) h }
  from_by f i x rows e more (inr h) =
      let r = more h in
      let z : suc i + r.number ≡ i + suc r.number = omega arith in
      record { number = suc r.number; row = r.row; there = r.there; gives = subst (λ (n : ℕ). In e (f n r.row)) z r.gives }

  from_row : (f : ℕ → InterfaceImplRow → List TypeExpr) (i : ℕ) (rows : List InterfaceImplRow) (e : TypeExpr) → In e (each_from f i rows) → FromRow f i rows e
  from_row f i [] e h = absurd h
  from_row f i (x ∷ rows) e h = from_by f i x rows e (from_row f (suc i) rows e) (in_parts e (f i x) (each_from f (suc i) rows) h)

  if_kept : (a n j : ℕ) (rec : AsmRec) (row : InterfaceImplRow) (e : TypeExpr) (b : Bool) → kept_of recs has (at_row a n) ≡ b → IsTrue (keeps_type_row k recs (at_row a j)) → slice_get recs a ≡ Some rec
      → slice_get rec.interface_impl n ≡ Some row → In e (if b then interface_of recs a rec (token_of TYPE_DEF (suc j)) row else []) → IsTrue (keeps_expr k e)
  if_kept a n j rec row e true h t s r i = impl_kept a n j rec row e h t s r i
  if_kept a n j rec row e false h t s r i = absurd i

  in_kept_record : (at : RowAt) (rec : AsmRec) (e : TypeExpr) → IsTrue (keeps_type_row k recs at) → slice_get recs at.asm ≡ Some rec → In e (kept_interfaces_in recs (kept_of recs has) at rec) → IsTrue (keeps_expr k e)
  in_kept_record at rec e t s i =
      let f = from_row (kept_interface_of recs (kept_of recs has) at.asm rec (token_of TYPE_DEF (suc at.row))) 0 rec.interface_impl e i in
      let z : 0 + f.number ≡ f.number = omega arith in
      if_kept at.asm f.number at.row rec f.row e (kept_of recs has (at_row at.asm f.number)) refl t s f.there
      (subst (λ (n : ℕ). In e (kept_interface_of recs (kept_of recs has) at.asm rec (token_of TYPE_DEF (suc at.row)) n f.row)) z f.gives)

  in_kept_at : (at : RowAt) (e : TypeExpr) → IsTrue (keeps_type_row k recs at) → In e (kept_interfaces_at recs (kept_of recs has) at) → IsTrue (keeps_expr k e)
  unfolding kept_interfaces_at
  in_kept_at at e t i =
      let f = in_flat (kept_interfaces_in recs (kept_of recs has) at) e (listed (slice_get recs at.asm)) i in
      in_kept_record at f.0 e t (in_listed f.0 (slice_get recs at.asm) f.1) f.2

  pub interfaces_kept : (at : RowAt) (e : TypeExpr) → IsTrue (keeps_type_row k recs at) → Contains (kept_interfaces_at recs (kept_of recs has) at) e → IsTrue (keeps_expr k e)
  interfaces_kept at e t c = in_kept_at at e t (contained (kept_interfaces_at recs (kept_of recs has) at) e c)

  -- ---- methods

  abbrev own_needs : RowAt → List Fact
  own_needs at = method_needs recs at ++ makes recs at ++ overrides_of recs at ++ method_starts recs at ++ accessed recs at

  pub method_gives : (at : RowAt) (f : Fact) → IsTrue (keeps_method_row k recs at) → row_of recs (method_item recs at) ≡ Some at → In f (own_needs at) → is_added recs f ≡ false → IsTrue (has f)
  method_gives at f h is i known = row_gives recs entry roots has m (method_item recs at) at f (method_has recs has _ h) is i known

  pub needs_in : (at : RowAt) (f : Fact) → In f (method_needs recs at) → In f (own_needs at)
  needs_in at f h =
      in_front f (method_needs recs at ++ makes recs at ++ overrides_of recs at ++ method_starts recs at) (accessed recs at)
      (in_front f (method_needs recs at ++ makes recs at ++ overrides_of recs at) (method_starts recs at)
      (in_front f (method_needs recs at ++ makes recs at) (overrides_of recs at) (in_front f (method_needs recs at) (makes recs at) h)))

  pub overrides_in : (at : RowAt) (f : Fact) → In f (overrides_of recs at) → In f (own_needs at)
  overrides_in at f h =
      in_front f (method_needs recs at ++ makes recs at ++ overrides_of recs at ++ method_starts recs at) (accessed recs at)
      (in_front f (method_needs recs at ++ makes recs at ++ overrides_of recs at) (method_starts recs at) (in_behind f (method_needs recs at ++ makes recs at) (overrides_of recs at) h))

  pub starts_in : (at : RowAt) (f : Fact) → In f (method_starts recs at) → In f (own_needs at)
  starts_in at f h =
      in_front f (method_needs recs at ++ makes recs at ++ overrides_of recs at ++ method_starts recs at) (accessed recs at)
      (in_behind f (method_needs recs at ++ makes recs at ++ overrides_of recs at) (method_starts recs at) h)

  -- its type
  pub owner_kept : (at owner : RowAt) → IsTrue (keeps_method_row k recs at) → row_of recs (method_item recs at) ≡ Some at → type_of_method recs at ≡ Some owner → IsTrue (keeps_type_row k recs owner)
  owner_kept at owner h is e = typ_is recs has (type_id recs owner.asm owner.row) (m.by_owner at owner (method_has recs has _ h) is e)

  -- what it overrides
  in_overridden : (at b : RowAt) (d : MethodDefRow) → method_row_at recs at ≡ Some d → is_virtual d ≡ true → is_new_slot d ≡ false → inherited recs at d ≡ Some b → In (marks_method recs b) (overrides_of recs at)
  unfolding overrides_of
  in_overridden at b d r v n e =
      in_front (marks_method recs b) (flat_map (overridden recs at) (listed (method_row_at recs at))) _
      (flat_in (overridden recs at) (marks_method recs b) d (listed (method_row_at recs at)) (listed_in d (method_row_at recs at) r)
      (subst (λ (c : Bool). In (marks_method recs b) (if c then map (marks_method recs) (listed (inherited recs at d)) else [])) (sym (λ i. v i && not (n i)))
      (mapped_in (marks_method recs) b (listed (inherited recs at d)) (listed_in b (inherited recs at d) e))))

  row_by : (at : RowAt) (d : MethodDefRow) (o : Option AsmRec) → slice_get recs at.asm ≡ o → option_and_then (λ (rec : AsmRec). slice_get rec.method_def at.row) o ≡ Some d → row_of recs (method_item recs at) ≡ Some at
  row_by at d None s e = cc
  row_by at d (Some rec) s e = method_row_of recs at rec s d e

  pub method_there : (at : RowAt) (d : MethodDefRow) → method_row_at recs at ≡ Some d → row_of recs (method_item recs at) ≡ Some at
  method_there at d e = row_by at d (slice_get recs at.asm) refl e

  pub overridden_kept : (at b : RowAt) (d : MethodDefRow) → IsTrue (keeps_method_row k recs at) → method_row_at recs at ≡ Some d → is_virtual d ≡ true → is_new_slot d ≡ false → inherited recs at d ≡ Some b → IsTrue (keeps_method_row k recs b)
  overridden_kept at b d h r v n e =
      method_is recs has _ (method_gives at (marks_method recs b) h (method_there at d r) (overrides_in at (marks_method recs b) (in_overridden at b d r v n e)) refl)
