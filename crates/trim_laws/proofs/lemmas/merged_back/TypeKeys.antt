-- Two types of what is left that have one name and one encloser come from two of an input that do (II.22.37).
use Rattle.std.proofs.Common.{◌≡◌, ◌<◌, ◌^◌, ℕ, suc, ◌+◌, Bool, true, false, List, length, map, Option, Some, None, inl, inr, refl, sym, ap, ◌∙◌, arith}
use Rattle.std.specs.Prelude.{slice_get, find, ◌&&◌, ◌||◌}
use Rattle.std.specs.List.{list_any}
use Rattle.std.specs.Option.{option_map, option_and_then}
use Rattle.std.proofs.lemmas.Bool.{eqb-true, eq-eqb, and_parts, and_from, cases_lt}
use Rattle.il_base.specs.declared.table.TheConstants.{TYPE_DEF}
use Rattle.il_base.specs.declared.world_model.types.TypeDefRow.{TypeDefRow}
use Rattle.il_base.specs.declared.world_model.record.AsmRec.{AsmRec}
use Rattle.il_base.specs.world_model.Records.{table_sizes}
use Rattle.il_base.specs.world_model.Core.{same_name}
use Rattle.il_base.specs.world_model.Worlds.{types_in}
use Rattle.rules.specs.declared.link_rules.row_at.RowAt.{RowAt}
use Rattle.rules.specs.link_rules.Types.{at_row, encloser, same_place}
use Rattle.rules.specs.link_rules.Cycles.{listed}
use Rattle.rules.specs.link_rules.Faults.{same_key, same_type_key, type_key}
use Rattle.rules.specs.type_rules.Rows.{type_row_at}
use Rattle.rules.specs.type_rules.Texts.{full_name, full_name_of}
use Rattle.rules.specs.merge_rules.Numbers.{kept_types}
use Rattle.rules.specs.merge_rules.Names.{NewName, is_top_level, flat, old_name, namespace_of, new_names}
use Rattle.rules.specs.merge_rules.Refs.{first_or}
use Rattle.rules.specs.merge_rules.Moved.{is_renamed, written_name, moved_type_row}
use Rattle.rules.specs.merge_rules.Restricted.{output_of}
use Rattle.rules.specs.merged_world_rules.Merge.{Merge, IsMerge, before, output}
use Rattle.rules.specs.merged_world_rules.Numbering.{number_at}
use Rattle.merge_laws.specs.merged_links.Repeats.{Twice, KeysBack, type_keys}
use Rattle.merge_laws.proofs.lemmas.merged_places.Ranks.{rank, rank_kept, rank_rises}
use Rattle.merge_laws.proofs.lemmas.merged_places.Rows.{place_within, place_has, same_some, one_by_number}
use Rattle.merge_laws.proofs.lemmas.merged_places.Kept.{keeps}
use Rattle.merge_laws.proofs.lemmas.merged_places.Worlds.{before_input}
use Rattle.merge_laws.proofs.lemmas.merged_places.Moving.{place_kept}
use Rattle.merge_laws.proofs.lemmas.merged_places.Situations.{place_there, Input}
use Rattle.merge_laws.proofs.lemmas.merged_places.Tables.{number_type, type_kind, type_left, types_counted}
use Rattle.merge_laws.proofs.lemmas.merged_rows_move.Nesting.{encloser_moved, encloser_input}
use Rattle.trim_laws.specs.merged_back.Premises.{KeepsEnclosers}
use Rattle.trim_laws.proofs.lemmas.merged_back.Fresh.{name_is, is_name}
use Rattle.trim_laws.proofs.lemmas.merged_back.Renamed.{keeps as keep_names, nested_keeps, written_full}
use Rattle.trim_laws.proofs.lemmas.merged_back.Rows.{KeptRow, kept_row, lower, numbered_at, numbered_from}

place_same : (x y : Option ℕ) → same_place x y ≡ true → x ≡ y
place_same None None e = refl
place_same None (Some b) e = absurd (cc)
place_same (Some a) None e = absurd (cc)
place_same (Some a) (Some b) e = ap (λ (n : ℕ). Some n) (eqb-true a b e)

same_places : (x y : Option ℕ) → x ≡ y → same_place x y ≡ true
same_places None None e = refl
same_places None (Some b) e = absurd (cc)
same_places (Some a) None e = absurd (cc)
same_places (Some a) (Some b) e = let same : a ≡ b = cc in eq-eqb a b same

-- ranks tell kept numbers apart
rank_one : (p : ℕ → Bool) (x y : ℕ) → p x ≡ true → p y ≡ true → rank p x ≡ rank p y → x ≡ y
rank_one p x y h g e = elim (cases_lt x y) [
  | inl lt ↦ (let up = rank_rises p (suc x) y lt in let one = rank_kept p x h in absurd (omega (arith, up, one, e)))
  | inr ge ↦ elim (cases_lt y x) [
    | inl lt ↦ (let up = rank_rises p (suc y) x lt in let one = rank_kept p y g in absurd (omega (arith, up, one, e)))
    | inr le ↦ omega (arith, ge, le)
  ]
]

-- ---- a type's row by its place

module _ (recs : List AsmRec) (at : RowAt) (rec : AsmRec) (t : TypeDefRow) (here : slice_get recs at.asm ≡ Some rec) (row : slice_get rec.type_def at.row ≡ Some t) where
  row_found : type_row_at recs at ≡ Some t
  row_found = ap (option_and_then (λ (rec : AsmRec). slice_get rec.type_def at.row)) here ∙ row

  space_is : namespace_of recs at ≡ t.namespace
  space_is = ap (λ (o : Option TypeDefRow). flat (option_map (λ (t : TypeDefRow). t.namespace) o)) row_found

  old_is : old_name recs at ≡ full_name_of t.namespace t.name
  old_is = ap (λ (o : Option TypeDefRow). flat (option_map full_name o)) row_found

  abbrev is_none : Option ℕ → Bool
  is_none o = elim o as (λ o. Bool) [ None ↦ true | Some k ↦ false ]

  or_none : (b : Bool) → (b || false) ≡ b
  or_none true = refl
  or_none false = refl

  top_is : is_top_level recs at ≡ is_none (encloser rec at.row)
  top_is =
      ap (λ (o : Option AsmRec). list_any (λ (rec : AsmRec). is_none (encloser rec at.row)) (listed o)) here ∙ or_none (is_none (encloser rec at.row))

module _ (m : Merge) (is : IsMerge m) (around : KeepsEnclosers m) where
  abbrev Kept : ℕ → Type 0
  Kept j = KeptRow types_in (before m) number_type m.kept j

  abbrev number : RowAt → ℕ
  number at = number_at types_in (before m) at

  abbrev passes : ℕ → Bool
  passes = keeps types_in (before m) number_type m.kept

  -- ---- one type of what is left

  record Row (j : ℕ) : Type 0 where
    o : Kept j
    t : TypeDefRow
    row : slice_get o.there.rec.type_def o.at.row ≡ Some t
    left : slice_get m.left.type_def j ≡ Some (moved_type_row m.internal (output m) o.at o.there.rec t)

  row_at : (j : ℕ) → j < length m.left.type_def → Row j
  row_at j lt =
      let counted = types_counted m is in
      let o = kept_row types_in (before m) number_type m.kept j (omega (arith, lt, counted)) in
      let t = place_has o.there.rec.type_def o.at.row o.there.below in
      record {
        o = o;
        t = t.0;
        row = t.1;
        left = ap (slice_get m.left.type_def) (sym o.rank_is) ∙ type_left m is o.at o.there.rec t.0 o.there o.earlier o.keeps_it o.there.here t.1;
      }

  abbrev input_of : (j : ℕ) (r : Row j) → Input m types_in number_type (type_kind m is) r.o.at
  input_of j r = record {
    there = r.o.there;
    earlier = r.o.earlier;
    keeps_it = r.o.keeps_it;
    moved = place_there m types_in number_type (type_kind m is) r.o.at r.o.there ∙ place_kept m types_in number_type (type_kind m is) r.o.at r.o.there r.o.earlier r.o.keeps_it;
  }

  kept_around : (j : ℕ) (r : Row j) (a : ℕ) → encloser r.o.there.rec r.o.at.row ≡ Some a → m.kept (number_type (number (at_row r.o.at.asm a))) ≡ true
  kept_around j r a e = around r.o.at r.o.there.rec a r.o.there.here e r.o.keeps_it

  abbrev new_around : RowAt → ℕ → ℕ
  new_around at a = rank passes (number (at_row at.asm a))

  around_is : (j : ℕ) (r : Row j) → encloser m.left j ≡ option_map (new_around r.o.at) (encloser r.o.there.rec r.o.at.row)
  around_is j r = ap (encloser m.left) (sym r.o.rank_is) ∙ encloser_moved m is r.o.at (input_of j r) (kept_around j r)

  abbrev name_of : (j : ℕ) → Row j → List ℕ
  name_of j r = written_name (output m) r.o.at r.t.name

  -- ---- two types with one name in one place

  record Alike (j l : ℕ) (a : Row j) (b : Row l) : Type 0 where
    spaces : b.t.namespace ≡ a.t.namespace
    names : name_of l b ≡ name_of j a
    places : encloser m.left l ≡ encloser m.left j

  twice : (j l : ℕ) (a : Row j) (b : Row l) → j < l → a.o.at.asm ≡ b.o.at.asm → b.t.namespace ≡ a.t.namespace → b.t.name ≡ a.t.name → encloser b.o.there.rec b.o.at.row ≡ encloser a.o.there.rec a.o.at.row → Twice same_type_key type_keys m.inputs
  twice j l a b lt one spaces names places =
      let same : a.o.there.rec ≡ b.o.there.rec = same_some a.o.there.rec b.o.there.rec (sym a.o.there.here ∙ ap (slice_get (before m)) one ∙ b.o.there.here) in
      let up = lower types_in (before m) number_type m.kept passes (number a.o.at) (number b.o.at) j l a.o.rank_is b.o.rank_is lt in
      let base : number (at_row a.o.at.asm 0) ≡ number (at_row b.o.at.asm 0) = ap (λ (n : ℕ). number (at_row n 0)) one in
      let rec : AsmRec = a.o.there.rec in
      let row : slice_get rec.type_def b.o.at.row ≡ Some b.t = ap (λ (r : AsmRec). slice_get r.type_def b.o.at.row) same ∙ b.row in
      record {
        asm = a.o.at.asm;
        rec = rec;
        there = sym (before_input m a.o.at.asm a.o.earlier) ∙ a.o.there.here;
        first = a.o.at.row;
        second = b.o.at.row;
        less = omega (arith, up, base);
        x = type_key rec (0 + a.o.at.row) a.t;
        y = type_key rec (0 + b.o.at.row) b.t;
        one = numbered_at (type_key rec) 0 rec.type_def a.o.at.row a.t a.row;
        other = numbered_at (type_key rec) 0 rec.type_def b.o.at.row b.t row;
        alike = and_from (same_name b.t.name a.t.name && same_name b.t.namespace a.t.namespace) (same_place (encloser rec (0 + b.o.at.row)) (encloser rec (0 + a.o.at.row)))
            (and_from (same_name b.t.name a.t.name) (same_name b.t.namespace a.t.namespace) (is_name b.t.name a.t.name names) (is_name b.t.namespace a.t.namespace spaces))
            (same_places (encloser rec (0 + b.o.at.row)) (encloser rec (0 + a.o.at.row)) (ap (encloser rec) (zero_less b.o.at.row) ∙ ap (λ (r : AsmRec). encloser r b.o.at.row) same ∙ places ∙ ap (encloser rec) (sym (zero_less a.o.at.row))));
      }
    where
      zero_less : (n : ℕ) → 0 + n ≡ n
      zero_less n = omega arith

  -- ---- nested types

  unnamed : (at : RowAt) (name : List ℕ) → find (is_renamed at) (new_names (before m) (kept_types (before m) m.kept)) ≡ None → written_name (output m) at name ≡ name
  unfolding output_of
  unnamed at name e = ap (λ (o : Option NewName). first_or (map (λ (n : NewName). n.name) (listed o)) name) e

  few : length (kept_types (before m) m.kept) + length (kept_types (before m) m.kept) < 2 ^ 64
  unfolding table_sizes kept_types
  few =
      let low : length m.left.type_def < 16777216 = is.few TYPE_DEF in
      let counted = types_counted m is in
      omega (arith, low, counted)

  nested_name : (j : ℕ) (r : Row j) (a : ℕ) → encloser r.o.there.rec r.o.at.row ≡ Some a → name_of j r ≡ r.t.name
  nested_name j r a e =
      unnamed r.o.at r.t.name
      (nested_keeps (before m) (kept_types (before m) m.kept) few r.o.at (top_is (before m) r.o.at r.o.there.rec r.t r.o.there.here r.row ∙ ap (λ (o : Option ℕ). elim o as (λ o. Bool) [ None ↦ true | Some k ↦ false ]) e))

  nested_twice : (j l : ℕ) (a : Row j) (b : Row l) (x y : ℕ) → j < l → Alike j l a b → encloser a.o.there.rec a.o.at.row ≡ Some x → encloser b.o.there.rec b.o.at.row ≡ Some y → Twice same_type_key type_keys m.inputs
  nested_twice j l a b x y lt h e f =
      let p = encloser_input m is a.o.at (input_of j a) (kept_around j a) x e in
      let q = encloser_input m is b.o.at (input_of l b) (kept_around l b) y f in
      let ranks : Some (new_around b.o.at y) ≡ Some (new_around a.o.at x) =
      sym (around_is l b ∙ ap (option_map (new_around b.o.at)) f) ∙ h.places ∙ around_is j a ∙ ap (option_map (new_around a.o.at)) e in
      let numbers : number (at_row b.o.at.asm y) ≡ number (at_row a.o.at.asm x) = rank_one passes (number (at_row b.o.at.asm y)) (number (at_row a.o.at.asm x)) q.keeps_it p.keeps_it (same_some (new_around b.o.at y) (new_around a.o.at x) ranks) in
      let rows : at_row b.o.at.asm y ≡ at_row a.o.at.asm x = one_by_number types_in (before m) (at_row b.o.at.asm y) (at_row a.o.at.asm x) q.there p.there numbers in
      twice j l a b lt (ap (λ (z : RowAt). z.asm) (sym rows)) h.spaces (sym (nested_name l b y f) ∙ h.names ∙ nested_name j a x e)
      (f ∙ ap (λ (z : RowAt). Some z.row) rows ∙ sym e)

  -- ---- top-level types

  full_by : (j : ℕ) (r : Row j) (o : Option NewName) → find (is_renamed r.o.at) (new_names (before m) (kept_types (before m) m.kept)) ≡ o
      → written_full (before m) (kept_types (before m) m.kept) few r.o.at o ≡ full_name_of r.t.namespace (name_of j r)
  unfolding output_of
  full_by j r None e = old_is (before m) r.o.at r.o.there.rec r.t r.o.there.here r.row ∙ ap (full_name_of r.t.namespace) (sym (unnamed r.o.at r.t.name e))
  full_by j r (Some n) e =
      ap (λ (s : List ℕ). full_name_of s n.name) (space_is (before m) r.o.at r.o.there.rec r.t r.o.there.here r.row)
      ∙ ap (full_name_of r.t.namespace) (sym (ap (λ (o : Option NewName). first_or (map (λ (n : NewName). n.name) (listed o)) r.t.name) e))

  listed_at : (j : ℕ) (r : Row j) → slice_get (kept_types (before m) m.kept) j ≡ Some r.o.at
  unfolding kept_types
  listed_at j r = r.o.listed

  top_of : (j : ℕ) (r : Row j) → encloser r.o.there.rec r.o.at.row ≡ None → is_top_level (before m) r.o.at ≡ true
  top_of j r e = top_is (before m) r.o.at r.o.there.rec r.t r.o.there.here r.row ∙ ap (λ (o : Option ℕ). elim o as (λ o. Bool) [ None ↦ true | Some k ↦ false ]) e

  top_twice : (j l : ℕ) (a : Row j) (b : Row l) → j < l → Alike j l a b → encloser a.o.there.rec a.o.at.row ≡ None → encloser b.o.there.rec b.o.at.row ≡ None → Twice same_type_key type_keys m.inputs
  top_twice j l a b lt h e f =
      let differ : a.o.at ≡ b.o.at → ⊥ = λ same. differs (ap (λ (x : RowAt). rank passes (number x)) same) in
      let full : full_name_of a.t.namespace (name_of j a) ≡ full_name_of b.t.namespace (name_of l b) = λ i. full_name_of (sym h.spaces i) (sym h.names i) in
      let k = keep_names (before m) (kept_types (before m) m.kept) few j l a.o.at b.o.at lt (listed_at j a) (listed_at l b) (top_of j a e) (top_of l b f) differ
      (full_by j a (find (is_renamed a.o.at) (new_names (before m) (kept_types (before m) m.kept))) refl ∙ full ∙ sym (full_by l b (find (is_renamed b.o.at) (new_names (before m) (kept_types (before m) m.kept))) refl)) in
      twice j l a b lt k.one h.spaces (sym (unnamed b.o.at b.t.name k.second) ∙ h.names ∙ unnamed a.o.at a.t.name k.first) (f ∙ sym e)
    where
      differs : rank passes (number a.o.at) ≡ rank passes (number b.o.at) → ⊥
      differs same = let p = a.o.rank_is in let q = b.o.rank_is in omega (arith, p, q, same, lt)

  -- ---- either

  either : (j l : ℕ) (a : Row j) (b : Row l) (x y : Option ℕ) → j < l → Alike j l a b → encloser a.o.there.rec a.o.at.row ≡ x → encloser b.o.there.rec b.o.at.row ≡ y → Twice same_type_key type_keys m.inputs
  either j l a b None None lt h e f = top_twice j l a b lt h e f
  either j l a b (Some x) (Some y) lt h e f = nested_twice j l a b x y lt h e f
  either j l a b None (Some y) lt h e f =
      let bad : Some (new_around b.o.at y) ≡ None = sym (around_is l b ∙ ap (option_map (new_around b.o.at)) f) ∙ h.places ∙ around_is j a ∙ ap (option_map (new_around a.o.at)) e in absurd (cc)
  either j l a b (Some x) None lt h e f =
      let bad : None ≡ Some (new_around a.o.at x) = sym (around_is l b ∙ ap (option_map (new_around b.o.at)) f) ∙ h.places ∙ around_is j a ∙ ap (option_map (new_around a.o.at)) e in absurd (cc)

  back_by : (j l : ℕ) (a : Row j) (b : Row l) → j < l
      → same_type_key (record { namespace = b.t.namespace; name = name_of l b; encloser = encloser m.left l }) (record { namespace = a.t.namespace; name = name_of j a; encloser = encloser m.left j }) ≡ true
      → Twice same_type_key type_keys m.inputs
  back_by j l a b lt alike =
      let p = and_parts (same_name (name_of l b) (name_of j a) && same_name b.t.namespace a.t.namespace) (same_place (encloser m.left l) (encloser m.left j)) alike in
      let q = and_parts (same_name (name_of l b) (name_of j a)) (same_name b.t.namespace a.t.namespace) p.0 in
      either j l a b (encloser a.o.there.rec a.o.at.row) (encloser b.o.there.rec b.o.at.row) lt
      (record { spaces = name_is b.t.namespace a.t.namespace q.1; names = name_is (name_of l b) (name_of j a) q.0; places = place_same (encloser m.left l) (encloser m.left j) p.1 }) refl refl

  pub types_back : KeysBack same_type_key type_keys (type_keys 0 m.left) m.inputs
  types_back j l x y lt e f alike =
      let u = numbered_from (type_key m.left) 0 m.left.type_def j x e in
      let v = numbered_from (type_key m.left) 0 m.left.type_def l y f in
      let a = row_at j (place_within m.left.type_def j u.0 u.1) in
      let b = row_at l (place_within m.left.type_def l v.0 v.1) in
      let p : u.0 ≡ moved_type_row m.internal (output m) a.o.at a.o.there.rec a.t = same_some u.0 _ (sym u.1 ∙ a.left) in
      let q : v.0 ≡ moved_type_row m.internal (output m) b.o.at b.o.there.rec b.t = same_some v.0 _ (sym v.1 ∙ b.left) in
      let xs : type_key m.left j (moved_type_row m.internal (output m) a.o.at a.o.there.rec a.t) ≡ x = (λ i. type_key m.left (zero_more j i) (sym p i)) ∙ u.2 in
      let ys : type_key m.left l (moved_type_row m.internal (output m) b.o.at b.o.there.rec b.t) ≡ y = (λ i. type_key m.left (zero_more l i) (sym q i)) ∙ v.2 in
      back_by j l a b lt ((λ i. same_key same_type_key (ys i) (xs i)) ∙ alike)
    where
      zero_more : (n : ℕ) → n ≡ 0 + n
      zero_more n = omega arith
