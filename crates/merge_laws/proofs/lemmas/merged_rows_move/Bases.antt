-- The base of a kept type moves with it (II.22.37), where the output's references name what they stand for.
use Rattle.std.proofs.Common.{◌≡◌, ◌<◌, ◌≤◌, ℕ, zero, suc, ◌-◌, Bool, true, false, nat_lt, List, [], ◌∷◌, ◌++◌, length, map, Option, Some, None, inl, inr, refl, sym, ap, subst, ◌∙◌, arith}
use Rattle.std.specs.Prelude.{slice_get, ◌==◌, ◌||◌, if◌then◌else◌}
use Rattle.std.specs.List.{Contains, list_all, list_any, flat_map}
use Rattle.std.specs.Option.{option_map, option_and_then}
use Rattle.std.proofs.lemmas.Bool.{eqb-true, eq-eqb, ne_eqb, ltb-true, lt-ltb, and_parts, and_from}
use Rattle.std.proofs.lemmas.List.{length-append}
use Rattle.std.proofs.lemmas.List.Folds.{list_all-append}
use Rattle.std.proofs.lemmas.List.Elements.{Contains-append_left, Contains-append_right}
use Rattle.il_base.specs.declared.table.TheConstants.{TYPE_REF, TYPE_DEF, TYPE_SPEC}
use Rattle.il_base.specs.declared.world_model.known.Known.{Known}
use Rattle.il_base.specs.declared.world_model.known.Known.TheVariants.{Good, Bad}
use Rattle.il_base.specs.declared.world_model.known.BadKind.TheVariants.{Unresolved}
use Rattle.il_base.specs.declared.world_model.expr.TypeExpr.{TypeExpr, out-TypeExpr}
use Rattle.il_base.specs.declared.world_model.expr.TypeExpr.TheOpen.{TypeExpr-F}
use Rattle.il_base.specs.declared.world_model.expr.TypeExpr as expr
use Rattle.il_base.specs.declared.world_model.types.TypeDefRow.{TypeDefRow}
use Rattle.il_base.specs.declared.world_model.record.AsmRec.{AsmRec}
use Rattle.il_base.specs.world_model.Tokens.{table_of, row_index, index_in}
use Rattle.il_base.specs.world_model.Worlds.{types_in, type_id, known_map, row_below, prim_of, core_types}
use Rattle.il_base.specs.core_table.Record.{core_record, record_with, type_rows, type_row}
use Rattle.il_base.specs.declared.core_table.types.TheConstants.{TYPES}
use Rattle.rules.specs.declared.link_rules.core_type_name.CoreTypeName.{CoreTypeName}
use Rattle.rules.specs.link_rules.CoreNames.{added_row}
use Rattle.rules.specs.declared.link_rules.row_at.RowAt.{RowAt}
use Rattle.rules.specs.link_rules.Types.{at_row, ref_definition, definition_at}
use Rattle.rules.specs.link_rules.Signatures.{prim_at, definition_expr, known_expr, named_type, spec_type_at, token_type}
use Rattle.rules.specs.link_rules.Members.{good_type, is_named_in, is_named, only_named, is_interface_row, base_in, base_at}
use Rattle.rules.specs.link_rules.Cycles.{listed}
use Rattle.rules.specs.type_rules.Rows.{rec_at}
use Rattle.rules.specs.merge_rules.Numbers.{kept_types}
use Rattle.rules.specs.merge_rules.Keys.{TypeKey, type_key, class_number}
use Rattle.rules.specs.merge_rules.Order.{Met, met_type, met_types, met_token, met_extends, met_in_type, met_by_types}
use Rattle.rules.specs.merge_rules.Refs.{Output}
use Rattle.rules.specs.merge_rules.Moved.{moved_type, moved_type_row}
use Rattle.rules.specs.merge_rules.Attributes.{met_by_attributes}
use Rattle.rules.specs.merge_rules.Restricted.{output_of}
use Rattle.rules.specs.change_rules.Change.{Rho}
use Rattle.rules.specs.change_rules.Moves.{move_expr}
use Rattle.base_laws.proofs.lemmas.change_laws.Exprs.{moved_in, out_moved, move_prim, move_def}
use Rattle.rules.specs.world_change_rules.Rows.{is_table_type}
use Rattle.rules.specs.merged_world_rules.Merge.{Merge, before, after, names_before, names_after, output, IsMerge}
use Rattle.rules.specs.merged_world_rules.Numbering.{number_at}
use Rattle.rules.specs.merged_world_rules.NewNumbers.{rho_of}
use Rattle.merge_laws.proofs.lemmas.merged_places.Ranks.{rank}
use Rattle.merge_laws.proofs.lemmas.merged_places.Rows.{place_has, place_past, get_front}
use Rattle.merge_laws.proofs.lemmas.merged_places.Kept.{keeps}
use Rattle.merge_laws.proofs.lemmas.merged_places.Worlds.{core_of, left_core, after_is, after_left, after_core, core_rec, core_at, before_types, left_types}
use Rattle.merge_laws.proofs.lemmas.merged_places.CoreTables.{type_same}
use Rattle.merge_laws.proofs.lemmas.merged_places.Situations.{place, situation, Input, Core, HasNone}
use Rattle.merge_laws.proofs.lemmas.merged_places.Tables.{number_type, type_rows as kept_type_rows, type_kind, type_left, those_at}
use Rattle.merge_laws.specs.merged_rows_move.Premises.{IsMet, ReadsTokens, HasGoodBases}
use Rattle.merge_laws.proofs.lemmas.merged_rows_move.RowsOf.{type_like, TypeStays}
use Rattle.merge_laws.proofs.lemmas.merged_rows_move.Core.{type_count, types_before, types_after, types_more, type_moved}

-- ---- a token that names nothing

none_moved : (o : Output) (a : ℕ) (rec : AsmRec) → moved_type o a rec 0 ≡ 0
unfolding moved_type type_key class_number named_type definition_at
none_moved o a rec = refl

pub none_read : (recs : List AsmRec) (a : ℕ) (rec : AsmRec) → token_type recs a rec 0 ≡ Bad Unresolved
unfolding token_type named_type definition_at
none_read recs a rec = refl

-- ---- a class or an interface stays one

named_in : (r : Rho) (x : TypeExpr-F TypeExpr) → is_named_in (moved_in r x) ≡ is_named_in x
named_in r (TypeExpr-F.Prim n) = refl
named_in r (TypeExpr-F.Def t) = refl
named_in r (TypeExpr-F.Inst t args) = refl
named_in r (TypeExpr-F.Array x) = refl
named_in r (TypeExpr-F.ByRef x) = refl
named_in r (TypeExpr-F.Var n) = refl
named_in r (TypeExpr-F.MVar n) = refl
named_in r (TypeExpr-F.Mod required by x) = refl

named_moved : (r : Rho) (e : TypeExpr) → is_named (move_expr r e) ≡ is_named e
unfolding is_named
named_moved r e = ap is_named_in (out_moved r e) ∙ named_in r (out-TypeExpr e)

only_by : (r : Rho) (e : TypeExpr) (b : Bool) → (if b then Some (move_expr r e) else None) ≡ option_map (move_expr r) (if b then Some e else None)
only_by r e true = refl
only_by r e false = refl

only_moved : (r : Rho) (o : Option TypeExpr) → only_named (option_map (move_expr r) o) ≡ option_map (move_expr r) (only_named o)
only_moved r None = refl
only_moved r (Some e) = ap (λ (b : Bool). if b then Some (move_expr r e) else None) (named_moved r e) ∙ only_by r e (is_named e)

good_moved : (r : Rho) (k : Known TypeExpr) → good_type (known_map (move_expr r) k) ≡ option_map (move_expr r) (good_type k)
good_moved r (Good e) = refl
good_moved r (Bad why) = refl

-- ---- what is met

pub in_flat : {A B : Type 0} (f : A → List B) (xs : List A) (k : ℕ) (x : A) (y : B) → slice_get xs k ≡ Some x → Contains (f x) y → Contains (flat_map f xs) y
in_flat f [] k x y e h = absurd (cc)
in_flat f (z ∷ xs) zero x y e h = let same : x ≡ z = cc in Contains-append_left (f z) (flat_map f xs) y (subst (λ (w : _). Contains (f w) y) same h)
in_flat f (z ∷ xs) (suc k) x y e h = Contains-append_right (f z) (flat_map f xs) y (in_flat f xs k x y e h)

module _ (recs : List AsmRec) (at : RowAt) (rec : AsmRec) (t : TypeDefRow) (here : slice_get recs at.asm ≡ Some rec) (row : slice_get rec.type_def at.row ≡ Some t) where
  token_met : (k : TypeKey) (b : Bool) → (t.extends == 0) ≡ b → b ≡ false → type_key recs at.asm rec t.extends ≡ Some k → Contains (if b then [] else met_types (type_key recs at.asm rec t.extends)) (met_type k)
  token_met k true e f is = absurd (cc)
  token_met k false e f is = subst (λ (o : Option TypeKey). Contains (met_types o) (met_type k)) (sym is) (0, omega arith, refl)

  extends_met : (k : TypeKey) → (t.extends == 0) ≡ false → type_key recs at.asm rec t.extends ≡ Some k → Contains (met_extends recs at) (met_type k)
  extends_met k some is =
      in_flat (λ (rec : AsmRec). flat_map (λ (t : TypeDefRow). met_token recs at.asm rec t.extends) (listed (slice_get rec.type_def at.row))) (listed (rec_at recs at)) 0 rec (met_type k)
      (ap (λ (o : Option AsmRec). slice_get (listed o) 0) here)
      (in_flat (λ (t : TypeDefRow). met_token recs at.asm rec t.extends) (listed (slice_get rec.type_def at.row)) 0 t (met_type k)
      (ap (λ (o : Option TypeDefRow). slice_get (listed o) 0) row) (token_met k (t.extends == 0) refl some is))

-- ---- what rows of the core library extend is of its table

abbrev is_right : TypeDefRow → Bool
is_right t = t.extends == 0 || is_table_type t.extends

table_right : list_all is_right core_record.type_def ≡ true
unfolding core_record record_with type_rows type_row
table_right = refl

added_right : (names : List CoreTypeName) → list_all is_right (map (added_row core_record) names) ≡ true
added_right [] = refl
added_right (x ∷ names) = added_right names

all_at : {A : Type 0} (p : A → Bool) (xs : List A) (k : ℕ) (x : A) → list_all p xs ≡ true → slice_get xs k ≡ Some x → p x ≡ true
all_at p [] k x h e = absurd (cc)
all_at p (y ∷ xs) zero x h e = let same : y ≡ x = cc in ap p (sym same) ∙ (and_parts (p y) (list_all p xs) h).0
all_at p (y ∷ xs) (suc k) x h e = all_at p xs k x (and_parts (p y) (list_all p xs) h).1 e

row_right : (names : List CoreTypeName) (k : ℕ) (t : TypeDefRow) → slice_get (core_record.type_def ++ map (added_row core_record) names) k ≡ Some t → is_right t ≡ true
row_right names k t e =
    all_at is_right (core_record.type_def ++ map (added_row core_record) names) k t
    (list_all-append is_right core_record.type_def (map (added_row core_record) names)
    ∙ and_from (list_all is_right core_record.type_def) (list_all is_right (map (added_row core_record) names)) table_right (added_right names)) e

-- a token of such a type
pub record Own (w : ℕ) : Type 0 where
  pub table : (table_of w == TYPE_DEF) ≡ true
  pub row : ℕ
  pub names : index_in TYPE_DEF w ≡ Some row
  pub low : row < length core_record.type_def

own_by : (w : ℕ) (b : Bool) → (table_of w == TYPE_DEF) ≡ b → (o : Option ℕ) → row_index w ≡ o → list_any (λ n. nat_lt n (length TYPES)) (listed (if b then o else None)) ≡ true → Own w
own_by w false t o e h = absurd (cc)
own_by w true t None e h = absurd (cc)
own_by w true t (Some k) e h =
    let lt = ltb-true k (length TYPES) (sym (or_none (nat_lt k (length TYPES))) ∙ h) in
    let count = type_count in
    record { table = t; row = k; names = ap (λ (b : Bool). if b then row_index w else None) t ∙ e; low = omega (arith, lt, count) }
  where
    or_none : (b : Bool) → (b || false) ≡ b
    or_none true = refl
    or_none false = refl

pub own_token : (w : ℕ) → is_table_type w ≡ true → Own w
own_token w h = own_by w (table_of w == TYPE_DEF) refl (row_index w) refl h

-- it names that row
module _ (recs : List AsmRec) (a : ℕ) (rec : AsmRec) (w : ℕ) (own : Own w) (lt : own.row < types_in rec) where
  pub not_spec : (table_of w == TYPE_SPEC) ≡ false
  not_spec = let table = eqb-true (table_of w) TYPE_DEF own.table in ne_eqb (table_of w) TYPE_SPEC (λ e. absurd (omega (arith, e, table)))

  placed : definition_at recs a rec w ≡ Some (at_row a own.row)
  unfolding definition_at
  placed =
      ap (λ (b : Bool). if b then option_map (at_row a) (row_below (types_in rec) (index_in TYPE_DEF w)) else option_and_then (ref_definition recs a rec) (index_in TYPE_REF w)) own.table
      ∙ ap (λ (o : Option ℕ). option_map (at_row a) (row_below (types_in rec) o)) own.names
      ∙ ap (λ (b : Bool). option_map (at_row a) (if b then Some own.row else None)) (lt-ltb own.row (types_in rec) lt)

  pub named_own : named_type recs a rec w ≡ Good (definition_expr recs (at_row a own.row))
  unfolding named_type
  named_own = ap (known_expr recs) placed

  names_own : token_type recs a rec w ≡ Good (definition_expr recs (at_row a own.row))
  unfolding token_type named_type
  names_own =
      ap (λ (b : Bool). if b then spec_type_at recs a rec (option_and_then (slice_get rec.type_spec) (index_in TYPE_SPEC w)) else known_expr recs (definition_at recs a rec w)) not_spec
      ∙ ap (known_expr recs) placed

-- ---- in a merge

module _ (m : Merge) (is : IsMerge m) where
  abbrev typ : RowAt → RowAt
  typ at = place m types_in number_type (type_kind m is) at

  abbrev new : RowAt → ℕ
  new at = rank (keeps types_in (before m) number_type m.kept) (number_at types_in (before m) at)

  -- the base of a kept type is met
  base_met : (at : RowAt) (h : Input m types_in number_type (type_kind m is) at) (t : TypeDefRow) → slice_get h.there.rec.type_def at.row ≡ Some t → (t.extends == 0) ≡ false
      → IsMet m at.asm h.there.rec t.extends
  unfolding output_of met_by_types kept_types
  base_met at h t row some k key =
      Contains-append_left (met_by_types (before m) m.kept) (met_by_attributes (before m) m.kept) (met_type k)
      (in_flat (met_in_type (before m) m.kept) (kept_type_rows m is) (new at) at (met_type k) (those_at types_in (before m) number_type m.kept at h.there h.earlier h.keeps_it)
      (first_of_nine _ _ _ _ _ _ _ _ _ (met_type k) (extends_met (before m) at h.there.rec t h.there.here row k some key)))
    where
      -- the base is met before interfaces, fields, methods, constraints, properties, events and MethodImpl rows
      first_of_nine : (a b c d e f g i j : List Met) (x : Met) → Contains a x → Contains (a ++ b ++ c ++ d ++ e ++ f ++ g ++ i ++ j) x
      first_of_nine a b c d e f g i j x h =
          Contains-append_left (a ++ b ++ c ++ d ++ e ++ f ++ g ++ i) j x (Contains-append_left (a ++ b ++ c ++ d ++ e ++ f ++ g) i x (Contains-append_left (a ++ b ++ c ++ d ++ e ++ f) g x
          (Contains-append_left (a ++ b ++ c ++ d ++ e) f x (Contains-append_left (a ++ b ++ c ++ d) e x (Contains-append_left (a ++ b ++ c) d x
          (Contains-append_left (a ++ b) c x (Contains-append_left a b x h)))))))

  -- ---- of an input

  base_of : (recs : List AsmRec) (at : RowAt) (rec : AsmRec) (t : TypeDefRow) → slice_get recs at.asm ≡ Some rec → slice_get rec.type_def at.row ≡ Some t → base_at recs at ≡ base_in recs at.asm rec t
  base_of recs at rec t here row =
      ap (option_and_then (λ (rec : AsmRec). option_and_then (base_in recs at.asm rec) (slice_get rec.type_def at.row))) here
      ∙ ap (option_and_then (base_in recs at.asm rec)) row

  base_by : (token old : ℕ) (rec : AsmRec) (a : ℕ) (b c : Bool) → (old == 0) ≡ b → (b ≡ true → token ≡ 0) → (b ≡ false → (e : TypeExpr) × (token_type (before m) a rec old ≡ Good e) × (token_type (after m) 0 m.left token ≡ Good (move_expr (rho_of m) e)))
      → (if (token == 0) || c then None else only_named (good_type (token_type (after m) 0 m.left token)))
      ≡ option_map (move_expr (rho_of m)) (if b || c then None else only_named (good_type (token_type (before m) a rec old)))
  base_by token old rec a true c e none good = ap (λ (b : Bool). if b || c then None else only_named (good_type (token_type (after m) 0 m.left token))) (eq-eqb token 0 (none refl))
  base_by token old rec a false true e none good = by_zero (token == 0)
    where
      by_zero : (b : Bool) → (if b || true then None else only_named (good_type (token_type (after m) 0 m.left token))) ≡ None
      by_zero true = refl
      by_zero false = refl
  base_by token old rec a false false e none good = by_zero (token == 0) refl
    where
      by_zero : (b : Bool) → (token == 0) ≡ b → (if b || false then None else only_named (good_type (token_type (after m) 0 m.left token)))
          ≡ option_map (move_expr (rho_of m)) (only_named (good_type (token_type (before m) a rec old)))
      by_zero true z =
          let g = good refl in
          let bad : Bad Unresolved ≡ Good (move_expr (rho_of m) g.0) = sym (none_read (after m) 0 m.left) ∙ ap (token_type (after m) 0 m.left) (sym (eqb-true token 0 z)) ∙ g.2 in
          absurd (cc)
      by_zero false z =
          let g = good refl in
          ap (λ (k : Known TypeExpr). only_named (good_type k)) g.2 ∙ only_moved (rho_of m) (Some g.0)
          ∙ sym (ap (λ (k : Known TypeExpr). option_map (move_expr (rho_of m)) (only_named (good_type k))) g.1)

  input_base : ReadsTokens m → HasGoodBases m → (at : RowAt) → Input m types_in number_type (type_kind m is) at → base_at (after m) (typ at) ≡ option_map (move_expr (rho_of m)) (base_at (before m) at)
  input_base reads bases at h =
      let row = place_has h.there.rec.type_def at.row h.there.below in
      let left = type_left m is at h.there.rec row.0 h.there h.earlier h.keeps_it h.there.here row.1 in
      let like = type_like m.internal (output m) at h.there.rec row.0 in
      ap (base_at (after m)) h.moved
      ∙ base_of (after m) (at_row 0 (new at)) m.left (moved_type_row m.internal (output m) at h.there.rec row.0) (after_left m) left
      ∙ ap (λ (c : Bool). if (moved_type (output m) at.asm h.there.rec row.0.extends == 0) || c then None else only_named (good_type (token_type (after m) 0 m.left (moved_type (output m) at.asm h.there.rec row.0.extends)))) like.interface
      ∙ base_by (moved_type (output m) at.asm h.there.rec row.0.extends) row.0.extends h.there.rec at.asm (row.0.extends == 0) (is_interface_row row.0) refl
      (λ z. ap (moved_type (output m) at.asm h.there.rec) (eqb-true row.0.extends 0 z) ∙ none_moved (output m) at.asm h.there.rec)
      (λ z. let g = bases at h.there.rec row.0 h.there.here row.1 h.earlier h.keeps_it z in
      (g.0, g.1, reads at.asm h.there.rec row.0.extends g.0 h.there.here h.earlier (base_met at h row.0 row.1 z) g.1))
      ∙ ap (option_map (move_expr (rho_of m))) (sym (base_of (before m) at h.there.rec row.0 h.there.here row.1))

  -- ---- of the core library: its tokens name its own rows

  two : length (after m) ≡ 2
  two = ap length (after_is m)

  prim_after : (k : ℕ) → k < length core_record.type_def → prim_at (after m) (at_row 1 k) ≡ option_and_then prim_of (slice_get core_record.type_def k)
  prim_after k lt =
      ap (λ (b : Bool). if b then option_and_then prim_of (slice_get (core_types (after m)) k) else None) (eq-eqb 2 (length (after m)) (sym two))
      ∙ ap (λ (ts : List TypeDefRow). option_and_then prim_of (slice_get ts k)) (types_after m is) ∙ ap (option_and_then prim_of) (get_front core_record.type_def (map (added_row core_record) (names_after m)) k lt)

  prim_before : (a k : ℕ) → suc a ≡ length (before m) → k < length core_record.type_def → prim_at (before m) (at_row a k) ≡ option_and_then prim_of (slice_get core_record.type_def k)
  prim_before a k last lt =
      ap (λ (b : Bool). if b then option_and_then prim_of (slice_get (core_types (before m)) k) else None) (eq-eqb (suc a) (length (before m)) last)
      ∙ ap (λ (ts : List TypeDefRow). option_and_then prim_of (slice_get ts k)) (types_before m is) ∙ ap (option_and_then prim_of) (get_front core_record.type_def (map (added_row core_record) (names_before m)) k lt)

  number_moved : (a k : ℕ) → suc a ≡ length (before m) → k < length core_record.type_def → (type_id (after m) 1 k).0 ≡ (rho_of m).typ (type_id (before m) a k).0
  number_moved a k last lt =
      let one : 1 ≡ length (after m) - 1 = ap (λ (n : ℕ). n - 1) (sym two) in
      let asm : length (before m) - 1 ≡ a = omega (arith, last) in
      ap (λ (n : ℕ). (type_id (after m) n k).0) one ∙ type_moved m is k lt ∙ ap (λ (n : ℕ). (rho_of m).typ (type_id (before m) n k).0) asm

  defined_by : (a k : ℕ) → suc a ≡ length (before m) → k < length core_record.type_def → (o : Option ℕ)
      → elim o [ Some n ↦ expr.Prim n | None ↦ expr.Def (type_id (after m) 1 k) ] ≡ move_expr (rho_of m) (elim o [ Some n ↦ expr.Prim n | None ↦ expr.Def (type_id (before m) a k) ])
  defined_by a k last lt (Some n) = sym (move_prim (rho_of m) n)
  defined_by a k last lt None =
      ap (λ (n : ℕ). expr.Def (record { 0 = n })) (number_moved a k last lt) ∙ sym (move_def (rho_of m) (type_id (before m) a k))

  pub defined : (a k : ℕ) → suc a ≡ length (before m) → k < length core_record.type_def → definition_expr (after m) (at_row 1 k) ≡ move_expr (rho_of m) (definition_expr (before m) (at_row a k))
  unfolding definition_expr
  defined a k last lt =
      ap (λ (o : Option ℕ). elim o [ Some n ↦ expr.Prim n | None ↦ expr.Def (type_id (after m) 1 k) ]) (prim_after k lt)
      ∙ defined_by a k last lt (option_and_then prim_of (slice_get core_record.type_def k))
      ∙ sym (ap (λ (o : Option ℕ). move_expr (rho_of m) (elim o [ Some n ↦ expr.Prim n | None ↦ expr.Def (type_id (before m) a k) ])) (prim_before a k last lt))

  pub types_left : length core_record.type_def ≤ types_in (left_core m)
  types_left = let long = ap length (left_types m) ∙ length-append core_record.type_def (map (added_row core_record) (names_after m)) in omega (arith, long)

  -- a base, or none
  core_good : (a w : ℕ) → suc a ≡ length (before m) → Own w → token_type (after m) 1 (left_core m) w ≡ known_map (move_expr (rho_of m)) (token_type (before m) a (core_of m) w)
  core_good a w last own =
      let low = own.low in
      let left = types_left in
      let more = types_more m is in
      names_own (after m) 1 (left_core m) w own (omega (arith, low, left))
      ∙ ap Good (defined a own.row last own.low)
      ∙ sym (ap (known_map (move_expr (rho_of m))) (names_own (before m) a (core_of m) w own (omega (arith, low, more))))

  core_in : (a : ℕ) (t : TypeDefRow) → suc a ≡ length (before m) → is_right t ≡ true → base_in (after m) 1 (left_core m) t ≡ option_map (move_expr (rho_of m)) (base_in (before m) a (core_of m) t)
  core_in a t last right = by_zero (t.extends == 0) right
    where
      by_face : (c : Bool) → Own t.extends → (if c then None else only_named (good_type (token_type (after m) 1 (left_core m) t.extends)))
          ≡ option_map (move_expr (rho_of m)) (if c then None else only_named (good_type (token_type (before m) a (core_of m) t.extends)))
      by_face true own = refl
      by_face false own =
          ap (λ (k : Known TypeExpr). only_named (good_type k)) (core_good a t.extends last own)
          ∙ ap only_named (good_moved (rho_of m) (token_type (before m) a (core_of m) t.extends)) ∙ only_moved (rho_of m) (good_type (token_type (before m) a (core_of m) t.extends))

      by_zero : (b : Bool) → (b || is_table_type t.extends) ≡ true → (if b || is_interface_row t then None else only_named (good_type (token_type (after m) 1 (left_core m) t.extends)))
          ≡ option_map (move_expr (rho_of m)) (if b || is_interface_row t then None else only_named (good_type (token_type (before m) a (core_of m) t.extends)))
      by_zero true h = refl
      by_zero false h = by_face (is_interface_row t) (own_token t.extends h)

  core_base : (at : RowAt) → Core m types_in number_type (type_kind m is) at → base_at (after m) (typ at) ≡ option_map (move_expr (rho_of m)) (base_at (before m) at)
  core_base at h =
      let row = place_has h.there.rec.type_def at.row h.there.below in
      let e : slice_get (core_of m).type_def at.row ≡ Some row.0 = ap (λ (rec : AsmRec). slice_get rec.type_def at.row) (sym (core_rec m at h.there.rec h.there.here h.last)) ∙ row.1 in
      let right = row_right (names_before m) at.row row.0 (ap (λ (ts : List TypeDefRow). slice_get ts at.row) (sym (before_types m)) ∙ e) in
      ap (base_at (after m)) h.moved
      ∙ base_of (after m) (at_row 1 h.row) (left_core m) row.0 (after_core m) (type_same m at.row h.row h.goes ∙ e)
      ∙ core_in at.asm row.0 h.last right
      ∙ ap (option_map (move_expr (rho_of m))) (sym (base_of (before m) at (core_of m) row.0 (core_at m at h.last) e))

  -- ---- of no row

  gone_by : (recs : List AsmRec) (at : RowAt) → HasNone types_in recs at → (o : Option AsmRec) → slice_get recs at.asm ≡ o
      → option_and_then (λ (rec : AsmRec). option_and_then (base_in recs at.asm rec) (slice_get rec.type_def at.row)) o ≡ None
  gone_by recs at none None e = refl
  gone_by recs at none (Some rec) e = ap (option_and_then (base_in recs at.asm rec)) (place_past rec.type_def at.row (none rec e))

  pub base_moved : ReadsTokens m → HasGoodBases m → (at : RowAt) → TypeStays m is at → base_at (after m) (typ at) ≡ option_map (move_expr (rho_of m)) (base_at (before m) at)
  base_moved reads bases at stays = elim (situation m types_in number_type (type_kind m is) at stays) [
    | inl h ↦ input_base reads bases at h
    | inr other ↦ elim other [
      | inl h ↦ core_base at h
      | inr h ↦ gone_by (after m) (typ at) h.none_after (slice_get (after m) (typ at).asm) refl
          ∙ sym (ap (option_map (move_expr (rho_of m))) (gone_by (before m) at h.none_before (slice_get (before m) at.asm) refl))
    ]
  ]
