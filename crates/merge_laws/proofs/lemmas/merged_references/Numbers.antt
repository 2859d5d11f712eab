-- The new numbers of kept types and of those of the core library, and what their rows are as types.
use Rattle.std.proofs.Common.{◌≡◌, ◌<◌, ◌≤◌, ◌+◌, ◌-◌, ℕ, suc, List, [], ◌∷◌, ◌++◌, length, cond, Bool, true, false, Option, Some, None, refl, sym, ap, ◌∙◌, ◌&&◌, not, arith, unwrap_or, eq-eqb}
use Rattle.std.specs.Prelude.{slice_get, position, nat_lt, nat_le, if◌then◌else◌}
use Rattle.std.specs.List.{list_any, position_or_len}
use Rattle.std.specs.Option.{option_map, option_and_then}
use Rattle.std.proofs.lemmas.Bool.{lt-ltb, le-ltb, le-leb, ne_eqb, or_parts, false_from_ne_true}
use Rattle.il_base.specs.declared.world_model.expr.TypeExpr.{TypeExpr}
use Rattle.il_base.specs.declared.world_model.expr.TypeExpr.TheVariants as expr
use Rattle.il_base.specs.declared.world_model.types.TypeDefRow.{TypeDefRow}
use Rattle.il_base.specs.declared.world_model.record.AsmRec.{AsmRec}
use Rattle.il_base.specs.world_model.Worlds.{rows_before, types_in, type_id, core_types, prim_of}
use Rattle.rules.specs.declared.link_rules.row_at.RowAt.{RowAt}
use Rattle.rules.specs.link_rules.Types.{at_row}
use Rattle.rules.specs.link_rules.Cycles.{same_row}
use Rattle.rules.specs.link_rules.Signatures.{prim_at, definition_expr}
use Rattle.rules.specs.link_rules.Members.{home_from}
use Rattle.base_laws.proofs.lemmas.type_laws.Within.{In, in_any}
use Rattle.base_laws.proofs.lemmas.type_laws.Places.{rows_decide, home_is}
use Rattle.rules.specs.merge_rules.Numbers.{new_row}
use Rattle.rules.specs.change_rules.Change.{Rho}
use Rattle.rules.specs.change_rules.Moves.{move_expr}
use Rattle.base_laws.proofs.lemmas.change_laws.Exprs.{move_prim, move_def}
use Rattle.rules.specs.world_change_rules.Places.{type_number}
use Rattle.rules.specs.merged_world_rules.Numbering.{CoreRows, in_inputs, in_all, other_number, new_number}
use Rattle.merge_laws.proofs.lemmas.merged_references.Rows.{under}

-- ---- an item that isn't there

none_passes : {A : Type 0} (p : A → Bool) (xs : List A) → list_any p xs ≡ false → position_or_len p xs ≡ length xs
none_passes p [] e = refl
none_passes p (x ∷ xs) e =
    let b = or_parts (p x) (list_any p xs) e in
    ap (λ (c : Bool). cond (not c) (1 + position_or_len p xs) 0) b.0 ∙ ap (λ (n : ℕ). 1 + n) (none_passes p xs b.1) ∙ omega arith

pub not_placed : {A : Type 0} (p : A → Bool) (xs : List A) → list_any p xs ≡ false → position p xs ≡ None
not_placed p xs e =
    let n : position_or_len p xs ≡ length xs = none_passes p xs e in
    ap (λ (b : Bool). cond b (Some (position_or_len p xs)) None) (le-ltb (position_or_len p xs) (length xs) (omega (arith, n)))

-- ---- numbers

module _ (c : CoreRows) (recs : List AsmRec) (rows : List RowAt) (n : ℕ) (at : RowAt) (home : home_from types_in 0 recs n ≡ Some at) where
  abbrev other : ℕ
  other = other_number c (length rows) (in_inputs types_in recs) (in_all types_in recs) n

  pub kept_number : (k : ℕ) → new_row rows at ≡ Some k → new_number types_in c recs rows n ≡ k
  unfolding new_number
  kept_number k e = ap (λ (o : Option RowAt). unwrap_or (option_and_then (new_row rows) o) other) home ∙ ap (λ (o : Option ℕ). unwrap_or o other) e

  module _ (before : (x : RowAt) → In x rows → suc x.asm < length recs) (last : suc at.asm ≡ length recs) where
    not_kept : new_row rows at ≡ None
    not_kept =
        not_placed (same_row at) rows
        (false_from_ne_true (list_any (same_row at) rows) (λ e. let lt = before at (in_any same_row rows_decide at rows e) in omega (arith, lt, last)))

    other_is : (below all s : ℕ) → below + at.row ≡ n → n < all → c.to at.row ≡ Some s → other_number c (length rows) below all n ≡ length rows + s
    other_is below all s e lt to =
        let le : below ≤ n = omega (arith, e) in
        let test : (nat_le below n && nat_lt n all) ≡ true = λ i. le-leb below n le i && lt-ltb n all lt i in
        let place : n - below ≡ at.row = omega (arith, e) in
        ap (λ (b : Bool). unwrap_or (option_map (λ r. length rows + r) (if b then c.to (n - below) else None)) (length rows + c.count + n)) test
        ∙ ap (λ (k : ℕ). unwrap_or (option_map (λ r. length rows + r) (c.to k)) (length rows + c.count + n)) place
        ∙ ap (λ (o : Option ℕ). unwrap_or (option_map (λ r. length rows + r) o) (length rows + c.count + n)) to

    pub core_number : (s : ℕ) → c.to at.row ≡ Some s → new_number types_in c recs rows n ≡ length rows + s
    unfolding new_number
    core_number s to =
        let h = home_is recs 0 n at home in
        let asm : length recs - 1 ≡ h.asm = omega (arith, h.numbered, last) in
        let below : rows_before types_in recs (length recs - 1) ≡ rows_before types_in recs h.asm = ap (rows_before types_in recs) asm in
        let lt : rows_before types_in recs h.asm + at.row < rows_before types_in recs (length recs) = under recs h.asm at.row h.rec h.there h.below in
        ap (λ (o : Option RowAt). unwrap_or (option_and_then (new_row rows) o) other) home ∙ ap (λ (o : Option ℕ). unwrap_or o other) not_kept
        ∙ other_is (in_inputs types_in recs) (in_all types_in recs) s (omega (arith, below, h.id)) (omega (arith, lt, h.id)) to

-- ---- types

pub core_types_are : (recs : List AsmRec) (core : AsmRec) → core_types (recs ++ core ∷ []) ≡ core.type_def
unfolding core_types
core_types_are [] core = refl
core_types_are (r ∷ []) core = refl
core_types_are (r ∷ s ∷ recs) core = core_types_are (s ∷ recs) core

module _ (inputs : List AsmRec) (core core_after left : AsmRec) (r : Rho) (at : RowAt) where
  abbrev recs : List AsmRec
  recs = inputs ++ core ∷ []

  abbrev world : List AsmRec
  world = left ∷ core_after ∷ []

  own_expr : suc at.asm < length recs → definition_expr recs at ≡ expr.Def (type_id recs at.asm at.row)
  unfolding definition_expr
  own_expr lt =
      ap (λ (b : Bool). elim (if b then option_and_then prim_of (slice_get (core_types recs) at.row) else None) [ Some n ↦ expr.Prim n | None ↦ expr.Def (type_id recs at.asm at.row) ])
      (ne_eqb (suc at.asm) (length recs) (λ e. omega (arith, lt, e)))

  new_own : (k : ℕ) → definition_expr world (at_row 0 k) ≡ expr.Def (record { 0 = k })
  unfolding definition_expr rows_before
  new_own k = let e : 0 + k ≡ k = omega arith in ap (λ (n : ℕ). expr.Def (record { 0 = n })) e

  pub input_moved : (k : ℕ) → suc at.asm < length recs → r.typ (type_number recs at) ≡ k → definition_expr world (at_row 0 k) ≡ move_expr r (definition_expr recs at)
  input_moved k lt e =
      new_own k ∙ ap (λ (n : ℕ). expr.Def (record { 0 = n })) (sym e) ∙ sym (move_def r (type_id recs at.asm at.row)) ∙ ap (move_expr r) (sym (own_expr lt))

  pub core_prim : suc at.asm ≡ length recs → prim_at recs at ≡ option_and_then prim_of (slice_get core.type_def at.row)
  core_prim last =
      ap (λ (b : Bool). if b then option_and_then prim_of (slice_get (core_types recs) at.row) else None) (eq-eqb (suc at.asm) (length recs) last)
      ∙ ap (λ (rows : List TypeDefRow). option_and_then prim_of (slice_get rows at.row)) (core_types_are inputs core)

  either_moved : (o : Option ℕ) (s : ℕ) → r.typ (type_number recs at) ≡ length left.type_def + 0 + s
      → elim o as (λ o. TypeExpr) [ Some n ↦ expr.Prim n | None ↦ expr.Def (record { 0 = length left.type_def + 0 + s }) ]
      ≡ move_expr r (elim o as (λ o. TypeExpr) [ Some n ↦ expr.Prim n | None ↦ expr.Def (type_id recs at.asm at.row) ])
  either_moved None s e = ap (λ (n : ℕ). expr.Def (record { 0 = n })) (sym e) ∙ sym (move_def r (type_id recs at.asm at.row))
  either_moved (Some n) s e = sym (move_prim r n)

  -- a row of the core library is the same element type as the row that it becomes
  pub core_moved : suc at.asm ≡ length recs → (s : ℕ) → option_and_then prim_of (slice_get core_after.type_def s) ≡ option_and_then prim_of (slice_get core.type_def at.row) → r.typ (type_number recs at) ≡ length left.type_def + s
      → definition_expr world (at_row 1 s) ≡ move_expr r (definition_expr recs at)
  unfolding definition_expr rows_before core_types
  core_moved last s same e =
      either_moved (option_and_then prim_of (slice_get core_after.type_def s)) s (omega (arith, e))
      ∙ ap (λ (o : Option ℕ). move_expr r (elim o as (λ o. TypeExpr) [ Some n ↦ expr.Prim n | None ↦ expr.Def (type_id recs at.asm at.row) ])) (same ∙ sym (core_prim last))
