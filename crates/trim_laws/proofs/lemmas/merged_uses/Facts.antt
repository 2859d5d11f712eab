-- The tokens of definitions that the output has name them, moved.
use Rattle.std.proofs.Common.{◌≡◌, ◌<◌, ℕ, zero, suc, ◌-◌, get_or, Bool, true, List, [], ◌∷◌, length, map, Option, Some, None, ◌⊎◌, inl, inr, refl, sym, ap, subst, ◌∙◌, arith}
use Rattle.std.specs.Prelude.{slice_get, position, if◌then◌else◌}
use Rattle.std.specs.Option.{option_map, option_and_then}
use Rattle.std.proofs.lemmas.Bool.{eq-eqb, eqb-true}
use Rattle.std.proofs.lemmas.List.Quantifiers.{position-Some}
use Rattle.il_base.specs.declared.ids.TypeId.{TypeId}
use Rattle.il_base.specs.declared.world_model.known.Known.{Known}
use Rattle.il_base.specs.declared.world_model.known.Known.TheVariants.{Good}
use Rattle.il_base.specs.declared.world_model.expr.TypeExpr.{TypeExpr}
use Rattle.il_base.specs.declared.world_model.expr.TypeExpr.TheVariants as expr
use Rattle.il_base.specs.declared.world_model.types.TypeDefRow.{TypeDefRow}
use Rattle.il_base.specs.declared.world_model.record.AsmRec.{AsmRec}
use Rattle.il_base.specs.world_model.Core.{is_code}
use Rattle.il_base.specs.world_model.Worlds.{known_then, type_id, core_types, prim_of, is_code_of, prim_type, known_type, named_in, definition_in, definition_of, definition_named, found_or_named, modifier_named}
use Rattle.il_base.specs.core_table.Record.{core_record}
use Rattle.rules.specs.declared.link_rules.row_at.RowAt.{RowAt}
use Rattle.rules.specs.link_rules.CoreNames.{added_row}
use Rattle.rules.specs.link_rules.Linked.{assemblies}
use Rattle.rules.specs.link_rules.Types.{at_row, added_by}
use Rattle.rules.specs.link_rules.Signatures.{prim_at, definition_expr, named_type, names_at}
use Rattle.rules.specs.link_rules.Members.{type_home}
use Rattle.base_laws.proofs.lemmas.type_laws.Places.{home_at}
use Rattle.rules.specs.merge_rules.Keys.{number_or, class_number, modifier_number}
use Rattle.rules.specs.merge_rules.Refs.{number_token, type_token}
use Rattle.rules.specs.merge_rules.Restricted.{output_of}
use Rattle.rules.specs.change_rules.Moves.{move_type, move_expr}
use Rattle.rules.specs.merged_world_rules.Merge.{Merge, IsMerge, before, names_before, output}
use Rattle.rules.specs.merged_world_rules.NewNumbers.{rho_of}
use Rattle.run_laws.proofs.lemmas.query_laws.Prims.{prim_first}
use Rattle.merge_laws.proofs.lemmas.merged_places.Rows.{place_has, get_front}
use Rattle.merge_laws.proofs.lemmas.merged_places.Worlds.{before_length}
use Rattle.merge_laws.specs.merged_references.Written.{HasReferenceRows}
use Rattle.merge_laws.proofs.lemmas.merged_references.Found.{Stands, Names, Added, first_stands}
use Rattle.merge_laws.proofs.lemmas.merged_references.Merges as merges
use Rattle.merge_laws.proofs.lemmas.merged_references.Merges.{premises, number_is}
use Rattle.merge_laws.proofs.lemmas.merged_signatures.Reading.{good_then}
use Rattle.merge_laws.proofs.lemmas.merged_signatures.Agreeing as agreeing
use Rattle.merge_laws.proofs.lemmas.merged_signatures.Agreeing.{good_named}
use Rattle.merge_laws.proofs.lemmas.merged_signatures.Keys as keys
use Rattle.merge_laws.proofs.lemmas.merged_signatures.Keys.{Key}
use Rattle.merge_laws.proofs.lemmas.merged_signatures.Merges.{world, Has, stand}
use Rattle.merge_laws.proofs.lemmas.merged_rows_move.Core.{types_before}
use Rattle.trim_laws.proofs.lemmas.merged_uses.Leaves.{Leaf, alone, generic, modifier}
use Rattle.trim_laws.proofs.lemmas.merged_uses.Owners.{prim_out, def_out}
use Rattle.trim_laws.proofs.lemmas.merged_uses.Made.{Fact, leaf_type}
use Rattle.trim_laws.proofs.lemmas.merged_uses.Based.{own_names}
use Rattle.trim_laws.proofs.lemmas.merged_uses.Sound.{named_good, IsAlone, IsGeneric, IsModifier, Ok, def_is, prim_is}

-- ---- definitions

pub def_defined : (f : ℕ → Option TypeId) (t : TypeId) → definition_of f (expr.Def t) ≡ Good t
unfolding definition_of
def_defined f t = ap (definition_in f) (def_out t)

prim_defined : (f : ℕ → Option TypeId) (n : ℕ) (o : Option TypeId) → f n ≡ o → definition_of f (expr.Prim n) ≡ known_type o
unfolding definition_of
prim_defined f n o e = ap (definition_in f) (prim_out n) ∙ ap known_type e

pub prim_defined_is : (f : ℕ → Option TypeId) (n : ℕ) (t : TypeId) → f n ≡ Some t → definition_of f (expr.Prim n) ≡ Good t
prim_defined_is f n t e = prim_defined f n (Some t) e

one_type : (x y : TypeId) (k : Known TypeId) → k ≡ Good x → k ≡ Good y → x ≡ y
one_type x y k e f = let g : Good x ≡ Good y = sym e ∙ f in cc

known_is : (o : Option TypeId) (t : TypeId) → known_type o ≡ Good t → o ≡ Some t
known_is None t e = absurd (cc)
known_is (Some u) t e = let same : u ≡ t = cc in ap (λ (x : TypeId). Some x) same

module _ (recs : List AsmRec) where
  pub home_of_row : (at : RowAt) → Stands recs at → type_home recs (type_id recs at.asm at.row) ≡ Some at
  home_of_row at s = home_at recs 0 at.asm at.row s.rec s.there s.below ∙ ap (λ (a : ℕ). Some (at_row a at.row)) (omega arith)

  -- a type that a definition is, by itself or as a primitive
  defined_home : (at : RowAt) (t : TypeId) (o : Option ℕ) → prim_at recs at ≡ o → Names recs at → definition_of (prim_type recs) (definition_expr recs at) ≡ Good t
      → ((n : ℕ) → prim_type recs n ≡ Some t → (x : RowAt) × (type_home recs t ≡ Some x)) → (x : RowAt) × (type_home recs t ≡ Some x)
  defined_home at t None e n h prim =
      let same : type_id recs at.asm at.row ≡ t = one_type (type_id recs at.asm at.row) t (definition_of (prim_type recs) (definition_expr recs at)) (ap (definition_of (prim_type recs)) (def_is recs at e) ∙ def_defined (prim_type recs) (type_id recs at.asm at.row)) h in
      (at, ap (type_home recs) (sym same) ∙ home_of_row at n.stands)
  defined_home at t (Some k) e n h prim =
      prim k (known_is (prim_type recs k) t (sym (prim_defined (prim_type recs) k (prim_type recs k) refl) ∙ sym (ap (definition_of (prim_type recs)) (prim_is recs at k e)) ∙ h))

code_is : (n : ℕ) (o : Option ℕ) → is_code n o ≡ true → o ≡ Some n
code_is n None e = absurd (cc)
code_is n (Some k) e = ap (λ (j : ℕ). Some j) (eqb-true k n e)

item_is : {A : Type 0} (xs : List A) (k : ℕ) (x d : A) → slice_get xs k ≡ Some x → get_or xs k d ≡ x
item_is [] k x d e = absurd (cc)
item_is (y ∷ xs) zero x d e = cc
item_is (y ∷ xs) (suc k) x d e = item_is xs k x d e

-- ---- in a merge

module _ (m : Merge) (is : IsMerge m) where
  abbrev recs : List AsmRec
  recs = before m

  abbrev last_asm : ℕ
  last_asm = length (before m) - 1

  last_is : suc last_asm ≡ length (before m)
  last_is = let long = before_length m in omega (arith, long)

  -- ---- primitives

  -- the definition of a primitive
  pub record PrimAt (n : ℕ) (t : TypeId) : Type 0 where
    pub at : RowAt
    pub names : Names (before m) at
    pub home : type_home (before m) t ≡ Some at
    pub says : definition_expr (before m) at ≡ expr.Prim n

  prim_by : (n : ℕ) (t : TypeId) (o : Option ℕ) → position (is_code_of n) (core_types (before m)) ≡ o → option_map (λ k. type_id (before m) (length (before m) - 1) k) o ≡ Some t → PrimAt n t
  prim_by n t None f e = absurd (cc)
  prim_by n t (Some k) f e =
      let same : type_id (before m) last_asm k ≡ t = cc in
      let own : position (is_code_of n) core_record.type_def ≡ Some k =
      sym (prim_first n (map (added_row core_record) (names_before m))) ∙ ap (position (is_code_of n)) (sym (types_before m is)) ∙ f in
      by_row k same own
    where
      by_row : (k : ℕ) → type_id (before m) last_asm k ≡ t → position (is_code_of n) core_record.type_def ≡ Some k → PrimAt n t
      by_row k same own =
          let at : RowAt = at_row last_asm k in
          let some = some_row in
          let p = position-Some (is_code_of n) core_record.type_def k some own in
          let lt = p.0 in
          let row = place_has core_record.type_def k lt in
          let passes : is_code_of n row.0 ≡ true = ap (is_code_of n) (sym (item_is core_record.type_def k row.0 some row.1)) ∙ p.1 in
          let names = own_names m is last_asm k last_is lt in
          let prim : prim_at (before m) at ≡ Some n =
          ap (λ (b : Bool). if b then option_and_then prim_of (slice_get (core_types (before m)) k) else None) (eq-eqb (suc last_asm) (length (before m)) last_is)
          ∙ ap (λ (ts : List TypeDefRow). option_and_then prim_of (slice_get ts k)) (types_before m is)
          ∙ ap (option_and_then prim_of) (get_front core_record.type_def (map (added_row core_record) (names_before m)) k lt ∙ row.1)
          ∙ code_is n (prim_of row.0) passes in
          record { at = at; names = names; home = ap (type_home (before m)) (sym same) ∙ home_of_row (before m) at names.stands; says = prim_is (before m) at n prim }
        where
          some_row : TypeDefRow
          some_row = added_row core_record (record { namespace = []; name = [] })

  pub prim_there : (n : ℕ) (t : TypeId) → prim_type (before m) n ≡ Some t → PrimAt n t
  unfolding prim_type
  prim_there n t e = prim_by n t (position (is_code_of n) (core_types (before m))) refl e

  prim_home : (t : TypeId) (n : ℕ) → prim_type (before m) n ≡ Some t → (x : RowAt) × (type_home (before m) t ≡ Some x)
  prim_home t n e = let p = prim_there n t e in (p.at, p.home)

  -- ---- each definition stands in its table

  generic_home : (t : TypeId) → IsGeneric (before m) t → (x : RowAt) × (type_home (before m) t ≡ Some x)
  generic_home t g = defined_home (before m) g.at t (prim_at (before m) g.at) refl g.names g.defined (prim_home t)

  modifier_home : (t : TypeId) → Added (before m) t ⊎ IsGeneric (before m) t → (x : RowAt) × (type_home (before m) t ≡ Some x)
  modifier_home t (inl d) = (d.at, ap (type_home (before m)) (sym d.is) ∙ home_of_row (before m) d.at (first_stands (before m) d.at d.first))
  modifier_home t (inr g) = generic_home t g

  pub alone_generic : (t : TypeId) → IsAlone (before m) t → IsGeneric (before m) t
  alone_generic t a = record { at = a.at; names = a.names; defined = ap (definition_of (prim_type (before m))) a.is ∙ def_defined (prim_type (before m)) t }

  pub leaf_home : (l : Leaf) → Ok (before m) l → (x : RowAt) × (type_home (before m) (leaf_type l) ≡ Some x)
  leaf_home (alone t) h = generic_home t (alone_generic t h)
  leaf_home (generic t) h = generic_home t h
  leaf_home (modifier t) h = modifier_home t h.found

  -- ---- what the token names

  module _ (rows : HasReferenceRows m) where
    abbrev here : List AsmRec
    here = world m is rows

    named_by : (at : RowAt) (t : TypeId) → Names (before m) at → definition_of (prim_type (before m)) (definition_expr (before m) at) ≡ Good t → Has m is rows t
        → (named_type here 0 m.left (type_token (output m) t) ≡ Good (move_expr (rho_of m) (definition_expr (before m) at))) × (definition_of (prim_type here) (move_expr (rho_of m) (definition_expr (before m) at)) ≡ Good (move_type (rho_of m) t))
        × (added_by here 0 m.left (type_token (output m) t) ≡ None)
    unfolding assemblies output_of
    named_by at t n h w =
        let k = keys.key_of m.internal m.inputs (merges.names m is rows) (merges.those m is rows) m.kept (output m).mets m.left (premises m is rows) (rho_of m) (number_is m is rows) at n in
        let same : k.t ≡ t = one_type k.t t (definition_of (prim_type (before m)) (definition_expr (before m) at)) k.defined h in
        let w' : Has m is rows k.t = subst (Has m is rows) (sym same) w in (
          ap (λ (u : TypeId). named_type here 0 m.left (type_token (output m) u)) (sym same) ∙ k.token_names w',
          k.moved ∙ ap (λ (u : TypeId). Good (move_type (rho_of m) u)) same,
          ap (λ (u : TypeId). added_by here 0 m.left (type_token (output m) u)) (sym same) ∙ k.none w',
        )

    pub named_token : (at : RowAt) (t : TypeId) → Names (before m) at → definition_of (prim_type (before m)) (definition_expr (before m) at) ≡ Good t → Has m is rows t
        → named_type here 0 m.left (type_token (output m) t) ≡ Good (move_expr (rho_of m) (definition_expr (before m) at))
    named_token at t n h w = (named_by at t n h w).0

    token_of_number : (t : TypeId) → number_token (output m) (suc t.0) ≡ type_token (output m) t
    token_of_number t = refl

    abbrev IsFact : Leaf → Type 0
    IsFact l = Fact (output m) (before m) (names_at here 0 m.left) (rho_of m) l

    alone_fact : (t : TypeId) → IsAlone (before m) t → Has m is rows t → IsFact (alone t)
    alone_fact t a w =
        let e = (named_by a.at t a.names (ap (definition_of (prim_type (before m))) a.is ∙ def_defined (prim_type (before m)) t) w).0 in
        ap (named_in (names_at here 0 m.left).types) (token_of_number t) ∙ good_named here 0 m.left (type_token (output m) t) (move_expr (rho_of m) (definition_expr (before m) a.at)) e
        ∙ ap (λ (x : TypeExpr). Good (move_expr (rho_of m) x)) a.is

    generic_fact : (t : TypeId) → IsGeneric (before m) t → Has m is rows t → IsFact (generic t)
    unfolding definition_named
    generic_fact t g w =
        let e = named_by g.at t g.names g.defined w in
        ap (known_then (definition_of (prim_type here))) (ap (named_in (names_at here 0 m.left).types) (token_of_number t) ∙ good_named here 0 m.left (type_token (output m) t) (move_expr (rho_of m) (definition_expr (before m) g.at)) e.0)
        ∙ e.1

    -- ---- modifiers

    modifier_numbered : (t : TypeId) (a : ℕ) (rec : AsmRec) (there : slice_get (before m) a ≡ Some rec) (input : suc a < length (before m)) (token : ℕ) (o : Option TypeId) → added_by (before m) a rec token ≡ o
        → found_or_named o (definition_named (names_at (before m) a rec) token) ≡ Good t → number_or o (class_number (before m) a rec token) ≡ suc t.0
    unfolding assemblies output_of definition_named
    modifier_numbered t a rec there input token (Some u) f h = let same : u ≡ t = cc in ap (λ (x : TypeId). suc x.0) same
    modifier_numbered t a rec there input token None f h =
        let g = good_then (definition_of (prim_type (before m))) (named_in (names_at (before m) a rec).types token) t h in
        let n = agreeing.named m.internal m.inputs (merges.names m is rows) (merges.those m is rows) m.kept (output m).mets m.left (premises m is rows) (rho_of m) (number_is m is rows) a rec (stand m is rows a rec there input) token g.from (named_good (before m) a rec there input token g.from g.is) in
        let same : n.key.t ≡ t = one_type n.key.t t (definition_of (prim_type (before m)) g.from) (ap (definition_of (prim_type (before m))) (sym n.gives) ∙ n.key.defined) g.gives in
        n.class ∙ ap (λ (x : TypeId). suc x.0) same

    modifier_fact : (t : TypeId) → IsModifier (before m) t → Has m is rows t → IsFact (modifier t)
    unfolding assemblies output_of modifier_named
    modifier_fact t d w =
        let e : modifier_number (before m) d.a d.rec d.token ≡ suc t.0 = modifier_numbered t d.a d.rec d.there d.input d.token (added_by (before m) d.a d.rec d.token) refl d.names in
        let agree = agreeing.agrees m.internal m.inputs (merges.names m is rows) (merges.those m is rows) m.kept (output m).mets m.left (premises m is rows) (rho_of m) (number_is m is rows) d.a d.rec (stand m is rows d.a d.rec d.there d.input) in
        ap (λ (k : ℕ). modifier_named (names_at here 0 m.left) (number_token (output m) k)) (sym e)
        ∙ agree.modifies d.token t d.names (λ u f. subst (Has m is rows) (same_number t u (sym e ∙ f)) w)
      where
        same_number : (t u : TypeId) → suc t.0 ≡ suc u.0 → t ≡ u
        same_number t u f = ap (λ (k : ℕ). record { 0 = k }) (omega (arith, f))

    pub leaf_fact : (l : Leaf) → Ok (before m) l → Has m is rows (leaf_type l) → IsFact l
    leaf_fact (alone t) h w = alone_fact t h w
    leaf_fact (generic t) h w = generic_fact t h w
    leaf_fact (modifier t) h w = modifier_fact t h w
