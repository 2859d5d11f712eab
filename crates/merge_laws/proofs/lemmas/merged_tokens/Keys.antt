-- A token that names a type has a key.
use Rattle.std.proofs.Common.{◌≡◌, ℕ, suc, ◌-◌, List, length, Bool, true, false, Option, Some, None, refl, ap, subst, ◌∙◌}
use Rattle.std.specs.Prelude.{slice_get, position, ◌==◌, if◌then◌else◌}
use Rattle.std.specs.Option.{is_some, option_and_then, option_map}
use Rattle.std.proofs.lemmas.Bool.{eq-eqb}
use Rattle.il_base.specs.declared.ids.TypeId.{TypeId}
use Rattle.il_base.specs.declared.ids.Item.TheVariants as item
use Rattle.il_base.specs.declared.sig.Sig.{Sig}
use Rattle.il_base.specs.declared.table.TheConstants.{TYPE_SPEC}
use Rattle.il_base.specs.declared.world_model.known.Known.{Known}
use Rattle.il_base.specs.declared.world_model.known.Known.TheVariants.{Good, Bad}
use Rattle.il_base.specs.declared.world_model.expr.TypeExpr.{TypeExpr, out-TypeExpr}
use Rattle.il_base.specs.declared.world_model.expr.TypeExpr.TheOpen.{TypeExpr-F}
use Rattle.il_base.specs.declared.world_model.expr.TypeExpr.TheVariants as expr
use Rattle.il_base.specs.declared.world_model.types.TypeSpecRow.{TypeSpecRow}
use Rattle.il_base.specs.declared.world_model.record.AsmRec.{AsmRec}
use Rattle.il_base.specs.world_model.Tokens.{table_of, index_in}
use Rattle.il_base.specs.world_model.Core.{is_code}
use Rattle.il_base.specs.world_model.Worlds.{known_then, type_id, core_types, prim_of, is_code_of, prim_type, sig_expr}
use Rattle.rules.specs.declared.link_rules.row_at.RowAt.{RowAt}
use Rattle.rules.specs.link_rules.Types.{definition_at}
use Rattle.rules.specs.link_rules.Signatures.{prim_at, definition_expr, known_expr, named_type, names_at, spec_type_at, token_type}
use Rattle.base_laws.proofs.lemmas.type_laws.Upwards.{out_is}
use Rattle.base_laws.proofs.lemmas.known_laws.Lists.{and_then_some}
use Rattle.run_laws.proofs.lemmas.marked_laws.Places.{prim_is_core}
use Rattle.rules.specs.mark_rules.Places.{is_core}
use Rattle.rules.specs.merge_rules.Keys.{TypeKey, named, spec, number_of, found_or, absent_number, class_number, numbered_key, spec_key, type_key, world_sig}
use Rattle.merge_laws.proofs.lemmas.merged_owners.Homes.{passes_any}
use Rattle.merge_laws.proofs.lemmas.merged_tokens.Once.{any_position}

-- a key that says what a type names: a type of the core library, or the definition itself
pub data Says (recs : List AsmRec) (e : TypeExpr) : TypeKey → Type 0 where
  of_core : (t : TypeId) → is_core recs (item.Typ t) ≡ true → Says recs e (named t)
  of_definition : (t : TypeId) → e ≡ expr.Def t → Says recs e (named t)
  of_signature : (s : Sig) → Says recs e (spec s)

pub record HasKey (recs : List AsmRec) (a : ℕ) (rec : AsmRec) (token : ℕ) (e : TypeExpr) : Type 0 where
  pub key : TypeKey
  pub is : type_key recs a rec token ≡ Some key
  pub says : Says recs e key

pub known_good : {A B : Type 0} (f : A → Known B) (x : Known A) (y : B) → known_then f x ≡ Good y → (z : A) × (x ≡ Good z) × (f z ≡ Good y)
known_good f (Good z) y e = (z, refl, e)
known_good f (Bad why) y e = absurd (cc)

module _ (recs : List AsmRec) where
  -- ---- the number of a definition

  abbrev number_in : TypeExpr-F TypeExpr → ℕ
  number_in (TypeExpr-F.Def t) = suc t.0
  number_in (TypeExpr-F.Prim n) = elim (prim_type recs n) [ Some t ↦ suc t.0 | None ↦ 0 ]
  number_in _ = 0

  number_is : (e : TypeExpr) → number_of recs (Good e) ≡ number_in (out-TypeExpr e)
  number_is e = refl

  def_number : (t : TypeId) → number_of recs (Good (expr.Def t)) ≡ suc t.0
  def_number t = number_is (expr.Def t) ∙ ap number_in (out_is (TypeExpr-F.Def t) (expr.Def t) (expr.rolls-Def t))

  prim_number : (n : ℕ) (t : TypeId) → prim_type recs n ≡ Some t → number_of recs (Good (expr.Prim n)) ≡ suc t.0
  prim_number n t e =
      number_is (expr.Prim n) ∙ ap number_in (out_is (TypeExpr-F.Prim n) (expr.Prim n) (expr.rolls-Prim n)) ∙ ap (λ (o : Option TypeId). elim o [ Some u ↦ suc u.0 | None ↦ 0 ]) e

  -- a primitive of the core library is a type of it
  prim_some : (n : ℕ) (o : Option ℕ) → is_some o ≡ true → (t : TypeId) × (option_map (λ k. type_id recs (length recs - 1) k) o ≡ Some t)
  prim_some n None h = absurd (cc)
  prim_some n (Some k) h = (type_id recs (length recs - 1) k, refl)

  code_some : (n : ℕ) (o : Option ℕ) → o ≡ Some n → is_code n o ≡ true
  code_some n None e = absurd (cc)
  code_some n (Some m) e = let same : m ≡ n = cc in eq-eqb m n same

  prim_by : (at : RowAt) (n : ℕ) (b : Bool) → (if b then option_and_then prim_of (slice_get (core_types recs) at.row) else None) ≡ Some n
      → (t : TypeId) × (option_map (λ k. type_id recs (length recs - 1) k) (position (is_code_of n) (core_types recs)) ≡ Some t)
  prim_by at n true e =
      let r = and_then_some prim_of (slice_get (core_types recs) at.row) n e in
      prim_some n (position (is_code_of n) (core_types recs)) (any_position (is_code_of n) (core_types recs) (passes_any (is_code_of n) (core_types recs) at.row r.0 r.1 (code_some n (prim_of r.0) r.2)))
  prim_by at n false e = absurd (cc)

  prim_there : (at : RowAt) (n : ℕ) → prim_at recs at ≡ Some n → (t : TypeId) × (prim_type recs n ≡ Some t)
  unfolding prim_type
  prim_there at n h = prim_by at n (suc at.asm == length recs) h

  -- ---- the key of a token

  module _ (a : ℕ) (rec : AsmRec) (token : ℕ) where
    key_of_number : (t : TypeId) → (table_of token == TYPE_SPEC) ≡ false → number_of recs (named_type recs a rec token) ≡ suc t.0 → type_key recs a rec token ≡ Some (named t)
    unfolding type_key class_number
    key_of_number t other e =
        ap (λ (b : Bool). if b then spec_key recs a rec (option_and_then (slice_get rec.type_spec) (index_in TYPE_SPEC token)) else numbered_key (found_or (number_of recs (named_type recs a rec token)) (absent_number recs a token))) other
        ∙ ap (λ (n : ℕ). numbered_key (found_or n (absent_number recs a token))) e

    by_prim : (at : RowAt) (o : Option ℕ) → prim_at recs at ≡ o → (table_of token == TYPE_SPEC) ≡ false → named_type recs a rec token ≡ Good (elim o [ Some n ↦ expr.Prim n | None ↦ expr.Def (type_id recs at.asm at.row) ])
        → HasKey recs a rec token (elim o [ Some n ↦ expr.Prim n | None ↦ expr.Def (type_id recs at.asm at.row) ])
    by_prim at None is other e =
        let t : TypeId = type_id recs at.asm at.row in
        record { key = named t; is = key_of_number t other (ap (number_of recs) e ∙ def_number t); says = of_definition t refl }
    by_prim at (Some n) is other e =
        let p = prim_there at n is in
        record { key = named p.0; is = key_of_number p.0 other (ap (number_of recs) e ∙ prim_number n p.0 p.1); says = of_core p.0 (prim_is_core recs n p.0 p.1) }

    by_home : (o : Option RowAt) (e : TypeExpr) → (table_of token == TYPE_SPEC) ≡ false → named_type recs a rec token ≡ known_expr recs o → known_expr recs o ≡ Good e → HasKey recs a rec token e
    unfolding definition_expr
    by_home None e other is h = absurd (cc)
    by_home (Some at) e other is h =
        let same : (elim (prim_at recs at) [ Some n ↦ expr.Prim n | None ↦ expr.Def (type_id recs at.asm at.row) ]) ≡ e = cc in
        subst (HasKey recs a rec token) same (by_prim at (prim_at recs at) refl other is)

    of_name : (e : TypeExpr) → (table_of token == TYPE_SPEC) ≡ false → named_type recs a rec token ≡ Good e → HasKey recs a rec token e
    unfolding named_type
    of_name e other h = by_home (definition_at recs a rec token) e other refl h

    spec_signature : (row : TypeSpecRow) (s : Sig) → row.signature ≡ Good s → spec_key recs a rec (Some row) ≡ Some (spec (world_sig recs a rec s))
    spec_signature row s e = ap (λ (x : Known Sig). spec_key recs a rec (Some (record { signature = x }))) e

    of_spec : (e : TypeExpr) (o : Option TypeSpecRow) → option_and_then (slice_get rec.type_spec) (index_in TYPE_SPEC token) ≡ o → (table_of token == TYPE_SPEC) ≡ true → spec_type_at recs a rec o ≡ Good e → HasKey recs a rec token e
    unfolding type_key
    of_spec e None is this h = absurd (cc)
    of_spec e (Some row) is this h =
        let s = known_good (sig_expr (names_at recs a rec)) row.signature e h in
        record {
          key = spec (world_sig recs a rec s.0);
          is =
              ap (λ (b : Bool). if b then spec_key recs a rec (option_and_then (slice_get rec.type_spec) (index_in TYPE_SPEC token)) else numbered_key (class_number recs a rec token)) this
              ∙ ap (spec_key recs a rec) is ∙ spec_signature row s.0 s.1;
          says = of_signature (world_sig recs a rec s.0);
        }

    key_by : (e : TypeExpr) (b : Bool) → (table_of token == TYPE_SPEC) ≡ b
        → (if b then spec_type_at recs a rec (option_and_then (slice_get rec.type_spec) (index_in TYPE_SPEC token)) else named_type recs a rec token) ≡ Good e → HasKey recs a rec token e
    key_by e true this h = of_spec e (option_and_then (slice_get rec.type_spec) (index_in TYPE_SPEC token)) refl this h
    key_by e false this h = of_name e this h

    pub token_key : (e : TypeExpr) → token_type recs a rec token ≡ Good e → HasKey recs a rec token e
    unfolding token_type
    token_key e h = key_by e (table_of token == TYPE_SPEC) refl h
