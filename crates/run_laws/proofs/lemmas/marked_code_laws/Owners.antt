-- A method or a field that a token names is in the run of the definition of its owner.
use Rattle.std.proofs.Common.{◌≡◌, ℕ, zero, suc, ◌+◌, ◌-◌, ◌<◌, Bool, true, List, [], ◌∷◌, length, map, Option, Some, None, refl, sym, ap, subst as transport, ◌∙◌, arith}
use Rattle.std.specs.Prelude.{⊤, slice_get}
use Rattle.std.specs.List.{position_from}
use Rattle.std.specs.Option.{option_map, option_and_then}
use Rattle.il_base.specs.declared.world_model.expr.TypeExpr.{TypeExpr, out-TypeExpr, roll-TypeExpr, roll-out-TypeExpr}
use Rattle.il_base.specs.declared.world_model.expr.TypeExpr.TheOpen.{TypeExpr-F}
use Rattle.il_base.specs.declared.world_model.expr.TypeExpr.TheVariants as expr
use Rattle.il_base.specs.declared.world_model.types.TypeDefRow.{TypeDefRow}
use Rattle.il_base.specs.declared.world_model.record.AsmRec.{AsmRec}
use Rattle.il_base.specs.world_model.Exprs.{subst}
use Rattle.il_base.specs.world_model.Worlds.{type_id, types_in}
use Rattle.il_base.proofs.lemmas.world_model.ExprLayers.{subst_prim, subst_def, subst_inst, subst_array}
use Rattle.rules.specs.declared.link_rules.row_at.RowAt.{RowAt}
use Rattle.rules.specs.link_rules.Types.{at_row}
use Rattle.rules.specs.link_rules.Signatures.{prim_at, definition_expr}
use Rattle.rules.specs.link_rules.Members.{Found, is_in_run, found_in, or_next, search, own_args, closed, type_home, owner_in, args_of, run_of, in_definition, with_own_args, own_type, param_count}
use Rattle.rules.specs.link_rules.Cycles.{home_of}
use Rattle.base_laws.proofs.lemmas.type_laws.Places.{place_within}
use Rattle.base_laws.proofs.lemmas.type_laws.Upwards.{out_is, owner_as}
use Rattle.base_laws.proofs.lemmas.walk_laws.Finds.{defined, in_run, finds, found}
use Rattle.run_laws.proofs.lemmas.marked_laws.Places.{number_home}
use Rattle.run_laws.specs.marked_code_laws.Laws.{RunsApart}

module _ (recs : List AsmRec) where
  -- whether the definition that a type is of stands in a row; primitives and arrays are of the core library
  abbrev pub owned_in : RowAt → TypeExpr-F TypeExpr → Type 0
  owned_in owner (TypeExpr-F.Prim n) = ⊤
  owned_in owner (TypeExpr-F.Def t) = type_home recs t ≡ Some owner
  owned_in owner (TypeExpr-F.Inst t args) = type_home recs t ≡ Some owner
  owned_in owner (TypeExpr-F.Array x) = ⊤
  owned_in owner (TypeExpr-F.ByRef x) = ⊥
  owned_in owner (TypeExpr-F.Var n) = ⊥
  owned_in owner (TypeExpr-F.MVar n) = ⊥
  owned_in owner (TypeExpr-F.Mod required by x) = ⊥

  pub record OwnedBy (owner : RowAt) (e : TypeExpr) : Type 0 where
    pub is : owned_in owner (out-TypeExpr e)

  pub owned_as : (owner : RowAt) (x : TypeExpr-F TypeExpr) (e : TypeExpr) → roll-TypeExpr x ≡ e → owned_in owner x → OwnedBy owner e
  owned_as owner x e rolls h = record { is = transport (owned_in owner) (sym (out_is x e rolls)) h }

  -- ---- a type that has a definition

  home_by : (owner : RowAt) (x : TypeExpr-F TypeExpr) → option_and_then (type_home recs) (owner_in recs x) ≡ Some owner → owned_in owner x
  home_by owner (TypeExpr-F.Prim n) h = tt
  home_by owner (TypeExpr-F.Def t) h = h
  home_by owner (TypeExpr-F.Inst t args) h = h
  home_by owner (TypeExpr-F.Array x) h = tt
  home_by owner (TypeExpr-F.ByRef x) h = absurd (cc)
  home_by owner (TypeExpr-F.Var n) h = absurd (cc)
  home_by owner (TypeExpr-F.MVar n) h = absurd (cc)
  home_by owner (TypeExpr-F.Mod required by x) h = absurd (cc)

  pub home_owned : (owner : RowAt) (e : TypeExpr) → home_of recs e ≡ Some owner → OwnedBy owner e
  home_owned owner e h =
      record { is = home_by owner (out-TypeExpr e) (sym (ap (option_and_then (type_home recs)) (owner_as recs [] (out-TypeExpr e) e (roll-out-TypeExpr e))) ∙ h) }

  -- ---- with arguments put in

  module _ (owner : RowAt) (targs : List TypeExpr) where
    closed_by : (x : TypeExpr-F TypeExpr) → owned_in owner x → (e : TypeExpr) → roll-TypeExpr x ≡ e → OwnedBy owner (subst targs [] e)
    closed_by (TypeExpr-F.Prim n) h e is =
        let there : subst targs [] e ≡ expr.Prim n = ap (subst targs []) (sym is ∙ expr.rolls-Prim n) ∙ subst_prim targs [] n in
        transport (OwnedBy owner) (sym there) (owned_as owner (TypeExpr-F.Prim n) (expr.Prim n) (expr.rolls-Prim n) h)
    closed_by (TypeExpr-F.Def t) h e is =
        let there : subst targs [] e ≡ expr.Def t = ap (subst targs []) (sym is ∙ expr.rolls-Def t) ∙ subst_def targs [] t in
        transport (OwnedBy owner) (sym there) (owned_as owner (TypeExpr-F.Def t) (expr.Def t) (expr.rolls-Def t) h)
    closed_by (TypeExpr-F.Inst t args) h e is =
        let there : subst targs [] e ≡ expr.Inst t (map (subst targs []) args) = ap (subst targs []) (sym is ∙ expr.rolls-Inst t args) ∙ subst_inst targs [] t args in
        transport (OwnedBy owner) (sym there) (owned_as owner (TypeExpr-F.Inst t (map (subst targs []) args)) (expr.Inst t (map (subst targs []) args)) (expr.rolls-Inst t (map (subst targs []) args)) h)
    closed_by (TypeExpr-F.Array x) h e is =
        let there : subst targs [] e ≡ expr.Array (subst targs [] x) = ap (subst targs []) (sym is ∙ expr.rolls-Array x) ∙ subst_array targs [] x in
        transport (OwnedBy owner) (sym there) (owned_as owner (TypeExpr-F.Array (subst targs [] x)) (expr.Array (subst targs [] x)) (expr.rolls-Array (subst targs [] x)) tt)
    closed_by (TypeExpr-F.ByRef x) h e is = absurd h
    closed_by (TypeExpr-F.Var n) h e is = absurd h
    closed_by (TypeExpr-F.MVar n) h e is = absurd h
    closed_by (TypeExpr-F.Mod required by x) h e is = absurd h

    pub closed_owned : (e : TypeExpr) → OwnedBy owner e → OwnedBy owner (subst targs [] e)
    closed_owned e h = closed_by (out-TypeExpr e) h.is e (roll-out-TypeExpr e)

  -- ---- a type in itself

  module _ (rec : AsmRec) (at : RowAt) (t : TypeDefRow) (there : slice_get recs at.asm ≡ Some rec) (row : slice_get rec.type_def at.row ≡ Some t) where
    pub own_home : type_home recs (type_id recs at.asm at.row) ≡ Some at
    own_home =
        let z : 0 + at.asm ≡ at.asm = omega arith in
        number_home types_in recs 0 at.asm at.row rec there (place_within rec.type_def at.row t row) ∙ ap (λ (a : ℕ). Some (at_row a at.row)) z

    prim_by : (o : Option ℕ) → OwnedBy at (elim o [ Some n ↦ expr.Prim n | None ↦ expr.Def (type_id recs at.asm at.row) ])
    prim_by (Some n) = owned_as at (TypeExpr-F.Prim n) (expr.Prim n) (expr.rolls-Prim n) tt
    prim_by None = owned_as at (TypeExpr-F.Def (type_id recs at.asm at.row)) (expr.Def (type_id recs at.asm at.row)) (expr.rolls-Def (type_id recs at.asm at.row)) own_home

    definition_owned : OwnedBy at (definition_expr recs at)
    unfolding definition_expr
    definition_owned = prim_by (prim_at recs at)

    with_args : (n : ℕ) → OwnedBy at (with_own_args recs at n)
    with_args zero = definition_owned
    with_args (suc n) =
        owned_as at (TypeExpr-F.Inst (type_id recs at.asm at.row) (own_args (suc n))) (expr.Inst (type_id recs at.asm at.row) (own_args (suc n))) (expr.rolls-Inst (type_id recs at.asm at.row) (own_args (suc n))) own_home

    own_owned : OwnedBy at (own_type recs rec at)
    unfolding own_type
    own_owned = with_args (param_count rec at.row)

-- ---- the type in whose run a row is

abbrev pub run_owner : List AsmRec → (ℕ → TypeDefRow → Bool) → RowAt → Option RowAt
run_owner recs owns at = option_and_then (λ (rec : AsmRec). option_map (at_row at.asm) (position_from (owns (suc at.row)) 0 rec.type_def)) (slice_get recs at.asm)

-- a row of a member, whose type's run has it
pub record InOwner {A : Type 0} (recs : List AsmRec) (owns : ℕ → TypeDefRow → Bool) (rows : AsmRec → List A) (owner at : RowAt) : Type 0 where
  pub rec : AsmRec
  pub there : slice_get recs at.asm ≡ Some rec
  pub below : at.row < length (rows rec)
  pub owned : run_owner recs owns at ≡ Some owner

module _ {A : Type 0} (recs : List AsmRec) (first end : TypeDefRow → ℕ) (rows : AsmRec → List A) (right : RunsApart (λ k t. is_in_run (first t) (end t) k) first recs) where
  abbrev owns : ℕ → TypeDefRow → Bool
  owns k t = is_in_run (first t) (end t) k

  owner_by : (home : RowAt) (k : ℕ) (rec : AsmRec) (t : TypeDefRow) → slice_get recs home.asm ≡ Some rec → slice_get rec.type_def home.row ≡ Some t → owns (suc k) t ≡ true → run_owner recs owns (at_row home.asm k) ≡ Some home
  owner_by home k rec t there at has =
      let f = finds (owns (suc k)) 0 rec.type_def home.row t at has in
      let g = found (owns (suc k)) 0 rec.type_def f.0 f.1 in
      let same : g.place ≡ home.row = right.apart home.asm g.place home.row (suc k) rec g.item t there g.there at g.passes has in
      let place : f.0 ≡ home.row = omega (arith, g.is, same) in
      ap (option_and_then (λ (r : AsmRec). option_map (at_row home.asm) (position_from (owns (suc k)) 0 r.type_def))) there
      ∙ ap (option_map (at_row home.asm)) f.1 ∙ ap (λ (j : ℕ). Some (at_row home.asm j)) place

  -- ---- a member that is found

  pub record FoundIn (x : Found) : Type 0 where
    pub owner : RowAt
    pub owned : OwnedBy recs owner x.owner
    pub row : InOwner recs owns rows owner x.at

  pub record LookedUp (e : TypeExpr) (at : RowAt) : Type 0 where
    pub owner : RowAt
    pub home : home_of recs e ≡ Some owner
    pub row : InOwner recs owns rows owner at

  looked_by : (test : AsmRec → A → Bool) (e : TypeExpr) (at home : RowAt) (rec : AsmRec) (t : TypeDefRow) (o : Option ℕ) → home_of recs e ≡ Some home → slice_get recs home.asm ≡ Some rec → slice_get rec.type_def home.row ≡ Some t
      → position_from (test rec) (first t - 1) (run_of (first t) (end t) (rows rec)) ≡ o → option_map (at_row home.asm) o ≡ Some at → LookedUp e at
  looked_by test e at home rec t None is there row p h = absurd (cc)
  looked_by test e at home rec t (Some k) is there row p h =
      let same : at_row home.asm k ≡ at = cc in
      let r = in_run (test rec) (first t) (end t) (rows rec) k (right.begin home.asm home.row rec t there row) p in
      transport (LookedUp e) same (record {
        owner = home;
        home = is;
        row = record { rec = rec; there = there; below = place_within (rows rec) k r.item r.there; owned = owner_by home k rec t there row r.in_run };
      })

  pub looked_up : (test : RowAt → AsmRec → A → Bool) (e : TypeExpr) (at : RowAt)
      → in_definition recs (λ home rec t. option_map (at_row home.asm) (position_from (test home rec) (first t - 1) (run_of (first t) (end t) (rows rec)))) e ≡ Some at → LookedUp e at
  looked_up test e at h =
      let look : RowAt → AsmRec → TypeDefRow → Option RowAt = λ home rec t. option_map (at_row home.asm) (position_from (test home rec) (first t - 1) (run_of (first t) (end t) (rows rec))) in
      let d = defined recs look e at h in
      looked_by (test d.home) e at d.home d.rec d.row (position_from (test d.home d.rec) (first d.row - 1) (run_of (first d.row) (end d.row) (rows d.rec))) d.is d.there d.at refl d.found

  module _ (look : TypeExpr → Option RowAt) (looks : (e : TypeExpr) (at : RowAt) → look e ≡ Some at → LookedUp e at) where
    found_by : (e : TypeExpr) (x : Found) (o : Option RowAt) (later : Option Found) → look e ≡ o → (later ≡ Some x → FoundIn x) → or_next (option_map (found_in e) o) later ≡ Some x → FoundIn x
    found_by e x None later is more h = more h
    found_by e x (Some at) later is more h =
        let same : found_in e at ≡ x = cc in
        let l = looks e at is in
        transport FoundIn same (record { owner = l.owner; owned = home_owned recs l.owner e l.home; row = l.row })

    search_found : (es : List TypeExpr) (x : Found) → search look es ≡ Some x → FoundIn x
    unfolding search
    search_found [] x h = absurd (cc)
    search_found (e ∷ es) x h = found_by e x (look e) (search look es) refl (search_found es x) h

    closed_found : (parent : TypeExpr) (x : Found) (o : Option Found) → ((y : Found) → o ≡ Some y → FoundIn y) → option_map (closed parent) o ≡ Some x → FoundIn x
    closed_found parent x None r h = absurd (cc)
    closed_found parent x (Some y) r h =
        let same : closed parent y ≡ x = cc in
        let f = r y refl in
        transport FoundIn same (record { owner = f.owner; owned = closed_owned recs f.owner (args_of parent) y.owner f.owned; row = f.row })

    pub found_in_bases : (parent : TypeExpr) (es : List TypeExpr) (x : Found) → option_map (closed parent) (search look es) ≡ Some x → FoundIn x
    found_in_bases parent es x h = closed_found parent x (search look es) (λ y e. search_found es y e) h

  -- ---- a row's own token

  own_by : (a k : ℕ) (rec : AsmRec) (x : Found) (o : Option ℕ) → slice_get recs a ≡ Some rec → k < length (rows rec) → position_from (owns (suc k)) 0 rec.type_def ≡ o
      → option_map (λ t. record { at = at_row a k; owner = own_type recs rec (at_row a t) }) o ≡ Some x → FoundIn x
  own_by a k rec x None s lt p h = absurd (cc)
  own_by a k rec x (Some t) s lt p h =
      let made : Found = record { at = at_row a k; owner = own_type recs rec (at_row a t) } in
      let same : made ≡ x = cc in
      let g = found (owns (suc k)) 0 rec.type_def t p in
      let z : g.place ≡ t = omega (arith, g.is) in
      let row : slice_get rec.type_def t ≡ Some g.item = ap (slice_get rec.type_def) (sym z) ∙ g.there in
      transport FoundIn same (record {
        owner = at_row a t;
        owned = own_owned recs rec (at_row a t) g.item s row;
        row = record { rec = rec; there = s; below = lt; owned = owner_by (at_row a t) k rec g.item s row g.passes };
      })

  pub own_found : (a k : ℕ) (rec : AsmRec) (x : Found) → slice_get recs a ≡ Some rec → k < length (rows rec)
      → option_map (λ t. record { at = at_row a k; owner = own_type recs rec (at_row a t) }) (position_from (owns (suc k)) 0 rec.type_def) ≡ Some x → FoundIn x
  own_found a k rec x s lt h = own_by a k rec x (position_from (owns (suc k)) 0 rec.type_def) s lt refl h
