-- Tokens, signatures and bases name types of the world: none has a number past the last.
use Rattle.std.proofs.Common.{◌≡◌, ◌<◌, ℕ, ◌+◌, ◌-◌, List, [], ◌∷◌, length, map, Bool, true, false, nat_lt, Option, Some, None, refl, sym, ap, subst, ◌∙◌, ◌&&◌, arith}
use Rattle.std.specs.Prelude.{slice_get, position, ◌==◌, IsTrue, if◌then◌else◌}
use Rattle.std.specs.List.{list_all}
use Rattle.std.specs.Option.{option_map, option_and_then}
use Rattle.std.specs.Cmp.{first_so, second_so}
use Rattle.std.proofs.lemmas.Bool.{and_from, lt-ltb, ltb-true}
use Rattle.il_base.specs.declared.ids.TypeId.{TypeId}
use Rattle.il_base.specs.declared.sig.Sig.{Sig, fold-roll-Sig, ind-Sig, roll-Sig}
use Rattle.il_base.specs.declared.sig.Sig.TheFolds.{map-Sig}
use Rattle.il_base.specs.declared.sig.Sig.TheOpen.{Sig-F}
use Rattle.il_base.specs.declared.table.TheConstants as table
use Rattle.il_base.specs.declared.world_model.known.Known.{Known}
use Rattle.il_base.specs.declared.world_model.known.Known.TheVariants.{Good, Bad}
use Rattle.il_base.specs.declared.world_model.known.BadKind.TheVariants.{Unresolved}
use Rattle.il_base.specs.declared.world_model.expr.TypeExpr.{TypeExpr, out-TypeExpr}
use Rattle.il_base.specs.declared.world_model.expr.TypeExpr.TheFolds.{map-TypeExpr}
use Rattle.il_base.specs.declared.world_model.expr.TypeExpr.TheOpen.{TypeExpr-F}
use Rattle.il_base.specs.declared.world_model.expr.TypeExpr.TheVariants as expr
use Rattle.il_base.specs.declared.world_model.types.TypeSpecRow.{TypeSpecRow}
use Rattle.il_base.specs.declared.world_model.record.AsmRec.{AsmRec}
use Rattle.il_base.specs.world_model.Tokens.{table_of, index_in}
use Rattle.il_base.specs.world_model.Worlds as worlds
use Rattle.il_base.specs.world_model.Worlds.{known_map, known_then, known_or, all_known, rows_before, types_in, row_below, type_id, core_types, is_code_of, prim_type, known_type, named_in, definition_in, definition_of, definition_named, found_or_named, modifier_named, sig_layer, sig_expr}
use Rattle.rules.specs.declared.link_rules.row_at.RowAt.{RowAt}
use Rattle.rules.specs.link_rules.Types.{at_row, ref_definition, definition_at, added_by}
use Rattle.rules.specs.link_rules.Signatures.{prim_at, definition_expr, known_expr, named_type, names_at, spec_type_at, token_type}
use Rattle.base_laws.proofs.lemmas.type_laws.Places.{place_has, place_within}
use Rattle.base_laws.proofs.lemmas.known_laws.Lists.{and_then_some, map_some}
use Rattle.run_laws.proofs.lemmas.marked_laws.Places.{position_below, last_row}
use Rattle.rules.specs.change_rules.Change.{Keep}
use Rattle.rules.specs.change_rules.Keeps.{Names, both, names_layer, names_of, shows_expr}
use Rattle.base_laws.proofs.lemmas.change_laws.Subst.{names_prim, names_def, names_inst, names_array, names_by_ref, names_mod, names_rolled}
use Rattle.run_laws.proofs.lemmas.query_laws.Homes.{names_out}
use Rattle.merge_laws.proofs.lemmas.merged_references.Found.{Stands, definition_names, added_names, first_stands}
use Rattle.merge_laws.proofs.lemmas.merged_references.Rows.{under}

known_good : {A B : Type 0} (f : A → Known B) (x : Known A) (y : B) → known_then f x ≡ Good y → (a : A) × (x ≡ Good a) × (f a ≡ Good y)
known_good f (Good a) y e = (a, refl, e)
known_good f (Bad why) y e = absurd (cc)

mapped_good : {A B : Type 0} (f : A → B) (x : Known A) (y : B) → known_map f x ≡ Good y → (a : A) × (x ≡ Good a) × (f a ≡ y)
mapped_good f (Good a) y e = (a, refl, cc)
mapped_good f (Bad why) y e = absurd (cc)

own_below : (n : ℕ) (o : Option ℕ) (k : ℕ) → row_below n o ≡ Some k → k < n
own_below n None k e = cc
own_below n (Some j) k e = below_by n j k (nat_lt j n) refl e
  where
    below_by : (n j k : ℕ) (b : Bool) → nat_lt j n ≡ b → (if b then Some j else None) ≡ Some k → k < n
    below_by n j k true t f = let same : j ≡ k = cc in let lt = ltb-true j n t in omega (arith, same, lt)
    below_by n j k false t f = cc

module _ (recs : List AsmRec) where
  abbrev pub bound : ℕ
  bound = rows_before types_in recs (length recs)

  abbrev pub below : Keep
  below = record { typ = λ n. nat_lt n bound; method = λ n. true; field = λ n. true; made = λ n. true; shown = λ n. nat_lt n bound; begun = λ n. true; called = λ n. true }

  -- each type that it names is one of the world's
  abbrev pub Low : TypeExpr → Type 0
  Low e = IsTrue (shows_expr below e)

  abbrev pub IsLow : TypeId → Type 0
  IsLow t = nat_lt t.0 bound ≡ true

  abbrev pub AreLow : List TypeExpr → Type 0
  AreLow es = list_all both (map (names_of below) es) ≡ true

  low_by : (e : TypeExpr) (n : Names) → names_of below e ≡ n → both n ≡ true → Low e
  low_by e n is h = ap both is ∙ h

  twice : (b : Bool) → b ≡ true → (b && b) ≡ true
  twice b h = and_from b b h h

  pub low_prim : (n : ℕ) → Low (expr.Prim n)
  low_prim n = low_by (expr.Prim n) (record { kept = true; shown = true }) (names_prim below n) refl

  pub low_def : (t : TypeId) → IsLow t → Low (expr.Def t)
  low_def t h = low_by (expr.Def t) (record { kept = nat_lt t.0 bound; shown = nat_lt t.0 bound }) (names_def below t) (twice (nat_lt t.0 bound) h)

  pub low_inst : (t : TypeId) (args : List TypeExpr) → IsLow t → AreLow args → Low (expr.Inst t args)
  low_inst t args h g =
      let all : Bool = list_all both (map (names_of below) args) in
      low_by (expr.Inst t args) (record { kept = nat_lt t.0 bound && all; shown = nat_lt t.0 bound && all }) (names_inst below t args)
      (twice (nat_lt t.0 bound && all) (and_from (nat_lt t.0 bound) all h g))

  pub low_array : (e : TypeExpr) → Low e → Low (expr.Array e)
  low_array e h = low_by (expr.Array e) (names_of below e) (names_array below e) h

  pub low_by_ref : (e : TypeExpr) → Low e → Low (expr.ByRef e)
  low_by_ref e h = low_by (expr.ByRef e) (names_of below e) (names_by_ref below e) h

  pub low_mod : (required : Bool) (by : TypeId) (e : TypeExpr) → IsLow by → Low e → Low (expr.Mod required by e)
  low_mod required by e h g =
      let b : Bool = nat_lt by.0 bound in
      let n : Names = names_of below e in
      low_by (expr.Mod required by e) (record { kept = b && n.kept; shown = b && n.shown }) (names_mod below required by e)
      (and_from (b && n.kept) (b && n.shown) (and_from b n.kept h (first_so n.kept n.shown g)) (and_from b n.shown h (second_so n.kept n.shown g)))

  pub low_var : (n : ℕ) → Low (expr.Var n)
  low_var n = low_by (expr.Var n) (record { kept = true; shown = true }) (ap (names_of below) (sym (expr.rolls-Var n)) ∙ names_rolled below (TypeExpr-F.Var n)) refl

  pub low_mvar : (n : ℕ) → Low (expr.MVar n)
  low_mvar n = low_by (expr.MVar n) (record { kept = true; shown = true }) (ap (names_of below) (sym (expr.rolls-MVar n)) ∙ names_rolled below (TypeExpr-F.MVar n)) refl

  -- ---- rows

  pub stands_low : (at : RowAt) → Stands recs at → IsLow (type_id recs at.asm at.row)
  stands_low at s = lt-ltb (rows_before types_in recs at.asm + at.row) bound (under recs at.asm at.row s.rec s.there s.below)

  prim_by : (n : ℕ) (t : TypeId) (o : Option ℕ) → position (is_code_of n) (core_types recs) ≡ o → option_map (λ k. type_id recs (length recs - 1) k) o ≡ Some t → IsLow t
  prim_by n t None f e = absurd (cc)
  prim_by n t (Some k) f e =
      let row = place_has (core_types recs) k (position_below (is_code_of n) (core_types recs) k f) in
      let l = last_row recs k row.0 row.1 in
      let same : type_id recs (length recs - 1) k ≡ t = cc in
      subst IsLow same (stands_low (at_row (length recs - 1) k) (record { rec = l.rec; there = l.there; below = place_within l.rec.type_def k l.row l.has }))

  pub prim_low : (n : ℕ) (t : TypeId) → prim_type recs n ≡ Some t → IsLow t
  unfolding prim_type
  prim_low n t e = prim_by n t (position (is_code_of n) (core_types recs)) refl e

  expr_by : (at : RowAt) (o : Option ℕ) → Stands recs at → Low (elim o [ Some n ↦ expr.Prim n | None ↦ expr.Def (type_id recs at.asm at.row) ])
  expr_by at None s = low_def (type_id recs at.asm at.row) (stands_low at s)
  expr_by at (Some n) s = low_prim n

  pub definition_expr_low : (at : RowAt) → Stands recs at → Low (definition_expr recs at)
  unfolding definition_expr
  definition_expr_low at s = expr_by at (prim_at recs at) s

  -- the definition that stands in an instance or a modifier
  in_low : (x : TypeExpr-F TypeExpr) (t : TypeId) → IsTrue (both (names_layer below (map-TypeExpr TypeExpr Names (names_of below) x))) → definition_in (prim_type recs) x ≡ Good t → IsLow t
  in_low (TypeExpr-F.Prim n) t h e = known_by n t (prim_type recs n) refl e
    where
      known_by : (n : ℕ) (t : TypeId) (o : Option TypeId) → prim_type recs n ≡ o → known_type o ≡ Good t → IsLow t
      known_by n t None f e = absurd (cc)
      known_by n t (Some u) f e = let same : u ≡ t = cc in subst IsLow same (prim_low n u f)
  in_low (TypeExpr-F.Def s) t h e = let same : s ≡ t = cc in subst IsLow same (first_so (nat_lt s.0 bound) (nat_lt s.0 bound) h)
  in_low (TypeExpr-F.Inst s args) t h e = absurd (cc)
  in_low (TypeExpr-F.Array x) t h e = absurd (cc)
  in_low (TypeExpr-F.ByRef x) t h e = absurd (cc)
  in_low (TypeExpr-F.Var n) t h e = absurd (cc)
  in_low (TypeExpr-F.MVar n) t h e = absurd (cc)
  in_low (TypeExpr-F.Mod required by x) t h e = absurd (cc)

  module _ (a : ℕ) (rec : AsmRec) (there : slice_get recs a ≡ Some rec) where
    -- ---- tokens

    token_by : (token : ℕ) (at : RowAt) (b : Bool)
        → (if b then option_map (at_row a) (row_below (types_in rec) (index_in table.TYPE_DEF token)) else option_and_then (ref_definition recs a rec) (index_in table.TYPE_REF token)) ≡ Some at → Stands recs at
    token_by token at true e =
        let m = map_some (at_row a) (row_below (types_in rec) (index_in table.TYPE_DEF token)) at e in
        subst (Stands recs) m.2 (record { rec = rec; there = there; below = own_below (types_in rec) (index_in table.TYPE_DEF token) m.0 m.1 })
    token_by token at false e =
        let m = and_then_some (ref_definition recs a rec) (index_in table.TYPE_REF token) at e in
        (definition_names recs a rec m.0 at m.2).stands

    pub token_stands : (token : ℕ) (at : RowAt) → definition_at recs a rec token ≡ Some at → Stands recs at
    unfolding definition_at
    token_stands token at e = token_by token at (table_of token == table.TYPE_DEF) e

    named_by : (token : ℕ) (e : TypeExpr) (o : Option RowAt) → definition_at recs a rec token ≡ o → known_expr recs o ≡ Good e → Low e
    named_by token e None f h = absurd (cc)
    named_by token e (Some at) f h = let same : definition_expr recs at ≡ e = cc in subst Low same (definition_expr_low at (token_stands token at f))

    pub named_low : (token : ℕ) (e : TypeExpr) → named_type recs a rec token ≡ Good e → Low e
    unfolding named_type
    named_low token e h = named_by token e (definition_at recs a rec token) refl h

    pub added_low : (token : ℕ) (t : TypeId) → added_by recs a rec token ≡ Some t → IsLow t
    added_low token t e = let d = added_names recs a rec token t e in subst IsLow d.is (stands_low d.at (first_stands recs d.at d.first))

    -- ---- signatures

    abbrev n : worlds.Names
    n = names_at recs a rec

    named_in_by : (token : ℕ) (e : TypeExpr) (b : Bool) → (if b then Bad Unresolved else known_or (Some (named_type recs a rec token))) ≡ Good e → Low e
    named_in_by token e true h = absurd (cc)
    named_in_by token e false h = named_low token e h

    named_in_low : (token : ℕ) (e : TypeExpr) → named_in n.types token ≡ Good e → Low e
    unfolding named_in
    named_in_low token e h = named_in_by token e (table_of token == table.TYPE_SPEC) h

    definition_low : (token : ℕ) (t : TypeId) → definition_named n token ≡ Good t → IsLow t
    unfolding definition_named definition_of
    definition_low token t h =
        let k = known_good (λ (e : TypeExpr). definition_in (prim_type recs) (out-TypeExpr e)) (named_in n.types token) t h in
        in_low (out-TypeExpr k.0) t (sym (ap both (names_out below k.0)) ∙ named_in_low token k.0 k.1) k.2

    modifier_by : (token : ℕ) (t : TypeId) (o : Option TypeId) → added_by recs a rec token ≡ o → found_or_named o (definition_named n token) ≡ Good t → IsLow t
    modifier_by token t None f h = definition_low token t h
    modifier_by token t (Some u) f h = let same : u ≡ t = cc in subst IsLow same (added_low token u f)

    modifier_low : (token : ℕ) (t : TypeId) → modifier_named n token ≡ Good t → IsLow t
    unfolding modifier_named
    modifier_low token t h = modifier_by token t (added_by recs a rec token) refl h

    abbrev Reads : Sig → Type 0
    Reads s = (e : TypeExpr) → sig_expr n s ≡ Good e → Low e

    abbrev Part : Type 0
    Part = (s : Sig) × Reads s

    args_low : (xs : List Part) (es : List TypeExpr) → all_known (map (sig_expr n) (map (λ x. x.0) xs)) ≡ Good es → AreLow es
    args_low [] es h = let same : [] ≡ es = cc in subst AreLow same refl
    args_low (x ∷ xs) es h =
        let k = known_good (λ (y : TypeExpr). known_map (λ ys. y ∷ ys) (all_known (map (sig_expr n) (map (λ x. x.0) xs)))) (sig_expr n x.0) es h in
        let m = mapped_good (λ ys. k.0 ∷ ys) (all_known (map (sig_expr n) (map (λ x. x.0) xs))) es k.2 in
        subst AreLow m.2 (and_from (shows_expr below k.0) (list_all both (map (names_of below) m.0)) (x.1 k.0 k.1) (args_low xs m.0 m.1))

    layer_low : (y : Sig-F Part) (e : TypeExpr) → sig_layer n (map-Sig Sig (Known TypeExpr) (sig_expr n) (map-Sig Part Sig (λ x. x.0) y)) ≡ Good e → Low e
    layer_low (Sig-F.Prim k) e h = let same : expr.Prim k ≡ e = cc in subst Low same (low_prim k)
    layer_low (Sig-F.Named v token) e h = named_in_low token e h
    layer_low (Sig-F.Array x) e h = let m = mapped_good (λ (y : TypeExpr). expr.Array y) (sig_expr n x.0) e h in subst Low m.2 (low_array m.0 (x.1 m.0 m.1))
    layer_low (Sig-F.ByRef x) e h = let m = mapped_good (λ (y : TypeExpr). expr.ByRef y) (sig_expr n x.0) e h in subst Low m.2 (low_by_ref m.0 (x.1 m.0 m.1))
    layer_low (Sig-F.Inst v token xs) e h =
        let d = known_good (λ (d : TypeId). known_map (λ ys. expr.Inst d ys) (all_known (map (sig_expr n) (map (λ x. x.0) xs)))) (definition_named n token) e h in
        let m = mapped_good (λ ys. expr.Inst d.0 ys) (all_known (map (sig_expr n) (map (λ x. x.0) xs))) e d.2 in
        subst Low m.2 (low_inst d.0 m.0 (definition_low token d.0 d.1) (args_low xs m.0 m.1))
    layer_low (Sig-F.Var k) e h = let same : expr.Var k ≡ e = cc in subst Low same (low_var k)
    layer_low (Sig-F.MVar k) e h = let same : expr.MVar k ≡ e = cc in subst Low same (low_mvar k)
    layer_low (Sig-F.Mod required token x) e h =
        let d = known_good (λ (d : TypeId). known_map (λ y. expr.Mod required d y) (sig_expr n x.0)) (modifier_named n token) e h in
        let m = mapped_good (λ y. expr.Mod required d.0 y) (sig_expr n x.0) e d.2 in
        subst Low m.2 (low_mod required d.0 m.0 (modifier_low token d.0 d.1) (x.1 m.0 m.1))
    layer_low (Sig-F.Pinned x) e h = x.1 e h

    rolled : (y : Sig-F Part) → Reads (roll-Sig (map-Sig Part Sig (λ x. x.0) y))
    unfolding sig_expr
    rolled y e h = layer_low y e (sym (fold-roll-Sig (Known TypeExpr) (sig_layer n) (map-Sig Part Sig (λ x. x.0) y)) ∙ h)

    pub sig_low : (s : Sig) (e : TypeExpr) → sig_expr n s ≡ Good e → Low e
    sig_low = ind-Sig Reads (λ x y is. subst (λ z. Reads (roll-Sig z)) is (rolled y))

    -- ---- tokens of types

    spec_low : (o : Option TypeSpecRow) (e : TypeExpr) → spec_type_at recs a rec o ≡ Good e → Low e
    spec_low None e h = absurd (cc)
    spec_low (Some row) e h = let k = known_good (sig_expr n) row.signature e h in sig_low k.0 e k.2

    type_by : (token : ℕ) (e : TypeExpr) (b : Bool)
        → (if b then spec_type_at recs a rec (option_and_then (slice_get rec.type_spec) (index_in table.TYPE_SPEC token)) else named_type recs a rec token) ≡ Good e → Low e
    type_by token e true h = spec_low (option_and_then (slice_get rec.type_spec) (index_in table.TYPE_SPEC token)) e h
    type_by token e false h = named_low token e h

    pub token_low : (token : ℕ) (e : TypeExpr) → token_type recs a rec token ≡ Good e → Low e
    unfolding token_type
    token_low token e h = type_by token e (table_of token == table.TYPE_SPEC) h
