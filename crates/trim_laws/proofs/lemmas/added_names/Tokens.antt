-- What tokens and signatures of inputs name: names that only modifiers use (II.7.1.1) are named by modifiers alone.
use Rattle.std.proofs.Common.{◌≡◌, ◌<◌, ℕ, suc, List, [], ◌∷◌, length, map, Bool, true, false, Option, Some, None, refl, sym, ap, subst, ◌∙◌}
use Rattle.std.specs.Prelude.{slice_get, ◌==◌, if◌then◌else◌}
use Rattle.std.specs.Option.{option_and_then}
use Rattle.std.specs.Cmp.{first_so}
use Rattle.std.proofs.lemmas.Bool.{and_from}
use Rattle.il_base.specs.declared.ids.TypeId.{TypeId}
use Rattle.il_base.specs.declared.sig.Sig.{Sig, fold-roll-Sig, ind-Sig, roll-Sig}
use Rattle.il_base.specs.declared.sig.Sig.TheFolds.{map-Sig}
use Rattle.il_base.specs.declared.sig.Sig.TheOpen.{Sig-F}
use Rattle.il_base.specs.declared.world_model.known.Known.{Known}
use Rattle.il_base.specs.declared.world_model.known.Known.TheVariants.{Good, Bad}
use Rattle.il_base.specs.declared.world_model.known.BadKind.TheVariants.{Unresolved}
use Rattle.il_base.specs.declared.world_model.expr.TypeExpr.{TypeExpr, out-TypeExpr}
use Rattle.il_base.specs.declared.world_model.expr.TypeExpr.TheFolds.{map-TypeExpr}
use Rattle.il_base.specs.declared.world_model.expr.TypeExpr.TheOpen.{TypeExpr-F}
use Rattle.il_base.specs.declared.world_model.expr.TypeExpr.TheVariants as expr
use Rattle.il_base.specs.declared.world_model.types.TypeSpecRow.{TypeSpecRow}
use Rattle.il_base.specs.declared.world_model.record.AsmRec.{AsmRec}
use Rattle.il_base.specs.world_model.Tokens.{table_of, index_in}
use Rattle.il_base.specs.world_model.Worlds as worlds
use Rattle.il_base.specs.world_model.Worlds.{known_map, known_then, known_or, all_known, type_id, prim_type, known_type, named_in, definition_in, definition_of, definition_named, sig_layer, sig_expr}
use Rattle.rules.specs.declared.link_rules.row_at.RowAt.{RowAt}
use Rattle.rules.specs.link_rules.Types.{definition_at}
use Rattle.rules.specs.link_rules.Signatures.{prim_at, definition_expr, known_expr, named_type, names_at, spec_type_at, token_type}
use Rattle.rules.specs.link_rules.Linked.{assemblies}
use Rattle.merge_laws.proofs.lemmas.merged_references.Found.{Names, token_names}
use Rattle.trim_laws.proofs.lemmas.added_names.Modifiers.{is_listed}
use Rattle.trim_laws.proofs.lemmas.added_names.Listed.{listed_type, stands_home, prim_listed}
use Rattle.trim_laws.proofs.lemmas.added_names.Plain.{itself, plain_layer, is_plain, Plain, ArePlain, plain_out, plain_prim, plain_def, plain_array, plain_by_ref, plain_var, plain_mvar, plain_mod, inst_plain}

pub known_good : {A B : Type 0} (f : A → Known B) (x : Known A) (y : B) → known_then f x ≡ Good y → (a : A) × (x ≡ Good a) × (f a ≡ Good y)
known_good f (Good a) y e = (a, refl, e)
known_good f (Bad why) y e = absurd (cc)

pub mapped_good : {A B : Type 0} (f : A → B) (x : Known A) (y : B) → known_map f x ≡ Good y → (a : A) × (x ≡ Good a) × (f a ≡ y)
mapped_good f (Good a) y e = (a, refl, cc)
mapped_good f (Bad why) y e = absurd (cc)

module _ (inputs : List AsmRec) where
  abbrev recs : List AsmRec
  recs = assemblies inputs

  -- ---- definitions

  definition_by : (at : RowAt) (o : Option ℕ) → Names recs at → Plain recs (elim o [ Some n ↦ expr.Prim n | None ↦ expr.Def (type_id recs at.asm at.row) ])
  definition_by at None n = plain_def recs (type_id recs at.asm at.row) ∙ listed_type recs (type_id recs at.asm at.row) at (stands_home recs at n.stands) n.listed
  definition_by at (Some k) n = plain_prim recs k

  pub definition_plain : (at : RowAt) → Names recs at → Plain recs (definition_expr recs at)
  unfolding definition_expr
  definition_plain at n = definition_by at (prim_at recs at) n

  module _ (a : ℕ) (rec : AsmRec) where
    named_by : (token : ℕ) (e : TypeExpr) (o : Option RowAt) → definition_at recs a rec token ≡ o → ((at : RowAt) → definition_at recs a rec token ≡ Some at → Names recs at) → known_expr recs o ≡ Good e → Plain recs e
    named_by token e None f n h = absurd (cc)
    named_by token e (Some at) f n h = let same : definition_expr recs at ≡ e = cc in subst (Plain recs) same (definition_plain at (n at f))

    pub row_plain : (token : ℕ) (e : TypeExpr) → ((at : RowAt) → definition_at recs a rec token ≡ Some at → Names recs at) → named_type recs a rec token ≡ Good e → Plain recs e
    unfolding named_type
    row_plain token e n h = named_by token e (definition_at recs a rec token) refl n h

  -- the definition that stands in an instance
  in_by : (n : ℕ) (t : TypeId) (o : Option TypeId) → prim_type recs n ≡ o → known_type o ≡ Good t → is_listed recs (suc t.0) ≡ true
  in_by n t None f e = absurd (cc)
  in_by n t (Some u) f e = let same : u ≡ t = cc in subst (λ (x : TypeId). is_listed recs (suc x.0) ≡ true) same (prim_listed inputs n u f)

  in_listed : (x : TypeExpr-F TypeExpr) (t : TypeId) → plain_layer recs (map-TypeExpr TypeExpr Bool (is_plain recs) x) ≡ true → definition_in (prim_type recs) x ≡ Good t → is_listed recs (suc t.0) ≡ true
  in_listed (TypeExpr-F.Prim n) t h e = in_by n t (prim_type recs n) refl e
  in_listed (TypeExpr-F.Def s) t h e = let same : s ≡ t = cc in subst (λ (x : TypeId). is_listed recs (suc x.0) ≡ true) same h
  in_listed (TypeExpr-F.Inst s args) t h e = absurd (cc)
  in_listed (TypeExpr-F.Array x) t h e = absurd (cc)
  in_listed (TypeExpr-F.ByRef x) t h e = absurd (cc)
  in_listed (TypeExpr-F.Var n) t h e = absurd (cc)
  in_listed (TypeExpr-F.MVar n) t h e = absurd (cc)
  in_listed (TypeExpr-F.Mod required by x) t h e = absurd (cc)

  module _ (a : ℕ) (rec : AsmRec) (there : slice_get recs a ≡ Some rec) (input : suc a < length recs) where
    pub named_plain : (token : ℕ) (e : TypeExpr) → named_type recs a rec token ≡ Good e → Plain recs e
    named_plain token e h = row_plain a rec token e (λ at f. token_names recs a rec token at there input f) h

    -- ---- signatures

    abbrev n : worlds.Names
    n = names_at recs a rec

    in_sig_by : (token : ℕ) (e : TypeExpr) (b : Bool) → (if b then Bad Unresolved else known_or (Some (named_type recs a rec token))) ≡ Good e → Plain recs e
    in_sig_by token e true h = absurd (cc)
    in_sig_by token e false h = named_plain token e h

    in_sig : (token : ℕ) (e : TypeExpr) → named_in n.types token ≡ Good e → Plain recs e
    unfolding named_in
    in_sig token e h = in_sig_by token e (table_of token == 0x1b) h

    definition_listed : (token : ℕ) (t : TypeId) → definition_named n token ≡ Good t → is_listed recs (suc t.0) ≡ true
    unfolding definition_named definition_of
    definition_listed token t h =
        let k = known_good (λ (e : TypeExpr). definition_in (prim_type recs) (out-TypeExpr e)) (named_in n.types token) t h in
        in_listed (out-TypeExpr k.0) t (sym (plain_out recs k.0) ∙ in_sig token k.0 k.1) k.2

    abbrev Reads : Sig → Type 0
    Reads s = (e : TypeExpr) → sig_expr n s ≡ Good e → Plain recs e

    abbrev Part : Type 0
    Part = (s : Sig) × Reads s

    args_plain : (xs : List Part) (es : List TypeExpr) → all_known (map (sig_expr n) (map (λ x. x.0) xs)) ≡ Good es → ArePlain recs es
    args_plain [] es h = let same : [] ≡ es = cc in subst (ArePlain recs) same refl
    args_plain (x ∷ xs) es h =
        let k = known_good (λ (y : TypeExpr). known_map (λ ys. y ∷ ys) (all_known (map (sig_expr n) (map (λ x. x.0) xs)))) (sig_expr n x.0) es h in
        let m = mapped_good (λ ys. k.0 ∷ ys) (all_known (map (sig_expr n) (map (λ x. x.0) xs))) es k.2 in
        subst (ArePlain recs) m.2 (more k.0 m.0 (x.1 k.0 k.1) (args_plain xs m.0 m.1))
      where
        more : (e : TypeExpr) (es : List TypeExpr) → Plain recs e → ArePlain recs es → ArePlain recs (e ∷ es)
        more e es h g = and_from (is_plain recs e) _ h g

    layer_plain : (y : Sig-F Part) (e : TypeExpr) → sig_layer n (map-Sig Sig (Known TypeExpr) (sig_expr n) (map-Sig Part Sig (λ x. x.0) y)) ≡ Good e → Plain recs e
    layer_plain (Sig-F.Prim k) e h = let same : expr.Prim k ≡ e = cc in subst (Plain recs) same (plain_prim recs k)
    layer_plain (Sig-F.Named v token) e h = in_sig token e h
    layer_plain (Sig-F.Array x) e h = let m = mapped_good (λ (y : TypeExpr). expr.Array y) (sig_expr n x.0) e h in subst (Plain recs) m.2 (plain_array recs m.0 ∙ x.1 m.0 m.1)
    layer_plain (Sig-F.ByRef x) e h = let m = mapped_good (λ (y : TypeExpr). expr.ByRef y) (sig_expr n x.0) e h in subst (Plain recs) m.2 (plain_by_ref recs m.0 ∙ x.1 m.0 m.1)
    layer_plain (Sig-F.Inst v token xs) e h =
        let d = known_good (λ (d : TypeId). known_map (λ ys. expr.Inst d ys) (all_known (map (sig_expr n) (map (λ x. x.0) xs)))) (definition_named n token) e h in
        let m = mapped_good (λ ys. expr.Inst d.0 ys) (all_known (map (sig_expr n) (map (λ x. x.0) xs))) e d.2 in
        subst (Plain recs) m.2 (inst_plain recs d.0 m.0 (definition_listed token d.0 d.1) (args_plain xs m.0 m.1))
    layer_plain (Sig-F.Var k) e h = let same : expr.Var k ≡ e = cc in subst (Plain recs) same (plain_var recs k)
    layer_plain (Sig-F.MVar k) e h = let same : expr.MVar k ≡ e = cc in subst (Plain recs) same (plain_mvar recs k)
    layer_plain (Sig-F.Mod required token x) e h =
        let d = known_good (λ (d : TypeId). known_map (λ y. expr.Mod required d y) (sig_expr n x.0)) (worlds.modifier_named n token) e h in
        let m = mapped_good (λ y. expr.Mod required d.0 y) (sig_expr n x.0) e d.2 in
        subst (Plain recs) m.2 (plain_mod recs required d.0 m.0 ∙ x.1 m.0 m.1)
    layer_plain (Sig-F.Pinned x) e h = x.1 e h

    rolled : (y : Sig-F Part) → Reads (roll-Sig (map-Sig Part Sig (λ x. x.0) y))
    unfolding sig_expr
    rolled y e h = layer_plain y e (sym (fold-roll-Sig (Known TypeExpr) (sig_layer n) (map-Sig Part Sig (λ x. x.0) y)) ∙ h)

    pub sig_plain : (s : Sig) (e : TypeExpr) → sig_expr n s ≡ Good e → Plain recs e
    sig_plain = ind-Sig Reads (λ x y is. subst (λ z. Reads (roll-Sig z)) is (rolled y))

    -- ---- tokens of types

    spec_plain : (o : Option TypeSpecRow) (e : TypeExpr) → spec_type_at recs a rec o ≡ Good e → Plain recs e
    spec_plain None e h = absurd (cc)
    spec_plain (Some row) e h = let k = known_good (sig_expr n) row.signature e h in sig_plain k.0 e k.2

    type_by : (token : ℕ) (e : TypeExpr) (b : Bool)
        → (if b then spec_type_at recs a rec (option_and_then (slice_get rec.type_spec) (index_in 0x1b token)) else named_type recs a rec token) ≡ Good e → Plain recs e
    type_by token e true h = spec_plain (option_and_then (slice_get rec.type_spec) (index_in 0x1b token)) e h
    type_by token e false h = named_plain token e h

    pub token_plain : (token : ℕ) (e : TypeExpr) → token_type recs a rec token ≡ Good e → Plain recs e
    unfolding token_type
    token_plain token e h = type_by token e (table_of token == 0x1b) h
