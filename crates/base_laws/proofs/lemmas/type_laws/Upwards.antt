-- A step up from a type is a step from its definition to that of a base, of an interface or of System.Object.
use Rattle.std.proofs.Common.{◌≡◌, ℕ, zero, suc, Bool, true, false, List, [], ◌∷◌, ◌++◌, map, Option, Some, None, ◌⊎◌, inl, inr, refl, sym, ap, subst as transport, ◌∙◌}
use Rattle.std.specs.Prelude.{slice_get, ◌==◌, ◌||◌, if◌then◌else◌}
use Rattle.std.specs.List.{list_any, flat_map}
use Rattle.std.proofs.lemmas.Bool.{true≢false}
use Rattle.std.specs.Option.{is_some, option_map, option_and_then, IsSome}
use Rattle.il_base.specs.declared.ids.TypeId.{TypeId}
use Rattle.il_base.specs.declared.world_model.expr.TypeExpr.{TypeExpr, out-TypeExpr, roll-TypeExpr, roll-out-TypeExpr, out-roll-TypeExpr}
use Rattle.il_base.specs.declared.world_model.expr.TypeExpr.TheOpen.{TypeExpr-F}
use Rattle.il_base.specs.declared.world_model.expr.TypeExpr.TheVariants as expr
use Rattle.il_base.specs.declared.world_model.record.AsmRec.{AsmRec}
use Rattle.il_base.specs.world_model.Exprs.{subst}
use Rattle.il_base.proofs.lemmas.world_model.ExprLayers.{subst_prim, subst_def, subst_inst}
use Rattle.rules.specs.declared.link_rules.row_at.RowAt.{RowAt}
use Rattle.il_base.specs.world_model.Tokens.{token_of}
use Rattle.il_base.specs.declared.world_model.types.TypeDefRow.{TypeDefRow}
use Rattle.rules.specs.link_rules.Signatures.{token_type}
use Rattle.rules.specs.link_rules.Members.{array_type, type_home, owner_in, owner_of, args_of, is_named_in, is_named, only_named, good_type, is_interface_row, base_in, base_at}
use Rattle.rules.specs.link_rules.Cycles.{listed, same_row, home_of, is_row_of, is_interface_at, is_interface, only_interface, interface_of, interfaces_in, interfaces_at, base_rows, interface_rows}
use Rattle.rules.specs.type_rules.Subtypes.{bases_of, interfaces_of, up_in, up}
use Rattle.base_laws.proofs.lemmas.type_laws.Places.{rows_decide}
use Rattle.base_laws.proofs.lemmas.type_laws.Within.{In, in_front, in_behind, in_parts, in_listed, listed_in, in_map, in_flat, flat_in}
use Rattle.base_laws.proofs.lemmas.type_laws.Reaching.{Walks}

-- ---- a named type

pub out_is : (x : TypeExpr-F TypeExpr) (e : TypeExpr) → roll-TypeExpr x ≡ e → out-TypeExpr e ≡ x
out_is x e is = ap out-TypeExpr (sym is) ∙ out-roll-TypeExpr x

-- with arguments put in it has the definition that it had
record Keeps (recs : List AsmRec) (targs : List TypeExpr) (e : TypeExpr) : Type 0 where
  owner : owner_of recs (subst targs [] e) ≡ owner_of recs e
  named : is_named (subst targs [] e) ≡ true

module _ (recs : List AsmRec) (targs : List TypeExpr) where
  named_as : (x : TypeExpr-F TypeExpr) (e : TypeExpr) → roll-TypeExpr x ≡ e → is_named_in x ≡ true → is_named e ≡ true
  unfolding is_named
  named_as x e is named = ap is_named_in (out_is x e is) ∙ named

  pub owner_as : (x : TypeExpr-F TypeExpr) (e : TypeExpr) → roll-TypeExpr x ≡ e → owner_of recs e ≡ owner_in recs x
  unfolding owner_of
  owner_as x e is = ap (owner_in recs) (out_is x e is)

  itself : (x : TypeExpr-F TypeExpr) (e : TypeExpr) → roll-TypeExpr x ≡ e → is_named_in x ≡ true → subst targs [] e ≡ e → Keeps recs targs e
  itself x e is named same = record { owner = ap (owner_of recs) same; named = ap is_named same ∙ named_as x e is named }

  instance : (t : TypeId) (args : List TypeExpr) → Keeps recs targs (expr.Inst t args)
  instance t args =
      let same = subst_inst targs [] t args in
      let args' = map (subst targs []) args in
      record {
        owner = ap (owner_of recs) same ∙ owner_as (TypeExpr-F.Inst t args') (expr.Inst t args') (expr.rolls-Inst t args')
            ∙ sym (owner_as (TypeExpr-F.Inst t args) (expr.Inst t args) (expr.rolls-Inst t args));
        named = ap is_named same ∙ named_as (TypeExpr-F.Inst t args') (expr.Inst t args') (expr.rolls-Inst t args') refl;
      }

  keeps_in : (x : TypeExpr-F TypeExpr) → is_named_in x ≡ true → (e : TypeExpr) → roll-TypeExpr x ≡ e → Keeps recs targs e
  keeps_in (TypeExpr-F.Prim n) named e is =
      let f : expr.Prim n ≡ e = sym (expr.rolls-Prim n) ∙ is in
      transport (Keeps recs targs) f (itself (TypeExpr-F.Prim n) (expr.Prim n) (expr.rolls-Prim n) refl (subst_prim targs [] n))
  keeps_in (TypeExpr-F.Def t) named e is =
      let f : expr.Def t ≡ e = sym (expr.rolls-Def t) ∙ is in
      transport (Keeps recs targs) f (itself (TypeExpr-F.Def t) (expr.Def t) (expr.rolls-Def t) refl (subst_def targs [] t))
  keeps_in (TypeExpr-F.Inst t args) named e is =
      let f : expr.Inst t args ≡ e = sym (expr.rolls-Inst t args) ∙ is in
      transport (Keeps recs targs) f (instance t args)
  keeps_in (TypeExpr-F.Array x) named e is = cc
  keeps_in (TypeExpr-F.ByRef x) named e is = cc
  keeps_in (TypeExpr-F.Var n) named e is = cc
  keeps_in (TypeExpr-F.MVar n) named e is = cc
  keeps_in (TypeExpr-F.Mod required by x) named e is = cc

  keeps : (e : TypeExpr) → is_named e ≡ true → Keeps recs targs e
  unfolding is_named
  keeps e named = keeps_in (out-TypeExpr e) named e (roll-out-TypeExpr e)

some_row : (x y : RowAt) → Some x ≡ Some y → x ≡ y
some_row x y e = cc

-- ---- steps between definitions

module _ (recs : List AsmRec) (top : RowAt) where
  -- System.Object's definition, above any other
  abbrev pub tops : RowAt → List RowAt
  tops x = if same_row x top then [] else top ∷ []

  abbrev pub ways : RowAt → List RowAt
  ways x = base_rows recs x ++ (interface_rows recs x ++ tops x)

  pub to_base : (x y : RowAt) → In y (base_rows recs x) → In y (ways x)
  to_base x y h = in_front y (base_rows recs x) (interface_rows recs x ++ tops x) h

  pub to_interface : (x y : RowAt) → In y (interface_rows recs x) → In y (ways x)
  to_interface x y h = in_behind y (base_rows recs x) (interface_rows recs x ++ tops x) (in_front y (interface_rows recs x) (tops x) h)

  top_by : (x : RowAt) (b : Bool) → same_row x top ≡ b → (x ≡ top → ⊥) → In top (if b then [] else top ∷ [])
  top_by x true is other = absurd (other ((rows_decide x top).0 is))
  top_by x false is other = inl refl

  pub to_top : (x : RowAt) → (x ≡ top → ⊥) → In top (ways x)
  to_top x other =
      in_behind top (base_rows recs x) (interface_rows recs x ++ tops x) (in_behind top (interface_rows recs x) (tops x) (top_by x (same_row x top) refl other))

-- ---- the base of a definition

named_by : (x e : TypeExpr) (b : Bool) → is_named x ≡ b → (if b then Some x else None) ≡ Some e → is_named e ≡ true
named_by x e true is h = let same : x ≡ e = cc in ap is_named (sym same) ∙ is
named_by x e false is h = cc

only_named_is : (o : Option TypeExpr) (e : TypeExpr) → only_named o ≡ Some e → is_named e ≡ true
only_named_is None e h = cc
only_named_is (Some x) e h = named_by x e (is_named x) refl h

-- who has a base is a class, and its base is named
pub record HasBase (recs : List AsmRec) (x : RowAt) (e : TypeExpr) : Type 0 where
  pub class : is_interface_at recs x ≡ false
  pub named : is_named e ≡ true

or_false : (b : Bool) → (b || false) ≡ b
or_false true = refl
or_false false = refl

module _ (recs : List AsmRec) where
  abbrev interface_among : Option TypeDefRow → Bool
  interface_among o = list_any is_interface_row (listed o) || false

  based_row : (a : ℕ) (rec : AsmRec) (row : TypeDefRow) (e : TypeExpr) (z i : Bool) → is_interface_row row ≡ i
      → (if z || i then None else only_named (good_type (token_type recs a rec row.extends))) ≡ Some e → (interface_among (Some row) ≡ false) × (is_named e ≡ true)
  based_row a rec row e true i is h = cc
  based_row a rec row e false true is h = cc
  based_row a rec row e false false is h = (ap (λ (b : Bool). b || false || false) is, only_named_is (good_type (token_type recs a rec row.extends)) e h)

  based_in : (a : ℕ) (rec : AsmRec) (o : Option TypeDefRow) (e : TypeExpr) → option_and_then (base_in recs a rec) o ≡ Some e → (interface_among o ≡ false) × (is_named e ≡ true)
  based_in a rec None e h = cc
  based_in a rec (Some row) e h = based_row a rec row e (row.extends == 0) (is_interface_row row) refl h

  based_by : (x : RowAt) (o : Option AsmRec) (e : TypeExpr) → slice_get recs x.asm ≡ o → option_and_then (λ (rec : AsmRec). option_and_then (base_in recs x.asm rec) (slice_get rec.type_def x.row)) o ≡ Some e
      → HasBase recs x e
  based_by x None e is h = cc
  based_by x (Some rec) e is h =
      let p = based_in x.asm rec (slice_get rec.type_def x.row) e h in
      record {
        class = ap (λ (o : Option AsmRec). list_any (λ (r : AsmRec). list_any is_interface_row (listed (slice_get r.type_def x.row))) (listed o)) is ∙ p.0;
        named = p.1;
      }

  pub has_base : (x : RowAt) (e : TypeExpr) → base_at recs x ≡ Some e → HasBase recs x e
  has_base x e h = based_by x (slice_get recs x.asm) e refl h

  -- ---- the interfaces of a definition

  only_by : (x e : TypeExpr) (b : Bool) → is_interface recs x ≡ b → In e (if b then x ∷ [] else []) → is_interface recs e ≡ true
  only_by x e true is (inl same) = ap (is_interface recs) same ∙ is
  only_by x e true is (inr h) = absurd h
  only_by x e false is h = absurd h

  only_is : (o : Option TypeExpr) (e : TypeExpr) → In e (only_interface recs o) → is_interface recs e ≡ true
  only_is None e h = absurd h
  only_is (Some x) e h = only_by x e (is_interface recs x) refl h

  row_by : (o : Option TypeExpr) (e : TypeExpr) (b : Bool) → In e (if b then only_interface recs o else []) → is_interface recs e ≡ true
  row_by o e true h = only_is o e h
  row_by o e false h = absurd h

  pub are_interfaces : (x : RowAt) (e : TypeExpr) → In e (interfaces_at recs x) → is_interface recs e ≡ true
  unfolding interfaces_at
  are_interfaces x e h =
      let m = in_flat (interfaces_in recs x) e (listed (slice_get recs x.asm)) h in
      let r = in_flat (interface_of recs x.asm m.0 (token_of 0x02 (suc x.row))) e m.0.interface_impl m.2 in
      row_by (good_type (token_type recs x.asm m.0 r.0.interface)) e (is_row_of (token_of 0x02 (suc x.row)) r.0) r.2

  homed_by : (o : Option RowAt) → list_any (is_interface_at recs) (listed o) ≡ true → (home : RowAt) × (o ≡ Some home) × (is_interface_at recs home ≡ true)
  homed_by None h = cc
  homed_by (Some home) h = (home, refl, sym (or_false (is_interface_at recs home)) ∙ h)

  -- an interface has a definition, which is one
  pub homed : (e : TypeExpr) → is_interface recs e ≡ true → (home : RowAt) × (home_of recs e ≡ Some home) × (is_interface_at recs home ≡ true)
  unfolding is_interface
  homed e h = homed_by (home_of recs e) h

  -- ---- steps by graph

  pub base_step : (x y : RowAt) → In y (base_rows recs x) → (e : TypeExpr) × (base_at recs x ≡ Some e) × (home_of recs e ≡ Some y)
  unfolding base_rows
  base_step x y h =
      let m = in_flat (λ e. listed (home_of recs e)) y (listed (base_at recs x)) h in
      (m.0, in_listed m.0 (base_at recs x) m.1, in_listed y (home_of recs m.0) m.2)

  pub step_base : (x y : RowAt) (e : TypeExpr) → base_at recs x ≡ Some e → home_of recs e ≡ Some y → In y (base_rows recs x)
  unfolding base_rows
  step_base x y e h is = flat_in (λ e. listed (home_of recs e)) y e (listed (base_at recs x)) (listed_in e (base_at recs x) h) (listed_in y (home_of recs e) is)

  pub interface_step : (x y : RowAt) → In y (interface_rows recs x) → (e : TypeExpr) × In e (interfaces_at recs x) × (home_of recs e ≡ Some y)
  unfolding interface_rows
  interface_step x y h =
      let m = in_flat (λ e. listed (home_of recs e)) y (interfaces_at recs x) h in
      (m.0, m.1, in_listed y (home_of recs m.0) m.2)

  pub step_interface : (x y : RowAt) (e : TypeExpr) → In e (interfaces_at recs x) → home_of recs e ≡ Some y → In y (interface_rows recs x)
  unfolding interface_rows
  step_interface x y e h is = flat_in (λ e. listed (home_of recs e)) y e (interfaces_at recs x) h (listed_in y (home_of recs e) is)

-- ---- a step up

module _ (recs : List AsmRec) (top : RowAt) (top_home : home_of recs (expr.Prim 0x1c) ≡ Some top) (top_class : is_interface_at recs top ≡ false) (array_class : (x : TypeExpr) → is_interface recs (expr.Array x) ≡ false) where
  unowned : (e : TypeExpr) (x : TypeExpr-F TypeExpr) → roll-TypeExpr x ≡ e → owner_in recs x ≡ None → is_interface recs e ≡ true → is_named e ≡ true
  unfolding is_interface
  unowned e x is none h =
      let f = ap (λ (o : Option TypeId). list_any (is_interface_at recs) (listed (option_and_then (type_home recs) o))) (owner_as recs [] x e is ∙ none) in
      absurd (true≢false (sym h ∙ f))

  interface_named_in : (x : TypeExpr-F TypeExpr) (e : TypeExpr) → roll-TypeExpr x ≡ e → is_interface recs e ≡ true → is_named e ≡ true
  interface_named_in (TypeExpr-F.Prim n) e is h = named_as recs [] (TypeExpr-F.Prim n) e is refl
  interface_named_in (TypeExpr-F.Def t) e is h = named_as recs [] (TypeExpr-F.Def t) e is refl
  interface_named_in (TypeExpr-F.Inst t args) e is h = named_as recs [] (TypeExpr-F.Inst t args) e is refl
  interface_named_in (TypeExpr-F.Array x) e is h = absurd (true≢false (sym h ∙ ap (is_interface recs) (sym is ∙ expr.rolls-Array x) ∙ array_class x))
  interface_named_in (TypeExpr-F.ByRef x) e is h = unowned e (TypeExpr-F.ByRef x) is refl h
  interface_named_in (TypeExpr-F.Var n) e is h = unowned e (TypeExpr-F.Var n) is refl h
  interface_named_in (TypeExpr-F.MVar n) e is h = unowned e (TypeExpr-F.MVar n) is refl h
  interface_named_in (TypeExpr-F.Mod required by x) e is h = unowned e (TypeExpr-F.Mod required by x) is refl h

  -- an interface is named
  pub interface_named : (e : TypeExpr) → is_interface recs e ≡ true → is_named e ≡ true
  interface_named e h = interface_named_in (out-TypeExpr e) e (roll-out-TypeExpr e) h

  -- what stands above a type of a definition
  pub record Above (e y : TypeExpr) : Type 0 where
    pub named : is_named y ≡ true
    pub home : RowAt
    pub is : home_of recs e ≡ Some home
    pub leads : (to : RowAt) → home_of recs y ≡ Some to → In to (ways recs top home)

  -- with arguments put in it has the definition that it had
  pub kept_home : (targs : List TypeExpr) (x : TypeExpr) → is_named x ≡ true → home_of recs (subst targs [] x) ≡ home_of recs x
  kept_home targs x named = ap (option_and_then (type_home recs)) (keeps recs targs x named).owner

  base_by : (x : TypeExpr) (o : Option RowAt) → option_and_then (base_at recs) o ≡ Some x → (home : RowAt) × (o ≡ Some home) × (base_at recs home ≡ Some x)
  base_by x None h = cc
  base_by x (Some home) h = (home, refl, h)

  base_above : (e y : TypeExpr) → In y (bases_of recs e) → Above e y
  base_above e y h =
      let o = option_and_then (base_at recs) (home_of recs e) in
      let m = in_map (subst (args_of e) []) y (listed o) h in
      let b = base_by m.0 (home_of recs e) (in_listed m.0 o m.1) in
      let n = (has_base recs b.0 m.0 b.2).named in
      record {
        named = ap is_named m.2 ∙ (keeps recs (args_of e) m.0 n).named;
        home = b.0;
        is = b.1;
        leads = λ to is. to_base recs top b.0 to (step_base recs b.0 to m.0 b.2 (sym (kept_home (args_of e) m.0 n) ∙ ap (home_of recs) (sym m.2) ∙ is));
      }

  pub interface_above : (e y : TypeExpr) → In y (interfaces_of recs e) → Above e y
  unfolding interfaces_of
  interface_above e y h =
      let m = in_map (subst (args_of e) []) y (flat_map (interfaces_at recs) (listed (home_of recs e))) h in
      let b = in_flat (interfaces_at recs) m.0 (listed (home_of recs e)) m.1 in
      let n = interface_named m.0 (are_interfaces recs b.0 m.0 b.2) in
      record {
        named = ap is_named m.2 ∙ (keeps recs (args_of e) m.0 n).named;
        home = b.0;
        is = in_listed b.0 (home_of recs e) b.1;
        leads = λ to is. to_interface recs top b.0 to (step_interface recs b.0 to m.0 b.2 (sym (kept_home (args_of e) m.0 n) ∙ ap (home_of recs) (sym m.2) ∙ is));
      }

  above_homed : (e y : TypeExpr) → Above e y → IsSome (home_of recs e)
  above_homed e y a = ap is_some a.is

  either_above : (e y : TypeExpr) → In y (bases_of recs e) ⊎ In y (interfaces_of recs e) → Above e y
  either_above e y (inl h) = base_above e y h
  either_above e y (inr h) = interface_above e y h

  above_in : (e y : TypeExpr) → In y (bases_of recs e ++ interfaces_of recs e) → Above e y
  above_in e y h = either_above e y (in_parts y (bases_of recs e) (interfaces_of recs e) h)

  named_above_in : (e y : TypeExpr) (x : TypeExpr-F TypeExpr) → is_named_in x ≡ true → In y (up_in recs e x) → Above e y
  named_above_in e y (TypeExpr-F.Prim n) named h = above_in e y h
  named_above_in e y (TypeExpr-F.Def t) named h = above_in e y h
  named_above_in e y (TypeExpr-F.Inst t args) named h = above_in e y h
  named_above_in e y (TypeExpr-F.Array x) named h = cc
  named_above_in e y (TypeExpr-F.ByRef x) named h = cc
  named_above_in e y (TypeExpr-F.Var n) named h = cc
  named_above_in e y (TypeExpr-F.MVar n) named h = cc
  named_above_in e y (TypeExpr-F.Mod required by x) named h = cc

  named_above : (e y : TypeExpr) → is_named e ≡ true → In y (up recs e) → Above e y
  unfolding up is_named
  named_above e y named h = named_above_in e y (out-TypeExpr e) named h

  array_by : (o : Option TypeId) (y : TypeExpr) → In y (listed (option_map (λ t. expr.Def t) o)) → is_named y ≡ true
  unfolding is_named
  array_by None y h = absurd h
  array_by (Some t) y (inl e) = ap is_named e ∙ ap is_named_in (out_is (TypeExpr-F.Def t) (expr.Def t) (expr.rolls-Def t))
  array_by (Some t) y (inr h) = absurd h

  up_named_in : (e y : TypeExpr) (x : TypeExpr-F TypeExpr) → In y (up_in recs e x) → is_named y ≡ true
  up_named_in e y (TypeExpr-F.Prim n) h = (above_in e y h).named
  up_named_in e y (TypeExpr-F.Def t) h = (above_in e y h).named
  up_named_in e y (TypeExpr-F.Inst t args) h = (above_in e y h).named
  up_named_in e y (TypeExpr-F.Array x) h = array_by (array_type recs) y h
  up_named_in e y (TypeExpr-F.ByRef x) h = (above_in e y h).named
  up_named_in e y (TypeExpr-F.Var n) h = (above_in e y h).named
  up_named_in e y (TypeExpr-F.MVar n) h = (above_in e y h).named
  up_named_in e y (TypeExpr-F.Mod required by x) h = (above_in e y h).named

  -- what stands above a type is named
  pub up_named : (e y : TypeExpr) → In y (up recs e) → is_named y ≡ true
  unfolding up
  up_named e y h = up_named_in e y (out-TypeExpr e) h

  -- what something stands above has a definition, where arrays have one
  up_homed_in : (e y : TypeExpr) (x : TypeExpr-F TypeExpr) → roll-TypeExpr x ≡ e → ((z : TypeExpr) → IsSome (home_of recs (expr.Array z))) → In y (up_in recs e x) → IsSome (home_of recs e)
  up_homed_in e y (TypeExpr-F.Prim n) is arrays h = above_homed e y (above_in e y h)
  up_homed_in e y (TypeExpr-F.Def t) is arrays h = above_homed e y (above_in e y h)
  up_homed_in e y (TypeExpr-F.Inst t args) is arrays h = above_homed e y (above_in e y h)
  up_homed_in e y (TypeExpr-F.Array x) is arrays h = transport (λ (z : TypeExpr). IsSome (home_of recs z)) (sym (expr.rolls-Array x) ∙ is) (arrays x)
  up_homed_in e y (TypeExpr-F.ByRef x) is arrays h = above_homed e y (above_in e y h)
  up_homed_in e y (TypeExpr-F.Var n) is arrays h = above_homed e y (above_in e y h)
  up_homed_in e y (TypeExpr-F.MVar n) is arrays h = above_homed e y (above_in e y h)
  up_homed_in e y (TypeExpr-F.Mod required by x) is arrays h = above_homed e y (above_in e y h)

  pub up_homed : (e y : TypeExpr) → ((z : TypeExpr) → IsSome (home_of recs (expr.Array z))) → In y (up recs e) → IsSome (home_of recs e)
  unfolding up
  up_homed e y arrays h = up_homed_in e y (out-TypeExpr e) (roll-out-TypeExpr e) arrays h

  -- the definitions on a way up from a named type
  pub record Homes (n : ℕ) (e : TypeExpr) : Type 0 where
    pub home : RowAt
    pub is : home_of recs e ≡ Some home
    pub walks : Walks (ways recs top) n home

  pub homes : (n : ℕ) (e : TypeExpr) → is_named e ≡ true → Walks (up recs) (suc n) e → Homes n e
  homes zero e named w = let a = named_above e w.0 named w.1 in record { home = a.home; is = a.is; walks = tt }
  homes (suc n) e named w =
      let a = named_above e w.0 named w.1 in
      let more = homes n w.0 a.named w.2 in
      record { home = a.home; is = a.is; walks = (more.home, a.leads more.home more.is, more.walks) }
