-- The types that a signature of an input names, where it has a reading, are rows of the world.
use Rattle.std.proofs.Common.{◌≡◌, ℕ, zero, suc, ◌-◌, List, [], ◌∷◌, ◌++◌, length, map, Bool, true, false, Option, Some, None, inl, inr, refl, sym, ap, subst, ◌∙◌}
use Rattle.std.specs.Prelude.{slice_get, ◌==◌, if◌then◌else◌}
use Rattle.std.specs.List.{flat_map, list_any}
use Rattle.std.specs.Option.{option_map, option_and_then}
use Rattle.std.proofs.lemmas.Bool.{ltb-true, or_left, or_right, eq-eqb}
use Rattle.il_base.specs.declared.ids.TypeId.{TypeId}
use Rattle.il_base.specs.declared.sig.Sig.{Sig, fold-Sig, fold-roll-Sig, ind-Sig, roll-Sig}
use Rattle.il_base.specs.declared.sig.Sig.TheFolds.{map-Sig}
use Rattle.il_base.specs.declared.sig.Sig.TheOpen.{Sig-F}
use Rattle.il_base.specs.declared.sig.Sig.TheVariants as sig
use Rattle.il_base.specs.declared.world_model.known.Known.{Known}
use Rattle.il_base.specs.declared.world_model.known.Known.TheVariants.{Good, Bad}
use Rattle.il_base.specs.declared.world_model.known.BadKind.TheVariants.{Unresolved}
use Rattle.il_base.specs.declared.world_model.expr.TypeExpr.{TypeExpr, out-TypeExpr}
use Rattle.il_base.specs.declared.world_model.expr.TypeExpr.TheOpen.{TypeExpr-F}
use Rattle.il_base.specs.declared.world_model.expr.TypeExpr.TheVariants as expr
use Rattle.il_base.specs.declared.world_model.record.AsmRec.{AsmRec}
use Rattle.il_base.specs.world_model.Core.{is_code}
use Rattle.il_base.specs.world_model.Tokens.{table_of}
use Rattle.il_base.specs.world_model.Worlds as worlds
use Rattle.il_base.specs.world_model.Worlds.{known_map, known_then, known_or, all_known, types_in, type_id, core_types, prim_of, is_code_of, prim_type, named_in, definition_of, definition_named, found_or_named, modifier_named, sig_layer, sig_expr}
use Rattle.rules.specs.declared.link_rules.row_at.RowAt.{RowAt}
use Rattle.rules.specs.link_rules.Types.{added_by}
use Rattle.rules.specs.link_rules.Signatures.{prim_at, definition_expr, named_type, names_at}
use Rattle.rules.specs.link_rules.Members.{type_home}
use Rattle.base_laws.proofs.lemmas.type_laws.Within.{In, in_parts, in_flat}
use Rattle.base_laws.proofs.lemmas.type_laws.Upwards.{out_is}
use Rattle.rules.specs.merge_rules.Keys.{number_of, number_or, absent_number, found_or, class_number, modifier_number, world_layer, world_sig}
use Rattle.rules.specs.merge_rules.Refs.{numbers_layer, numbers_in, type_of_number, types_of_sig}
use Rattle.merge_laws.proofs.lemmas.merged_places.Rows.{has_home}
use Rattle.merge_laws.proofs.lemmas.merged_references.Lists.{Placed, placed}
use Rattle.merge_laws.proofs.lemmas.merged_signatures.Reading.{good_map, good_then}
use Rattle.merge_laws.proofs.lemmas.merged_signatures.Agreeing.{defines}
use Rattle.merge_laws.proofs.lemmas.merged_standing.Low.{IsLow, stands_low, prim_low, token_stands, added_low}
use Rattle.trim_laws.proofs.lemmas.merged_back.Graphs.{then_some}

any_at : {A : Type 0} (p : A → Bool) (xs : List A) (k : ℕ) (x : A) → slice_get xs k ≡ Some x → p x ≡ true → list_any p xs ≡ true
any_at p [] k x e h = absurd (cc)
any_at p (y ∷ xs) zero x e h = let same : y ≡ x = cc in or_left (p y) (list_any p xs) (ap p same ∙ h)
any_at p (y ∷ xs) (suc k) x e h = or_right (p y) (list_any p xs) (any_at p xs k x e h)

code_is : (n : ℕ) (o : Option ℕ) → o ≡ Some n → is_code n o ≡ true
code_is n None e = absurd (cc)
code_is n (Some m) e = let same : m ≡ n = cc in eq-eqb m n same

module _ (recs : List AsmRec) where
  -- ---- a primitive is a type of the core library

  prim_by : (at : RowAt) (n : ℕ) (b : Bool) → (if b then option_and_then prim_of (slice_get (core_types recs) at.row) else None) ≡ Some n → Placed (is_code_of n) (core_types recs)
  prim_by at n true e =
      let r = then_some prim_of (slice_get (core_types recs) at.row) n e in
      placed (is_code_of n) (core_types recs) (any_at (is_code_of n) (core_types recs) at.row r.0 r.1 (code_is n (prim_of r.0) r.2))
  prim_by at n false e = absurd (cc)

  prim_there : (at : RowAt) (n : ℕ) → prim_at recs at ≡ Some n → (t : TypeId) × (prim_type recs n ≡ Some t)
  unfolding prim_type
  prim_there at n h =
      let p = prim_by at n (suc at.asm == length recs) h in
      (type_id recs (length recs - 1) p.index, ap (option_map (λ k. type_id recs (length recs - 1) k)) p.is)

  -- ---- numbers of types that are rows

  abbrev HasRow : TypeId → Type 0
  HasRow t = (at : RowAt) × (type_home recs t ≡ Some at)

  low_row : (t : TypeId) → IsLow recs t → HasRow t
  low_row t l = has_home types_in recs t.0 (ltb-true t.0 _ l)

  abbrev IsRow : ℕ → Type 0
  IsRow n = (t : TypeId) → n ≡ suc t.0 → HasRow t

  record AllRows (ns : List ℕ) : Type 0 where
    each : (n : ℕ) → In n ns → IsRow n

  none_rows : AllRows []
  none_rows = record { each = λ n h. absurd h }

  more_rows : (n : ℕ) (ns : List ℕ) → IsRow n → AllRows ns → AllRows (n ∷ ns)
  more_rows n ns l f = record { each = each }
    where
      each : (k : ℕ) → In k (n ∷ ns) → IsRow k
      each k (inl e) = subst IsRow (sym e) l
      each k (inr h) = f.each k h

  join_rows : (ns ms : List ℕ) → AllRows ns → AllRows ms → AllRows (ns ++ ms)
  join_rows ns ms f g = record { each = λ k h. elim (in_parts k ns ms h) [ inl i ↦ f.each k i | inr i ↦ g.each k i ] }

  of_layer : (x : Sig-F Sig) (s : Sig) → roll-Sig x ≡ s → AllRows (numbers_layer (map-Sig Sig (List ℕ) numbers_in x)) → AllRows (numbers_in s)
  unfolding numbers_in
  of_layer x s e h = subst AllRows (sym (ap (fold-Sig (List ℕ) numbers_layer) (sym e) ∙ fold-roll-Sig (List ℕ) numbers_layer x)) h

  number_row : (n : ℕ) (t : TypeId) → In t (type_of_number n) → IsRow n → HasRow t
  number_row zero t h l = absurd h
  number_row (suc k) t (inl e) l = l t (ap (λ (u : TypeId). suc u.0) (sym e))
  number_row (suc k) t (inr h) l = absurd h

  abbrev number_in : TypeExpr-F TypeExpr → ℕ
  number_in (TypeExpr-F.Def t) = suc t.0
  number_in (TypeExpr-F.Prim n) = elim (prim_type recs n) [ Some t ↦ suc t.0 | None ↦ 0 ]
  number_in _ = 0

  number_is : (x : TypeExpr-F TypeExpr) (e : TypeExpr) → out-TypeExpr e ≡ x → number_of recs (Good e) ≡ number_in x
  number_is x e f = ap number_in f

  -- ---- a number that is one of a low type is of a row

  one_row : (n : ℕ) (u : TypeId) → n ≡ suc u.0 → IsLow recs u → IsRow n
  one_row n u e l t f =
      let same : u.0 ≡ t.0 = less u.0 t.0 (sym e ∙ f) in
      low_row t (subst (λ (k : ℕ). IsLow recs (record { 0 = k })) same l)
    where
      less : (a b : ℕ) → suc a ≡ suc b → a ≡ b
      less a b e = cc

  module _ (a : ℕ) (rec : AsmRec) (there : slice_get recs a ≡ Some rec) where
    definition_by : (at : RowAt) (o : Option ℕ) → prim_at recs at ≡ o → IsLow recs (type_id recs at.asm at.row)
        → (t : TypeId) × (number_of recs (Good (elim o [ Some n ↦ expr.Prim n | None ↦ expr.Def (type_id recs at.asm at.row) ])) ≡ suc t.0) × IsLow recs t
    definition_by at None e l =
        let t : TypeId = type_id recs at.asm at.row in
        (t, number_is (TypeExpr-F.Def t) (expr.Def t) (out_is (TypeExpr-F.Def t) (expr.Def t) (expr.rolls-Def t)), l)
    definition_by at (Some n) e l =
        let p = prim_there at n e in (
          p.0,
          number_is (TypeExpr-F.Prim n) (expr.Prim n) (out_is (TypeExpr-F.Prim n) (expr.Prim n) (expr.rolls-Prim n)) ∙ ap (λ (o : Option TypeId). elim o as (λ o. ℕ) [ Some t ↦ suc t.0 | None ↦ 0 ]) p.1,
          prim_low recs n p.0 p.1,
        )

    definition_number : (at : RowAt) → IsLow recs (type_id recs at.asm at.row) → (t : TypeId) × (number_of recs (Good (definition_expr recs at)) ≡ suc t.0) × IsLow recs t
    unfolding definition_expr
    definition_number at l = definition_by at (prim_at recs at) refl l

    class_is : (token n : ℕ) (e : TypeExpr) → named_type recs a rec token ≡ Good e → number_of recs (Good e) ≡ suc n → class_number recs a rec token ≡ suc n
    unfolding class_number
    class_is token n e f g = ap (λ (k : Known TypeExpr). found_or (number_of recs k) (absent_number recs a token)) f ∙ ap (λ (m : ℕ). found_or m (absent_number recs a token)) g

    class_row : (token : ℕ) (e : TypeExpr) → named_type recs a rec token ≡ Good e → IsRow (class_number recs a rec token)
    class_row token e f =
        let d = defines recs a rec token e f in
        let n = definition_number d.at (stands_low recs d.at (token_stands recs a rec there token d.at d.is)) in
        one_row (class_number recs a rec token) n.0 (class_is token n.0.0 e f (ap (λ (x : TypeExpr). number_of recs (Good x)) (sym d.gives) ∙ n.1)) n.2

    abbrev n : worlds.Names
    n = names_at recs a rec

    in_by : (token : ℕ) (e : TypeExpr) (b : Bool) → (if b then Bad Unresolved else known_or (Some (named_type recs a rec token))) ≡ Good e → IsRow (class_number recs a rec token)
    in_by token e true h = absurd (cc)
    in_by token e false h = class_row token e h

    in_row : (token : ℕ) (e : TypeExpr) → named_in n.types token ≡ Good e → IsRow (class_number recs a rec token)
    unfolding named_in
    in_row token e h = in_by token e (table_of token == 0x1b) h

    defined_row : (token : ℕ) (t : TypeId) → definition_named n token ≡ Good t → IsRow (class_number recs a rec token)
    unfolding definition_named
    defined_row token t h = let k = good_then (definition_of (prim_type recs)) (named_in n.types token) t h in in_row token k.from k.is

    modifier_by : (token : ℕ) (t : TypeId) (o : Option TypeId) → added_by recs a rec token ≡ o → found_or_named o (definition_named n token) ≡ Good t → IsRow (number_or o (class_number recs a rec token))
    modifier_by token t None e h = defined_row token t h
    modifier_by token t (Some u) e h = one_row (suc u.0) u refl (added_low recs a rec there token u e)

    modifier_row : (token : ℕ) (t : TypeId) → modifier_named n token ≡ Good t → IsRow (modifier_number recs a rec token)
    unfolding modifier_named
    modifier_row token t h = modifier_by token t (added_by recs a rec token) refl h

    -- ---- signatures

    abbrev world : Sig → Sig
    world = world_sig recs a rec

    abbrev Reads : Sig → Type 0
    Reads s = (e : TypeExpr) → sig_expr n s ≡ Good e → AllRows (numbers_in (world s))

    abbrev Part : Type 0
    Part = (s : Sig) × Reads s

    abbrev plain : List Part → List Sig
    plain xs = map (λ x. x.0) xs

    args_rows : (xs : List Part) (es : List TypeExpr) → all_known (map (sig_expr n) (plain xs)) ≡ Good es → AllRows (flat_map (λ ns. ns) (map numbers_in (map world (plain xs))))
    args_rows [] es h = none_rows
    args_rows (x ∷ xs) es h =
        let k = good_then (λ (y : TypeExpr). known_map (λ ys. y ∷ ys) (all_known (map (sig_expr n) (plain xs)))) (sig_expr n x.0) es h in
        let m = good_map (λ (ys : List TypeExpr). k.from ∷ ys) (all_known (map (sig_expr n) (plain xs))) es k.gives in
        join_rows (numbers_in (world x.0)) (flat_map (λ ns. ns) (map numbers_in (map world (plain xs)))) (x.1 k.from k.is) (args_rows xs m.from m.is)

    abbrev OfLayer : Sig-F Part → Type 0
    OfLayer y = AllRows (numbers_in (world_layer recs a rec (map-Sig Sig Sig world (map-Sig Part Sig (λ x. x.0) y))))

    layer_rows : (y : Sig-F Part) (e : TypeExpr) → sig_layer n (map-Sig Sig (Known TypeExpr) (sig_expr n) (map-Sig Part Sig (λ x. x.0) y)) ≡ Good e → OfLayer y
    layer_rows (Sig-F.Prim k) e h = of_layer (Sig-F.Prim k) (sig.Prim k) (sig.rolls-Prim k) none_rows
    layer_rows (Sig-F.Named v token) e h =
        let k : ℕ = class_number recs a rec token in of_layer (Sig-F.Named v k) (sig.Named v k) (sig.rolls-Named v k) (more_rows k [] (in_row token e h) none_rows)
    layer_rows (Sig-F.Array x) e h =
        let m = good_map (λ (y : TypeExpr). expr.Array y) (sig_expr n x.0) e h in of_layer (Sig-F.Array (world x.0)) (sig.Array (world x.0)) (sig.rolls-Array (world x.0)) (x.1 m.from m.is)
    layer_rows (Sig-F.ByRef x) e h =
        let m = good_map (λ (y : TypeExpr). expr.ByRef y) (sig_expr n x.0) e h in of_layer (Sig-F.ByRef (world x.0)) (sig.ByRef (world x.0)) (sig.rolls-ByRef (world x.0)) (x.1 m.from m.is)
    layer_rows (Sig-F.Inst v token xs) e h =
        let d = good_then (λ (d : TypeId). known_map (λ (ys : List TypeExpr). expr.Inst d ys) (all_known (map (sig_expr n) (plain xs)))) (definition_named n token) e h in
        let m = good_map (λ (ys : List TypeExpr). expr.Inst d.from ys) (all_known (map (sig_expr n) (plain xs))) e d.gives in
        let k : ℕ = class_number recs a rec token in
        let ss : List Sig = map world (plain xs) in
        of_layer (Sig-F.Inst v k ss) (sig.Inst v k ss) (sig.rolls-Inst v k ss) (more_rows k (flat_map (λ ns. ns) (map numbers_in ss)) (defined_row token d.from d.is) (args_rows xs m.from m.is))
    layer_rows (Sig-F.Var k) e h = of_layer (Sig-F.Var k) (sig.Var k) (sig.rolls-Var k) none_rows
    layer_rows (Sig-F.MVar k) e h = of_layer (Sig-F.MVar k) (sig.MVar k) (sig.rolls-MVar k) none_rows
    layer_rows (Sig-F.Mod required token x) e h =
        let d = good_then (λ (d : TypeId). known_map (λ (y : TypeExpr). expr.Mod required d y) (sig_expr n x.0)) (modifier_named n token) e h in
        let m = good_map (λ (y : TypeExpr). expr.Mod required d.from y) (sig_expr n x.0) e d.gives in
        let k : ℕ = modifier_number recs a rec token in
        of_layer (Sig-F.Mod required k (world x.0)) (sig.Mod required k (world x.0)) (sig.rolls-Mod required k (world x.0)) (more_rows k (numbers_in (world x.0)) (modifier_row token d.from d.is) (x.1 m.from m.is))
    layer_rows (Sig-F.Pinned x) e h = of_layer (Sig-F.Pinned (world x.0)) (sig.Pinned (world x.0)) (sig.rolls-Pinned (world x.0)) (x.1 e h)

    rolled : (y : Sig-F Part) → Reads (roll-Sig (map-Sig Part Sig (λ x. x.0) y))
    unfolding sig_expr world_sig
    rolled y e h =
        subst (λ (s : Sig). AllRows (numbers_in s)) (sym (fold-roll-Sig Sig (world_layer recs a rec) (map-Sig Part Sig (λ x. x.0) y)))
        (layer_rows y e (sym (fold-roll-Sig (Known TypeExpr) (sig_layer n) (map-Sig Part Sig (λ x. x.0) y)) ∙ h))

    sig_rows : (s : Sig) → Reads s
    sig_rows = ind-Sig Reads (λ x y is. subst (λ z. Reads (roll-Sig z)) is (rolled y))

    pub sig_there : (s : Sig) (e : TypeExpr) (t : TypeId) → sig_expr n s ≡ Good e → In t (types_of_sig (world_sig recs a rec s)) → (at : RowAt) × (type_home recs t ≡ Some at)
    sig_there s e t h i =
        let m = in_flat type_of_number t (numbers_in (world_sig recs a rec s)) i in
        number_row m.0 t m.2 ((sig_rows s e h).each m.0 m.1)
