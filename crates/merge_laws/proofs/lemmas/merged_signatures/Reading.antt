-- A signature over the types of a world, written with other tokens, names the moved type where each of its tokens does.
use Rattle.std.proofs.Common.{◌≡◌, ℕ, Bool, List, [], ◌∷◌, map, inl, inr, refl, sym, ap, subst, ◌∙◌}
use Rattle.std.specs.List.{flat_map}
use Rattle.il_base.specs.declared.ids.TypeId.{TypeId}
use Rattle.il_base.specs.declared.sig.Sig.{Sig, roll-Sig, fold-roll-Sig, ind-Sig}
use Rattle.il_base.specs.declared.sig.Sig.TheFolds.{map-Sig}
use Rattle.il_base.specs.declared.sig.Sig.TheOpen.{Sig-F}
use Rattle.il_base.specs.declared.sig.Sig.TheVariants as sig
use Rattle.il_base.specs.declared.sig.MethodSig.{MethodSig}
use Rattle.il_base.specs.declared.world_model.known.Known.{Known}
use Rattle.il_base.specs.declared.world_model.known.Known.TheVariants.{Good, Bad}
use Rattle.il_base.specs.declared.world_model.expr.TypeExpr.{TypeExpr}
use Rattle.il_base.specs.declared.world_model.expr.TypeExpr.TheVariants as expr
use Rattle.il_base.specs.declared.world_model.record.AsmRec.{AsmRec}
use Rattle.il_base.specs.world_model.Worlds.{Names, known_map, known_then, all_known, named_in, definition_named, modifier_named, instance_of, modified, sig_layer, sig_expr}
use Rattle.rules.specs.change_rules.Change.{Rho}
use Rattle.rules.specs.change_rules.Moves.{move_type, move_expr, move_exprs}
use Rattle.base_laws.proofs.lemmas.change_laws.Exprs.{move_prim, move_inst, move_array, move_by_ref, move_var, move_mvar, move_mod}
use Rattle.rules.specs.declared.link_rules.member_type.MethodType.{MethodType}
use Rattle.rules.specs.link_rules.Signatures.{method_type_of, method_type}
use Rattle.rules.specs.merge_rules.Keys.{class_number, modifier_number, world_layer, world_sig, world_method_sig}
use Rattle.rules.specs.merge_rules.Refs.{Output, numbers_layer, numbers_in, number_token, new_sig_layer, new_sig, new_method_sig}
use Rattle.base_laws.proofs.lemmas.type_laws.Within.{In, in_front, in_behind}

-- ---- what is good

pub record GoodMap {A B : Type 0} (f : A → B) (k : Known A) (y : B) : Type 0 where
  pub from : A
  pub is : k ≡ Good from
  pub gives : f from ≡ y

pub good_map : {A B : Type 0} (f : A → B) (k : Known A) (y : B) → known_map f k ≡ Good y → GoodMap f k y
good_map f (Good x) y e = record { from = x; is = refl; gives = cc }
good_map f (Bad why) y e = cc

pub record GoodThen {A B : Type 0} (f : A → Known B) (k : Known A) (y : B) : Type 0 where
  pub from : A
  pub is : k ≡ Good from
  pub gives : f from ≡ Good y

pub good_then : {A B : Type 0} (f : A → Known B) (k : Known A) (y : B) → known_then f k ≡ Good y → GoodThen f k y
good_then f (Good x) y e = record { from = x; is = refl; gives = e }
good_then f (Bad why) y e = cc

-- ---- signatures by their outermost construct

reads : (names : Names) (x : Sig-F Sig) (s : Sig) → roll-Sig x ≡ s → sig_expr names s ≡ sig_layer names (map-Sig Sig (Known TypeExpr) (sig_expr names) x)
unfolding sig_expr
reads names x s e = ap (sig_expr names) (sym e) ∙ fold-roll-Sig (Known TypeExpr) (sig_layer names) x

numbers : (x : Sig-F Sig) (s : Sig) → roll-Sig x ≡ s → numbers_in s ≡ numbers_layer (map-Sig Sig (List ℕ) numbers_in x)
unfolding numbers_in
numbers x s e = ap numbers_in (sym e) ∙ fold-roll-Sig (List ℕ) numbers_layer x

module _ (o : Output) (recs : List AsmRec) (a : ℕ) (rec : AsmRec) (m n : Names) (r : Rho) (W : ℕ → Type 0) where
  -- the tokens name what the first names' do, moved
  pub record Agrees : Type 0 where
    pub named : (token : ℕ) (e : TypeExpr) → named_in m.types token ≡ Good e → W (class_number recs a rec token) → named_in n.types (number_token o (class_number recs a rec token)) ≡ Good (move_expr r e)
    pub defined : (token : ℕ) (t : TypeId) → definition_named m token ≡ Good t → W (class_number recs a rec token)
        → definition_named n (number_token o (class_number recs a rec token)) ≡ Good (move_type r t)
    pub modifies : (token : ℕ) (t : TypeId) → modifier_named m token ≡ Good t → W (modifier_number recs a rec token)
        → modifier_named n (number_token o (modifier_number recs a rec token)) ≡ Good (move_type r t)

  abbrev world : Sig → Sig
  world = world_sig recs a rec

  abbrev pub both : Sig → Sig
  both s = new_sig o (world_sig recs a rec s)

  world_is : (x : Sig-F Sig) (s : Sig) → roll-Sig x ≡ s → world s ≡ world_layer recs a rec (map-Sig Sig Sig world x)
  unfolding world_sig
  world_is x s e = ap world (sym e) ∙ fold-roll-Sig Sig (world_layer recs a rec) x

  new_is : (x : Sig-F Sig) (s : Sig) → roll-Sig x ≡ s → new_sig o s ≡ new_sig_layer o (map-Sig Sig Sig (new_sig o) x)
  unfolding new_sig
  new_is x s e = ap (new_sig o) (sym e) ∙ fold-roll-Sig Sig (new_sig_layer o) x

  abbrev pub AllIn : List ℕ → Type 0
  AllIn ns = (k : ℕ) → In k ns → W k

  abbrev pub Reads : Sig → Type 0
  Reads s = (e : TypeExpr) → sig_expr m s ≡ Good e → AllIn (numbers_in (world s)) → sig_expr n (both s) ≡ Good (move_expr r e)

  abbrev Part : Type 0
  Part = (s : Sig) × Reads s

  abbrev plain : List Part → List Sig
  plain xs = map (λ x. x.0) xs

  module _ (f : Agrees) where
    all_of : (ns ms : List ℕ) → ns ≡ ms → AllIn ns → AllIn ms
    all_of ns ms e w = subst AllIn e w

    -- ---- a construct each

    read_prim : (k : ℕ) → Reads (sig.Prim k)
    read_prim k e h w =
        let from : Good (expr.Prim k) ≡ Good e = sym (reads m (Sig-F.Prim k) (sig.Prim k) (sig.rolls-Prim k)) ∙ h in
        let is : expr.Prim k ≡ e = cc in
        ap (sig_expr n) (ap (new_sig o) (world_is (Sig-F.Prim k) (sig.Prim k) (sig.rolls-Prim k)) ∙ new_is (Sig-F.Prim k) (sig.Prim k) (sig.rolls-Prim k))
        ∙ reads n (Sig-F.Prim k) (sig.Prim k) (sig.rolls-Prim k) ∙ ap Good (sym (move_prim r k) ∙ ap (move_expr r) is)

    read_var : (k : ℕ) → Reads (sig.Var k)
    read_var k e h w =
        let from : Good (expr.Var k) ≡ Good e = sym (reads m (Sig-F.Var k) (sig.Var k) (sig.rolls-Var k)) ∙ h in
        let is : expr.Var k ≡ e = cc in
        ap (sig_expr n) (ap (new_sig o) (world_is (Sig-F.Var k) (sig.Var k) (sig.rolls-Var k)) ∙ new_is (Sig-F.Var k) (sig.Var k) (sig.rolls-Var k))
        ∙ reads n (Sig-F.Var k) (sig.Var k) (sig.rolls-Var k) ∙ ap Good (sym (move_var r k) ∙ ap (move_expr r) is)

    read_mvar : (k : ℕ) → Reads (sig.MVar k)
    read_mvar k e h w =
        let from : Good (expr.MVar k) ≡ Good e = sym (reads m (Sig-F.MVar k) (sig.MVar k) (sig.rolls-MVar k)) ∙ h in
        let is : expr.MVar k ≡ e = cc in
        ap (sig_expr n) (ap (new_sig o) (world_is (Sig-F.MVar k) (sig.MVar k) (sig.rolls-MVar k)) ∙ new_is (Sig-F.MVar k) (sig.MVar k) (sig.rolls-MVar k))
        ∙ reads n (Sig-F.MVar k) (sig.MVar k) (sig.rolls-MVar k) ∙ ap Good (sym (move_mvar r k) ∙ ap (move_expr r) is)

    read_named : (v : Bool) (token : ℕ) → Reads (sig.Named v token)
    read_named v token e h w =
        let from : named_in m.types token ≡ Good e = sym (reads m (Sig-F.Named v token) (sig.Named v token) (sig.rolls-Named v token)) ∙ h in
        let k : ℕ = class_number recs a rec token in
        let w' : AllIn (k ∷ []) = all_of (numbers_in (world (sig.Named v token))) (k ∷ [])
        (ap numbers_in (world_is (Sig-F.Named v token) (sig.Named v token) (sig.rolls-Named v token)) ∙ numbers (Sig-F.Named v k) (sig.Named v k) (sig.rolls-Named v k)) w in
        let t : ℕ = number_token o k in
        ap (sig_expr n) (ap (new_sig o) (world_is (Sig-F.Named v token) (sig.Named v token) (sig.rolls-Named v token)) ∙ new_is (Sig-F.Named v k) (sig.Named v k) (sig.rolls-Named v k))
        ∙ reads n (Sig-F.Named v t) (sig.Named v t) (sig.rolls-Named v t) ∙ f.named token e from (w' k (inl refl))

    read_array : (s : Sig) → Reads s → Reads (sig.Array s)
    read_array s p e h w =
        let g = good_map (λ (x : TypeExpr). expr.Array x) (sig_expr m s) e (sym (reads m (Sig-F.Array s) (sig.Array s) (sig.rolls-Array s)) ∙ h) in
        let w' : AllIn (numbers_in (world s)) = all_of (numbers_in (world (sig.Array s))) (numbers_in (world s))
        (ap numbers_in (world_is (Sig-F.Array s) (sig.Array s) (sig.rolls-Array s)) ∙ numbers (Sig-F.Array (world s)) (sig.Array (world s)) (sig.rolls-Array (world s))) w in
        ap (sig_expr n) (ap (new_sig o) (world_is (Sig-F.Array s) (sig.Array s) (sig.rolls-Array s)) ∙ new_is (Sig-F.Array (world s)) (sig.Array (world s)) (sig.rolls-Array (world s)))
        ∙ reads n (Sig-F.Array (both s)) (sig.Array (both s)) (sig.rolls-Array (both s)) ∙ ap (known_map (λ (x : TypeExpr). expr.Array x)) (p g.from g.is w')
        ∙ ap Good (sym (move_array r g.from) ∙ ap (move_expr r) g.gives)

    read_by_ref : (s : Sig) → Reads s → Reads (sig.ByRef s)
    read_by_ref s p e h w =
        let g = good_map (λ (x : TypeExpr). expr.ByRef x) (sig_expr m s) e (sym (reads m (Sig-F.ByRef s) (sig.ByRef s) (sig.rolls-ByRef s)) ∙ h) in
        let w' : AllIn (numbers_in (world s)) = all_of (numbers_in (world (sig.ByRef s))) (numbers_in (world s))
        (ap numbers_in (world_is (Sig-F.ByRef s) (sig.ByRef s) (sig.rolls-ByRef s)) ∙ numbers (Sig-F.ByRef (world s)) (sig.ByRef (world s)) (sig.rolls-ByRef (world s))) w in
        ap (sig_expr n) (ap (new_sig o) (world_is (Sig-F.ByRef s) (sig.ByRef s) (sig.rolls-ByRef s)) ∙ new_is (Sig-F.ByRef (world s)) (sig.ByRef (world s)) (sig.rolls-ByRef (world s)))
        ∙ reads n (Sig-F.ByRef (both s)) (sig.ByRef (both s)) (sig.rolls-ByRef (both s)) ∙ ap (known_map (λ (x : TypeExpr). expr.ByRef x)) (p g.from g.is w')
        ∙ ap Good (sym (move_by_ref r g.from) ∙ ap (move_expr r) g.gives)

    read_pinned : (s : Sig) → Reads s → Reads (sig.Pinned s)
    read_pinned s p e h w =
        let g : sig_expr m s ≡ Good e = sym (reads m (Sig-F.Pinned s) (sig.Pinned s) (sig.rolls-Pinned s)) ∙ h in
        let w' : AllIn (numbers_in (world s)) = all_of (numbers_in (world (sig.Pinned s))) (numbers_in (world s))
        (ap numbers_in (world_is (Sig-F.Pinned s) (sig.Pinned s) (sig.rolls-Pinned s)) ∙ numbers (Sig-F.Pinned (world s)) (sig.Pinned (world s)) (sig.rolls-Pinned (world s))) w in
        ap (sig_expr n) (ap (new_sig o) (world_is (Sig-F.Pinned s) (sig.Pinned s) (sig.rolls-Pinned s)) ∙ new_is (Sig-F.Pinned (world s)) (sig.Pinned (world s)) (sig.rolls-Pinned (world s)))
        ∙ reads n (Sig-F.Pinned (both s)) (sig.Pinned (both s)) (sig.rolls-Pinned (both s)) ∙ p e g w'

    read_mod : (q : Bool) (token : ℕ) (s : Sig) → Reads s → Reads (sig.Mod q token s)
    read_mod q token s p e h w =
        let g = good_then (λ (d : TypeId). known_map (λ (x : TypeExpr). expr.Mod q d x) (sig_expr m s)) (modifier_named m token) e (sym (reads m (Sig-F.Mod q token s) (sig.Mod q token s) (sig.rolls-Mod q token s)) ∙ h) in
        let i = good_map (λ (x : TypeExpr). expr.Mod q g.from x) (sig_expr m s) e g.gives in
        let k : ℕ = modifier_number recs a rec token in
        let w' : AllIn (k ∷ numbers_in (world s)) = all_of (numbers_in (world (sig.Mod q token s))) (k ∷ numbers_in (world s))
        (ap numbers_in (world_is (Sig-F.Mod q token s) (sig.Mod q token s) (sig.rolls-Mod q token s)) ∙ numbers (Sig-F.Mod q k (world s)) (sig.Mod q k (world s)) (sig.rolls-Mod q k (world s))) w in
        let t : ℕ = number_token o k in
        ap (sig_expr n) (ap (new_sig o) (world_is (Sig-F.Mod q token s) (sig.Mod q token s) (sig.rolls-Mod q token s)) ∙ new_is (Sig-F.Mod q k (world s)) (sig.Mod q k (world s)) (sig.rolls-Mod q k (world s)))
        ∙ reads n (Sig-F.Mod q t (both s)) (sig.Mod q t (both s)) (sig.rolls-Mod q t (both s))
        ∙ (λ j. modified q (f.modifies token g.from g.is (w' k (inl refl)) j) (p i.from i.is (λ l x. w' l (inr x)) j))
        ∙ ap Good (sym (move_mod r q g.from i.from) ∙ ap (move_expr r) i.gives)

    -- ---- arguments

    abbrev pub numbers_of : List Sig → List ℕ
    numbers_of ss = flat_map (λ xs. xs) (map numbers_in (map world ss))

    read_args : (xs : List Part) (es : List TypeExpr) → all_known (map (sig_expr m) (plain xs)) ≡ Good es → AllIn (numbers_of (plain xs))
        → all_known (map (sig_expr n) (map (new_sig o) (map world (plain xs)))) ≡ Good (move_exprs r es)
    read_args [] es h w = let is : [] ≡ es = cc in ap (λ (ys : List TypeExpr). Good (move_exprs r ys)) is
    read_args (x ∷ xs) es h w =
        let g = good_then (λ (y : TypeExpr). known_map (λ ys. y ∷ ys) (all_known (map (sig_expr m) (plain xs)))) (sig_expr m x.0) es h in
        let i = good_map (λ (ys : List TypeExpr). g.from ∷ ys) (all_known (map (sig_expr m) (plain xs))) es g.gives in
        let here : sig_expr n (both x.0) ≡ Good (move_expr r g.from) = x.1 g.from g.is (λ l v. w l (in_front l (numbers_in (world x.0)) (numbers_of (plain xs)) v)) in
        let rest : all_known (map (sig_expr n) (map (new_sig o) (map world (plain xs)))) ≡ Good (move_exprs r i.from) =
        read_args xs i.from i.is (λ l v. w l (in_behind l (numbers_in (world x.0)) (numbers_of (plain xs)) v)) in
        (λ j. known_then (λ (y : TypeExpr). known_map (λ ys. y ∷ ys) (rest j)) (here j)) ∙ ap (λ (ys : List TypeExpr). Good (move_exprs r ys)) i.gives

    read_inst : (v : Bool) (token : ℕ) (xs : List Part) → Reads (sig.Inst v token (plain xs))
    read_inst v token xs e h w =
        let ss : List Sig = plain xs in
        let g = good_then (λ (d : TypeId). known_map (λ (ys : List TypeExpr). expr.Inst d ys) (all_known (map (sig_expr m) ss))) (definition_named m token) e
        (sym (reads m (Sig-F.Inst v token ss) (sig.Inst v token ss) (sig.rolls-Inst v token ss)) ∙ h) in
        let i = good_map (λ (ys : List TypeExpr). expr.Inst g.from ys) (all_known (map (sig_expr m) ss)) e g.gives in
        let k : ℕ = class_number recs a rec token in
        let ws : List Sig = map world ss in
        let w' : AllIn (k ∷ numbers_of ss) = all_of (numbers_in (world (sig.Inst v token ss))) (k ∷ numbers_of ss)
        (ap numbers_in (world_is (Sig-F.Inst v token ss) (sig.Inst v token ss) (sig.rolls-Inst v token ss)) ∙ numbers (Sig-F.Inst v k ws) (sig.Inst v k ws) (sig.rolls-Inst v k ws)) w in
        let t : ℕ = number_token o k in
        let ns : List Sig = map (new_sig o) ws in
        ap (sig_expr n) (ap (new_sig o) (world_is (Sig-F.Inst v token ss) (sig.Inst v token ss) (sig.rolls-Inst v token ss)) ∙ new_is (Sig-F.Inst v k ws) (sig.Inst v k ws) (sig.rolls-Inst v k ws))
        ∙ reads n (Sig-F.Inst v t ns) (sig.Inst v t ns) (sig.rolls-Inst v t ns)
        ∙ (λ j. instance_of (f.defined token g.from g.is (w' k (inl refl)) j) (read_args xs i.from i.is (λ l x. w' l (inr x)) j))
        ∙ ap Good (sym (move_inst r g.from i.from) ∙ ap (move_expr r) i.gives)

    -- ---- all

    rolled : (x : Sig-F Sig) (s : Sig) → roll-Sig x ≡ s → Reads s → Reads (roll-Sig x)
    rolled x s e p = subst Reads (sym e) p

    read_layer : (y : Sig-F Part) → Reads (roll-Sig (map-Sig Part Sig (λ x. x.0) y))
    read_layer (Sig-F.Prim k) = rolled (Sig-F.Prim k) (sig.Prim k) (sig.rolls-Prim k) (read_prim k)
    read_layer (Sig-F.Named v token) = rolled (Sig-F.Named v token) (sig.Named v token) (sig.rolls-Named v token) (read_named v token)
    read_layer (Sig-F.Array x) = rolled (Sig-F.Array x.0) (sig.Array x.0) (sig.rolls-Array x.0) (read_array x.0 x.1)
    read_layer (Sig-F.ByRef x) = rolled (Sig-F.ByRef x.0) (sig.ByRef x.0) (sig.rolls-ByRef x.0) (read_by_ref x.0 x.1)
    read_layer (Sig-F.Inst v token xs) = rolled (Sig-F.Inst v token (plain xs)) (sig.Inst v token (plain xs)) (sig.rolls-Inst v token (plain xs)) (read_inst v token xs)
    read_layer (Sig-F.Var k) = rolled (Sig-F.Var k) (sig.Var k) (sig.rolls-Var k) (read_var k)
    read_layer (Sig-F.MVar k) = rolled (Sig-F.MVar k) (sig.MVar k) (sig.rolls-MVar k) (read_mvar k)
    read_layer (Sig-F.Mod q token x) = rolled (Sig-F.Mod q token x.0) (sig.Mod q token x.0) (sig.rolls-Mod q token x.0) (read_mod q token x.0 x.1)
    read_layer (Sig-F.Pinned x) = rolled (Sig-F.Pinned x.0) (sig.Pinned x.0) (sig.rolls-Pinned x.0) (read_pinned x.0 x.1)

    pub sig_reads : (s : Sig) → Reads s
    sig_reads = ind-Sig Reads (λ x y is. subst (λ z. Reads (roll-Sig z)) is (read_layer y))

    -- ---- lists of signatures, and those of methods

    pub sigs_read : (ss : List Sig) (es : List TypeExpr) → all_known (map (sig_expr m) ss) ≡ Good es → ((s : Sig) → In s ss → AllIn (numbers_in (world s)))
        → all_known (map (sig_expr n) (map (new_sig o) (map world ss))) ≡ Good (move_exprs r es)
    sigs_read [] es h w = let is : [] ≡ es = cc in ap (λ (ys : List TypeExpr). Good (move_exprs r ys)) is
    sigs_read (s ∷ ss) es h w =
        let g = good_then (λ (y : TypeExpr). known_map (λ ys. y ∷ ys) (all_known (map (sig_expr m) ss))) (sig_expr m s) es h in
        let i = good_map (λ (ys : List TypeExpr). g.from ∷ ys) (all_known (map (sig_expr m) ss)) es g.gives in
        let here : sig_expr n (both s) ≡ Good (move_expr r g.from) = sig_reads s g.from g.is (w s (inl refl)) in
        let rest : all_known (map (sig_expr n) (map (new_sig o) (map world ss))) ≡ Good (move_exprs r i.from) = sigs_read ss i.from i.is (λ x v. w x (inr v)) in
        (λ j. known_then (λ (y : TypeExpr). known_map (λ ys. y ∷ ys) (rest j)) (here j)) ∙ ap (λ (ys : List TypeExpr). Good (move_exprs r ys)) i.gives

    pub method_reads : (s : MethodSig) (t : MethodType) → method_type m s ≡ Good t → ((x : Sig) → In x (s.ret ∷ s.params) → AllIn (numbers_in (world x)))
        → method_type n (new_method_sig o (world_method_sig recs a rec s)) ≡ Good (record t { ret = move_expr r t.ret; params = move_exprs r t.params })
    unfolding method_type
    method_reads s t h w =
        let g = good_then (λ (ret : TypeExpr). known_map (λ params. method_type_of s ret params) (all_known (map (sig_expr m) s.params))) (sig_expr m s.ret) t h in
        let i = good_map (λ (params : List TypeExpr). method_type_of s g.from params) (all_known (map (sig_expr m) s.params)) t g.gives in
        let new : MethodSig = new_method_sig o (world_method_sig recs a rec s) in
        let ret : sig_expr n (both s.ret) ≡ Good (move_expr r g.from) = sig_reads s.ret g.from g.is (w s.ret (inl refl)) in
        let params : all_known (map (sig_expr n) (map (new_sig o) (map world s.params))) ≡ Good (move_exprs r i.from) = sigs_read s.params i.from i.is (λ x v. w x (inr v)) in
        (λ j. known_then (λ (y : TypeExpr). known_map (λ ys. method_type_of new y ys) (params j)) (ret j))
        ∙ ap (λ (u : MethodType). Good (record u { ret = move_expr r u.ret; params = move_exprs r u.params })) i.gives
