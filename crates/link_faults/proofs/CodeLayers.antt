-- The numbers of a type by its outermost construct.
use Rattle.std.proofs.Common.{◌≡◌, ℕ, Bool, List, [], ◌∷◌, ◌++◌, length, map, refl, sym, ap, ◌∙◌, append_assoc}
use Rattle.std.specs.List.{flat_map}
use Rattle.std.proofs.lemmas.List.{length-map}
use Rattle.il_base.specs.declared.ids.TypeId.{TypeId}
use Rattle.il_base.specs.declared.world_model.expr.TypeExpr.{TypeExpr, fold-TypeExpr, fold-roll-TypeExpr}
use Rattle.il_base.specs.declared.world_model.expr.TypeExpr.TheOpen.{TypeExpr-F}
use Rattle.il_base.specs.declared.world_model.expr.TypeExpr.TheVariants as expr
use Rattle.link_faults.specs.Codes.{bit, code_layer, type_code}

pub code_prim : (n : ℕ) → type_code (expr.Prim n) ≡ 0 ∷ n ∷ []
unfolding type_code
code_prim n = ap (fold-TypeExpr (List ℕ) code_layer) (sym (expr.rolls-Prim n)) ∙ fold-roll-TypeExpr (List ℕ) code_layer (TypeExpr-F.Prim n)

pub code_def : (t : TypeId) → type_code (expr.Def t) ≡ 1 ∷ t.0 ∷ []
unfolding type_code
code_def t = ap (fold-TypeExpr (List ℕ) code_layer) (sym (expr.rolls-Def t)) ∙ fold-roll-TypeExpr (List ℕ) code_layer (TypeExpr-F.Def t)

pub joined : (args : List TypeExpr) → flat_map (λ code. code) (map type_code args) ≡ flat_map type_code args
joined [] = refl
joined (e ∷ args) = ap (λ (code : List ℕ). type_code e ++ code) (joined args)

pub code_inst : (t : TypeId) (args : List TypeExpr) → type_code (expr.Inst t args) ≡ 2 ∷ t.0 ∷ length args ∷ flat_map type_code args
unfolding type_code
code_inst t args =
    ap (fold-TypeExpr (List ℕ) code_layer) (sym (expr.rolls-Inst t args)) ∙ fold-roll-TypeExpr (List ℕ) code_layer (TypeExpr-F.Inst t args)
    ∙ (λ i. 2 ∷ t.0 ∷ length-map args type_code i ∷ joined args i)

pub code_array : (e : TypeExpr) → type_code (expr.Array e) ≡ 3 ∷ type_code e
unfolding type_code
code_array e = ap (fold-TypeExpr (List ℕ) code_layer) (sym (expr.rolls-Array e)) ∙ fold-roll-TypeExpr (List ℕ) code_layer (TypeExpr-F.Array e)

pub code_by_ref : (e : TypeExpr) → type_code (expr.ByRef e) ≡ 4 ∷ type_code e
unfolding type_code
code_by_ref e = ap (fold-TypeExpr (List ℕ) code_layer) (sym (expr.rolls-ByRef e)) ∙ fold-roll-TypeExpr (List ℕ) code_layer (TypeExpr-F.ByRef e)

pub code_var : (n : ℕ) → type_code (expr.Var n) ≡ 5 ∷ n ∷ []
unfolding type_code
code_var n = ap (fold-TypeExpr (List ℕ) code_layer) (sym (expr.rolls-Var n)) ∙ fold-roll-TypeExpr (List ℕ) code_layer (TypeExpr-F.Var n)

pub code_mvar : (n : ℕ) → type_code (expr.MVar n) ≡ 6 ∷ n ∷ []
unfolding type_code
code_mvar n = ap (fold-TypeExpr (List ℕ) code_layer) (sym (expr.rolls-MVar n)) ∙ fold-roll-TypeExpr (List ℕ) code_layer (TypeExpr-F.MVar n)

pub code_mod : (required : Bool) (by : TypeId) (e : TypeExpr) → type_code (expr.Mod required by e) ≡ 7 ∷ bit required ∷ by.0 ∷ type_code e
unfolding type_code
code_mod required by e = ap (fold-TypeExpr (List ℕ) code_layer) (sym (expr.rolls-Mod required by e)) ∙ fold-roll-TypeExpr (List ℕ) code_layer (TypeExpr-F.Mod required by e)

-- the numbers of a type, one level at a time
pub ruleset coding = (code_prim, code_def, code_inst, code_array, code_by_ref, code_var, code_mvar, code_mod)

-- ---- added after what was there

pub behind : (code front one rest new all : List ℕ) → one ≡ code ++ front → new ≡ one ++ rest → all ≡ front ++ rest → new ≡ code ++ all
behind code front one rest new all e f g = f ∙ ap (λ (xs : List ℕ). xs ++ rest) e ∙ append_assoc code front rest ∙ ap (λ (xs : List ℕ). code ++ xs) (sym g)

pub array_added : (code one new : List ℕ) (e now : TypeExpr) → one ≡ code ++ 3 ∷ [] → now ≡ e → new ≡ one ++ type_code now → new ≡ code ++ type_code (expr.Array e)
array_added code one new e now f g h = behind code (3 ∷ []) one (type_code e) new (type_code (expr.Array e)) f (h ∙ ap (λ (x : TypeExpr). one ++ type_code x) g) (code_array e)

pub by_ref_added : (code one new : List ℕ) (e now : TypeExpr) → one ≡ code ++ 4 ∷ [] → now ≡ e → new ≡ one ++ type_code now → new ≡ code ++ type_code (expr.ByRef e)
by_ref_added code one new e now f g h = behind code (4 ∷ []) one (type_code e) new (type_code (expr.ByRef e)) f (h ∙ ap (λ (x : TypeExpr). one ++ type_code x) g) (code_by_ref e)

pub mod_added : (code one two new : List ℕ) (required : Bool) (n : ℕ) (by : TypeId) (e now : TypeExpr) → n ≡ bit required → one ≡ code ++ 7 ∷ n ∷ [] → two ≡ one ++ by.0 ∷ [] → now ≡ e
    → new ≡ two ++ type_code now → new ≡ code ++ type_code (expr.Mod required by e)
mod_added code one two new required n by e now d f k g h =
    behind code (7 ∷ bit required ∷ by.0 ∷ []) two (type_code e) new (type_code (expr.Mod required by e))
    (behind code (7 ∷ bit required ∷ []) one (by.0 ∷ []) two (7 ∷ bit required ∷ by.0 ∷ []) (f ∙ ap (λ (m : ℕ). code ++ 7 ∷ m ∷ []) d) k refl)
    (h ∙ ap (λ (x : TypeExpr). two ++ type_code x) g) (code_mod required by e)

pub inst_added : (code one two new : List ℕ) (t : TypeId) (n : ℕ) (args now : List TypeExpr) → n ≡ length args → one ≡ code ++ 2 ∷ t.0 ∷ [] → two ≡ one ++ n ∷ [] → now ≡ args
    → new ≡ two ++ flat_map type_code now → new ≡ code ++ type_code (expr.Inst t args)
inst_added code one two new t n args now d f k g h =
    behind code (2 ∷ t.0 ∷ length args ∷ []) two (flat_map type_code args) new (type_code (expr.Inst t args))
    (behind code (2 ∷ t.0 ∷ []) one (length args ∷ []) two (2 ∷ t.0 ∷ length args ∷ []) f (k ∙ ap (λ (m : ℕ). one ++ m ∷ []) d) refl)
    (h ∙ ap (λ (xs : List TypeExpr). two ++ flat_map type_code xs) g) (code_inst t args)
