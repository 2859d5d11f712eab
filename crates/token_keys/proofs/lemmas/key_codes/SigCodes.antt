-- The code of a signature by its outermost construct.
use Rattle.std.proofs.Common.{◌≡◌, ℕ, Bool, List, [], ◌∷◌, ◌++◌, length, map, refl, sym, ap, ◌∙◌, append_assoc}
use Rattle.std.specs.List.{flat_map}
use Rattle.std.proofs.lemmas.List.{length-map}
use Rattle.il_base.specs.declared.sig.Sig.{Sig, fold-Sig, fold-roll-Sig}
use Rattle.il_base.specs.declared.sig.Sig.TheOpen.{Sig-F}
use Rattle.il_base.specs.declared.sig.Sig.TheVariants as sig
use Rattle.link_faults.specs.Codes.{bit}
use Rattle.token_keys.specs.key_codes.Codes.{code_layer, sig_code}

pub code_prim : (n : ℕ) → sig_code (sig.Prim n) ≡ 0 ∷ n ∷ []
unfolding sig_code
code_prim n = ap (fold-Sig (List ℕ) code_layer) (sym (sig.rolls-Prim n)) ∙ fold-roll-Sig (List ℕ) code_layer (Sig-F.Prim n)

pub code_named : (value : Bool) (token : ℕ) → sig_code (sig.Named value token) ≡ 1 ∷ bit value ∷ token ∷ []
unfolding sig_code
code_named value token = ap (fold-Sig (List ℕ) code_layer) (sym (sig.rolls-Named value token)) ∙ fold-roll-Sig (List ℕ) code_layer (Sig-F.Named value token)

pub code_array : (s : Sig) → sig_code (sig.Array s) ≡ 2 ∷ sig_code s
unfolding sig_code
code_array s = ap (fold-Sig (List ℕ) code_layer) (sym (sig.rolls-Array s)) ∙ fold-roll-Sig (List ℕ) code_layer (Sig-F.Array s)

pub code_by_ref : (s : Sig) → sig_code (sig.ByRef s) ≡ 3 ∷ sig_code s
unfolding sig_code
code_by_ref s = ap (fold-Sig (List ℕ) code_layer) (sym (sig.rolls-ByRef s)) ∙ fold-roll-Sig (List ℕ) code_layer (Sig-F.ByRef s)

pub joined : (args : List Sig) → flat_map (λ code. code) (map sig_code args) ≡ flat_map sig_code args
joined [] = refl
joined (s ∷ args) = ap (λ (code : List ℕ). sig_code s ++ code) (joined args)

pub code_inst : (value : Bool) (token : ℕ) (args : List Sig) → sig_code (sig.Inst value token args) ≡ 4 ∷ bit value ∷ token ∷ length args ∷ flat_map sig_code args
unfolding sig_code
code_inst value token args =
    ap (fold-Sig (List ℕ) code_layer) (sym (sig.rolls-Inst value token args)) ∙ fold-roll-Sig (List ℕ) code_layer (Sig-F.Inst value token args)
    ∙ (λ i. 4 ∷ bit value ∷ token ∷ length-map args sig_code i ∷ joined args i)

pub code_var : (n : ℕ) → sig_code (sig.Var n) ≡ 5 ∷ n ∷ []
unfolding sig_code
code_var n = ap (fold-Sig (List ℕ) code_layer) (sym (sig.rolls-Var n)) ∙ fold-roll-Sig (List ℕ) code_layer (Sig-F.Var n)

pub code_mvar : (n : ℕ) → sig_code (sig.MVar n) ≡ 6 ∷ n ∷ []
unfolding sig_code
code_mvar n = ap (fold-Sig (List ℕ) code_layer) (sym (sig.rolls-MVar n)) ∙ fold-roll-Sig (List ℕ) code_layer (Sig-F.MVar n)

pub code_mod : (required : Bool) (token : ℕ) (s : Sig) → sig_code (sig.Mod required token s) ≡ 7 ∷ bit required ∷ token ∷ sig_code s
unfolding sig_code
code_mod required token s = ap (fold-Sig (List ℕ) code_layer) (sym (sig.rolls-Mod required token s)) ∙ fold-roll-Sig (List ℕ) code_layer (Sig-F.Mod required token s)

pub code_pinned : (s : Sig) → sig_code (sig.Pinned s) ≡ 8 ∷ sig_code s
unfolding sig_code
code_pinned s = ap (fold-Sig (List ℕ) code_layer) (sym (sig.rolls-Pinned s)) ∙ fold-roll-Sig (List ℕ) code_layer (Sig-F.Pinned s)

-- the code of a signature, one level at a time
pub ruleset coding = (code_prim, code_named, code_array, code_by_ref, code_inst, code_var, code_mvar, code_mod, code_pinned)

-- ---- added after what was there

behind : (code front one rest new all : List ℕ) → one ≡ code ++ front → new ≡ one ++ rest → all ≡ front ++ rest → new ≡ code ++ all
behind code front one rest new all e f g = f ∙ ap (λ (xs : List ℕ). xs ++ rest) e ∙ append_assoc code front rest ∙ ap (λ (xs : List ℕ). code ++ xs) (sym g)

-- a signature after what was added before it
pub inner_added : (code front one new all : List ℕ) (s now : Sig) → one ≡ code ++ front → now ≡ s → new ≡ one ++ sig_code now → all ≡ front ++ sig_code s → new ≡ code ++ all
inner_added code front one new all s now e f g h = behind code front one (sig_code s) new all e (g ∙ ap (λ (x : Sig). one ++ sig_code x) f) h

pub inst_added : (code one two new : List ℕ) (value : Bool) (token n : ℕ) (args now : List Sig) → n ≡ length args → one ≡ code ++ 4 ∷ bit value ∷ token ∷ [] → two ≡ one ++ n ∷ [] → now ≡ args
    → new ≡ two ++ flat_map sig_code now → new ≡ code ++ sig_code (sig.Inst value token args)
inst_added code one two new value token n args now d f k g h =
    behind code (4 ∷ bit value ∷ token ∷ length args ∷ []) two (flat_map sig_code args) new (sig_code (sig.Inst value token args))
    (behind code (4 ∷ bit value ∷ token ∷ []) one (length args ∷ []) two (4 ∷ bit value ∷ token ∷ length args ∷ []) f (k ∙ ap (λ (m : ℕ). one ++ m ∷ []) d) refl)
    (h ∙ ap (λ (xs : List Sig). two ++ flat_map sig_code xs) g) (code_inst value token args)
