-- The numbers in a signature by its outermost construct.
use Rattle.std.proofs.Common.{◌≡◌, ℕ, Bool, List, [], ◌∷◌, ◌++◌, map, refl, sym, ap, ◌∙◌, append_assoc}
use Rattle.std.specs.List.{flat_map}
use Rattle.std.proofs.lemmas.List.{append-nil}
use Rattle.il_base.specs.declared.sig.Sig.{Sig, fold-Sig, fold-roll-Sig}
use Rattle.il_base.specs.declared.sig.Sig.TheOpen.{Sig-F}
use Rattle.il_base.specs.declared.sig.Sig.TheVariants as sig
use Rattle.rules.specs.merge_rules.Refs.{numbers_layer, numbers_in}

pub in_prim : (n : ℕ) → numbers_in (sig.Prim n) ≡ []
unfolding numbers_in
in_prim n = ap (fold-Sig (List ℕ) numbers_layer) (sym (sig.rolls-Prim n)) ∙ fold-roll-Sig (List ℕ) numbers_layer (Sig-F.Prim n)

pub in_named : (value : Bool) (token : ℕ) → numbers_in (sig.Named value token) ≡ token ∷ []
unfolding numbers_in
in_named value token = ap (fold-Sig (List ℕ) numbers_layer) (sym (sig.rolls-Named value token)) ∙ fold-roll-Sig (List ℕ) numbers_layer (Sig-F.Named value token)

pub in_array : (s : Sig) → numbers_in (sig.Array s) ≡ numbers_in s
unfolding numbers_in
in_array s = ap (fold-Sig (List ℕ) numbers_layer) (sym (sig.rolls-Array s)) ∙ fold-roll-Sig (List ℕ) numbers_layer (Sig-F.Array s)

pub in_by_ref : (s : Sig) → numbers_in (sig.ByRef s) ≡ numbers_in s
unfolding numbers_in
in_by_ref s = ap (fold-Sig (List ℕ) numbers_layer) (sym (sig.rolls-ByRef s)) ∙ fold-roll-Sig (List ℕ) numbers_layer (Sig-F.ByRef s)

joined : (args : List Sig) → flat_map (λ xs. xs) (map numbers_in args) ≡ flat_map numbers_in args
joined [] = refl
joined (s ∷ args) = ap (λ (xs : List ℕ). numbers_in s ++ xs) (joined args)

pub in_inst : (value : Bool) (token : ℕ) (args : List Sig) → numbers_in (sig.Inst value token args) ≡ token ∷ flat_map numbers_in args
unfolding numbers_in
in_inst value token args =
    ap (fold-Sig (List ℕ) numbers_layer) (sym (sig.rolls-Inst value token args)) ∙ fold-roll-Sig (List ℕ) numbers_layer (Sig-F.Inst value token args)
    ∙ (λ i. token ∷ joined args i)

pub in_var : (n : ℕ) → numbers_in (sig.Var n) ≡ []
unfolding numbers_in
in_var n = ap (fold-Sig (List ℕ) numbers_layer) (sym (sig.rolls-Var n)) ∙ fold-roll-Sig (List ℕ) numbers_layer (Sig-F.Var n)

pub in_mvar : (n : ℕ) → numbers_in (sig.MVar n) ≡ []
unfolding numbers_in
in_mvar n = ap (fold-Sig (List ℕ) numbers_layer) (sym (sig.rolls-MVar n)) ∙ fold-roll-Sig (List ℕ) numbers_layer (Sig-F.MVar n)

pub in_mod : (required : Bool) (token : ℕ) (s : Sig) → numbers_in (sig.Mod required token s) ≡ token ∷ numbers_in s
unfolding numbers_in
in_mod required token s = ap (fold-Sig (List ℕ) numbers_layer) (sym (sig.rolls-Mod required token s)) ∙ fold-roll-Sig (List ℕ) numbers_layer (Sig-F.Mod required token s)

pub in_pinned : (s : Sig) → numbers_in (sig.Pinned s) ≡ numbers_in s
unfolding numbers_in
in_pinned s = ap (fold-Sig (List ℕ) numbers_layer) (sym (sig.rolls-Pinned s)) ∙ fold-roll-Sig (List ℕ) numbers_layer (Sig-F.Pinned s)

-- the numbers in a signature, one level at a time
pub ruleset numbering = (in_prim, in_named, in_array, in_by_ref, in_inst, in_var, in_mvar, in_mod, in_pinned)

-- ---- added after what was there

-- nothing more
pub none_added : (before all : List ℕ) → all ≡ [] → before ≡ before ++ all
none_added before all e = sym (append-nil before) ∙ ap (λ (xs : List ℕ). before ++ xs) (sym e)

-- a number, and then others
more_added : (before one new rest all : List ℕ) (token : ℕ) → one ≡ before ++ token ∷ [] → new ≡ one ++ rest → all ≡ token ∷ rest → new ≡ before ++ all
more_added before one new rest all token e f g =
    f ∙ ap (λ (xs : List ℕ). xs ++ rest) e ∙ append_assoc before (token ∷ []) rest ∙ ap (λ (xs : List ℕ). before ++ xs) (sym g)

pub inst_added : (before one new : List ℕ) (value : Bool) (token : ℕ) (args now : List Sig) → now ≡ args → one ≡ before ++ token ∷ [] → new ≡ one ++ flat_map numbers_in now
    → new ≡ before ++ numbers_in (sig.Inst value token args)
inst_added before one new value token args now same e f =
    more_added before one new (flat_map numbers_in args) (numbers_in (sig.Inst value token args)) token e (f ∙ ap (λ (ss : List Sig). one ++ flat_map numbers_in ss) same) (in_inst value token args)

pub mod_added : (before one new : List ℕ) (required : Bool) (token : ℕ) (s now : Sig) → now ≡ s → one ≡ before ++ token ∷ [] → new ≡ one ++ numbers_in now
    → new ≡ before ++ numbers_in (sig.Mod required token s)
mod_added before one new required token s now same e f =
    more_added before one new (numbers_in s) (numbers_in (sig.Mod required token s)) token e (f ∙ ap (λ (x : Sig). one ++ numbers_in x) same) (in_mod required token s)
