-- The modifiers of a signature by its outermost construct.
use Rattle.std.proofs.Common.{◌≡◌, ℕ, Bool, List, [], ◌∷◌, ◌++◌, map, refl, sym, ap, ◌∙◌}
use Rattle.std.specs.List.{flat_map}
use Rattle.std.proofs.lemmas.List.Concat.{flat_map-cons}
use Rattle.il_base.specs.declared.sig.Sig.{Sig, fold-Sig, fold-roll-Sig}
use Rattle.il_base.specs.declared.sig.Sig.TheOpen.{Sig-F}
use Rattle.il_base.specs.declared.sig.Sig.TheVariants as sig
use Rattle.rules.specs.link_rules.CoreNames.{modifiers_layer, modifiers, modifiers_of}

pub of_prim : (n : ℕ) → modifiers (sig.Prim n) ≡ []
unfolding modifiers
of_prim n = ap (fold-Sig (List ℕ) modifiers_layer) (sym (sig.rolls-Prim n)) ∙ fold-roll-Sig (List ℕ) modifiers_layer (Sig-F.Prim n)

pub of_named : (value : Bool) (token : ℕ) → modifiers (sig.Named value token) ≡ []
unfolding modifiers
of_named value token = ap (fold-Sig (List ℕ) modifiers_layer) (sym (sig.rolls-Named value token)) ∙ fold-roll-Sig (List ℕ) modifiers_layer (Sig-F.Named value token)

pub of_array : (s : Sig) → modifiers (sig.Array s) ≡ modifiers s
unfolding modifiers
of_array s = ap (fold-Sig (List ℕ) modifiers_layer) (sym (sig.rolls-Array s)) ∙ fold-roll-Sig (List ℕ) modifiers_layer (Sig-F.Array s)

pub of_by_ref : (s : Sig) → modifiers (sig.ByRef s) ≡ modifiers s
unfolding modifiers
of_by_ref s = ap (fold-Sig (List ℕ) modifiers_layer) (sym (sig.rolls-ByRef s)) ∙ fold-roll-Sig (List ℕ) modifiers_layer (Sig-F.ByRef s)

pub of_var : (n : ℕ) → modifiers (sig.Var n) ≡ []
unfolding modifiers
of_var n = ap (fold-Sig (List ℕ) modifiers_layer) (sym (sig.rolls-Var n)) ∙ fold-roll-Sig (List ℕ) modifiers_layer (Sig-F.Var n)

pub of_mvar : (n : ℕ) → modifiers (sig.MVar n) ≡ []
unfolding modifiers
of_mvar n = ap (fold-Sig (List ℕ) modifiers_layer) (sym (sig.rolls-MVar n)) ∙ fold-roll-Sig (List ℕ) modifiers_layer (Sig-F.MVar n)

pub of_pinned : (s : Sig) → modifiers (sig.Pinned s) ≡ modifiers s
unfolding modifiers
of_pinned s = ap (fold-Sig (List ℕ) modifiers_layer) (sym (sig.rolls-Pinned s)) ∙ fold-roll-Sig (List ℕ) modifiers_layer (Sig-F.Pinned s)

pub of_mod : (required : Bool) (token : ℕ) (s : Sig) → modifiers (sig.Mod required token s) ≡ token ∷ modifiers s
unfolding modifiers
of_mod required token s = ap (fold-Sig (List ℕ) modifiers_layer) (sym (sig.rolls-Mod required token s)) ∙ fold-roll-Sig (List ℕ) modifiers_layer (Sig-F.Mod required token s)

joined : (ss : List Sig) → flat_map (λ (xs : List ℕ). xs) (map (fold-Sig (List ℕ) modifiers_layer) ss) ≡ flat_map (fold-Sig (List ℕ) modifiers_layer) ss
joined [] = refl
joined (s ∷ ss) =
    flat_map-cons (λ (xs : List ℕ). xs) (fold-Sig (List ℕ) modifiers_layer s) (map (fold-Sig (List ℕ) modifiers_layer) ss)
    ∙ ap (λ (x : List ℕ). fold-Sig (List ℕ) modifiers_layer s ++ x) (joined ss)
    ∙ sym (flat_map-cons (fold-Sig (List ℕ) modifiers_layer) s ss)

pub of_inst : (value : Bool) (token : ℕ) (ss : List Sig) → modifiers (sig.Inst value token ss) ≡ modifiers_of ss
unfolding modifiers modifiers_of
of_inst value token ss =
    ap (fold-Sig (List ℕ) modifiers_layer) (sym (sig.rolls-Inst value token ss)) ∙ fold-roll-Sig (List ℕ) modifiers_layer (Sig-F.Inst value token ss)
    ∙ joined ss

pub ruleset layers = (of_prim, of_named, of_array, of_by_ref, of_var, of_mvar, of_pinned, of_mod, of_inst)
