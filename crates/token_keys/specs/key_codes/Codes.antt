-- What signatures are known by, as lists of numbers. Of two the first begins with no other's list, so lists stand one after another.
use Rattle.std.specs.Prelude.{ℕ, List, [], ◌∷◌, ◌++◌, length}
use Rattle.std.specs.List.{flat_map}
use Rattle.il_base.specs.declared.sig.Sig.{Sig, fold-Sig}
use Rattle.il_base.specs.declared.sig.Sig.TheOpen.{Sig-F}
use Rattle.il_base.specs.declared.sig.MethodSig.{MethodSig}
use Rattle.link_faults.specs.Codes.{bit}

-- one level of a signature: a number for its kind, and what it holds; arguments are counted
abbrev pub code_layer : Sig-F (List ℕ) → List ℕ
code_layer (Sig-F.Prim n) = 0 ∷ n ∷ []
code_layer (Sig-F.Named value token) = 1 ∷ bit value ∷ token ∷ []
code_layer (Sig-F.Array x) = 2 ∷ x
code_layer (Sig-F.ByRef x) = 3 ∷ x
code_layer (Sig-F.Inst value token args) = 4 ∷ bit value ∷ token ∷ length args ∷ flat_map (λ code. code) args
code_layer (Sig-F.Var n) = 5 ∷ n ∷ []
code_layer (Sig-F.MVar n) = 6 ∷ n ∷ []
code_layer (Sig-F.Mod required token x) = 7 ∷ bit required ∷ token ∷ x
code_layer (Sig-F.Pinned x) = 8 ∷ x

unfoldable pub sig_code : Sig → List ℕ
sig_code = fold-Sig (List ℕ) code_layer

abbrev pub sigs_code : List Sig → List ℕ
sigs_code sigs = length sigs ∷ flat_map sig_code sigs

abbrev pub method_sig_code : MethodSig → List ℕ
method_sig_code s = 0 ∷ bit s.this ∷ s.generic ∷ sig_code s.ret ++ sigs_code s.params
