-- Which values have a spelling, said of the values alone.
use Rattle.std.specs.Prelude.{◌≡◌, ◌⊎◌, ℕ, suc, ◌/◌, ◌<◌, Bool, true, List, [], ◌∷◌, length}
use Rattle.il_base.specs.declared.sig.MethodSig.{MethodSig}
use Rattle.il_base.specs.declared.sig.Sig.{Sig}
use Rattle.il_base.specs.declared.sig.Sig.TheVariants.{Named, Array, ByRef, Inst, Var, MVar, Mod, Pinned}
use Rattle.il_base.specs.declared.sig.Sig.TheVariants as sig
use Rattle.il_base.specs.blob_grammar.Signatures.{is_primitive, levels}

-- a token of TypeDef, TypeRef or TypeSpec: the table in its highest byte, the row in the three below
abbrev pub IsTypeToken : ℕ → Type 0
IsTypeToken token = (token / 16777216 ≡ 2) ⊎ ((token / 16777216 ≡ 1) ⊎ (token / 16777216 ≡ 27))

-- a number that has a form
abbrev pub FitsNumber : ℕ → Type 0
FitsNumber n = n < 536870912

-- the types that have a spelling where at most `room` constructs that hold a type may stand open
mutual
  pub data FitsType : ℕ → Sig → Type 0 where
    primitive : (room b : ℕ) → is_primitive b ≡ true → FitsType room (sig.Prim b)
    named : (room : ℕ) (value : Bool) (token : ℕ) → IsTypeToken token → FitsType room (Named value token)
    of_type : (room n : ℕ) → FitsNumber n → FitsType room (Var n)
    of_method : (room n : ℕ) → FitsNumber n → FitsType room (MVar n)
    vector : (room : ℕ) (s : Sig) → FitsType room s → FitsType (suc room) (Array s)
    reference : (room : ℕ) (s : Sig) → FitsType room s → FitsType (suc room) (ByRef s)
    pinned : (room : ℕ) (s : Sig) → FitsType room s → FitsType (suc room) (Pinned s)
    modified : (room : ℕ) (required : Bool) (token : ℕ) (s : Sig) → IsTypeToken token → FitsType room s → FitsType (suc room) (Mod required token s)
    instance : (room : ℕ) (value : Bool) (token : ℕ) (ss : List Sig) → IsTypeToken token → FitsNumber (length ss) → FitTypes room ss
        → FitsType (suc room) (Inst value token ss)

  pub data FitTypes : ℕ → List Sig → Type 0 where
    none : (room : ℕ) → FitTypes room []
    more : (room : ℕ) (s : Sig) (ss : List Sig) → FitsType room s → FitTypes room ss → FitTypes room (s ∷ ss)

-- types with a count before them, as those of locals and of method instances
pub record FitRow (ss : List Sig) : Type 0 where
  pub count : FitsNumber (length ss)
  pub each : FitTypes levels ss

-- the signatures of methods that have a spelling
pub record FitsMethod (m : MethodSig) : Type 0 where
  pub generic : FitsNumber m.generic
  pub ret : FitsType levels m.ret
  pub params : FitRow m.params

-- the signatures of properties that have a spelling
pub record FitsProperty (m : MethodSig) : Type 0 where
  pub generic : m.generic ≡ 0
  pub ret : FitsType levels m.ret
  pub params : FitRow m.params
