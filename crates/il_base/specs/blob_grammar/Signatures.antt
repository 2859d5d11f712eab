-- Signatures (II.23.2.1 to II.23.2.15): which bytes spell which value, and the spelling that is written.
use Rattle.std.specs.Prelude.{◌≡◌, ℕ, zero, suc, nat_le, ◌==◌, ◌&&◌, ◌||◌, Bool, true, List, [], ◌∷◌, ◌++◌, length, if◌then◌else◌}
use Rattle.std.specs.List.{concat, flat_map}
use Rattle.il_base.specs.declared.sig.MethodSig.{MethodSig}
use Rattle.il_base.specs.declared.sig.Sig.{Sig, fold-Sig}
use Rattle.il_base.specs.declared.sig.Sig.TheOpen.{Sig-F}
use Rattle.il_base.specs.declared.sig.Sig.TheVariants.{Named, Array, ByRef, Inst, Var, MVar, Mod, Pinned}
use Rattle.il_base.specs.declared.sig.Sig.TheVariants as sig
use Rattle.il_base.specs.declared.blob_grammar.element.Element.{Element}
use Rattle.il_base.specs.declared.blob_grammar.element.Element.TheVariants as e
use Rattle.il_base.specs.blob_grammar.Numbers.{IsNumber, shortest}
use Rattle.il_base.specs.blob_grammar.Tokens.{IsToken, token_bytes}

-- VOID, BOOLEAN, CHAR, I1 to U8, STRING, I, U, OBJECT
abbrev pub is_primitive : ℕ → Bool
is_primitive b = (nat_le 1 b && nat_le b 11) || b == 14 || b == 24 || b == 25 || b == 28

-- what the first byte of a type says (II.23.1.16)
abbrev pub element : ℕ → Element
element b =
    if is_primitive b then e.Primitive
    else if b == 12 || b == 13 then e.Float
    else if b == 16 then e.ByRef
    else if b == 17 then e.ValueType
    else if b == 18 then e.Class
    else if b == 19 then e.Var
    else if b == 21 then e.GenericInst
    else if b == 29 then e.Vector
    else if b == 30 then e.MVar
    else if b == 31 then e.Required
    else if b == 32 then e.Optional
    else if b == 69 then e.Pinned
    else e.Other

-- VALUETYPE or CLASS
abbrev pub class_byte : Bool → ℕ
class_byte value = if value then 17 else 18

-- CMOD_REQD or CMOD_OPT
abbrev pub modifier_byte : Bool → ℕ
modifier_byte required = if required then 31 else 32

-- Which bytes spell which type (II.23.2.12), where at most `room` constructs that hold a type may stand open.
mutual
  pub data IsType : ℕ → Sig → List ℕ → Type 0 where
    primitive : (room b : ℕ) → is_primitive b ≡ true → IsType room (sig.Prim b) (b ∷ [])
    named : (room : ℕ) (value : Bool) (token : ℕ) (bs : List ℕ) → IsToken token bs → IsType room (Named value token) (class_byte value ∷ bs)
    of_type : (room n : ℕ) (bs : List ℕ) → IsNumber n bs → IsType room (Var n) (19 ∷ bs)
    of_method : (room n : ℕ) (bs : List ℕ) → IsNumber n bs → IsType room (MVar n) (30 ∷ bs)
    vector : (room : ℕ) (s : Sig) (bs : List ℕ) → IsType room s bs → IsType (suc room) (Array s) (29 ∷ bs)
    reference : (room : ℕ) (s : Sig) (bs : List ℕ) → IsType room s bs → IsType (suc room) (ByRef s) (16 ∷ bs)
    pinned : (room : ℕ) (s : Sig) (bs : List ℕ) → IsType room s bs → IsType (suc room) (Pinned s) (69 ∷ bs)
    modified : (room : ℕ) (required : Bool) (token : ℕ) (s : Sig) (ts bs : List ℕ) → IsToken token ts → IsType room s bs
        → IsType (suc room) (Mod required token s) (modifier_byte required ∷ (ts ++ bs))
    instance : (room : ℕ) (value : Bool) (token : ℕ) (ss : List Sig) (ts ns bs : List ℕ) → IsToken token ts → IsNumber (length ss) ns → AreTypes room ss bs
        → IsType (suc room) (Inst value token ss) (21 ∷ class_byte value ∷ (ts ++ ns ++ bs))

  -- types one after another
  pub data AreTypes : ℕ → List Sig → List ℕ → Type 0 where
    none : (room : ℕ) → AreTypes room [] []
    more : (room : ℕ) (s : Sig) (ss : List Sig) (front bs : List ℕ) → IsType room s front → AreTypes room ss bs → AreTypes room (s ∷ ss) (front ++ bs)

-- the most constructs that hold a type and stand open at one place
abbrev pub levels : ℕ
levels = 64

-- a parameter count, the return type and the parameters' types
pub data AreParts : Sig → List Sig → List ℕ → Type 0 where
  parts : (ret : Sig) (params : List Sig) (ns rs ps : List ℕ) → IsNumber (length params) ns → IsType levels ret rs → AreTypes levels params ps
      → AreParts ret params (ns ++ rs ++ ps)

-- HASTHIS is 32, GENERIC 16
abbrev pub plain_byte : Bool → ℕ
plain_byte this = if this then 32 else 0

abbrev pub generic_byte : Bool → ℕ
generic_byte this = if this then 48 else 16

-- PROPERTY is 8
abbrev pub property_byte : Bool → ℕ
property_byte this = if this then 40 else 8

-- which bytes spell which method signature (II.23.2.1 to II.23.2.3)
pub data IsMethod : MethodSig → List ℕ → Type 0 where
  plain : (this : Bool) (ret : Sig) (params : List Sig) (bs : List ℕ) → AreParts ret params bs
      → IsMethod (record { this = this; generic = 0; ret = ret; params = params }) (plain_byte this ∷ bs)
  generic : (this : Bool) (count : ℕ) (ret : Sig) (params : List Sig) (gs bs : List ℕ) → IsNumber count gs → AreParts ret params bs
      → IsMethod (record { this = this; generic = count; ret = ret; params = params }) (generic_byte this ∷ (gs ++ bs))

-- property signatures (II.23.2.5)
pub data IsProperty : MethodSig → List ℕ → Type 0 where
  property : (this : Bool) (ret : Sig) (params : List Sig) (bs : List ℕ) → AreParts ret params bs
      → IsProperty (record { this = this; generic = 0; ret = ret; params = params }) (property_byte this ∷ bs)

-- field signatures (II.23.2.4)
pub data IsField : Sig → List ℕ → Type 0 where
  field : (s : Sig) (bs : List ℕ) → IsType levels s bs → IsField s (6 ∷ bs)

-- a leading byte, a count and types
pub data AreCounted (lead : ℕ) : List Sig → List ℕ → Type 0 where
  counted : (ss : List Sig) (ns bs : List ℕ) → IsNumber (length ss) ns → AreTypes levels ss bs → AreCounted lead ss (lead ∷ (ns ++ bs))

-- the signatures of locals (II.23.2.6), LOCAL_SIG
abbrev pub AreLocals : List Sig → List ℕ → Type 0
AreLocals = AreCounted 7

-- the type arguments of a method instance (II.23.2.15), GENERICINST of a method
abbrev pub IsInstance : List Sig → List ℕ → Type 0
IsInstance = AreCounted 10

-- one level of a type as it is written, with the bytes of each type that it holds in its place
abbrev pub layer_bytes : Sig-F (List ℕ) → List ℕ
layer_bytes (Sig-F.Prim b) = b ∷ []
layer_bytes (Sig-F.Named value token) = class_byte value ∷ token_bytes token
layer_bytes (Sig-F.Var n) = 19 ∷ shortest n
layer_bytes (Sig-F.MVar n) = 30 ∷ shortest n
layer_bytes (Sig-F.Array s) = 29 ∷ s
layer_bytes (Sig-F.ByRef s) = 16 ∷ s
layer_bytes (Sig-F.Pinned s) = 69 ∷ s
layer_bytes (Sig-F.Mod required token s) = modifier_byte required ∷ (token_bytes token ++ s)
layer_bytes (Sig-F.Inst value token ss) = 21 ∷ class_byte value ∷ (token_bytes token ++ shortest (length ss) ++ concat ss)

-- the spelling of a type that is written: each number and token in its shortest form
unfoldable pub type_bytes : Sig → List ℕ
type_bytes = fold-Sig (List ℕ) layer_bytes

unfoldable pub types_bytes : List Sig → List ℕ
types_bytes ss = flat_map type_bytes ss

abbrev pub parts_bytes : Sig → List Sig → List ℕ
parts_bytes ret params = shortest (length params) ++ type_bytes ret ++ types_bytes params

-- A method that has no generic parameters is written without GENERIC.
abbrev pub method_head : Bool → ℕ → List ℕ
method_head this zero = plain_byte this ∷ []
method_head this (suc n) = generic_byte this ∷ shortest (suc n)

abbrev pub method_bytes : MethodSig → List ℕ
method_bytes m = method_head m.this m.generic ++ parts_bytes m.ret m.params

abbrev pub property_bytes : MethodSig → List ℕ
property_bytes m = property_byte m.this ∷ parts_bytes m.ret m.params

abbrev pub field_bytes : Sig → List ℕ
field_bytes s = 6 ∷ type_bytes s

abbrev pub locals_bytes : List Sig → List ℕ
locals_bytes ss = 7 ∷ (shortest (length ss) ++ types_bytes ss)

abbrev pub instance_bytes : List Sig → List ℕ
instance_bytes ss = 10 ∷ (shortest (length ss) ++ types_bytes ss)
