-- Reading a blob from left to right, with the first byte that no value allows. The laws of `blob_grammar` tie it to the
-- grammar.
use Rattle.std.specs.Prelude.{ℕ, zero, suc, ◌+◌, ◌-◌, ◌*◌, ◌/◌, ◌%◌, nat_lt, ◌==◌, Bool, true, false, List, [], ◌∷◌, length, drop, Option, Some, None, Result, Ok, Err, if◌then◌else◌}
use Rattle.il_base.specs.Bytes.{compressed_at}
use Rattle.il_base.specs.declared.sig.MethodSig.{MethodSig}
use Rattle.il_base.specs.declared.sig.Sig.{Sig}
use Rattle.il_base.specs.declared.sig.Sig.TheVariants.{Named, Array, ByRef, Inst, Var, MVar, Mod, Pinned}
use Rattle.il_base.specs.declared.sig.Sig.TheVariants as sig
use Rattle.il_base.specs.declared.blob_grammar.element.Element.{Element}
use Rattle.il_base.specs.declared.blob_grammar.element.Element.TheVariants as e
use Rattle.il_base.specs.blob_grammar.Tokens.{table_of}
use Rattle.il_base.specs.blob_grammar.Signatures.{element, levels}

-- Where reading stops: how many bytes are left from the first that no value allows, itself among them, and what is
-- bad there: 1 a float, 5 anything else.
abbrev pub Fault : Type 0
Fault = ℕ × ℕ

-- A reader gives a value and the bytes after it.
abbrev pub Reader : Type 0 → Type 0
Reader A = List ℕ → Result (A × List ℕ) Fault

infixl 10 ◌>>=◌
abbrev pub ◌>>=◌ : {A B : Type 0} → Result A Fault → (A → Result B Fault) → Result B Fault
(Ok x) >>= f = f x
(Err e) >>= f = Err e

-- the bytes end too early
abbrev pub cut : {A : Type 0} → Result A Fault
cut = Err (0, 5)

-- the byte in front of `bs` is bad
abbrev pub bad : {A : Type 0} → List ℕ → Result A Fault
bad bs = Err (suc (length bs), 5)

-- No number begins with a byte of 224 or more.
abbrev pub number_by : List ℕ → Option (ℕ × ℕ) → Result (ℕ × List ℕ) Fault
number_by bs (Some x) = Ok (x.0, drop x.1 bs)
number_by [] None = cut
number_by (b ∷ bs) None = if nat_lt b 224 then cut else bad bs

unfoldable pub number_at : Reader ℕ
number_at bs = number_by bs (compressed_at bs)

-- No token has the tag 3: the number's last byte is bad.
abbrev pub tagged : ℕ → List ℕ → Result (ℕ × List ℕ) Fault
tagged n rest = if n % 4 == 3 then bad rest else Ok (table_of (n % 4) * 16777216 + n / 4, rest)

abbrev pub coded_at : Reader ℕ
coded_at bs = do
  n ← number_at bs
  tagged n.0 n.1

-- From 196 on a first byte makes a row that no token has.
unfoldable pub token_at : Reader ℕ
token_at [] = cut
token_at (b ∷ bs) = if nat_lt b 196 then coded_at (b ∷ bs) else bad bs

-- VALUETYPE or CLASS
abbrev pub class_at : Reader Bool
class_at [] = cut
class_at (b ∷ bs) = if b == 17 then Ok (true, bs) else if b == 18 then Ok (false, bs) else bad bs

unfoldable pub types_at : Reader Sig → ℕ → Reader (List Sig)
types_at one zero bs = Ok ([], bs)
types_at one (suc n) bs = do
  s ← one bs
  ss ← types_at one n s.1
  Ok (s.0 ∷ ss.0, ss.1)

-- a type that holds no other, after its first byte
abbrev pub leaf_by : Element → ℕ → Reader Sig
leaf_by e.Primitive b bs = Ok (sig.Prim b, bs)
leaf_by e.ValueType b bs = do
  token ← token_at bs
  Ok (Named true token.0, token.1)
leaf_by e.Class b bs = do
  token ← token_at bs
  Ok (Named false token.0, token.1)
leaf_by e.Var b bs = do
  n ← number_at bs
  Ok (Var n.0, n.1)
leaf_by e.MVar b bs = do
  n ← number_at bs
  Ok (MVar n.0, n.1)
leaf_by e.Float b bs = Err (suc (length bs), 1)
leaf_by _ b bs = bad bs

abbrev pub modified_at : Reader Sig → Bool → Reader Sig
modified_at inner required bs = do
  token ← token_at bs
  s ← inner token.1
  Ok (Mod required token.0 s.0, s.1)

abbrev pub instance_at : Reader Sig → Reader Sig
instance_at inner bs = do
  value ← class_at bs
  token ← token_at value.1
  n ← number_at token.1
  ss ← types_at inner n.0 n.1
  Ok (Inst value.0 token.0 ss.0, ss.1)

-- a type after its first byte, where `inner` reads the types that it holds
abbrev pub type_by : Reader Sig → Element → ℕ → Reader Sig
type_by inner e.Vector b bs = do
  s ← inner bs
  Ok (Array s.0, s.1)
type_by inner e.ByRef b bs = do
  s ← inner bs
  Ok (ByRef s.0, s.1)
type_by inner e.Pinned b bs = do
  s ← inner bs
  Ok (Pinned s.0, s.1)
type_by inner e.Required b bs = modified_at inner true bs
type_by inner e.Optional b bs = modified_at inner false bs
type_by inner e.GenericInst b bs = instance_at inner bs
type_by inner element b bs = leaf_by element b bs

-- A type (II.23.2.12), where at most so many constructs that hold a type may open. The byte that would open one more
-- is bad.
unfoldable pub type_at : ℕ → Reader Sig
type_at room [] = cut
type_at zero (b ∷ bs) = leaf_by (element b) b bs
type_at (suc room) (b ∷ bs) = type_by (type_at room) (element b) b bs

-- a parameter count, the return type and the parameters' types
unfoldable pub parts_at : Bool → ℕ → Reader MethodSig
parts_at this generic bs = do
  n ← number_at bs
  ret ← type_at levels n.1
  params ← types_at (type_at levels) n.0 ret.1
  Ok (record { this = this; generic = generic; ret = ret.0; params = params.0 }, params.1)

abbrev pub generic_at : Bool → Reader MethodSig
generic_at this bs = do
  count ← number_at bs
  parts_at this count.0 count.1

unfoldable pub method_at : Reader MethodSig
method_at [] = cut
method_at (b ∷ bs) =
    if b == 0 then parts_at false 0 bs
    else if b == 32 then parts_at true 0 bs
    else if b == 16 then generic_at false bs
    else if b == 48 then generic_at true bs
    else bad bs

unfoldable pub property_at : Reader MethodSig
property_at [] = cut
property_at (b ∷ bs) = if b == 8 then parts_at false 0 bs else if b == 40 then parts_at true 0 bs else bad bs

unfoldable pub field_at : Reader Sig
field_at [] = cut
field_at (b ∷ bs) = if b == 6 then type_at levels bs else bad bs

-- types after a leading byte and a count
unfoldable pub counted_at : ℕ → Reader (List Sig)
counted_at lead [] = cut
counted_at lead (b ∷ bs) = if b == lead then (number_at bs >>= λ n. types_at (type_at levels) n.0 n.1) else bad bs

-- A blob is read to its end: the first byte that is left over is bad.
abbrev pub ended : {A : Type 0} → A × List ℕ → Result A Fault
ended (x, []) = Ok x
ended (x, b ∷ bs) = bad bs

-- the place of a fault, counted from the front
abbrev pub placed : {A : Type 0} → ℕ → Result A Fault → Result A (ℕ × ℕ)
placed size (Ok x) = Ok x
placed size (Err fault) = Err (size - fault.0, fault.1)

-- what a whole blob of so many bytes gives, by what stands in front
abbrev pub whole : {A : Type 0} → ℕ → Result (A × List ℕ) Fault → Result A (ℕ × ℕ)
whole size front = placed size (front >>= λ x. ended x)

-- what each blob gives
abbrev pub type_of_blob : List ℕ → Result Sig (ℕ × ℕ)
type_of_blob bs = whole (length bs) (type_at levels bs)

abbrev pub method_of_blob : List ℕ → Result MethodSig (ℕ × ℕ)
method_of_blob bs = whole (length bs) (method_at bs)

abbrev pub property_of_blob : List ℕ → Result MethodSig (ℕ × ℕ)
property_of_blob bs = whole (length bs) (property_at bs)

abbrev pub field_of_blob : List ℕ → Result Sig (ℕ × ℕ)
field_of_blob bs = whole (length bs) (field_at bs)

abbrev pub locals_of_blob : List ℕ → Result (List Sig) (ℕ × ℕ)
locals_of_blob bs = whole (length bs) (counted_at 7 bs)

abbrev pub instance_of_blob : List ℕ → Result (List Sig) (ℕ × ℕ)
instance_of_blob bs = whole (length bs) (counted_at 10 bs)
