-- Reading a type keeps to the spellings of types.
use Rattle.std.proofs.Common.{◌≡◌, ℕ, zero, suc, ◌⊎◌, inl, inr, Bool, true, false, cond, eqb, ◌||◌, List, [], ◌∷◌, ◌++◌, length, Ok, refl, sym, ap, subst}
use Rattle.std.proofs.lemmas.Bool.{cond_both, eqb-true, ne_eqb, cases_eq}
use Rattle.il_base.specs.declared.sig.Sig.{Sig}
use Rattle.il_base.specs.declared.sig.Sig.TheVariants.{ByRef, Var, MVar, Pinned}
use Rattle.il_base.specs.declared.sig.Sig.TheVariants as sig
use Rattle.il_base.specs.declared.blob_grammar.element.Element.{Element}
use Rattle.il_base.specs.declared.blob_grammar.element.Element.TheVariants as e
use Rattle.il_base.specs.blob_grammar.Signatures.{is_primitive, element, class_byte, IsType, AreTypes, primitive, none, more}
use Rattle.il_base.specs.blob_grammar.Reading.{◌>>=◌, class_at, types_at, type_at}
use Rattle.il_base.proofs.lemmas.blob_grammar.Law.{Law, Inhabited, Then, then_law, Alone, alone_law, wider, made_law, Behind, reads, never, any_law}

-- ---- what an element type says of its byte

unfoldable pub Stands : Element → ℕ → Type 0
Stands e.Primitive b = is_primitive b ≡ true
Stands e.ByRef b = b ≡ 16
Stands e.ValueType b = b ≡ 17
Stands e.Class b = b ≡ 18
Stands e.Var b = b ≡ 19
Stands e.GenericInst b = b ≡ 21
Stands e.Vector b = b ≡ 29
Stands e.MVar b = b ≡ 30
Stands e.Required b = b ≡ 31
Stands e.Optional b = b ≡ 32
Stands e.Pinned b = b ≡ 69
Stands e.Float b = (b ≡ 12) ⊎ (b ≡ 13)
Stands e.Other b = Unit {0}

-- the byte of those that have one
abbrev byte_of : Element → ℕ
byte_of e.Float = 12
byte_of e.ByRef = 16
byte_of e.ValueType = 17
byte_of e.Class = 18
byte_of e.Var = 19
byte_of e.GenericInst = 21
byte_of e.Vector = 29
byte_of e.MVar = 30
byte_of e.Required = 31
byte_of e.Optional = 32
byte_of e.Pinned = 69
byte_of _ = 1

own : (k : Element) → Stands k (byte_of k)
unfolding Stands
own e.Primitive = refl
own e.ByRef = refl
own e.ValueType = refl
own e.Class = refl
own e.Var = refl
own e.GenericInst = refl
own e.Vector = refl
own e.MVar = refl
own e.Required = refl
own e.Optional = refl
own e.Pinned = refl
own e.Float = inl refl
own e.Other = tt

by_test : (b : ℕ) (k rest : Element) → Stands rest b → Stands (cond (eqb b (byte_of k)) k rest) b
by_test b k rest h = cond_both (eqb b (byte_of k)) k rest (λ (x : Element). Stands x b) (λ t. subst (λ (m : ℕ). Stands k m) (sym (eqb-true b (byte_of k) t)) (own k)) (λ _. h)

or_true : (s t : Bool) → (s || t) ≡ true → (s ≡ true) ⊎ (t ≡ true)
or_true true t h = inl refl
or_true false t h = inr h

stands_float : (b : ℕ) → (eqb b 12 || eqb b 13) ≡ true → Stands e.Float b
unfolding Stands
stands_float b h = elim (or_true (eqb b 12) (eqb b 13) h) [ inl t ↦ inl (eqb-true b 12 t) | inr t ↦ inr (eqb-true b 13 t) ]

stands_other : (b : ℕ) → Stands e.Other b
unfolding Stands
stands_other b = tt

stands_primitive : (b : ℕ) → is_primitive b ≡ true → Stands e.Primitive b
unfolding Stands
stands_primitive b h = h

pub stands : (b : ℕ) → Stands (element b) b
stands b =
    let pinned : Stands (cond (eqb b 69) e.Pinned e.Other) b = by_test b e.Pinned e.Other (stands_other b) in
    let optional = by_test b e.Optional _ pinned in
    let required = by_test b e.Required _ optional in
    let mvar = by_test b e.MVar _ required in
    let vector = by_test b e.Vector _ mvar in
    let inst = by_test b e.GenericInst _ vector in
    let var = by_test b e.Var _ inst in
    let class = by_test b e.Class _ var in
    let value = by_test b e.ValueType _ class in
    let by_ref = by_test b e.ByRef _ value in
    let float = cond_both (eqb b 12 || eqb b 13) e.Float _ (λ (x : Element). Stands x b) (λ h. stands_float b h) (λ _. by_ref) in
    cond_both (is_primitive b) e.Primitive _ (λ (x : Element). Stands x b) (stands_primitive b) (λ _. float)

-- ---- VALUETYPE or CLASS

abbrev pub IsClass : Bool → List ℕ → Type 0
IsClass value bs = bs ≡ class_byte value ∷ []

pub class_some : Inhabited IsClass
class_some = record { value = true; bytes = 17 ∷ []; spelled = refl }

class_is : (value : Bool) (x : Bool) (bs : List ℕ) → Alone value x bs → IsClass x (class_byte value ∷ bs)
class_is value x bs p = rw (p.value, p.bytes) refl

class_behind : (b : ℕ) → Behind b (λ bs. class_at (b ∷ bs)) (λ x bs. IsClass x (b ∷ bs))
class_behind b =
    elim (cases_eq b 17) [
      | inl same ↦ rw same (reads (wider (class_is true) (alone_law true)))
      | inr ne ↦ elim (cases_eq b 18) [
        | inl same ↦ rw same (reads (wider (class_is false) (alone_law false)))
        | inr nor ↦ never 5 (inl refl) (λ bs. rw (ne_eqb b 17 ne, ne_eqb b 18 nor) refl)
      ]
    ]

pub class_law : Law class_at IsClass
class_law = any_law class_at IsClass class_some refl class_behind

-- ---- types one after another

abbrev pub Row : ℕ → ℕ → List Sig → List ℕ → Type 0
Row room n ss bs = (length ss ≡ n) × AreTypes room ss bs

pub type_some : (room : ℕ) → Inhabited (IsType room)
type_some room = record { value = sig.Prim 1; bytes = 1 ∷ []; spelled = primitive room 1 refl }

pub types_some : (room n : ℕ) → Inhabited (Row room n)
types_some room zero = record { value = []; bytes = []; spelled = (refl, none room) }
types_some room (suc n) =
    let rest = types_some room n in
    record { value = sig.Prim 1 ∷ rest.value; bytes = (1 ∷ []) ++ rest.bytes; spelled = (ap suc rest.spelled.0, more room (sig.Prim 1) rest.value (1 ∷ []) rest.bytes (primitive room 1 refl) rest.spelled.1) }

pub types_law : (room : ℕ) → Law (type_at room) (IsType room) → (n : ℕ) → Law (types_at (type_at room) n) (Row room n)
unfolding types_at
types_law room law zero = wider (λ ss bs p. rw (p.value, p.bytes) (refl, none room)) (alone_law [])
types_law room law (suc n) =
    let rest : (s : Sig) → Law (λ bs. types_at (type_at room) n bs >>= λ ss. Ok (s ∷ ss.0, ss.1)) (λ ss bs. (tail : List Sig) × (ss ≡ s ∷ tail) × Row room n tail bs) =
    λ (s : Sig). made_law (types_at (type_at room) n) (Row room n) (λ ss. s ∷ ss) (λ ss bs. (tail : List Sig) × (ss ≡ s ∷ tail) × Row room n tail bs) (λ ss bs p. (ss, refl, p)) (types_law room law n) in
    let some : (s : Sig) → Inhabited (λ ss bs. (tail : List Sig) × (ss ≡ s ∷ tail) × Row room n tail bs) =
    λ (s : Sig). let t = types_some room n in record { value = s ∷ t.value; bytes = t.bytes; spelled = (t.value, refl, t.spelled) } in
    let whole : (ss : List Sig) (bs : List ℕ) → Then (IsType room) (λ s ss bs. (tail : List Sig) × (ss ≡ s ∷ tail) × Row room n tail bs) ss bs → Row room (suc n) ss bs =
    λ (ss : List Sig) (bs : List ℕ) p. rw (p.tail.1, p.parts) (ap suc p.tail.2.0, more room p.first p.tail.0 p.front p.back p.head p.tail.2.1) in
    wider whole (then_law (type_at room) (IsType room) (λ s bs. types_at (type_at room) n bs >>= λ ss. Ok (s ∷ ss.0, ss.1)) (λ s ss bs. (tail : List Sig) × (ss ≡ s ∷ tail) × Row room n tail bs) law rest some)
