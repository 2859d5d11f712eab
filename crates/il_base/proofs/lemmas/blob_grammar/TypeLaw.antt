-- Reading a type keeps to the spellings of types.
use Rattle.std.proofs.Common.{◌≡◌, inl, inr, ℕ, zero, suc, Bool, true, false, List, [], ◌∷◌, ◌++◌, length, Result, Ok, refl, sym, ap, subst, ◌∙◌, append_assoc}
use Rattle.il_base.specs.declared.sig.Sig.{Sig}
use Rattle.il_base.specs.declared.sig.Sig.TheVariants.{Named, Array, ByRef, Inst, Var, MVar, Mod, Pinned}
use Rattle.il_base.specs.declared.sig.Sig.TheVariants as sig
use Rattle.il_base.specs.declared.blob_grammar.element.Element.{Element}
use Rattle.il_base.specs.declared.blob_grammar.element.Element.TheVariants as e
use Rattle.il_base.specs.blob_grammar.Numbers.{IsNumber}
use Rattle.il_base.specs.blob_grammar.Tokens.{IsToken}
use Rattle.il_base.specs.blob_grammar.Signatures.{is_primitive, element, class_byte, modifier_byte, IsType, AreTypes, primitive, named, of_type, of_method, vector, reference, pinned, modified, instance, none, more}
use Rattle.il_base.specs.blob_grammar.Reading.{Fault, ◌>>=◌, number_at, token_at, class_at, types_at, leaf_by, modified_at, instance_at, type_by, type_at}
use Rattle.il_base.proofs.lemmas.blob_grammar.Law.{Law, Inhabited, Then, then_law, then_some, alone_law, wider, made_law, Behind, reads, never, any_law, bind_is}
use Rattle.il_base.proofs.lemmas.blob_grammar.Numbers.{number_law, number_some, number_again}
use Rattle.il_base.proofs.lemmas.blob_grammar.Tokens.{token_law, token_some, token_again}
use Rattle.il_base.proofs.lemmas.blob_grammar.Types.{Stands, stands, IsClass, class_law, Row, type_some, types_some, types_law}

abbrev After : ℕ → ℕ → Sig → List ℕ → Type 0
After room b x bs = IsType room x (b ∷ bs)

leaf_behind : (room : ℕ) (k : Element) (b : ℕ) → Stands k b → Behind b (leaf_by k b) (After room b)
unfolding Stands
leaf_behind room e.Primitive b h = reads (wider (λ x bs p. rw (p.value, p.bytes) (primitive room b h)) (alone_law (sig.Prim b)))
leaf_behind room e.ValueType b h = rw h (reads (made_law token_at IsToken (λ t. Named true t) (After room 17) (λ t bs q. named room true t bs q) token_law))
leaf_behind room e.Class b h = rw h (reads (made_law token_at IsToken (λ t. Named false t) (After room 18) (λ t bs q. named room false t bs q) token_law))
leaf_behind room e.Var b h = rw h (reads (made_law number_at IsNumber (λ n. Var n) (After room 19) (λ n bs q. of_type room n bs q) number_law))
leaf_behind room e.MVar b h = rw h (reads (made_law number_at IsNumber (λ n. MVar n) (After room 30) (λ n bs q. of_method room n bs q) number_law))
leaf_behind room e.Float b h = never 1 (inr (refl, h)) (λ bs. refl)
leaf_behind room _ b h = never 5 (inl refl) (λ bs. refl)

module _ (room : ℕ) (law : Law (type_at room) (IsType room)) where
  modifies : (required : Bool) → Law (modified_at (type_at room) required) (After (suc room) (modifier_byte required))
  modifies required =
      let S : ℕ → Sig → List ℕ → Type 0 = λ (t : ℕ) (y : Sig) (bs : List ℕ). (s : Sig) × (y ≡ Mod required t s) × IsType room s bs in
      let inner : (t : ℕ) → Law (λ bs. type_at room bs >>= λ s. Ok (Mod required t s.0, s.1)) (S t) =
      λ (t : ℕ). made_law (type_at room) (IsType room) (λ s. Mod required t s) (S t) (λ s bs q. (s, refl, q)) law in
      let some : (t : ℕ) → Inhabited (S t) =
      λ (t : ℕ). let one = type_some room in record { value = Mod required t one.value; bytes = one.bytes; spelled = (one.value, refl, one.spelled) } in
      let whole : (y : Sig) (bs : List ℕ) → Then IsToken S y bs → After (suc room) (modifier_byte required) y bs =
      λ (y : Sig) (bs : List ℕ) p. rw (p.tail.1, p.parts) (modified room required p.first p.tail.0 p.front p.back p.head p.tail.2) in
      wider whole (then_law token_at IsToken (λ t bs. type_at room bs >>= λ s. Ok (Mod required t s.0, s.1)) S token_law inner some)

  -- the arguments, after their count, the token and the kind
  Args : Bool → ℕ → ℕ → Sig → List ℕ → Type 0
  Args value t n y bs = (ss : List Sig) × (y ≡ Inst value t ss) × Row room n ss bs

  args_law : (value : Bool) (t n : ℕ) → Law (λ bs. types_at (type_at room) n bs >>= λ ss. Ok (Inst value t ss.0, ss.1)) (Args value t n)
  unfolding Args
  args_law value t n = made_law (types_at (type_at room) n) (Row room n) (λ ss. Inst value t ss) (Args value t n) (λ ss bs q. (ss, refl, q)) (types_law room law n)

  args_some : (value : Bool) (t n : ℕ) → Inhabited (Args value t n)
  unfolding Args
  args_some value t n = let some = types_some room n in record { value = Inst value t some.value; bytes = some.bytes; spelled = (some.value, refl, some.spelled) }

  counted_law : (value : Bool) (t : ℕ) → Law (λ bs. number_at bs >>= λ n. types_at (type_at room) n.0 n.1 >>= λ ss. Ok (Inst value t ss.0, ss.1)) (Then IsNumber (Args value t))
  counted_law value t = then_law number_at IsNumber (λ n bs. types_at (type_at room) n bs >>= λ ss. Ok (Inst value t ss.0, ss.1)) (Args value t) number_law (args_law value t) (args_some value t)

  counted_some : (value : Bool) (t : ℕ) → Inhabited (Then IsNumber (Args value t))
  counted_some value t = then_some IsNumber (Args value t) number_some (args_some value t)

  Tokens : Bool → Sig → List ℕ → Type 0
  Tokens value = Then IsToken (λ t. Then IsNumber (Args value t))

  tokens_law : (value : Bool) → Law (λ bs. token_at bs >>= λ t. number_at t.1 >>= λ n. types_at (type_at room) n.0 n.1 >>= λ ss. Ok (Inst value t.0 ss.0, ss.1)) (Tokens value)
  unfolding Tokens
  tokens_law value = then_law token_at IsToken (λ t bs. number_at bs >>= λ n. types_at (type_at room) n.0 n.1 >>= λ ss. Ok (Inst value t ss.0, ss.1)) (λ t. Then IsNumber (Args value t)) token_law (counted_law value) (counted_some value)

  tokens_some : (value : Bool) → Inhabited (Tokens value)
  unfolding Tokens
  tokens_some value = then_some IsToken (λ t. Then IsNumber (Args value t)) token_some (counted_some value)

  is_instance : (y : Sig) (bs : List ℕ) → Then IsClass Tokens y bs → After (suc room) 21 y bs
  unfolding Tokens Args
  is_instance y bs p =
      let q = p.tail in
      let r = q.tail in
      let a = r.tail in
      let flat : bs ≡ class_byte p.first ∷ (q.front ++ r.front ++ r.back) =
      p.parts ∙ ap (λ (f : List ℕ). f ++ p.back) p.head ∙ ap (λ (b : List ℕ). class_byte p.first ∷ b) (q.parts ∙ ap (λ (b : List ℕ). q.front ++ b) r.parts ∙ sym (append_assoc q.front r.front r.back)) in
      rw (a.1, flat) (instance room p.first q.first a.0 q.front r.front r.back q.head (subst (λ (n : ℕ). IsNumber n r.front) (sym a.2.0) r.head) a.2.1)

  instances : Law (instance_at (type_at room)) (After (suc room) 21)
  instances = wider is_instance (then_law class_at IsClass (λ v bs. token_at bs >>= λ t. number_at t.1 >>= λ n. types_at (type_at room) n.0 n.1 >>= λ ss. Ok (Inst v t.0 ss.0, ss.1)) Tokens class_law tokens_law tokens_some)

  type_behind : (k : Element) (b : ℕ) → Stands k b → Behind b (type_by (type_at room) k b) (After (suc room) b)
  unfolding Stands
  type_behind e.Vector b h = rw h (reads (made_law (type_at room) (IsType room) (λ s. Array s) (After (suc room) 29) (λ s bs q. vector room s bs q) law))
  type_behind e.ByRef b h = rw h (reads (made_law (type_at room) (IsType room) (λ s. ByRef s) (After (suc room) 16) (λ s bs q. reference room s bs q) law))
  type_behind e.Pinned b h = rw h (reads (made_law (type_at room) (IsType room) (λ s. Pinned s) (After (suc room) 69) (λ s bs q. pinned room s bs q) law))
  type_behind e.Required b h = rw h (reads (modifies true))
  type_behind e.Optional b h = rw h (reads (modifies false))
  type_behind e.GenericInst b h = rw h (reads instances)
  type_behind e.Primitive b h = leaf_behind (suc room) e.Primitive b h
  type_behind e.ValueType b h = leaf_behind (suc room) e.ValueType b h
  type_behind e.Class b h = leaf_behind (suc room) e.Class b h
  type_behind e.Var b h = leaf_behind (suc room) e.Var b h
  type_behind e.MVar b h = leaf_behind (suc room) e.MVar b h
  type_behind e.Float b h = leaf_behind (suc room) e.Float b h
  type_behind e.Other b h = leaf_behind (suc room) e.Other b h

pub type_law : (room : ℕ) → Law (type_at room) (IsType room)
unfolding type_at
type_law zero = any_law (type_at zero) (IsType zero) (type_some zero) refl (λ b. leaf_behind zero (element b) b (stands b))
type_law (suc room) = any_law (type_at (suc room)) (IsType (suc room)) (type_some (suc room)) refl (λ b. type_behind room (type_law room) (element b) b (stands b))

-- ---- what is spelled so is read

primitive_at : (room b : ℕ) (bs : List ℕ) → is_primitive b ≡ true → type_at room (b ∷ bs) ≡ Ok (sig.Prim b, bs)
unfolding type_at
primitive_at zero b bs h = rw h refl
primitive_at (suc room) b bs h = rw h refl

named_at : (room : ℕ) (value : Bool) (bs : List ℕ) → type_at room (class_byte value ∷ bs) ≡ (token_at bs >>= λ t. Ok (Named value t.0, t.1))
unfolding type_at
named_at zero true bs = refl
named_at zero false bs = refl
named_at (suc room) true bs = refl
named_at (suc room) false bs = refl

var_at : (room : ℕ) (bs : List ℕ) → type_at room (19 ∷ bs) ≡ (number_at bs >>= λ n. Ok (Var n.0, n.1))
unfolding type_at
var_at zero bs = refl
var_at (suc room) bs = refl

mvar_at : (room : ℕ) (bs : List ℕ) → type_at room (30 ∷ bs) ≡ (number_at bs >>= λ n. Ok (MVar n.0, n.1))
unfolding type_at
mvar_at zero bs = refl
mvar_at (suc room) bs = refl

modifier_at : (room : ℕ) (required : Bool) (bs : List ℕ) → type_at (suc room) (modifier_byte required ∷ bs) ≡ modified_at (type_at room) required bs
unfolding type_at
modifier_at room true bs = refl
modifier_at room false bs = refl

inst_at : (room : ℕ) (bs : List ℕ) → type_at (suc room) (21 ∷ bs) ≡ instance_at (type_at room) bs
unfolding type_at
inst_at room bs = refl

class_again : (value : Bool) (bs : List ℕ) → class_at (class_byte value ∷ bs) ≡ Ok (value, bs)
class_again true bs = refl
class_again false bs = refl

abbrev made_of : (Sig → Sig) → Sig × List ℕ → Result (Sig × List ℕ) Fault
made_of f x = Ok (f x.0, x.1)

holds_at : (room : ℕ) (bs rest : List ℕ) (s : Sig) (f : Sig → Sig) → type_at room bs ≡ Ok (s, rest) → (type_at room bs >>= made_of f) ≡ Ok (f s, rest)
holds_at room bs rest s f h = bind_is (type_at room bs) (made_of f) (s, rest) (Ok (f s, rest)) h refl

vector_at : (room : ℕ) (bs : List ℕ) → type_at (suc room) (29 ∷ bs) ≡ (type_at room bs >>= λ s. Ok (Array s.0, s.1))
unfolding type_at
vector_at room bs = refl

reference_at : (room : ℕ) (bs : List ℕ) → type_at (suc room) (16 ∷ bs) ≡ (type_at room bs >>= λ s. Ok (ByRef s.0, s.1))
unfolding type_at
reference_at room bs = refl

pinned_at : (room : ℕ) (bs : List ℕ) → type_at (suc room) (69 ∷ bs) ≡ (type_at room bs >>= λ s. Ok (Pinned s.0, s.1))
unfolding type_at
pinned_at room bs = refl

modified_again : (room : ℕ) (required : Bool) (token : ℕ) (s : Sig) (ts bs rest : List ℕ) → IsToken token ts → type_at room (bs ++ rest) ≡ Ok (s, rest)
    → modified_at (type_at room) required ((ts ++ bs) ++ rest) ≡ Ok (Mod required token s, rest)
modified_again room required token s ts bs rest t h =
    bind_is (token_at ((ts ++ bs) ++ rest)) (λ t. type_at room t.1 >>= λ s. Ok (Mod required t.0 s.0, s.1)) (token, bs ++ rest) (Ok (Mod required token s, rest))
    (ap token_at (append_assoc ts bs rest) ∙ token_again token ts t (bs ++ rest))
    (holds_at room (bs ++ rest) rest s (λ s. Mod required token s) h)

instance_again : (room : ℕ) (value : Bool) (token : ℕ) (ss : List Sig) (ts ns bs rest : List ℕ) → IsToken token ts → IsNumber (length ss) ns → types_at (type_at room) (length ss) (bs ++ rest) ≡ Ok (ss, rest)
    → instance_at (type_at room) (class_byte value ∷ ((ts ++ ns ++ bs) ++ rest)) ≡ Ok (Inst value token ss, rest)
instance_again room value token ss ts ns bs rest t n h =
    let flat : (ts ++ ns ++ bs) ++ rest ≡ ts ++ (ns ++ (bs ++ rest)) = simp append_assoc in
    bind_is (class_at (class_byte value ∷ ((ts ++ ns ++ bs) ++ rest))) (λ v. token_at v.1 >>= λ t. number_at t.1 >>= λ n. types_at (type_at room) n.0 n.1 >>= λ ss. Ok (Inst v.0 t.0 ss.0, ss.1))
    (value, (ts ++ ns ++ bs) ++ rest) (Ok (Inst value token ss, rest)) (class_again value ((ts ++ ns ++ bs) ++ rest))
    (bind_is (token_at ((ts ++ ns ++ bs) ++ rest)) (λ t. number_at t.1 >>= λ n. types_at (type_at room) n.0 n.1 >>= λ ss. Ok (Inst value t.0 ss.0, ss.1))
    (token, ns ++ (bs ++ rest)) (Ok (Inst value token ss, rest)) (ap token_at flat ∙ token_again token ts t (ns ++ (bs ++ rest)))
    (bind_is (number_at (ns ++ (bs ++ rest))) (λ n. types_at (type_at room) n.0 n.1 >>= λ ss. Ok (Inst value token ss.0, ss.1))
    (length ss, bs ++ rest) (Ok (Inst value token ss, rest)) (number_again (length ss) ns n (bs ++ rest))
    (bind_is (types_at (type_at room) (length ss) (bs ++ rest)) (λ ss. Ok (Inst value token ss.0, ss.1)) (ss, rest) (Ok (Inst value token ss, rest)) h refl)))

more_again : (room : ℕ) (s : Sig) (ss : List Sig) (front bs rest : List ℕ) → type_at room (front ++ (bs ++ rest)) ≡ Ok (s, bs ++ rest) → types_at (type_at room) (length ss) (bs ++ rest) ≡ Ok (ss, rest)
    → types_at (type_at room) (suc (length ss)) ((front ++ bs) ++ rest) ≡ Ok (s ∷ ss, rest)
unfolding types_at
more_again room s ss front bs rest h k =
    bind_is (type_at room ((front ++ bs) ++ rest)) (λ s. types_at (type_at room) (length ss) s.1 >>= λ ss. Ok (s.0 ∷ ss.0, ss.1)) (s, bs ++ rest) (Ok (s ∷ ss, rest))
    (ap (type_at room) (append_assoc front bs rest) ∙ h)
    (bind_is (types_at (type_at room) (length ss) (bs ++ rest)) (λ ss. Ok (s ∷ ss.0, ss.1)) (ss, rest) (Ok (s ∷ ss, rest)) k refl)

none_again : (room : ℕ) (rest : List ℕ) → types_at (type_at room) 0 rest ≡ Ok ([], rest)
unfolding types_at
none_again room rest = refl

mutual
  pub type_again : (room : ℕ) (s : Sig) (bs : List ℕ) → IsType room s bs → (rest : List ℕ) → type_at room (bs ++ rest) ≡ Ok (s, rest)
  type_again _ _ _ (primitive room b h) rest = primitive_at room b rest h
  type_again _ _ _ (named room value token bs h) rest =
      named_at room value (bs ++ rest) ∙ bind_is (token_at (bs ++ rest)) (λ t. Ok (Named value t.0, t.1)) (token, rest) (Ok (Named value token, rest)) (token_again token bs h rest) refl
  type_again _ _ _ (of_type room n bs h) rest =
      var_at room (bs ++ rest) ∙ bind_is (number_at (bs ++ rest)) (λ n. Ok (Var n.0, n.1)) (n, rest) (Ok (Var n, rest)) (number_again n bs h rest) refl
  type_again _ _ _ (of_method room n bs h) rest =
      mvar_at room (bs ++ rest) ∙ bind_is (number_at (bs ++ rest)) (λ n. Ok (MVar n.0, n.1)) (n, rest) (Ok (MVar n, rest)) (number_again n bs h rest) refl
  type_again _ _ _ (vector room s bs h) rest = vector_at room (bs ++ rest) ∙ holds_at room (bs ++ rest) rest s (λ s. Array s) (type_again room s bs h rest)
  type_again _ _ _ (reference room s bs h) rest = reference_at room (bs ++ rest) ∙ holds_at room (bs ++ rest) rest s (λ s. ByRef s) (type_again room s bs h rest)
  type_again _ _ _ (pinned room s bs h) rest = pinned_at room (bs ++ rest) ∙ holds_at room (bs ++ rest) rest s (λ s. Pinned s) (type_again room s bs h rest)
  type_again _ _ _ (modified room required token s ts bs t h) rest =
      modifier_at room required ((ts ++ bs) ++ rest) ∙ modified_again room required token s ts bs rest t (type_again room s bs h rest)
  type_again _ _ _ (instance room value token ss ts ns bs t n h) rest =
      inst_at room (class_byte value ∷ ((ts ++ ns ++ bs) ++ rest)) ∙ instance_again room value token ss ts ns bs rest t n (types_again room ss bs h rest)

  pub types_again : (room : ℕ) (ss : List Sig) (bs : List ℕ) → AreTypes room ss bs → (rest : List ℕ) → types_at (type_at room) (length ss) (bs ++ rest) ≡ Ok (ss, rest)
  types_again _ _ _ (none room) rest = none_again room rest
  types_again _ _ _ (more room s ss front bs h k) rest = more_again room s ss front bs rest (type_again room s front h (bs ++ rest)) (types_again room ss bs k rest)
