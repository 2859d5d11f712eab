-- Reading the signatures of methods, properties, fields, locals and instances keeps to their spellings.
use Rattle.std.proofs.Common.{◌≡◌, ℕ, zero, suc, inl, inr, Bool, true, false, List, [], ◌∷◌, ◌++◌, length, Ok, Err, refl, sym, ap, subst, ◌∙◌, append_assoc}
use Rattle.std.proofs.lemmas.Bool.{cases_eq, ne_eqb, eq-eqb}
use Rattle.il_base.specs.declared.sig.MethodSig.{MethodSig}
use Rattle.il_base.specs.declared.sig.Sig.{Sig}
use Rattle.il_base.specs.blob_grammar.Numbers.{IsNumber, shortest}
use Rattle.il_base.specs.blob_grammar.Signatures.{levels, IsType, AreParts, parts, IsMethod, plain, generic, IsProperty, property, IsField, field, AreCounted, counted, none, plain_byte, generic_byte, property_byte, type_bytes, types_bytes, method_head, method_bytes, property_bytes, field_bytes, parts_bytes}
use Rattle.il_base.specs.blob_grammar.Reading.{◌>>=◌, number_at, types_at, type_at, parts_at, generic_at, method_at, property_at, field_at, counted_at}
use Rattle.il_base.proofs.lemmas.blob_grammar.Law.{Law, Inhabited, Then, then_law, then_some, wider, made_law, Behind, reads, never, any_law, bind_is, same_law}
use Rattle.il_base.proofs.lemmas.blob_grammar.Numbers.{number_law, zero_number, number_again}
use Rattle.il_base.proofs.lemmas.blob_grammar.Types.{Row, type_some, types_some, types_law}
use Rattle.il_base.proofs.lemmas.blob_grammar.TypeLaw.{type_law, type_again, types_again}
use Rattle.il_base.proofs.lemmas.blob_grammar.Writing.{type_written, types_written, number_written}

-- a signature of its parts
abbrev made : Bool → ℕ → Sig → List Sig → MethodSig
made this count ret params = record { this = this; generic = count; ret = ret; params = params }

-- ---- the parts

module _ (this : Bool) (count : ℕ) where
  Params : ℕ → Sig → MethodSig → List ℕ → Type 0
  Params n ret m bs = (params : List Sig) × (m ≡ made this count ret params) × Row levels n params bs

  -- what follows the head
  Parts : MethodSig → List ℕ → Type 0
  Parts m bs = (ret : Sig) × (params : List Sig) × (m ≡ made this count ret params) × AreParts ret params bs

  params_law : (n : ℕ) (ret : Sig) → Law (λ bs. types_at (type_at levels) n bs >>= λ ps. Ok (made this count ret ps.0, ps.1)) (Params n ret)
  unfolding Params
  params_law n ret = made_law (types_at (type_at levels) n) (Row levels n) (λ ps. made this count ret ps) (Params n ret) (λ ps bs q. (ps, refl, q)) (types_law levels (type_law levels) n)

  params_some : (n : ℕ) (ret : Sig) → Inhabited (Params n ret)
  unfolding Params
  params_some n ret = let some = types_some levels n in record { value = made this count ret some.value; bytes = some.bytes; spelled = (some.value, refl, some.spelled) }

  Behind_count : ℕ → MethodSig → List ℕ → Type 0
  Behind_count n = Then (IsType levels) (Params n)

  ret_law : (n : ℕ) → Law (λ bs. type_at levels bs >>= λ ret. types_at (type_at levels) n ret.1 >>= λ ps. Ok (made this count ret.0 ps.0, ps.1)) (Behind_count n)
  unfolding Behind_count
  ret_law n = then_law (type_at levels) (IsType levels) (λ ret bs. types_at (type_at levels) n bs >>= λ ps. Ok (made this count ret ps.0, ps.1)) (Params n) (type_law levels) (params_law n) (params_some n)

  ret_some : (n : ℕ) → Inhabited (Behind_count n)
  unfolding Behind_count
  ret_some n = then_some (IsType levels) (Params n) (type_some levels) (params_some n)

  are_parts : (m : MethodSig) (bs : List ℕ) → Then IsNumber Behind_count m bs → Parts m bs
  unfolding Parts Behind_count Params
  are_parts m bs p =
      let q = p.tail in
      let a = q.tail in
      let flat : bs ≡ p.front ++ q.front ++ q.back = p.parts ∙ ap (λ (b : List ℕ). p.front ++ b) q.parts ∙ sym (append_assoc p.front q.front q.back) in
      (q.first, a.0, a.1, rw flat (parts q.first a.0 p.front q.front q.back (subst (λ (n : ℕ). IsNumber n p.front) (sym a.2.0) p.head) q.head a.2.1))

  parts_law : Law (parts_at this count) Parts
  unfolding parts_at
  parts_law = wider are_parts (then_law number_at IsNumber (λ n bs. type_at levels bs >>= λ ret. types_at (type_at levels) n ret.1 >>= λ ps. Ok (made this count ret.0 ps.0, ps.1)) Behind_count number_law ret_law ret_some)

  parts_some : Inhabited Parts
  unfolding Parts
  parts_some =
      let s = type_some levels in
      record { value = made this count s.value []; bytes = (0 ∷ []) ++ s.bytes ++ []; spelled = (s.value, [], refl, parts s.value [] (0 ∷ []) s.bytes [] zero_number s.spelled (none levels)) }

parts_again : (this : Bool) (count : ℕ) (ret : Sig) (params : List Sig) (bs : List ℕ) → AreParts ret params bs → (rest : List ℕ) → parts_at this count (bs ++ rest) ≡ Ok (made this count ret params, rest)
unfolding parts_at
parts_again this count _ _ _ (parts ret params ns rs ps n r p) rest =
    let flat : (ns ++ rs ++ ps) ++ rest ≡ ns ++ (rs ++ (ps ++ rest)) = simp append_assoc in
    bind_is (number_at ((ns ++ rs ++ ps) ++ rest)) (λ n. type_at levels n.1 >>= λ ret. types_at (type_at levels) n.0 ret.1 >>= λ ps. Ok (made this count ret.0 ps.0, ps.1))
    (length params, rs ++ (ps ++ rest)) (Ok (made this count ret params, rest)) (ap number_at flat ∙ number_again (length params) ns n (rs ++ (ps ++ rest)))
    (bind_is (type_at levels (rs ++ (ps ++ rest))) (λ ret. types_at (type_at levels) (length params) ret.1 >>= λ ps. Ok (made this count ret.0 ps.0, ps.1))
    (ret, ps ++ rest) (Ok (made this count ret params, rest)) (type_again levels ret rs r (ps ++ rest))
    (bind_is (types_at (type_at levels) (length params) (ps ++ rest)) (λ ps. Ok (made this count ret ps.0, ps.1)) (params, rest) (Ok (made this count ret params, rest)) (types_again levels params ps p rest) refl))

parts_written : (ret : Sig) (params : List Sig) (bs : List ℕ) → AreParts ret params bs → AreParts ret params (parts_bytes ret params)
parts_written _ _ _ (parts ret params ns rs ps n r p) =
    parts ret params (shortest (length params)) (type_bytes ret) (types_bytes params) (number_written (length params) ns n) (type_written levels ret rs r) (types_written levels params ps p)

-- ---- methods

plain_law : (this : Bool) → Law (parts_at this 0) (λ m bs. IsMethod m (plain_byte this ∷ bs))
unfolding Parts
plain_law this = wider (λ m bs p. rw p.2 (plain this p.0 p.1 bs p.3)) (parts_law this 0)

generics_law : (this : Bool) → Law (generic_at this) (λ m bs. IsMethod m (generic_byte this ∷ bs))
unfolding Parts
generics_law this =
    let whole : (m : MethodSig) (bs : List ℕ) → Then IsNumber (Parts this) m bs → IsMethod m (generic_byte this ∷ bs) =
    λ (m : MethodSig) (bs : List ℕ) p. rw (p.tail.2, p.parts) (generic this p.first p.tail.0 p.tail.1 p.front p.back p.head p.tail.3) in
    wider whole (then_law number_at IsNumber (parts_at this) (Parts this) number_law (parts_law this) (parts_some this))

method_some : Inhabited IsMethod
unfolding Parts
method_some = let p = parts_some false 0 in record { value = made false 0 p.spelled.0 p.spelled.1; bytes = 0 ∷ p.bytes; spelled = plain false p.spelled.0 p.spelled.1 p.bytes p.spelled.3 }

method_behind : (b : ℕ) → Behind b (λ bs. method_at (b ∷ bs)) (λ m bs. IsMethod m (b ∷ bs))
unfolding method_at
method_behind b =
    elim (cases_eq b 0) [
      | inl same ↦ rw same (reads (plain_law false))
      | inr n0 ↦ elim (cases_eq b 32) [
        | inl same ↦ rw same (reads (plain_law true))
        | inr n32 ↦ elim (cases_eq b 16) [
          | inl same ↦ rw same (reads (generics_law false))
          | inr n16 ↦ elim (cases_eq b 48) [
            | inl same ↦ rw same (reads (generics_law true))
            | inr n48 ↦ never 5 (inl refl) (λ bs. rw (ne_eqb b 0 n0, ne_eqb b 32 n32, ne_eqb b 16 n16, ne_eqb b 48 n48) refl)
          ]
        ]
      ]
    ]

pub method_law : Law method_at IsMethod
unfolding method_at
method_law = any_law method_at IsMethod method_some refl method_behind

plain_at : (this : Bool) (bs : List ℕ) → method_at (plain_byte this ∷ bs) ≡ parts_at this 0 bs
unfolding method_at
plain_at true bs = refl
plain_at false bs = refl

generic_byte_at : (this : Bool) (bs : List ℕ) → method_at (generic_byte this ∷ bs) ≡ generic_at this bs
unfolding method_at
generic_byte_at true bs = refl
generic_byte_at false bs = refl

pub method_again : (m : MethodSig) (bs : List ℕ) → IsMethod m bs → (rest : List ℕ) → method_at (bs ++ rest) ≡ Ok (m, rest)
method_again _ _ (plain this ret params bs h) rest = plain_at this (bs ++ rest) ∙ parts_again this 0 ret params bs h rest
method_again _ _ (generic this count ret params gs bs g h) rest =
    generic_byte_at this ((gs ++ bs) ++ rest)
    ∙ bind_is (number_at ((gs ++ bs) ++ rest)) (λ n. parts_at this n.0 n.1) (count, bs ++ rest) (Ok (made this count ret params, rest))
    (ap number_at (append_assoc gs bs rest) ∙ number_again count gs g (bs ++ rest)) (parts_again this count ret params bs h rest)

-- the head with a count of generic parameters that may be 0
headed : (this : Bool) (count : ℕ) (ret : Sig) (params : List Sig) (bs : List ℕ) → IsNumber count (shortest count) → AreParts ret params bs → IsMethod (made this count ret params) (method_head this count ++ bs)
headed this zero ret params bs g h = plain this ret params bs h
headed this (suc n) ret params bs g h = generic this (suc n) ret params (shortest (suc n)) bs g h

pub method_written : (m : MethodSig) (bs : List ℕ) → IsMethod m bs → IsMethod m (method_bytes m)
method_written _ _ (plain this ret params bs h) = plain this ret params (parts_bytes ret params) (parts_written ret params bs h)
method_written _ _ (generic this count ret params gs bs g h) = headed this count ret params (parts_bytes ret params) (number_written count gs g) (parts_written ret params bs h)

-- ---- properties

prop_law : (this : Bool) → Law (parts_at this 0) (λ m bs. IsProperty m (property_byte this ∷ bs))
unfolding Parts
prop_law this = wider (λ m bs p. rw p.2 (property this p.0 p.1 bs p.3)) (parts_law this 0)

property_some : Inhabited IsProperty
unfolding Parts
property_some = let p = parts_some false 0 in record { value = made false 0 p.spelled.0 p.spelled.1; bytes = 8 ∷ p.bytes; spelled = property false p.spelled.0 p.spelled.1 p.bytes p.spelled.3 }

property_behind : (b : ℕ) → Behind b (λ bs. property_at (b ∷ bs)) (λ m bs. IsProperty m (b ∷ bs))
unfolding property_at
property_behind b =
    elim (cases_eq b 8) [
      | inl same ↦ rw same (reads (prop_law false))
      | inr n8 ↦ elim (cases_eq b 40) [
        | inl same ↦ rw same (reads (prop_law true))
        | inr n40 ↦ never 5 (inl refl) (λ bs. rw (ne_eqb b 8 n8, ne_eqb b 40 n40) refl)
      ]
    ]

pub property_law : Law property_at IsProperty
unfolding property_at
property_law = any_law property_at IsProperty property_some refl property_behind

property_byte_at : (this : Bool) (bs : List ℕ) → property_at (property_byte this ∷ bs) ≡ parts_at this 0 bs
unfolding property_at
property_byte_at true bs = refl
property_byte_at false bs = refl

pub property_again : (m : MethodSig) (bs : List ℕ) → IsProperty m bs → (rest : List ℕ) → property_at (bs ++ rest) ≡ Ok (m, rest)
property_again _ _ (property this ret params bs h) rest = property_byte_at this (bs ++ rest) ∙ parts_again this 0 ret params bs h rest

pub property_written : (m : MethodSig) (bs : List ℕ) → IsProperty m bs → IsProperty m (property_bytes m)
property_written _ _ (property this ret params bs h) = property this ret params (parts_bytes ret params) (parts_written ret params bs h)

-- ---- fields

field_some : Inhabited IsField
field_some = let s = type_some levels in record { value = s.value; bytes = 6 ∷ s.bytes; spelled = field s.value s.bytes s.spelled }

field_behind : (b : ℕ) → Behind b (λ bs. field_at (b ∷ bs)) (λ s bs. IsField s (b ∷ bs))
unfolding field_at
field_behind b =
    elim (cases_eq b 6) [
      | inl same ↦ rw same (reads (wider (λ s bs h. field s bs h) (type_law levels)))
      | inr n6 ↦ never 5 (inl refl) (λ bs. rw (ne_eqb b 6 n6) refl)
    ]

pub field_law : Law field_at IsField
unfolding field_at
field_law = any_law field_at IsField field_some refl field_behind

pub field_again : (s : Sig) (bs : List ℕ) → IsField s bs → (rest : List ℕ) → field_at (bs ++ rest) ≡ Ok (s, rest)
unfolding field_at
field_again _ _ (field s bs h) rest = type_again levels s bs h rest

pub field_written : (s : Sig) (bs : List ℕ) → IsField s bs → IsField s (field_bytes s)
field_written _ _ (field s bs h) = field s (type_bytes s) (type_written levels s bs h)

-- ---- types after a leading byte and a count

module _ (lead : ℕ) where
  counted_some : Inhabited (AreCounted lead)
  counted_some = record { value = []; bytes = lead ∷ ((0 ∷ []) ++ []); spelled = counted [] (0 ∷ []) [] zero_number (none levels) }

  row_law : Law (λ bs. number_at bs >>= λ n. types_at (type_at levels) n.0 n.1) (λ ss bs. AreCounted lead ss (lead ∷ bs))
  row_law =
      let whole : (ss : List Sig) (bs : List ℕ) → Then IsNumber (Row levels) ss bs → AreCounted lead ss (lead ∷ bs) =
      λ (ss : List Sig) (bs : List ℕ) p. rw p.parts (counted ss p.front p.back (subst (λ (n : ℕ). IsNumber n p.front) (sym p.tail.0) p.head) p.tail.1) in
      wider whole (then_law number_at IsNumber (types_at (type_at levels)) (Row levels) number_law (types_law levels (type_law levels)) (types_some levels))

  lead_at : (bs : List ℕ) → counted_at lead (lead ∷ bs) ≡ (number_at bs >>= λ n. types_at (type_at levels) n.0 n.1)
  unfolding counted_at
  lead_at bs = rw (eq-eqb lead lead refl) refl

  other_lead : (b : ℕ) (bs : List ℕ) → (b ≡ lead → ⊥) → counted_at lead (b ∷ bs) ≡ Err (suc (length bs), 5)
  unfolding counted_at
  other_lead b bs ne = rw (ne_eqb b lead ne) refl

  lead_law : Law (λ bs. counted_at lead (lead ∷ bs)) (λ ss bs. AreCounted lead ss (lead ∷ bs))
  lead_law = same_law (λ bs. counted_at lead (lead ∷ bs)) (λ bs. number_at bs >>= λ n. types_at (type_at levels) n.0 n.1) (λ ss bs. AreCounted lead ss (lead ∷ bs)) lead_at row_law

  counted_behind : (b : ℕ) → Behind b (λ bs. counted_at lead (b ∷ bs)) (λ ss bs. AreCounted lead ss (b ∷ bs))
  counted_behind b =
      elim (cases_eq b lead) [
        | inl same ↦ rw same (reads lead_law)
        | inr ne ↦ never 5 (inl refl) (λ bs. other_lead b bs ne)
      ]

  pub counted_law : Law (counted_at lead) (AreCounted lead)
  unfolding counted_at
  counted_law = any_law (counted_at lead) (AreCounted lead) counted_some refl counted_behind

  pub counted_again : (ss : List Sig) (bs : List ℕ) → AreCounted lead ss bs → (rest : List ℕ) → counted_at lead (bs ++ rest) ≡ Ok (ss, rest)
  counted_again _ _ (counted ss ns bs n h) rest =
      lead_at ((ns ++ bs) ++ rest)
      ∙ bind_is (number_at ((ns ++ bs) ++ rest)) (λ n. types_at (type_at levels) n.0 n.1) (length ss, bs ++ rest) (Ok (ss, rest))
      (ap number_at (append_assoc ns bs rest) ∙ number_again (length ss) ns n (bs ++ rest)) (types_again levels ss bs h rest)

  pub counted_written : (ss : List Sig) (bs : List ℕ) → AreCounted lead ss bs → AreCounted lead ss (lead ∷ (shortest (length ss) ++ types_bytes ss))
  counted_written _ _ (counted ss ns bs n h) = counted ss (shortest (length ss)) (types_bytes ss) (number_written (length ss) ns n) (types_written levels ss bs h)
