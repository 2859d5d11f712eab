-- Reading whole values keeps to their spellings.
use Rattle.std.proofs.Common.{◌≡◌, ℕ, zero, suc, inl, inr, ◌==◌, Bool, true, false, List, [], ◌∷◌, ◌++◌, length, None, Ok, Err, refl, sym, ap, subst, ◌∙◌, arith, append_assoc, if◌then◌else◌}
use Rattle.std.specs.List.{AllByRecursion}
use Rattle.std.proofs.lemmas.Bool.{cases_eq, ne_eqb, eqb-true}
use Rattle.byteorder.specs.Endian.{little_bytes}
use Rattle.il_base.proofs.lemmas.blob_grammar.Law.{IsBytes, IsBytes-behind, Law, Inhabited, Then, then_some, Behind, reads, never, any_law}
use Rattle.attr_blobs.specs.declared.kind.ParamKind.{ParamKind}
use Rattle.attr_blobs.specs.declared.kind.ParamKind.TheVariants as k
use Rattle.attr_blobs.specs.declared.value.Arg.{Arg}
use Rattle.attr_blobs.specs.declared.value.Arg.TheVariants as a
use Rattle.attr_blobs.specs.declared.value.NamedArg.{NamedArg}
use Rattle.attr_blobs.specs.declared.value.AttrValue.{AttrValue}
use Rattle.attr_blobs.specs.declared.value.EnumSize.{EnumSize}
use Rattle.attr_blobs.specs.Texts.{Reader, ◌>>=◌, cut, bad, sized_at, text_at}
use Rattle.attr_blobs.specs.Values.{levels, kind_at, arg_at, fixed_at, named_by, named_at, nameds_at, prolog_at, value_at}
use Rattle.attr_blobs.specs.Grammar.{IsText, IsKind, IsArg, AreFixed, no_fixed, more_fixed, field_byte, IsNamed, named, AreNamed, no_named, more_named, IsAttribute, attribute, HasValues, null, string, text_kind}
use Rattle.attr_blobs.proofs.Told.{tell, told, bind_ok}
use Rattle.attr_blobs.proofs.Keeps.{Found, Keeps, always, less_keeps, wider_keeps, made_keeps, then_keeps, alone_keeps}
use Rattle.attr_blobs.proofs.NumberLaw.{IsSized, sized_law}
use Rattle.attr_blobs.proofs.TextLaw.{text_law, text_some}
use Rattle.attr_blobs.proofs.KindLaw.{kind_law}
use Rattle.attr_blobs.proofs.HaveValues.{kind_valued, arg_some}
use Rattle.attr_blobs.proofs.ArgLaw.{arg_keeps}

-- ---- the constructor's arguments

abbrev pub Valued : List ParamKind → Type 0
Valued kinds = AllByRecursion (HasValues levels) kinds

module _ (enums : List EnumSize) where
  abbrev Behind_fixed : List ParamKind → Arg → List Arg → List ℕ → Type 0
  Behind_fixed kinds x xs bs = (tail : List Arg) × (xs ≡ x ∷ tail) × AreFixed enums kinds tail bs

  fixed_some : (kinds : List ParamKind) → Valued kinds → Inhabited (AreFixed enums kinds)
  fixed_some [] v = record { value = []; bytes = []; spelled = no_fixed }
  fixed_some (kind ∷ kinds) v =
      let first = arg_some enums levels kind v.0 in
      let rest = fixed_some kinds v.1 in
      record { value = first.value ∷ rest.value; bytes = first.bytes ++ rest.bytes; spelled = more_fixed kind kinds first.value rest.value first.bytes rest.bytes first.spelled rest.spelled }

  behind_fixed_some : (kinds : List ParamKind) → Valued kinds → (x : Arg) → Inhabited (Behind_fixed kinds x)
  behind_fixed_some kinds v x = let rest = fixed_some kinds v in record { value = x ∷ rest.value; bytes = rest.bytes; spelled = (rest.value, refl, rest.spelled) }

  fixed_keeps : (kinds : List ParamKind) → Keeps (Valued kinds) (fixed_at enums kinds) (AreFixed enums kinds)
  unfolding fixed_at
  fixed_keeps [] = wider_keeps (λ xs bs p. rw (p.value, p.bytes) no_fixed) (alone_keeps [])
  fixed_keeps (kind ∷ kinds) =
      let tail : (x : Arg) → Keeps (Valued kinds) (λ bs. fixed_at enums kinds bs >>= λ xs. Ok (x ∷ xs.0, xs.1)) (Behind_fixed kinds x) =
      λ (x : Arg). made_keeps (fixed_at enums kinds) (AreFixed enums kinds) (λ xs. x ∷ xs) (Behind_fixed kinds x) (λ xs bs p. (xs, refl, p)) (fixed_keeps kinds) in
      let whole : (xs : List Arg) (bs : List ℕ) → Then (IsArg enums levels kind) (Behind_fixed kinds) xs bs → AreFixed enums (kind ∷ kinds) xs bs =
      λ (xs : List Arg) (bs : List ℕ) p. rw (p.tail.1, p.parts) (more_fixed kind kinds p.first p.tail.0 p.front p.back p.head p.tail.2) in
      wider_keeps whole
      (then_keeps (arg_at enums levels kind) (IsArg enums levels kind) (λ x bs. fixed_at enums kinds bs >>= λ xs. Ok (x ∷ xs.0, xs.1)) (Behind_fixed kinds) (λ x. Valued kinds)
      (less_keeps (λ v. v.0) (arg_keeps enums levels kind)) tail (λ v x front h. v.1) (λ v x front h. behind_fixed_some kinds v.1 x))

-- ---- named arguments

abbrev pub named_of : Bool → ParamKind → List ℕ → Arg → NamedArg
named_of field kind name value = record { field = field; name = name; kind = kind; value = value }

module _ (enums : List EnumSize) (field : Bool) where
  abbrev Value : ParamKind → List ℕ → NamedArg → List ℕ → Type 0
  Value kind name y bs = (x : Arg) × (y ≡ named_of field kind name x) × IsArg enums levels kind x bs

  value_keeps : (kind : ParamKind) (name : List ℕ) → Keeps (HasValues levels kind) (λ bs. arg_at enums levels kind bs >>= λ value. Ok (named_of field kind name value.0, value.1)) (Value kind name)
  value_keeps kind name = made_keeps (arg_at enums levels kind) (IsArg enums levels kind) (λ x. named_of field kind name x) (Value kind name) (λ x bs h. (x, refl, h)) (arg_keeps enums levels kind)

  value_some : (kind : ParamKind) (name : List ℕ) → HasValues levels kind → Inhabited (Value kind name)
  value_some kind name v = let s = arg_some enums levels kind v in record { value = named_of field kind name s.value; bytes = s.bytes; spelled = (s.value, refl, s.spelled) }

  abbrev Name : ParamKind → NamedArg → List ℕ → Type 0
  Name kind = Then IsText (Value kind)

  name_keeps : (kind : ParamKind) → Keeps (HasValues levels kind) (λ bs. text_at bs >>= λ name. arg_at enums levels kind name.1 >>= λ value. Ok (named_of field kind name.0 value.0, value.1)) (Name kind)
  name_keeps kind =
      then_keeps text_at IsText (λ name bs. arg_at enums levels kind bs >>= λ value. Ok (named_of field kind name value.0, value.1)) (Value kind) (λ name. HasValues levels kind)
      (always text_law) (value_keeps kind) (λ v name front h. v) (λ v name front h. value_some kind name v)

  name_some : (kind : ParamKind) → HasValues levels kind → Inhabited (Name kind)
  name_some kind v = then_some IsText (Value kind) text_some (λ name. value_some kind name v)

  is_named : (y : NamedArg) (bs : List ℕ) → Then (IsKind enums levels) Name y bs → IsNamed enums y (field_byte field ∷ bs)
  is_named y bs p =
      let q = p.tail in
      let v = q.tail in
      let whole : field_byte field ∷ bs ≡ field_byte field ∷ (p.front ++ q.front ++ q.back) =
      ap (λ (l : List ℕ). field_byte field ∷ l) (p.parts ∙ ap (λ (l : List ℕ). p.front ++ l) q.parts ∙ sym (append_assoc p.front q.front q.back)) in
      rw (v.1, whole) (named field p.first q.first v.0 p.front q.front q.back p.head q.head v.2)

  named_by_keeps : Keeps (Unit {0}) (named_by enums field) (λ y bs. IsNamed enums y (field_byte field ∷ bs))
  named_by_keeps =
      wider_keeps is_named
      (then_keeps (kind_at enums levels) (IsKind enums levels) (λ kind bs. text_at bs >>= λ name. arg_at enums levels kind name.1 >>= λ value. Ok (named_of field kind name.0 value.0, value.1)) Name (HasValues levels)
      (always (kind_law enums levels)) name_keeps (λ p kind front h. kind_valued enums levels kind front h) (λ p kind front h. name_some kind (kind_valued enums levels kind front h)))

module _ (enums : List EnumSize) where
  named_some : Inhabited (IsNamed enums)
  named_some = record {
    value = named_of true k.Text text_some.value (a.Text None);
    bytes = 83 ∷ ((14 ∷ []) ++ text_some.bytes ++ (255 ∷ []));
    spelled = named true k.Text text_some.value (a.Text None) (14 ∷ []) text_some.bytes (255 ∷ []) (text_kind levels) text_some.spelled (string levels None (255 ∷ []) null);
  }

  named_behind : (b : ℕ) → Behind b (λ bs. told (named_at enums (b ∷ bs))) (λ y bs. IsNamed enums y (b ∷ bs))
  unfolding named_at
  named_behind b =
      elim (cases_eq b 83) [
        | inl same ↦ rw same (reads ((named_by_keeps enums true).law tt))
        | inr n83 ↦ elim (cases_eq b 84) [
          | inl same ↦ rw same (reads ((named_by_keeps enums false).law tt))
          | inr n84 ↦ never 5 (inl refl) (λ bs. rw (ne_eqb b 83 n83, ne_eqb b 84 n84) refl)
        ]
      ]

  named_law : Law (tell (named_at enums)) (IsNamed enums)
  unfolding named_at
  named_law = any_law (tell (named_at enums)) (IsNamed enums) named_some refl named_behind

  abbrev Row : ℕ → List NamedArg → List ℕ → Type 0
  Row n xs bs = (length xs ≡ n) × AreNamed enums xs bs

  abbrev Behind_named : ℕ → NamedArg → List NamedArg → List ℕ → Type 0
  Behind_named n x xs bs = (tail : List NamedArg) × (xs ≡ x ∷ tail) × Row n tail bs

  row_some : (n : ℕ) → Inhabited (Row n)
  row_some zero = record { value = []; bytes = []; spelled = (refl, no_named) }
  row_some (suc n) =
      let first = named_some in
      let rest = row_some n in
      record { value = first.value ∷ rest.value; bytes = first.bytes ++ rest.bytes; spelled = (ap suc rest.spelled.0, more_named first.value rest.value first.bytes rest.bytes first.spelled rest.spelled.1) }

  behind_named_some : (n : ℕ) (x : NamedArg) → Inhabited (Behind_named n x)
  behind_named_some n x = let rest = row_some n in record { value = x ∷ rest.value; bytes = rest.bytes; spelled = (rest.value, refl, rest.spelled) }

  row_keeps : (n : ℕ) → Keeps (Unit {0}) (nameds_at (named_at enums) n) (Row n)
  unfolding nameds_at
  row_keeps zero = wider_keeps (λ xs bs p. rw (p.value, p.bytes) (refl, no_named)) (alone_keeps [])
  row_keeps (suc n) =
      let tail : (x : NamedArg) → Keeps (Unit {0}) (λ bs. nameds_at (named_at enums) n bs >>= λ xs. Ok (x ∷ xs.0, xs.1)) (Behind_named n x) =
      λ (x : NamedArg). made_keeps (nameds_at (named_at enums) n) (Row n) (λ xs. x ∷ xs) (Behind_named n x) (λ xs bs p. (xs, refl, p)) (row_keeps n) in
      let whole : (xs : List NamedArg) (bs : List ℕ) → Then (IsNamed enums) (Behind_named n) xs bs → Row (suc n) xs bs =
      λ (xs : List NamedArg) (bs : List ℕ) p. rw (p.tail.1, p.parts) (ap suc p.tail.2.0, more_named p.first p.tail.0 p.front p.back p.head p.tail.2.1) in
      wider_keeps whole
      (then_keeps (named_at enums) (IsNamed enums) (λ x bs. nameds_at (named_at enums) n bs >>= λ xs. Ok (x ∷ xs.0, xs.1)) (Behind_named n) (λ x. Unit {0})
      (always named_law) tail (λ p x front h. tt) (λ p x front h. behind_named_some n x))

-- ---- what stands after the prolog

abbrev pub value_of : List Arg → List NamedArg → AttrValue
value_of fixed ns = record { fixed = fixed; named = ns }

module _ (enums : List EnumSize) (kinds : List ParamKind) where
  abbrev pub body_at : Reader AttrValue
  body_at bs = fixed_at enums kinds bs >>= λ fixed. sized_at 2 fixed.1 >>= λ count. nameds_at (named_at enums) count.0 count.1 >>= λ ns. Ok (value_of fixed.0 ns.0, ns.1)

  abbrev Last : List Arg → ℕ → AttrValue → List ℕ → Type 0
  Last fixed n y bs = (ns : List NamedArg) × (y ≡ value_of fixed ns) × Row enums n ns bs

  last_keeps : (fixed : List Arg) (n : ℕ) → Keeps (Unit {0}) (λ bs. nameds_at (named_at enums) n bs >>= λ ns. Ok (value_of fixed ns.0, ns.1)) (Last fixed n)
  last_keeps fixed n = made_keeps (nameds_at (named_at enums) n) (Row enums n) (λ ns. value_of fixed ns) (Last fixed n) (λ ns bs p. (ns, refl, p)) (row_keeps enums n)

  last_some : (fixed : List Arg) (n : ℕ) → Inhabited (Last fixed n)
  last_some fixed n = let r = row_some enums n in record { value = value_of fixed r.value; bytes = r.bytes; spelled = (r.value, refl, r.spelled) }

  abbrev Count : List Arg → AttrValue → List ℕ → Type 0
  Count fixed = Then (IsSized 2) (Last fixed)

  count_keeps : (fixed : List Arg) → Keeps (Unit {0}) (λ bs. sized_at 2 bs >>= λ count. nameds_at (named_at enums) count.0 count.1 >>= λ ns. Ok (value_of fixed ns.0, ns.1)) (Count fixed)
  count_keeps fixed =
      then_keeps (sized_at 2) (IsSized 2) (λ n bs. nameds_at (named_at enums) n bs >>= λ ns. Ok (value_of fixed ns.0, ns.1)) (Last fixed) (λ n. Unit {0})
      (always (sized_law 2)) (last_keeps fixed) (λ p n front h. tt) (λ p n front h. last_some fixed n)

  count_some : (fixed : List Arg) → Inhabited (Count fixed)
  count_some fixed =
      let some : Inhabited (IsSized 2) = record { value = 0; bytes = little_bytes 2 0; spelled = record { small = omega arith; bytes = refl } } in
      then_some (IsSized 2) (Last fixed) some (last_some fixed)

  abbrev Body : AttrValue → List ℕ → Type 0
  Body y bs = IsAttribute enums kinds y (1 ∷ 0 ∷ bs)

  is_body : (y : AttrValue) (bs : List ℕ) → Then (AreFixed enums kinds) Count y bs → Body y bs
  is_body y bs p =
      let q = p.tail in
      let v = q.tail in
      let long = v.2.0 in
      let small = q.head.small in
      let count : q.front ≡ little_bytes 2 (length v.0) = q.head.bytes ∙ ap (little_bytes 2) (sym v.2.0) in
      let whole : bs ≡ p.front ++ little_bytes 2 (length v.0) ++ q.back =
      p.parts ∙ ap (λ (l : List ℕ). p.front ++ l) (q.parts ∙ ap (λ (l : List ℕ). l ++ q.back) count) ∙ sym (append_assoc p.front (little_bytes 2 (length v.0)) q.back) in
      rw (v.1, whole) (attribute p.first v.0 p.front q.back p.head (omega arith) v.2.1)

  body_keeps : Keeps (Valued kinds) body_at Body
  body_keeps =
      wider_keeps is_body
      (then_keeps (fixed_at enums kinds) (AreFixed enums kinds) (λ fixed bs. sized_at 2 bs >>= λ count. nameds_at (named_at enums) count.0 count.1 >>= λ ns. Ok (value_of fixed ns.0, ns.1)) Count (λ fixed. Unit {0})
      (fixed_keeps enums kinds) count_keeps (λ v fixed front h. tt) (λ v fixed front h. count_some fixed))

  attribute_some : Valued kinds → Inhabited (IsAttribute enums kinds)
  attribute_some v =
      let f = fixed_some enums kinds v in
      record { value = value_of f.value []; bytes = 1 ∷ 0 ∷ (f.bytes ++ little_bytes 2 0 ++ []); spelled = attribute f.value [] f.bytes [] f.spelled (omega arith) no_named }

  second_behind : Valued kinds → (c : ℕ) → Behind c (λ bs. told (value_at enums kinds (1 ∷ c ∷ bs))) (λ y bs. IsAttribute enums kinds y (1 ∷ c ∷ bs))
  unfolding value_at prolog_at
  second_behind v c =
      elim (cases_eq c 0) [
        | inl same ↦ rw same (reads (body_keeps.law v))
        | inr n0 ↦ never 5 (inl refl) (λ bs. rw (ne_eqb c 0 n0) refl)
      ]

  abbrev Second : AttrValue → List ℕ → Type 0
  Second y bs = IsAttribute enums kinds y (1 ∷ bs)

  second_some : Valued kinds → Inhabited Second
  second_some v =
      let f = fixed_some enums kinds v in
      record { value = value_of f.value []; bytes = 0 ∷ (f.bytes ++ little_bytes 2 0 ++ []); spelled = attribute f.value [] f.bytes [] f.spelled (omega arith) no_named }

  second_law : Valued kinds → Law (tell (λ bs. value_at enums kinds (1 ∷ bs))) Second
  unfolding value_at prolog_at
  second_law v = any_law (tell (λ bs. value_at enums kinds (1 ∷ bs))) Second (second_some v) refl (second_behind v)

  first_bad : (b : ℕ) → (b ≡ 1 → ⊥) → (bs : List ℕ) → told (value_at enums kinds (b ∷ bs)) ≡ Err (suc (length bs), 5)
  unfolding value_at prolog_at
  first_bad b h [] = rw (ne_eqb b 1 h) refl
  first_bad b h (c ∷ bs) = rw (ne_eqb b 1 h) refl

  first_behind : Valued kinds → (b : ℕ) → Behind b (λ bs. told (value_at enums kinds (b ∷ bs))) (λ y bs. IsAttribute enums kinds y (b ∷ bs))
  first_behind v b =
      elim (cases_eq b 1) [
        | inl same ↦ rw same (reads (second_law v))
        | inr n1 ↦ never 5 (inl refl) (first_bad b n1)
      ]

  pub value_law : Valued kinds → Law (tell (value_at enums kinds)) (IsAttribute enums kinds)
  unfolding value_at prolog_at
  value_law v = any_law (tell (value_at enums kinds)) (IsAttribute enums kinds) (attribute_some v) refl (first_behind v)

  prolog_found : (bs after : List ℕ) → prolog_at bs ≡ Ok after → bs ≡ 1 ∷ 0 ∷ after
  unfolding prolog_at
  prolog_found [] after e = absurd cc
  prolog_found (b ∷ []) after e =
      let G : Bool → Type 0 = λ t. (if t then cut else bad (b ∷ [])) ≡ Ok after → b ∷ [] ≡ 1 ∷ 0 ∷ after in
      (elim (b == 1) as G [ true ↦ λ h. absurd cc | false ↦ λ h. absurd cc ]) e
  prolog_found (b ∷ c ∷ bs) after e =
      let G : Bool → Type 0 = λ t. (b == 1) ≡ t → (if t then (if c == 0 then Ok bs else bad (c ∷ bs)) else bad (b ∷ c ∷ bs)) ≡ Ok after → b ∷ c ∷ bs ≡ 1 ∷ 0 ∷ after in
      let H : Bool → Type 0 = λ t. (c == 0) ≡ t → (if t then Ok bs else bad (c ∷ bs)) ≡ Ok after → b ≡ 1 → b ∷ c ∷ bs ≡ 1 ∷ 0 ∷ after in
      (elim (b == 1) as G [
        | false ↦ λ x h. absurd cc
        | true ↦ λ x h.
            (elim (c == 0) as H [
              | false ↦ λ y i j. absurd cc
              | true ↦ λ y i j. let z = eqb-true c 0 y in cc
            ]) refl h (eqb-true b 1 x)
      ]) refl e

  pub value_found : (bs : List ℕ) (x : AttrValue) (rest : List ℕ) → IsBytes bs → value_at enums kinds bs ≡ Ok (x, rest) → Found (IsAttribute enums kinds) bs x rest
  unfolding value_at
  value_found bs x rest fits e =
      let p = bind_ok (prolog_at bs) (λ after. body_at after) (x, rest) e in
      let parts = prolog_found bs p.0 p.1 in
      let f = body_keeps.found p.0 x rest (IsBytes-behind (1 ∷ 0 ∷ []) p.0 (subst IsBytes parts fits)) p.2 in
      record { front = 1 ∷ 0 ∷ f.front; parts = parts ∙ ap (λ (l : List ℕ). 1 ∷ 0 ∷ l) f.parts; spelled = f.spelled }
