-- Reading arguments keeps to their spellings.
use Rattle.std.proofs.Common.{◌≡◌, ℕ, zero, suc, ◌<◌, ◌⊎◌, inl, inr, false, is_some, List, [], ◌∷◌, ◌++◌, length, Option, Some, None, Ok, refl, sym, ap, subst, ◌∙◌, arith}
use Rattle.std.proofs.lemmas.Bool.{cases_eq, ne_eqb}
use Rattle.std.proofs.lemmas.List.{append-nil}
use Rattle.byteorder.specs.Endian.{little_bytes}
use Rattle.il_base.proofs.lemmas.blob_grammar.Law.{Inhabited, Then}
use Rattle.attr_blobs.specs.declared.text.Width.{Width}
use Rattle.attr_blobs.specs.declared.kind.ParamKind.{ParamKind, out-ParamKind}
use Rattle.attr_blobs.specs.declared.kind.ParamKind.TheOpen.{ParamKind-F}
use Rattle.attr_blobs.specs.declared.kind.ParamKind.TheVariants as k
use Rattle.attr_blobs.specs.declared.value.Arg.{Arg}
use Rattle.attr_blobs.specs.declared.value.Arg.TheVariants as a
use Rattle.attr_blobs.specs.declared.value.EnumSize.{EnumSize}
use Rattle.attr_blobs.specs.Texts.{Reader, ◌>>=◌, bytes_of, sized_at, text_or_null_at}
use Rattle.attr_blobs.specs.Values.{width_of_element, width_of_enum, kind_at, args_at, number_by, list_by, list_at, leaf_arg_by, boxed_at, arg_by, arg_at}
use Rattle.attr_blobs.specs.Grammar.{IsTextOrNull, IsKind, IsArg, AreArgs, none, more, number, enum, string, type_name, boxed, no_vector, vector, HasValues}
use Rattle.attr_blobs.proofs.Keeps.{Keeps, always, never_keeps, less_keeps, wider_keeps, same_keeps, made_keeps, then_keeps, alone_keeps}
use Rattle.attr_blobs.proofs.NumberLaw.{IsSized, sized_law}
use Rattle.attr_blobs.proofs.KindLaw.{text_or_null_law, kind_law}
use Rattle.attr_blobs.proofs.HaveValues.{is_prim, is_text, is_type, is_enum, is_boxed, is_list, number_valued, no_room_boxed, no_room_list, inner_valued, kind_valued, arg_some}

-- ---- arguments that hold no other

module _ (enums : List EnumSize) (room : ℕ) (kind : ParamKind) where
  abbrev Own : Arg → List ℕ → Type 0
  Own = IsArg enums room kind

  as_kind : (other : ParamKind) → kind ≡ other → (x : Arg) (bs : List ℕ) → IsArg enums room other x bs → Own x bs
  as_kind other e x bs h = subst (λ (y : ParamKind). IsArg enums room y x bs) (sym e) h

  prim_keeps : (b : ℕ) → out-ParamKind kind ≡ ParamKind-F.Prim b → (o : Option Width) → width_of_element b ≡ o → Keeps (HasValues room kind) (number_by o) Own
  prim_keeps b e None w = never_keeps (λ v. let h = number_valued room kind v b e in let n : is_some (width_of_element b) ≡ false = ap is_some w in cc) (λ bs. refl)
  prim_keeps b e (Some width) w =
      made_keeps (sized_at (bytes_of width)) (IsSized (bytes_of width)) (λ n. a.Number n) Own
      (λ n bs h. as_kind (k.Prim b) (is_prim kind b e) (a.Number n) bs (subst (IsArg enums room (k.Prim b) (a.Number n)) (sym h.bytes) (number room b width n w h.small)))
      (always (sized_law (bytes_of width)))

  text_keeps : out-ParamKind kind ≡ ParamKind-F.Text → Keeps (HasValues room kind) (leaf_arg_by ParamKind-F.Text) Own
  text_keeps e = made_keeps text_or_null_at IsTextOrNull (λ t. a.Text t) Own (λ t bs h. as_kind k.Text (is_text kind e) (a.Text t) bs (string room t bs h)) (always text_or_null_law)

  type_keeps : out-ParamKind kind ≡ ParamKind-F.Typ → Keeps (HasValues room kind) (leaf_arg_by ParamKind-F.Typ) Own
  type_keeps e = made_keeps text_or_null_at IsTextOrNull (λ t. a.Typ t) Own (λ t bs h. as_kind k.Typ (is_type kind e) (a.Typ t) bs (type_name room t bs h)) (always text_or_null_law)

  enum_keeps : (name : List ℕ) (size : ℕ) → out-ParamKind kind ≡ ParamKind-F.Enum name size → Keeps (HasValues room kind) (leaf_arg_by (ParamKind-F.Enum name size)) Own
  enum_keeps name size e =
      made_keeps (sized_at (bytes_of (width_of_enum size))) (IsSized (bytes_of (width_of_enum size))) (λ n. a.Number n) Own
      (λ n bs h. as_kind (k.Enum name size) (is_enum kind name size e) (a.Number n) bs (subst (IsArg enums room (k.Enum name size) (a.Number n)) (sym h.bytes) (enum room name size n h.small)))
      (always (sized_law (bytes_of (width_of_enum size))))

no_room_keeps : (enums : List EnumSize) (kind : ParamKind) (o : ParamKind-F ParamKind) → out-ParamKind kind ≡ o → Keeps (HasValues zero kind) (leaf_arg_by o) (IsArg enums zero kind)
no_room_keeps enums kind (ParamKind-F.Prim b) e = prim_keeps enums zero kind b e (width_of_element b) refl
no_room_keeps enums kind ParamKind-F.Text e = text_keeps enums zero kind e
no_room_keeps enums kind ParamKind-F.Typ e = type_keeps enums zero kind e
no_room_keeps enums kind (ParamKind-F.Enum name size) e = enum_keeps enums zero kind name size e
no_room_keeps enums kind ParamKind-F.Boxed e = never_keeps (λ v. no_room_boxed zero kind v e refl) (λ bs. refl)
no_room_keeps enums kind (ParamKind-F.List inner) e = never_keeps (λ v. no_room_list zero kind v inner e refl) (λ bs. refl)

-- ---- arguments one after another

module _ (enums : List EnumSize) (room : ℕ) (kind : ParamKind) (one_keeps : Keeps (HasValues room kind) (arg_at enums room kind) (IsArg enums room kind)) where
  abbrev one : Reader Arg
  one = arg_at enums room kind

  abbrev Row : ℕ → List Arg → List ℕ → Type 0
  Row n xs bs = (length xs ≡ n) × AreArgs enums room kind xs bs

  -- the elements after a first one
  abbrev Behind : ℕ → Arg → List Arg → List ℕ → Type 0
  Behind n x xs bs = (tail : List Arg) × (xs ≡ x ∷ tail) × Row n tail bs

  row_some : HasValues room kind → (n : ℕ) → Inhabited (Row n)
  row_some v zero = record { value = []; bytes = []; spelled = (refl, none room kind) }
  row_some v (suc n) =
      let first = arg_some enums room kind v in
      let rest = row_some v n in
      record { value = first.value ∷ rest.value; bytes = first.bytes ++ rest.bytes; spelled = (ap suc rest.spelled.0, more room kind first.value rest.value first.bytes rest.bytes first.spelled rest.spelled.1) }

  behind_some : HasValues room kind → (n : ℕ) (x : Arg) → Inhabited (Behind n x)
  behind_some v n x = let rest = row_some v n in record { value = x ∷ rest.value; bytes = rest.bytes; spelled = (rest.value, refl, rest.spelled) }

  row_keeps : (n : ℕ) → Keeps (HasValues room kind) (args_at one n) (Row n)
  unfolding args_at
  row_keeps zero = wider_keeps (λ xs bs p. rw (p.value, p.bytes) (refl, none room kind)) (alone_keeps [])
  row_keeps (suc n) =
      let tail : (x : Arg) → Keeps (HasValues room kind) (λ bs. args_at one n bs >>= λ xs. Ok (x ∷ xs.0, xs.1)) (Behind n x) =
      λ (x : Arg). made_keeps (args_at one n) (Row n) (λ xs. x ∷ xs) (Behind n x) (λ xs bs p. (xs, refl, p)) (row_keeps n) in
      let whole : (xs : List Arg) (bs : List ℕ) → Then (IsArg enums room kind) (Behind n) xs bs → Row (suc n) xs bs =
      λ (xs : List Arg) (bs : List ℕ) p. rw (p.tail.1, p.parts) (ap suc p.tail.2.0, more room kind p.first p.tail.0 p.front p.back p.head p.tail.2.1) in
      wider_keeps whole
      (then_keeps one (IsArg enums room kind) (λ x bs. args_at one n bs >>= λ xs. Ok (x ∷ xs.0, xs.1)) (Behind n) (λ x. HasValues room kind) one_keeps tail (λ v x front h. v) (λ v x front h. behind_some v n x))

  -- what stands after a vector's count
  abbrev Counted : ℕ → Arg → List ℕ → Type 0
  Counted n y bs = ((n ≡ 4294967295) × (y ≡ a.List None) × (bs ≡ [])) ⊎ ((xs : List Arg) × (y ≡ a.List (Some xs)) × (n ≡ 4294967295 → ⊥) × Row n xs bs)

  counted_keeps : (n : ℕ) → Keeps (HasValues room kind) (list_by one n) (Counted n)
  counted_keeps n =
      elim (cases_eq n 4294967295) [
        | inl null ↦ same_keeps (list_by one n) (λ bs. Ok (a.List None, bs)) (Counted n) (λ bs. rw null refl) (wider_keeps (λ y bs p. inl (null, p.value, p.bytes)) (alone_keeps (a.List None)))
        | inr not ↦
            same_keeps (list_by one n) (λ bs. args_at one n bs >>= λ xs. Ok (a.List (Some xs.0), xs.1)) (Counted n) (λ bs. rw (ne_eqb n 4294967295 not) refl)
            (made_keeps (args_at one n) (Row n) (λ xs. a.List (Some xs)) (Counted n) (λ xs bs p. inr (xs, refl, not, p)) (row_keeps n))
      ]

  counted_some : HasValues room kind → (n : ℕ) → Inhabited (Counted n)
  counted_some v n =
      elim (cases_eq n 4294967295) [
        | inl null ↦ record { value = a.List None; bytes = []; spelled = inl (null, refl, refl) }
        | inr not ↦ let r = row_some v n in record { value = a.List (Some r.value); bytes = r.bytes; spelled = inr (r.value, refl, not, r.spelled) }
      ]

  is_vector : (y : Arg) (bs : List ℕ) → Then (IsSized 4) Counted y bs → IsArg enums (suc room) (k.List kind) y bs
  is_vector y bs p =
      let small = p.head.small in
      elim p.tail [
        | inl (null, value, empty) ↦
            let whole : bs ≡ 255 ∷ 255 ∷ 255 ∷ 255 ∷ [] =
            p.parts ∙ ap (λ (l : List ℕ). p.front ++ l) empty ∙ append-nil p.front ∙ p.head.bytes ∙ ap (little_bytes 4) null in
            rw (value, whole) (no_vector room kind)
        | inr (xs, value, not, row) ↦
            let whole : bs ≡ little_bytes 4 (length xs) ++ p.back =
            p.parts ∙ ap (λ (l : List ℕ). l ++ p.back) (p.head.bytes ∙ ap (little_bytes 4) (sym row.0)) in
            let long = row.0 in
            rw (value, whole) (vector room kind xs p.back (let few : p.first < 4294967295 = omega (arith, not) in omega arith) row.1)
      ]

  vector_keeps : Keeps (HasValues room kind) (list_at one) (IsArg enums (suc room) (k.List kind))
  vector_keeps =
      wider_keeps is_vector
      (then_keeps (sized_at 4) (IsSized 4) (list_by one) Counted (λ n. HasValues room kind) (always (sized_law 4)) counted_keeps (λ v n front h. v) (λ v n front h. counted_some v n))

-- ---- boxed values

module _ (enums : List EnumSize) (room : ℕ) (inner : (kind : ParamKind) → Keeps (HasValues room kind) (arg_at enums room kind) (IsArg enums room kind)) where
  abbrev Value : ParamKind → Arg → List ℕ → Type 0
  Value kind y bs = (x : Arg) × (y ≡ a.Boxed kind x) × IsArg enums room kind x bs

  value_keeps : (kind : ParamKind) → Keeps (HasValues room kind) (λ bs. arg_at enums room kind bs >>= λ value. Ok (a.Boxed kind value.0, value.1)) (Value kind)
  value_keeps kind = made_keeps (arg_at enums room kind) (IsArg enums room kind) (λ x. a.Boxed kind x) (Value kind) (λ x bs h. (x, refl, h)) (inner kind)

  value_some : (kind : ParamKind) → HasValues room kind → Inhabited (Value kind)
  value_some kind v = let s = arg_some enums room kind v in record { value = a.Boxed kind s.value; bytes = s.bytes; spelled = (s.value, refl, s.spelled) }

  boxed_keeps : (P : Type 0) → Keeps P (boxed_at enums room (arg_at enums room)) (IsArg enums (suc room) k.Boxed)
  boxed_keeps P =
      wider_keeps (λ y bs p. rw (p.tail.1, p.parts) (boxed room p.first p.tail.0 p.front p.back p.head p.tail.2))
      (then_keeps (kind_at enums room) (IsKind enums room) (λ kind bs. arg_at enums room kind bs >>= λ value. Ok (a.Boxed kind value.0, value.1)) Value (HasValues room)
      (always (kind_law enums room)) value_keeps (λ p kind front h. kind_valued enums room kind front h) (λ p kind front h. value_some kind (kind_valued enums room kind front h)))

-- ---- any argument

room_keeps : (enums : List EnumSize) (room : ℕ) → ((kind : ParamKind) → Keeps (HasValues room kind) (arg_at enums room kind) (IsArg enums room kind)) → (kind : ParamKind) (o : ParamKind-F ParamKind) → out-ParamKind kind ≡ o
    → Keeps (HasValues (suc room) kind) (arg_by enums room (arg_at enums room) o) (IsArg enums (suc room) kind)
room_keeps enums room inner kind (ParamKind-F.Prim b) e = prim_keeps enums (suc room) kind b e (width_of_element b) refl
room_keeps enums room inner kind ParamKind-F.Text e = text_keeps enums (suc room) kind e
room_keeps enums room inner kind ParamKind-F.Typ e = type_keeps enums (suc room) kind e
room_keeps enums room inner kind (ParamKind-F.Enum name size) e = enum_keeps enums (suc room) kind name size e
room_keeps enums room inner kind ParamKind-F.Boxed e =
    wider_keeps (λ x bs h. as_kind enums (suc room) kind k.Boxed (is_boxed kind e) x bs h) (boxed_keeps enums room inner (HasValues (suc room) kind))
room_keeps enums room inner kind (ParamKind-F.List element) e =
    wider_keeps (λ x bs h. as_kind enums (suc room) kind (k.List element) (is_list kind element e) x bs h)
    (less_keeps (λ v. inner_valued room kind v element e) (vector_keeps enums room element (inner element)))

pub arg_keeps : (enums : List EnumSize) (room : ℕ) (kind : ParamKind) → Keeps (HasValues room kind) (arg_at enums room kind) (IsArg enums room kind)
unfolding arg_at
arg_keeps enums zero kind = no_room_keeps enums kind (out-ParamKind kind) refl
arg_keeps enums (suc room) kind = room_keeps enums room (arg_keeps enums room) kind (out-ParamKind kind) refl
