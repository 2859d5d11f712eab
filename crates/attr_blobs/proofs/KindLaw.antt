-- Reading texts or null, and kinds, keeps to their spellings.
use Rattle.std.proofs.Common.{◌≡◌, ℕ, zero, suc, ◌==◌, ◌⊎◌, inl, inr, Bool, true, false, is_some, List, [], ◌∷◌, ◌++◌, Option, Some, None, Ok, Err, refl, sym, ap, subst, ◌∙◌}
use Rattle.std.proofs.lemmas.Bool.{cases_eq, ne_eqb}
use Rattle.il_base.proofs.lemmas.blob_grammar.Law.{IsBytes, Law, Takes, Refuses, Stops, Inhabited, wider, alone_law, Behind, reads, never, any_law, ok_is, same_law}
use Rattle.attr_blobs.specs.declared.kind.ParamKind.{ParamKind}
use Rattle.attr_blobs.specs.declared.kind.ParamKind.TheVariants as k
use Rattle.attr_blobs.specs.declared.value.EnumSize.{EnumSize}
use Rattle.attr_blobs.specs.Texts.{Reader, ◌>>=◌, text_at, some_text, text_or_null_at}
use Rattle.attr_blobs.specs.Values.{width_of_element, size_of_enum, enum_kind_at, leaf_kind_by, kind_by, kind_at}
use Rattle.attr_blobs.specs.Grammar.{IsText, IsTextOrNull, null, given, IsKind, number_kind, text_kind, type_kind, enum_kind, boxed_kind, vector_kind}
use Rattle.attr_blobs.proofs.Told.{told, tell, told_ok, told_err, made_told, bind_is, bind_ok}
use Rattle.attr_blobs.proofs.TextLaw.{text_law, text_again, no_text, no_high}

-- ---- texts or null

abbrev some_at : Reader (Option (List ℕ))
some_at bs = text_at bs >>= some_text

some_law : Law (tell some_at) IsTextOrNull
some_law = made_told text_at IsText (λ t. Some t) IsTextOrNull (λ t bs h. given t bs h) text_law

other_at : (b : ℕ) (bs : List ℕ) → (b ≡ 255 → ⊥) → text_or_null_at (b ∷ bs) ≡ some_at (b ∷ bs)
unfolding text_or_null_at
other_at b bs h = rw (ne_eqb b 255 h) refl

moved_stops : (what : ℕ) (b : ℕ) (bs good bad : List ℕ) → b ∷ bs ≡ good ++ bad → (b ≡ 255 → ⊥) → Stops (tell some_at) what good bad → Stops (tell text_or_null_at) what good bad
moved_stops what b bs good [] parts h s = tt
moved_stops what b bs [] (c ∷ bad) parts h s =
    let same : b ≡ c = cc in
    λ more. ap told (other_at c more (subst (λ (x : ℕ). x ≡ 255 → ⊥) same h)) ∙ s more
moved_stops what b bs (g ∷ good) (c ∷ bad) parts h s =
    let same : b ≡ g = cc in
    λ more. ap told (other_at g (good ++ c ∷ more) (subst (λ (x : ℕ). x ≡ 255 → ⊥) same h)) ∙ s more

no_some : (x : Option (List ℕ)) → told (some_at []) ≡ Ok (x, []) → ⊥
no_some x e =
    let a = bind_ok (text_at []) some_text (x, []) (told_ok (some_at []) (x, []) e) in
    no_text a.0 a.1

moved_again : (b : ℕ) (bs front rest : List ℕ) (x : Option (List ℕ)) → b ∷ bs ≡ front ++ rest → (b ≡ 255 → ⊥) → ((other : List ℕ) → told (some_at (front ++ other)) ≡ Ok (x, other))
    → (other : List ℕ) → told (text_or_null_at (front ++ other)) ≡ Ok (x, other)
moved_again b bs [] rest x parts h again other = absurd (no_some x (again []))
moved_again b bs (g ∷ front) rest x parts h again other =
    let same : b ≡ g = cc in
    ap told (other_at g (front ++ other) (subst (λ (x : ℕ). x ≡ 255 → ⊥) same h)) ∙ again other

null_takes : (b : ℕ) (bs : List ℕ) (x : Option (List ℕ)) (rest : List ℕ) → (b ≡ 255 → ⊥) → Takes (tell some_at) IsTextOrNull (b ∷ bs) x rest → Takes (tell text_or_null_at) IsTextOrNull (b ∷ bs) x rest
null_takes b bs x rest h t = record { front = t.front; parts = t.parts; spelled = t.spelled; again = moved_again b bs t.front rest x t.parts h t.again }

null_refuses : (b : ℕ) (bs : List ℕ) (left what : ℕ) → (b ≡ 255 → ⊥) → Refuses (tell some_at) IsTextOrNull (b ∷ bs) left what → Refuses (tell text_or_null_at) IsTextOrNull (b ∷ bs) left what
null_refuses b bs left what h v = record {
  good = v.good;
  bad = v.bad;
  parts = v.parts;
  left_is = v.left_is;
  value = v.value;
  more = v.more;
  begun = v.begun;
  stops = moved_stops what b bs v.good v.bad v.parts h v.stops;
  kind = v.kind;
}

null_at : (bs : List ℕ) → text_or_null_at (255 ∷ bs) ≡ Ok (None, bs)
unfolding text_or_null_at
null_at bs = refl

cut_at : text_or_null_at [] ≡ Err 0
unfolding text_or_null_at
cut_at = refl

text_or_null_takes : (bs : List ℕ) (x : Option (List ℕ)) (rest : List ℕ) → IsBytes bs → told (text_or_null_at bs) ≡ Ok (x, rest) → Takes (tell text_or_null_at) IsTextOrNull bs x rest
text_or_null_takes [] x rest fits e = absurd (let h = ap told cut_at in cc)
text_or_null_takes (b ∷ bs) x rest fits e =
    elim (cases_eq b 255) [
      | inr other ↦ null_takes b bs x rest other (some_law.takes (b ∷ bs) x rest fits (ap told (sym (other_at b bs other)) ∙ e))
      | inl same ↦
          let first : told (text_or_null_at (b ∷ bs)) ≡ Ok (None, bs) = ap told (ap (λ (c : ℕ). text_or_null_at (c ∷ bs)) same ∙ null_at bs) in
          let q : (None, bs) ≡ (x, rest) = ok_is (None, bs) (x, rest) (sym first ∙ e) in
          subst (λ (v : Option (List ℕ) × List ℕ). Takes (tell text_or_null_at) IsTextOrNull (b ∷ bs) v.0 v.1) q
          (record { front = 255 ∷ []; parts = ap (λ (c : ℕ). c ∷ bs) same; spelled = null; again = λ other. ap told (null_at other) })
    ]

text_or_null_refuses : (bs : List ℕ) (left what : ℕ) → IsBytes bs → told (text_or_null_at bs) ≡ Err (left, what) → Refuses (tell text_or_null_at) IsTextOrNull bs left what
text_or_null_refuses [] left what fits e =
    let f = told_err (text_or_null_at []) left what e in
    let none : 0 ≡ left = let h = cut_at in let g = f.0 in cc in
    record { good = []; bad = []; parts = refl; left_is = none; value = None; more = 255 ∷ []; begun = null; stops = tt; kind = inl f.1 }
text_or_null_refuses (b ∷ bs) left what fits e =
    elim (cases_eq b 255) [
      | inr other ↦ null_refuses b bs left what other (some_law.refuses (b ∷ bs) left what fits (ap told (sym (other_at b bs other)) ∙ e))
      | inl same ↦ absurd (let first : told (text_or_null_at (b ∷ bs)) ≡ Ok (None, bs) = ap told (ap (λ (c : ℕ). text_or_null_at (c ∷ bs)) same ∙ null_at bs) in cc)
    ]

pub text_or_null_law : Law (tell text_or_null_at) IsTextOrNull
text_or_null_law = record { takes = text_or_null_takes; refuses = text_or_null_refuses }

-- no text begins with ff
given_by : (t xs rest : List ℕ) → text_at xs ≡ Ok (t, rest) → text_or_null_at xs ≡ Ok (Some t, rest)
given_by t [] rest e = absurd (no_text (t, rest) e)
given_by t (b ∷ bs) rest e =
    elim (cases_eq b 255) [
      | inl same ↦ absurd (no_high bs (t, rest) (subst (λ (c : ℕ). text_at (c ∷ bs) ≡ Ok (t, rest)) same e))
      | inr other ↦ other_at b bs other ∙ bind_is (text_at (b ∷ bs)) some_text (t, rest) (Ok (Some t, rest)) e refl
    ]

pub text_or_null_again : (t : Option (List ℕ)) (bs : List ℕ) → IsTextOrNull t bs → (rest : List ℕ) → text_or_null_at (bs ++ rest) ≡ Ok (t, rest)
text_or_null_again _ _ null rest = null_at rest
text_or_null_again _ _ (given t bs h) rest = given_by t (bs ++ rest) rest (text_again t bs h rest)

-- ---- kinds

abbrev Behind_kind : List EnumSize → ℕ → ℕ → ParamKind → List ℕ → Type 0
Behind_kind enums room b x bs = IsKind enums room x (b ∷ bs)

-- a kind of one byte
plain : (enums : List EnumSize) (room b : ℕ) (kind : ParamKind) → IsKind enums room kind (b ∷ []) → Law (tell (λ bs. Ok (kind, bs))) (Behind_kind enums room b)
plain enums room b kind h = wider (λ x bs p. rw (p.value, p.bytes) h) (alone_law kind)

enum_law : (enums : List EnumSize) (room : ℕ) → Law (tell (enum_kind_at enums)) (Behind_kind enums room 85)
enum_law enums room = made_told text_at IsText (λ name. k.Enum name (size_of_enum enums name)) (Behind_kind enums room 85) (λ name bs h. enum_kind room name bs h) text_law

-- the same reader, written otherwise
same_behind : {A : Type 0} (b : ℕ) (r q : Reader A) (R : A → List ℕ → Type 0) → ((bs : List ℕ) → r bs ≡ q bs) → Behind b (tell q) R → Behind b (tell r) R
same_behind b r q R same (reads law) = reads (same_law (tell r) (tell q) R (λ bs. ap told (same bs)) law)
same_behind b r q R same (never what kind h) = never what kind (λ bs. ap told (same bs) ∙ h bs)

some_or_not : (b : Bool) → (b ≡ true) ⊎ (b ≡ false)
some_or_not true = inl refl
some_or_not false = inr refl

leaf_behind : (enums : List EnumSize) (room b : ℕ) → Behind b (tell (leaf_kind_by enums b)) (Behind_kind enums room b)
leaf_behind enums room b =
    elim (cases_eq b 14) [
      | inl same ↦ rw same (reads (plain enums room 14 k.Text (text_kind room)))
      | inr n14 ↦ elim (cases_eq b 80) [
        | inl same ↦ rw same (reads (plain enums room 80 k.Typ (type_kind room)))
        | inr n80 ↦ elim (cases_eq b 85) [
          | inl same ↦ rw same (reads (enum_law enums room))
          | inr n85 ↦ elim (some_or_not (is_some (width_of_element b))) [
            | inl some ↦
                same_behind b (leaf_kind_by enums b) (λ bs. Ok (k.Prim b, bs)) (Behind_kind enums room b) (λ bs. rw (ne_eqb b 14 n14, ne_eqb b 80 n80, ne_eqb b 85 n85, some) refl)
                (reads (plain enums room b (k.Prim b) (number_kind room b some)))
            | inr not ↦ never 5 (inl refl) (λ bs. rw (ne_eqb b 14 n14, ne_eqb b 80 n80, ne_eqb b 85 n85, not) refl)
          ]
        ]
      ]
    ]

holder_behind : (enums : List EnumSize) (room b : ℕ) → Law (tell (kind_at enums room)) (IsKind enums room) → Behind b (tell (kind_by enums (kind_at enums room) b)) (Behind_kind enums (suc room) b)
holder_behind enums room b law =
    elim (cases_eq b 29) [
      | inl same ↦ rw same (reads (made_told (kind_at enums room) (IsKind enums room) (λ kind. k.List kind) (Behind_kind enums (suc room) 29) (λ kind bs h. vector_kind room kind bs h) law))
      | inr n29 ↦ elim (cases_eq b 81) [
        | inl same ↦ rw same (reads (plain enums (suc room) 81 k.Boxed (boxed_kind room)))
        | inr n81 ↦ same_behind b (kind_by enums (kind_at enums room) b) (leaf_kind_by enums b) (Behind_kind enums (suc room) b) (λ bs. rw (ne_eqb b 29 n29, ne_eqb b 81 n81) refl) (leaf_behind enums (suc room) b)
      ]
    ]

pub kind_some : (enums : List EnumSize) (room : ℕ) → Inhabited (IsKind enums room)
kind_some enums room = record { value = k.Text; bytes = 14 ∷ []; spelled = text_kind room }

pub kind_law : (enums : List EnumSize) (room : ℕ) → Law (tell (kind_at enums room)) (IsKind enums room)
unfolding kind_at
kind_law enums zero = any_law (tell (kind_at enums zero)) (IsKind enums zero) (kind_some enums zero) refl (leaf_behind enums zero)
kind_law enums (suc room) = any_law (tell (kind_at enums (suc room))) (IsKind enums (suc room)) (kind_some enums (suc room)) refl (λ b. holder_behind enums room b (kind_law enums room))

-- ---- what is spelled so is read

-- a byte that isn't of a number
not_byte : (b n : ℕ) → is_some (width_of_element b) ≡ true → is_some (width_of_element n) ≡ false → (b == n) ≡ false
not_byte b n h k = ne_eqb b n (λ (e : b ≡ n). let w : is_some (width_of_element n) ≡ true = subst (λ (m : ℕ). is_some (width_of_element m) ≡ true) e h in cc)

leaf_number : (enums : List EnumSize) (b : ℕ) (bs : List ℕ) → is_some (width_of_element b) ≡ true → leaf_kind_by enums b bs ≡ Ok (k.Prim b, bs)
leaf_number enums b bs h = rw (not_byte b 14 h refl, not_byte b 80 h refl, not_byte b 85 h refl, h) refl

number_at_kind : (enums : List EnumSize) (room b : ℕ) (bs : List ℕ) → is_some (width_of_element b) ≡ true → kind_at enums room (b ∷ bs) ≡ Ok (k.Prim b, bs)
unfolding kind_at
number_at_kind enums zero b bs h = leaf_number enums b bs h
number_at_kind enums (suc room) b bs h = rw (not_byte b 29 h refl, not_byte b 81 h refl) (leaf_number enums b bs h)

pub kind_again : (enums : List EnumSize) (room : ℕ) (kind : ParamKind) (bs : List ℕ) → IsKind enums room kind bs → (rest : List ℕ) → kind_at enums room (bs ++ rest) ≡ Ok (kind, rest)
unfolding kind_at
kind_again enums _ _ _ (number_kind room b h) rest = number_at_kind enums room b rest h
kind_again enums _ _ _ (text_kind zero) rest = refl
kind_again enums _ _ _ (text_kind (suc room)) rest = refl
kind_again enums _ _ _ (type_kind zero) rest = refl
kind_again enums _ _ _ (type_kind (suc room)) rest = refl
kind_again enums _ _ _ (enum_kind zero name bs h) rest =
    bind_is (text_at (bs ++ rest)) (λ name. Ok (k.Enum name.0 (size_of_enum enums name.0), name.1)) (name, rest) (Ok (k.Enum name (size_of_enum enums name), rest)) (text_again name bs h rest) refl
kind_again enums _ _ _ (enum_kind (suc room) name bs h) rest =
    bind_is (text_at (bs ++ rest)) (λ name. Ok (k.Enum name.0 (size_of_enum enums name.0), name.1)) (name, rest) (Ok (k.Enum name (size_of_enum enums name), rest)) (text_again name bs h rest) refl
kind_again enums _ _ _ (boxed_kind room) rest = refl
kind_again enums _ _ _ (vector_kind room kind bs h) rest =
    bind_is (kind_at enums room (bs ++ rest)) (λ x. Ok (k.List x.0, x.1)) (kind, rest) (Ok (k.List kind, rest)) (kind_again enums room kind bs h rest) refl
