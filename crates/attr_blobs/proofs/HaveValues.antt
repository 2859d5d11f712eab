-- Kinds of parameters that have values.
use Rattle.std.proofs.Common.{◌≡◌, ℕ, suc, ◌^◌, ◌<◌, true, is_some, List, [], ◌∷◌, ◌++◌, Option, Some, None, refl, sym, ap, subst, ◌∙◌, arith}
use Rattle.byteorder.specs.Endian.{little_bytes}
use Rattle.il_base.proofs.lemmas.blob_grammar.Law.{Inhabited}
use Rattle.attr_blobs.specs.declared.text.Width.{Width}
use Rattle.attr_blobs.specs.declared.text.Width.TheVariants.{One, Two, Four, Eight}
use Rattle.attr_blobs.specs.declared.kind.ParamKind.{ParamKind, out-ParamKind, roll-ParamKind, roll-out-ParamKind}
use Rattle.attr_blobs.specs.declared.kind.ParamKind.TheOpen.{ParamKind-F}
use Rattle.attr_blobs.specs.declared.kind.ParamKind.TheVariants as k
use Rattle.attr_blobs.specs.declared.value.Arg.TheVariants as a
use Rattle.attr_blobs.specs.declared.value.EnumSize.{EnumSize}
use Rattle.attr_blobs.specs.Texts.{bytes_of}
use Rattle.attr_blobs.specs.Values.{width_of_element, width_of_enum, size_of_enum}
use Rattle.attr_blobs.specs.Grammar.{null, IsKind, number_kind, text_kind, type_kind, enum_kind, boxed_kind, vector_kind, IsArg, number, enum, string, type_name, boxed, no_vector, HasValues, of_number, of_text, of_type, of_enum, of_boxed, of_vector}

-- ---- a kind, by what it opens to

pub is_prim : (kind : ParamKind) (b : ℕ) → out-ParamKind kind ≡ ParamKind-F.Prim b → kind ≡ k.Prim b
is_prim kind b e = sym (roll-out-ParamKind kind) ∙ ap roll-ParamKind e ∙ k.rolls-Prim b

pub is_text : (kind : ParamKind) → out-ParamKind kind ≡ ParamKind-F.Text → kind ≡ k.Text
is_text kind e = sym (roll-out-ParamKind kind) ∙ ap roll-ParamKind e ∙ k.rolls-Text

pub is_type : (kind : ParamKind) → out-ParamKind kind ≡ ParamKind-F.Typ → kind ≡ k.Typ
is_type kind e = sym (roll-out-ParamKind kind) ∙ ap roll-ParamKind e ∙ k.rolls-Typ

pub is_enum : (kind : ParamKind) (name : List ℕ) (size : ℕ) → out-ParamKind kind ≡ ParamKind-F.Enum name size → kind ≡ k.Enum name size
is_enum kind name size e = sym (roll-out-ParamKind kind) ∙ ap roll-ParamKind e ∙ k.rolls-Enum name size

pub is_boxed : (kind : ParamKind) → out-ParamKind kind ≡ ParamKind-F.Boxed → kind ≡ k.Boxed
is_boxed kind e = sym (roll-out-ParamKind kind) ∙ ap roll-ParamKind e ∙ k.rolls-Boxed

pub is_list : (kind inner : ParamKind) → out-ParamKind kind ≡ ParamKind-F.List inner → kind ≡ k.List inner
is_list kind inner e = sym (roll-out-ParamKind kind) ∙ ap roll-ParamKind e ∙ k.rolls-List inner

abbrev Prim-F : ℕ → ParamKind-F ParamKind
Prim-F b = ParamKind-F.Prim b

same_prim : (b c : ℕ) → Prim-F b ≡ Prim-F c → b ≡ c
same_prim b c e = cc

abbrev List-F : ParamKind → ParamKind-F ParamKind
List-F inner = ParamKind-F.List inner

same_list : (x y : ParamKind) → List-F x ≡ List-F y → x ≡ y
same_list x y e = cc

-- ---- what has values

pub number_valued : (room : ℕ) (kind : ParamKind) → HasValues room kind → (b : ℕ) → out-ParamKind kind ≡ ParamKind-F.Prim b → is_some (width_of_element b) ≡ true
number_valued _ _ (of_number room c h) b e = subst (λ (x : ℕ). is_some (width_of_element x) ≡ true) (same_prim c b (sym (k.outs-Prim c) ∙ e)) h
number_valued _ _ (of_text room) b e = absurd (let h = sym k.outs-Text ∙ e in cc)
number_valued _ _ (of_type room) b e = absurd (let h = sym k.outs-Typ ∙ e in cc)
number_valued _ _ (of_enum room name size) b e = absurd (let h = sym (k.outs-Enum name size) ∙ e in cc)
number_valued _ _ (of_boxed room) b e = absurd (let h = sym k.outs-Boxed ∙ e in cc)
number_valued _ _ (of_vector room kind v) b e = absurd (let h = sym (k.outs-List kind) ∙ e in cc)

pub no_room_boxed : (room : ℕ) (kind : ParamKind) → HasValues room kind → out-ParamKind kind ≡ ParamKind-F.Boxed → room ≡ 0 → ⊥
no_room_boxed _ _ (of_number room c h) e z = absurd (let h = sym (k.outs-Prim c) ∙ e in cc)
no_room_boxed _ _ (of_text room) e z = absurd (let h = sym k.outs-Text ∙ e in cc)
no_room_boxed _ _ (of_type room) e z = absurd (let h = sym k.outs-Typ ∙ e in cc)
no_room_boxed _ _ (of_enum room name size) e z = absurd (let h = sym (k.outs-Enum name size) ∙ e in cc)
no_room_boxed _ _ (of_boxed room) e z = omega arith
no_room_boxed _ _ (of_vector room kind v) e z = absurd (let h = sym (k.outs-List kind) ∙ e in cc)

pub no_room_list : (room : ℕ) (kind : ParamKind) → HasValues room kind → (inner : ParamKind) → out-ParamKind kind ≡ ParamKind-F.List inner → room ≡ 0 → ⊥
no_room_list _ _ (of_number room c h) inner e z = absurd (let h = sym (k.outs-Prim c) ∙ e in cc)
no_room_list _ _ (of_text room) inner e z = absurd (let h = sym k.outs-Text ∙ e in cc)
no_room_list _ _ (of_type room) inner e z = absurd (let h = sym k.outs-Typ ∙ e in cc)
no_room_list _ _ (of_enum room name size) inner e z = absurd (let h = sym (k.outs-Enum name size) ∙ e in cc)
no_room_list _ _ (of_boxed room) inner e z = absurd (let h = sym k.outs-Boxed ∙ e in cc)
no_room_list _ _ (of_vector room kind v) inner e z = omega arith

inner_at : (room : ℕ) (kind : ParamKind) → HasValues room kind → (inner : ParamKind) → out-ParamKind kind ≡ ParamKind-F.List inner → (below : ℕ) → room ≡ suc below → HasValues below inner
inner_at _ _ (of_number room c h) inner e below z = absurd (let h = sym (k.outs-Prim c) ∙ e in cc)
inner_at _ _ (of_text room) inner e below z = absurd (let h = sym k.outs-Text ∙ e in cc)
inner_at _ _ (of_type room) inner e below z = absurd (let h = sym k.outs-Typ ∙ e in cc)
inner_at _ _ (of_enum room name size) inner e below z = absurd (let h = sym (k.outs-Enum name size) ∙ e in cc)
inner_at _ _ (of_boxed room) inner e below z = absurd (let h = sym k.outs-Boxed ∙ e in cc)
inner_at _ _ (of_vector room kind v) inner e below z =
    let same : room ≡ below = omega arith in
    subst (λ (r : ℕ). HasValues r inner) same (subst (HasValues room) (same_list kind inner (sym (k.outs-List kind) ∙ e)) v)

pub inner_valued : (room : ℕ) (kind : ParamKind) → HasValues (suc room) kind → (inner : ParamKind) → out-ParamKind kind ≡ ParamKind-F.List inner → HasValues room inner
inner_valued room kind v inner e = inner_at (suc room) kind v inner e room refl

-- a kind that is read has values
pub kind_valued : (enums : List EnumSize) (room : ℕ) (kind : ParamKind) (bs : List ℕ) → IsKind enums room kind bs → HasValues room kind
kind_valued enums _ _ _ (number_kind room b h) = of_number room b h
kind_valued enums _ _ _ (text_kind room) = of_text room
kind_valued enums _ _ _ (type_kind room) = of_type room
kind_valued enums _ _ _ (enum_kind room name bs h) = of_enum room name (size_of_enum enums name)
kind_valued enums _ _ _ (boxed_kind room) = of_boxed room
kind_valued enums _ _ _ (vector_kind room kind bs h) = of_vector room kind (kind_valued enums room kind bs h)

pub some_power : (width : Width) → 0 < 256 ^ bytes_of width
some_power One = omega arith
some_power Two = omega arith
some_power Four = omega arith
some_power Eight = omega arith

number_some : (enums : List EnumSize) (room b : ℕ) (o : Option Width) → width_of_element b ≡ o → is_some o ≡ true → Inhabited (IsArg enums room (k.Prim b))
number_some enums room b None e h = absurd cc
number_some enums room b (Some width) e h = record { value = a.Number 0; bytes = little_bytes (bytes_of width) 0; spelled = number room b width 0 e (some_power width) }

pub arg_some : (enums : List EnumSize) (room : ℕ) (kind : ParamKind) → HasValues room kind → Inhabited (IsArg enums room kind)
arg_some enums _ _ (of_number room b h) = number_some enums room b (width_of_element b) refl h
arg_some enums _ _ (of_text room) = record { value = a.Text None; bytes = 255 ∷ []; spelled = string room None (255 ∷ []) null }
arg_some enums _ _ (of_type room) = record { value = a.Typ None; bytes = 255 ∷ []; spelled = type_name room None (255 ∷ []) null }
arg_some enums _ _ (of_enum room name size) =
    let width : Width = width_of_enum size in record { value = a.Number 0; bytes = little_bytes (bytes_of width) 0; spelled = enum room name size 0 (some_power width) }
arg_some enums _ _ (of_boxed room) =
    record { value = a.Boxed k.Text (a.Text None); bytes = (14 ∷ []) ++ (255 ∷ []); spelled = boxed room k.Text (a.Text None) (14 ∷ []) (255 ∷ []) (text_kind room) (string room None (255 ∷ []) null) }
arg_some enums _ _ (of_vector room kind v) = record { value = a.List None; bytes = 255 ∷ 255 ∷ 255 ∷ 255 ∷ []; spelled = no_vector room kind }
