-- Enums by their names.
use Rattle.std.proofs.Common.{◌≡◌, ◌<◌, ◌≤◌, ◌+◌, ℕ, List, ◌∷◌, Bool, true, false, Some, length, get_or, drop, map, refl, ap, sym, subst, ◌∙◌, add-one, drop-cons, suc, if◌then◌else◌}
use Rattle.std.proofs.Math.ListN.{drop_of_length-le}
use Rattle.std.specs.Str.{IsUtf8, is_utf8, chars}
use Rattle.std.proofs.lemmas.Str.{is_utf8-from_IsUtf8, IsUtf8-from_is_utf8}
use Rattle.attr_blobs.specs.declared.name.NameRead.{NameRead}
use Rattle.attr_blobs.specs.declared.name.NameRead.TheVariants.{Malformed}
use Rattle.attr_blobs.specs.declared.value.EnumSize.{EnumSize}
use Rattle.attr_blobs.specs.TypeNames.{name_of}
use Rattle.attr_blobs.specs.Values.{names, size_of_named, name_of_text}

-- the element at a place, and what stands after it
pub at_drop : {A : Type 0} (xs : List A) (i : ℕ) (x : A) → i < length xs → x ≡ get_or xs i x → drop i xs ≡ x ∷ drop (i + 1) xs
at_drop xs i x h e = rw add-one (drop-cons xs i x h ∙ ap (λ v. v ∷ drop (suc i) xs) (sym e))

pub named_here : (enums : List EnumSize) (i : ℕ) (e : EnumSize) (name : NameRead) (all : ℕ) → i < length enums → e ≡ get_or enums i e → names e.name name ≡ true →
    size_of_named (drop i enums) name ≡ all → e.size ≡ all
unfolding size_of_named
named_here enums i e name all h is n so =
    let k : size_of_named (e ∷ drop (i + 1) enums) name ≡ all = subst (λ (v : List EnumSize). size_of_named v name ≡ all) (at_drop enums i e h is) so in
    subst (λ (b : Bool). (if b then e.size else size_of_named (drop (i + 1) enums) name) ≡ all) n k

pub named_on : (enums : List EnumSize) (i : ℕ) (e : EnumSize) (name : NameRead) (all : ℕ) → i < length enums → e ≡ get_or enums i e → names e.name name ≡ false →
    size_of_named (drop i enums) name ≡ all → size_of_named (drop (i + 1) enums) name ≡ all
unfolding size_of_named
named_on enums i e name all h is n so =
    let k : size_of_named (e ∷ drop (i + 1) enums) name ≡ all = subst (λ (v : List EnumSize). size_of_named v name ≡ all) (at_drop enums i e h is) so in
    subst (λ (b : Bool). (if b then e.size else size_of_named (drop (i + 1) enums) name) ≡ all) n k

pub named_end : (enums : List EnumSize) (i : ℕ) (name : NameRead) (all : ℕ) → length enums ≤ i → size_of_named (drop i enums) name ≡ all → 4 ≡ all
unfolding size_of_named
named_end enums i name all h so = subst (λ (v : List EnumSize). size_of_named v name ≡ all) (drop_of_length-le enums h) so

pub text_named : (bs : List ℕ) → IsUtf8 bs → name_of_text bs ≡ name_of (map (λ c. Some c) (chars bs))
text_named bs u = rw (is_utf8-from_IsUtf8 bs u) refl

pub text_malformed : (bs : List ℕ) → ¬ (IsUtf8 bs) → name_of_text bs ≡ Malformed
text_malformed bs n =
    let G : Bool → Type 0 = λ b. is_utf8 bs ≡ b → (if b then name_of (map (λ c. Some c) (chars bs)) else Malformed) ≡ Malformed in
    (elim (is_utf8 bs) as G [ true ↦ λ e. absurd (n (IsUtf8-from_is_utf8 bs e)) | false ↦ λ e. refl ]) refl
