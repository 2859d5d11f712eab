-- A blob that is read to its end.
use Rattle.std.proofs.Common.{◌≡◌, ℕ, suc, ◌-◌, min, List, [], ◌∷◌, ◌++◌, length, Result, Ok, Err, OnOk, refl, sym, ap, subst, ◌∙◌}
use Rattle.std.specs.List.{All}
use Rattle.std.proofs.lemmas.List.{append-nil}
use Rattle.std.proofs.lemmas.List.Elements.{recursion_from_All}
use Rattle.il_base.specs.blob_grammar.Laws.{AreBytes}
use Rattle.il_base.specs.blob_grammar.Reading.{whole}
use Rattle.il_base.proofs.lemmas.blob_grammar.Whole.{reads_law}
use Rattle.attr_blobs.specs.declared.kind.ParamKind.{ParamKind}
use Rattle.attr_blobs.specs.declared.value.AttrValue.{AttrValue}
use Rattle.attr_blobs.specs.declared.value.EnumSize.{EnumSize}
use Rattle.attr_blobs.specs.Texts.{Read, ◌>>=◌}
use Rattle.attr_blobs.specs.Values.{levels, value_at, ended, whole_at, placed, value_of_blob}
use Rattle.attr_blobs.specs.Grammar.{IsAttribute, HasValues}
use Rattle.attr_blobs.specs.Writing.{attribute_bytes}
use Rattle.attr_blobs.specs.declared.error.AttrError.{AttrError}
use Rattle.attr_blobs.specs.declared.error.AttrError.TheVariants as attr_error
use Rattle.attr_blobs.specs.Answers.{Answers, Follows, Spells}
use Rattle.attr_blobs.specs.Laws.{Refuses, ReadsValues, RefusesValues, WritesValues, ReadAgain}
use Rattle.attr_blobs.proofs.Told.{told, tell, bind_ok, bind_is}
use Rattle.attr_blobs.proofs.ValueLaw.{value_law, value_found}
use Rattle.attr_blobs.proofs.Spelled.{value_again, value_written}

-- the place of a fault, as it is told and as it is
record Place (size : ℕ) (bs : List ℕ) (m : Read (AttrValue × List ℕ)) (at : ℕ) : Type 0 where
  place : ℕ
  is_told : at ≡ min place 4294967295
  is_place : whole size (told m) ≡ Err (place, 5)

abbrev refused : ℕ → Result AttrValue ℕ
refused at = Err at

same_place : (m n : ℕ) → refused m ≡ refused n → m ≡ n
same_place m n e = cc

place_of : (size : ℕ) (bs : List ℕ) (m : Read (AttrValue × List ℕ)) (at : ℕ) → placed size (m >>= λ x. ended x) ≡ Err at → Place size bs m at
place_of size bs (Err left) at e = record { place = size - left; is_told = sym (same_place (min (size - left) 4294967295) at e); is_place = refl }
place_of size bs (Ok (x, [])) at e = absurd cc
place_of size bs (Ok (x, b ∷ rest)) at e =
    record { place = size - suc (length rest); is_told = sym (same_place (min (size - suc (length rest)) 4294967295) at e); is_place = refl }

placed_ok : (size : ℕ) (r : Read AttrValue) (v : AttrValue) → placed size r ≡ Ok v → r ≡ Ok v
placed_ok size (Ok x) v e = e
placed_ok size (Err left) v e = absurd cc

abbrev done : AttrValue → Read AttrValue
done x = Ok x

same_value : (x y : AttrValue) → done x ≡ done y → x ≡ y
same_value x y e = cc

all_read : (p : AttrValue × List ℕ) (v : AttrValue) → ended p ≡ Ok v → (p.0 ≡ v) × (p.1 ≡ [])
all_read (x, []) v e = (same_value x v e, refl)
all_read (x, b ∷ bs) v e = absurd cc

module _ (enums : List EnumSize) (kinds : List ParamKind) where
  found : (bs : List ℕ) (x : AttrValue) → AreBytes bs → value_of_blob enums kinds bs ≡ Ok x → IsAttribute enums kinds x bs
  found bs x fits e =
      let a = bind_ok (value_at enums kinds bs) (λ y. ended y) x (placed_ok (length bs) (whole_at enums kinds bs) x e) in
      let d = all_read a.0 x a.2 in
      let f = value_found enums kinds bs a.0.0 a.0.1 fits a.1 in
      let same : f.front ≡ bs = sym (append-nil f.front) ∙ ap (λ (l : List ℕ). f.front ++ l) (sym d.1) ∙ sym f.parts in
      subst (λ (y : AttrValue). IsAttribute enums kinds y bs) d.0 (subst (λ (l : List ℕ). IsAttribute enums kinds a.0.0 l) same f.spelled)

  only : (bs : List ℕ) (x : AttrValue) → IsAttribute enums kinds x bs → value_of_blob enums kinds bs ≡ Ok x
  only bs x h =
      let all : value_at enums kinds bs ≡ Ok (x, []) = ap (value_at enums kinds) (sym (append-nil bs)) ∙ value_again enums kinds x bs h [] in
      ap (placed (length bs)) (bind_is (value_at enums kinds bs) (λ y. ended y) (x, []) (Ok x) all refl)

  again : (x : AttrValue) (bs : List ℕ) → IsAttribute enums kinds x bs → (rest : List ℕ) → told (value_at enums kinds (bs ++ rest)) ≡ Ok (x, rest)
  again x bs h rest = ap told (value_again enums kinds x bs h rest)

  refuses : All (HasValues levels) kinds → Refuses (IsAttribute enums kinds) (value_of_blob enums kinds)
  refuses valued bs at fits e =
      let p = place_of (length bs) bs (value_at enums kinds bs) at e in
      let law = value_law enums kinds (recursion_from_All (HasValues levels) kinds valued) in
      record { at = p.place; is_told = p.is_told; is_first = (reads_law (tell (value_at enums kinds)) (IsAttribute enums kinds) law again).refused bs p.place 5 fits p.is_place }

pub reads_values : ReadsValues
reads_values enums kinds = record { found = found enums kinds; only = only enums kinds }

pub refuses_values : RefusesValues
refuses_values enums kinds valued = refuses enums kinds valued

pub writes_values : WritesValues
writes_values enums kinds = record {
  spelled = λ x h. value_written enums kinds x h.0 h.1;
  again = λ x h. only enums kinds (attribute_bytes kinds x) x (value_written enums kinds x h.0 h.1);
}

pub read_again : ReadAgain
read_again enums kinds bytes value fits e = only enums kinds (attribute_bytes kinds value) value (value_written enums kinds value bytes (found enums kinds bytes value fits e))

-- what a call answers
pub follows : (enums : List EnumSize) (kinds : List ParamKind) (bytes : List ℕ) (result : Result AttrValue AttrError) → AreBytes bytes → Answers result (value_of_blob enums kinds bytes) → Follows result enums kinds bytes
follows enums kinds bytes (Ok x) fits e = found enums kinds bytes x fits e
follows enums kinds bytes (Err attr_error.NoMemory) fits e = tt
follows enums kinds bytes (Err (attr_error.Bad at)) fits e = (λ x h. let r = only enums kinds bytes x h in cc, λ valued. refuses enums kinds valued bytes at fits e)

pub writes : {E : Type 0} (kinds : List ParamKind) (x : AttrValue) (old new : List ℕ) (result : Result Unit E) → OnOk result (new ≡ old ++ attribute_bytes kinds x) → OnOk result (Spells kinds x old new)
writes kinds x old new (Ok u) e = λ enums h. (attribute_bytes kinds x, e, value_written enums kinds x h.0 h.1)
writes kinds x old new (Err d) e = e
