-- Signatures and bodies that a file has.
use Rattle.std.proofs.Common.{◌≡◌, ◌↔◌, ℕ, ◌-◌, Bool, true, false, cond, List, take, drop, Option, Some, None, Result, Ok, Err, refl, ap, subst}
use Rattle.std.specs.Prelude.{◌==◌}
use Rattle.il_base.specs.declared.body.Body.{Body}
use Rattle.il_base.specs.blob_grammar.Laws.{AreBytes, IsSpelled, Reads}
use Rattle.il_base.specs.declared.body_grammar.body.Fault.{Fault}
use Rattle.il_base.specs.body_grammar.Bodies.{body_at}
use Rattle.il_base.specs.body_grammar.BodySpelling.{HasSpelling}
use Rattle.il_base.proofs.lemmas.body_grammar.ReadNumbers.{bytes-drop, bytes-take, map_some, then_some}
use Rattle.il_base.proofs.lemmas.body_grammar.ReadBodies.{read_spelled}
use Rattle.il_base.specs.cli_format.Image.{image_tail, tail_in, section_of, sections_of, place_in}
use Rattle.il_base.specs.declared.world_model.known.Known.{Known}
use Rattle.il_base.specs.declared.world_model.known.Known.TheVariants.{Good, Bad}
use Rattle.rules.specs.record_format.Parts.{known_of, body_of_reading, body_in, body_by, fault_offset, offset_in, bad_offset}
use Rattle.file_laws.specs.layout_laws.Parts.{IsGood, FitsBody}
use Rattle.file_laws.specs.layout_laws.OfFile.{HasReading}

-- ---- signatures

known_ok : {A : Type 0} (r : Result A (ℕ × ℕ)) (x : A) → known_of r ≡ Good x → r ≡ Ok x
known_ok (Ok y) x e = cc
known_ok (Err f) x e = absurd cc

module _ {A : Type 0} (P : A → Type 0) (grammar : A → List ℕ → Type 0) (read : List ℕ → Result A (ℕ × ℕ)) (law : Reads grammar read) (values : (x : A) → P x ↔ IsSpelled grammar x) where
  known_fits : (b : List ℕ) (x : A) → AreBytes b → known_of (read b) ≡ Good x → P x
  known_fits b x h e = (values x).1 (b, law.found b x h (known_ok (read b) x e))

  by_known : (b : List ℕ) → AreBytes b → (k : Known A) → known_of (read b) ≡ k → IsGood (λ x. Unit {0}) k → IsGood P k
  by_known b h (Good x) e good = known_fits b x h e
  by_known b h (Bad why) e good = absurd good

  -- what a blob gives, where it gives something, fits
  pub good_fits : (b : List ℕ) → AreBytes b → IsGood (λ x. Unit {0}) (known_of (read b)) → IsGood P (known_of (read b))
  good_fits b h good = by_known b h (known_of (read b)) refl good

-- ---- bodies

tail_bytes : (bs : List ℕ) (rva : ℕ) (tail : List ℕ) → AreBytes bs → image_tail bs rva ≡ Some tail → AreBytes tail
unfolding image_tail tail_in
tail_bytes bs rva tail h e =
    let s = then_some (tail_in bs rva) (section_of (sections_of bs) rva) tail e in
    let p = map_some (λ at. take (s.0.raw_size - (rva - s.0.rva)) (drop at bs)) (place_in rva 0 s.0) tail s.2 in
    subst AreBytes p.2 (bytes-take _ _ (bytes-drop p.0 bs h))

reading_good : (r : Result (Body × ℕ) Fault) (b : Body) → body_of_reading r ≡ Good b → (n : ℕ) × (r ≡ Ok (b, n))
reading_good (Ok x) b e = (x.1, let same : x.0 ≡ b = cc in ap (λ (c : Body). Ok (c, x.1)) same)
reading_good (Err f) b e = absurd cc

reading_sound : (tail : List ℕ) (r : Result (Body × ℕ) Fault) (b : Body) → body_of_reading r ≡ Good b → fault_offset tail r ≡ 0
reading_sound tail (Ok x) b e = refl
reading_sound tail (Err f) b e = absurd cc

in_good : (bs : List ℕ) (rva : ℕ) (b : Body) → AreBytes bs → (o : Option (List ℕ)) → image_tail bs rva ≡ o → body_in o ≡ Good b → HasSpelling b
in_good bs rva b h None e f = absurd cc
in_good bs rva b h (Some tail) e f =
    let r = reading_good (body_at tail) b f in
    (read_spelled tail b r.0 (tail_bytes bs rva tail h e) r.1).0.0

in_sound : (b : Body) (o : Option (List ℕ)) → body_in o ≡ Good b → offset_in o ≡ 0
in_sound b None f = absurd cc
in_sound b (Some tail) f = reading_sound tail (body_at tail) b f

by_good : (b : Body) (zero? : Bool) (k : Known Body) → cond zero? None (Some k) ≡ Some (Good b) → (zero? ≡ false) × (k ≡ Good b)
by_good b true k e = absurd cc
by_good b false k e = (refl, cc)

pub body_spelled : (bs : List ℕ) (rva : ℕ) (b : Body) → AreBytes bs → body_by bs rva ≡ Some (Good b) → HasSpelling b
unfolding body_by
body_spelled bs rva b h e = in_good bs rva b h (image_tail bs rva) refl (by_good b (rva == 0) (body_in (image_tail bs rva)) e).1

pub body_sound : (bs : List ℕ) (rva : ℕ) (b : Body) → body_by bs rva ≡ Some (Good b) → bad_offset bs rva ≡ 0
unfolding body_by bad_offset
body_sound bs rva b e =
    let p = by_good b (rva == 0) (body_in (image_tail bs rva)) e in
    rw p.0 (in_sound b (image_tail bs rva) p.1)

-- a body that has a reading, or none

body_of : (bs : List ℕ) (rva : ℕ) → AreBytes bs → (o : Option (Known Body)) → body_by bs rva ≡ o → HasReading o → FitsBody o
body_of bs rva h None e good = tt
body_of bs rva h (Some (Good b)) e good = body_spelled bs rva b h e
body_of bs rva h (Some (Bad why)) e good = absurd good

pub body_fits : (bs : List ℕ) (rva : ℕ) → AreBytes bs → HasReading (body_by bs rva) → FitsBody (body_by bs rva)
body_fits bs rva h good = body_of bs rva h (body_by bs rva) refl good

no_body : (zero? : Bool) (k : Known Body) (n : ℕ) → cond zero? None (Some k) ≡ None → cond zero? 0 n ≡ 0
no_body true k n e = refl
no_body false k n e = absurd cc

none_sound : (bs : List ℕ) (rva : ℕ) → body_by bs rva ≡ None → bad_offset bs rva ≡ 0
unfolding body_by bad_offset
none_sound bs rva e = no_body (rva == 0) (body_in (image_tail bs rva)) (offset_in (image_tail bs rva)) e

sound_of : (bs : List ℕ) (rva : ℕ) (o : Option (Known Body)) → body_by bs rva ≡ o → HasReading o → bad_offset bs rva ≡ 0
sound_of bs rva None e good = none_sound bs rva e
sound_of bs rva (Some (Good b)) e good = body_sound bs rva b e
sound_of bs rva (Some (Bad why)) e good = absurd good

pub sound : (bs : List ℕ) (rva : ℕ) → HasReading (body_by bs rva) → bad_offset bs rva ≡ 0
sound bs rva good = sound_of bs rva (body_by bs rva) refl good
