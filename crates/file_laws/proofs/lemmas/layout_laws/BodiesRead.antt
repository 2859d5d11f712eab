-- Bodies are read again at their addresses.
use Rattle.std.proofs.Common.{◌≡◌, ℕ, zero, suc, ◌+◌, ◌-◌, ◌%◌, ◌^◌, ◌<◌, ◌≤◌, false, List, [], ◌∷◌, ◌++◌, length, Option, Some, None, Ok, refl, sym, ap, ◌∙◌, arith, length-append, append_assoc, append-nil}
use Rattle.std.specs.Prelude.{slice_get, Result, ◌==◌}
use Rattle.std.proofs.lemmas.Bool.{ne_eqb}
use Rattle.std.proofs.lemmas.List.{length-replicate}
use Rattle.std.proofs.lemmas.Option.{same_Some, none-some}
use Rattle.il_base.specs.declared.body.Body.{Body}
use Rattle.il_base.specs.body_grammar.Bodies.{body_at}
use Rattle.il_base.specs.declared.body_grammar.body.Fault.{Fault}
use Rattle.il_base.specs.body_grammar.BodySpelling.{HasSpelling, body_bytes}
use Rattle.il_base.specs.declared.world_model.known.Known.{Known}
use Rattle.il_base.specs.declared.world_model.known.Known.TheVariants.{Good, Bad}
use Rattle.il_base.specs.declared.world_model.members.MethodDefRow.{MethodDefRow}
use Rattle.il_base.specs.declared.world_model.record.AsmRec.{AsmRec}
use Rattle.il_base.specs.cli_format.Image.{image_tail}
use Rattle.rules.specs.file_layout.Bytes.{aligned, padded, zeros}
use Rattle.rules.specs.file_layout.Image.{code_rva}
use Rattle.rules.specs.file_layout.Bodies.{behind, body_behind, code_behind, rva_at, rvas_behind}
use Rattle.rules.specs.record_format.Parts.{body_by, body_in, body_of_reading, bad_offset, offset_in, fault_offset}
use Rattle.file_laws.proofs.lemmas.written_image.Sizes.{aligned4}
use Rattle.file_laws.proofs.lemmas.layout_laws.Within.{Within}
use Rattle.file_laws.proofs.lemmas.layout_laws.Lists.{mapped}
use Rattle.file_laws.proofs.lemmas.layout_laws.Lower.{Lower}
use Rattle.rules.specs.record_layout.Tables.{bodies_of, bodies_code, code_of}
use Rattle.file_laws.specs.layout_laws.Parts.{FitsBody}

pub padded_long : (bs : List ℕ) → length (padded 4 bs) ≡ aligned 4 (length bs)
padded_long bs =
    let room = aligned4 (length bs) in
    omega (arith, length-append bs (zeros (aligned 4 (length bs) - length bs)), length-replicate {A = ℕ} (aligned 4 (length bs) - length bs) 0)

-- ---- where a body stands

-- what stands after some bytes begins with them
behind_extends : (before : List ℕ) (b : Option (Known Body)) → (more : List ℕ) × (behind before b ≡ before ++ more)
unfolding body_behind
behind_extends before None = ([], sym (append-nil before))
behind_extends before (Some (Good b)) = (zeros (aligned 4 (length before) - length before) ++ body_bytes b, append_assoc before (zeros (aligned 4 (length before) - length before)) (body_bytes b))
behind_extends before (Some (Bad why)) = ([], sym (append-nil before))

code_extends : (bodies : List (Option (Known Body))) (before : List ℕ) → (more : List ℕ) × (code_behind before bodies ≡ before ++ more)
unfolding code_behind
code_extends [] before = ([], sym (append-nil before))
code_extends (b ∷ bs) before =
    let first = behind_extends before b in
    let rest = code_extends bs (behind before b) in
    (first.0 ++ rest.0, rest.1 ∙ ap (λ (front : List ℕ). front ++ rest.0) first.1 ∙ append_assoc before first.0 rest.0)

pub record Stands (bodies : List (Option (Known Body))) (start : List ℕ) (k : ℕ) (b : Body) : Type 0 where
  pub before : List ℕ
  pub after : List ℕ
  pub code : code_behind start bodies ≡ padded 4 before ++ (body_bytes b ++ after)
  pub address : slice_get (rvas_behind start bodies) k ≡ Some ((code_rva + aligned 4 (length before)) % 4294967296)

first_stands : (bs : List (Option (Known Body))) (start : List ℕ) (x : Option (Known Body)) (b : Body) → x ≡ Some (Good b) → Stands (x ∷ bs) start 0 b
unfolding code_behind rvas_behind body_behind
first_stands bs start x b e =
    let rest = code_extends bs (body_behind start b) in
    rw e (record { before = start; after = rest.0; code = rest.1 ∙ append_assoc (padded 4 start) (body_bytes b) rest.0; address = refl })

later_stands : (bs : List (Option (Known Body))) (start : List ℕ) (x : Option (Known Body)) (k : ℕ) (b : Body) → Stands bs (behind start x) k b → Stands (x ∷ bs) start (suc k) b
unfolding code_behind rvas_behind
later_stands bs start x k b s = record { before = s.before; after = s.after; code = s.code; address = s.address }

pub body_stands : (bodies : List (Option (Known Body))) (start : List ℕ) (k : ℕ) (b : Body) → slice_get bodies k ≡ Some (Some (Good b)) → Stands bodies start k b
body_stands [] start k b e = absurd (none-some (Some (Good b)) e)
body_stands (x ∷ bs) start zero b e = first_stands bs start x b (same_Some x (Some (Good b)) e)
body_stands (x ∷ bs) start (suc k) b e = later_stands bs start x k b (body_stands bs (behind start x) k b e)

-- ---- what is read there

body_there : (bs tail : List ℕ) (rva : ℕ) (b : Body) (n : ℕ) → 0 < rva → image_tail bs rva ≡ Some tail → body_at tail ≡ Ok (b, n) → body_by bs rva ≡ Some (Good b)
unfolding body_by
body_there bs tail rva b n some e f =
    let test : (rva == 0) ≡ false = ne_eqb rva 0 (λ z. omega (arith, z, some)) in
    rw test (ap Some (ap body_in e ∙ ap (λ (r : Result (Body × ℕ) Fault). body_of_reading r) f))

sound_there : (bs tail : List ℕ) (rva : ℕ) (b : Body) (n : ℕ) → 0 < rva → image_tail bs rva ≡ Some tail → body_at tail ≡ Ok (b, n) → bad_offset bs rva ≡ 0
unfolding bad_offset
sound_there bs tail rva b n some e f =
    let test : (rva == 0) ≡ false = ne_eqb rva 0 (λ z. omega (arith, z, some)) in
    rw test (ap offset_in e ∙ ap (λ (r : Result (Body × ℕ) Fault). fault_offset tail r) f)

-- what is read of a method's address
pub record BodyRead (bs : List ℕ) (row : MethodDefRow) : Type 0 where
  pub body : body_by bs row.rva ≡ row.body
  pub bad : bad_offset bs row.rva ≡ row.bad_at

-- no body at address 0
no_body : (bs : List ℕ) → body_by bs 0 ≡ None
unfolding body_by
no_body bs = refl

no_fault : (bs : List ℕ) → bad_offset bs 0 ≡ 0
unfolding bad_offset
no_fault bs = refl

none_has_none : (bodies : List (Option (Known Body))) (start : List ℕ) (k : ℕ) → slice_get bodies k ≡ Some None → slice_get (rvas_behind start bodies) k ≡ Some 0
unfolding rvas_behind
none_has_none [] start k e = absurd (none-some None e)
none_has_none (x ∷ bs) start zero e = ap (λ (b : Option (Known Body)). Some (rva_at (length start) b)) (same_Some x None e)
none_has_none (x ∷ bs) start (suc k) e = none_has_none bs (behind start x) k e

module _ (lower : Lower) (bs : List ℕ) (rec : AsmRec) (h : Within rec) (more : List ℕ) (whole : code_of rec ≡ bodies_code rec ++ more) (small : length (code_of rec) ≤ 2 ^ 28)
    (code : (before after : List ℕ) → code_of rec ≡ before ++ after → (rest : List ℕ) × (image_tail bs (code_rva + length before) ≡ Some (after ++ rest))) where
  own_rva : (k : ℕ) (row : MethodDefRow) → slice_get rec.method_def k ≡ Some row → slice_get (rvas_behind [] (bodies_of rec)) k ≡ Some row.rva
  own_rva k row e = rw (← h.can.body_rvas) (mapped (λ (m : MethodDefRow). m.rva) rec.method_def k row e)

  read_by : (k : ℕ) (row : MethodDefRow) → slice_get rec.method_def k ≡ Some row → (b : Body) → row.body ≡ Some (Good b) → HasSpelling b → Stands (bodies_of rec) [] k b → BodyRead bs row
  read_by k row e b f spelled s =
      let there : code_of rec ≡ padded 4 s.before ++ (body_bytes b ++ (s.after ++ more)) =
      whole ∙ ap (λ (front : List ℕ). front ++ more) s.code ∙ append_assoc (padded 4 s.before) (body_bytes b ++ s.after) more
      ∙ ap (λ (rest : List ℕ). padded 4 s.before ++ rest) (append_assoc (body_bytes b) s.after more) in
      let found = code (padded 4 s.before) (body_bytes b ++ (s.after ++ more)) there in
      let same : (code_rva + aligned 4 (length s.before)) % 4294967296 ≡ row.rva = same_Some _ _ (sym s.address ∙ own_rva k row e) in
      let long = ap length there ∙ length-append (padded 4 s.before) (body_bytes b ++ (s.after ++ more)) in
      let place : code_rva + length (padded 4 s.before) ≡ row.rva = omega (arith, same, long, small, padded_long s.before) in
      let some : 0 < row.rva = omega (arith, place) in
      let tail : image_tail bs row.rva ≡ Some ((body_bytes b ++ (s.after ++ more)) ++ found.0) = ap (image_tail bs) (sym place) ∙ found.1 in
      let read : body_at ((body_bytes b ++ (s.after ++ more)) ++ found.0) ≡ Ok (b, length (body_bytes b)) =
      ap body_at (append_assoc (body_bytes b) (s.after ++ more) found.0) ∙ lower.bodies b ((s.after ++ more) ++ found.0) spelled in
      record {
        body = body_there bs ((body_bytes b ++ (s.after ++ more)) ++ found.0) row.rva b (length (body_bytes b)) some tail read ∙ sym f;
        bad = sound_there bs ((body_bytes b ++ (s.after ++ more)) ++ found.0) row.rva b (length (body_bytes b)) some tail read ∙ sym (h.can.methods k row e).sound;
      }

  none_read : (k : ℕ) (row : MethodDefRow) → slice_get rec.method_def k ≡ Some row → row.body ≡ None → BodyRead bs row
  none_read k row e f =
      let zero_rva : 0 ≡ row.rva = same_Some 0 row.rva (sym (none_has_none (bodies_of rec) [] k (mapped (λ (m : MethodDefRow). m.body) rec.method_def k row e ∙ ap Some f)) ∙ own_rva k row e) in
      record {
        body = ap (body_by bs) (sym zero_rva) ∙ no_body bs ∙ sym f;
        bad = ap (bad_offset bs) (sym zero_rva) ∙ no_fault bs ∙ sym (h.can.methods k row e).sound;
      }

  by_body : (k : ℕ) (row : MethodDefRow) → slice_get rec.method_def k ≡ Some row → (o : Option (Known Body)) → row.body ≡ o → FitsBody o → BodyRead bs row
  by_body k row e None f fits = none_read k row e f
  by_body k row e (Some (Good b)) f fits =
      read_by k row e b f fits (body_stands (bodies_of rec) [] k b (mapped (λ (m : MethodDefRow). m.body) rec.method_def k row e ∙ ap Some f))
  by_body k row e (Some (Bad why)) f fits = absurd fits

  pub bodies_read : (k : ℕ) (row : MethodDefRow) → slice_get rec.method_def k ≡ Some row → BodyRead bs row
  bodies_read k row e = by_body k row e row.body refl (h.can.methods k row e).body
