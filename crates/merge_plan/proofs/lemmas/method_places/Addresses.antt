-- The addresses of bodies by how many bytes are before them, modulo 2^32.
use Rattle.std.proofs.Common.{◌≡◌, ℕ, ◌+◌, ◌-◌, ◌*◌, ◌/◌, ◌%◌, List, [], ◌∷◌, ◌++◌, length, ◌≤◌, Option, Some, None, refl, sym, ap, ◌∙◌, arith, length-append}
use Rattle.std.proofs.lemmas.List.{length-replicate, append-nil}
use Rattle.il_base.specs.declared.body.Body.{Body}
use Rattle.il_base.specs.body_grammar.BodySpelling.{body_bytes}
use Rattle.il_base.specs.declared.world_model.known.Known.{Known}
use Rattle.il_base.specs.declared.world_model.known.Known.TheVariants.{Good, Bad}
use Rattle.il_base.specs.declared.world_model.members.MethodDefRow.{MethodDefRow}
use Rattle.rules.specs.file_layout.Bytes.{aligned, padded}
use Rattle.rules.specs.file_layout.Bodies.{body_behind, behind, code_behind, rva_at, rvas_behind}
use Rattle.rules.specs.merge_rules.Restricted.{put_rva, with_rvas, bodies_of, placed_methods}
use Rattle.merge_plan.specs.declared.method_places.places.Placed.{Placed}
use Rattle.merge_plan.specs.method_places.Places.{size_behind, rows_from, size_from, ArePlaced}

rva_modulo : (n : ℕ) (b : Option (Known Body)) → rva_at (n % 4294967296) b ≡ rva_at n b
unfolding aligned
rva_modulo n None = refl
rva_modulo n (Some (Good b)) = by_case n
  where
    by_case : (k : ℕ) → (0x2050 + (k % 4294967296 + 3) / 4 * 4) % 4294967296 ≡ (0x2050 + (k + 3) / 4 * 4) % 4294967296
    by_case k = omega arith
rva_modulo n (Some (Bad why)) = refl

size_modulo : (n : ℕ) (b : Option (Known Body)) → size_behind (n % 4294967296) b % 4294967296 ≡ size_behind n b % 4294967296
unfolding aligned
size_modulo n None = omega arith
size_modulo n (Some (Good b)) = by_case n (length (body_bytes b))
  where
    by_case : (k l : ℕ) → ((k % 4294967296 + 3) / 4 * 4 + l) % 4294967296 ≡ ((k + 3) / 4 * 4 + l) % 4294967296
    by_case k l = omega arith
size_modulo n (Some (Bad why)) = omega arith

length_padded : (bs : List ℕ) → length (padded 4 bs) ≡ aligned 4 (length bs)
unfolding aligned
length_padded bs =
    length-append bs _ ∙ ap (λ (n : ℕ). length bs + n) (length-replicate ((length bs + 3) / 4 * 4 - length bs) 0) ∙ reach (length bs)
  where
    reach : (n : ℕ) → n + ((n + 3) / 4 * 4 - n) ≡ (n + 3) / 4 * 4
    reach n = omega arith

length_behind : (before : List ℕ) (b : Option (Known Body)) → length (behind before b) ≡ size_behind (length before) b
unfolding body_behind
length_behind before None = refl
length_behind before (Some (Good b)) = length-append (padded 4 before) (body_bytes b) ∙ ap (λ (n : ℕ). n + length (body_bytes b)) (length_padded before)
length_behind before (Some (Bad why)) = refl

-- with one body more
next : (before : List ℕ) (b : Option (Known Body)) → size_behind (length before % 4294967296) b % 4294967296 ≡ length (behind before b) % 4294967296
next before b = size_modulo (length before) b ∙ ap (λ (n : ℕ). n % 4294967296) (sym (length_behind before b))

rows_behind : (before : List ℕ) (ms : List MethodDefRow) → rows_from (length before % 4294967296) ms ≡ with_rvas (rvas_behind before (bodies_of ms)) ms
unfolding rows_from with_rvas rvas_behind
rows_behind before [] = refl
rows_behind before (m ∷ ms) =
    ap (λ (rva : ℕ). put_rva rva m ∷ rows_from (size_behind (length before % 4294967296) m.body % 4294967296) ms) (rva_modulo (length before) m.body)
    ∙ ap (λ (n : ℕ). put_rva (rva_at (length before) m.body) m ∷ rows_from n ms) (next before m.body)
    ∙ ap (λ (rest : List MethodDefRow). put_rva (rva_at (length before) m.body) m ∷ rest) (rows_behind (behind before m.body) ms)

size_is : (before : List ℕ) (ms : List MethodDefRow) → size_from (length before % 4294967296) ms ≡ length (code_behind before (bodies_of ms)) % 4294967296
unfolding size_from code_behind
size_is before [] = refl
size_is before (m ∷ ms) = ap (λ (n : ℕ). size_from n ms) (next before m.body) ∙ size_is (behind before m.body) ms

bodies_same : (before : List ℕ) (ms : List MethodDefRow) → bodies_of (with_rvas (rvas_behind before (bodies_of ms)) ms) ≡ bodies_of ms
unfolding with_rvas rvas_behind
bodies_same before [] = refl
bodies_same before (m ∷ ms) = ap (λ (bs : List (Option (Known Body))). m.body ∷ bs) (bodies_same (behind before m.body) ms)

-- at the end of the loop over the rows
pub none_left : (ms : List MethodDefRow) → length ms ≤ 0 → ms ≡ []
none_left [] le = refl
none_left (m ∷ ms) le = absurd (omega arith)

pub all_placed : (ms rest : List MethodDefRow) (p : Placed) → rest ≡ [] → p.rows ++ rows_from p.size rest ≡ rows_from 0 ms → size_from p.size rest ≡ size_from 0 ms → ArePlaced ms p
unfolding rows_from size_from
all_placed ms rest p none rows size =
    let whole : p.rows ≡ placed_methods ms = sym (append-nil p.rows) ∙ ap (λ (r : List MethodDefRow). p.rows ++ rows_from p.size r) (sym none) ∙ rows ∙ rows_behind [] ms in
    record {
      rows = whole;
      size = ap (size_from p.size) (sym none) ∙ size ∙ size_is [] ms
          ∙ ap (λ (bs : List (Option (Known Body))). length (code_behind [] bs) % 4294967296) (sym (ap bodies_of whole ∙ bodies_same [] ms));
    }
