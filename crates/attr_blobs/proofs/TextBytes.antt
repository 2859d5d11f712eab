-- Reading the bytes of a text: what is read are characters, and what is refused is the first byte that none allows.
use Rattle.std.proofs.Common.{◌≡◌, ℕ, zero, suc, ◌-◌, ◌≤◌, Bool, true, false, nat_le, ◌==◌, List, [], ◌∷◌, ◌++◌, length, take, drop, Option, Some, None, Ok, Err, refl, sym, ap, subst, ◌∙◌, arith, length-append, eqb-true, if◌then◌else◌}
use Rattle.std.proofs.lemmas.Bool.{cond_both, ne_eqb, leb-true, le-leb, eqb-false}
use Rattle.std.specs.Str.{IsUtf8, all_scalars, encode_utf8_all}
use Rattle.std.proofs.lemmas.Str.{IsUtf8-nil, IsUtf8-encode, IsUtf8-append}
use Rattle.std.specs.Char.{encode_utf8}
use Rattle.attr_blobs.specs.declared.text.Expect.{Expect}
use Rattle.attr_blobs.specs.Texts.{Read, go_on, between, expect, within_text, behind_first, expected, behind_text}
use Rattle.attr_blobs.proofs.Utf8.{IsTail, Lead, one, both_true, is_lead, lead_first, just_is, lead_some, spells, begun, within, inside}

-- what is open where so many bytes are left
pub record IsOpen (e : Expect) (n : ℕ) : Type 0 where
  pub fits : e.more ≤ n
  pub some : e.low ≤ e.high

-- a character that is open is ended, and characters follow
pub record Ends (e : Expect) (bs : List ℕ) : Type 0 where
  pub tail : List ℕ
  pub rest : List ℕ
  pub parts : bs ≡ tail ++ rest
  pub is_tail : IsTail e.more e.low e.high tail
  pub is_text : IsUtf8 rest

-- one byte, by what is expected after it
data Step (e : Expect) (n b : ℕ) : Option Expect → Type 0 where
  begins : (next : Expect) → e.more ≡ 0 → Lead b next → next.more ≤ n → Step e n b (Some next)
  goes : (more : ℕ) → e.more ≡ suc more → e.low ≤ b → b ≤ e.high → Step e n b (Some (expect more 128 191))
  fails : Step e n b None

first_step : (e : Expect) (n b : ℕ) → e.more ≡ 0 → (o : Option Expect) → behind_first b ≡ o → Step e n b (within_text n o)
first_step e n b z None h = fails
first_step e n b z (Some next) h =
    let G : Bool → Type 0 = λ t. nat_le next.more n ≡ t → Step e n b (if t then Some next else None) in
    (elim (nat_le next.more n) as G [ true ↦ λ k. begins next z (is_lead b next h) (leb-true next.more n k) | false ↦ λ k. fails ]) refl

next_step : (e : Expect) (n b more : ℕ) → e.more ≡ suc more → Step e n b (if between e.low e.high b then Some (expect (e.more - 1) 128 191) else None)
next_step e n b more z =
    let G : Bool → Type 0 = λ t. between e.low e.high b ≡ t → Step e n b (if t then Some (expect (e.more - 1) 128 191) else None) in
    let less : e.more - 1 ≡ more = omega arith in
    (elim (between e.low e.high b) as G [ true ↦ λ k. let w = within e.low e.high b k in rw less (goes more z w.0 w.1) | false ↦ λ k. fails ]) refl

step : (e : Expect) (n b : ℕ) → Step e n b (expected e n b)
step e n b =
    cond_both (e.more == 0) (within_text n (behind_first b)) (if between e.low e.high b then Some (expect (e.more - 1) 128 191) else None) (Step e n b)
    (λ h. first_step e n b (eqb-true e.more 0 h) (behind_first b) refl)
    (λ h. let not = eqb-false e.more 0 h in next_step e n b (e.more - 1) (omega (arith, not)))

-- ---- bytes that are read

-- the bytes after a text were found
pub record Passed (n : ℕ) (e : Expect) (bs rest : List ℕ) : Type 0 where
  pub behind : rest ≡ drop n bs
  pub long : length (take n bs) ≡ n
  pub again : (tail : List ℕ) → behind_text n e (take n bs ++ tail) ≡ Ok tail
  pub ends : Ends e (take n bs)

abbrev went : List ℕ → Read (List ℕ)
went x = Ok x

same_rest : (x y : List ℕ) → went x ≡ went y → x ≡ y
same_rest x y e = cc

ends_none : (e : Expect) → IsOpen e 0 → Ends e []
ends_none e open_ =
    let z : e.more ≡ 0 = omega arith in
    record { tail = []; rest = []; parts = refl; is_tail = subst (λ (m : ℕ). IsTail m e.low e.high []) (sym z) tt; is_text = IsUtf8-nil }

-- a byte that begins a character, before the rest of it
ends_first : (e next : Expect) (b : ℕ) (bs : List ℕ) → e.more ≡ 0 → Lead b next → Ends next bs → Ends e (b ∷ bs)
ends_first e next b bs z lead h =
    let c = spells b next lead h.tail h.is_tail in
    let whole : encode_utf8 c.0 ++ h.rest ≡ b ∷ bs = ap (λ (l : List ℕ). l ++ h.rest) c.2 ∙ ap (λ (l : List ℕ). b ∷ l) (sym h.parts) in
    record {
      tail = [];
      rest = b ∷ bs;
      parts = refl;
      is_tail = subst (λ (m : ℕ). IsTail m e.low e.high []) (sym z) tt;
      is_text = subst IsUtf8 whole (IsUtf8-append (encode_utf8 c.0) h.rest (IsUtf8-encode c.0 c.1) h.is_text);
    }

-- a byte inside a character
ends_next : (e : Expect) (more b : ℕ) (bs : List ℕ) → e.more ≡ suc more → e.low ≤ b → b ≤ e.high → Ends (expect more 128 191) bs → Ends e (b ∷ bs)
ends_next e more b bs z low high h = record {
  tail = b ∷ h.tail;
  rest = h.rest;
  parts = ap (λ (l : List ℕ). b ∷ l) h.parts;
  is_tail = subst (λ (m : ℕ). IsTail m e.low e.high (b ∷ h.tail)) (sym z) (low, high, h.is_tail);
  is_text = h.is_text;
}

lead_open : (b n : ℕ) (e : Expect) → Lead b e → e.more ≤ n → IsOpen e n
lead_open b n e lead fits = record { fits = fits; some = lead_some b e lead }

tail_open : (e : Expect) (more n : ℕ) → e.more ≡ suc more → IsOpen e (suc n) → IsOpen (expect more 128 191) n
tail_open e more n z h = let k = h.fits in record { fits = omega arith; some = omega arith }

ends_step : (e : Expect) (n b : ℕ) (bs : List ℕ) (o : Option Expect) → Step e n b o → (next : Expect) → o ≡ Some next → Ends next bs → Ends e (b ∷ bs)
ends_step e n b bs _ (begins n' z lead fits) next h k = ends_first e n' b bs z lead (subst (λ (x : Expect). Ends x bs) (just_is next n' (sym h)) k)
ends_step e n b bs _ (goes more z low high) next h k = ends_next e more b bs z low high (subst (λ (x : Expect). Ends x bs) (just_is next (expect more 128 191) (sym h)) k)
ends_step e n b bs _ fails next h k = absurd cc

step_open : (e : Expect) (n b : ℕ) (o : Option Expect) → Step e n b o → IsOpen e (suc n) → (next : Expect) → o ≡ Some next → IsOpen next n
step_open e n b _ (begins n' z lead fits) open_ next h = subst (λ (x : Expect). IsOpen x n) (just_is n' next h) (lead_open b n n' lead fits)
step_open e n b _ (goes more z low high) open_ next h = subst (λ (x : Expect). IsOpen x n) (just_is (expect more 128 191) next h) (tail_open e more n z open_)
step_open e n b _ fails open_ next h = absurd cc

pub passed : (n : ℕ) (e : Expect) (bs rest : List ℕ) → IsOpen e n → behind_text n e bs ≡ Ok rest → Passed n e bs rest
unfolding behind_text
passed zero e bs rest open_ h = record { behind = sym (same_rest bs rest h); long = refl; again = λ tail. refl; ends = ends_none e open_ }
passed (suc n) e [] rest open_ h = absurd cc
passed (suc n) e (b ∷ bs) rest open_ h =
    let G : Option Expect → Type 0 = λ o. expected e n b ≡ o → go_on (b ∷ bs) (λ next. behind_text n next bs) o ≡ Ok rest → Passed (suc n) e (b ∷ bs) rest in
    (elim (expected e n b) as G [
      | None ↦ λ x k. absurd cc
      | Some next ↦ λ x k.
          let p = passed n next bs rest (step_open e n b (expected e n b) (step e n b) open_ next x) k in
          record {
            behind = p.behind;
            long = ap suc p.long;
            again = λ tail. rw x (p.again tail);
            ends = ends_step e n b (take n bs) (expected e n b) (step e n b) next x p.ends;
          }
    ]) refl h

-- ---- bytes that are refused

-- so many bytes that end what is open
pub record Filling (e : Expect) (n : ℕ) : Type 0 where
  pub bytes : List ℕ
  pub long : length bytes ≡ n
  pub ends : Ends e bytes

pub fill : (n more low high : ℕ) → more ≤ n → low ≤ high → Filling (expect more low high) n
fill zero zero low high h k = record { bytes = []; long = refl; ends = ends_none (expect 0 low high) (record { fits = h; some = k }) }
fill zero (suc more) low high h k = absurd (omega arith)
fill (suc n) zero low high h k =
    let f = fill n zero 128 191 (omega arith) (omega arith) in
    record { bytes = 0 ∷ f.bytes; long = ap suc f.long; ends = ends_first (expect 0 low high) (expect 0 128 191) 0 f.bytes refl (one 0 (omega arith)) f.ends }
fill (suc n) (suc more) low high h k =
    let f = fill n more 128 191 (omega arith) (omega arith) in
    record { bytes = low ∷ f.bytes; long = ap suc f.long; ends = ends_next (expect (suc more) low high) more low f.bytes refl (omega arith) k f.ends }

abbrev pub StopsThere : ℕ → Expect → List ℕ → List ℕ → Type 0
StopsThere n e good [] = Unit {0}
StopsThere n e good (b ∷ _) = (others : List ℕ) → behind_text n e (good ++ b ∷ others) ≡ Err (suc (length others))

pub record Stuck (n : ℕ) (e : Expect) (bs : List ℕ) (left : ℕ) : Type 0 where
  pub good : List ℕ
  pub bad : List ℕ
  pub more : List ℕ
  pub parts : bs ≡ good ++ bad
  pub left_is : length bad ≡ left
  pub long : length (good ++ more) ≡ n
  pub ends : Ends e (good ++ more)
  pub stops : StopsThere n e good bad

stops_next : (n : ℕ) (e next : Expect) (b : ℕ) (good bad : List ℕ) → expected e n b ≡ Some next → StopsThere n next good bad → StopsThere (suc n) e (b ∷ good) bad
unfolding behind_text
stops_next n e next b good [] x h = tt
stops_next n e next b good (c ∷ bad) x h = λ others. rw x (h others)

abbrev pub lost : ℕ → Read (List ℕ)
lost left = Err left

same_left : (m n : ℕ) → lost m ≡ lost n → m ≡ n
same_left m n e = cc

pub stuck : (n : ℕ) (e : Expect) (bs : List ℕ) (left : ℕ) → IsOpen e n → behind_text n e bs ≡ Err left → Stuck n e bs left
unfolding behind_text
stuck zero e bs left open_ h = absurd cc
stuck (suc n) e [] left open_ h =
    let f = fill (suc n) e.more e.low e.high open_.fits open_.some in
    record { good = []; bad = []; more = f.bytes; parts = refl; left_is = same_left 0 left h; long = f.long; ends = f.ends; stops = tt }
stuck (suc n) e (b ∷ bs) left open_ h =
    let G : Option Expect → Type 0 = λ o. expected e n b ≡ o → go_on (b ∷ bs) (λ next. behind_text n next bs) o ≡ Err left → Stuck (suc n) e (b ∷ bs) left in
    (elim (expected e n b) as G [
      | None ↦ λ x k.
          let f = fill (suc n) e.more e.low e.high open_.fits open_.some in
          record { good = []; bad = b ∷ bs; more = f.bytes; parts = refl; left_is = same_left (suc (length bs)) left k; long = f.long; ends = f.ends; stops = λ others. rw x refl }
      | Some next ↦ λ x k.
          let p = stuck n next bs left (step_open e n b (expected e n b) (step e n b) open_ next x) k in
          record {
            good = b ∷ p.good;
            bad = p.bad;
            more = p.more;
            parts = ap (λ (l : List ℕ). b ∷ l) p.parts;
            left_is = p.left_is;
            long = ap suc p.long;
            ends = ends_step e n b (p.good ++ p.more) (expected e n b) (step e n b) next x p.ends;
            stops = stops_next n e next b p.good p.bad x p.stops;
          }
    ]) refl h

-- ---- characters are read

abbrev pub start : Expect
start = expect 0 128 191

any_start : (n low high : ℕ) (bs : List ℕ) → behind_text n (expect 0 low high) bs ≡ behind_text n start bs
unfolding behind_text
any_start zero low high bs = refl
any_start (suc n) low high [] = refl
any_start (suc n) low high (b ∷ bs) = refl

tail_long : (more low high : ℕ) (tail : List ℕ) → IsTail more low high tail → length tail ≡ more
tail_long zero low high [] i = refl
tail_long zero low high (t ∷ ts) i = absurd i
tail_long (suc more) low high [] i = absurd i
tail_long (suc more) low high (t ∷ ts) i = ap suc (tail_long more 128 191 ts i.2)

within_tail : (more low high n t : ℕ) → low ≤ t → t ≤ high → expected (expect (suc more) low high) n t ≡ Some (expect more 128 191)
within_tail more low high n t h k =
    let less : suc more - 1 ≡ more = omega arith in
    let some : suc more ≡ 0 → ⊥ = λ (x : suc more ≡ 0). omega arith in
    rw (ne_eqb (suc more) 0 some, inside low high t h k, less) refl

tail_passes : (more low high : ℕ) (tail ts rest : List ℕ) → IsTail more low high tail → behind_text (length (tail ++ ts)) (expect more low high) ((tail ++ ts) ++ rest) ≡ behind_text (length ts) start (ts ++ rest)
unfolding behind_text
tail_passes zero low high [] ts rest i = any_start (length ts) low high (ts ++ rest)
tail_passes zero low high (t ∷ tail) ts rest i = absurd i
tail_passes (suc more) low high [] ts rest i = absurd i
tail_passes (suc more) low high (t ∷ tail) ts rest i =
    ap (go_on (t ∷ ((tail ++ ts) ++ rest)) (λ next. behind_text (length (tail ++ ts)) next ((tail ++ ts) ++ rest))) (within_tail more low high (length (tail ++ ts)) t i.0 i.1)
    ∙ tail_passes more 128 191 tail ts rest i.2

lead_within : (b n : ℕ) (e : Expect) → Lead b e → e.more ≤ n → expected start n b ≡ Some e
lead_within b n e lead h = rw (lead_first b e lead, le-leb e.more n h) refl

char_passes : (b : ℕ) (e : Expect) (tail ts rest : List ℕ) → Lead b e → IsTail e.more e.low e.high tail
    → behind_text (length (b ∷ (tail ++ ts))) start (b ∷ ((tail ++ ts) ++ rest)) ≡ behind_text (length ts) start (ts ++ rest)
unfolding behind_text
char_passes b e tail ts rest lead i =
    let l : length tail ≡ e.more = tail_long e.more e.low e.high tail i in
    ap (go_on (b ∷ ((tail ++ ts) ++ rest)) (λ next. behind_text (length (tail ++ ts)) next ((tail ++ ts) ++ rest))) (lead_within b (length (tail ++ ts)) e lead (omega (arith, length-append tail ts, l)))
    ∙ tail_passes e.more e.low e.high tail ts rest i

chars_pass : (cs rest : List ℕ) → all_scalars cs ≡ true → behind_text (length (encode_utf8_all cs)) start (encode_utf8_all cs ++ rest) ≡ Ok rest
unfolding behind_text
chars_pass [] rest h = refl
chars_pass (c ∷ cs) rest h =
    let s = both_true _ _ h in
    let d = begun c s.0 in
    let all : List ℕ = encode_utf8_all cs in
    subst (λ (l : List ℕ). behind_text (length (l ++ all)) start ((l ++ all) ++ rest) ≡ Ok rest) (sym d.bytes)
    (char_passes d.byte d.next d.tail all rest d.lead d.is_tail ∙ chars_pass cs rest s.1)

pub text_passes : (t rest : List ℕ) → IsUtf8 t → behind_text (length t) start (t ++ rest) ≡ Ok rest
text_passes t rest h = subst (λ (l : List ℕ). behind_text (length l) start (l ++ rest) ≡ Ok rest) h.1.1 (chars_pass h.0 rest h.1.0)
