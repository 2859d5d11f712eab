-- Reading texts keeps to their spellings.
use Rattle.std.proofs.Common.{◌≡◌, ℕ, suc, inl, Bool, true, false, nat_lt, List, [], ◌∷◌, ◌++◌, length, take, Option, Some, None, Ok, Err, refl, sym, ap, subst, ◌∙◌, arith, append_assoc, if◌then◌else◌}
use Rattle.std.proofs.lemmas.List.{take-append-drop}
use Rattle.std.specs.Str.{IsUtf8}
use Rattle.std.proofs.lemmas.Str.{IsUtf8-nil}
use Rattle.il_base.specs.Bytes.{compressed_at}
use Rattle.il_base.specs.blob_grammar.Numbers.{IsNumber}
use Rattle.il_base.specs.blob_grammar.Reading.{number_by, number_at}
use Rattle.il_base.proofs.lemmas.blob_grammar.Law.{Law, Takes, Refuses, Stops, Inhabited, Then, wider, same_law}
use Rattle.il_base.proofs.lemmas.blob_grammar.Numbers.{number_law, number_again, zero_number, at_other, at_nothing}
use Rattle.attr_blobs.specs.Grammar.{IsText, text}
use Rattle.attr_blobs.proofs.Told.{told, tell, told_ok, told_err, then_told, bind_is, bind_ok, pair_is}
use Rattle.attr_blobs.specs.Texts.{length_by, length_at, text_at, Read, Reader, ◌>>=◌, behind_text}
use Rattle.attr_blobs.proofs.Utf8.{IsTail}
use Rattle.attr_blobs.proofs.TextBytes.{IsOpen, Ends, passed, fill, StopsThere, lost, stuck, start, text_passes}

-- ---- the law

-- the characters of a text of so many bytes
abbrev pub chars_at : ℕ → Reader (List ℕ)
chars_at n bs = behind_text n start bs >>= λ rest. Ok (take n bs, rest)

pub record AreChars (n : ℕ) (t bs : List ℕ) : Type 0 where
  pub same : t ≡ bs
  pub long : length t ≡ n
  pub is_utf8 : IsUtf8 t

start_open : (n : ℕ) → IsOpen start n
start_open n = record { fits = omega arith; some = omega arith }

-- nothing is open at the start
without_tail : (tail rest bs : List ℕ) → IsTail 0 128 191 tail → bs ≡ tail ++ rest → IsUtf8 rest → IsUtf8 bs
without_tail [] rest bs i e h = subst IsUtf8 (sym e) h
without_tail (t ∷ tail) rest bs i e h = absurd i

no_tail : (bs : List ℕ) → Ends start bs → IsUtf8 bs
no_tail bs h = without_tail h.tail h.rest bs h.is_tail h.parts h.is_text

take_exact : (xs ys : List ℕ) → take (length xs) (xs ++ ys) ≡ xs
take_exact [] ys = refl
take_exact (x ∷ xs) ys = ap (λ (v : List ℕ). x ∷ v) (take_exact xs ys)

take_all : (n : ℕ) (xs ys : List ℕ) → length xs ≡ n → take n (xs ++ ys) ≡ xs
take_all n xs ys e = subst (λ (m : ℕ). take m (xs ++ ys) ≡ xs) e (take_exact xs ys)

abbrev gave : List ℕ → List ℕ → Read (List ℕ × List ℕ)
gave t rest = Ok (t, rest)

chars_again : (n : ℕ) (t rest : List ℕ) → length t ≡ n → IsUtf8 t → chars_at n (t ++ rest) ≡ Ok (t, rest)
chars_again n t rest l h =
    let went_on : behind_text n start (t ++ rest) ≡ Ok rest = subst (λ (m : ℕ). behind_text m start (t ++ rest) ≡ Ok rest) l (text_passes t rest h) in
    rw went_on (ap (λ (x : List ℕ). gave x rest) (take_all n t rest l))

chars_takes : (n : ℕ) (bs t rest : List ℕ) → chars_at n bs ≡ Ok (t, rest) → Takes (tell (chars_at n)) (AreChars n) bs t rest
chars_takes n bs t rest e =
    let G : Read (List ℕ) → Type 0 = λ m. behind_text n start bs ≡ m → (m >>= λ rest. gave (take n bs) rest) ≡ Ok (t, rest) → Takes (tell (chars_at n)) (AreChars n) bs t rest in
    (elim (behind_text n start bs) as G [
      | Err left ↦ λ x k. absurd cc
      | Ok after ↦ λ x k.
          let p = passed n start bs after (start_open n) x in
          let utf8 = no_tail (take n bs) p.ends in
          let same : (take n bs, after) ≡ (t, rest) = pair_is (take n bs, after) (t, rest) k in
          subst (λ (v : List ℕ × List ℕ). Takes (tell (chars_at n)) (AreChars n) bs v.0 v.1) same
          (record {
            front = take n bs;
            parts = sym (take-append-drop n bs) ∙ ap (λ (v : List ℕ). take n bs ++ v) (sym p.behind);
            spelled = record { same = refl; long = p.long; is_utf8 = utf8 };
            again = λ other. ap told (chars_again n (take n bs) other p.long utf8);
          })
    ]) refl e

told_stops : (n what : ℕ) (good bad : List ℕ) → what ≡ 5 → StopsThere n start good bad → Stops (tell (chars_at n)) what good bad
told_stops n what good [] w h = tt
told_stops n what good (b ∷ bad) w h = λ more. rw (h more, w) refl

chars_refuses : (n : ℕ) (bs : List ℕ) (left what : ℕ) → told (chars_at n bs) ≡ Err (left, what) → Refuses (tell (chars_at n)) (AreChars n) bs left what
chars_refuses n bs left what e =
    let f = told_err (chars_at n bs) left what e in
    let G : Read (List ℕ) → Type 0 = λ m. behind_text n start bs ≡ m → (m >>= λ rest. gave (take n bs) rest) ≡ Err left → Refuses (tell (chars_at n)) (AreChars n) bs left what in
    (elim (behind_text n start bs) as G [
      | Ok after ↦ λ x k. absurd cc
      | Err l ↦ λ x k.
          let same : l ≡ left = cc in
          let p = stuck n start bs left (start_open n) (x ∙ ap lost same) in
          record {
            good = p.good;
            bad = p.bad;
            parts = p.parts;
            left_is = p.left_is;
            value = p.good ++ p.more;
            more = p.more;
            begun = record { same = refl; long = p.long; is_utf8 = no_tail (p.good ++ p.more) p.ends };
            stops = told_stops n what p.good p.bad f.1 p.stops;
            kind = inl f.1;
          }
    ]) refl f.0

chars_law : (n : ℕ) → Law (tell (chars_at n)) (AreChars n)
chars_law n = record {
  takes = λ bs t rest fits e. chars_takes n bs t rest (told_ok (chars_at n bs) (t, rest) e);
  refuses = λ bs left what fits e. chars_refuses n bs left what e;
}

chars_some : (n : ℕ) → Inhabited (AreChars n)
chars_some n = let f = fill n 0 128 191 (omega arith) (omega arith) in record { value = f.bytes; bytes = f.bytes; spelled = record { same = refl; long = f.long; is_utf8 = no_tail f.bytes f.ends } }

-- ---- a text's length

same_number : (bs : List ℕ) (o : Option (ℕ × ℕ)) → told (length_by bs o) ≡ number_by bs o
same_number bs (Some x) = refl
same_number [] None = refl
same_number (b ∷ bs) None =
    let G : Bool → Type 0 = λ t. told {A = ℕ × List ℕ} (if t then Err 0 else Err (suc (length bs))) ≡ (if t then Err (0, 5) else Err (suc (length bs), 5)) in
    elim (nat_lt b 224) as G [ true ↦ refl | false ↦ refl ]

length_is : (bs : List ℕ) → told (length_at bs) ≡ number_at bs
unfolding length_at number_at
length_is bs = same_number bs (compressed_at bs)

length_law : Law (tell length_at) IsNumber
length_law = same_law (tell length_at) number_at IsNumber length_is number_law

length_again : (n : ℕ) (bs rest : List ℕ) → IsNumber n bs → length_at (bs ++ rest) ≡ Ok (n, rest)
length_again n bs rest h = told_ok (length_at (bs ++ rest)) (n, rest) (length_is (bs ++ rest) ∙ number_again n bs h rest)

-- ---- texts

is_text : (t bs : List ℕ) → Then IsNumber AreChars t bs → IsText t bs
is_text t bs p =
    let c = p.tail in
    let whole : p.front ++ p.back ≡ p.front ++ t = ap (λ (v : List ℕ). p.front ++ v) (sym c.same) in
    subst (λ (v : List ℕ). IsText t v) (sym (p.parts ∙ whole)) (text t p.front c.is_utf8 (subst (λ (n : ℕ). IsNumber n p.front) (sym c.long) p.head))

pub text_law : Law (tell text_at) IsText
unfolding text_at
text_law = wider is_text (then_told length_at IsNumber chars_at AreChars length_law chars_law chars_some)

pub text_again : (t bs : List ℕ) → IsText t bs → (rest : List ℕ) → text_at (bs ++ rest) ≡ Ok (t, rest)
unfolding text_at
text_again _ _ (text t ns h n) rest =
    bind_is (length_at ((ns ++ t) ++ rest)) (λ n. chars_at n.0 n.1) (length t, t ++ rest) (Ok (t, rest))
    (ap length_at (append_assoc ns t rest) ∙ length_again (length t) ns (t ++ rest) n) (chars_again (length t) t rest refl h)

pub text_some : Inhabited IsText
text_some = record { value = []; bytes = 0 ∷ []; spelled = text [] (0 ∷ []) IsUtf8-nil zero_number }

-- no text begins with ff, and none is empty
pub no_high : (bs : List ℕ) (p : List ℕ × List ℕ) → text_at (255 ∷ bs) ≡ Ok p → ⊥
unfolding text_at
no_high bs p e =
    let a = bind_ok (length_at (255 ∷ bs)) (λ n. chars_at n.0 n.1) p e in
    let h = length_is (255 ∷ bs) in
    let g = at_other 255 bs (omega arith) in
    absurd (let f = ap told a.1 in cc)

pub no_text : (p : List ℕ × List ℕ) → text_at [] ≡ Ok p → ⊥
unfolding text_at
no_text p e =
    let a = bind_ok (length_at []) (λ n. chars_at n.0 n.1) p e in
    let h = length_is [] in
    let g = at_nothing in
    absurd (let f = ap told a.1 in cc)
