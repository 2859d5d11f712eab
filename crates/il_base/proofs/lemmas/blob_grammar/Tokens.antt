-- Reading a token keeps to the spellings of tokens.
use Rattle.std.proofs.Common.{◌≡◌, ℕ, zero, suc, ◌+◌, ◌*◌, ◌/◌, ◌%◌, ◌<◌, ◌≤◌, inl, inr, List, [], ◌∷◌, ◌++◌, length, Ok, Err, refl, sym, ap, subst, ◌∙◌, arith}
use Rattle.std.proofs.lemmas.Bool.{cases_lt, lt-ltb, le-ltb, eq-eqb, ne_eqb}
use Rattle.std.proofs.lemmas.List.{append-nil}
use Rattle.il_base.specs.blob_grammar.Numbers.{IsNumber, one, two, four, shortest}
use Rattle.il_base.specs.blob_grammar.Tokens.{IsToken, coded, table_of, tag_of, token_bytes}
use Rattle.il_base.specs.blob_grammar.Reading.{number_at, token_at, tagged}
use Rattle.il_base.proofs.lemmas.blob_grammar.Law.{IsBytes, IsBytes-tail, Takes, Refuses, Law, Inhabited, ok_is}
use Rattle.il_base.proofs.lemmas.blob_grammar.Numbers.{Front, nothing, short, middle, middle_cut, long, long_cut, other, front_of, at_short, at_middle, at_middle_cut, at_long, at_long_cut, filled, refused, is_shortest}

-- ---- what reading gives

pub at_early : (b : ℕ) (bs : List ℕ) → 196 ≤ b → token_at (b ∷ bs) ≡ Err (suc (length bs), 5)
unfolding token_at
at_early b bs le = rw (le-ltb b 196 le) refl

at_number : (b : ℕ) (bs : List ℕ) (n : ℕ) (rest : List ℕ) → b < 196 → number_at (b ∷ bs) ≡ Ok (n, rest) → token_at (b ∷ bs) ≡ tagged n rest
unfolding token_at
at_number b bs n rest lt e = rw (lt-ltb b 196 lt, e) refl

at_cut : (b : ℕ) (bs : List ℕ) → b < 196 → number_at (b ∷ bs) ≡ Err (0, 5) → token_at (b ∷ bs) ≡ Err (0, 5)
unfolding token_at
at_cut b bs lt e = rw (lt-ltb b 196 lt, e) refl

at_nothing : token_at [] ≡ Err (0, 5)
unfolding token_at
at_nothing = refl

-- a number below 2 ^ 26, in any of its forms
pub token_of_number : (n : ℕ) (bs : List ℕ) → IsNumber n bs → n < 67108864 → (rest : List ℕ) → token_at (bs ++ rest) ≡ tagged n rest
token_of_number _ _ (one b lt) small rest = at_number b rest b rest (omega arith) (at_short b rest lt)
token_of_number _ _ (two h c lt k) small rest = at_number (128 + h) (c ∷ rest) (h * 256 + c) rest (omega arith) (at_middle h c rest lt)
token_of_number _ _ (four h c d e lt k l m) small rest = at_number (192 + h) (c ∷ d ∷ e ∷ rest) (h * 16777216 + c * 65536 + d * 256 + e) rest (omega arith) (at_long h c d e rest lt)

tagged_ok : (n : ℕ) (rest : List ℕ) → n % 4 < 3 → tagged n rest ≡ Ok (table_of (n % 4) * 16777216 + n / 4, rest)
tagged_ok n rest lt = let ne : n % 4 ≡ 3 → ⊥ = λ (e : n % 4 ≡ 3). omega arith in rw (ne_eqb (n % 4) 3 ne) refl

tagged_bad : (n : ℕ) (rest : List ℕ) → n % 4 ≡ 3 → tagged n rest ≡ Err (suc (length rest), 5)
tagged_bad n rest e = rw (eq-eqb (n % 4) 3 e) refl

-- what is spelled so is read
pub token_again : (token : ℕ) (bs : List ℕ) → IsToken token bs → (rest : List ℕ) → token_at (bs ++ rest) ≡ Ok (token, rest)
token_again _ _ (coded row tag bs few lt number) rest =
    let n : ℕ = row * 4 + tag in
    let tag_is : n % 4 ≡ tag = omega arith in
    let row_is : n / 4 ≡ row = omega arith in
    token_of_number n bs number (omega arith) rest ∙ tagged_ok n rest (omega arith) ∙ rw (tag_is, row_is) refl

-- ---- the law

-- a number below 2 ^ 26 without the tag 3 is a token
pub is_coded : (n : ℕ) (bs : List ℕ) → IsNumber n bs → n < 67108864 → n % 4 < 3 → IsToken (table_of (n % 4) * 16777216 + n / 4) bs
is_coded n bs number small lt =
    let same : n ≡ n / 4 * 4 + n % 4 = omega arith in
    coded (n / 4) (n % 4) bs (omega arith) lt (subst (λ (m : ℕ). IsNumber m bs) same number)

pub zero_token : IsToken 33554432 (0 ∷ [])
zero_token = coded 0 0 (0 ∷ []) (omega arith) (omega arith) (one 0 (omega arith))

pub token_some : Inhabited IsToken
token_some = record { value = 33554432; bytes = 0 ∷ []; spelled = zero_token }

takes_early : (b : ℕ) (bs : List ℕ) → 196 ≤ b → (t : ℕ) (rest : List ℕ) → token_at (b ∷ bs) ≡ Ok (t, rest) → Takes token_at IsToken (b ∷ bs) t rest
takes_early b bs le t rest e = absurd (let h = at_early b bs le in cc)

takes_number : (bs front others : List ℕ) (n : ℕ) → bs ≡ front ++ others → IsNumber n front → n < 67108864 → (t : ℕ) (rest : List ℕ) → token_at bs ≡ Ok (t, rest) → Takes token_at IsToken bs t rest
takes_number bs front others n parts number small t rest e =
    let given : tagged n others ≡ Ok (t, rest) = sym (token_of_number n front number small others) ∙ ap token_at (sym parts) ∙ e in
    elim (cases_lt (n % 4) 3) [
      | inl lt ↦
          let p = ok_is (table_of (n % 4) * 16777216 + n / 4, others) (t, rest) (sym (tagged_ok n others lt) ∙ given) in
          subst (λ (p : ℕ × List ℕ). Takes token_at IsToken bs p.0 p.1) p
          (record { front = front; parts = parts; spelled = is_coded n front number small lt; again = λ other. token_of_number n front number small other ∙ tagged_ok n other lt })
      | inr le ↦ absurd (let k = tagged_bad n others (omega arith) in cc)
    ]

takes_at : {bs : List ℕ} → Front bs → (t : ℕ) (rest : List ℕ) → IsBytes bs → token_at bs ≡ Ok (t, rest) → Takes token_at IsToken bs t rest
takes_at nothing t rest fits e = absurd (let h = at_nothing in cc)
takes_at (short b bs lt) t rest fits e = takes_number (b ∷ bs) (b ∷ []) bs b refl (one b lt) (omega arith) t rest e
takes_at (middle h c bs lt) t rest fits e =
    let k = fits 1 in
    takes_number ((128 + h) ∷ c ∷ bs) ((128 + h) ∷ c ∷ []) bs (h * 256 + c) refl (two h c lt k) (omega arith) t rest e
takes_at (middle_cut h lt) t rest fits e = absurd (let k = at_cut (128 + h) [] (omega arith) (at_middle_cut h lt) in cc)
takes_at (long h c d x bs lt) t rest fits e =
    elim (cases_lt h 4) [
      | inl small ↦
          let k = fits 1 in let l = fits 2 in let m = fits 3 in
          takes_number ((192 + h) ∷ c ∷ d ∷ x ∷ bs) ((192 + h) ∷ c ∷ d ∷ x ∷ []) bs (h * 16777216 + c * 65536 + d * 256 + x) refl (four h c d x lt k l m) (omega arith) t rest e
      | inr large ↦ takes_early (192 + h) (c ∷ d ∷ x ∷ bs) (omega arith) t rest e
    ]
takes_at (long_cut h bs lt few) t rest fits e =
    elim (cases_lt h 4) [
      | inl small ↦ absurd (let k = at_cut (192 + h) bs (omega arith) (at_long_cut h bs lt few) in cc)
      | inr large ↦ takes_early (192 + h) bs (omega arith) t rest e
    ]
takes_at (other b bs le) t rest fits e = takes_early b bs (omega arith) t rest e

refuses_early : (b : ℕ) (bs : List ℕ) → 196 ≤ b → (left what : ℕ) → token_at (b ∷ bs) ≡ Err (left, what) → Refuses token_at IsToken (b ∷ bs) left what
refuses_early b bs le left what e =
    refused token_at IsToken (b ∷ bs) (suc (length bs)) 5 left what (at_early b bs le) e
    (record { good = []; bad = b ∷ bs; parts = refl; left_is = refl; kind = inl refl; value = 33554432; more = 0 ∷ []; begun = zero_token; stops = λ more. at_early b more le })

refuses_cut : (b : ℕ) (bs : List ℕ) (n : ℕ) (more : List ℕ) → b < 196 → number_at (b ∷ bs) ≡ Err (0, 5) → IsNumber n (b ∷ (bs ++ more)) → n < 67108864 → n % 4 ≡ 0
    → (left what : ℕ) → token_at (b ∷ bs) ≡ Err (left, what) → Refuses token_at IsToken (b ∷ bs) left what
refuses_cut b bs n more lt cut number small tag left what e =
    refused token_at IsToken (b ∷ bs) 0 5 left what (at_cut b bs lt cut) e
    (record { good = b ∷ bs; bad = []; parts = sym (append-nil (b ∷ bs)); left_is = refl; kind = inl refl; value = table_of (n % 4) * 16777216 + n / 4; more = more; begun = is_coded n (b ∷ (bs ++ more)) number small (omega arith); stops = tt })

-- a number with the tag 3, whose last byte is `last`; with a 0 in its place it is a token
refuses_tag : (good : List ℕ) (last : ℕ) (rest : List ℕ) (n m : ℕ) → IsNumber n (good ++ last ∷ []) → n < 67108864 → IsNumber m (good ++ 0 ∷ []) → m < 67108864 → m % 4 ≡ 0
    → ((more : List ℕ) → (good ++ last ∷ []) ++ more ≡ good ++ last ∷ more)
    → (left what : ℕ) → token_at (good ++ last ∷ rest) ≡ Err (left, what) → Refuses token_at IsToken (good ++ last ∷ rest) left what
refuses_tag good last rest n m number small zero_one less tag flat left what e =
    let read : (more : List ℕ) → token_at (good ++ last ∷ more) ≡ tagged n more = λ (more : List ℕ). ap token_at (sym (flat more)) ∙ token_of_number n (good ++ last ∷ []) number small more in
    elim (cases_lt (n % 4) 3) [
      | inl lt ↦ absurd (let h = read rest ∙ tagged_ok n rest lt in cc)
      | inr le ↦
          let three : n % 4 ≡ 3 = omega arith in
          refused token_at IsToken (good ++ last ∷ rest) (suc (length rest)) 5 left what (read rest ∙ tagged_bad n rest three) e
          (record {
            good = good;
            bad = last ∷ rest;
            parts = refl;
            left_is = refl;
            kind = inl refl;
            value = table_of (m % 4) * 16777216 + m / 4;
            more = 0 ∷ [];
            begun = is_coded m (good ++ 0 ∷ []) zero_one less (omega arith);
            stops = λ more. read more ∙ tagged_bad n more three;
          })
    ]

refuses_at : {bs : List ℕ} → Front bs → (left what : ℕ) → IsBytes bs → token_at bs ≡ Err (left, what) → Refuses token_at IsToken bs left what
refuses_at nothing left what fits e =
    refused token_at IsToken [] 0 5 left what at_nothing e
    (record { good = []; bad = []; parts = refl; left_is = refl; kind = inl refl; value = 33554432; more = 0 ∷ []; begun = zero_token; stops = tt })
refuses_at (short b bs lt) left what fits e =
    refuses_tag [] b bs b 0 (one b lt) (omega arith) (one 0 (omega arith)) (omega arith) (omega arith) (λ more. refl) left what e
refuses_at (middle h c bs lt) left what fits e =
    let k = fits 1 in
    refuses_tag ((128 + h) ∷ []) c bs (h * 256 + c) (h * 256 + 0) (two h c lt k) (omega arith) (two h 0 lt (omega arith)) (omega arith) (omega arith) (λ more. refl) left what e
refuses_at (middle_cut h lt) left what fits e =
    refuses_cut (128 + h) [] (h * 256 + 0) (0 ∷ []) (omega arith) (at_middle_cut h lt) (two h 0 lt (omega arith)) (omega arith) (omega arith) left what e
refuses_at (long h c d x bs lt) left what fits e =
    elim (cases_lt h 4) [
      | inl small ↦
          let k = fits 1 in let l = fits 2 in let m = fits 3 in
          refuses_tag ((192 + h) ∷ c ∷ d ∷ []) x bs (h * 16777216 + c * 65536 + d * 256 + x) (h * 16777216 + c * 65536 + d * 256 + 0)
          (four h c d x lt k l m) (omega arith) (four h c d 0 lt k l (omega arith)) (omega arith) (omega arith) (λ more. refl) left what e
      | inr large ↦ refuses_early (192 + h) (c ∷ d ∷ x ∷ bs) (omega arith) left what e
    ]
refuses_at (long_cut h bs lt few) left what fits e =
    elim (cases_lt h 4) [
      | inl small ↦
          let f = filled h bs lt (IsBytes-tail (192 + h) bs fits) few in
          refuses_cut (192 + h) bs f.value f.more (omega arith) (at_long_cut h bs lt few) f.spelled (omega (arith, f.small)) f.no_tag left what e
      | inr large ↦ refuses_early (192 + h) bs (omega arith) left what e
    ]
refuses_at (other b bs le) left what fits e = refuses_early b bs (omega arith) left what e

pub token_law : Law token_at IsToken
token_law = record { takes = λ bs t rest fits e. takes_at (front_of bs) t rest fits e; refuses = λ bs left what fits e. refuses_at (front_of bs) left what fits e }

-- ---- the shortest spelling

tag_back : (tag : ℕ) → tag < 3 → tag_of (table_of tag) ≡ tag
tag_back zero lt = refl
tag_back (suc zero) lt = refl
tag_back (suc (suc zero)) lt = refl
tag_back (suc (suc (suc tag))) lt = absurd (omega arith)

pub token_is_shortest : (token : ℕ) (bs : List ℕ) → IsToken token bs → IsToken token (token_bytes token)
unfolding token_bytes
token_is_shortest _ _ (coded row tag bs few lt number) =
    let token : ℕ = table_of tag * 16777216 + row in
    let row_is : token % 16777216 ≡ row = omega arith in
    let table_is : token / 16777216 ≡ table_of tag = omega arith in
    let back : tag_of (table_of tag) ≡ tag = tag_back tag lt in
    rw (row_is, table_is, back) (coded row tag (shortest (row * 4 + tag)) few lt (is_shortest (row * 4 + tag) (omega arith)))
